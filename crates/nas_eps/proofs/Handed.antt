-- What a message that is opened leaves, and one that is taken as none.
use mathlib.Core.Path.{◌≡◌, refl, ◌∙◌}
use mathlib.Core.List.{List}
use Prim.Native.Nat.{ℕ, ◌-◌}
use lib.ListN.{length, drop, length-drop}
use Rattle.std.specs.Prelude.{Err}
use Rattle.refusals.specs.Numbers.{number_of}
use Rattle.count.specs.Rule.{refusal_of}
use Rattle.count.specs.declared.Missed.{Missed}
use Rattle.count.specs.declared.Missed.TheVariants.{NoCandidate, WrongCode}
use Rattle.nas_core.specs.declared.Core.{Core}
use Rattle.nas_core.specs.Types.{ciphers}
use Rattle.nas_core.specs.Keyed.{payload}
use Rattle.nas_core.specs.Verify.{verify_of}
use Rattle.nas_core.proofs.Keys.{payload-length}
use Rattle.nas_eps.specs.declared.Context.{Context}
use Rattle.nas_eps.specs.OpenAnswer.{OpenAnswer, Refused, Accepted}
use Rattle.nas_eps.specs.Places.{record_at}
use Rattle.nas_eps.specs.Leaves.{leaves, over}
use Rattle.nas_eps.specs.Octets.{bearer, type_of}
use Rattle.nas_eps.specs.Open.{handed, opened}

-- the plaintext is written, and the COUNT used that it is read under
pub accepted : (x : Core) (d c f f' : ℕ) (next next' : Context) (m out o : List ℕ) → f ≡ f' → next ≡ next'
    → o ≡ over (payload x (ciphers (type_of m)) c 0 d (drop 6 m)) out
    → leaves (Accepted c f (length m - 6) (type_of m)) next o ≡ handed (type_of m) (payload x (ciphers (type_of m)) c 0 d (drop 6 m)) out c f' next'
unfolding handed
accepted x d c f f' next next' m out o far uses y =
    let many = payload-length x c 0 d (drop 6 m) (ciphers (type_of m)) ∙ length-drop 6 m in simp (far, uses, y, many)

-- a message that is taken as none
pub missed : (x : Context) (d : ℕ) (m out o : List ℕ) (a : OpenAnswer) (next : Context) (e : Missed)
    → verify_of x.core (record_at x d) bearer d 1 m ≡ Err e → a ≡ Refused (number_of (refusal_of e)) → next ≡ x → o ≡ out
    → leaves a next o ≡ opened x d m out
unfolding opened
missed x d m out o a next NoCandidate v r n y = rw (v, r, n, y) refl
missed x d m out o a next WrongCode v r n y = rw (v, r, n, y) refl
