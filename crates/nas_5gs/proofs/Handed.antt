-- The plaintext and what is inside it: what is answered and handed over, by the look and by the container's message.
use mathlib.Core.Path.{◌≡◌, refl, ap, sym, ◌∙◌}
use mathlib.Core.Bool.{Bool, true, false, cond}
use mathlib.Core.List.{List, []}
use Prim.Native.Nat.{ℕ, ◌-◌}
use native.Mathlib.Omega.{arith}
use lib.ListN.{length, take, drop, length-drop}
use lib.Seq.{take_at}
use borrow.Author.Tests.{ne_eqb, eqb-false}
use Rattle.look.specs.Look.{look_of}
use Rattle.nas_core.specs.declared.Core.{Core}
use Rattle.nas_core.specs.Keyed.{payload}
use Rattle.nas_core.proofs.Keys.{payload-length}
use Rattle.initial.specs.Inside.{Hidden, refused, handed as hidden, is_asked, hidden_of}
use Rattle.initial.proofs.Laws.{laws}
use Rattle.envelope.specs.Initial.{beside_of, beside, told}
use Rattle.envelope.proofs.Insides.{asked_is}
use Rattle.nas_5gs.specs.declared.Context.{Context}
use Rattle.nas_5gs.specs.OpenAnswer.{OpenAnswer, Refused, Accepted, Content, told_open}
use Rattle.nas_5gs.specs.EpsOpenAnswer.{EpsOpenAnswer}
use Rattle.nas_5gs.specs.EpsOpenAnswer as eps
use Rattle.std.specs.Prelude.{Result, Ok, Err, IsErrAnd}
use Rattle.refusals.proofs.Laws.{number-not0}
use Rattle.refusals.specs.Numbers.{number_of, refused as numbered}
use Rattle.refusals.specs.declared.Refusal.{Refusal}
use Rattle.count.specs.Rule.{refusal_of}
use Rattle.count.specs.declared.Missed.{Missed}
use Rattle.count.specs.declared.Missed.TheVariants.{NoCandidate, WrongCode}
use Rattle.nas_core.specs.Verify.{verify_of}
use Rattle.nas_5gs.specs.Places.{record_at}
use Rattle.nas_5gs.specs.Leaves.{leaves, leaves_two, over}
use Rattle.nas_5gs.specs.Envelope.{ciphers}
use Rattle.nas_5gs.specs.Open.{inside_number, open_answer, handed, opened}
use Rattle.envelope.specs.Eps.{not_eps, eps_bearer, eps_direction}
use Rattle.nas_5gs.specs.Eps.{eps_place, eps_answer, eps_handed, eps_opened}

-- what is asked for passes the look
pub asked-looks : (t d : ℕ) (p : List ℕ) → is_asked t d p ≡ true → look_of t d p ≡ 0
asked-looks t d p e = let a = asked_is t d p e in rw (a.0, a.1) ((laws.inside (λ l. l) p).looks a.2)

-- so where the look refuses, there is nothing inside
pub nothing : (x : Core) (t c b d : ℕ) (p : List ℕ) → (look_of t d p ≡ 0 → ⊥) → beside_of x t c b d p ≡ hidden []
unfolding beside_of hidden_of
nothing x t c b d p n = go (is_asked t d p) _ refl
  where
    go : (a : Bool) (h : Hidden) → is_asked t d p ≡ a → cond a h (hidden []) ≡ hidden []
    go true h e = absurd (n (asked-looks t d p e))
    go false h e = refl

-- the number inside, where the look refuses, where it passes and the container does not, and where both pass
pub looked : (look n : ℕ) (h : Hidden) → n ≡ look → (n ≡ 0 → ⊥) → n ≡ inside_number look h
unfolding inside_number
looked look n h e z = simp (sym e, ne_eqb _ _ z)

pub hid : (look : ℕ) (r : Result ℕ Refusal) (h : Hidden) → 0 ≡ look → r ≡ told h → numbered r ≡ inside_number look h
unfolding inside_number
hid look r refused e q = simp (sym e, q)
hid look r (hidden l) e q = simp (sym e, q)

pub hid-length : (h : Hidden) (n : ℕ) → told h ≡ Ok n → n ≡ length (beside h)
hid-length refused n e = absurd (let z : ◌≡◌ {A = ℕ} 0 1 = cc in omega arith)
hid-length (hidden q) n e = let l : n ≡ length q = cc in l

pub erred : (r : Result ℕ Refusal) (e : Refusal) → IsErrAnd r (λ f. f ≡ e) → numbered r ≡ number_of e
erred (Err f) e h = ap number_of h
erred (Ok n) e h = absurd h

pub never-0 : (r : Refusal) → number_of r ≡ 0 → ⊥
never-0 r e = eqb-false (number_of r) 0 (number-not0 r) e

pub kept : (h : Hidden) (second : List ℕ) → h ≡ hidden [] → second ≡ over (beside h) second
kept h second e = rw e

-- the payload of m, read to the front of an output
module _ (x : Core) (t c b d : ℕ) (m out : List ℕ) where
  abbrev pub plain : List ℕ
  plain = payload x (ciphers t) c b d (drop 7 m)

  many : length m - 7 ≡ length plain
  many = sym (payload-length x c b d (drop 7 m) (ciphers t) ∙ length-drop 7 m)

  pub shown : (o : List ℕ) → o ≡ over plain out → take (length m - 7) o ≡ plain
  shown o e = ap (take (length m - 7)) e ∙ take_at plain (drop (length plain) out) _ (sym many)

  pub lent : (o : List ℕ) → o ≡ over plain out → length (take (length m - 7) o) ≡ length m - 7
  lent o e = ap length (shown o e) ∙ sym many

-- what is answered and left of a plaintext q that is p, with the context in which its COUNT is used
pub hands : (x : Core) (t d c b f g : ℕ) (next used : Context) (a : OpenAnswer) (p q o o' out second : List ℕ)
    → q ≡ p → f ≡ g → next ≡ used → o ≡ over p out
    → a ≡ open_answer c f (length q) t (inside_number (look_of t d q) (beside_of x t c b d q)) (length (beside (beside_of x t c b d q)))
    → o' ≡ over (beside (beside_of x t c b d q)) second
    → leaves_two a next o o' ≡ handed t d p (beside_of x t c b d p) out second c g used
unfolding handed
hands x t d c b f g next used a p q o o' out second e r n y w z = rw (w, z, y, n, r, e)

-- and of what follows the header of an EPS message
pub hands-eps : (c f g : ℕ) (next used : Context) (a : EpsOpenAnswer) (p q o out : List ℕ)
    → q ≡ p → f ≡ g → next ≡ used → o ≡ over p out → a ≡ eps_answer c f (length q) (not_eps q)
    → leaves a next o ≡ eps_handed p out c g used
unfolding eps_handed
hands-eps c f g next used a p q o out e r n y w = rw (w, y, n, r, e)

-- a message that is taken as none
pub missed : (x : Context) (p b d : ℕ) (m out second o : List ℕ) (a : OpenAnswer) (next : Context) (e : Missed)
    → verify_of x.core (record_at x p) b d 2 m ≡ Err e → a ≡ Refused (number_of (refusal_of e)) → next ≡ x → o ≡ out
    → leaves_two a next o second ≡ opened x p b d m out second
unfolding opened
missed x p b d m out second o a next NoCandidate v r n y = rw (v, r, n, y) refl
missed x p b d m out second o a next WrongCode v r n y = rw (v, r, n, y) refl

pub missed-eps : (x : Context) (m out o : List ℕ) (a : EpsOpenAnswer) (next : Context) (e : Missed)
    → verify_of x.core (record_at x eps_place) eps_bearer eps_direction 1 m ≡ Err e → a ≡ eps.Refused (number_of (refusal_of e)) → next ≡ x → o ≡ out
    → leaves a next o ≡ eps_opened x m out
unfolding eps_opened
missed-eps x m out o a next NoCandidate v r n y = rw (v, r, n, y) refl
missed-eps x m out o a next WrongCode v r n y = rw (v, r, n, y) refl
