-- Null integrity.
use Rattle.std.specs.Prelude.{Option, None, Some, Ok, Err}
use Prim.Native.Nat.{ℕ, ◌%◌, ◌^◌, ◌≤◌, ◌<◌}
use mathlib.Core.Path.{◌≡◌, refl, sym, ap, ◌∙◌}
use mathlib.Core.Bool.{Bool, true}
use mathlib.Core.Logic.{inl, inr}
use native.Mathlib.Nat.{mod-eq_of_lt}
use Rattle.count.specs.Rule.{Opening, exhausted, forward_of, opening, forward_only, use_round}
use Rattle.count.specs.declared.Taken.TheVariants.{Late, Forward}
use Rattle.count.specs.declared.Missed.TheVariants.{NoCandidate, WrongCode}
use Rattle.count.specs.Run.{State, act, act_of}
use Rattle.count.specs.Facts.{When, NullHolds}
use Rattle.count.proofs.Words.{low_of_low}
use Rattle.count.proofs.Distance.{le-or-lt, distance-ends}
use Rattle.count.proofs.Candidates.{never, up, forward-over, forward-up, forward-past, forward-found}
use Rattle.count.proofs.Openings.{answers}

module _ (k : ℕ) (s : State) (o : ℕ) where
  abbrev ahead : Option ℕ
  ahead = forward_of k true s.at o

  goes-round : s.at.next < exhausted → ahead ≡ Some (up k s.at o % exhausted)
  goes-round h =
      elim (le-or-lt exhausted (up k s.at o)) [
        | inl l ↦ forward-past k true s.at o h l
        | inr l ↦ forward-up k true s.at o l ∙ ap Some (sym (mod-eq_of_lt l))
      ]

  ends : (c : ℕ) → k ≤ 24 → ahead ≡ Some c → (c < exhausted) × (c % 2 ^ k ≡ o % 2 ^ k)
  ends c le e =
      let f = forward-found k true s.at o c e in (
        f.0,
        elim f.1 [
          | inl t ↦ t.ends
          | inr t ↦ rw t.1 (low_of_low (up k s.at o) {k = 24} le ∙ distance-ends k s.at.next o)
        ],
      )

  still : (fits : ℕ → Bool) (a : Opening) → When fits None ahead a → (act (act_of true a) s).at.bits ≡ s.at.bits
  unfolding use_round
  still fits (Ok (Late c)) t = never t.0
  still fits (Ok (Forward c)) t = refl
  still fits (Err NoCandidate) t = refl
  still fits (Err WrongCode) t = refl

pub null : NullHolds
unfolding opening forward_only use_round
null k fits s o =
    let a = answers fits None (ahead k s o) in
    let c = up k s.at o % exhausted in
    record {
      goes-round = goes-round k s o;
      ends = ends k s o;
      next-round = λ c. refl;
      no-late = refl;
      never-late = λ c e. never ((a (Ok (Late c))).0 e).0;
      still = still k s o fits (forward_only k true fits s.at o) ((a (forward_only k true fits s.at o)).0 refl);
      passes = λ h f. (c, (a (Ok (Forward c))).1 ((λ c' e. never e), goes-round k s o h, f c));
      stays-exhausted = λ h. (a (Err NoCandidate)).1 ((λ c e. never e), forward-over k true s.at o h);
    }
