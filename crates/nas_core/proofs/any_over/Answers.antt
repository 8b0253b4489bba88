use Rattle.std.proofs.Common.{ℕ, ◌<◌, ◌≤◌, Bool, true, false, ltb, List, length, Decides, MatchBool, refl, arith, rules, tests}
use Rattle.std.specs.List.{HoldsAt, AllWithin}
use Rattle.std.proofs.lemmas.Iterator.{cases_from_any, YieldsList-from_slice}
use Rattle.std.proofs.lemmas.Bool.{false≢true}
use Rattle.std.proofs.lemmas.Bool.Decides.{same_from_decides, Decides-by_or, Decides-ltb}
use Rattle.count.specs.Rule.{exhausted}
use Rattle.nas_core.specs.Refusals.{any_over}
use Rattle.nas_core.proofs.any_over.Goals as goal

abbrev HasOver : List ℕ → Type 0
HasOver xs = (k : ℕ) × (k < length xs) × HoldsAt (λ x. exhausted < x) xs k

decides : (r : Bool) (xs : List ℕ) → MatchBool r (HasOver xs) (AllWithin (λ x. x ≤ exhausted) xs 0 (length xs)) → Decides r (HasOver xs)
decides true xs h = (λ _. h, λ _. refl)
decides false xs h = (λ e. absurd (false≢true e), λ w. absurd (omega (arith, h w.0 0 (omega arith) w.1, w.2 0)))

pub returns : goal.returns
returns c =
    let xs = c.args.next.now in
    let by_call = cases_from_any _ _ _ (λ x. exhausted < x) (λ x. x ≤ exhausted) c.any.ensures.ran (YieldsList-from_slice xs cc) (λ x q k. search (rules, tests)) (λ x q k. search (rules, tests)) in
    let by_spec = Decides-by_or (ltb exhausted) (λ x. exhausted < x) any_over (Decides-ltb exhausted) refl (λ _ _. refl) xs in
    same_from_decides _ (any_over xs) (decides _ xs by_call) by_spec
