use Rattle.std.specs.Prelude.{None, Some, Ok, Err}
-- The record's bounds on a COUNT that a message is taken as.
use mathlib.Core.Path.{◌≡◌, refl, ap, ◌∙◌}
use mathlib.Core.Bool.{Bool, true, false, cond}
use mathlib.Core.Logic.{inl, inr}
use mathlib.Core.List.{List}
use Prim.Native.Nat.{ℕ, ◌+◌, ◌≤◌, ◌<◌}
use native.Mathlib.Omega.{arith}
use lib.ListN.{get_or}
use Rattle.count.specs.Rule.{Opening, exhausted, forward_of, late_of, opening}
use Rattle.count.specs.declared.Record.{Record}
use Rattle.count.specs.declared.Taken.{Taken}
use Rattle.count.specs.declared.Taken.TheVariants.{Late, Forward}
use Rattle.count.specs.declared.Missed.{Missed}
use Rattle.count.specs.declared.Missed.TheVariants.{NoCandidate, WrongCode}
use Rattle.nas_core.specs.Leaves.{read_as}
use Rattle.count.proofs.Candidates.{late-at, forward-found, never, clash}
use Rattle.count.proofs.Openings.{answers}
use Rattle.count.proofs.Skipped.{forward-next}
use Rattle.nas_core.specs.declared.Core.{Core}
use Rattle.nas_core.specs.Keyed.{wraps}
use Rattle.nas_core.specs.Verify.{fits, verify_of}

-- a forward candidate, whatever the number of low bits
pub forward-within : (k : ℕ) (w : Bool) (r : Record) (s c : ℕ) → forward_of k w r s ≡ Some c → (c < exhausted) × (w ≡ false → r.next ≤ c) × (r.next < exhausted)
forward-within k w r s c e =
    let f = forward-found k w r s c e in
    (f.0, (λ q. elim f.1 [ inl t ↦ t.from | inr t ↦ clash t.0 q ]), forward-next k w r s c e)

module _ (x : Core) (r : Record) (b d p : ℕ) (m : List ℕ) (c : ℕ) (h : get_or m (p + 4) 0 < 256) where
  pub late-chosen : x.size ≤ 64 → verify_of x r b d p m ≡ Ok (Late c) → (c + 1 < r.next) × (r.next ≤ c + 65)
  unfolding verify_of opening
  late-chosen g e =
      let s = get_or m (p + 4) 0 in
      found (wraps x) ((answers (λ n. fits x n b d p m) (cond (wraps x) None (late_of 8 x.size r s)) (forward_of 8 (wraps x) r s) (Ok (Late c))).0 e).0
    where
      found : (t : Bool) → cond t None (late_of 8 x.size r (get_or m (p + 4) 0)) ≡ Some c → (c + 1 < r.next) × (r.next ≤ c + 65)
      found true k = never k
      found false k = let l = late-at r x.size (get_or m (p + 4) 0) c h k in (l.0, omega arith)

  pub forward-chosen : verify_of x r b d p m ≡ Ok (Forward c) → (c < exhausted) × (wraps x ≡ false → r.next ≤ c) × (r.next < exhausted)
  unfolding verify_of opening
  forward-chosen e =
      let s = get_or m (p + 4) 0 in
      let l = cond (wraps x) None (late_of 8 x.size r s) in
      let e' = ((answers (λ n. fits x n b d p m) l (forward_of 8 (wraps x) r s) (Ok (Forward c))).0 e).1 in
      forward-within 8 (wraps x) r s c e'

-- what the distance of a COUNT asks of its record, used late and forward
pub late-near : (n c : ℕ) → n ≤ c + 65 → n ≤ c + exhausted
late-near n c h = omega arith

pub ahead-near : (n c : ℕ) → n < exhausted → n ≤ c + exhausted
ahead-near n c h = omega arith

-- what an opening takes a message as, named
pub taken-as : (o : Opening) (t u : Taken) → o ≡ Ok t → t ≡ u → o ≡ Ok u
taken-as o t u e f = e ∙ ap Ok f

-- a message that is taken as none leaves the output
pub missed-reads : (carried : ℕ → List ℕ) (out : List ℕ) (m : Missed) → read_as carried out (Err m) ≡ out
missed-reads carried out NoCandidate = refl
missed-reads carried out WrongCode = refl
