-- A message sealed on one connection that arrives on the other, as after a handover between accesses. `open_across` opens as `open` does on the connection that the
-- message arrived on; where that would refuse with 6 or 7, it opens on the other one.
use Rattle.std.specs.Prelude.{ℕ, Bool, cond, not, ◌&&◌, ◌||◌, List, eqb}
use Rattle.nas_core.specs.Keyed.{wraps}
use Rattle.nas_5gs.specs.declared.Context.{Context}
use Rattle.nas_core.specs.declared.Direction.{Direction}
use Rattle.nas_5gs.specs.declared.Connection.{Connection}
use Rattle.nas_5gs.specs.declared.Connection.TheVariants.{ThreeGpp, Non3Gpp}
use Rattle.nas_5gs.specs.OpenAnswer.{OpenAnswer, Refused, Accepted, Content}
use Rattle.nas_5gs.specs.Leaves.{LeavesTwo, leaves_two}
use Rattle.nas_5gs.specs.Open.{open_of}

abbrev pub other : Connection → Connection
other ThreeGpp = Non3Gpp
other Non3Gpp = ThreeGpp

-- what `open_across` leaves: the connection that the message was taken on, or arrived on if it is refused; then as `open`
pub data LeavesAcross : Type 0 where
  leaves_across : Connection → OpenAnswer → Context → List ℕ → List ℕ → LeavesAcross

abbrev pub on : Connection → LeavesTwo OpenAnswer → LeavesAcross
on k (leaves_two a x out second) = leaves_across k a x out second

-- the number of a refusal that hands over nothing, 0 for none
abbrev pub number_of : OpenAnswer → ℕ
number_of (Refused n) = n
number_of (Accepted c d w t s) = 0
number_of (Content c d w t n) = 0

abbrev pub refusal_of : LeavesTwo OpenAnswer → ℕ
refusal_of (leaves_two a x out second) = number_of a

-- no COUNT of the record that was tried: 6 or 7
unfoldable pub is_missed : ℕ → Bool
is_missed n = eqb n 6 || eqb n 7

-- 6 if both would say 6, else 7
unfoldable pub both_of : ℕ → ℕ → ℕ
both_of n m = cond (eqb n 6 && eqb m 6) 6 7

-- the other connection tried, where this one would refuse with n
unfoldable pub elsewhere_of : Context → Direction → Connection → ℕ → List ℕ → List ℕ → List ℕ → LeavesAcross
elsewhere_of x d k n m out second =
    let there = open_of x d (other k) m out second in
    cond (is_missed (refusal_of there)) (leaves_across k (Refused (both_of n (refusal_of there))) x out second) (on (other k) there)

-- under null integrity no code tells the connections apart: it is `open`
unfoldable pub across_of : Context → Direction → Connection → List ℕ → List ℕ → List ℕ → LeavesAcross
across_of x d k m out second =
    let here = open_of x d k m out second in
    cond (not (wraps x.core) && is_missed (refusal_of here)) (elsewhere_of x d k (refusal_of here) m out second) (on k here)
