-- A refusal with 6 or 7 leaves context and outputs as they were.
use Prim.Native.Nat.{ℕ}
use mathlib.Core.Path.{◌≡◌, refl, sym, ap, subst, ◌∙◌}
use mathlib.Core.Bool.{Bool, true, false, cond}
use mathlib.Core.List.{List}
use lib.ListN.{length}
use lib.Dec.{eqb}
use Rattle.std.proofs.lemmas.Bool.{false≢true}
use Rattle.count.specs.Rule.{Opening}
use Rattle.std.specs.Prelude.{Ok, Err}
use Rattle.count.specs.declared.Taken.TheVariants.{Late, Forward}
use Rattle.count.specs.declared.Missed.TheVariants.{NoCandidate, WrongCode}
use Rattle.count.specs.Rule.{distance_of}
use Rattle.initial.specs.Inside.{Hidden}
use Rattle.envelope.specs.Initial.{beside_of, beside}
use Rattle.look.specs.Look.{look_of}
use Rattle.nas_core.specs.Keyed.{wraps}
use Rattle.nas_core.specs.Verify.{verify_of}
use Rattle.nas_5gs.specs.declared.Context.{Context}
use Rattle.nas_core.specs.declared.Direction.{Direction}
use Rattle.nas_5gs.specs.declared.Connection.{Connection}
use Rattle.nas_5gs.specs.OpenAnswer.{OpenAnswer, Refused, Accepted, Content}
use Rattle.nas_5gs.specs.Places.{direction_no, bearer_no, place_of, record_at, used, used_late}
use Rattle.nas_5gs.specs.Leaves.{LeavesTwo, leaves_two, over, received}
use Rattle.nas_5gs.specs.Open.{type_of, open_refusal, room_for, inside_number, handed, plain_of, opened, open_of}
use Rattle.handover.specs.Across.{other, LeavesAcross, leaves_across, number_of, refusal_of, is_missed, both_of, elsewhere_of, across_of}

module _ (x : Context) (out second : List ℕ) where
  -- left as it was, if it is missed
  abbrev pub Keeps : LeavesTwo OpenAnswer → Type 0
  Keeps l = is_missed (refusal_of l) ≡ true → l ≡ leaves_two (Refused (refusal_of l)) x out second

  answered : (c far wrote t n s : ℕ) (next : Context) (o o2 : List ℕ) (b : Bool)
      → Keeps (leaves_two (cond b (Accepted c far wrote t s) (Content c far wrote t n)) next o o2)
  unfolding is_missed
  answered c far wrote t n s next o o2 true e = absurd (false≢true e)
  answered c far wrote t n s next o o2 false e = absurd (false≢true e)

  hands : (t d : ℕ) (plain : List ℕ) (h : Hidden) (c far : ℕ) (next : Context) → Keeps (handed t d plain h out second c far next)
  unfolding handed
  hands t d plain h c far next =
      let n = inside_number (look_of t d plain) h in
      answered c far (length plain) t n (length (beside h)) next (over plain out) (over (beside h) second) (eqb n 0)

  receives : (p b d : ℕ) (m : List ℕ) (o : Opening)
      → Keeps (received x p (λ n. leaves_two (Refused n) x out second)
      (λ c next. handed (type_of m) d (plain_of x.core c b d m) (beside_of x.core (type_of m) c b d (plain_of x.core c b d m)) out second c (distance_of (record_at x p) c) next)
      o)
  receives p b d m (Err NoCandidate) = λ e. refl
  receives p b d m (Err WrongCode) = λ e. refl
  receives p b d m (Ok (Late c)) =
      let q = plain_of x.core c b d m in
      hands (type_of m) d q (beside_of x.core (type_of m) c b d q) c (distance_of (record_at x p) c) (used_late x p c)
  receives p b d m (Ok (Forward c)) =
      let q = plain_of x.core c b d m in
      hands (type_of m) d q (beside_of x.core (type_of m) c b d q) c (distance_of (record_at x p) c) (used x p c)

  either : (n : ℕ) (l : LeavesTwo OpenAnswer) (b : Bool) → Keeps l → Keeps (cond b l (leaves_two (Refused n) x out second))
  either n l true k = k
  either n l false k = λ e. refl

  pub missed : (d : Direction) (k : Connection) (m : List ℕ) → Keeps (open_of x d k m out second)
  unfolding open_of opened
  missed d k m =
      let n = open_refusal x m (room_for (type_of m) (direction_no d) (length out) (length second)) in
      either n (opened x (place_of d k) (bearer_no k) (direction_no d) m out second) (eqb n 0)
      (receives (place_of d k) (bearer_no k) (direction_no d) m (verify_of x.core (record_at x (place_of d k)) (bearer_no k) (direction_no d) 2 m))

-- what a missed open left, and which number it has
pub record Left (a : OpenAnswer) (y x : Context) (o o2 out second : List ℕ) : Type 0 where
  pub first : o ≡ out
  pub beside' : o2 ≡ second

module _ (x : Context) (d : Direction) (k : Connection) (m out second : List ℕ) (a : OpenAnswer) (y : Context) (o o2 : List ℕ)
    (e : leaves_two a y o o2 ≡ open_of x d k m out second) where
  pub outputs : is_missed (number_of a) ≡ true → Left a y x o o2 out second
  outputs h =
      let q : leaves_two a y o o2 ≡ leaves_two (Refused (number_of a)) x out second =
      e ∙ missed x out second d k m (subst (λ (l : LeavesTwo OpenAnswer). is_missed (refusal_of l) ≡ true) e h)
      ∙ ap (λ (l : LeavesTwo OpenAnswer). leaves_two (Refused (refusal_of l)) x out second) (sym e) in
      record { first = cc; beside' = cc }

-- neither connection, the other one
module _ (x : Context) (d : Direction) (k j : Connection) (n : ℕ) (m out second : List ℕ) (a : OpenAnswer) (y : Context) (o o2 : List ℕ)
    (here : j ≡ other k) (e : leaves_two a y o o2 ≡ open_of x d j m out second) where
  there : leaves_two a y o o2 ≡ open_of x d (other k) m out second
  there = subst (λ (i : Connection). leaves_two a y o o2 ≡ open_of x d i m out second) here e

  pub neither : (r : ℕ) → r ≡ both_of n (number_of a) → is_missed (number_of a) ≡ true
      → leaves_across k (Refused r) x o o2 ≡ elsewhere_of x d k n m out second
  unfolding elsewhere_of
  neither r both h =
      let q = outputs x d (other k) m out second a y o o2 there h in
      rw (sym there) (simp h (rw (both, q.first, q.beside') refl))

  pub other-one : is_missed (number_of a) ≡ false → leaves_across j a y o o2 ≡ elsewhere_of x d k n m out second
  unfolding elsewhere_of
  other-one h = rw (sym there) (simp h (rw here refl))

-- this one, or elsewhere
module _ (x : Context) (d : Direction) (k : Connection) (m out second : List ℕ) (a : OpenAnswer) (y : Context) (o o2 : List ℕ)
    (e : leaves_two a y o o2 ≡ open_of x d k m out second) where
  pub under-null : wraps x.core ≡ true → leaves_across k a y o o2 ≡ across_of x d k m out second
  unfolding across_of
  under-null w = rw (sym e) (simp w)

  pub this-one : wraps x.core ≡ false → is_missed (number_of a) ≡ false → leaves_across k a y o o2 ≡ across_of x d k m out second
  unfolding across_of
  this-one w h = rw (sym e) (simp (w, h))

  pub not-this : wraps x.core ≡ false → (n : ℕ) → n ≡ number_of a → is_missed (number_of a) ≡ true
      → (r : LeavesAcross) → r ≡ elsewhere_of x d k n m o o2 → r ≡ across_of x d k m out second
  unfolding across_of
  not-this w n number h r f =
      let q = outputs x d k m out second a y o o2 e h in
      rw (sym e) (simp (w, h) (f ∙ rw (number, q.first, q.beside') refl))
