-- The calls as a machine of crate count: each does one valid act on one record.
use Prim.Native.Nat.{ℕ, ◌+◌, ◌<◌}
use mathlib.Core.Path.{◌≡◌, refl, sym, ap, ◌∙◌}
use mathlib.Core.Bool.{Bool, true, false, cond}
use mathlib.Core.List.{List, [], ◌∷◌}
use native.Mathlib.Omega.{arith}
use lib.ListN.{length, get_or}
use lib.Dec.{eqb, leb}
use borrow.Author.Tests.{eqb-true, eq-eqb, leb-false}
use Rattle.count.specs.Rule.{exhausted, forward_only}
use Rattle.count.specs.Run.{Act, stay, uses, resize, close, act, act_of, Valid}
use Rattle.count.specs.Machine.{seen, Machine, Acting}
use Rattle.count.proofs.Openings.{opening-valid, forward-valid}
use Rattle.count.proofs.Lifting.{length-after, view-gives}
use Rattle.refusals.specs.Order.{◌when◌, first}
use Rattle.refusals.proofs.Laws.{passed, off}
use Rattle.nas_core.specs.declared.Core.{Core}
use Rattle.nas_core.specs.Keyed.{wraps, away_from_null}
use Rattle.nas_core.specs.Verify.{fits, verify_of}
use Rattle.nas_5gs.specs.declared.Context.{Context}
use Rattle.nas_core.specs.declared.Direction.TheVariants.{Uplink}
use Rattle.nas_5gs.specs.Places.{direction_no, bearer_no, place_of, record_at, next_at, fault_of}
use Rattle.nas_5gs.specs.Seal.{seal_refusals, seal_refusal, opaque_refusals, opaque_refusal}
use Rattle.nas_5gs.specs.Initial.{initial_refusals, initial_refusal}
use Rattle.nas_5gs.specs.Eps.{eps_place, eps_bearer, eps_direction, seal_eps_refusals, seal_eps_refusal}
use Rattle.nas_5gs.specs.Containers.{container_place, none_left, s1_to_n1_refusals, s1_to_n1_refusal, verify_s1_to_n1_refusals, verify_s1_to_n1_refusal}
use Rattle.promises.specs.Calls.{Call, set_window, reselect, seal5gs, seal_opaque, seal_initial, open5gs, seal_eps, open_eps, make_n1_to_s1, verify_n1_to_s1, make_s1_to_n1, verify_s1_to_n1, gives, place_in}
use Rattle.promises.specs.Words.{SameKeys, record_of}
use Rattle.promise.proofs.Acts.{unless}
use Rattle.promises.proofs.Shapes.{next, refusal_of, passing, does, acts}

abbrev pub machine : Machine Context Call
machine =
    record {
      size = λ x. x.core.size;
      records = λ x. x.records;
      gives = λ k x. (gives k x).context;
      place = λ k x. place_in k;
      does = does;
    }

abbrev pub Four : Context → Type 0
Four x = length x.records ≡ 4

pub acting : Acting machine Four
acting =
    record {
      size-after = λ k x h. (acts k x h).size-after;
      records-after = λ k x h. (acts k x h).records-after;
    }

-- contexts with non-null integrity
pub record Good (x : Context) : Type 0 where
  pub four : Four x
  pub guarded : wraps x.core ≡ false

-- a send that is not refused has a COUNT
pub left : (l : List ℕ) (i n : ℕ) → first l ≡ 0 → get_or l i 0 ≡ 6 when (leb exhausted n) → n < exhausted
left l i n e q = leb-false exhausted n (off 6 (leb exhausted n) (omega arith) (sym q ∙ passed l e i))

-- the act of a call without its refusals
module _ (P : Act → Type 0) where
  pub if-passed : (n : ℕ) (a : Act) → P stay → (n ≡ 0 → P a) → P (unless n a)
  if-passed n a s f = go (eqb n 0) refl
    where
      go : (t : Bool) → eqb n 0 ≡ t → P (cond t a stay)
      go true e = f (eqb-true n 0 e)
      go false e = s

-- a call that uses the next COUNT has one
abbrev pub NextThere : Call → Context → Type 0
NextThere (set_window n) x = Unit {0}
NextThere (reselect i c ik ck) x = Unit {0}
NextThere (seal5gs t d k inner out) x = next_at x (place_of d k) < exhausted
NextThere (seal_opaque t d k inner out) x = next_at x (place_of d k) < exhausted
NextThere (seal_initial k w out) x = next_at x (place_of Uplink k) < exhausted
NextThere (open5gs d k m out out2) x = Unit {0}
NextThere (seal_eps inner out) x = next_at x eps_place < exhausted
NextThere (open_eps m out) x = Unit {0}
NextThere make_n1_to_s1 x = next_at x container_place < exhausted
NextThere (verify_n1_to_s1 s) x = Unit {0}
NextThere (make_s1_to_n1 ncc ngksi out) x = next_at x container_place < exhausted
NextThere (verify_s1_to_n1 v) x = next_at x container_place < exhausted

pub next-there : (k : Call) (x : Context) → refusal_of k x ≡ 0 → NextThere k x
unfolding seal_refusal opaque_refusal initial_refusal seal_eps_refusal s1_to_n1_refusal verify_s1_to_n1_refusal
next-there (set_window n) x e = tt
next-there (reselect i c ik ck) x e = tt
next-there (seal5gs t d k inner out) x e =
    left (seal_refusals x t (place_of d k) (direction_no d) inner (length out)) 7 (next_at x (place_of d k)) e refl
next-there (seal_opaque t d k inner out) x e = left (opaque_refusals x t (place_of d k) inner (length out)) 4 (next_at x (place_of d k)) e refl
next-there (seal_initial k w out) x e = left (initial_refusals x (place_of Uplink k) w (length out)) 5 (next_at x (place_of Uplink k)) e refl
next-there (open5gs d k m out out2) x e = tt
next-there (seal_eps inner out) x e = left (seal_eps_refusals x inner (length out)) 4 (next_at x eps_place) e refl
next-there (open_eps m out) x e = tt
next-there make_n1_to_s1 x e = left (fault_of x ∷ 6 when none_left x ∷ []) 1 (next_at x container_place) e refl
next-there (verify_n1_to_s1 s) x e = tt
next-there (make_s1_to_n1 ncc ngksi out) x e = left (s1_to_n1_refusals x ncc ngksi (length out)) 3 (next_at x container_place) e refl
next-there (verify_s1_to_n1 v) x e = left (verify_s1_to_n1_refusals x v) 4 (next_at x container_place) e refl

module _ (x : Context) (guarded : wraps x.core ≡ false) where
  next-valid : (p : ℕ) → next_at x p < exhausted → Valid (next x p) (record_of p x)
  next-valid p h = rw guarded (omega arith, h)

  verify-valid : (p b d q : ℕ) (m : List ℕ) → Valid (act_of (wraps x.core) (verify_of x.core (record_at x p) b d q m)) (record_of p x)
  unfolding verify_of
  verify-valid p b d q m = rw guarded (opening-valid 8 (λ c. fits x.core c b d q m) (record_of p x) (get_or m (q + 4) 0))

  octet-valid : (p s : ℕ) → Valid (act_of (wraps x.core) (forward_only 8 (wraps x.core) (λ c. true) (record_at x p) s)) (record_of p x)
  octet-valid p s = rw guarded (forward-valid 8 (λ c. true) (record_of p x) s)

  -- from non-null integrity nothing is closed
  reselect-valid : (i : ℕ) → Valid (cond (away_from_null x.core.integrity i) close stay) (record_of 4 x)
  unfolding away_from_null wraps
  reselect-valid i = rw guarded tt

  passing-valid : (k : Call) → NextThere k x → Valid (passing k x) (record_of (place_in k) x)
  passing-valid (set_window n) h = tt
  passing-valid (reselect i c ik ck) h = reselect-valid i
  passing-valid (seal5gs t d k inner out) h = next-valid (place_of d k) h
  passing-valid (seal_opaque t d k inner out) h = next-valid (place_of d k) h
  passing-valid (seal_initial k w out) h = next-valid (place_of Uplink k) h
  passing-valid (open5gs d k m out out2) h = verify-valid (place_of d k) (bearer_no k) (direction_no d) 2 m
  passing-valid (seal_eps inner out) h = next-valid eps_place h
  passing-valid (open_eps m out) h = verify-valid eps_place eps_bearer eps_direction 1 m
  passing-valid make_n1_to_s1 h = next-valid container_place h
  passing-valid (verify_n1_to_s1 s) h = octet-valid container_place s
  passing-valid (make_s1_to_n1 ncc ngksi out) h = next-valid container_place h
  passing-valid (verify_s1_to_n1 v) h = next-valid container_place h

  pub does-valid : (k : Call) → Valid (does k x) (record_of (place_in k) x)
  does-valid k = if-passed (λ (a : Act). Valid a (record_of (place_in k) x)) (refusal_of k x) (passing k x) tt (λ e. passing-valid k (next-there k x e))

pub trans-keys : (x y z : Core) → SameKeys x y → SameKeys y z → SameKeys x z
trans-keys x y z a b =
    record {
      integrity = a.integrity ∙ b.integrity;
      ciphering = a.ciphering ∙ b.ciphering;
      integrity-key = a.integrity-key ∙ b.integrity-key;
      ciphering-key = a.ciphering-key ∙ b.ciphering-key;
    }

-- the record at p after a call
pub record-after : (k : Call) (x : Context) → Four x → (p : ℕ) → p < 4
    → record_of p (gives k x).context ≡ act (seen p (place_in k) (does k x)) (record_of p x)
record-after k x four p h = view-gives machine Four acting k x four p (omega arith)

seen-own : (p : ℕ) (a : Act) → seen p p a ≡ a
seen-own p stay = refl
seen-own p (uses w c) = rw (eq-eqb p p refl)
seen-own p (resize n) = refl
seen-own p close = refl

-- and its own record
pub own-after : (k : Call) (x : Context) → Four x → place_in k < 4 → record_of (place_in k) (gives k x).context ≡ act (does k x) (record_of (place_in k) x)
own-after k x four on =
    record-after k x four (place_in k) on ∙ ap (λ (a : Act). act a (record_of (place_in k) x)) (seen-own (place_in k) (does k x))

pub stays-four : (k : Call) (x : Context) → Four x → Four (gives k x).context
stays-four k x four =
    ap length (acts k x four).records-after ∙ length-after 0 (place_in k) x.core.size x.records (does k x) ∙ four
