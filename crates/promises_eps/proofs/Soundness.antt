-- The calls as a machine of crate count: each does one valid act on one record.
use Prim.Native.Nat.{ℕ, ◌%◌, ◌<◌}
use mathlib.Core.Path.{◌≡◌, refl, sym, ap, ◌∙◌}
use mathlib.Core.Bool.{Bool, true, false, cond}
use mathlib.Core.List.{List}
use native.Mathlib.Omega.{arith}
use lib.ListN.{length, get_or}
use lib.Dec.{eqb, leb}
use borrow.Author.Tests.{eqb-true, eq-eqb, leb-false}
use Rattle.count.specs.Rule.{exhausted}
use Rattle.count.specs.Run.{Act, stay, uses, resize, close, act, act_of, Valid}
use Rattle.count.specs.Machine.{seen, Machine, Acting}
use Rattle.count.proofs.Openings.{opening-valid, forward-valid}
use Rattle.count.proofs.Lifting.{length-after, view-gives}
use Rattle.refusals.specs.Order.{◌when◌, first}
use Rattle.refusals.proofs.Laws.{passed, off}
use Rattle.nas_core.specs.declared.Core.{Core}
use Rattle.nas_core.specs.Keyed.{wraps, away_from_null}
use Rattle.nas_core.specs.Verify.{fits, verify_of}
use Rattle.nas_eps.specs.declared.Context.{Context}
use Rattle.nas_eps.specs.Places.{uplink, place_of, record_at, next_at}
use Rattle.nas_eps.specs.Octets.{bearer, is_request, short_fits, request_as}
use Rattle.nas_eps.specs.Seal.{seal_refusals, seal_refusal, request_refusals, request_refusal}
use Rattle.promise.proofs.Acts.{unless}
use Rattle.promises_eps.specs.Calls.{Call, set_window, reselect, seal_message, seal_request, open_message, gives, place_in}
use Rattle.promises_eps.specs.Words.{SameKeys, record_of}
use Rattle.promises_eps.proofs.Shapes.{next, refusal_of, passing, does, acts, found}

abbrev pub machine : Machine Context Call
machine =
    record {
      size = λ x. x.core.size;
      records = λ x. x.records;
      gives = λ k x. (gives k x).context;
      place = λ k x. place_in k;
      does = does;
    }

abbrev pub Two : Context → Type 0
Two x = length x.records ≡ 2

pub acting : Acting machine Two
acting =
    record {
      size-after = λ k x h. (acts k x h).size-after;
      records-after = λ k x h. (acts k x h).records-after;
    }

-- contexts with non-null integrity
pub record Good (x : Context) : Type 0 where
  pub two : Two x
  pub guarded : wraps x.core ≡ false

-- a send that is not refused has a COUNT
left : (l : List ℕ) (i n : ℕ) → first l ≡ 0 → get_or l i 0 ≡ 6 when (leb exhausted n) → n < exhausted
left l i n e q = leb-false exhausted n (off 6 (leb exhausted n) (omega arith) (sym q ∙ passed l e i))

-- the act of a call without its refusals
module _ (P : Act → Type 0) where
  pub if-passed : (n : ℕ) (a : Act) → P stay → (n ≡ 0 → P a) → P (unless n a)
  if-passed n a s f = go (eqb n 0) refl
    where
      go : (t : Bool) → eqb n 0 ≡ t → P (cond t a stay)
      go true e = f (eqb-true n 0 e)
      go false e = s

-- a call that uses the next COUNT has one
abbrev pub NextThere : Call → Context → Type 0
NextThere (set_window n) x = Unit {0}
NextThere (reselect i c ik ck) x = Unit {0}
NextThere (seal_message t d inner out) x = next_at x (place_of d) < exhausted
NextThere (seal_request i out) x = next_at x uplink < exhausted
NextThere (open_message d m out) x = Unit {0}

pub next-there : (k : Call) (x : Context) → refusal_of k x ≡ 0 → NextThere k x
unfolding seal_refusal request_refusal
next-there (set_window n) x e = tt
next-there (reselect i c ik ck) x e = tt
next-there (seal_message t d inner out) x e = left (seal_refusals x t (place_of d) inner (length out)) 4 (next_at x (place_of d)) e refl
next-there (seal_request i out) x e = left (request_refusals x i (length out)) 3 (next_at x uplink) e refl
next-there (open_message d m out) x e = tt

module _ (x : Context) (guarded : wraps x.core ≡ false) where
  next-valid : (p : ℕ) → next_at x p < exhausted → Valid (next x p) (record_of p x)
  next-valid p h = rw guarded (omega arith, h)

  found-valid : (p : ℕ) (m : List ℕ) → Valid (act_of (wraps x.core) (found x p m)) (record_of p x)
  unfolding verify_of request_as
  found-valid p m = go (is_request m)
    where
      go : (t : Bool)
          → Valid (act_of (wraps x.core) (cond t (request_as x.core (record_at x p) m) (verify_of x.core (record_at x p) bearer p 1 m))) (record_of p x)
      go true = rw guarded (forward-valid 5 (λ c. short_fits x.core c m) (record_of p x) (get_or m 1 0 % 32))
      go false = rw guarded (opening-valid 8 (λ c. fits x.core c bearer p 1 m) (record_of p x) (get_or m 5 0))

  -- from non-null integrity nothing is closed
  reselect-valid : (i : ℕ) → Valid (cond (away_from_null x.core.integrity i) close stay) (record_of 2 x)
  unfolding away_from_null wraps
  reselect-valid i = rw guarded tt

  passing-valid : (k : Call) → NextThere k x → Valid (passing k x) (record_of (place_in k) x)
  passing-valid (set_window n) h = tt
  passing-valid (reselect i c ik ck) h = reselect-valid i
  passing-valid (seal_message t d inner out) h = next-valid (place_of d) h
  passing-valid (seal_request i out) h = next-valid uplink h
  passing-valid (open_message d m out) h = found-valid (place_of d) m

  pub does-valid : (k : Call) → Valid (does k x) (record_of (place_in k) x)
  does-valid k = if-passed (λ (a : Act). Valid a (record_of (place_in k) x)) (refusal_of k x) (passing k x) tt (λ e. passing-valid k (next-there k x e))

pub trans-keys : (x y z : Core) → SameKeys x y → SameKeys y z → SameKeys x z
trans-keys x y z a b =
    record {
      integrity = a.integrity ∙ b.integrity;
      ciphering = a.ciphering ∙ b.ciphering;
      integrity-key = a.integrity-key ∙ b.integrity-key;
      ciphering-key = a.ciphering-key ∙ b.ciphering-key;
    }

-- the record at p after a call
pub record-after : (k : Call) (x : Context) → Two x → (p : ℕ) → p < 2
    → record_of p (gives k x).context ≡ act (seen p (place_in k) (does k x)) (record_of p x)
record-after k x two p h = view-gives machine Two acting k x two p (omega arith)

seen-own : (p : ℕ) (a : Act) → seen p p a ≡ a
seen-own p stay = refl
seen-own p (uses w c) = rw (eq-eqb p p refl)
seen-own p (resize n) = refl
seen-own p close = refl

-- and its own record
pub own-after : (k : Call) (x : Context) → Two x → place_in k < 2 → record_of (place_in k) (gives k x).context ≡ act (does k x) (record_of (place_in k) x)
own-after k x two on =
    record-after k x two (place_in k) on ∙ ap (λ (a : Act). act a (record_of (place_in k) x)) (seen-own (place_in k) (does k x))

pub stays_two : (k : Call) (x : Context) → Two x → Two (gives k x).context
stays_two k x two =
    ap length (acts k x two).records-after ∙ length-after 0 (place_in k) x.core.size x.records (does k x) ∙ two
