-- Null integrity, over the calls.
use Rattle.std.specs.Prelude.{None, Ok, Err}
use Prim.Native.Nat.{ℕ, ◌+◌, ◌%◌, ◌≤◌, ◌<◌}
use mathlib.Core.Path.{◌≡◌, refl, sym, ap, ◌∙◌}
use mathlib.Core.Bool.{Bool, true, false, cond}
use mathlib.Core.Logic.{inr}
use mathlib.Core.List.{List, [], ◌∷◌}
use native.Mathlib.Omega.{arith}
use lib.ListN.{length, get_or, take}
use borrow.Author.Tests.{eqb-true}
use Rattle.count.specs.Rule.{Opening, exhausted, distance, forward_of, forward_only, use_round}
use Rattle.count.specs.declared.Taken.TheVariants.{Late, Forward}
use Rattle.count.specs.declared.Missed.TheVariants.{NoCandidate, WrongCode}
use Rattle.count.specs.Run.{State, Act, stay, uses, forward, late, round, resize, close, act, act_of, used}
use Rattle.count.proofs.Null.{null}
use Rattle.count.proofs.Candidates.{never}
use Rattle.count.proofs.Openings.{answers}
use Rattle.algorithms.specs.Codes.{code_of}
use Rattle.nas_core.specs.Keyed.{wraps, code_by}
use Rattle.nas_core.specs.Verify.{fits, verify_of}
use Rattle.nas_eps.specs.declared.Context.{Context}
use Rattle.nas_core.specs.declared.Direction.{Direction}
use Rattle.nas_core.specs.declared.Direction.TheVariants.{Uplink}
use Rattle.nas_eps.specs.OpenAnswer as open'
use Rattle.nas_eps.specs.Places.{uplink, place_of, record_at, next_at}
use Rattle.nas_eps.specs.Leaves.{open_values}
use Rattle.nas_eps.specs.Octets.{bearer, is_request, short_code, short_fits, request_as}
use Rattle.nas_eps.specs.Open.{open_refusal}
use Rattle.promise.proofs.Answers.{named}
use Rattle.promises_eps.specs.Calls.{Call, set_window, reselect, seal_message, seal_request, open_message, gives, place_in}
use Rattle.promises_eps.specs.Words.{record_of, Uses}
use Rattle.promises_eps.specs.Null.{NullHolds}
use Rattle.promises_eps.proofs.Shapes.{holding, next, refusal_of, passing, does, acts, found, plain, opened_as}
use Rattle.promises_eps.proofs.Soundness.{Two, if-passed, own-after}
use Rattle.promises_eps.proofs.Passing.{gives-passed}
use Rattle.promises_eps.proofs.Taking.{answering}

-- a use, if there is one, goes round
abbrev Round : Act → Type 0
Round stay = Unit {0}
Round (uses forward c) = ⊥
Round (uses late c) = ⊥
Round (uses round c) = Unit {0}
Round (resize n) = ⊥
Round close = ⊥

round-only : (k : ℕ) (fit : ℕ → Bool) (s : State) (n : ℕ) (o : Opening) → forward_only k true fit s.at n ≡ o → Round (act_of true o)
round-only k fit s n (Ok (Late c)) e = (null k fit s n).never-late c e
round-only k fit s n (Ok (Forward c)) e = tt
round-only k fit s n (Err NoCandidate) e = tt
round-only k fit s n (Err WrongCode) e = tt

round-used : (a : Act) (s : State) (c : ℕ) → Round a → used a ≡ c ∷ [] → (act a s).at ≡ record { next = (c + 1) % exhausted; bits = s.at.bits }
unfolding use_round
round-used stay s c r e = let z : ◌≡◌ {A = ℕ} 0 1 = cc in absurd (omega arith)
round-used (uses round n) s c r e = let q : n ≡ c = cc in rw q
round-used (uses forward n) s c r e = elim r [ ]
round-used (uses late n) s c r e = elim r [ ]
round-used (resize _) s c r e = elim r [ ]
round-used close s c r e = elim r [ ]

-- the candidate that goes round, where every code passes
round-found : (k : ℕ) (fit : ℕ → Bool) (s : State) (o : ℕ) → ((c : ℕ) → fit c ≡ true) → s.at.next < exhausted
    → forward_only k true fit s.at o ≡ Ok (Forward ((s.at.next + distance k s.at.next o) % exhausted))
unfolding forward_only
round-found k fit s o all h =
    let c = (s.at.next + distance k s.at.next o) % exhausted in
    (answers fit None (forward_of k true s.at o) (Ok (Forward c))).1 ((λ c e. never e), (null k fit s o).goes-round h, all c)

module _ (x : Context) (w : wraps x.core ≡ true) where
  verify-only : (p : ℕ) (m : List ℕ)
      → verify_of x.core (record_at x p) bearer p 1 m ≡ forward_only 8 true (λ c. fits x.core c bearer p 1 m) (record_at x p) (get_or m 5 0)
  unfolding verify_of
  verify-only p m = rw w (null 8 (λ c. fits x.core c bearer p 1 m) (record_of p x) (get_or m 5 0)).no-late

  request-only : (p : ℕ) (m : List ℕ)
      → request_as x.core (record_at x p) m ≡ forward_only 5 true (λ c. short_fits x.core c m) (record_at x p) (get_or m 1 0 % 32)
  unfolding request_as
  request-only p m = rw w

  found-round : (p : ℕ) (m : List ℕ) → Round (act_of (wraps x.core) (found x p m))
  found-round p m = rw w (go (is_request m))
    where
      go : (t : Bool) → Round (act_of true (cond t (request_as x.core (record_at x p) m) (verify_of x.core (record_at x p) bearer p 1 m)))
      go true = rw (request-only p m) (round-only 5 (λ c. short_fits x.core c m) (record_of p x) (get_or m 1 0 % 32) _ refl)
      go false = rw (verify-only p m) (round-only 8 (λ c. fits x.core c bearer p 1 m) (record_of p x) (get_or m 5 0) _ refl)

  next-round : (p : ℕ) → Round (next x p)
  next-round p = rw w tt

  passing-round : (k : Call) → place_in k < 2 → Round (passing k x)
  passing-round (set_window n) on = absurd (omega arith)
  passing-round (reselect i c ik ck) on = absurd (omega arith)
  passing-round (seal_message t d inner out) on = next-round (place_of d)
  passing-round (seal_request i out) on = next-round uplink
  passing-round (open_message d m out) on = found-round (place_of d) m

  uses-round : (k : Call) (c : ℕ) → Two x → place_in k < 2 → Uses (gives k x) c
      → record_at (gives k x).context (place_in k) ≡ record { next = (c + 1) % exhausted; bits = (record_at x (place_in k)).bits }
  uses-round k c two on u =
      let p = place_in k in
      let e : used (does k x) ≡ c ∷ [] = sym (acts k x two).counts ∙ rw (u.0, u.1) in
      ap (λ (s : State). s.at) (own-after k x two on)
      ∙ round-used (does k x) (record_of p x) c (if-passed Round (refusal_of k x) (passing k x) tt (λ z. passing-round k on)) e

  fits_all : (d : ℕ) (m : List ℕ) (c : ℕ) → fits x.core c bearer d 1 m ≡ true
  unfolding fits
  fits_all d m c = rw w

  short-all : (m : List ℕ) (c : ℕ) → short_fits x.core c m ≡ true
  unfolding short_fits
  short-all m c = rw w

  code-zero : (c b d : ℕ) (m : List ℕ) → code_by x.core c b d m ≡ 0 ∷ 0 ∷ 0 ∷ 0 ∷ []
  unfolding code_by code_of wraps
  code-zero c b d m = rw (eqb-true x.core.integrity 0 w)

  short-zero : (c : ℕ) (m : List ℕ) → short_code x.core c m ≡ 0 ∷ 0 ∷ []
  unfolding short_code
  short-zero c m = rw (code-zero c 0 0 (take 2 m))

  -- an exhausted record
  found_none : (p : ℕ) (m : List ℕ) → exhausted ≤ next_at x p → found x p m ≡ Err NoCandidate
  found_none p m h = go (is_request m)
    where
      go : (t : Bool) → cond t (request_as x.core (record_at x p) m) (verify_of x.core (record_at x p) bearer p 1 m) ≡ Err NoCandidate
      go true = request-only p m ∙ (null 5 (λ c. short_fits x.core c m) (record_of p x) (get_or m 1 0 % 32)).stays-exhausted h
      go false = verify-only p m ∙ (null 8 (λ c. fits x.core c bearer p 1 m) (record_of p x) (get_or m 5 0)).stays-exhausted h

  -- a COUNT that is found is answered
  answers-found : (d : Direction) (m out : List ℕ) (c : ℕ) → open_refusal x (place_of d) m (length out) ≡ 0 → found x (place_of d) m ≡ Ok (Forward c)
      → Uses (gives (open_message d m out) x) c
  answers-found d m out c e f =
      let p = place_of d in
      rw (gives-passed (open_message d m out) x e)
      (named holding open_values open'.Refused (opened_as x p m) (plain x p m) (answering x p m) x p out (found x p m) c (inr f))

pub null-holds : NullHolds
null-holds x w =
    record {
      code = code-zero x w;
      short-code = short-zero x w;
      passes = λ d m out e other h.
          let p = place_of d in
          answers-found x w d m out ((next_at x p + distance 8 (next_at x p) (get_or m 5 0)) % exhausted) e
          (rw other (verify-only x w p m ∙ round-found 8 (λ c. fits x.core c bearer p 1 m) (record_of p x) (get_or m 5 0) (fits_all x w p m) h));
      request-passes = λ m out e is h.
          answers-found x w Uplink m out ((next_at x uplink + distance 5 (next_at x uplink) (get_or m 1 0 % 32)) % exhausted) e
          (rw is (request-only x w uplink m ∙ round-found 5 (λ c. short_fits x.core c m) (record_of uplink x) (get_or m 1 0 % 32) (short-all x w m) h));
      stays-exhausted = λ d m out e h. rw (gives-passed (open_message d m out) x e, found_none x w (place_of d) m h);
      uses = λ k c two on u. uses-round x w k c two on u;
    }
