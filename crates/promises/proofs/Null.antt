-- Null integrity, over the calls.
use Rattle.std.specs.Prelude.{None, Ok, Err}
use Prim.Native.Nat.{ℕ, ◌+◌, ◌%◌, ◌≤◌, ◌<◌}
use mathlib.Core.Path.{◌≡◌, refl, sym, ap, ◌∙◌}
use mathlib.Core.Bool.{Bool, true}
use mathlib.Core.Logic.{inr}
use mathlib.Core.List.{List, [], ◌∷◌}
use native.Mathlib.Omega.{arith}
use lib.ListN.{get_or, drop}
use borrow.Author.Tests.{eqb-true}
use Rattle.count.specs.Rule.{Opening, exhausted, distance, forward_of, forward_only, use_round}
use Rattle.count.specs.declared.Taken.TheVariants.{Late, Forward}
use Rattle.count.specs.declared.Missed.TheVariants.{NoCandidate, WrongCode}
use Rattle.count.specs.Run.{State, Act, stay, uses, forward, late, round, resize, close, act, act_of, used}
use Rattle.count.proofs.Null.{null}
use Rattle.count.proofs.Candidates.{never}
use Rattle.count.proofs.Openings.{answers}
use Rattle.algorithms.specs.Codes.{code_of}
use Rattle.nas_core.specs.Keyed.{wraps, code_by}
use Rattle.nas_core.specs.Verify.{fits, verify_of}
use Rattle.nas_5gs.specs.declared.Context.{Context}
use Rattle.nas_core.specs.declared.Direction.TheVariants.{Uplink}
use Rattle.nas_5gs.specs.OpenAnswer as open'
use Rattle.nas_5gs.specs.EpsOpenAnswer as eps
use Rattle.nas_5gs.specs.Places.{direction_no, bearer_no, place_of, record_at, next_at}
use Rattle.nas_5gs.specs.Leaves.{open_values, eps_open_values}
use Rattle.nas_5gs.specs.Eps.{eps_place, eps_bearer, eps_direction}
use Rattle.nas_5gs.specs.Containers.{container_place, container_bearer, container_direction, s1_count}
use Rattle.promises.specs.Calls.{Call, set_window, reselect, seal5gs, seal_opaque, seal_initial, open5gs, seal_eps, open_eps, make_n1_to_s1, verify_n1_to_s1, make_s1_to_n1, verify_s1_to_n1, gives, place_in}
use Rattle.promises.specs.Words.{record_of, Uses}
use Rattle.promises.specs.Null.{NullHolds}
use Rattle.promise.proofs.Answers.{named}
use Rattle.promises.proofs.Shapes.{holding, next, refusal_of, passing, does, acts, found, plain, opened_as, eps_found, eps_as}
use Rattle.promises.proofs.Soundness.{Four, if-passed, own-after}
use Rattle.promises.proofs.Taking.{open-answering, eps-answering, open-left, eps-left}
use Rattle.promises.proofs.Containers.{verify-passes, verified}

-- a use, if there is one, goes round
abbrev Round : Act → Type 0
Round stay = Unit {0}
Round (uses forward c) = ⊥
Round (uses late c) = ⊥
Round (uses round c) = Unit {0}
Round (resize n) = ⊥
Round close = ⊥

round-only : (fit : ℕ → Bool) (s : State) (n : ℕ) (o : Opening) → forward_only 8 true fit s.at n ≡ o → Round (act_of true o)
round-only fit s n (Ok (Late c)) e = (null 8 fit s n).never-late c e
round-only fit s n (Ok (Forward c)) e = tt
round-only fit s n (Err NoCandidate) e = tt
round-only fit s n (Err WrongCode) e = tt

module _ (x : Context) (w : wraps x.core ≡ true) where
  next-round : (p : ℕ) → Round (next x p)
  next-round p = rw w tt

  verify-only : (p b d q : ℕ) (m : List ℕ)
      → verify_of x.core (record_at x p) b d q m ≡ forward_only 8 true (λ c. fits x.core c b d q m) (record_at x p) (get_or m (q + 4) 0)
  unfolding verify_of
  verify-only p b d q m = rw w (null 8 (λ c. fits x.core c b d q m) (record_of p x) (get_or m (q + 4) 0)).no-late

  verify-round : (p b d q : ℕ) (m : List ℕ) → Round (act_of (wraps x.core) (verify_of x.core (record_at x p) b d q m))
  verify-round p b d q m =
      rw (w, verify-only p b d q m)
      (round-only (λ c. fits x.core c b d q m) (record_of p x) (get_or m (q + 4) 0) (forward_only 8 true (λ c. fits x.core c b d q m) (record_at x p) (get_or m (q + 4) 0)) refl)

  octet-round : (s : ℕ) → Round (passing (verify_n1_to_s1 s) x)
  octet-round s = rw w (round-only (λ c. true) (record_of container_place x) s (forward_only 8 true (λ c. true) (record_at x container_place) s) refl)

  passing-round : (k : Call) → place_in k < 4 → Round (passing k x)
  passing-round (set_window n) on = absurd (omega arith)
  passing-round (reselect i c ik ck) on = absurd (omega arith)
  passing-round (seal5gs t d k inner out) on = next-round (place_of d k)
  passing-round (seal_opaque t d k inner out) on = next-round (place_of d k)
  passing-round (seal_initial k w out) on = next-round (place_of Uplink k)
  passing-round (open5gs d k m out out2) on = verify-round (place_of d k) (bearer_no k) (direction_no d) 2 m
  passing-round (seal_eps inner out) on = next-round eps_place
  passing-round (open_eps m out) on = verify-round eps_place eps_bearer eps_direction 1 m
  passing-round make_n1_to_s1 on = next-round container_place
  passing-round (verify_n1_to_s1 s) on = octet-round s
  passing-round (make_s1_to_n1 ncc ngksi out) on = next-round container_place
  passing-round (verify_s1_to_n1 v) on = next-round container_place

  round-used : (a : Act) (s : State) (c : ℕ) → Round a → used a ≡ c ∷ [] → (act a s).at ≡ record { next = (c + 1) % exhausted; bits = s.at.bits }
  unfolding use_round
  round-used stay s c r e = let z : ◌≡◌ {A = ℕ} 0 1 = cc in absurd (omega arith)
  round-used (uses round n) s c r e = let q : n ≡ c = cc in rw q
  round-used (uses forward n) s c r e = elim r [ ]
  round-used (uses late n) s c r e = elim r [ ]
  round-used (resize _) s c r e = elim r [ ]
  round-used close s c r e = elim r [ ]

  uses-round : (k : Call) (c : ℕ) → Four x → place_in k < 4 → Uses (gives k x) c
      → record_at (gives k x).context (place_in k) ≡ record { next = (c + 1) % exhausted; bits = (record_at x (place_in k)).bits }
  uses-round k c four on u =
      let p = place_in k in
      let e : used (does k x) ≡ c ∷ [] = sym (acts k x four).counts ∙ rw (u.0, u.1) in
      ap (λ (s : State). s.at) (own-after k x four on)
      ∙ round-used (does k x) (record_of p x) c (if-passed Round (refusal_of k x) (passing k x) tt (λ z. passing-round k on)) e

  fits_all : (b d q : ℕ) (m : List ℕ) (c : ℕ) → fits x.core c b d q m ≡ true
  unfolding fits
  fits_all b d q m c = rw w

  code-zero : (c b d : ℕ) (m : List ℕ) → code_by x.core c b d m ≡ 0 ∷ 0 ∷ 0 ∷ 0 ∷ []
  unfolding code_by code_of wraps
  code-zero c b d m = rw (eqb-true x.core.integrity 0 w)

-- what an open call of a message finds whose code begins at octet q, on the record at p
module _ (x : Context) (w : wraps x.core ≡ true) (p b d q : ℕ) (m : List ℕ) where
  abbrev fit : ℕ → Bool
  fit c = fits x.core c b d q m

  abbrev candidate : ℕ
  candidate = (next_at x p + distance 8 (next_at x p) (get_or m (q + 4) 0)) % exhausted

  abbrev taken : Opening
  taken = verify_of x.core (record_at x p) b d q m

  found-round : next_at x p < exhausted → taken ≡ Ok (Forward candidate)
  unfolding forward_only
  found-round h =
      verify-only x w p b d q m
      ∙ (answers fit None (forward_of 8 true (record_at x p) (get_or m (q + 4) 0)) (Ok (Forward candidate))).1
      ((λ c e. never e), (null 8 fit (record_of p x) (get_or m (q + 4) 0)).goes-round h, fits_all x w b d q m candidate)

  found_none : exhausted ≤ next_at x p → taken ≡ Err NoCandidate
  found_none h = verify-only x w p b d q m ∙ (null 8 fit (record_of p x) (get_or m (q + 4) 0)).stays-exhausted h

pub null-holds : NullHolds
null-holds x w =
    record {
      code = code-zero x w;
      passes = λ d k m out out2 e h.
          let b = bearer_no k in let f = direction_no d in let p = place_of d k in
          rw (open-left x d k m out out2 e)
          (named holding open_values open'.Refused (opened_as x p b f m out) (plain x p b f m out) (open-answering x p b f m out) x p out (found x p b f m out)
          (candidate x w p b f 2 m) (inr (found-round x w p b f 2 m h)));
      stays-exhausted = λ d k m out out2 e h.
          rw (open-left x d k m out out2 e, found_none x w (place_of d k) (bearer_no k) (direction_no d) 2 m h);
      passes-eps = λ m out e h.
          rw (eps-left x m out e)
          (named holding eps_open_values eps.Refused (eps_as x m out) (λ c. drop 6 m) (eps-answering x m out) x eps_place out (eps_found x m out)
          (candidate x w eps_place eps_bearer eps_direction 1 m) (inr (found-round x w eps_place eps_bearer eps_direction 1 m h)));
      stays-exhausted-eps = λ m out e h.
          rw (eps-left x m out e, found_none x w eps_place eps_bearer eps_direction 1 m h);
      passes-s1 = λ v fault long short same left.
          (verified x v (verify-passes x v fault long short same left (fits_all x w container_bearer container_direction 0 v s1_count))).0;
      uses = λ k c four on u. uses-round x w k c four on u;
    }
