-- What a context and a call's arguments are where nothing is refused.
use mathlib.Core.Path.{◌≡◌, refl, sym}
use mathlib.Core.Bool.{Bool, true, false, cond, not, ◌||◌}
use mathlib.Core.List.{List, [], ◌∷◌}
use Prim.Native.Nat.{ℕ, ◌+◌, ◌-◌, ◌≤◌, ◌<◌}
use native.Mathlib.Omega.{arith}
use lib.Dec.{ltb, eqb, lit<}
use lib.ListN.{length}
use borrow.Author.Tests.{ltb-false, leb-false, eqb-true, eqb-false}
use Rattle.count.specs.Rule.{exhausted}
use Rattle.refusals.specs.Order.{first}
use Rattle.refusals.proofs.Laws.{passed, off}
use Rattle.nas_core.specs.Types.{wrong_type}
use Rattle.nas_core.proofs.Keys.{core-passed}
use Rattle.nas_eps.specs.declared.Context.{Context}
use Rattle.nas_eps.specs.Places.{uplink, next_at, context_refusals, fault_of}
use Rattle.nas_eps.specs.Octets.{is_request}
use Rattle.nas_eps.specs.Seal.{seal_refusals, seal_refusal, request_refusals, request_refusal}
use Rattle.nas_eps.specs.Open.{wrong_length, form_refusals, form_refusal, open_refusals, open_refusal}

-- 13, 14
pub fault-passed : (x : Context) → fault_of x ≡ 0 → x.core.size ≤ 64
unfolding fault_of
fault-passed x e = (core-passed x.core (passed (context_refusals x) e 0)).2

-- what a call that sends n octets behind a header may rely on
pub record Sends (x : Context) (p header n k : ℕ) : Type 0 where
  pub size : x.core.size ≤ 64
  pub room : header + n ≤ k
  pub next : next_at x p < exhausted

right-type : (t : ℕ) → wrong_type t ≡ false → t ≤ 4
unfolding wrong_type
right-type t e = go (ltb t 1) e
  where
    go : (b : Bool) → b || ltb 4 t ≡ false → t ≤ 4
    go true q = absurd (let z : ◌≡◌ {A = ℕ} 0 1 = cc in omega arith)
    go false q = ltb-false _ _ q

pub seal-passed : (x : Context) (t d : ℕ) (inner : List ℕ) (room : ℕ) → seal_refusal x t d inner room ≡ 0
    → (t ≤ 4) × Sends x d 6 (length inner) room
unfolding seal_refusal
seal-passed x t d inner room e =
    let q = passed (seal_refusals x t d inner room) e in (
      right-type t (off 3 _ (lit< tt) (q 1)),
      record { size = fault-passed x (q 0); room = ltb-false _ _ (off 5 _ (lit< tt) (q 3)); next = leb-false _ _ (off 6 _ (lit< tt) (q 4)) },
    )

pub request-passed : (x : Context) (i room : ℕ) → request_refusal x i room ≡ 0 → (i ≤ 7) × Sends x uplink 4 0 room
unfolding request_refusal
request-passed x i room e =
    let q = passed (request_refusals x i room) e in (
      ltb-false _ _ (off 16 _ (lit< tt) (q 1)),
      record { size = fault-passed x (q 0); room = ltb-false _ _ (off 5 _ (lit< tt) (q 2)); next = leb-false _ _ (off 6 _ (lit< tt) (q 3)) },
    )

-- a list of one
pub first_one : (n : ℕ) → first (n ∷ []) ≡ n
first_one n = go (eqb n 0) refl
  where
    go : (b : Bool) → eqb n 0 ≡ b → cond b 0 n ≡ n
    go true q = sym (eqb-true n 0 q)
    go false q = refl

-- 1, by what the message is
pub form-passed : (m : List ℕ) → form_refusal m ≡ 0 → (0 < length m) × (wrong_length m ≡ false)
unfolding form_refusal
form-passed m e =
    let q = passed (form_refusals m) e in
    let z : length m ≡ 0 → ⊥ = eqb-false _ _ (off 1 _ (lit< tt) (q 0)) in
    (omega arith, off 1 _ (lit< tt) (q 3))

pub request-form : (m : List ℕ) → form_refusal m ≡ 0 → is_request m ≡ true → length m ≡ 4
request-form m e r = go (eqb (length m) 4) refl (simp r at (form-passed m e).1)
  where
    go : (b : Bool) → eqb (length m) 4 ≡ b → not b ≡ false → length m ≡ 4
    go true q f = eqb-true _ _ q
    go false q f = absurd (let z : ◌≡◌ {A = ℕ} 0 1 = cc in omega arith)

pub message-form : (m : List ℕ) → form_refusal m ≡ 0 → is_request m ≡ false → 7 ≤ length m
message-form m e r = ltb-false _ _ (simp r at (form-passed m e).1)

-- an opening
pub record Opens (x : Context) (m : List ℕ) (k : ℕ) : Type 0 where
  pub size : x.core.size ≤ 64
  pub form : form_refusal m ≡ 0
  pub room : is_request m ≡ false → length m - 6 ≤ k

pub open-passed : (x : Context) (d : ℕ) (m : List ℕ) (room : ℕ) → open_refusal x d m room ≡ 0 → Opens x m room
unfolding open_refusal
open-passed x d m room e =
    let q = passed (open_refusals x d m room) e in
    record {
      size = fault-passed x (q 0);
      form = q 1;
      room = λ r. let p = simp r at (passed (open_refusals x d m room) e 3) in ltb-false _ _ (off 5 _ (lit< tt) p);
    }
