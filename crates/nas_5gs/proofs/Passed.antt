-- What a context and a call's arguments are where nothing is refused.
use mathlib.Core.Path.{◌≡◌, refl}
use mathlib.Core.Bool.{Bool, true, false, not, cond, ◌&&◌, ◌||◌}
use mathlib.Core.List.{List}
use Prim.Native.Nat.{ℕ, ◌+◌, ◌-◌, ◌≤◌, ◌<◌, min}
use native.Mathlib.Omega.{arith}
use lib.Dec.{eqb, ltb, lit<}
use lib.ListN.{length}
use borrow.Author.Tests.{ltb-false, leb-false, eqb-false}
use Rattle.count.specs.Rule.{exhausted}
use Rattle.refusals.proofs.Laws.{passed, off}
use Rattle.nas_core.specs.Refusals.{limit}
use Rattle.nas_core.proofs.Keys.{core-passed}
pub use Rattle.nas_core.proofs.Choices.{late-near, ahead-near}
use Rattle.initial.specs.Messages.{is_initial, mandatory_length}
use Rattle.initial.specs.Outer.{is_hideable, outer_length}
use Rattle.initial.proofs.Laws.{laws}
use Rattle.nas_5gs.specs.declared.Context.{Context}
use Rattle.nas_5gs.specs.Places.{next_at, context_refusals, fault_of}
use Rattle.nas_5gs.specs.Seal.{seal_refusals, seal_refusal, opaque_refusals, opaque_refusal}
use Rattle.nas_5gs.specs.Initial.{initial_refusals, initial_refusal}
use Rattle.nas_5gs.specs.Open.{open_refusals, open_refusal, room_for}
use Rattle.nas_5gs.specs.Eps.{eps_place, seal_eps_refusals, seal_eps_refusal, open_eps_refusals, open_eps_refusal}
use Rattle.nas_5gs.specs.Containers.{container_place, s1_to_n1_refusals, s1_to_n1_refusal, verify_s1_to_n1_refusals, verify_s1_to_n1_refusal}

-- 13, 14
pub fault-passed : (x : Context) → fault_of x ≡ 0 → (x.core.integrity ≤ 15) × (x.core.ciphering ≤ 15) × (x.core.size ≤ 64)
unfolding fault_of
fault-passed x e = core-passed x.core (passed (context_refusals x) e 0)

-- what a call that sends n octets behind a header may rely on
pub record Sends (x : Context) (p header n k : ℕ) : Type 0 where
  pub size : x.core.size ≤ 64
  pub short : n ≤ limit
  pub room : header + n ≤ k
  pub next : next_at x p < exhausted

-- and a call that hands over what is behind the header of a message of n octets
pub record Hands (x : Context) (header n k : ℕ) : Type 0 where
  pub size : x.core.size ≤ 64
  pub whole : header ≤ n
  pub room : n - header ≤ k

pub seal-passed : (x : Context) (t p d : ℕ) (inner : List ℕ) (room : ℕ) → seal_refusal x t p d inner room ≡ 0 → Sends x p 7 (length inner) room
unfolding seal_refusal
seal-passed x t p d inner room e =
    let q = passed (seal_refusals x t p d inner room) e in
    record { size = (fault-passed x (q 0)).2; short = ltb-false _ _ (off 4 _ (lit< tt) (q 5)); room = ltb-false _ _ (off 5 _ (lit< tt) (q 6)); next = leb-false _ _ (off 6 _ (lit< tt) (q 7)) }

pub opaque-passed : (x : Context) (t p : ℕ) (inner : List ℕ) (room : ℕ) → opaque_refusal x t p inner room ≡ 0 → Sends x p 7 (length inner) room
unfolding opaque_refusal
opaque-passed x t p inner room e =
    let q = passed (opaque_refusals x t p inner room) e in
    record { size = (fault-passed x (q 0)).2; short = ltb-false _ _ (off 4 _ (lit< tt) (q 2)); room = ltb-false _ _ (off 5 _ (lit< tt) (q 3)); next = leb-false _ _ (off 6 _ (lit< tt) (q 4)) }

pub initial-passed : (x : Context) (p : ℕ) (w : List ℕ) (room : ℕ) → initial_refusal x p w room ≡ 0 → Sends x p 7 (outer_length w) room
unfolding initial_refusal
initial-passed x p w room e =
    let q = passed (initial_refusals x p w room) e in
    record { size = (fault-passed x (q 0)).2; short = ltb-false _ _ (off 4 _ (lit< tt) (q 3)); room = ltb-false _ _ (off 5 _ (lit< tt) (q 4)); next = leb-false _ _ (off 6 _ (lit< tt) (q 5)) }

is_true : (b : Bool) → not b ≡ false → b ≡ true
is_true true e = refl
is_true false e = absurd (let z : ◌≡◌ {A = ℕ} 0 1 = cc in omega arith)

-- and what is said of its message
pub initial-is : (x : Context) (p : ℕ) (w : List ℕ) (room : ℕ) → initial_refusal x p w room ≡ 0 → (is_initial w ≡ true) × (is_hideable w ≡ true)
unfolding initial_refusal
initial-is x p w room e =
    let q = passed (initial_refusals x p w room) e in
    (is_true (is_initial w) (off 9 _ (lit< tt) (q 1)), is_true (is_hideable w) (off 18 _ (lit< tt) (q 2)))

pub initial-whole : (x : Context) (p : ℕ) (w : List ℕ) (room : ℕ) → initial_refusal x p w room ≡ 0 → mandatory_length w ≤ length w
initial-whole x p w room e = (laws.walks w).whole (initial-is x p w room e).1

pub seal-eps-passed : (x : Context) (inner : List ℕ) (room : ℕ) → seal_eps_refusal x inner room ≡ 0 → Sends x eps_place 6 (length inner) room
unfolding seal_eps_refusal
seal-eps-passed x inner room e =
    let q = passed (seal_eps_refusals x inner room) e in
    record { size = (fault-passed x (q 0)).2; short = ltb-false _ _ (off 4 _ (lit< tt) (q 2)); room = ltb-false _ _ (off 5 _ (lit< tt) (q 3)); next = leb-false _ _ (off 6 _ (lit< tt) (q 4)) }

pub open-passed : (x : Context) (m : List ℕ) (room : ℕ) → open_refusal x m room ≡ 0 → Hands x 7 (length m) room
unfolding open_refusal
open-passed x m room e =
    let q = passed (open_refusals x m room) e in
    record { size = (fault-passed x (q 0)).2; whole = ltb-false _ _ (off 1 _ (lit< tt) (q 1)); room = ltb-false _ _ (off 5 _ (lit< tt) (q 6)) }

-- the room of both outputs, by the one that is asked for
pub rooms : (t d n room second : ℕ) → n ≤ room_for t d room second → (n ≤ room) × (t ≡ 1 → d ≡ 0 → n ≤ second)
unfolding room_for
rooms t d n room second h = go (eqb t 1) (eqb d 0) refl refl h
  where
    go : (a b : Bool) → eqb t 1 ≡ a → eqb d 0 ≡ b → n ≤ cond (a && b) (min room second) room → (n ≤ room) × (t ≡ 1 → d ≡ 0 → n ≤ second)
    go true true p q k = (omega arith, λ t1 d0. omega arith)
    go true false p q k = (k, λ t1 d0. absurd (eqb-false d 0 q d0))
    go false b p q k = (k, λ t1 d0. absurd (eqb-false t 1 p t1))

pub open-eps-passed : (x : Context) (m : List ℕ) (room : ℕ) → open_eps_refusal x m room ≡ 0 → Hands x 6 (length m) room
unfolding open_eps_refusal
open-eps-passed x m room e =
    let q = passed (open_eps_refusals x m room) e in
    record { size = (fault-passed x (q 0)).2; whole = ltb-false _ _ (off 1 _ (lit< tt) (q 1)); room = ltb-false _ _ (off 5 _ (lit< tt) (q 4)) }

neither : (s t : Bool) → s || t ≡ false → (s ≡ false) × (t ≡ false)
neither true t e = absurd (let z : ◌≡◌ {A = ℕ} 0 1 = cc in omega arith)
neither false t e = (refl, e)

-- and the call that makes an S1-to-N1 container
pub record Makes (x : Context) (n g k : ℕ) : Type 0 where
  pub integrity : x.core.integrity ≤ 15
  pub ciphering : x.core.ciphering ≤ 15
  pub size : x.core.size ≤ 64
  pub ncc : n ≤ 7
  pub ngksi : g ≤ 15
  pub room : 8 ≤ k
  pub next : next_at x container_place < exhausted

pub s1-passed : (x : Context) (ncc ngksi room : ℕ) → s1_to_n1_refusal x ncc ngksi room ≡ 0 → Makes x ncc ngksi room
unfolding s1_to_n1_refusal
s1-passed x ncc ngksi room e =
    let q = passed (s1_to_n1_refusals x ncc ngksi room) e in
    let f = fault-passed x (q 0) in
    let n = neither (ltb 7 ncc) (ltb 15 ngksi) (off 16 _ (lit< tt) (q 1)) in
    record { integrity = f.0; ciphering = f.1; size = f.2; ncc = ltb-false _ _ n.0; ngksi = ltb-false _ _ n.1; room = ltb-false _ _ (off 5 _ (lit< tt) (q 2)); next = leb-false _ _ (off 6 _ (lit< tt) (q 3)) }

pub verify-s1-passed : (x : Context) (v : List ℕ) → verify_s1_to_n1_refusal x v ≡ 0 → (x.core.size ≤ 64) × (next_at x container_place < exhausted)
unfolding verify_s1_to_n1_refusal
verify-s1-passed x v e =
    let q = passed (verify_s1_to_n1_refusals x v) e in
    ((fault-passed x (q 0)).2, leb-false _ _ (off 6 _ (lit< tt) (q 4)))
