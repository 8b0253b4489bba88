-- The law of specs/Laws.antt: cells stay from 1 to p.
-- Assumes nothing.
use Rattle.std.proofs.Common.{◌≡◌, ℕ, zero, suc, ◌+◌, ◌-◌, ◌*◌, ◌/◌, ◌%◌, ◌^◌, ◌<◌, ◌≤◌, Bool, true, false, cond, eqb, List, [], ◌∷◌, map, get_or, refl, ◌∙◌, mod-lt, arith, lit<}
use native.Mathlib.Decide.{dec_lt}
use lib.ListN.{get_or-append}
use borrow.Author.Tests.{eqb-false}
use Rattle.aes.specs.Octets.{up_from}
use Rattle.aes.specs.Laws.{Octets}
use Rattle.aes.proofs.Tables.{from, table_at, same-table}
use Rattle.streams.specs.Words.{shifted}
use Rattle.streams.specs.Stream.{after}
use Rattle.zuc.specs.declared.State.{State}
use Rattle.zuc.specs.Register.{p, cell, shift, feedback}
use Rattle.zuc.specs.Nonlinear.{w}
use Rattle.zuc.specs.Keystream.{constants, load, clock, initialise, work, start}
use Rattle.zuc.specs.Laws.{Cells, Laws}

-- a number that is not 0
zero-or-more : (a : ℕ) → (a ≡ 0 → ⊥) → 0 < a
zero-or-more zero k = absurd (k refl)
zero-or-more (suc a) k = omega arith

-- cells stay from 1 to p
cell-range : (v : ℕ) → (0 < cell v) × (cell v ≤ p)
unfolding cell
cell-range v = go (eqb (v % p) 0) (eqb-false (v % p) 0)
  where
    go : (t : Bool) → (t ≡ false → v % p ≡ 0 → ⊥) → (0 < cond t p (v % p)) × (cond t p (v % p) ≤ p)
    go true e = (lit< tt, omega arith)
    go false e = (zero-or-more (v % p) (e refl), omega (arith, mod-lt v {m = p} (lit< tt)))

shift-at : (u : ℕ) (s : List ℕ) (i : ℕ) → i < 15 → get_or (shift u s) i 0 ≡ get_or s (1 + i) 0
unfolding shift shifted
shift-at u s i h =
    let a = map (λ k. get_or s k 0) (up_from 1 15) in
    get_or-append a (cell (feedback s + u) ∷ []) 0 i h ∙ from (λ k. get_or s k 0) 1 15 i h

shift-last : (u : ℕ) (s : List ℕ) → get_or (shift u s) 15 0 ≡ cell (feedback s + u)
unfolding shift shifted
shift-last u s = refl

shift-cells : (u : ℕ) (s : List ℕ) → Cells s → Cells (shift u s)
shift-cells u s h i l = go (dec_lt i 15)
  where
    go : Dec (i < 15) → (0 < get_or (shift u s) i 0) × (get_or (shift u s) i 0 ≤ p)
    go (yes q) = rw (shift-at u s i q) (h (1 + i) (omega arith))
    go (no q) = let e : i ≡ 15 = omega arith in rw (e, shift-last u s) (cell-range (feedback s + u))

constant-range : (i : ℕ) → i < 16 → (0 < get_or constants i 0) × (get_or constants i 0 < 2 ^ 15)
constant-range i h =
    let a : get_or constants i 0 ≡ get_or constants i 0 - 1 + 1 = same-table (λ k. get_or constants k 0) (λ k. get_or constants k 0 - 1 + 1) 16 i refl h in
    let b : get_or constants i 0 ≡ get_or constants i 0 % 2 ^ 15 = same-table (λ k. get_or constants k 0) (λ k. get_or constants k 0 % 2 ^ 15) 16 i refl h in
    let c : get_or constants i 0 % 2 ^ 15 < 2 ^ 15 = mod-lt (get_or constants i 0) (lit< tt) in
    (one_more (get_or constants i 0) a, rw b c)
  where
    one_more : (x : ℕ) → x ≡ x - 1 + 1 → 0 < x
    one_more zero e = absurd (omega arith)
    one_more (suc x) e = omega arith

load_at : (key iv : List ℕ) (i : ℕ) → i < 16 → get_or (load key iv).cells i 0 ≡ get_or key i 0 * 2 ^ 23 + get_or constants i 0 * 2 ^ 8 + get_or iv i 0
unfolding load
load_at key iv i h = table_at (λ k. get_or key k 0 * 2 ^ 23 + get_or constants k 0 * 2 ^ 8 + get_or iv k 0) 16 i h

sum-range : (k d v : ℕ) → k < 256 → v < 256 → 0 < d → d < 2 ^ 15 → (0 < k * 2 ^ 23 + d * 2 ^ 8 + v) × (k * 2 ^ 23 + d * 2 ^ 8 + v ≤ p)
sum-range k d v a b e f = (omega arith, omega arith)

load_cells : (key iv : List ℕ) → Octets key → Octets iv → Cells (load key iv).cells
load_cells key iv a b i h =
    let d = constant-range i h in
    rw (load_at key iv i h) (sum-range (get_or key i 0) (get_or constants i 0) (get_or iv i 0) (a i) (b i) d.0 d.1)

clock-cells : (u : ℕ) (x : State) → Cells x.cells → Cells (clock u x).cells
unfolding clock
clock-cells u x h = shift-cells u x.cells h

work-cells : (x : State) → Cells x.cells → Cells (work x).cells
unfolding work
work-cells x h = clock-cells 0 x h

initialised-cells : (n : ℕ) (x : State) → Cells x.cells → Cells (after initialise n x).cells
unfolding after initialise
initialised-cells zero x h = h
initialised-cells (suc n) x h = clock-cells (w (after initialise n x) / 2) (after initialise n x) (initialised-cells n x h)

after-cells : (n : ℕ) (x : State) → Cells x.cells → Cells (after work n x).cells
unfolding after
after-cells zero x h = h
after-cells (suc n) x h = work-cells (after work n x) (after-cells n x h)

start-cells : (key iv : List ℕ) → Octets key → Octets iv → Cells (start key iv).cells
unfolding start
start-cells key iv a b = work-cells (after initialise 32 (load key iv)) (initialised-cells 32 (load key iv) (load_cells key iv a b))

pub laws : (key iv : List ℕ) → Laws key iv
laws key iv = record { cells = λ a b n. after-cells n (start key iv) (start-cells key iv a b) }
