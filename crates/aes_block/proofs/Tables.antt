-- What stands in the table of a function. Two functions with one table, which is one computed test, are equal at each of its places.
-- Assumes nothing.
use mathlib.Core.Path.{◌≡◌, ap, sym, ◌∙◌}
use mathlib.Core.List.{List, map}
use Prim.Native.Nat.{ℕ, zero, suc, ◌+◌, ◌<◌}
use native.Mathlib.Nat.{add-zero, zero-add, add-suc, suc-add, le_of_suc-le-suc, not-suc-le-zero}
use lib.ListN.{get_or}
use Rattle.aes_block.specs.Octets.{up_from, below}

pub from : (f : ℕ → ℕ) (i n k : ℕ) → k < n → get_or (map f (up_from i n)) k 0 ≡ f (i + k)
from f i zero k h = absurd (not-suc-le-zero h)
from f i (suc n) zero h = ap f (sym (add-zero i))
from f i (suc n) (suc k) h = from f (suc i) n k (le_of_suc-le-suc h) ∙ ap f (suc-add i k ∙ sym (add-suc i k))

pub table_at : (f : ℕ → ℕ) (n k : ℕ) → k < n → get_or (map f (below n)) k 0 ≡ f k
table_at f n k h = from f 0 n k h ∙ ap f (zero-add k)

pub same-table : (f g : ℕ → ℕ) (n k : ℕ) → map f (below n) ≡ map g (below n) → k < n → f k ≡ g k
same-table f g n k e h = sym (table_at f n k h) ∙ ap (λ (l : List ℕ). get_or l k 0) e ∙ table_at g n k h

from-twice : (g f : ℕ → ℕ) (i n k : ℕ) → k < n → get_or (map g (map f (up_from i n))) k 0 ≡ g (f (i + k))
from-twice g f i zero k h = absurd (not-suc-le-zero h)
from-twice g f i (suc n) zero h = ap (λ (x : ℕ). g (f x)) (sym (add-zero i))
from-twice g f i (suc n) (suc k) h =
    from-twice g f (suc i) n k (le_of_suc-le-suc h) ∙ ap (λ (x : ℕ). g (f x)) (suc-add i k ∙ sym (add-suc i k))

-- the table of a table
pub table-of-table : (g f : ℕ → ℕ) (n k : ℕ) → k < n → get_or (map g (map f (below n))) k 0 ≡ g (f k)
table-of-table g f n k h = from-twice g f 0 n k h ∙ ap (λ (x : ℕ). g (f x)) (zero-add k)
