-- Document 2 (TS 35.222) 3.2: no cell is ever 0 or above p. Proved in proofs/Cells.antt.
-- Assumes nothing.
use Rattle.std.specs.Prelude.{ℕ, ◌<◌, ◌≤◌, List, slice_index}
use Rattle.aes.specs.Laws.{Octets}
use Rattle.streams.specs.Stream.{after}
use Rattle.zuc.specs.Register.{p}
use Rattle.zuc.specs.Keystream.{work, start}

-- every cell is a number from 1 to p
abbrev pub Cells : List ℕ → Type 0
Cells s = (i : ℕ) → i < 16 → (0 < slice_index s i) × (slice_index s i ≤ p)

pub record Laws (key iv : List ℕ) : Type 0 where
  pub cells : Octets key → Octets iv → (n : ℕ) → Cells (after work n (start key iv)).cells
