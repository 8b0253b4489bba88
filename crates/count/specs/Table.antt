-- Document 01, "Numbers on both sides": P1 to P12; request 4: P13 and P14.
use Rattle.std.specs.Prelude.{ℕ, zero, suc, ◌-◌, ◌≡◌, false, cond, List, [], ◌∷◌, None, Some}
use Rattle.count.specs.declared.Record.{Record}
use Rattle.count.specs.Rule.{forward_of, late_of, open_at}
use Rattle.count.specs.Run.{State, Act, stay, uses, forward, late, round, resize, close, act}

-- the COUNTs open late, in rising order: those at up to d below the highest
unfoldable pub open_to : ℕ → State → List ℕ
open_to zero s = []
open_to (suc d) s =
    cond (open_at s.size s.at (suc d)) ((s.at.next - 1 - suc d) ∷ open_to d s) (open_to d s)

abbrev pub open_late : State → List ℕ
open_late s = open_to s.size s

-- from .. from + n - 1
abbrev pub row : ℕ → ℕ → List ℕ
row zero from = []
row (suc n) from = from ∷ row n (suc from)

abbrev pub next : ℕ → Record
next n = record { next = n; bits = 0 }

abbrev pub fresh : State
fresh = record { size = 0; at = next 0 }

-- acts in the order of the document, the first one first
abbrev pub ◌then◌ : State → Act → State
◌then◌ s a = act a s

infixl 20 ◌then◌
pub record Table : Type 0 where
  pub P1 : forward_of 8 false (next 0) 255 ≡ Some 255
  pub P2 : forward_of 8 false (next 6) 3 ≡ Some 259
  pub P3 : forward_of 8 false (next 300) 43 ≡ Some 555
  pub P4 : forward_of 8 false (next 16777215) 255 ≡ Some 16777215
  pub P5 : forward_of 8 false (next 16777215) 254 ≡ None
  pub P6 : let s = fresh then resize 8 then uses forward 5 in (open_late s ≡ row 5 0) × (s.at.next ≡ 6)
  pub P7 : let s = fresh then resize 8 then uses forward 5 in
      (late_of 8 8 s.at 3 ≡ Some 3) × ((s then uses late 3).at.next ≡ 6) × (late_of 8 8 (s then uses late 3).at 3 ≡ None)
      × (open_late (s then uses late 3) ≡ 0 ∷ 1 ∷ 2 ∷ 4 ∷ [])
  pub P8 : open_late (fresh then resize 8 then uses forward 20) ≡ row 8 12
  pub P9 : open_late (fresh then resize 8 then uses forward 20 then resize 4 then resize 8) ≡ row 4 16
  pub P10 : open_late (fresh then resize 64 then uses forward 0 then uses forward 64) ≡ row 63 1
  pub P11 : open_late (fresh then resize 64 then uses forward 0 then uses forward 65) ≡ row 64 1
  pub P12 : open_late (fresh then uses forward 20 then resize 64) ≡ []
  -- COUNT 5 used, reselected to null, COUNT 6 used there, reselected to 2
  pub P13 : let s = fresh then resize 8 then uses forward 5 then stay then uses round 6 then close in (open_late s ≡ []) × (s.at.next ≡ 7)
  -- COUNT 5 used, reselected from 2 to 2 with other keys
  pub P14 : open_late (fresh then resize 8 then uses forward 5 then stay) ≡ row 5 0
