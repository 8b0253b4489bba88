-- The calls of a journal (document 02, item 10), kind by kind: the bytes that a call begins with, and the call that bytes begin with. What stands behind them is
-- IK and CK, for a restore then the four next COUNTs; the message; or the value of S1-to-N1.
use Rattle.std.specs.Prelude.{ℕ, ◌%◌, List, [], ◌∷◌, ◌++◌, length, get_or, drop}
use Rattle.journal_calls.specs.declared.Call.{Call}
use Rattle.journal_calls.specs.declared.Call.TheVariants.{Unknown, New, Restore, Reselect, Window, Seal, Opaque, Open, EpsSeal, EpsOpen, N1ToS1, VerifyN1ToS1, S1ToN1, VerifyS1ToN1, Initial}
use Rattle.journal_calls.specs.Fields.{two, room_at}

abbrev pub kind_of : Call → ℕ
kind_of Unknown = 0x00
kind_of (New i c) = 0x01
kind_of (Restore i c) = 0x02
kind_of (Reselect i c) = 0x03
kind_of (Window n) = 0x04
kind_of (Seal t p r) = 0x05
kind_of (Opaque t p r) = 0x06
kind_of (Open p r s) = 0x07
kind_of (EpsSeal r) = 0x08
kind_of (EpsOpen r) = 0x09
kind_of N1ToS1 = 0x0A
kind_of (VerifyN1ToS1 o) = 0x0B
kind_of (S1ToN1 n k r) = 0x0C
kind_of VerifyS1ToN1 = 0x0D
kind_of (Initial c r) = 0x0E

abbrev pub front_of : Call → List ℕ
front_of Unknown = []
front_of (New i c) = i ∷ c ∷ []
front_of (Restore i c) = i ∷ c ∷ []
front_of (Reselect i c) = i ∷ c ∷ []
front_of (Window n) = n ∷ []
front_of (Seal t p r) = t ∷ p ∷ two r
front_of (Opaque t p r) = t ∷ p ∷ two r
front_of (Open p r s) = p ∷ (two r ++ two s)
front_of (EpsSeal r) = two r
front_of (EpsOpen r) = two r
front_of N1ToS1 = []
front_of (VerifyN1ToS1 o) = o ∷ []
front_of (S1ToN1 n k r) = n ∷ k ∷ two r
front_of VerifyS1ToN1 = []
front_of (Initial c r) = c ∷ two r

-- of the octet of a place the two low bits count, of a connection's the low one
abbrev pub place_at : List ℕ → ℕ → ℕ
place_at o i = get_or o i 0 % 4

abbrev pub connection_at : List ℕ → ℕ → ℕ
connection_at o i = get_or o i 0 % 2

-- the calls that bytes o begin with, by kind from 00 on
abbrev pub calls_at : List ℕ → List Call
calls_at o =
    Unknown
    ∷ New (get_or o 0 0) (get_or o 1 0)
    ∷ Restore (get_or o 0 0) (get_or o 1 0)
    ∷ Reselect (get_or o 0 0) (get_or o 1 0)
    ∷ Window (get_or o 0 0)
    ∷ Seal (get_or o 0 0) (place_at o 1) (room_at o 2)
    ∷ Opaque (get_or o 0 0) (place_at o 1) (room_at o 2)
    ∷ Open (place_at o 0) (room_at o 1) (room_at o 3)
    ∷ EpsSeal (room_at o 0)
    ∷ EpsOpen (room_at o 0)
    ∷ N1ToS1
    ∷ VerifyN1ToS1 (get_or o 0 0)
    ∷ S1ToN1 (get_or o 0 0) (get_or o 1 0) (room_at o 2)
    ∷ VerifyS1ToN1
    ∷ Initial (connection_at o 0) (room_at o 1)
    ∷ []

unfoldable pub call_of : ℕ → List ℕ → Call
call_of kind o = get_or (calls_at o) kind Unknown

-- what stands behind the front
unfoldable pub rest_of : ℕ → List ℕ → List ℕ
rest_of kind o = drop (length (front_of (call_of kind o))) o
