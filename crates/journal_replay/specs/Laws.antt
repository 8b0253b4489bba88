-- What was written replays as the lines themselves: stated here, proved in proofs/Laws.antt.
use Rattle.std.specs.Prelude.{ℕ, ◌≤◌, ◌≡◌, true, List, [], ◌∷◌, IsSome, length}
use Rattle.nas_5gs.specs.declared.Context.{Context}
use Rattle.hex_parse.specs.Lines.{Line}
use Rattle.journal.specs.Items.{items}
use Rattle.journal.specs.Laws.{are_written, records}
use Rattle.journal_calls.specs.Calls.{kind_of}
use Rattle.journal_calls.specs.declared.Call.{Call as Entry}
use Rattle.journal_calls.specs.declared.Call.TheVariants as journal
use Rattle.journal_lines.specs.Lines.{entry_in, bytes_of}
use Rattle.journal_replay.specs.Replay.{answered, replayed}

-- the rooms that a call's record has: what it lends
abbrev pub room_in : Entry → ℕ
room_in journal.Unknown = 0
room_in (journal.New i c) = 0
room_in (journal.Restore i c) = 0
room_in (journal.Reselect i c) = 0
room_in (journal.Window w) = 0
room_in (journal.Seal t p n) = n
room_in (journal.Opaque t p n) = n
room_in (journal.Open p n m) = n
room_in (journal.EpsSeal n) = n
room_in (journal.EpsOpen n) = n
room_in journal.N1ToS1 = 0
room_in (journal.VerifyN1ToS1 o) = 0
room_in (journal.S1ToN1 p k n) = n
room_in journal.VerifyS1ToN1 = 0
room_in (journal.Initial k n) = n

abbrev pub second_in : Entry → ℕ
second_in journal.Unknown = 0
second_in (journal.New i c) = 0
second_in (journal.Restore i c) = 0
second_in (journal.Reselect i c) = 0
second_in (journal.Window w) = 0
second_in (journal.Seal t p n) = 0
second_in (journal.Opaque t p n) = 0
second_in (journal.Open p n m) = m
second_in (journal.EpsSeal n) = 0
second_in (journal.EpsOpen n) = 0
second_in journal.N1ToS1 = 0
second_in (journal.VerifyN1ToS1 o) = 0
second_in (journal.S1ToN1 p k n) = 0
second_in journal.VerifyS1ToN1 = 0
second_in (journal.Initial k n) = 0

-- A line as it is parsed, held whole, that is a call: keys of 16 octets, four next COUNTs, rooms of four digits and only where the call lends.
pub record Held (l : Line) : Type 0 where
  pub whole : IsSome l.octets
  pub called : 1 ≤ kind_of (entry_in l)
  pub integrity : length l.integrity_key ≡ 16
  pub ciphering : length l.ciphering_key ≡ 16
  pub counts : length l.next ≡ 4
  pub room : l.room ≡ room_in (entry_in l)
  pub second : l.second ≡ second_in (entry_in l)

abbrev pub AllHeld : List (Line × List ℕ) → Type 0
AllHeld [] = Unit {0}
AllHeld (l ∷ ls) = Held l.0 × AllHeld ls

-- the calls of their records
abbrev pub records_of : List (Line × List ℕ) → List (ℕ × List ℕ)
records_of [] = []
records_of (l ∷ ls) = (kind_of (entry_in l.0), bytes_of l.0 l.1) ∷ records_of ls

abbrev pub Replays : Type 0
Replays =
    (ls : List (Line × List ℕ)) (x : Context) → AllHeld ls → are_written (records_of ls) ≡ true
    → replayed (items (records (records_of ls))) x ≡ answered ls x
