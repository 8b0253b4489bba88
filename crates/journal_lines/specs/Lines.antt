-- A hex line as a call of a journal, and a call of a journal as a hex line on slot 0 (document 02, item 10, "The programs").
use Rattle.std.specs.Prelude.{ℕ, ◌+◌, ◌/◌, ◌%◌, min, cond, List, ◌++◌, Option, Some, None, eqb, length}
use Rattle.hex_parse.specs.declared.Call.{Call}
use Rattle.hex_parse.specs.declared.Call.TheVariants as hex
use Rattle.hex_parse.specs.Parsed.{line_with, with, headed_two}
use Rattle.hex_parse.specs.Lines.{Line, no4}
use Rattle.journal.specs.Write.{Refused, Writes, writes, write_of}
use Rattle.journal_calls.specs.declared.Call.{Call as Entry}
use Rattle.journal_calls.specs.declared.Call.TheVariants as journal
use Rattle.journal_calls.specs.Fields.{key_at, counts_in, counts_of}
use Rattle.journal_calls.specs.Calls.{kind_of, front_of, call_of, rest_of}

-- a line's direction is 0 or 1, its connection 1 or 2
unfoldable pub place_of : ℕ → ℕ → ℕ
place_of d k = cond (eqb k 1) (cond (eqb d 0) 0 1) (cond (eqb d 0) 2 3)

unfoldable pub access_of : ℕ → ℕ
access_of k = cond (eqb k 1) 0 1

-- the call of a line with n octets of output lent and m of second output, as a journal has it; the lines that request 10 does not name (`raw`, `show`, `across`, those in place) and what is no line are none
abbrev pub entry_of : Call → ℕ → ℕ → Entry
entry_of hex.Bad n m = journal.Unknown
entry_of (hex.New i c) n m = journal.New i c
entry_of (hex.Restore i c) n m = journal.Restore i c
entry_of (hex.Reselect i c) n m = journal.Reselect i c
entry_of (hex.Window w) n m = journal.Window w
entry_of (hex.Seal t d k) n m = journal.Seal t (place_of d k) n
entry_of (hex.Opaque t d k) n m = journal.Opaque t (place_of d k) n
entry_of (hex.Initial k) n m = journal.Initial (access_of k) n
entry_of (hex.Open d k) n m = journal.Open (place_of d k) n m
entry_of hex.EpsSeal n m = journal.EpsSeal n
entry_of hex.EpsOpen n m = journal.EpsOpen n
entry_of hex.N1ToS1 n m = journal.N1ToS1
entry_of (hex.VerifyN1ToS1 o) n m = journal.VerifyN1ToS1 o
entry_of (hex.S1ToN1 p k) n m = journal.S1ToN1 p k n
entry_of hex.VerifyS1ToN1 n m = journal.VerifyS1ToN1
entry_of (hex.Raw i c w) n m = journal.Unknown
entry_of hex.Show n m = journal.Unknown
entry_of (hex.Across d k) n m = journal.Unknown
entry_of (hex.WindowIn w) n m = journal.Unknown
entry_of (hex.SealIn t d k) n m = journal.Unknown
entry_of (hex.OpenIn d k) n m = journal.Unknown

-- what stands behind the front of its bytes: keys, keys and next COUNTs, or the line's octets o
abbrev pub rest_in : Entry → Line → List ℕ → List ℕ
rest_in (journal.New i c) l o = l.integrity_key ++ l.ciphering_key
rest_in (journal.Restore i c) l o = l.integrity_key ++ (l.ciphering_key ++ counts_of l.next)
rest_in (journal.Reselect i c) l o = l.integrity_key ++ l.ciphering_key
rest_in e l o = o

-- a room of more than 65,535 octets is written so
unfoldable pub entry_in : Line → Entry
entry_in l = entry_of l.call (min l.room 65535) (min l.second 65535)

unfoldable pub bytes_of : Line → List ℕ → List ℕ
bytes_of l o = front_of (entry_in l) ++ rest_in (entry_in l) l o

-- more octets than the program holds: 4. What is no call has no kind: 1
abbrev pub long_number : Entry → ℕ
long_number e = cond (eqb (kind_of e) 0) 1 4

abbrev pub written_as : Option ℕ → Line → List ℕ → List ℕ → Writes
written_as None l o out = writes (Refused (long_number (entry_of l.call 0 0))) out
written_as (Some n) l o out = write_of (kind_of (entry_in l)) (bytes_of l o) out

unfoldable pub written_of : Line → List ℕ → List ℕ → Writes
written_of l o out = written_as l.octets l o out

-- the other way: a line with keys, and one with octets r, n octets of output lent and m of second output
abbrev pub keyed : Call → List ℕ → List ℕ → Line
keyed call next r = line_with 0 call (key_at r 0) (key_at r 16) next no4 0 0 None

abbrev pub headed : Call → ℕ → ℕ → List ℕ → Line
headed call n m r = with (Some (length r)) (headed_two 0 call n m None)

abbrev pub line_for : Entry → List ℕ → Line
line_for journal.Unknown r = headed hex.Bad 0 0 r
line_for (journal.New i c) r = keyed (hex.New i c) no4 r
line_for (journal.Restore i c) r = keyed (hex.Restore i c) (counts_in r) r
line_for (journal.Reselect i c) r = keyed (hex.Reselect i c) no4 r
line_for (journal.Window w) r = headed (hex.Window w) 0 0 r
line_for (journal.Seal t p n) r = headed (hex.Seal t (p % 2) (p / 2 + 1)) n 0 r
line_for (journal.Opaque t p n) r = headed (hex.Opaque t (p % 2) (p / 2 + 1)) n 0 r
line_for (journal.Open p n m) r = headed (hex.Open (p % 2) (p / 2 + 1)) n m r
line_for (journal.EpsSeal n) r = headed hex.EpsSeal n 0 r
line_for (journal.EpsOpen n) r = headed hex.EpsOpen n 0 r
line_for journal.N1ToS1 r = headed hex.N1ToS1 0 0 r
line_for (journal.VerifyN1ToS1 o) r = headed (hex.VerifyN1ToS1 o) 0 0 r
line_for (journal.S1ToN1 p k n) r = headed (hex.S1ToN1 p k) n 0 r
line_for journal.VerifyS1ToN1 r = headed hex.VerifyS1ToN1 0 0 r
line_for (journal.Initial k n) r = headed (hex.Initial (k % 2 + 1)) n 0 r

unfoldable pub line_of : ℕ → List ℕ → Line
line_of kind bytes = line_for (call_of kind bytes) (rest_of kind bytes)
