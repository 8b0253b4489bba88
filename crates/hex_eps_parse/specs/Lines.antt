-- The EPS lines (docs/HEX-LINES.md, "EPS calls"), row by row: the form of each, and the call that it is.
use Rattle.std.specs.Prelude.{ℕ, cond, List, [], ◌∷◌, Some, None, replicate}
use Rattle.hex_parse.specs.Form.{slot, digits, direction, key, is_row, has_head, word, key_word}
use Rattle.hex_parse.specs.Lines.{selection, alone, after_head}
use Rattle.hex_parse.specs.Parsed.{line_with, headed, plain, ended_of, held_of}
use Rattle.hex_parse.specs.declared.Parsed.{Parsed}
use Rattle.hex_eps_parse.specs.Names as name
use Rattle.hex_eps_parse.specs.declared.Call.{Call}
use Rattle.hex_eps_parse.specs.declared.Call.TheVariants.{Bad, New, Restore, Reselect, Window, Seal, Request, Open, Raw, Show}

abbrev pub Line : Type 0
Line = Parsed Call 2

-- enew S II CC IK CK and ereselect so, eshow S: `selection` and `alone`, as new, reselect and show

-- ewindow S WW
abbrev pub window_form : List (List ℕ)
window_form = name.ewindow ∷ slot ∷ digits 2 ∷ []

-- erestore S II CC IK CK N N
abbrev pub restore_form : List (List ℕ)
restore_form = name.erestore ∷ slot ∷ digits 2 ∷ digits 2 ∷ key ∷ key ∷ digits 8 ∷ digits 8 ∷ []

-- eseal S TT D LLLL OCTETS
abbrev pub seal_form : List (List ℕ)
seal_form = name.eseal ∷ slot ∷ digits 2 ∷ direction ∷ digits 4 ∷ []

-- esr S KK LLLL
abbrev pub request_form : List (List ℕ)
request_form = name.esr ∷ slot ∷ digits 2 ∷ digits 4 ∷ []

-- eopen S D LLLL OCTETS
abbrev pub open_form : List (List ℕ)
open_form = name.eopen ∷ slot ∷ direction ∷ digits 4 ∷ []

-- eraw S II CC IK CK WW N B N B
abbrev pub raw_form : List (List ℕ)
raw_form =
    name.eraw ∷ slot ∷ digits 2 ∷ digits 2 ∷ key ∷ key ∷ digits 2 ∷ digits 8 ∷ digits 16 ∷ digits 8 ∷ digits 16 ∷ []

abbrev pub no2 : List ℕ
no2 = replicate 2 0

abbrev pub bad : Line
bad = plain 0 Bad

-- creation and reselection: codes and keys
abbrev pub selected : List (List ℕ) → List ℕ → (ℕ → ℕ → Call) → Line
selected form t call =
    line_with (word form t 1) (call (word form t 2) (word form t 3)) (key_word form t 4) (key_word form t 5) no2 no2 0 0 None

unfoldable pub change_line : List ℕ → Line → Line
change_line t other =
    cond (is_row (selection name.enew) t) (selected (selection name.enew) t New)
    (cond (is_row (selection name.ereselect) t) (selected (selection name.ereselect) t Reselect)
    (cond (is_row window_form t) (plain (word window_form t 1) (Window (word window_form t 2)))
    other))

-- with next COUNTs
unfoldable pub restore_line : List ℕ → Line
restore_line t =
    line_with (word restore_form t 1) (Restore (word restore_form t 2) (word restore_form t 3)) (key_word restore_form t 4) (key_word restore_form t 5)
    (word restore_form t 6 ∷ word restore_form t 7 ∷ [])
    no2 0 0 None

-- with window bits too
unfoldable pub raw_line : List ℕ → Line
raw_line t =
    line_with (word raw_form t 1) (Raw (word raw_form t 2) (word raw_form t 3) (word raw_form t 6)) (key_word raw_form t 4) (key_word raw_form t 5)
    (word raw_form t 7 ∷ word raw_form t 9 ∷ [])
    (word raw_form t 8 ∷ word raw_form t 10 ∷ [])
    0 0 None

unfoldable pub state_line : List ℕ → Line → Line
state_line t other =
    cond (is_row restore_form t) (restore_line t)
    (cond (is_row raw_form t) (raw_line t)
    (cond (is_row (alone name.eshow) t) (plain (word (alone name.eshow) t 1) Show)
    other))

-- the lines of messages, up to their octets
unfoldable pub message_line : List ℕ → Line → Line
message_line t other =
    cond (has_head seal_form t) (headed (word seal_form t 1) (Seal (word seal_form t 2) (word seal_form t 3)) (word seal_form t 4) (Some (after_head seal_form)))
    (cond (has_head open_form t) (headed (word open_form t 1) (Open (word open_form t 2)) (word open_form t 3) (Some (after_head open_form)))
    (cond (is_row request_form t) (headed (word request_form t 1) (Request (word request_form t 2)) (word request_form t 3) None)
    other))

-- the line up to its octets
unfoldable pub head_of : List ℕ → Line
head_of t = message_line t (change_line t (state_line t bad))

-- the line, where so many octets can be held, as of the 5GS lines; and what holds them
unfoldable pub line_of : List ℕ → ℕ → Line
line_of text room = ended_of bad (head_of text) text room

unfoldable pub octets_in : List ℕ → List ℕ → List ℕ
octets_in text held = held_of (head_of text) text held
