-- The lines (docs/HEX-LINES.md, "Calls"), row by row: the form of each, and the call that it is.
use Rattle.std.specs.Prelude.{ℕ, cond, List, [], ◌∷◌, Some, None, length, replicate}
use Rattle.hex_parse.specs.Form.{slot, digits, direction, connection, key, is_row, has_head, from, word, key_word}
use Rattle.hex_parse.specs.Names as name
use Rattle.hex_parse.specs.declared.Call.{Call}
use Rattle.hex_parse.specs.declared.Call.TheVariants.{Bad, New, Restore, Reselect, Window, Seal, Opaque, Initial, Open, EpsSeal, EpsOpen, N1ToS1, VerifyN1ToS1, S1ToN1, VerifyS1ToN1, Raw, Show, Across, WindowIn, SealIn, OpenIn}
use Rattle.hex_parse.specs.declared.Parsed.{Parsed}
use Rattle.hex_parse.specs.Parsed.{line_with, headed_two, headed, plain, ended_of, held_of}

abbrev pub Line : Type 0
Line = Parsed Call 4

-- new S II CC IK CK, and reselect so
abbrev pub selection : List ℕ → List (List ℕ)
selection name = name ∷ slot ∷ digits 2 ∷ digits 2 ∷ key ∷ key ∷ []

-- restore S II CC IK CK N N N N
abbrev pub restore_form : List (List ℕ)
restore_form = name.restore ∷ slot ∷ digits 2 ∷ digits 2 ∷ key ∷ key ∷ digits 8 ∷ digits 8 ∷ digits 8 ∷ digits 8 ∷ []

-- window S WW, and windowin so
abbrev pub sizing : List ℕ → List (List ℕ)
sizing name = name ∷ slot ∷ digits 2 ∷ []

-- seal S TT D C LLLL OCTETS, and opaque and sealin so
abbrev pub sealing : List ℕ → List (List ℕ)
sealing name = name ∷ slot ∷ digits 2 ∷ direction ∷ connection ∷ digits 4 ∷ []

-- initial S C LLLL OCTETS
abbrev pub initial_form : List (List ℕ)
initial_form = name.initial ∷ slot ∷ connection ∷ digits 4 ∷ []

-- open S D C LLLL OCTETS, and openin and across so
abbrev pub opening : List ℕ → List (List ℕ)
opening name = name ∷ slot ∷ direction ∷ connection ∷ digits 4 ∷ []

-- open2 S D C LLLL MMMM OCTETS, and open2in and across2 so
abbrev pub opening2 : List ℕ → List (List ℕ)
opening2 name = name ∷ slot ∷ direction ∷ connection ∷ digits 4 ∷ digits 4 ∷ []

-- epsseal S LLLL OCTETS, and epsopen so
abbrev pub eps_form : List ℕ → List (List ℕ)
eps_form name = name ∷ slot ∷ digits 4 ∷ []

-- n1s1 S, show S, and s1n1v S OCTETS
abbrev pub alone : List ℕ → List (List ℕ)
alone name = name ∷ slot ∷ []

-- n1s1v S NN
abbrev pub octet_form : List (List ℕ)
octet_form = name.n1s1v ∷ slot ∷ digits 2 ∷ []

-- s1n1 S PP KK LLLL
abbrev pub s1n1_form : List (List ℕ)
s1n1_form = name.s1n1 ∷ slot ∷ digits 2 ∷ digits 2 ∷ digits 4 ∷ []

-- raw S II CC IK CK WW N B N B N B N B
abbrev pub raw_form : List (List ℕ)
raw_form =
    name.raw ∷ slot ∷ digits 2 ∷ digits 2 ∷ key ∷ key ∷ digits 2
    ∷ digits 8 ∷ digits 16 ∷ digits 8 ∷ digits 16 ∷ digits 8 ∷ digits 16 ∷ digits 8 ∷ digits 16 ∷ []

abbrev pub no4 : List ℕ
no4 = replicate 4 0

abbrev pub bad : Line
bad = plain 0 Bad

-- creation and reselection: codes and keys
abbrev pub selected : List (List ℕ) → List ℕ → (ℕ → ℕ → Call) → Line
selected form t call =
    line_with (word form t 1) (call (word form t 2) (word form t 3)) (key_word form t 4) (key_word form t 5) no4 no4 0 0 None

unfoldable pub change_line : List ℕ → Line → Line
change_line t other =
    cond (is_row (selection name.new) t) (selected (selection name.new) t New)
    (cond (is_row (selection name.reselect) t) (selected (selection name.reselect) t Reselect)
    (cond (is_row (sizing name.window) t) (plain (word (sizing name.window) t 1) (Window (word (sizing name.window) t 2)))
    other))

-- with next COUNTs
unfoldable pub restore_line : List ℕ → Line
restore_line t =
    line_with (word restore_form t 1) (Restore (word restore_form t 2) (word restore_form t 3)) (key_word restore_form t 4) (key_word restore_form t 5)
    (word restore_form t 6 ∷ word restore_form t 7 ∷ word restore_form t 8 ∷ word restore_form t 9 ∷ [])
    no4 0 0 None

-- with window bits too
unfoldable pub raw_line : List ℕ → Line
raw_line t =
    line_with (word raw_form t 1) (Raw (word raw_form t 2) (word raw_form t 3) (word raw_form t 6)) (key_word raw_form t 4) (key_word raw_form t 5)
    (word raw_form t 7 ∷ word raw_form t 9 ∷ word raw_form t 11 ∷ word raw_form t 13 ∷ [])
    (word raw_form t 8 ∷ word raw_form t 10 ∷ word raw_form t 12 ∷ word raw_form t 14 ∷ [])
    0 0 None

unfoldable pub state_line : List ℕ → Line → Line
state_line t other =
    cond (is_row restore_form t) (restore_line t)
    (cond (is_row raw_form t) (raw_line t)
    (cond (is_row (alone name.show) t) (plain (word (alone name.show) t 1) Show)
    other))

-- the lines of messages, up to their octets
abbrev pub after_head : List (List ℕ) → ℕ
after_head form = from form (length form)

abbrev pub sealed : List (List ℕ) → List ℕ → (ℕ → ℕ → ℕ → Call) → Line
sealed form t call = headed (word form t 1) (call (word form t 2) (word form t 3) (word form t 4)) (word form t 5) (Some (after_head form))

abbrev pub eps : List (List ℕ) → List ℕ → Call → Line
eps form t call = headed (word form t 1) call (word form t 2) (Some (after_head form))

unfoldable pub seal_line : List ℕ → Line → Line
seal_line t other =
    cond (has_head (sealing name.seal) t) (sealed (sealing name.seal) t Seal)
    (cond (has_head (sealing name.opaque) t) (sealed (sealing name.opaque) t Opaque)
    (cond (has_head initial_form t) (headed (word initial_form t 1) (Initial (word initial_form t 2)) (word initial_form t 3) (Some (after_head initial_form)))
    other))

-- the shorter form lends as much to the second output as to the first
abbrev pub opened : List ℕ → List ℕ → (ℕ → ℕ → Call) → Line
opened name t call =
    let form = opening name in
    headed_two (word form t 1) (call (word form t 2) (word form t 3)) (word form t 4) (word form t 4) (Some (after_head form))

abbrev pub opened2 : List ℕ → List ℕ → (ℕ → ℕ → Call) → Line
opened2 name t call =
    let form = opening2 name in
    headed_two (word form t 1) (call (word form t 2) (word form t 3)) (word form t 4) (word form t 5) (Some (after_head form))

unfoldable pub open_line : List ℕ → Line → Line
open_line t other =
    cond (has_head (opening name.open') t) (opened name.open' t Open)
    (cond (has_head (opening2 name.open2) t) (opened2 name.open2 t Open)
    other)

unfoldable pub across_line : List ℕ → Line → Line
across_line t other =
    cond (has_head (opening name.across) t) (opened name.across t Across)
    (cond (has_head (opening2 name.across2) t) (opened2 name.across2 t Across)
    other)

unfoldable pub in_place_line : List ℕ → Line → Line
in_place_line t other =
    cond (has_head (sealing name.sealin) t) (sealed (sealing name.sealin) t SealIn)
    (cond (has_head (opening name.openin) t) (opened name.openin t OpenIn)
    (cond (has_head (opening2 name.open2in) t) (opened2 name.open2in t OpenIn)
    (cond (is_row (sizing name.windowin) t) (plain (word (sizing name.windowin) t 1) (WindowIn (word (sizing name.windowin) t 2)))
    other)))

unfoldable pub eps_line : List ℕ → Line → Line
eps_line t other =
    cond (has_head (eps_form name.epsseal) t) (eps (eps_form name.epsseal) t EpsSeal)
    (cond (has_head (eps_form name.epsopen) t) (eps (eps_form name.epsopen) t EpsOpen)
    other)

unfoldable pub container_line : List ℕ → Line → Line
container_line t other =
    cond (is_row (alone name.n1s1) t) (plain (word (alone name.n1s1) t 1) N1ToS1)
    (cond (is_row octet_form t) (plain (word octet_form t 1) (VerifyN1ToS1 (word octet_form t 2)))
    (cond (is_row s1n1_form t)
    (headed (word s1n1_form t 1) (S1ToN1 (word s1n1_form t 2) (word s1n1_form t 3)) (word s1n1_form t 4) None)
    (cond (has_head (alone name.s1n1v) t) (headed (word (alone name.s1n1v) t 1) VerifyS1ToN1 0 (Some (after_head (alone name.s1n1v))))
    other)))

-- the line up to its octets
abbrev pub beyond_of : List ℕ → Line
beyond_of t = across_line t (in_place_line t bad)

abbrev pub rest_of : List ℕ → Line
rest_of t = change_line t (container_line t (state_line t (beyond_of t)))

unfoldable pub head_of : List ℕ → Line
head_of t = seal_line t (open_line t (eps_line t (rest_of t)))

-- the line, where so many octets can be held; and what holds them
unfoldable pub line_of : List ℕ → ℕ → Line
line_of text room = ended_of bad (head_of text) text room

unfoldable pub octets_in : List ℕ → List ℕ → List ℕ
octets_in text held = held_of (head_of text) text held
