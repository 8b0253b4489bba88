-- A line as it is parsed: a call on a slot, with what stands beside it; what its octets make of it. Assumes nothing.
use Rattle.std.specs.Prelude.{ℕ, ◌+◌, Bool, cond, ◌&&◌, List, Option, Some, None, Result, Ok, Err, eqb, length, get_or, drop, replicate}
use Rattle.hex_lines.specs.Line.{decoded_of, written}
use Rattle.hex_lines.specs.declared.NotDecoded.{NotDecoded}
use Rattle.hex_lines.specs.declared.NotDecoded.TheVariants as why
use Rattle.hex_parse.specs.Form.{number_at, key_at}
use Rattle.hex_parse.specs.declared.Parsed.{Parsed}

-- a call on a slot, with keys, next COUNTs and window bits beside it; how much output and second output is lent; where its octets begin
abbrev pub line_with : {C : Type 0} {N : ℕ} → ℕ → C → List ℕ → List ℕ → List ℕ → List ℕ → ℕ → ℕ → Option ℕ → Parsed C N
line_with s call ik ck next bits n m at =
    record { slot = s; call = call; integrity_key = ik; ciphering_key = ck; next = next; bits = bits; room = n; second = m; from = at; octets = Some 0 }

abbrev pub no_key : List ℕ
no_key = replicate 16 0

abbrev pub headed_two : {C : Type 0} {N : ℕ} → ℕ → C → ℕ → ℕ → Option ℕ → Parsed C N
headed_two {N = N} s call n m at = line_with s call no_key no_key (replicate N 0) (replicate N 0) n m at

abbrev pub headed : {C : Type 0} {N : ℕ} → ℕ → C → ℕ → Option ℕ → Parsed C N
headed s call n at = headed_two s call n 0 at

abbrev pub plain : {C : Type 0} {N : ℕ} → ℕ → C → Parsed C N
plain s call = headed s call 0 None

-- with two keys, whose slot stands at a place
abbrev pub selected_at : {C : Type 0} {N : ℕ} → List ℕ → ℕ → C → Parsed C N
selected_at {N = N} t at call =
    line_with (number_at t at 1) call (key_at t (at + 8)) (key_at t (at + 41)) (replicate N 0) (replicate N 0) 0 0 None

-- so many octets, or more than there is room for
abbrev pub with : {C : Type 0} {N : ℕ} → Option ℕ → Parsed C N → Parsed C N
with n l =
    record { slot = l.slot; call = l.call; integrity_key = l.integrity_key; ciphering_key = l.ciphering_key; next = l.next; bits = l.bits; room = l.room; second = l.second; from = l.from; octets = n }

-- the octets at the end: `-` for none, else an even run of digits that is not empty, held or more than there is room for
abbrev pub counted : {C : Type 0} {N : ℕ} → Parsed C N → Parsed C N → Result ℕ NotDecoded → Parsed C N
counted bad l (Err why.Bad) = bad
counted bad l (Err why.Long) = with None l
counted bad l (Ok n) = with (Some n) l

-- `-` is 45
unfoldable pub is_none : List ℕ → Bool
is_none text = eqb (length text) 1 && eqb (get_or text 0 0) 45

unfoldable pub with_octets : {C : Type 0} {N : ℕ} → Parsed C N → Parsed C N → List ℕ → ℕ → Parsed C N
with_octets bad l text room =
    cond (eqb (length text) 0) bad (cond (is_none text) l (counted bad l (decoded_of text room)))

-- the line of a text that is l up to its octets, where so many of them can be held; and what holds them
abbrev pub ended_from : {C : Type 0} {N : ℕ} → Option ℕ → Parsed C N → Parsed C N → List ℕ → ℕ → Parsed C N
ended_from None bad l text room = l
ended_from (Some at) bad l text room = with_octets bad l (drop at text) room

abbrev pub ended_of : {C : Type 0} {N : ℕ} → Parsed C N → Parsed C N → List ℕ → ℕ → Parsed C N
ended_of bad l text room = ended_from l.from bad l text room

abbrev pub held_from : Option ℕ → List ℕ → List ℕ → List ℕ
held_from None text held = held
held_from (Some at) text held = written (drop at text) held

abbrev pub held_of : {C : Type 0} {N : ℕ} → Parsed C N → List ℕ → List ℕ → List ℕ
held_of l text held = held_from l.from text held
