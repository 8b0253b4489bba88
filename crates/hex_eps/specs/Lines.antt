-- The line of an EPS answer (docs/HEX-LINES.md, "EPS calls").
use Rattle.std.specs.Prelude.{ℕ, Bool, List, [], ◌++◌, take, drop}
use Rattle.nas_eps.specs.declared.Context.{Context}
use Rattle.nas_eps.specs.Places.{record_at}
use Rattle.hex_print.specs.Words.{ok, no, bad, word, decimal_word, octets_word}
use Rattle.hex_print.specs.Lines.{used_text, received_text, record_text, core_text, end_text}
use Rattle.hex_eps.specs.declared.Answer.{Answer}
use Rattle.hex_eps.specs.declared.Answer.TheVariants.{Bad, Done, Shown, Refused, Used, Opened, Request}

-- how many octets were written in the output
abbrev pub wrote_of : Answer → ℕ
wrote_of Bad = 0
wrote_of Done = 0
wrote_of Shown = 0
wrote_of (Refused n) = 0
wrote_of (Used c w) = w
wrote_of (Opened c d w t) = w
wrote_of (Request c d i) = 0

-- II CC IK CK WW N B N B
unfoldable pub shown_text : Context → List ℕ
shown_text x = core_text x.core ++ record_text (record_at x 0) ++ record_text (record_at x 1)

-- ok COUNT DIST 0000 0c KK -
unfoldable pub request_text : ℕ → ℕ → ℕ → List ℕ
request_text c d i = ok ++ received_text c d 0 ++ word 1 12 ++ word 1 i ++ octets_word []

-- an answer, with the context for `eshow` and the octets that were written in the output
unfoldable pub answer_text : Answer → Context → List ℕ → List ℕ
answer_text Bad x o = bad
answer_text Done x o = ok
answer_text Shown x o = shown_text x
answer_text (Refused n) x o = no ++ decimal_word n
answer_text (Used c w) x o = ok ++ used_text c w ++ octets_word o
answer_text (Opened c d w t) x o = ok ++ received_text c d w ++ word 1 t ++ octets_word o
answer_text (Request c d i) x o = request_text c d i

-- the line: out is what was lent, as the call left it; there is no second output
unfoldable pub line_text : Answer → Context → List ℕ → Bool → List ℕ
line_text a x out changed = answer_text a x (take (wrote_of a) out) ++ end_text (drop (wrote_of a) out) [] changed
