-- The line of an answer (docs/HEX-LINES.md, "Answers").
use Rattle.std.specs.Prelude.{ℕ, Bool, cond, ◌&&◌, List, [], ◌∷◌, ◌++◌, eqb, take, drop}
use Rattle.std.specs.List.{list_all}
use Rattle.hex_lines.specs.Hex.{text_of}
use Rattle.count.specs.declared.Record.{Record}
use Rattle.nas_core.specs.declared.Core.{Core}
use Rattle.nas_5gs.specs.declared.Context.{Context}
use Rattle.nas_5gs.specs.Places.{record_at}
use Rattle.hex_perform.specs.declared.Answer.{Answer}
use Rattle.hex_perform.specs.declared.Answer.TheVariants.{Bad, Done, Shown, Refused, Used, Made, Opened, Content, EpsContent, Received, OpenedOn, ContentOn}
use Rattle.hex_print.specs.Words.{ok, no, bad, word, decimal_word, octets_word}

-- how many octets were written in the output
abbrev pub wrote_of : Answer → ℕ
wrote_of Bad = 0
wrote_of Done = 0
wrote_of Shown = 0
wrote_of (Refused n) = 0
wrote_of (Used c w) = w
wrote_of (Made c o) = 0
wrote_of (Opened c d w t s) = w
wrote_of (Content c d w t n) = w
wrote_of (EpsContent c d w n) = w
wrote_of (Received c d w) = w
wrote_of (OpenedOn k c d w t s) = w
wrote_of (ContentOn k c d w t n) = w

-- how many in the second output
abbrev pub second_of : Answer → ℕ
second_of Bad = 0
second_of Done = 0
second_of Shown = 0
second_of (Refused n) = 0
second_of (Used c w) = 0
second_of (Made c o) = 0
second_of (Opened c d w t s) = s
second_of (Content c d w t n) = 0
second_of (EpsContent c d w n) = 0
second_of (Received c d w) = 0
second_of (OpenedOn k c d w t s) = s
second_of (ContentOn k c d w t n) = 0

-- COUNT WROTE
unfoldable pub used_text : ℕ → ℕ → List ℕ
used_text c w = word 4 c ++ word 2 w

-- COUNT DIST WROTE
unfoldable pub received_text : ℕ → ℕ → ℕ → List ℕ
received_text c d w = word 4 c ++ word 4 d ++ word 2 w

-- no 8 COUNT DIST WROTE
unfoldable pub content_text : ℕ → ℕ → ℕ → List ℕ
content_text c d w = no ++ decimal_word 8 ++ received_text c d w

-- N B of a record
unfoldable pub record_text : Record → List ℕ
record_text r = word 4 r.next ++ word 8 r.bits

-- II CC IK CK WW
unfoldable pub core_text : Core → List ℕ
core_text k =
    text_of (k.integrity ∷ []) ++ word 1 k.ciphering ++ octets_word k.integrity_key.octets ++ octets_word k.ciphering_key.octets ++ word 1 k.size

-- II CC IK CK WW N B N B N B N B
unfoldable pub shown_text : Context → List ℕ
shown_text x =
    core_text x.core ++ record_text (record_at x 0) ++ record_text (record_at x 1) ++ record_text (record_at x 2) ++ record_text (record_at x 3)

-- an answer, with the context for `show` and the octets that were written in the output
unfoldable pub answer_text : Answer → Context → List ℕ → List ℕ
answer_text Bad x o = bad
answer_text Done x o = ok
answer_text Shown x o = shown_text x
answer_text (Refused n) x o = no ++ decimal_word n
answer_text (Used c w) x o = ok ++ used_text c w ++ octets_word o
answer_text (Made c k) x o = ok ++ used_text c 0 ++ word 1 k ++ octets_word []
answer_text (Opened c d w t s) x o = ok ++ received_text c d w ++ word 1 t ++ octets_word o
answer_text (Content c d w t n) x o = content_text c d w ++ word 1 t ++ decimal_word n ++ octets_word o
answer_text (EpsContent c d w n) x o = content_text c d w ++ decimal_word n ++ octets_word o
answer_text (Received c d w) x o = ok ++ received_text c d w ++ octets_word o
answer_text (OpenedOn k c d w t s) x o = ok ++ decimal_word k ++ received_text c d w ++ word 1 t ++ octets_word o
answer_text (ContentOn k c d w t n) x o =
    no ++ decimal_word 8 ++ decimal_word k ++ received_text c d w ++ word 1 t ++ decimal_word n ++ octets_word o

-- WROTE2 OCTETS2 behind the answers of `open`
unfoldable pub second_text : Answer → List ℕ → List ℕ
second_text Bad o = []
second_text Done o = []
second_text Shown o = []
second_text (Refused n) o = []
second_text (Used c w) o = []
second_text (Made c k) o = []
second_text (Opened c d w t s) o = word 2 s ++ octets_word o
second_text (Content c d w t n) o = word 2 0 ++ octets_word o
second_text (EpsContent c d w n) o = []
second_text (Received c d w) o = []
second_text (OpenedOn k c d w t s) o = word 2 s ++ octets_word o
second_text (ContentOn k c d w t n) o = word 2 0 ++ octets_word o

-- ` !tail` if an octet after those written in either output is no longer a5
abbrev pub is_kept : List ℕ → Bool
is_kept = list_all (λ b. eqb b 0xa5)

unfoldable pub tail_text : List ℕ → List ℕ → List ℕ
tail_text rest second = cond (is_kept rest && is_kept second) [] (32 ∷ 33 ∷ 116 ∷ 97 ∷ 105 ∷ 108 ∷ [])

-- ` !context`
unfoldable pub context_text : Bool → List ℕ
context_text changed = cond changed (32 ∷ 33 ∷ 99 ∷ 111 ∷ 110 ∷ 116 ∷ 101 ∷ 120 ∷ 116 ∷ []) []

-- what stands behind the octets, with the LF
unfoldable pub end_text : List ℕ → List ℕ → Bool → List ℕ
end_text rest second changed = tail_text rest second ++ context_text changed ++ (10 ∷ [])

-- the line: out and second are what was lent, as the call left them
unfoldable pub line_text : Answer → Context → List ℕ → List ℕ → Bool → List ℕ
line_text a x out second changed =
    answer_text a x (take (wrote_of a) out) ++ second_text a (take (second_of a) second)
    ++ end_text (drop (wrote_of a) out) (drop (second_of a) second) changed
