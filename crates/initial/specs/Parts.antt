-- An optional part, framed by its identifier alone (TS 24.007 11.2.1.1, 11.2.4).
use Rattle.std.specs.Prelude.{ℕ, ◌+◌, ◌*◌, cond, List, leb, get_or}
use Rattle.initial.specs.declared.Format.{Format}
use Rattle.initial.specs.declared.Format.TheVariants.{Single, Tlv, Tlve}

-- 80 to FF (bit 8 set): types 1 and 2, one octet; 70 to 7F: type 6, TLV-E; 00 to 6F: type 4, TLV
unfoldable pub format_of : ℕ → Format
format_of i = cond (leb 0x80 i) Single (cond (leb 0x70 i) Tlve Tlv)

-- the octets before the value: identifier and length
abbrev pub head_of : Format → ℕ
head_of Single = 1
head_of Tlv = 2
head_of Tlve = 3

-- two length octets, the high one first
abbrev pub number : ℕ → ℕ → ℕ
number high low = high * 256 + low

abbrev pub length_by : Format → List ℕ → ℕ
length_by Single l = 0
length_by Tlv l = get_or l 1 0
length_by Tlve l = number (get_or l 1 0) (get_or l 2 0)

-- Of a part that l begins with: the octets before its value, those of its value, and all. A length octet that is missing counts as 0, and such a part has
-- more octets than l.
unfoldable pub head_length : List ℕ → ℕ
head_length l = head_of (format_of (get_or l 0 0))

unfoldable pub value_length : List ℕ → ℕ
value_length l = length_by (format_of (get_or l 0 0)) l

unfoldable pub part_length : List ℕ → ℕ
part_length l = head_length l + value_length l
