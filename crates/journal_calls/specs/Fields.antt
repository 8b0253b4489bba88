-- Numbers of more than one octet are big-endian; an octet that is missing reads as 0.
use Rattle.std.specs.Prelude.{ℕ, ◌+◌, ◌*◌, ◌/◌, ◌%◌, cond, List, [], ◌∷◌, ◌++◌, leb, length, get_or, take, drop, replicate}

-- a room is how many octets of output are lent
abbrev pub two : ℕ → List ℕ
two n = n / 256 ∷ n % 256 ∷ []

abbrev pub room_at : List ℕ → ℕ → ℕ
room_at o i = get_or o i 0 * 256 + get_or o (i + 1) 0

-- a next COUNT
abbrev pub four : ℕ → List ℕ
four n = n / 16777216 ∷ n / 65536 % 256 ∷ n / 256 % 256 ∷ n % 256 ∷ []

abbrev pub count_at : List ℕ → ℕ → ℕ
count_at o i = ((get_or o i 0 * 256 + get_or o (i + 1) 0) * 256 + get_or o (i + 2) 0) * 256 + get_or o (i + 3) 0

-- behind the codes of a creation, restore or reselection: IK, CK, then for a restore the four next COUNTs
unfoldable pub key_at : List ℕ → ℕ → List ℕ
key_at o i = cond (leb (i + 16) (length o)) (take 16 (drop i o)) (replicate 16 0)

unfoldable pub counts_in : List ℕ → List ℕ
counts_in o = count_at o 32 ∷ count_at o 36 ∷ count_at o 40 ∷ count_at o 44 ∷ []

unfoldable pub counts_of : List ℕ → List ℕ
counts_of next = (four (get_or next 0 0) ++ four (get_or next 1 0)) ++ (four (get_or next 2 0) ++ four (get_or next 3 0))
