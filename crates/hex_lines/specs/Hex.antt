-- Lower-case hex as the page on the hex lines has it: digits, numbers and octets as text, by ASCII codes. Assumes nothing.
use Rattle.std.specs.Prelude.{ℕ, ◌+◌, ◌-◌, ◌*◌, ◌/◌, ◌%◌, ◌^◌, Bool, true, cond, ◌&&◌, ◌||◌, List, [], ◌∷◌, leb, ltb}

-- `0` to `9` and `a` to `f`
unfoldable pub is_digit : ℕ → Bool
is_digit c = leb 48 c && leb c 57 || leb 97 c && leb c 102

-- the value of a digit; 0 for any other octet
unfoldable pub digit_of : ℕ → ℕ
digit_of c = cond (is_digit c) (cond (leb c 57) (c - 48) (c - 87)) 0

-- the digit of a value below 16
unfoldable pub char_of : ℕ → ℕ
char_of n = cond (ltb n 10) (n + 48) (n + 87)

-- a run of digits
unfoldable pub are_digits : List ℕ → Bool
are_digits [] = true
are_digits (c ∷ cs) = is_digit c && are_digits cs

-- the number that digits are after those of the number n
unfoldable pub number_after : ℕ → List ℕ → ℕ
number_after n [] = n
number_after n (c ∷ cs) = number_after (n * 16 + digit_of c) cs

-- two digits to an octet
unfoldable pub octets_of : List ℕ → List ℕ
octets_of [] = []
octets_of (c ∷ []) = []
octets_of (c ∷ d ∷ cs) = (digit_of c * 16 + digit_of d) ∷ octets_of cs

unfoldable pub text_of : List ℕ → List ℕ
text_of [] = []
text_of (b ∷ bs) = char_of (b / 16) ∷ char_of (b % 16) ∷ text_of bs

-- a number below 256 in decimal, with no zero in front
unfoldable pub decimal_of : ℕ → List ℕ
decimal_of n =
    cond (ltb n 10) ((n + 48) ∷ [])
    (cond (ltb n 100) ((n / 10 + 48) ∷ (n % 10 + 48) ∷ []) ((n / 100 + 48) ∷ (n / 10 % 10 + 48) ∷ (n % 10 + 48) ∷ []))

-- the last octets of a number, the most significant first
unfoldable pub big_endian : ℕ → List ℕ
big_endian n =
    (n / 256 ^ 7 % 256) ∷ (n / 256 ^ 6 % 256) ∷ (n / 256 ^ 5 % 256) ∷ (n / 256 ^ 4 % 256)
    ∷ (n / 256 ^ 3 % 256) ∷ (n / 256 ^ 2 % 256) ∷ (n / 256 % 256) ∷ (n % 256) ∷ []
