-- The COUNT rule of document 01 ("Words", "The COUNT rule"; TS 24.501 4.4.3), over one record. A record has the next COUNT and 64 window bits: bit d - 1 is the
-- window bit for d, and is set when the COUNT d below the highest used one, next - 1, is used.
use Rattle.std.specs.Prelude.{ℕ, ◌+◌, ◌-◌, ◌*◌, ◌/◌, ◌%◌, ◌^◌, min, Bool, cond, ◌&&◌, ltb, leb, eqb, Option, None, Some, Result, Ok, Err}
use Rattle.std.specs.Int.Bits.{bit_or}
use Rattle.refusals.specs.declared.Refusal.{Refusal}
use Rattle.refusals.specs.declared.Refusal.TheVariants as refusal
use Rattle.count.specs.declared.Record.{Record}
use Rattle.count.specs.declared.Taken.{Taken}
use Rattle.count.specs.declared.Taken.TheVariants.{Late, Forward}
use Rattle.count.specs.declared.Missed.{Missed}
use Rattle.count.specs.declared.Missed.TheVariants.{NoCandidate, WrongCode}

-- what an opening takes a message as: a late COUNT, a forward one, or none
abbrev pub Opening : Type 0
Opening = Result Taken Missed

-- the refusal of a message that is taken as none: 6, 7
abbrev pub refusal_of : Missed → Refusal
refusal_of NoCandidate = refusal.NoCount
refusal_of WrongCode = refusal.WrongCode

-- "16,777,216 means exhausted": 2^24, the first number that is no COUNT
abbrev pub exhausted : ℕ
exhausted = 16777216

-- bit k of a number, from 0
unfoldable pub bit : ℕ → ℕ → ℕ
bit b k = b / 2 ^ k % 2

-- how far above a the least number from a on lies whose k low bits are those of b: (b − a) modulo 2^k
unfoldable pub distance : ℕ → ℕ → ℕ → ℕ
distance k a b = (b + (2 ^ k - a % 2 ^ k)) % 2 ^ k

-- "Forward candidate for last octet s: the least COUNT at or above next whose low 8 bits are s; none if it would exceed 16,777,215."
-- k is the number of low bits known: 8 for a last octet, 5 for a SERVICE REQUEST, 0 for the next COUNT itself.
-- wraps is null integrity: "forward candidates go round modulo 2^24", "a record already exhausted stays so".
unfoldable pub forward_of : ℕ → Bool → Record → ℕ → Option ℕ
forward_of k wraps r s =
    let c = r.next + distance k r.next s in
    cond (leb exhausted r.next) None
    (cond (ltb c exhausted) (Some c)
    (cond wraps (Some (c % exhausted)) None))

-- ".. if next > 0, d is from 1 to the size, d ≤ h, and the window bit for d is clear": the COUNT d below the highest is open late
unfoldable pub open_at : ℕ → Record → ℕ → Bool
open_at size r d =
    ltb 0 r.next && (leb 1 d && (leb d size && (leb d (r.next - 1) && eqb (bit r.bits (d - 1)) 0)))

-- "Late candidate: let h = next − 1 and d = (h − s) modulo 256. It is h − d if .."
unfoldable pub late_of : ℕ → ℕ → Record → ℕ → Option ℕ
late_of k size r s =
    let h = r.next - 1 in
    let d = distance k s h in
    cond (open_at size r d) (Some (h - d)) None

-- "Opening tries the late candidate's code, then the forward one's." fits says for which COUNTs the code received is right. Refusal 6 is "no forward
-- candidate and no late one accepted" (NoCandidate), 7 "a forward candidate exists, code wrong for every candidate" (WrongCode).
abbrev pub try_forward : (ℕ → Bool) → Option ℕ → Opening
try_forward fits None = Err NoCandidate
try_forward fits (Some c) = cond (fits c) (Ok (Forward c)) (Err WrongCode)

abbrev pub try : (ℕ → Bool) → Option ℕ → Option ℕ → Opening
try fits None ahead = try_forward fits ahead
try fits (Some c) ahead = cond (fits c) (Ok (Late c)) (try_forward fits ahead)

-- null integrity: "there is no late opening"
unfoldable pub opening : ℕ → Bool → (ℕ → Bool) → ℕ → Record → ℕ → Opening
opening k wraps fits size r s = try fits (cond wraps None (late_of k size r s)) (forward_of k wraps r s)

-- a call with no late half: every seal (k = 0: the next COUNT) and the containers
unfoldable pub forward_only : ℕ → Bool → (ℕ → Bool) → Record → ℕ → Opening
forward_only k wraps fits r s = try fits None (forward_of k wraps r s)

-- Request 8: "for a forward candidate, how far above next (modulo 2^24 under null integrity); for a late one, how far below the highest used". A COUNT below
-- next is late if it is at most 64 below the highest, the widest window; else it was reached by going round.
unfoldable pub distance_of : Record → ℕ → ℕ
distance_of r c =
    cond (leb r.next c) (c - r.next)
    (cond (leb (r.next - 1 - c) 64) (r.next - 1 - c)
    (c + exhausted - r.next))

-- "marks the former highest COUNT used (there is none if next was 0)": after m places up it is m below the new highest
unfoldable pub former_highest : ℕ → ℕ → ℕ
former_highest next m = cond (eqb next 0) 0 (2 ^ (m - 1))

-- "Forward use of c, with m = c + 1 − next, moves the bits m places up (those that come in are clear), marks the former highest COUNT used
-- (there is none if next was 0) and drops bits beyond the size." "To use COUNT c forward makes next c + 1."
unfoldable pub use_forward : ℕ → Record → ℕ → Record
use_forward size r c =
    let m = c + 1 - r.next in
    record { next = c + 1; bits = (r.bits * 2 ^ m + former_highest r.next m) % 2 ^ size }

-- null integrity: "COUNTs .. go round modulo 2^24, the window bits stay still"
unfoldable pub use_round : Record → ℕ → Record
use_round r c = record { next = (c + 1) % exhausted; bits = r.bits }

-- "A late open uses c and leaves next as it is": c is d = next − 1 − c below the highest, and its bit, d − 1, is set
unfoldable pub use_late : Record → ℕ → Record
use_late r c = record { next = r.next; bits = bit_or r.bits (2 ^ (r.next - (c + 2))) }

-- "A new size keeps the bits that both sizes cover; bits that only the new one covers become used. Bits beyond the new size are clear, so size 0
-- clears all."
unfoldable pub resize_of : ℕ → ℕ → Record → Record
resize_of old new r =
    let both = min old new in
    record { next = r.next; bits = r.bits % 2 ^ both + (2 ^ new - 2 ^ both) }

-- Request 4: "reselecting away from null closes every late COUNT": the bits that the size covers are set, the rest clear; next stays
unfoldable pub close_of : ℕ → Record → Record
close_of size r = record { next = r.next; bits = 2 ^ size - 1 }
