-- Blocks in counter mode that differ in the last octet alone, from what they share.
-- Assumes nothing.
use Rattle.std.proofs.Common.{◌≡◌, ℕ, ◌+◌, ◌-◌, ◌*◌, ◌/◌, ◌%◌, ◌<◌, ◌≤◌, List, [], ◌∷◌, ◌++◌, length, get_or, take, drop, sym, refl, ap, ◌∙◌, arith}
use lib.Bits.{bit_xor}
use Rattle.aes.specs.Octets.{four, xor}
use Rattle.aes.specs.Cipher.{to_state, from_state, add_round_key, rounds, cipher}
use Rattle.aes.specs.Counter.{counter}
use Rattle.aes_block.specs.Mix.{Shared, two_rounds, ended}
use Rattle.aes_block.proofs.Lengths.{cipher-length}
use Rattle.aes_block.proofs.Rounds.{block-end, left-of, right_of}
use Rattle.aes.proofs.Counters.{in-run}
use Rattle.aes.proofs.Stream.{ciphered}
use Rattle.aes.proofs.Over.{laid, joined, more}

-- the block k places behind block n, of which o is the last octet
pub run-block : (w t : List ℕ) (g p : List (List ℕ)) (n k o : ℕ) → length t ≡ 16 → Shared w (counter t n) g
    → o ≡ get_or (counter t n) 15 0 + k → o < 256 → p ≡ two_rounds g (bit_xor o (get_or w 15 0)) → from_state (ended w p) ≡ cipher w (counter t (n + k))
run-block w t g p n k o h s e u f =
    let b : take 15 (counter t n) ++ (o ∷ []) ≡ counter t (n + k) =
    ap (λ (z : ℕ). take 15 (counter t n) ++ (z ∷ [])) e ∙ in-run t n k h (omega (arith, e, u)) in
    ap (λ (z : List (List ℕ)). from_state (ended w z)) (f ∙ s o ∙ ap (λ (z : List ℕ). rounds w 2 (add_round_key w 0 (to_state z))) b) ∙
    block-end w (counter t (n + k))

sixteen : (s : List (List ℕ)) → length (from_state s) ≡ 16
unfolding from_state
sixteen s = refl

-- blocks i / 16 and i / 16 + 1 of a run from block n to octet `end`, as far as r octets from octet i on
pub run-two : (w t l m : List ℕ) (g p q s : List (List ℕ)) (n o o' i end : ℕ) → length t ≡ 16 → Shared w (counter t n) g
    → end + get_or (counter t n) 15 0 * 16 ≤ n * 16 + 4096 → n * 16 ≤ i → i % 16 ≡ 0 → o + n ≡ get_or (counter t n) 15 0 + i / 16 → o' ≡ (o + 1) % 256
    → i < end → p ≡ two_rounds g (bit_xor o (get_or w 15 0)) → q ≡ two_rounds g (bit_xor o' (get_or w 15 0)) → s ≡ ended w p ++ ended w q
    → m ≡ ciphered (cipher w) (cipher-length w) t l i → (r e : ℕ) (m' : List ℕ) → e ≡ i + r → r ≤ 32 → e ≤ end → e ≤ length m
    → m' ≡ take i m ++ xor (take r (drop i m)) (from_state (four (λ c. get_or s c [])) ++ from_state (four (λ c. get_or s (c + 4) []))) ++ drop e m
    → m' ≡ ciphered (cipher w) (cipher-length w) t l e
run-two w t l m g p q s n o o' i end h sh room low whole at next inside f f' two so r e m' a b c d is =
    let k = i / 16 - n in
    let x : n + k ≡ i / 16 = omega arith in
    let y : n + (k + 1) ≡ i / 16 + 1 = omega arith in
    let u : o ≡ get_or (counter t n) 15 0 + k = omega arith in
    let v : o < 256 = omega arith in
    is ∙
    more (cipher w) (cipher-length w) t l m (from_state (four (λ c. get_or s c []))) (from_state (four (λ c. get_or s (c + 4) []))) (i / 16) i r e
    (omega arith) a b d
    (ap from_state (left-of w w p q s two) ∙ run-block w t g p n k o h sh u v f ∙ ap (λ (z : ℕ). cipher w (counter t z)) x)
    (sixteen (four (λ c. get_or s (c + 4) [])))
    (λ z.
    let u' : o' ≡ get_or (counter t n) 15 0 + (k + 1) = omega (arith, z) in
    let v' : o' < 256 = omega arith in
    ap from_state (right_of w w p q s two) ∙ run-block w t g q n (k + 1) o' h sh u' v' f' ∙ ap (λ (z : ℕ). cipher w (counter t z)) y)
    so

-- both states of s laid over l, one behind the other
pub both : (l l1 l2 : List ℕ) (s p q : List (List ℕ)) (i : ℕ) → i + 32 ≤ length l → p ≡ four (λ c. get_or s c []) → q ≡ four (λ c. get_or s (c + 4) [])
    → l1 ≡ laid l i (from_state p) 16 → l2 ≡ laid l1 (i + 16) (from_state q) 16
    → l2 ≡ laid l i (from_state (four (λ c. get_or s c [])) ++ from_state (four (λ c. get_or s (c + 4) []))) 32
both l l1 l2 s p q i h a b e f =
    joined l l1 l2 (from_state (four (λ c. get_or s c []))) (from_state (four (λ c. get_or s (c + 4) []))) i 16 16
    (sym (sixteen (four (λ c. get_or s c [])))) (sym (sixteen (four (λ c. get_or s (c + 4) [])))) (omega arith)
    (e ∙ ap (λ (z : List (List ℕ)). laid l i (from_state z) 16) a)
    (f ∙ ap (λ (z : List (List ℕ)). laid l1 (i + 16) (from_state z) 16) b)
