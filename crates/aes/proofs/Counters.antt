-- Counter blocks one after the other: all but the last octet stay until that begins anew.
-- Assumes nothing.
use Rattle.std.proofs.Common.{◌≡◌, ℕ, zero, suc, ◌+◌, ◌/◌, ◌%◌, ◌^◌, ◌<◌, List, [], ◌∷◌, ◌++◌, length, get_or, take, drop, sym, refl, ap, ◌∙◌, ap₂, append_assoc, div-one, arith, length-take, get_or-append-add}
use native.Mathlib.Nat.{div-div-eq-div-mul, pow-succ'}
use Rattle.aes.specs.Octets.{octets, number}
use Rattle.aes.specs.Counter.{counter}

take_behind : (p q : List ℕ) (m n : ℕ) → m ≡ length p + n → take m (p ++ q) ≡ p ++ take n q
take_behind [] q m n e = let z : m ≡ n = omega arith in ap (λ (k : ℕ). take k q) z
take_behind (x ∷ p) q zero n e = absurd (omega arith)
take_behind (x ∷ p) q (suc m) n e = ap (λ (l : List ℕ). x ∷ l) (take_behind p q m n (omega arith))

eight-less : (n x : ℕ) → x / 256 ^ suc n ≡ x / 256 / 256 ^ n
eight-less n x = ap (λ (d : ℕ). x / d) (pow-succ' 256 n) ∙ sym (div-div-eq-div-mul x 256 (256 ^ n))

-- all octets of a number but the last are those of it without its low 8 bits
but_last : (n x : ℕ) → take n (octets (suc n) x) ≡ octets n (x / 256)
but_last zero x = refl
but_last (suc n) x = ap₂ (λ (y : ℕ) (l : List ℕ). y % 256 ∷ l) (eight-less n x) (but_last n x)

with-last : (n x : ℕ) → octets (suc n) x ≡ octets n (x / 256) ++ (x % 256 ∷ [])
with-last zero x = ap (λ (y : ℕ). y % 256 ∷ []) (div-one x)
with-last (suc n) x = ap₂ (λ (y : ℕ) (l : List ℕ). y % 256 ∷ l) (eight-less n x) (with-last n x)

-- the counter block k places on, where the last octet does not begin anew
pub in-run : (t : List ℕ) (n k : ℕ) → length t ≡ 16 → get_or (counter t n) 15 0 + k < 256
    → take 15 (counter t n) ++ ((get_or (counter t n) 15 0 + k) ∷ []) ≡ counter t (n + k)
unfolding counter
in-run t n k h q =
    let l : length (take 8 t) ≡ 8 = simp length-take (omega arith) in
    let x = (number (drop 8 t) + n) % 2 ^ 64 in
    let y = (number (drop 8 t) + (n + k)) % 2 ^ 64 in
    let e : get_or (take 8 t ++ octets 8 x) 15 0 ≡ x % 256 = rw l at (get_or-append-add (take 8 t) (octets 8 x) 7 0) ∙ ap (λ (z : ℕ). z % 256) (div-one x) in
    let d : x / 256 ≡ y / 256 = omega (arith, e, q) in
    let f : get_or (take 8 t ++ octets 8 x) 15 0 + k ≡ y % 256 = omega (arith, e, q) in
    let a : take 15 (take 8 t ++ octets 8 x) ≡ take 8 t ++ octets 7 (y / 256) =
    take_behind (take 8 t) (octets 8 x) 15 7 (omega arith) ∙
    ap (λ (r : List ℕ). take 8 t ++ r) (but_last 7 x ∙ ap (octets 7) d) in
    ap₂ (λ (r : List ℕ) (z : ℕ). r ++ (z ∷ [])) a f ∙
    append_assoc (take 8 t) (octets 7 (y / 256)) (y % 256 ∷ []) ∙
    ap (λ (r : List ℕ). take 8 t ++ r) (sym (with-last 7 y))
