-- Texts behind one another.
use Prim.Native.Nat.{ℕ, ◌+◌, ◌-◌, ◌*◌, ◌/◌, ◌%◌, ◌≤◌}
use mathlib.Core.Path.{◌≡◌, refl, sym, ap, ◌∙◌}
use mathlib.Core.Bool.{Bool, true, false, cond}
use mathlib.Core.List.{List, [], ◌∷◌, ◌++◌, append_assoc, append-nil}
use native.Mathlib.Omega.{arith}
use lib.Dec.{ltb}
use lib.ListN.{length, take, drop}
use lib.Seq.{paste, take-paste, take_all}
use Rattle.hex_lines.specs.Hex.{text_of, decimal_of, big_endian}
use Rattle.hex_lines.proofs.Laws as hex
use Rattle.hex_print.specs.Words.{Puts, octets_word}
use Rattle.hex_print.specs.Lines.{wrote_of, second_of, answer_text, second_text, end_text, line_text}
use Rattle.hex_perform.specs.declared.Answer.{Answer}
use Rattle.nas_5gs.specs.declared.Context.{Context}

pub pasted : {l m t : List ℕ} {at n r : ℕ} → r ≡ at + n → m ≡ paste l at t n → n ≡ length t → at ≤ length l → Puts l at t m r
pasted {l} {m} {t} {at} {n} {r} e f g h = record {
  put = rw (e, f) (take-paste l at t n h (omega arith) ∙ ap (λ (x : List ℕ). take at l ++ x) (take_all n t (omega arith)));
}

pub behind : {l m k s t : List ℕ} {at i r : ℕ} → Puts l at s m i → Puts m i t k r → Puts l at (s ++ t) k r
behind {l} {m} {k} {s} {t} {at} {i} {r} p q =
    record { put = q.put ∙ ap (λ (x : List ℕ). x ++ t) p.put ∙ append_assoc (take at l) s t }

pub nothing : (l : List ℕ) (at : ℕ) → Puts l at [] l at
nothing l at = record { put = sym (append-nil (take at l)) }

pub number-length : (x n : ℕ) → n ≤ 8 → n * 2 ≡ length (text_of (drop (8 - n) (big_endian x)))
number-length x n h = omega (arith, hex.text-length (drop (8 - n) (big_endian x)), hex.last-octets x n h)

pub decimal-short : (n : ℕ) → length (decimal_of n) ≤ 3
unfolding decimal_of
decimal-short n = two (ltb n 10) (ltb n 100)
  where
    two : (a b : Bool) → length (cond a ((n + 48) ∷ []) (cond b ((n / 10 + 48) ∷ (n % 10 + 48) ∷ []) ((n / 100 + 48) ∷ (n / 10 % 10 + 48) ∷ (n % 10 + 48) ∷ []))) ≤ 3
    two true b = omega arith
    two false true = omega arith
    two false false = omega arith

pub no-octets : (o : List ℕ) → length o ≡ 0 → octets_word o ≡ 32 ∷ 45 ∷ []
unfolding octets_word
no-octets [] e = refl
no-octets (b ∷ bs) e = absurd (omega arith)

pub some-octets : (o : List ℕ) → (length o ≡ 0 → ⊥) → octets_word o ≡ 32 ∷ text_of o
unfolding octets_word
some-octets [] e = absurd (e refl)
some-octets (b ∷ bs) e = refl

module _ {l m : List ℕ} {at r : ℕ} (a : Answer) (x : Context) (out second : List ℕ) (changed : Bool) where
  pub lined : (f g t u : List ℕ) (n k : ℕ) → n ≡ wrote_of a → k ≡ second_of a → f ≡ take n out → g ≡ take k second → t ≡ drop n out → u ≡ drop k second
      → Puts l at (answer_text a x f ++ second_text a g ++ end_text t u changed) m r
      → Puts l at (line_text a x out second changed) m r
  unfolding line_text
  lined f g t u n k e d p q s v h =
      let front : f ≡ take (wrote_of a) out = p ∙ ap (λ (i : ℕ). take i out) e in
      let beside : g ≡ take (second_of a) second = q ∙ ap (λ (i : ℕ). take i second) d in
      let rest : t ≡ drop (wrote_of a) out = s ∙ ap (λ (i : ℕ). drop i out) e in
      let behind-it : u ≡ drop (second_of a) second = v ∙ ap (λ (i : ℕ). drop i second) d in
      rw (← front, ← beside, ← rest, ← behind-it) h
