use Rattle.std.proofs.Common.{◌≡◌, ℕ, List, ◌++◌, length, take, drop, ap, sym, ◌∙◌}
use Rattle.aes.proofs.Parts.{behind, short}
use Rattle.algorithms.specs.Codes.{code_of, cipher_of}
use Rattle.algorithms.proofs.Laws.{cipher-length}
use Rattle.algorithms.proofs.Tests.{twos}
use Rattle.algorithms.proofs.protect.Goals as goal
use Rattle.algorithms.proofs.protect.Goals.{then-octets-gt1, else-octets-gt1}

pub returns-then-are_aes : goal.returns-then-are_aes
unfolding code_of cipher_of
returns-then-are_aes c =
    let a = c.args in
    let m = a.octets.now in
    let e = twos a.integrity a.ciphering (sym c.are_aes.ensures ∙ c.if-are_aes.true) in record { ciphered = c.protect2.ensures.ciphered ∙ sym (ap (λ (n : ℕ). take 1 m ++ cipher_of n a.ciphering_key a.input.count a.input.bearer a.input.direction (drop 1 m)) e.1); code = c.protect2.ensures.code ∙ sym (ap (λ (n : ℕ). code_of n a.integrity_key a.input.count a.input.bearer a.input.direction c.protect2.new.m) e.0) }

pub returns-clause-ciphered : goal.returns-clause-ciphered
returns-clause-ciphered c =
    let a = c.args in
    let m = a.octets.now in
    let f : (List ℕ → List ℕ) = λ l. cipher_of a.ciphering a.ciphering_key a.input.count a.input.bearer a.input.direction l in
    let sized : ((l : List ℕ) → length (f l) ≡ length l) = λ l. cipher-length a.ciphering a.ciphering_key a.input.count a.input.bearer a.input.direction l in
    elim c.if-octets-gt1.branch [
      | then-octets-gt1 w ↦ w.octets-is ∙ behind 1 m _ f w.cipher.ensures
      | else-octets-gt1 w ↦ w.octets-is ∙ short f sized m w.if-octets-gt1.false
    ]
