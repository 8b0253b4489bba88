use Rattle.std.proofs.Common.{ℕ, List, length, ap, ◌∙◌}
use Rattle.aes.specs.Keys.{nea2_by}
use Rattle.aes.proofs.Laws.{nea2-length}
use Rattle.aes.proofs.Parts.{behind, same_length, short}
use Rattle.aes.proofs.nas.protect2.Goals.{then-m-gt1, else-m-gt1}
use Rattle.aes.proofs.nas.protect2.Goals as goal

pub returns-then-m-ge128 : goal.returns-then-m-ge128
unfolding nea2_by
returns-then-m-ge128 c =
    record { ciphered = c.protect_long.ensures.ciphered; code = c.protect_long.ensures.code }

pub returns : goal.returns
unfolding nea2_by
returns c =
    let a = c.args in
    let m = a.m.now in
    let k = a.ciphering_key in
    let f : (List ℕ → List ℕ) = λ l. nea2_by k a.input.count a.input.bearer a.input.direction l in record {
      ciphered = elim c.if-m-gt1.branch [
        | then-m-gt1 w ↦ w.m-is ∙ behind 1 m _ f w.nea2_under.ensures
        | else-m-gt1 w ↦ w.m-is ∙ short f (λ l. nea2-length k a.input.count a.input.bearer a.input.direction l) m w.if-m-gt1.false
      ];
      code = c.nia2.ensures;
    }

pub shape_of-m : goal.shape_of-m
shape_of-m c =
    let a = c.args in
    let k = a.ciphering_key in
    ap length (returns c).ciphered ∙
    same_length (λ (l : List ℕ). nea2_by k a.input.count a.input.bearer a.input.direction l) (λ l. nea2-length k a.input.count a.input.bearer a.input.direction l) a.m.now
