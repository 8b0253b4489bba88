use Rattle.std.proofs.Common.{◌≡◌, ◌+◌, ◌*◌, length, replicate, sym, ap, ◌∙◌, arith, take_all}
use borrow.Rule.Slice.PartMut.{same_len_mid}
use Rattle.std.proofs.lemmas.Slice.{take-put_mid}
use Rattle.aes_block.specs.Cipher.{expand_key, words}
use Rattle.aes_block.proofs.Keys.{more}
use Rattle.aes_block.proofs.expansion.expand_key.Goals as goal

pub loop-n-init : goal.loop-n-init
unfolding words
loop-n-init c =
    let e = c.copy_from_slice.ensures in
    let ys = c.copy_from_slice.new.self in
    let zeros = replicate 176 0 in
    (same_len_mid 0 16 zeros ys e.len, take-put_mid 0 16 zeros ys 16 (omega (arith, e.len)) (omega arith) ∙ e.after)

pub loop-n-preserved : goal.loop-n-preserved
loop-n-preserved c =
    let e = c.copy_from_slice-in-loop-n.ensures in
    let n = c.loop-n.n in
    let four : length c.copy_from_slice-in-loop-n.new.self ≡ 4 = ap length e.after ∙ c.next_word-t.type_inv.1.0.1 in
    (same_len_mid _ _ c.loop-n.w _ e.len ∙ c.loop-n.invariant.0, take-put_mid (n * 4 + 16) _ _ _ ((n + 1) * 4 + 16) (omega arith) (omega arith) ∙ more c.args.key c.loop-n.w _ n c.loop-n.invariant.1 (e.after ∙ c.next_word-t.ensures))

pub returns : goal.returns
unfolding expand_key
returns c =
    let e : c.loop-n.n ≡ 40 = omega arith in
    sym (take_all 176 c.loop-n.w (omega arith)) ∙ rw e at c.loop-n.invariant.1
