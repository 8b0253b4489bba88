use Rattle.std.proofs.Common.{◌≡◌, ℕ, ◌+◌, ◌-◌, ◌*◌, ◌/◌, ◌%◌, ◌<◌, ◌≤◌, List, length, get_or, sym, refl, ap, ◌∙◌, arith}
use Rattle.aes.specs.Cipher.{cipher}
use Rattle.aes.specs.Counter.{counter}
use Rattle.aes_block.proofs.Lengths.{cipher-length}
use Rattle.aes.proofs.Stream.{ciphered, as-ctr}
use Rattle.aes.proofs.Runs.{run-two, both}
use Rattle.aes.proofs.counter_mode.ctr_run.Goals.{then-end-i-ge32, else-end-i-ge32}
use Rattle.aes.proofs.counter_mode.ctr_run.Goals as goal

pub loop-i-init : goal.loop-i-init
loop-i-init c =
    (omega arith, omega arith, refl, λ h. (omega arith, omega arith), λ t l h s e f. f)

pub xor_rest-requires : goal.xor_rest-requires
xor_rest-requires c =
    (omega arith, omega arith, omega arith)

pub loop-i-smaller : goal.loop-i-smaller
loop-i-smaller c =
    elim c.if-end-i-ge32.branch [ then-end-i-ge32 w ↦ omega arith | else-end-i-ge32 w ↦ omega arith ]

pub loop-i-preserved : goal.loop-i-preserved
loop-i-preserved c =
    let arms = c.if-end-i-ge32 in
    let a = c.args in
    let m = c.loop-i.m in
    let i = c.loop-i.i in
    let v = a.w.now in
    let s = c.two_states-s.result in
    let inside : i < a.end = omega arith in
    let at = c.loop-i.invariant.3 inside in
    let last : get_or c.counter_block-b.result 15 0 ≡ get_or (counter a.t a.n) 15 0 =
    ap (λ (z : List ℕ). get_or z 15 0) c.counter_block-b.ensures in (
      elim arms.branch [ then-end-i-ge32 w ↦ omega arith | else-end-i-ge32 w ↦ omega arith ],
      elim arms.branch [ then-end-i-ge32 w ↦ omega arith | else-end-i-ge32 w ↦ omega arith ],
      elim arms.branch [ then-end-i-ge32 w ↦ ap length w.m-is ∙ omega arith | else-end-i-ge32 w ↦ ap length w.m-is ∙ omega arith ],
      λ h.
          elim arms.branch [
            | then-end-i-ge32 w ↦ (omega (arith, h, at.0), omega (arith, h, at.0, at.1, last))
            | else-end-i-ge32 w ↦ absurd (omega (arith, h))
          ],
      λ t u h g e f.
          let room : a.end + get_or (counter t a.n) 15 0 * 16 ≤ a.n * 16 + 4096 = omega (arith, e, last) in
          let place : c.loop-i.o + a.n ≡ get_or (counter t a.n) 15 0 + i / 16 = omega (arith, e, at.1) in
          let part =
          run-two v t u m a.g c.second_state-p.result c.second_state-q.result s a.n c.loop-i.o
          ((c.loop-i.o + 1) % 256) i a.end h g room c.loop-i.invariant.0 at.0 place refl inside
          c.second_state-p.ensures c.second_state-q.ensures c.two_states-s.ensures (c.loop-i.invariant.4 t u h g e f) in
          elim arms.branch [
            | then-end-i-ge32 w ↦
                w.m-is ∙
                part 32 (i + 32) w.xor_state-then-end-i-ge32.new.m refl (omega arith) (omega arith) (omega arith)
                (both m w.xor_state.new.m w.xor_state-then-end-i-ge32.new.m s _ _ i (omega arith) w.left.ensures w.right.ensures w.xor_state.ensures w.xor_state-then-end-i-ge32.ensures) ∙
                ap (λ (z : ℕ). ciphered (cipher v) (cipher-length v) t u z) (sym w.i-is)
            | else-end-i-ge32 w ↦
                w.m-is ∙
                part (a.end - i) a.end w.xor_rest.new.m (omega arith) (omega arith) (omega arith) (omega arith) w.xor_rest.ensures ∙
                ap (λ (z : ℕ). ciphered (cipher v) (cipher-length v) t u z) (sym w.i-is)
          ],
    )

pub returns : goal.returns
returns c =
    λ o e.
    let a = c.args in
    let w = a.w.now in
    let n : c.loop-i.i ≡ a.end = omega arith in
    c.loop-i.invariant.4 a.t o c.well_formed.1.0.1.0.1 c.requires.0 (sym (ap (λ (z : List ℕ). get_or z 15 0) c.counter_block-b.ensures))
    (e ∙ sym (as-ctr (cipher w) (cipher-length w) a.t o (a.n * 16))) ∙
    ap (λ (i : ℕ). ciphered (cipher w) (cipher-length w) a.t o i) n ∙
    as-ctr (cipher w) (cipher-length w) a.t o a.end
