use Rattle.std.proofs.Common.{◌≡◌, ℕ, ◌+◌, ◌-◌, ◌*◌, ◌/◌, ◌<◌, ◌≤◌, List, ◌++◌, length, get_or, take, drop, sym, refl, ap, ◌∙◌, ap₂, arith}
use Rattle.aes.specs.Octets.{xor}
use Rattle.aes.specs.Cipher.{from_state, cipher}
use Rattle.aes.specs.Counter.{counter, ctr_of}
use Rattle.aes_block.proofs.Lengths.{cipher-length}
use Rattle.aes_block.proofs.Rows.{columns-four}
use Rattle.aes_block.proofs.Rounds.{back, square}
use Rattle.aes.proofs.Over.{laid}
use Rattle.aes.proofs.Chain.{from-length, entering, chain_more}
use Rattle.aes.proofs.Beside.{laid-length, laid-before, block_more, this-octet, next-octet, left-block, right-block, made-square, summed}
use Rattle.aes.proofs.sealing.run_both.Goals as goal

pub loop-i-init : goal.loop-i-init
loop-i-init c =
    let x = c.args.x in
    let g = c.well_formed.1.1.1.1.1.0 in (
      omega arith,
      c.requires.2,
      c.requires.4,
      refl,
      λ q. omega arith,
      sym (square x g.1.0.1 (columns-four x g.0 g.1.0.1 g.1.1)),
      λ t l n h e f. f,
      λ h n e. e,
    )

pub xor_state-requires : goal.xor_state-requires
xor_state-requires c =
    let h : c.loop-i.i + 15 < length c.loop-i.p = omega arith in
    h

pub state_at-requires : goal.state_at-requires
state_at-requires c =
    let e : length c.xor_state.new.m ≡ length c.loop-i.p = laid-length c.loop-i.p _ _ c.loop-i.i 16 (from-length _) (omega arith) c.xor_state.ensures in
    let h : c.loop-i.i - 25 + 15 < length c.xor_state.new.m = omega (arith, e) in
    h

pub overflow_add-i : goal.overflow_add-i
overflow_add-i c =
    omega (arith, c.ranges.end.fits, c.requires.5, c.loop-i.invariant.2, c.loop-i-test.true)

pub loop-i-preserved : goal.loop-i-preserved
loop-i-preserved c =
    let a = c.args in
    let w = a.w.now in
    let v = a.v.now in
    let i = c.loop-i.i in
    let p = c.loop-i.p in
    let x = c.loop-i.x in
    let o₀ = get_or c.counter_block-b.result 15 0 in
    let taken = c.loop-i-test.true in
    let inside : i + 16 ≤ length p = omega arith in
    let enough : a.end + o₀ * 16 ≤ a.i + 4096 = rw c.counter_block-b.ensures c.requires.6 in
    let octet = this-octet c.loop-i.o o₀ a.i i a.end c.requires.4 c.loop-i.invariant.2 c.loop-i.invariant.0 enough (c.loop-i.invariant.4 taken) taken in
    let e = c.xor_state.ensures in
    let n : length c.xor_state.new.m ≡ length p = laid-length p _ _ i 16 (from-length _) inside e in
    let two = c.two_states-s.ensures in
    let r = right-block w v _ _ _ two x _ c.loop-i.invariant.5 c.two_rounds-q.ensures c.right.ensures in (
      omega arith,
      omega arith,
      omega arith,
      n ∙ c.loop-i.invariant.3,
      next-octet c.loop-i.o o₀ a.i i a.end c.requires.4 c.loop-i.invariant.2 c.loop-i.invariant.0 enough (c.loop-i.invariant.4 taken) _ refl,
      made-square _ _ c.xor_states-next.ensures,
      λ t k m h f g.
          let u : c.loop-i.o ≡ get_or (counter t (a.i / 16)) 15 0 + (i / 16 - a.i / 16) = c.loop-i.invariant.4 taken ∙ ap (λ (z : ℕ). z + (i / 16 - a.i / 16)) f in
          let d : a.i / 16 + (i / 16 - a.i / 16) ≡ i / 16 = omega arith in
          block_more (cipher w) (cipher-length w) t k p _ i c.loop-i.invariant.2 inside (c.loop-i.invariant.6 t k m h f g)
          (e ∙ ap (λ (z : List ℕ). laid p i z 16)
          (left-block w v _ _ _ two t a.g _ (a.i / 16) (i / 16 - a.i / 16) c.loop-i.o m h u octet c.second_state.ensures c.left.ensures ∙
          ap (λ (z : ℕ). cipher w (counter t z)) d)),
      λ h m f.
          chain_more (cipher v) h p _ (from_state x) _ i m (omega arith) c.loop-i.invariant.2 (omega (arith, n)) (laid-before p _ _ i 16 (omega arith) e)
          (c.loop-i.invariant.7 h m f) (summed _ _ _ c.xor_states-next.ensures ∙ ap₂ xor r (ap from_state c.state_at.ensures ∙ back _ refl)),
    )

pub returns : goal.returns
returns c =
    let a = c.args in
    let z : c.loop-i.i ≡ a.end = omega arith in record {
      ciphered = λ k e.
          c.loop-i.invariant.6 a.t k c.well_formed.1.1.0.1.0.1 c.requires.0 (ap (λ (q : List ℕ). get_or q 15 0) c.counter_block-b.ensures) e ∙
          ap (λ (j : ℕ). ctr_of (cipher a.w.now) a.t (take j k) ++ drop j k) z;
      chained = λ h n e. c.loop-i.invariant.7 h n e ∙ ap (λ (j : ℕ). entering (cipher a.v.now) (h ++ c.loop-i.p) (j / 16 - 2)) z;
    }

pub shape_of-p : goal.shape_of-p
shape_of-p c = c.loop-i.invariant.3
