use Rattle.std.proofs.Common.{◌≡◌, ℕ, ◌+◌, ◌-◌, ◌*◌, ◌/◌, ◌%◌, ◌<◌, ◌≤◌, [], ◌∷◌, ◌++◌, length, get_or, take, drop, refl, ap, ◌∙◌, ap₂, append_assoc, arith}
use Rattle.aes.specs.Octets.{xor}
use Rattle.aes.specs.Cipher.{from_state, cipher}
use Rattle.aes.specs.Counter.{counter, ctr_of}
use Rattle.aes.specs.Cmac.{chain}
use Rattle.aes_block.specs.Mix.{Shared}
use Rattle.aes_block.proofs.Lengths.{cipher-length}
use Rattle.aes_block.proofs.Rounds.{back}
use Rattle.aes.proofs.Chain.{entering, entering-same, chain-begin, nine, chain-out}
use Rattle.aes.proofs.Beside.{part_length, from-none, long, all_done, ctr-length, start-kept, summed}
use Rattle.aes.proofs.sealing.cipher_and_chain.Goals as goal

pub ctr_to-requires : goal.ctr_to-requires
ctr_to-requires c =
    let h : 32 ≤ length c.args.p.now = omega (arith, c.requires) in
    (omega arith, h)

pub loop-i-init : goal.loop-i-init
loop-i-init c =
    let e : 32 ≤ length c.args.p.now / 16 * 16 = omega (arith, c.requires) in
    (omega arith, e, omega arith, λ l f. f, λ h n f. f)

pub run_both-y-requires : goal.run_both-y-requires
run_both-y-requires c =
    let a = c.args in
    let w = a.w.now in
    let i = c.loop-i.i in
    let q = c.run_end-next.ensures in
    let e = c.counter_block-b.ensures in
    let p = c.loop-i.invariant.3 a.p.now (from-none (cipher w) (cipher-length w) a.t a.p.now _ 32 c.ctr_to.ensures) in
    let n : length c.loop-i.p ≡ length a.p.now = part_length (cipher w) (cipher-length w) a.t a.p.now _ i p in
    let z : length a.p.now / 16 * 16 % 16 ≡ 0 = omega arith in
    let g : Shared w (counter a.t (i / 16)) c.shared-g.result = rw (← e) c.shared-g.ensures in
    let m : i ≤ c.run_end-next.result = omega (arith, q.2 c.loop-i-test.true) in
    let k : c.run_end-next.result ≤ length c.loop-i.p = omega (arith, q.0, n) in
    let f : c.run_end-next.result + get_or (counter a.t (i / 16)) 15 0 * 16 ≤ i + 4096 = rw (← e) q.1 in
    (g, c.loop-i.invariant.0, m, k, c.loop-i.invariant.2, q.3 c.loop-i.invariant.2 z, f)

pub loop-i-smaller : goal.loop-i-smaller
loop-i-smaller c =
    let q = c.run_end-next.ensures in
    omega (arith, q.0, q.2 c.loop-i-test.true)

pub loop-i-preserved : goal.loop-i-preserved
loop-i-preserved c =
    let q = c.run_end-next.ensures in
    let z : length c.args.p.now / 16 * 16 % 16 ≡ 0 = omega arith in
    let b : 32 ≤ c.run_end-next.result = omega (arith, q.2 c.loop-i-test.true, c.loop-i.invariant.0) in (
      b,
      q.0,
      q.3 c.loop-i.invariant.2 z,
      λ k f. c.run_both-y.ensures.ciphered k (c.loop-i.invariant.3 k f),
      λ h n f. c.run_both-y.ensures.chained h n (c.loop-i.invariant.4 h n f),
    )

pub ctr_to-requires-2 : goal.ctr_to-requires-2
ctr_to-requires-2 c =
    let a = c.args in
    let w = a.w.now in
    let p = c.loop-i.invariant.3 a.p.now (from-none (cipher w) (cipher-length w) a.t a.p.now _ 32 c.ctr_to.ensures) in
    let n : length c.loop-i.p ≡ length a.p.now = part_length (cipher w) (cipher-length w) a.t a.p.now _ c.loop-i.i p in
    let k : length a.p.now / 16 * 16 / 16 * 16 ≤ length c.loop-i.p = omega (arith, n) in
    let m : length c.loop-i.p ≤ length c.loop-i.p = omega arith in
    (k, m)

pub state_at-requires : goal.state_at-requires
state_at-requires c =
    let a = c.args in
    let w = a.w.now in
    let t = a.t in
    let o = a.p.now in
    let z : c.loop-i.i ≡ length o / 16 * 16 / 16 * 16 = omega (arith, c.loop-i.invariant.1, c.loop-i-test.false) in
    let e = from-none (cipher w) (cipher-length w) t o _ 32 c.ctr_to.ensures in
    let f = c.loop-i.invariant.3 o e ∙ ap (λ (j : ℕ). ctr_of (cipher w) t (take j o) ++ drop j o) z in
    let g = c.ctr_to-2.ensures o f in
    let n : length c.ctr_to-2.new.m ≡ length o = part_length (cipher w) (cipher-length w) t o _ (length c.loop-i.p) g in
    let h : length o / 16 * 16 - 41 + 15 < length c.ctr_to-2.new.m = omega (arith, n, c.requires) in
    h

pub returns : goal.returns
returns c =
    let a = c.args in
    let w = a.w.now in
    let t = a.t in
    let o = a.p.now in
    let z : c.loop-i.i ≡ length o / 16 * 16 / 16 * 16 = omega (arith, c.loop-i.invariant.1, c.loop-i-test.false) in
    let e = from-none (cipher w) (cipher-length w) t o _ 32 c.ctr_to.ensures in
    let f = c.loop-i.invariant.3 o e ∙ ap (λ (j : ℕ). ctr_of (cipher w) t (take j o) ++ drop j o) z in
    let g = c.ctr_to-2.ensures o f in
    let v = a.v.now in
    let end = length o / 16 * 16 in
    let h = take 8 t ++ (a.f ∷ []) in
    let p = c.loop-i.p in
    let p' = c.ctr_to-2.new.m in
    let sixteen = c.well_formed.1.1.0.1.0.1 in
    let some : 7 ≤ length c.ctr_to.new.m = omega (arith, long w t o _ c.requires c.ctr_to.ensures) in
    let n = nine t a.f c.ctr_to.new.m sixteen some in
    let q : length p ≡ length o = part_length (cipher w) (cipher-length w) t o p (length o / 16 * 16 / 16 * 16) f in
    let q' : length p' ≡ length o = part_length (cipher w) (cipher-length w) t o p' (length p) g in
    let z' : length o / 16 * 16 / 16 * 16 ≡ end = omega arith in
    let k : end / 16 - 2 ≡ length o / 16 - 2 = omega arith in
    let x =
    c.loop-i.invariant.4 h n (chain-begin t a.f _ sixteen some v) ∙
    ap (λ (j : ℕ). entering (cipher v) (h ++ p) (j / 16 - 2)) (z ∙ z') ∙
    entering-same (cipher v) h p p' end (end / 16 - 2) n (omega arith)
    (start-kept (cipher w) (cipher-length w) t o p p' end (length p) (omega (arith, q)) (f ∙ ap (λ (j : ℕ). ctr_of (cipher w) t (take j o) ++ drop j o) z') g) in
    let r = summed _ _ _ c.xor_states.ensures ∙ ap (xor (from_state c.loop-i.x)) (ap from_state c.state_at.ensures ∙ back _ refl) in record { ciphered = all_done (cipher w) (cipher-length w) t o p' (length p) (omega (arith, q)) g; chained = chain-out v h p' _ _ end n (omega (arith, c.requires)) (omega arith) (omega (arith, q')) x r ∙ ap₂ (chain (cipher v)) (append_assoc (take 8 t) (a.f ∷ []) p') k }

pub shape_of-p : goal.shape_of-p
shape_of-p c =
    let a = c.args in
    ap length (returns c).ciphered ∙ ctr-length (cipher a.w.now) (cipher-length a.w.now) a.t a.p.now

pub bounds-p-0 : goal.bounds-p-0
bounds-p-0 c = omega (arith, long _ _ _ _ c.requires c.ctr_to.ensures)

pub bounds-p-1 : goal.bounds-p-1
bounds-p-1 c = omega (arith, long _ _ _ _ c.requires c.ctr_to.ensures)

pub bounds-p-2 : goal.bounds-p-2
bounds-p-2 c = omega (arith, long _ _ _ _ c.requires c.ctr_to.ensures)

pub bounds-p-3 : goal.bounds-p-3
bounds-p-3 c = omega (arith, long _ _ _ _ c.requires c.ctr_to.ensures)

pub bounds-p-4 : goal.bounds-p-4
bounds-p-4 c = omega (arith, long _ _ _ _ c.requires c.ctr_to.ensures)

pub bounds-p-5 : goal.bounds-p-5
bounds-p-5 c = omega (arith, long _ _ _ _ c.requires c.ctr_to.ensures)

pub bounds-p-6 : goal.bounds-p-6
bounds-p-6 c = omega (arith, long _ _ _ _ c.requires c.ctr_to.ensures)

pub run_end-next-requires : goal.run_end-next-requires
run_end-next-requires c = c.loop-i.invariant.1

pub overflow_sub-end : goal.overflow_sub-end
overflow_sub-end c = omega (arith, c.requires)
