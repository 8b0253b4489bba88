use Rattle.std.proofs.Common.{◌≡◌, ℕ, ◌+◌, List, ◌++◌, length, sym, refl, ap, ◌∙◌, ap₂, arith, length-append}
use Rattle.aes.specs.Cipher.{from_state, cipher}
use Rattle.aes.specs.Octets.{xor, octets}
use Rattle.aes.specs.Parts.{chain_block}
use Rattle.aes.proofs.Mac.{made_some, made_all, made_more, block-length, next-state}
use Rattle.aes.proofs.Octets.{number-be, owned-octets, halves-back}
use Rattle.aes.proofs.cmac_mode.cmac_from.Goals as goal

pub loop-i-init : goal.loop-i-init
loop-i-init c =
    let a = c.args in
    let m = a.head.now ++ a.message.now in
    let e : length m ≡ length a.head.now + length a.message.now = length-append a.head.now a.message.now in
    let g = c.well_formed.1.1.1.1.1.0 in (
      c.requires.1 ∙ sym (made_some (cipher a.w.now) a.k1 a.k2 m a.from (omega arith)),
      owned-octets a.x g.0 g.1.1,
    )

pub loop-i-preserved : goal.loop-i-preserved
loop-i-preserved c =
    let a = c.args in
    let i = c.loop-i.i in
    let m = a.head.now ++ a.message.now in
    let e : length m ≡ length a.head.now + length a.message.now = length-append a.head.now a.message.now in
    let b = chain_block a.k1 a.k2 m i in
    let k = block-length a.k1 a.k2 m i (omega arith) c.well_formed.1.0.1.0.1 c.well_formed.1.1.0.1.0.1 in
    let f = next-state a.w.now b c.loop-i.x _ _ _ k c.chain_state-b.ensures c.xor_states.ensures c.encrypt_state-next.ensures in
    let g = c.encrypt_state-next.type_inv in (
      f ∙ ap (λ (z : List ℕ). cipher a.w.now (xor z b)) c.loop-i.invariant.0 ∙ made_more (cipher a.w.now) a.k1 a.k2 m i (omega arith),
      owned-octets c.encrypt_state-next.result g.0 g.1.1,
    )

pub returns : goal.returns
unfolding from_state
returns c =
    let a = c.args in
    let m = a.head.now ++ a.message.now in
    let e : length m ≡ length a.head.now + length a.message.now = length-append a.head.now a.message.now in
    ap₂ (λ (p q : ℕ). octets 8 p ++ octets 8 q) (c.from_be_bytes.ensures ∙ number-be _ _ _ _ _ _ _ _) (c.from_be_bytes-2.ensures ∙ number-be _ _ _ _ _ _ _ _) ∙
    halves-back (from_state c.loop-i.x) refl c.loop-i.invariant.1 ∙
    c.loop-i.invariant.0 ∙
    made_all (cipher a.w.now) a.k1 a.k2 m c.loop-i.i (omega arith)
