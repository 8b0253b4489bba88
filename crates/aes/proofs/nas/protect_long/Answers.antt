use Rattle.std.proofs.Common.{◌≡◌, ℕ, ◌+◌, ◌-◌, ◌/◌, ◌≤◌, List, ◌∷◌, ◌++◌, length, get_or, take, drop, replicate, sym, ap, ◌∙◌, ap₂, arith, length-drop, length-take, take_at}
use Rattle.aes.specs.Cipher.{cipher}
use Rattle.aes.specs.Counter.{ctr_of}
use Rattle.aes.specs.Cmac.{chain}
use Rattle.aes.specs.Nas.{head}
use Rattle.aes.specs.Keys.{nia2_by}
use Rattle.aes_block.proofs.Lengths.{cipher-length}
use Rattle.aes.proofs.Parts.{behind, first-behind, lent_length}
use Rattle.aes.proofs.Beside.{ctr-length}
use borrow.Rule.Slice.PartMut.{put_mid}
use Rattle.aes.proofs.nas.protect_long.Goals as goal

pub cmac_from-requires : goal.cmac_from-requires
cmac_from-requires c =
    let m = c.args.m.now in
    let w = c.args.w.now in
    let zs = c.cipher_and_chain-x.new.p in
    let some : 1 ≤ length m = omega (arith, c.requires) in
    let part : length (take (length m - 1) (drop 1 m)) ≡ length m - 1 = simp (length-take, length-drop) (omega arith) in
    let eight : length c.head-h.result ≡ 8 = c.head-h.type_inv.1.0.1 in
    let start : take 8 c.first_counter-t.result ≡ c.head-h.result =
    ap (take 8) (c.first_counter-t.ensures ∙ ap (λ (l : List ℕ). l ++ replicate 8 0) (sym c.head-h.ensures)) ∙
    take_at c.head-h.result (replicate 8 0) 8 eight in
    let all = ap₂ (λ (l : List ℕ) (k : ℕ). chain (cipher c.args.integrity_key.schedule) l (k / 16 - 2))
    (ap (λ (l : List ℕ). l ++ get_or m 0 0 ∷ zs) start ∙ first-behind c.head-h.result m zs some) part in
    let size : length zs ≡ length m - 1 = ap length c.cipher_and_chain-x.ensures.ciphered ∙ ctr-length (cipher w) (cipher-length w) c.first_counter-t.result (take (length m - 1) (drop 1 m)) ∙ part in
    let before : (length m - 1) / 16 - 2 ≤ (length c.head-h.result + length (put_mid 1 (length m - 1) m zs) - 1) / 16 = omega (arith, lent_length m zs some, size, eight) in
    (before, c.cipher_and_chain-x.ensures.chained ∙ all)

pub returns : goal.returns
unfolding nia2_by
returns c =
    let a = c.args in
    let m = a.m.now in
    let w = a.w.now in record {
      ciphered = behind 1 m _ (λ (l : List ℕ). ctr_of (cipher w) (head a.input.count a.input.bearer a.input.direction ++ replicate 8 0) l)
          (c.cipher_and_chain-x.ensures.ciphered ∙ ap (λ (l : List ℕ). ctr_of (cipher w) l (take (length m - 1) (drop 1 m))) c.first_counter-t.ensures);
      code = c.code_of.ensures ∙ ap (take 4) c.cmac_from.ensures ∙ rw c.head-h.ensures;
    }
