-- Worked values of ZUC, 128-EEA3 and 128-EIA3, as theorems that compute. Proved in proofs/Examples.antt.
-- Assumes nothing.
use Rattle.std.specs.Prelude.{◌≡◌, List, [], ◌∷◌, ℕ, ◌<◌, replicate}
use Rattle.aes.specs.Octets.{octets}
use Rattle.streams.specs.Field.{times}
use Rattle.streams.specs.Stream.{words}
use Rattle.zuc.specs.Boxes.{inverse}
use Rattle.zuc.specs.Register.{p, cell}
use Rattle.zuc.specs.Keystream.{work, start, word}
use Rattle.zuc.specs.Ciphering.{cipher_iv, nea3_of}
use Rattle.zuc.specs.Integrity.{code_iv, nia3_bits, nia3_of}

-- 16 octets, as the documents print them
abbrev pub hex16 : ℕ → List ℕ
hex16 x = octets 16 x

pub record Examples : Type 0 where
  -- the field of S1: x • x^-1 = 1
  pub inverse-is-one : (a : ℕ) → 0 < a → a < 256 → times 0x8B a (inverse a) ≡ 1
  -- 0 is written as p
  pub cell-of-0 : cell 0 ≡ p
  pub cell-of-p : cell p ≡ p
  -- the two IVs, which differ where the direction is 1
  pub cipher-iv : cipher_iv 0x00abcdff 1 1 ≡ hex16 0x00abcdff0c00000000abcdff0c000000
  pub code-iv : code_iv 0x00abcdff 1 1 ≡ hex16 0x00abcdff0800000080abcdff08008000
  -- document 3 (TS 35.223), ZUC sets 1 and 3
  pub zuc-set1 : words work word 2 (start (hex16 0) (hex16 0)) ≡ 0x27bede74 ∷ 0x018082da ∷ []
  pub zuc-set3 :
      words work word 2 (start (hex16 0x3d4c4be96a82fdaeb58f641db17b455b) (hex16 0x84319aa8de6915ca1f6bda6bfbd8c766))
      ≡ 0x14f1c272 ∷ 0x3279c419 ∷ []
  -- document 3, 128-EEA3 set 1: its first eight octets
  pub eea3-set1 :
      nea3_of (hex16 0x173d14ba5003731d7a60049470f00a29) 0x66035492 0xf 0 (octets 8 0x6cf65340735552ab) ≡ octets 8 0xa6c85fc66afb8533
  -- document 3, 128-EIA3 sets 1 and 2, of 1 bit and of 90 bits
  pub eia3-set1 : nia3_bits (hex16 0) 0 0 0 1 (0 ∷ []) ≡ octets 4 0xc8a9595e
  pub eia3-set2 : nia3_bits (hex16 0x47054125561eb2dda94059da05097850) 0x561eb2dd 0x14 0 90 (replicate 12 0) ≡ octets 4 0x6719a088
  -- of no document, computed by libipsec-mb and a model: the code of one octet
  pub one-octet : nia3_of (hex16 0x000102030405060708090a0b0c0d0e0f) 0x00abcdff 1 0 (1 ∷ []) ≡ octets 4 0xfe619d18
  -- so too: the cell that the first initialisation round makes is 0 modulo p
  pub zero-cell : nea3_of (hex16 0xe3414243004546474849df4b4c064e90) 0x00000407 1 0 (octets 4 0x01080f16) ≡ octets 4 0xf5f2514c
