-- The values of specs/Examples.antt, each computed.
-- Assumes nothing.
use mathlib.Core.Path.{◌≡◌, refl}
use mathlib.Core.List.{[], ◌∷◌, zip_with}
use Prim.Native.Nat.{ℕ, zero, suc, ◌<◌}
use native.Mathlib.Nat.{le_of_suc-le-suc}
use native.Mathlib.Omega.{arith}
use lib.ListN.{replicate}
use Rattle.aes.specs.Octets.{octets}
use Rattle.aes.proofs.Tables.{same-table}
use Rattle.streams.specs.Field.{mulx, times_bits, times}
use Rattle.streams.specs.Words.{shifted}
use Rattle.streams.specs.Stream.{after, words, enciphered}
use Rattle.zuc.specs.Boxes.{s0, s1, inverse, squares}
use Rattle.zuc.specs.Register.{p, cell, feedback, shift}
use Rattle.zuc.specs.Nonlinear.{x0, x1, x2, x3, boxes, l1, l2, w, w1, w2, r1_of, r2_of}
use Rattle.zuc.specs.Keystream.{load, clock, initialise, work, start, word}
use Rattle.zuc.specs.Ciphering.{cipher_iv, nea3_of}
use Rattle.zuc.specs.Integrity.{code_iv, bit_at, number_of, word_at, hash, code_of, nia3_bits, nia3_of}
use Rattle.zuc_examples.specs.Examples.{hex16, Examples}

inverse-is-one : (a : ℕ) → 0 < a → a < 256 → times 0x8B a (inverse a) ≡ 1
unfolding inverse squares times times_bits mulx
inverse-is-one zero h l = absurd (omega arith)
inverse-is-one (suc a) h l = same-table (λ x. times 0x8B (suc x) (inverse (suc x))) (λ x. 1) 255 a refl (le_of_suc-le-suc l)

cell-of-0 : cell 0 ≡ p
unfolding cell
cell-of-0 = refl

cell-of-p : cell p ≡ p
unfolding cell
cell-of-p = refl

cipher-iv : cipher_iv 0x00abcdff 1 1 ≡ hex16 0x00abcdff0c00000000abcdff0c000000
unfolding cipher_iv
cipher-iv = refl

code-iv : code_iv 0x00abcdff 1 1 ≡ hex16 0x00abcdff0800000080abcdff08008000
unfolding code_iv
code-iv = refl

zuc-set1 : words work word 2 (start (hex16 0) (hex16 0)) ≡ 0x27bede74 ∷ 0x018082da ∷ []
unfolding s0 s1 inverse squares times times_bits mulx cell feedback shift shifted x0 x1 x2 x3 boxes l1 l2 w w1 w2 r1_of r2_of load clock initialise work after start word words
zuc-set1 = refl

zuc-set3 : words work word 2 (start (hex16 0x3d4c4be96a82fdaeb58f641db17b455b) (hex16 0x84319aa8de6915ca1f6bda6bfbd8c766)) ≡ 0x14f1c272 ∷ 0x3279c419 ∷ []
unfolding s0 s1 inverse squares times times_bits mulx cell feedback shift shifted x0 x1 x2 x3 boxes l1 l2 w w1 w2 r1_of r2_of load clock initialise work after start word words
zuc-set3 = refl

eea3-set1 : nea3_of (hex16 0x173d14ba5003731d7a60049470f00a29) 0x66035492 0xf 0 (octets 8 0x6cf65340735552ab) ≡ octets 8 0xa6c85fc66afb8533
unfolding s0 s1 inverse squares times times_bits mulx cell feedback shift shifted x0 x1 x2 x3 boxes l1 l2 w w1 w2 r1_of r2_of load clock initialise work after start word words cipher_iv enciphered nea3_of zip_with
eea3-set1 = refl

eia3-set1 : nia3_bits (hex16 0) 0 0 0 1 (0 ∷ []) ≡ octets 4 0xc8a9595e
unfolding s0 s1 inverse squares times times_bits mulx cell feedback shift shifted x0 x1 x2 x3 boxes l1 l2 w w1 w2 r1_of r2_of load clock initialise work after start word words code_iv bit_at number_of word_at hash code_of nia3_bits
eia3-set1 = refl

eia3-set2 : nia3_bits (hex16 0x47054125561eb2dda94059da05097850) 0x561eb2dd 0x14 0 90 (replicate 12 0) ≡ octets 4 0x6719a088
unfolding s0 s1 inverse squares times times_bits mulx cell feedback shift shifted x0 x1 x2 x3 boxes l1 l2 w w1 w2 r1_of r2_of load clock initialise work after start word words code_iv bit_at number_of word_at hash code_of nia3_bits
eia3-set2 = refl

one-octet : nia3_of (hex16 0x000102030405060708090a0b0c0d0e0f) 0x00abcdff 1 0 (1 ∷ []) ≡ octets 4 0xfe619d18
unfolding s0 s1 inverse squares times times_bits mulx cell feedback shift shifted x0 x1 x2 x3 boxes l1 l2 w w1 w2 r1_of r2_of load clock initialise work after start word words code_iv bit_at number_of word_at hash code_of nia3_bits nia3_of
one-octet = refl

zero-cell : nea3_of (hex16 0xe3414243004546474849df4b4c064e90) 0x00000407 1 0 (octets 4 0x01080f16) ≡ octets 4 0xf5f2514c
unfolding s0 s1 inverse squares times times_bits mulx cell feedback shift shifted x0 x1 x2 x3 boxes l1 l2 w w1 w2 r1_of r2_of load clock initialise work after start word words cipher_iv enciphered nea3_of zip_with
zero-cell = refl

pub examples : Examples
examples =
    record {
      inverse-is-one = inverse-is-one;
      cell-of-0 = cell-of-0;
      cell-of-p = cell-of-p;
      cipher-iv = cipher-iv;
      code-iv = code-iv;
      zuc-set1 = zuc-set1;
      zuc-set3 = zuc-set3;
      eea3-set1 = eea3-set1;
      eia3-set1 = eia3-set1;
      eia3-set2 = eia3-set2;
      one-octet = one-octet;
      zero-cell = zero-cell;
    }
