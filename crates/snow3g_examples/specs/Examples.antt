-- Worked values of SNOW 3G, UEA2 and UIA2, as theorems that compute. Proved in proofs/Examples.antt.
-- Assumes nothing.
use Rattle.std.specs.Prelude.{◌≡◌, List, [], ◌∷◌, ℕ}
use Rattle.snow3g.specs.Field.{mul_alpha, div_alpha}
use Rattle.snow3g.specs.Boxes.{s1, s2}
use Rattle.snow3g.specs.Keystream.{start, keyword}
use Rattle.snow3g.specs.Uea2.{nea1_of}
use Rattle.snow3g.specs.Uia2.{mul64}

-- document 3 (TS 35.217), SNOW 3G set 1: k0 .. k3 and IV0 .. IV3
abbrev pub key : List ℕ
key = 0x2bd6459f ∷ 0x82c5b300 ∷ 0x952c4910 ∷ 0x4881ff48 ∷ []

abbrev pub iv : List ℕ
iv = 0xea024714 ∷ 0xad5c4d84 ∷ 0xdf1f9b25 ∷ 0x1c0bf45f ∷ []

-- document 3, UEA2 set 3
abbrev pub cipher_key : List ℕ
cipher_key = 0x5a ∷ 0xcb ∷ 0x1d ∷ 0x64 ∷ 0x4c ∷ 0x0d ∷ 0x51 ∷ 0x20 ∷ 0x4e ∷ 0xa5 ∷ 0xf1 ∷ 0x45 ∷ 0x10 ∷ 0x10 ∷ 0xd8 ∷ 0x52 ∷ []

pub record Examples : Type 0 where
  pub mul-first : mul_alpha 1 ≡ 0xe19fcf13
  pub div-last : div_alpha 0x80 ≡ 0xe18d0321
  pub s1-first : s1 0x01000000 ≡ 0x5d427c7c
  pub s2-first : s2 0x01000000 ≡ 0x27262424
  -- the first word of set 1
  pub set1 : keyword (start key iv) ≡ 0xabee9704
  -- the first word's octets of UEA2 set 3
  pub uea2-set3 : nea1_of cipher_key 0xfa556b26 3 1 (0xad ∷ 0x9c ∷ 0x44 ∷ 0x1f ∷ []) ≡ 0xba ∷ 0x0f ∷ 0x31 ∷ 0x30 ∷ []
  -- UIA2 set 4: EVAL after the first block
  pub uia2-set4 : mul64 0xd0a7d463df9fb2b2 0x45898e828f27eb98 0x1B ≡ 0x9e80b47b98010914
