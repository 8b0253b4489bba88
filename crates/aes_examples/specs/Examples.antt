-- Worked examples that the standards print. Proved in proofs/Examples.antt.
-- Assumes nothing.
use Rattle.std.specs.Prelude.{◌≡◌, List, [], ℕ}
use Rattle.aes.specs.Octets.{octets}
use Rattle.aes.specs.Cipher.{cipher, word, expand_key}
use Rattle.aes.specs.Counter.{ctr_of}
use Rattle.aes.specs.Cmac.{subkey1, subkey2, cmac_of}
use Rattle.aes.specs.Nas.{nea2_of, nia2_of}

-- a block or a key, as the standards print it
abbrev pub hex16 : ℕ → List ℕ
hex16 x = octets 16 x

-- the key of FIPS 197 A.1, SP 800-38A F and SP 800-38B D.1
abbrev pub key : List ℕ
key = hex16 0x2b7e151628aed2a6abf7158809cf4f3c

pub record Fips197 : Type 0 where
  -- A.1: the last word of the expanded key
  pub A1 : word (expand_key key) 43 ≡ octets 4 0xb6630ca6
  -- B
  pub B : cipher (expand_key key) (hex16 0x3243f6a8885a308d313198a2e0370734) ≡ hex16 0x3925841d02dc09fbdc118597196a0b32

pub record Sp800-38A : Type 0 where
  -- F.5.1: the first block
  pub F51 :
      ctr_of (cipher (expand_key key)) (hex16 0xf0f1f2f3f4f5f6f7f8f9fafbfcfdfeff) (hex16 0x6bc1bee22e409f96e93d7e117393172a)
      ≡ hex16 0x874d6191b620e3261bef6864990db6ce

pub record Sp800-38B-Subkeys : Type 0 where
  -- D.1
  pub K1 : subkey1 (cipher (expand_key key)) ≡ hex16 0xfbeed618357133667c85e08f7236a8de
  pub K2 : subkey2 (cipher (expand_key key)) ≡ hex16 0xf7ddac306ae266ccf90bc11ee46d513b

pub record Sp800-38B-Codes : Type 0 where
  -- D.1: of no octet and of 16
  pub of_none : cmac_of (cipher (expand_key key)) [] ≡ hex16 0xbb1d6929e95937287fa37d129b756746
  pub of-16 : cmac_of (cipher (expand_key key)) (hex16 0x6bc1bee22e409f96e93d7e117393172a) ≡ hex16 0x070a16b46b4d4144f79bdd9dd04a287c

pub record Ts33401 : Type 0 where
  -- C.2, test set 2
  pub C2-set2 :
      nia2_of (hex16 0xd3c5d592327fb11c4035c6680af8c6d1) 0x398a59b4 0x1a 1 (octets 8 0x484583d5afe082ae) ≡ octets 4 0xb93787e6
  -- C.1, test set 1, its first 31 octets
  pub C1-set1 :
      nea2_of (hex16 0xd3c5d592327fb11c4035c6680af8c6d1) 0x398a59b4 0x15 1 (octets 31 0x981ba6824c1bfb1ab485472029b71d808ce33e2cc3c0b5fc1f3de8a6dc66b1)
      ≡ octets 31 0xe9fed8a63d155304d71df20bf3e82214b20ed7dad2f233dc3c22d7bdeeed8e
