-- A key with what it expands to, made once: the 44 words of FIPS 197 5.2 and K1 and K2 of SP 800-38B 6.1; and 128-NEA2 and 128-NIA2 by what is kept.
-- Assumes nothing.
use Rattle.std.specs.Prelude.{◌≡◌, ℕ, List, ◌++◌, take, replicate}
use Rattle.aes.specs.Cipher.{cipher, expand_key}
use Rattle.aes.specs.Counter.{ctr_of}
use Rattle.aes.specs.Cmac.{subkey1, subkey2, cmac_by}
use Rattle.aes.specs.Nas.{head}
use Rattle.aes.specs.declared.Key.{Key}

unfoldable pub key_of : List ℕ → Key
key_of k =
    record {
      octets = k;
      schedule = expand_key k;
      subkey1 = subkey1 (cipher (expand_key k));
      subkey2 = subkey2 (cipher (expand_key k));
    }

-- what is kept is the key's own
abbrev pub Kept : Key → Type 0
Kept k = k ≡ key_of k.octets

unfoldable pub nea2_by : Key → ℕ → ℕ → ℕ → List ℕ → List ℕ
nea2_by k count bearer direction m = ctr_of (cipher k.schedule) (head count bearer direction ++ replicate 8 0) m

unfoldable pub nia2_by : Key → ℕ → ℕ → ℕ → List ℕ → List ℕ
nia2_by k count bearer direction m =
    take 4 (cmac_by (cipher k.schedule) k.subkey1 k.subkey2 (head count bearer direction ++ m))
