-- What the layers above rely on, of the code and the ciphering of octets under a key, COUNT, bearer and direction.
-- Assumes nothing.
use Rattle.std.specs.Prelude.{◌≡◌, List, ℕ, length, take}
use Rattle.aes.specs.Laws.{Octets}

pub record Laws (code cipher : List ℕ → List ℕ) : Type 0 where
  -- a code is four octets
  pub code-length : (m : List ℕ) → length (code m) ≡ 4
  pub code-octets : (m : List ℕ) → Octets (code m)
  -- ciphering gives as many octets as it was given
  pub cipher-length : (m : List ℕ) → length (cipher m) ≡ length m
  pub cipher-octets : (m : List ℕ) → Octets m → Octets (cipher m)
  -- done twice, the octets themselves
  pub cipher-twice : (m : List ℕ) → cipher (cipher m) ≡ m
  -- the first octets are ciphered as if no others followed
  pub cipher-prefix : (m : List ℕ) (n : ℕ) → cipher (take n m) ≡ take n (cipher m)
