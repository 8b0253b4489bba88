-- The first octets are ciphered as if no others followed, by every code.
use Prim.Native.Nat.{ℕ, ◌≤◌}
use mathlib.Core.Path.{◌≡◌, refl, ap, sym, ◌∙◌}
use mathlib.Core.List.{List, ◌++◌, append-nil}
use native.Mathlib.Omega.{arith}
use lib.ListN.{length, take, replicate, drop_of_length-le}
use lib.Seq.{take_all}
use Rattle.aes.specs.Cipher.{cipher}
use Rattle.aes.specs.Counter.{ctr_of}
use Rattle.aes.specs.Nas.{head}
use Rattle.aes.specs.Keys.{nea2_by}
use Rattle.aes.specs.declared.Key.{Key}
use Rattle.aes.proofs.Lengths.{cipher-length}
use Rattle.aes.proofs.Stream.{under, octet, done}
use Rattle.streams.proofs.Under.{under-take}
use Rattle.snow3g.specs.Uea2.{nea1_of}
use Rattle.snow3g.proofs.Laws.{laws as laws1}
use Rattle.zuc.specs.Ciphering.{nea3_of}
use Rattle.zuc.proofs.Laws.{laws as laws3}
use Rattle.algorithms.specs.Codes.{keyed, cipher_of}
use Rattle.algorithms.proofs.Laws.{all-by_code}

module _ (w t : List ℕ) where
  streamed : (m : List ℕ) → under (octet (cipher w) (cipher-length w) t) 0 m ≡ ctr_of (cipher w) t m
  streamed m =
      let p : length m ≤ length m = omega arith in
      rw (take_all (length m) m p, drop_of_length-le m p, append-nil) at (done (cipher w) (cipher-length w) t m (length m) p)

  ctr-prefix : (m : List ℕ) (n : ℕ) → ctr_of (cipher w) t (take n m) ≡ take n (ctr_of (cipher w) t m)
  ctr-prefix m n =
      sym (streamed (take n m)) ∙ under-take (octet (cipher w) (cipher-length w) t) 0 n m ∙ ap (take n) (streamed m)

module _ (key : Key) (c b d : ℕ) (m : List ℕ) (n : ℕ) where
  nea2-prefix : nea2_by key c b d (take n m) ≡ take n (nea2_by key c b d m)
  unfolding nea2_by
  nea2-prefix = ctr-prefix key.schedule (head c b d ++ replicate 8 0) m n

  pub cipher-prefix : (a : ℕ) → cipher_of a key c b d (take n m) ≡ take n (cipher_of a key c b d m)
  unfolding cipher_of
  cipher-prefix a =
      all-by_code (λ f. f key c b d (take n m) ≡ take n (f key c b d m)) a _ (keyed nea1_of) nea2_by (keyed nea3_of)
      refl ((laws1 key.octets c b d).cipher-prefix m n) nea2-prefix ((laws3 key.octets c b d).cipher-prefix m n)
