-- The values of specs/Examples.antt, each computed.
-- Assumes nothing.
use mathlib.Core.Path.{◌≡◌, refl}
use mathlib.Core.List.{[], ◌∷◌, zip_with}
use Rattle.aes.specs.Field as A
use Rattle.aes.specs.Field.{sbox, affine, inverse, squares, x_times}
use Rattle.streams.specs.Words.{shifted}
use Rattle.streams.specs.Stream.{after, words, enciphered}
use Rattle.streams.specs.Field.{mulx, times, times_bits}
use Rattle.snow3g.specs.Field.{mulx_pow, mul_alpha, div_alpha, power_bits}
use Rattle.snow3g.specs.Boxes.{powers, sq, mix, s1, s2}
use Rattle.snow3g.specs.Machine.{feedback, output, clock}
use Rattle.snow3g.specs.Keystream.{load, initialise, step, start, keyword}
use Rattle.snow3g.specs.Uea2.{key_words, cipher_iv, nea1_of}
use Rattle.snow3g.specs.Uia2.{mul64x, mul64x_pow, mul64_to, mul64}
use Rattle.snow3g_examples.specs.Examples.{key, iv, cipher_key, Examples}

s1-first : s1 0x01000000 ≡ 0x5d427c7c
unfolding s1 mix mulx sbox affine inverse squares A.times A.times_bits x_times
s1-first = refl

s2-first : s2 0x01000000 ≡ 0x27262424
unfolding s2 mix mulx sq powers power_bits times times_bits
s2-first = refl

mul-first : mul_alpha 1 ≡ 0xe19fcf13
unfolding mul_alpha mulx_pow mulx
mul-first = refl

div-last : div_alpha 0x80 ≡ 0xe18d0321
unfolding div_alpha mulx_pow mulx
div-last = refl

set1 : keyword (start key iv) ≡ 0xabee9704
unfolding keyword start after initialise step clock output load feedback shifted s1 s2 mix sq powers power_bits times times_bits mulx sbox affine inverse squares A.times A.times_bits x_times mul_alpha div_alpha mulx_pow
set1 = refl

uea2-set3 : nea1_of cipher_key 0xfa556b26 3 1 (0xad ∷ 0x9c ∷ 0x44 ∷ 0x1f ∷ []) ≡ 0xba ∷ 0x0f ∷ 0x31 ∷ 0x30 ∷ []
unfolding nea1_of key_words cipher_iv enciphered words zip_with keyword start after initialise step clock output load feedback shifted s1 s2 mix sq powers power_bits times times_bits mulx sbox affine inverse squares A.times A.times_bits x_times mul_alpha div_alpha mulx_pow
uea2-set3 = refl

uia2-set4 : mul64 0xd0a7d463df9fb2b2 0x45898e828f27eb98 0x1B ≡ 0x9e80b47b98010914
unfolding mul64 mul64_to mul64x_pow mul64x
uia2-set4 = refl

pub examples : Examples
examples =
    record {
      mul-first = mul-first;
      div-last = div-last;
      s1-first = s1-first;
      s2-first = s2-first;
      set1 = set1;
      uea2-set3 = uea2-set3;
      uia2-set4 = uia2-set4;
    }
