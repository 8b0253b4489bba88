-- A message sealed for a COUNT: what opening it finds, and what it hands over.
use Prim.Native.Nat.{ℕ, ◌%◌}
use mathlib.Core.Path.{◌≡◌}
use mathlib.Core.List.{List, ◌∷◌}
use native.Mathlib.Omega.{arith}
use Rattle.nas_core.specs.declared.Core.{Core}
use Rattle.nas_core.specs.Keyed.{payload, protected}
pub use Rattle.nas_core.proofs.Keys.{payload-length, payload_twice}
use Rattle.nas_5gs.specs.Envelope.{ciphers, envelope}
use Rattle.nas_5gs.specs.Eps.{eps_bearer, eps_direction, eps_message}
pub use Rattle.promise.proofs.Sealed.{Parts, parts, fits-behind, Sealed, codes_same, payloads-same}
use Rattle.promise.proofs.Sealed.{protected-parts, one-sealed, protected-same}
use Rattle.promises.specs.Words.{SameKeys}

pub envelope-same : (x y : Core) (c b d : ℕ) → SameKeys y x → (t : ℕ) (m : List ℕ) → envelope y t c b d m ≡ envelope x t c b d m
unfolding envelope
envelope-same x y c b d k t m = rw (payloads-same x y c b d k (ciphers t) m, protected-same x y c b d k (payload x (ciphers t) c b d m))

pub eps-same : (x y : Core) (c : ℕ) → SameKeys y x → (m : List ℕ) → eps_message y c m ≡ eps_message x c m
unfolding eps_message
eps-same x y c k m = rw (protected-same x y c eps_bearer eps_direction k m)

module _ (x : Core) (c : ℕ) (inner : List ℕ) where
  pub envelope-sealed : (b d t : ℕ) → Sealed x c b d 2 (envelope x t c b d inner) (payload x (ciphers t) c b d inner)
  unfolding envelope
  envelope-sealed b d t =
      let body = payload x (ciphers t) c b d inner in
      let q = protected-parts x c b d body in
      record {
        octet-there = q.octet-there;
        body-there = q.body-there;
        long = omega (arith, q.long);
        own = fits-behind x c b d (c % 256 ∷ body) 2 (0x7E ∷ t ∷ protected x c b d body) q.code-there q.covered;
      }

  pub eps-sealed : Sealed x c eps_bearer eps_direction 1 (eps_message x c inner) inner
  unfolding eps_message
  eps-sealed = one-sealed x c eps_bearer eps_direction 0x17 inner
