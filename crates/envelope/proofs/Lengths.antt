-- How many octets a call writes.
use mathlib.Core.Path.{◌≡◌, ap, ◌∙◌}
use mathlib.Core.List.{List}
use mathlib.Core.Bool.{true}
use Prim.Native.Nat.{ℕ, ◌+◌, ◌≤◌}
use native.Mathlib.Omega.{arith}
use lib.ListN.{length, length-append}
use Rattle.nas_core.specs.declared.Core.{Core}
use Rattle.nas_core.specs.Keyed.{code_by, payload}
pub use Rattle.nas_core.proofs.Octets.{over-front}
use Rattle.nas_core.proofs.Keys.{code-by-length, payload-length, protected-length}
use Rattle.envelope.specs.Envelope.{ciphers, envelope}
use Rattle.envelope.specs.Eps.{eps_message}
use Rattle.initial.specs.Messages.{mandatory_length}
use Rattle.initial.specs.Outer.{outer_length}
use Rattle.initial.proofs.Laws.{laws}
use Rattle.envelope.specs.Initial.{outgoing, initial_envelope}
use Rattle.envelope.specs.Containers.{s1_value, s1_count, s1_to_n1}

pub envelope-length : (x : Core) (t c b d : ℕ) (inner : List ℕ) → length (envelope x t c b d inner) ≡ 7 + length inner
unfolding envelope
envelope-length x t c b d inner =
    omega (arith, protected-length x c b d (payload x (ciphers t) c b d inner), payload-length x c b d inner (ciphers t))

pub eps-length : (x : Core) (c : ℕ) (inner : List ℕ) → length (eps_message x c inner) ≡ 6 + length inner
unfolding eps_message
eps-length x c inner = omega (arith, protected-length x c 1 0 inner)

pub s1-length : (x : Core) (ncc ngksi : ℕ) → length (s1_to_n1 x ncc ngksi) ≡ 8
unfolding s1_to_n1
s1-length x ncc ngksi =
    length-append (code_by x s1_count 1 1 (s1_value x ncc ngksi)) (s1_value x ncc ngksi)
    ∙ omega (arith, code-by-length x s1_count 1 1 (s1_value x ncc ngksi))

pub outgoing-length : (x : Core) (c b : ℕ) (w : List ℕ) → mandatory_length w ≤ length w → length (outgoing x c b w) ≡ outer_length w
unfolding outgoing
outgoing-length x c b w h = (laws.out w (payload x true c b 0 w)).length-is h (payload-length x c b 0 w true)

pub initial-length : (x : Core) (c b : ℕ) (w : List ℕ) → mandatory_length w ≤ length w → length (initial_envelope x c b w) ≡ 7 + outer_length w
unfolding initial_envelope
initial-length x c b w h = envelope-length x 1 c b 0 (outgoing x c b w) ∙ ap (λ (n : ℕ). 7 + n) (outgoing-length x c b w h)
