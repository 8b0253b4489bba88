-- How many octets a seal writes.
use mathlib.Core.Path.{◌≡◌, ◌∙◌}
use mathlib.Core.List.{List}
use Prim.Native.Nat.{ℕ, ◌+◌}
use native.Mathlib.Omega.{arith}
use lib.ListN.{length, take, length-drop}
use Rattle.nas_core.specs.declared.Core.{Core}
use Rattle.nas_core.specs.Types.{ciphers}
use Rattle.nas_core.specs.Keyed.{code_by, payload}
use Rattle.nas_core.proofs.Keys.{code-by-length, payload-length, protected-length}
use Rattle.nas_eps.specs.Octets.{message, request_head, short_code, service_request}

pub message-length : (x : Core) (t c d : ℕ) (inner : List ℕ) → length (message x t c d inner) ≡ 6 + length inner
unfolding message
message-length x t c d inner =
    omega (arith, protected-length x c 0 d (payload x (ciphers t) c 0 d inner), payload-length x c 0 d inner (ciphers t))

pub short-length : (x : Core) (c : ℕ) (m : List ℕ) → length (short_code x c m) ≡ 2
unfolding short_code
short-length x c m = length-drop 2 (code_by x c 0 0 (take 2 m)) ∙ omega (arith, code-by-length x c 0 0 (take 2 m))

pub request-length : (x : Core) (i c : ℕ) → length (service_request x i c) ≡ 4
unfolding service_request
request-length x i c = omega (arith, short-length x c (request_head i c))
