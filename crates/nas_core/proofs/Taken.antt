use Rattle.std.specs.Prelude.{Ok, Err}
-- A received code and what is behind it: where both algorithms are AES, in the words of the algorithms by their codes; and at the front of an output.
use mathlib.Core.Path.{◌≡◌, ap, ap₂, sym, ◌∙◌}
use mathlib.Core.Bool.{Bool, true}
use mathlib.Core.List.{List, ◌++◌}
use Prim.Native.Nat.{ℕ, ◌+◌, ◌-◌}
use native.Mathlib.Omega.{arith}
use lib.ListN.{length, take, drop, take-append-drop}
use Rattle.aes.specs.Keys.{nia2_by, nea2_by}
use Rattle.algorithms.specs.Codes.{code_of, cipher_of}
use Rattle.nas_core.specs.declared.Core.{Core}
use Rattle.nas_core.specs.Keyed.{wraps, code_by, payload}
use Rattle.nas_core.specs.Verify.{same, fits}
use Rattle.count.specs.Rule.{Opening}
use Rattle.count.specs.declared.Taken.TheVariants.{Late, Forward}
use Rattle.count.specs.declared.Missed.TheVariants.{NoCandidate, WrongCode}
use Rattle.nas_core.specs.Leaves.{over, read_as}
use Rattle.nas_core.proofs.Octets.{rest, over-front}

aes-fits : (x : Core) (c b d p : ℕ) (m : List ℕ) → x.integrity ≡ 2
    → fits x c b d p m ≡ same (take 4 (drop p m)) (nia2_by x.integrity_key c b d (drop (p + 4) m))
unfolding fits wraps code_by code_of
aes-fits x c b d p m e = rw e

-- the code compared with the four octets where it stands
pub compared-fits : (x : Core) (c b d p : ℕ) (m code : List ℕ) (t : Bool) → x.integrity ≡ 2
    → code ≡ nia2_by x.integrity_key c b d (take (length m - (p + 4)) (drop (p + 4) m))
    → t ≡ same (take (p + 4 - p) (drop p m)) code → t ≡ fits x c b d p m
compared-fits x c b d p m code t e f g =
    let four : p + 4 - p ≡ 4 = omega arith in
    g ∙
    ap₂ (λ (u v : List ℕ). same u v) (ap (λ (k : ℕ). take k (drop p m)) four)
    (f ∙ ap (λ (l : List ℕ). nia2_by x.integrity_key c b d l) (rest (p + 4) m)) ∙
    sym (aes-fits x c b d p m e)

-- what is behind, deciphered
pub read-aes : (x : Core) (c b d : ℕ) (m : List ℕ) → x.ciphering ≡ 2 → nea2_by x.ciphering_key c b d m ≡ payload x true c b d m
unfolding payload cipher_of
read-aes x c b d m e = rw e

-- what was read to the front of an output that was lent, put back in its place
pub front_read : (f : ℕ → List ℕ) (n : ℕ) (out ys : List ℕ) (r : Opening) → ((c : ℕ) → length (f c) ≡ n) → ys ≡ read_as f (take n out) r
    → ys ++ drop n out ≡ read_as (λ c. over (f c) out) out r
front_read f n out ys (Err NoCandidate) l e = ap (λ (z : List ℕ). z ++ drop n out) e ∙ take-append-drop n out
front_read f n out ys (Err WrongCode) l e = ap (λ (z : List ℕ). z ++ drop n out) e ∙ take-append-drop n out
front_read f n out ys (Ok (Late c)) l e = over-front n ys (f c) out e (ap length e ∙ l c)
front_read f n out ys (Ok (Forward c)) l e = over-front n ys (f c) out e (ap length e ∙ l c)
