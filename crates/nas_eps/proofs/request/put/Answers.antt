use mathlib.Core.Path.{◌≡◌, refl, ap, sym, ◌∙◌}
use Prim.Native.Nat.{ℕ, ◌+◌, ◌*◌, ◌%◌, ◌≤◌}
use mathlib.Core.List.{List, [], ◌∷◌}
use native.Mathlib.Omega.{arith}
use lib.ListN.{length, take, drop, get_or, set, length-set}
use lib.Seq.{take_at, length-take-le}
use Rattle.aes.specs.declared.Input.{Input}
use Rattle.nas_core.specs.Keyed.{code_by}
use Rattle.nas_core.proofs.Octets.{stored, over-front}
use Rattle.nas_eps.proofs.Pairs.{last-two}
use Rattle.nas_eps.specs.Octets.{short_code, service_request}
use borrow.Author.Rules.{rules}
use Rattle.nas_eps.proofs.request.put.Goals as goal

pub bounds-out-1 : goal.bounds-out-1
bounds-out-1 c =
    simp length-set (omega arith)

pub slice_bounds-code-end : goal.slice_bounds-code-end
slice_bounds-code-end c =
    simp length-set (omega arith)

pub slice_bounds-code-end-2 : goal.slice_bounds-code-end-2
slice_bounds-code-end-2 c =
    let a = c.args in
    let l : 2 ≤ length (set (set a.out.now 0 199) 1 (a.identifier * 32 + a.count % 32)) = simp length-set (omega (arith, c.requires.1)) in
    sym (length-take-le 2 (set (set a.out.now 0 199) 1 (a.identifier * 32 + a.count % 32)) l)

pub bounds-out-2 : goal.bounds-out-2
bounds-out-2 c =
    simp length-set (omega arith)

-- the two octets that the code covers
head-there : (a b : ℕ) (out : List ℕ) → 4 ≤ length out → take 2 (set (set out 0 a) 1 b) ≡ a ∷ b ∷ []
head-there a b out h =
    ap (λ (l : List ℕ). take 2 l) (stored (a ∷ b ∷ []) out (omega arith)) ∙ take_at (a ∷ b ∷ []) (drop 2 out) 2 refl

pub returns : goal.returns
unfolding service_request short_code
returns c =
    let a = c.args in
    let out = a.out.now in
    let room = c.requires.1 in
    let k = c.code-code.result in
    let b = a.identifier * 32 + a.count % 32 in
    let code : k ≡ code_by a.core a.count 0 0 (199 ∷ b ∷ []) =
    c.code-code.ensures
    ∙ ap (λ (i : Input). code_by a.core i.count i.bearer i.direction (take 2 (set (set out 0 199) 1 b))) c.input.ensures
    ∙ ap (λ (l : List ℕ). code_by a.core a.count 0 0 l) (head-there 199 b out room) in
    let made : 199 ∷ b ∷ get_or k 2 0 ∷ get_or k 3 0 ∷ [] ≡ service_request a.core a.identifier a.count =
    ap (λ (l : List ℕ). 199 ∷ b ∷ l) (sym (last-two k (search rules)) ∙ ap (λ (l : List ℕ). drop 2 l) code) in
    stored (199 ∷ b ∷ get_or k 2 0 ∷ get_or k 3 0 ∷ []) out room
    ∙ over-front 4 (199 ∷ b ∷ get_or k 2 0 ∷ get_or k 3 0 ∷ []) (service_request a.core a.identifier a.count) out made refl
