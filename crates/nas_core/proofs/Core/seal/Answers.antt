use mathlib.Core.Path.{◌≡◌, ap, ◌∙◌}
use native.Mathlib.Omega.{arith}
use lib.ListN.{length, take, drop, set, length-set, length-take, length-drop}
use mathlib.Core.List.{List, [], ◌∷◌, ◌++◌}
use borrow.Rule.Slice.PartMut.{put_mid, same_len_mid}
use Rattle.nas_core.proofs.Octets.{stored-behind, rest, rest_back, joined}
use Prim.Native.Nat.{ℕ, ◌%◌, ◌-◌, ◌≤◌}
use Rattle.nas_core.specs.Keyed.{payload, protected, code_by}
use Rattle.nas_core.proofs.Core.seal.Goals.{After-cipher_and_code-code}
use Rattle.nas_core.proofs.Core.seal.Goals as goal

pub slice_bounds-cipher_and_code-count : goal.slice_bounds-cipher_and_code-count
slice_bounds-cipher_and_code-count c =
    simp length-set (omega arith)

pub slice_bounds-cipher_and_code-start : goal.slice_bounds-cipher_and_code-start
slice_bounds-cipher_and_code-start c =
    simp length-set (omega arith)

pub cipher_and_code-code-requires : goal.cipher_and_code-code-requires
cipher_and_code-code-requires c =
    simp (length-take, length-drop, length-set) (omega arith)

-- the octets with the last octet of the COUNT stored, and as many when what is behind it is back
abbrev counted : After-cipher_and_code-code → List ℕ
counted c = set c.args.body.now 4 (c.args.input.count % 256)

many : (c : After-cipher_and_code-code) → length (put_mid 4 (length (counted c) - 4) (counted c) c.cipher_and_code-code.new.octets) ≡ length c.args.body.now
many c =
    same_len_mid 4 (length (counted c) - 4) (counted c) c.cipher_and_code-code.new.octets c.cipher_and_code-code.auto.octets
    ∙ length-set c.args.body.now 4 (c.args.input.count % 256)

pub put_code-requires : goal.put_code-requires
put_code-requires c =
    omega (arith, many (goal.at.put_code-requires c).After-cipher_and_code-code, c.requires)

pub shape_of-body : goal.shape_of-body
shape_of-body c =
    c.put_code.auto.body ∙ many (goal.at.shape_of-body c).After-cipher_and_code-code

pub returns : goal.returns
unfolding protected
returns c =
    let a = c.args in
    let ys = c.cipher_and_code-code.new.octets in
    let room : 4 ≤ length (counted (goal.at.returns c).After-cipher_and_code-code) = simp length-set (omega (arith, c.requires)) in
    let e : take (length (counted (goal.at.returns c).After-cipher_and_code-code) - 4) (drop 4 (counted (goal.at.returns c).After-cipher_and_code-code)) ≡ a.input.count % 256 ∷ drop 5 a.body.now = rest 4 (counted (goal.at.returns c).After-cipher_and_code-code) ∙ stored-behind (a.input.count % 256 ∷ []) a.body.now c.requires in
    let made : ys ≡ a.input.count % 256 ∷ payload a.self a.ciphered a.input.count a.input.bearer a.input.direction (drop 5 a.body.now) = c.cipher_and_code-code.ensures.ciphered ∙ ap (λ (l : List ℕ). take 1 l ++ payload a.self a.ciphered a.input.count a.input.bearer a.input.direction (drop 1 l)) e in
    c.put_code.ensures
    ∙ joined (c.cipher_and_code-code.ensures.code ∙ ap (λ (l : List ℕ). code_by a.self a.input.count a.input.bearer a.input.direction l) made) (rest_back 4 (counted (goal.at.returns c).After-cipher_and_code-code) ys room ∙ made)
