use mathlib.Core.Path.{◌≡◌, refl, ap, ◌∙◌}
use native.Mathlib.Omega.{arith}
use Prim.Native.Nat.{ℕ, ◌+◌, ◌*◌, ◌-◌}
use mathlib.Core.Bool.{Bool}
use mathlib.Core.List.{List, [], ◌∷◌}
use lib.ListN.{length, length-set}
use borrow.Rule.Slice.PartMut.{put_mid, same_len_mid}
use Rattle.nas_core.proofs.Written.{mid-length, inside, sealed}
use Rattle.nas_core.proofs.Keys.{payload-length, protected-length}
use Rattle.nas_core.specs.Keyed.{payload, protected}
use Rattle.nas_core.specs.Types.{ciphers}
use Rattle.nas_eps.specs.Octets.{message}
use Rattle.nas_eps.proofs.octets.put.Goals.{After-seal}
use Rattle.nas_eps.proofs.octets.put.Goals as goal

-- as many octets came back as the inner message has
many : (c : After-seal) → length c.copy_from_slice.new.self ≡ length c.args.inner.now
many c = ap length c.copy_from_slice.ensures.after

-- the list with the inner octets in their place, as long as it was
abbrev filled : After-seal → List ℕ
filled c = put_mid 6 ((6 + length c.args.inner.now) - 6) c.args.out.now c.copy_from_slice.new.self

whole : (c : After-seal)
    → length (put_mid 1 ((6 + length c.args.inner.now) - 1) (filled c) c.seal.new.body)
    ≡ length c.args.out.now
whole c =
    same_len_mid 1 ((6 + length c.args.inner.now) - 1) (filled c) c.seal.new.body c.seal.auto.body
    ∙ mid-length 1 6 _ _ c.args.out.now c.copy_from_slice.new.self refl refl c.requires.1 (many c)

pub shape_of-out : goal.shape_of-out
shape_of-out c =
    simp length-set (whole (goal.at.shape_of-out c).After-seal)

pub returns : goal.returns
unfolding message
returns c =
    let a = c.args in
    let n = length a.inner.now in
    let ys = c.copy_from_slice.new.self in
    let sent = payload a.core (ciphers a.header_type) a.count 0 a.direction a.inner.now in
    let made = protected a.core a.count 0 a.direction sent in
    let z : c.seal.new.body ≡ made =
    c.seal.ensures
    ∙ ap (λ (l : List ℕ). protected a.core a.count 0 a.direction (payload a.core c.is_ciphering-ciphered.result a.count 0 a.direction l)) (inside 1 6 (6 + n) n a.out.now ys refl refl c.requires.1 (many (goal.at.returns c).After-seal) ∙ c.copy_from_slice.ensures.after)
    ∙ ap (λ (t : Bool). protected a.core a.count 0 a.direction (payload a.core t a.count 0 a.direction a.inner.now)) c.is_ciphering-ciphered.ensures in
    sealed 1 6 (6 + n) n a.out.now ys refl refl c.requires.1 (many (goal.at.returns c).After-seal) ((a.header_type * 16 + 7) ∷ []) _ made refl z (omega (arith, protected-length a.core a.count 0 a.direction sent, payload-length a.core a.count 0 a.direction a.inner.now (ciphers a.header_type)))
