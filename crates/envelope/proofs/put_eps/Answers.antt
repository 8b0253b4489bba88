use mathlib.Core.Path.{◌≡◌, refl, ap, ◌∙◌}
use native.Mathlib.Omega.{arith}
use Prim.Native.Nat.{ℕ, ◌+◌, ◌-◌}
use mathlib.Core.List.{List, [], ◌∷◌}
use lib.ListN.{length, length-set, length-take, length-drop}
use borrow.Rule.Slice.PartMut.{put_mid, same_len_mid}
use Rattle.nas_core.proofs.Written.{mid-length, inside, sealed}
use Rattle.nas_core.proofs.Keys.{protected-length}
use Rattle.nas_core.specs.Keyed.{protected}
use Rattle.envelope.specs.Eps.{eps_message}
use Rattle.envelope.proofs.put_eps.Goals.{After-protect}
use Rattle.envelope.proofs.put_eps.Goals as goal

-- as many octets came back as the inner message has
many : (c : After-protect) → length c.copy_from_slice.new.self ≡ length c.args.inner.now
many c = ap length c.copy_from_slice.ensures.after

-- the list with the payload in its place, as long as it was
abbrev filled : After-protect → List ℕ
filled c = put_mid 6 ((6 + length c.args.inner.now) - 6) c.args.out.now c.copy_from_slice.new.self

whole : (c : After-protect)
    → length (put_mid 1 ((6 + length c.args.inner.now) - 1) (filled c) c.protect.new.body)
    ≡ length c.args.out.now
whole c =
    same_len_mid 1 ((6 + length c.args.inner.now) - 1) (filled c) c.protect.new.body c.protect.auto.body
    ∙ mid-length 1 6 _ _ c.args.out.now c.copy_from_slice.new.self refl refl c.requires (many c)

pub shape_of-out : goal.shape_of-out
shape_of-out c =
    simp length-set (whole (goal.at.shape_of-out c).After-protect)

pub returns : goal.returns
unfolding eps_message
returns c =
    let n = length c.args.inner.now in
    let ys = c.copy_from_slice.new.self in
    let plain = c.args.inner.now in
    let made = protected c.args.core c.args.count 1 0 plain in
    let sent : ys ≡ plain = c.copy_from_slice.ensures.after in
    let z : c.protect.new.body ≡ made = c.protect.ensures ∙ ap (λ (l : List ℕ). protected c.args.core c.args.count 1 0 l) (inside 1 6 (6 + n) n c.args.out.now ys refl refl c.requires (many (goal.at.returns c).After-protect) ∙ sent) in
    sealed 1 6 (6 + n) n c.args.out.now ys refl refl c.requires (many (goal.at.returns c).After-protect) (0x17 ∷ []) _ made refl z (omega (arith, protected-length c.args.core c.args.count 1 0 plain))
