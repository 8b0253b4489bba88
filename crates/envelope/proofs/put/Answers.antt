use Rattle.std.proofs.Common.{◌≡◌, ℕ, ◌+◌, List, length, refl, ap, ◌∙◌, arith}
use Rattle.envelope.proofs.Lengths.{envelope-length}
use Rattle.envelope.proofs.Wrapped.{front_length, behind, wrapped}
use Rattle.envelope.specs.Envelope.{envelope}
use Rattle.envelope.proofs.put.Goals as goal

pub slice_bounds-wrap-end-2 : goal.slice_bounds-wrap-end-2
slice_bounds-wrap-end-2 c =
    let n = length c.args.inner.now in
    front_length (7 + n) n c.args.out.now c.copy_from_slice.new.self refl c.requires (ap length c.copy_from_slice.ensures.after)

pub wrap-requires : goal.wrap-requires
wrap-requires c =
    let n = length c.args.inner.now in
    omega (arith, front_length (7 + n) n c.args.out.now c.copy_from_slice.new.self refl c.requires (ap length c.copy_from_slice.ensures.after))

pub returns : goal.returns
returns c =
    let a = c.args in
    let n = length a.inner.now in
    let copied = c.copy_from_slice.ensures.after in
    let many : length c.copy_from_slice.new.self ≡ n = ap length copied in
    wrapped (7 + n) n a.out.now c.copy_from_slice.new.self refl c.requires many _ _
    (c.wrap.ensures ∙ ap (λ (l : List ℕ). envelope a.core a.header_type a.input.count a.input.bearer a.input.direction l) (behind (7 + n) n a.out.now c.copy_from_slice.new.self refl c.requires many ∙ copied))
    (envelope-length a.core a.header_type a.input.count a.input.bearer a.input.direction a.inner.now)
