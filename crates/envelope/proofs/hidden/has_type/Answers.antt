use mathlib.Core.Path.{sym, ap, ◌∙◌}
use lib.Seq.{length-take-le}
use Rattle.initial.specs.Inside.{is_inside}
use Rattle.envelope.proofs.Insides.{decided}
use Rattle.envelope.proofs.hidden.has_type.Goals as goal

pub slice_bounds-fill-end : goal.slice_bounds-fill-end
slice_bounds-fill-end c =
    sym (length-take-le 3 c.args.value.now c.requires.1)

pub fill-requires : goal.fill-requires
fill-requires c =
    length-take-le 3 c.args.value.now c.requires.1

pub returns : goal.returns
returns c =
    c.is_inside.ensures
    ∙ ap (is_inside c.args.outer.now) c.fill.ensures
    ∙ decided c.args.core c.args.count c.args.bearer c.args.outer.now c.args.value.now c.requires.0
