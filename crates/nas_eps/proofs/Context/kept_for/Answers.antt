use Rattle.std.proofs.Common.{sym, ◌∙◌}
use Rattle.count.proofs.Starts.{close-is}
use Rattle.nas_eps.specs.Changes.{kept_for, closed}
use Rattle.nas_eps.proofs.Context.kept_for.Goals as goal

pub returns-then-away_from_null : goal.returns-then-away_from_null
unfolding kept_for closed
returns-then-away_from_null c =
    simp (c.with_size.ensures, close-is, sym c.away_from_null.ensures ∙ c.if-away_from_null.true)

pub returns : goal.returns
unfolding kept_for
returns c =
    simp (sym c.away_from_null.ensures ∙ c.if-away_from_null.false)
