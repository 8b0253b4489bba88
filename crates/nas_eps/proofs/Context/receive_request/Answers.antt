use Rattle.std.proofs.Common.{sym, ◌∙◌, rules}
use Rattle.count.specs.Rule.{forward_only}
use Rattle.nas_core.proofs.Choices.{ahead-near, forward-within}
use Rattle.nas_eps.specs.Octets.{request_as}
use Rattle.nas_eps.specs.Open.{requested}
use Rattle.nas_eps.proofs.Context.receive_request.Goals as goal

pub distance_to-requires : goal.distance_to-requires
distance_to-requires c =
    ahead-near _ _ (forward-within _ _ _ _ _ (sym c.forward.ensures ∙ c.in-Some.is)).2

pub used-requires : goal.used-requires
used-requires c =
    let f = forward-within _ _ _ _ _ (sym c.forward.ensures ∙ c.in-Some.is) in
    (search rules, f.0, c.requires.1, λ w. f.1 (c.wraps.ensures ∙ w))

pub returns-in_default : goal.returns-in_default
unfolding requested request_as forward_only
returns-in_default c =
    λ out. simp (c.unchanged.ensures.0, c.unchanged.ensures.1, sym c.wraps.ensures, sym c.forward.ensures ∙ c.in_default.is)

pub returns-then-not-fits : goal.returns-then-not-fits
unfolding requested request_as forward_only
returns-then-not-fits c =
    λ out.
    simp (
      c.unchanged-then-not-fits.ensures.0,
      c.unchanged-then-not-fits.ensures.1,
      sym c.wraps.ensures,
      sym c.forward.ensures ∙ c.in-Some.is,
      sym c.fits.ensures ∙ c.if-not-fits.true,
    )

pub returns : goal.returns
unfolding requested request_as forward_only
returns c =
    λ out.
    simp (
      sym c.wraps.ensures,
      sym c.forward.ensures ∙ c.in-Some.is,
      sym c.fits.ensures ∙ c.if-not-fits.false,
      c.used.ensures,
      c.distance_to.ensures,
    )
