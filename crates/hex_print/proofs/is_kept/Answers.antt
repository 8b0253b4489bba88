use Rattle.std.proofs.Common.{eqb, rules, tests}
use Rattle.std.proofs.lemmas.Iterator.{YieldsList-from_slice}
use Rattle.std.proofs.lemmas.Iterator.Search.{all_from_yields_List}
use Rattle.hex_print.proofs.is_kept.Goals as goal

pub returns : goal.returns
returns c =
    all_from_yields_List (λ b. eqb b 0xa5) _ _ _ c.all.ensures.ran (YieldsList-from_slice c.args.rest.now cc) (λ x b q k. search (rules, tests))
