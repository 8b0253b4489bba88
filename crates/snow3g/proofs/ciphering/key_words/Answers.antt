use Rattle.std.proofs.Common.{ap, ◌∙◌}
use Rattle.aes.proofs.Lists.{four-by, itself}
use Rattle.streams.proofs.Bytes.{number-of4}
use Rattle.snow3g.specs.Uea2.{key_words}
use Rattle.snow3g.proofs.ciphering.key_words.Goals as goal

pub returns : goal.returns
unfolding key_words
returns c =
    four-by
    (c.from_be_bytes.ensures ∙ number-of4 _ _ _ _)
    (c.from_be_bytes-2.ensures ∙ number-of4 _ _ _ _)
    (c.from_be_bytes-3.ensures ∙ number-of4 _ _ _ _)
    (c.from_be_bytes-4.ensures ∙ number-of4 _ _ _ _) ∙
    ap key_words (itself 16 c.args.key c.well_formed.0.1.0.1)
