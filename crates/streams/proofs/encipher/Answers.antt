use Rattle.std.proofs.Common.{◌≡◌, ◌/◌, length, refl, ap, ◌∙◌, add-one, arith, rules}
use Rattle.aes.specs.Octets.{octets}
use Rattle.streams.specs.Stream.{after}
use Rattle.streams.proofs.Bytes.{octets-of}
use Rattle.streams.proofs.Ciphers.{none, whole_word, last_word}
use Rattle.streams.proofs.encipher.Goals as goal

pub loop-n-init : goal.loop-n-init
unfolding after
loop-n-init g c = record { long = refl; begun = none _ _ _ _; behind = refl }

pub loop-n-preserved : goal.loop-n-preserved
unfolding after
loop-n-preserved g c =
    let i = c.loop-n.invariant in
    record {
      long = search rules;
      begun =
          c.cover.ensures ∙
          whole_word g.M.Machine.step _ _ _ _ _ c.loop-n.n _ i.begun i.behind
          (c.to_be_bytes.ensures ∙ octets-of _ ∙ ap (octets 4) c.word.ensures) (omega arith);
      behind = rw (c.advance.ensures, i.behind, add-one);
    }

pub returns : goal.returns
returns g c =
    let i = c.loop-n.invariant in
    let d : c.loop-n.n ≡ length c.args.octets.now / 4 = omega arith in
    rw (c.cover-2.ensures, ← d)
    (last_word g.M.Machine.step _ _ _ _ _ c.loop-n.n _ i.begun i.behind
    (c.to_be_bytes-2.ensures ∙ octets-of _ ∙ ap (octets 4) c.word-2.ensures) d)
