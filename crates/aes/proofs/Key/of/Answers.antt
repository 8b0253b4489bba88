use Rattle.std.proofs.Common.{ap, ◌∙◌}
use Rattle.aes.specs.Cipher.{cipher}
use Rattle.aes.specs.Cmac.{double, subkey1, subkey2}
use Rattle.aes.specs.Keys.{key_of}
use Rattle.aes.proofs.Key.of.Goals as goal

pub returns : goal.returns
unfolding key_of subkey2
returns c =
    let w = c.expand_key-schedule.ensures in
    let s = c.subkey-subkey1.ensures ∙ ap (λ w'. subkey1 (cipher w')) w in
    λ i. record {
      octets = c.args.octets;
      schedule = w i;
      subkey1 = s i;
      subkey2 = (c.double-subkey2.ensures ∙ ap double s) i;
    }
