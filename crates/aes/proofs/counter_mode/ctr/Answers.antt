use Rattle.aes.specs.Cipher.{cipher}
use Rattle.aes.proofs.Stream.{none, whole}
use Rattle.aes.proofs.counter_mode.ctr.Goals as goal

pub returns : goal.returns
returns c =
    let a = c.args in
    let w = a.w.now in
    whole (cipher w) a.t a.m.now _ (c.ctr_to.ensures a.m.now (none (cipher w) a.t a.m.now))
