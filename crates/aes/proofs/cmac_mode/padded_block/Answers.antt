use Rattle.std.proofs.Common.{◌-◌, length, drop, refl, arith}
use Rattle.aes.proofs.Mac.{copied, padded-end, whole-end}
use Rattle.aes.proofs.cmac_mode.padded_block.Goals as goal

pub returns-then-rest-lt16 : goal.returns-then-rest-lt16
returns-then-rest-lt16 c =
    let m = c.args.message.now in
    let i = c.args.i in
    padded-end m _ i (length m - i) (copied (drop i m) _ _ c.copy_from_slice.ensures.after) c.requires.0 refl c.if-rest-lt16.true

pub returns-else-rest-lt16 : goal.returns-else-rest-lt16
returns-else-rest-lt16 c =
    let m = c.args.message.now in
    let i = c.args.i in
    whole-end m _ i (length m - i) (copied (drop i m) _ _ c.copy_from_slice.ensures.after) c.requires.0 refl (omega arith)
