use Rattle.std.proofs.Common.{ℕ, List, ◌++◌, length, take, ap, ◌∙◌}
use Rattle.aes.proofs.Octets.{octets-be}
use Rattle.aes.proofs.Parts.{put_end}
use Rattle.aes.proofs.counter_mode.numbered.Goals as goal

pub returns : goal.returns
returns c =
    let t = c.args.t in
    let e = c.copy_from_slice.ensures.after ∙ c.to_be_bytes.ensures ∙ octets-be c.args.n in
    put_end 8 8 t _ c.well_formed.0.1.0.1 (ap length e) ∙ ap (λ (l : List ℕ). take 8 t ++ l) e
