use Rattle.std.proofs.Common.{◌≡◌, ℕ, ◌+◌, ◌++◌, length, get_or, replicate, ap, ◌∙◌, ap₂, length-append, take_at}
use Rattle.aes.proofs.Octets.{octets-be}
use Rattle.aes.proofs.Parts.{put_end}
use Rattle.aes.proofs.cmac_mode.block_of.Goals as goal

pub returns : goal.returns
returns c =
    let e = c.copy_from_slice.ensures.after ∙ c.to_be_bytes.ensures ∙ octets-be (get_or c.args.h 0 0) in
    let f = c.copy_from_slice-2.ensures.after ∙ c.to_be_bytes-2.ensures ∙ octets-be (get_or c.args.h 1 0) in
    let s = c.copy_from_slice.new.self in
    let zeros = replicate 8 0 in
    let eight : length s ≡ 8 = ap length e in
    put_end 8 8 (s ++ zeros) _ (length-append s zeros ∙ ap (λ (n : ℕ). n + 8) eight) (ap length f) ∙
    ap₂ ◌++◌ (take_at s zeros 8 eight ∙ e) f
