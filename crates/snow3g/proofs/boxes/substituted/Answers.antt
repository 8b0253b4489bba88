use Rattle.std.proofs.Common.{◌≡◌, ◌/◌, ◌%◌, ◌^◌, ◌<◌, get_or, refl, ap, ap₂, ◌∙◌, arith, rules}
use lib.Bits.{bit_xor}
use Rattle.std.specs.Int.{w32, rotate_right}
use Rattle.streams.proofs.Bytes.{right-turn}
use Rattle.snow3g.specs.Words.{octet0, octet1, octet2, octet3}
use Rattle.snow3g.proofs.boxes.substituted.Goals as goal

pub returns : goal.returns
returns c =
    let t = c.args.table.now in
    let w = c.args.w in
    let b = c.to_be_bytes.ensures in
    let top : w / 2 ^ 24 % 256 ≡ octet0 w = omega arith in
    let o0 : get_or c.to_be_bytes.result 0 0 ≡ octet0 w = ap (λ l. get_or l 0 0) b ∙ top in
    let o1 : get_or c.to_be_bytes.result 1 0 ≡ octet1 w = ap (λ l. get_or l 1 0) b in
    let o2 : get_or c.to_be_bytes.result 2 0 ≡ octet2 w = ap (λ l. get_or l 2 0) b in
    let o3 : get_or c.to_be_bytes.result 3 0 ≡ octet3 w = ap (λ l. get_or l 3 0) b in
    let f1 : get_or t (octet1 w) 0 < 2 ^ 32 = search rules in
    let f2 : get_or t (octet2 w) 0 < 2 ^ 32 = search rules in
    let f3 : get_or t (octet3 w) 0 < 2 ^ 32 = search rules in
    ap₂ bit_xor
    (ap₂ bit_xor
    (ap₂ bit_xor
    (ap (λ i. get_or t i 0) o0)
    (c.rotate_right.ensures ∙ ap (λ i. rotate_right w32 (get_or t i 0) 8) o1 ∙ right-turn _ 24 8 refl f1))
    (c.rotate_right-2.ensures ∙ ap (λ i. rotate_right w32 (get_or t i 0) 16) o2 ∙ right-turn _ 16 16 refl f2))
    (c.rotate_right-3.ensures ∙ ap (λ i. rotate_right w32 (get_or t i 0) 24) o3 ∙ right-turn _ 8 24 refl f3)
