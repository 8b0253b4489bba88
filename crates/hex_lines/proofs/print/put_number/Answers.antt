use Prim.Native.Nat.{ℕ, ◌+◌, ◌-◌, ◌*◌}
use mathlib.Core.List.{List}
use mathlib.Core.Path.{◌≡◌, ap, ◌∙◌}
use lib.ListN.{length, take, drop}
use lib.Seq.{paste}
use Rattle.hex_lines.specs.Hex.{text_of, big_endian}
use Rattle.hex_lines.proofs.Laws as laws
use Rattle.hex_lines.proofs.print.put_number.Goals as goal

pub returns : goal.returns
returns c =
    let part : List ℕ = take (8 - (8 - c.args.octets)) (drop (8 - c.args.octets) c.to_be_bytes.result) in
    let e : part ≡ drop (8 - c.args.octets) (big_endian c.args.n)
    = rw (laws.bytes _ _ c.to_be_bytes.ensures) (laws.last-part c.args.n c.args.octets c.requires.0) in
    let l : length (drop (8 - c.args.octets) (big_endian c.args.n)) ≡ c.args.octets = laws.last-octets c.args.n c.args.octets c.requires.0 in (
      c.put_octets.ensures.0 ∙ ap (λ (x : List ℕ). c.args.at + length x * 2) e ∙ ap (λ (k : ℕ). c.args.at + k * 2) l,
      c.put_octets.ensures.1
          ∙ ap (λ (x : List ℕ). paste c.args.out.now c.args.at (text_of x) (length x * 2)) e
          ∙ ap (λ (k : ℕ). paste c.args.out.now c.args.at (text_of (drop (8 - c.args.octets) (big_endian c.args.n))) (k * 2)) l,
    )
