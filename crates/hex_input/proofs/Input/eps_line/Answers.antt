use Prim.Native.Nat.{ℕ}
use mathlib.Core.Path.{ap, ◌∙◌}
use mathlib.Core.List.{List}
use lib.ListN.{length}
use Rattle.hex_eps_parse.specs.Lines.{Line, line_of}
use Rattle.hex_input.specs.Read.{ended}
use Rattle.hex_input.proofs.Input.eps_line.Goals as goal

pub returns : goal.returns
returns c =
    let room : ℕ = length c.args.spare.now in
    c.with_octets.ensures
    ∙ ap (λ (l : Line). ended l c.args.self.digits) (c.parse-parsed.ensures.0 ∙ ap (λ (t : List ℕ). line_of t room) c.front.ensures.0)
