use mathlib.Core.Path.{ap, sym, ◌∙◌}
use mathlib.Core.Bool.{Bool}
use mathlib.Core.List.{◌++◌}
use lib.ListN.{take, drop, take-append-drop}
use Rattle.nas_core.specs.Keyed.{code_by, payload}
use Rattle.nas_core.proofs.Core.cipher_and_code.Goals as goal

pub returns-then-ciphered : goal.returns-then-ciphered
unfolding code_by payload
returns-then-ciphered c =
    let a = c.args in
    let m = a.octets.now in record { ciphered = c.protect.ensures.ciphered ∙ ap (λ (t : Bool). take 1 m ++ payload a.self t a.input.count a.input.bearer a.input.direction (drop 1 m)) (sym c.if-ciphered.true); code = c.protect.ensures.code }

pub returns : goal.returns
unfolding payload
returns c =
    let a = c.args in
    let m = a.octets.now in record { ciphered = sym (take-append-drop 1 m) ∙ ap (λ (t : Bool). take 1 m ++ payload a.self t a.input.count a.input.bearer a.input.direction (drop 1 m)) (sym c.if-ciphered.false); code = c.code.ensures }
