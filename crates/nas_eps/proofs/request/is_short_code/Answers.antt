use mathlib.Core.Path.{◌≡◌, sym, ◌∙◌}
use mathlib.Core.List.{List}
use Prim.Native.Nat.{ℕ}
use lib.ListN.{get_or}
use mir.Syntax.{w8}
use mir.Val.{Fits}
use Rattle.nas_core.specs.Verify.{same}
use Rattle.nas_eps.proofs.Pairs.{two, last-two, compared}
use borrow.Author.Rules.{rules}
use Rattle.nas_eps.proofs.request.is_short_code.Goals as goal

cong : {r r' k k' : List ℕ} → r ≡ r' → k ≡ k' → same r k ≡ same r' k'
cong e f = cc

pub returns : goal.returns
returns c =
    let k = c.args.code in
    let m = c.args.received.now in
    let g = c.type_inv.received in
    let octet : (i : ℕ) → Fits w8 (get_or k i 0) = λ i. search rules in
    rw (c.from_be_bytes-stands.ensures, c.from_be_bytes.ensures)
    (compared _ _ _ _ (g 0).fits (g 1).fits (octet 2).fits (octet 3).fits
    ∙ sym (cong (two m c.requires) (last-two k (search rules))))
