use Rattle.std.proofs.Common.{◌≡◌, ℕ, List, get_or, sym, ◌∙◌, Fits, w8, rules}
use Rattle.nas_core.proofs.Octets.{four, compared}
use Rattle.nas_core.specs.Verify.{same}
use Rattle.nas_core.proofs.is_code.Goals as goal

cong : {r r' k k' : List ℕ} → r ≡ r' → k ≡ k' → same r k ≡ same r' k'
cong e f = cc

pub returns : goal.returns
returns c =
    let k = c.args.code in
    let m = c.args.received.now in
    let heard : (i : ℕ) → Fits w8 (get_or m i 0) = λ i. search rules in
    let octet : (i : ℕ) → Fits w8 (get_or k i 0) = λ i. search rules in
    rw (c.from_be_bytes-stands.ensures, c.from_be_bytes.ensures)
    (compared _ _ _ _ _ _ _ _ (heard 0).fits (heard 1).fits (heard 2).fits (heard 3).fits (octet 0).fits (octet 1).fits (octet 2).fits (octet 3).fits
    ∙ sym (cong (four m c.requires) (four k (search rules))))
