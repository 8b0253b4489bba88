use mathlib.Core.Path.{◌≡◌, ap, ◌∙◌}
use mathlib.Core.Bool.{Bool}
use mathlib.Core.List.{List, [], ◌∷◌, ◌++◌, append-nil}
use native.Mathlib.Omega.{arith}
use Prim.Native.Nat.{ℕ, ◌-◌, ◌≤◌}
use lib.ListN.{length, take, drop, set, length-set, length-append, length-take, length-drop, drop_of_length-le}
use lib.Seq.{drop_at, drop-drop, length-take-le}
use borrow.Rule.Slice.PartMut.{put_mid}
use Rattle.nas_core.proofs.Octets.{rest, stored}
use Rattle.nas_core.proofs.Keys.{payload-length, protected-length}
use Rattle.nas_core.specs.Keyed.{payload, protected}
use Rattle.envelope.specs.Envelope.{ciphers, envelope}
use Rattle.envelope.proofs.wrap.Goals as goal

-- two octets in front of what is behind two
headed : (m zs made : List ℕ) (t : ℕ) → 2 ≤ length m → zs ≡ made → length made ≡ length m - 2
    → set (set (put_mid 2 (length m - 2) m zs) 0 0x7E) 1 t ≡ 0x7E ∷ t ∷ made
headed m zs made t h z l =
    let post = drop (length m - 2) (drop 2 m) in
    let none : length (drop 2 m) ≤ length m - 2 = simp length-drop (omega arith) in
    let fits : 2 ≤ length (take 2 m ++ (zs ++ post)) = simp (length-append, length-take) (omega arith) in
    stored (0x7E ∷ t ∷ []) (take 2 m ++ (zs ++ post)) fits
    ∙ ap (λ (q : List ℕ). 0x7E ∷ t ∷ q) (drop_at (take 2 m) (zs ++ post) 2 (length-take-le 2 m h) ∙ ap (λ (q : List ℕ). zs ++ q) (drop_of_length-le (drop 2 m) none) ∙ append-nil zs ∙ z)

pub bounds-message-1 : goal.bounds-message-1
bounds-message-1 c =
    simp (length-set, length-append, length-take) (omega (arith, c.requires))

pub returns : goal.returns
unfolding envelope
returns c =
    let a = c.args in
    let m = a.message.now in
    let sent = payload a.core (ciphers a.header_type) a.input.count a.input.bearer a.input.direction (drop 7 m) in
    let made = protected a.core a.input.count a.input.bearer a.input.direction sent in
    let inner : drop 5 (take (length m - 2) (drop 2 m)) ≡ drop 7 m = ap (drop 5) (rest 2 m) ∙ drop-drop 5 2 m in
    headed m _ made a.header_type (omega (arith, c.requires))
    (c.seal.ensures
    ∙ ap (λ (t : Bool). protected a.core a.input.count a.input.bearer a.input.direction (payload a.core t a.input.count a.input.bearer a.input.direction (drop 5 (take (length m - 2) (drop 2 m))))) c.is_ciphering-ciphered.ensures
    ∙ ap (λ (l : List ℕ). protected a.core a.input.count a.input.bearer a.input.direction (payload a.core (ciphers a.header_type) a.input.count a.input.bearer a.input.direction l)) inner)
    (protected-length a.core a.input.count a.input.bearer a.input.direction sent ∙ omega (arith, c.requires, length-drop 7 m, payload-length a.core a.input.count a.input.bearer a.input.direction (drop 7 m) (ciphers a.header_type)))
