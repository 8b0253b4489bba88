use mathlib.Core.Path.{◌≡◌, refl, ap, sym, ◌∙◌}
use native.Mathlib.Omega.{arith}
use Prim.Native.Nat.{ℕ, ◌+◌, ◌≤◌}
use mathlib.Core.List.{List}
use lib.ListN.{length, length-take, length-drop}
use Rattle.envelope.proofs.Lengths.{initial-length}
use Rattle.envelope.proofs.Wrapped.{front_length, behind, wrapped}
use Rattle.envelope.specs.Envelope.{envelope}
use Rattle.envelope.specs.Initial.{initial_envelope}
use Rattle.envelope.proofs.outgoing.put_initial.Goals.{After-put_outgoing}
use Rattle.envelope.proofs.outgoing.put_initial.Goals as goal

abbrev back : After-put_outgoing → List ℕ
back c = c.put_outgoing.new.out

-- how many octets go out
abbrev size : After-put_outgoing → ℕ
size c = c.outer_length-end.result

room : (c : After-put_outgoing) → 7 + size c ≤ length c.args.out.now
room c = rw c.outer_length-end.ensures c.requires.2

many : (c : After-put_outgoing) → length (back c) ≡ size c
many c = c.put_outgoing.auto.out ∙ simp (length-take, length-drop) (omega (arith, room c))

pub slice_bounds-wrap-end-2 : goal.slice_bounds-wrap-end-2
slice_bounds-wrap-end-2 c =
    front_length (7 + size (goal.at.slice_bounds-wrap-end-2 c).After-put_outgoing) (size (goal.at.slice_bounds-wrap-end-2 c).After-put_outgoing) c.args.out.now (back (goal.at.slice_bounds-wrap-end-2 c).After-put_outgoing) refl (room (goal.at.slice_bounds-wrap-end-2 c).After-put_outgoing) (many (goal.at.slice_bounds-wrap-end-2 c).After-put_outgoing)

pub wrap-requires : goal.wrap-requires
wrap-requires c =
    omega (arith, front_length (7 + size (goal.at.wrap-requires c).After-put_outgoing) (size (goal.at.wrap-requires c).After-put_outgoing) c.args.out.now (back (goal.at.wrap-requires c).After-put_outgoing) refl (room (goal.at.wrap-requires c).After-put_outgoing) (many (goal.at.wrap-requires c).After-put_outgoing))

pub returns : goal.returns
unfolding initial_envelope
returns c =
    wrapped (7 + size (goal.at.returns c).After-put_outgoing) (size (goal.at.returns c).After-put_outgoing) c.args.out.now (back (goal.at.returns c).After-put_outgoing) refl (room (goal.at.returns c).After-put_outgoing) (many (goal.at.returns c).After-put_outgoing) _ _
    (c.wrap.ensures ∙ ap (λ (l : List ℕ). envelope c.args.core 1 c.args.count c.args.bearer 0 l) (behind (7 + size (goal.at.returns c).After-put_outgoing) (size (goal.at.returns c).After-put_outgoing) c.args.out.now (back (goal.at.returns c).After-put_outgoing) refl (room (goal.at.returns c).After-put_outgoing) (many (goal.at.returns c).After-put_outgoing) ∙ c.put_outgoing.ensures))
    (initial-length c.args.core c.args.count c.args.bearer c.args.whole.now c.requires.0 ∙ ap (λ (n : ℕ). 7 + n) (sym c.outer_length-end.ensures))
