use mathlib.Core.Path.{◌≡◌, ap, sym, ◌∙◌}
use mathlib.Core.Bool.{true}
use mathlib.Core.List.{List, ◌++◌, append-nil}
use native.Mathlib.Omega.{arith}
use Prim.Native.Nat.{ℕ, ◌+◌, ◌-◌, ◌≤◌}
use lib.ListN.{length, take, drop, length-take, length-drop, length-append, drop_of_length-le}
use lib.Seq.{drop_at, length-take-le}
use borrow.Rule.Slice.PartMut.{put_mid}
use Rattle.initial.specs.Outer.{front_of, outer_of, outer_length}
use Rattle.nas_core.specs.Keyed.{payload}
use Rattle.nas_core.proofs.Keys.{payload-length}
use Rattle.nas_core.proofs.Octets.{joined}
use Rattle.envelope.specs.Initial.{outgoing}
use Rattle.envelope.proofs.outgoing.put_outgoing.Goals.{After-mandatory_length-start}
use Rattle.envelope.proofs.outgoing.put_outgoing.Goals as goal

-- where the container's value starts, and that it ends with the output
abbrev start : After-mandatory_length-start → ℕ
start c = c.mandatory_length-start.result + 3

long : (c : After-mandatory_length-start) → length c.args.out.now ≡ start c + length c.args.whole.now
unfolding outer_length
long c = c.requires.2 ∙ simp (sym c.hides.ensures ∙ c.if-hides.true, c.mandatory_length-start.ensures.0)

-- a value laid at the end, then a front before it
laid : (a : ℕ) (xs ys zs : List ℕ) → a ≤ length xs → zs ++ drop a (put_mid a (length xs - a) xs ys) ≡ zs ++ ys
laid a xs ys zs h =
    let none : length (drop a xs) ≤ length xs - a = simp length-drop (omega arith) in
    ap (λ (q : List ℕ). zs ++ q) (drop_at (take a xs) (ys ++ drop (length xs - a) (drop a xs)) a (length-take-le a xs h) ∙ ap (λ (q : List ℕ). ys ++ q) (drop_of_length-le (drop a xs) none) ∙ append-nil ys)

pub slice_bounds-fill-count : goal.slice_bounds-fill-count
slice_bounds-fill-count c =
    omega (arith, long (goal.at.slice_bounds-fill-count c).After-mandatory_length-start)

pub slice_bounds-fill-start : goal.slice_bounds-fill-start
slice_bounds-fill-start c =
    omega (arith, long (goal.at.slice_bounds-fill-start c).After-mandatory_length-start)

pub fill-requires : goal.fill-requires
fill-requires c =
    simp (length-take, length-drop) (omega (arith, long (goal.at.fill-requires c).After-mandatory_length-start))

pub slice_bounds-put_front-end : goal.slice_bounds-put_front-end
slice_bounds-put_front-end c =
    simp (length-append, length-take) (omega (arith, long (goal.at.slice_bounds-put_front-end c).After-mandatory_length-start))

pub slice_bounds-put_front-end-then-hides : goal.slice_bounds-put_front-end-then-hides
slice_bounds-put_front-end-then-hides c =
    simp (length-append, length-take) (omega (arith, long (goal.at.slice_bounds-put_front-end-then-hides c).After-mandatory_length-start))

pub put_front-requires : goal.put_front-requires
put_front-requires c =
    (c.requires.0, c.requires.1, simp (length-append, length-take) (omega (arith, long (goal.at.put_front-requires c).After-mandatory_length-start, c.mandatory_length-start.ensures.0)))

pub returns-then-hides : goal.returns-then-hides
unfolding outgoing outer_of
returns-then-hides c =
    let w = c.args.whole.now in
    let v = payload c.args.core true c.args.count c.args.bearer 0 w in
    let ys = c.fill.new.out in
    let zs = c.put_front.new.out in
    simp (sym c.hides.ensures ∙ c.if-hides.true)
    (laid (start (goal.at.returns-then-hides c).After-mandatory_length-start) c.args.out.now ys zs (omega (arith, long (goal.at.returns-then-hides c).After-mandatory_length-start))
    ∙ joined (c.put_front.ensures ∙ ap (front_of w) (sym (payload-length c.args.core c.args.count c.args.bearer 0 w true))) c.fill.ensures)

pub copy_from_slice-requires : goal.copy_from_slice-requires
unfolding outer_length
copy_from_slice-requires c =
    c.requires.2 ∙ simp (sym c.hides.ensures ∙ c.if-hides.false)

pub returns : goal.returns
unfolding outgoing outer_of
returns c =
    simp (sym c.hides.ensures ∙ c.if-hides.false) c.copy_from_slice.ensures.after
