-- A window decides as the whole journal does, however it is cut.
use mathlib.Core.Path.{◌≡◌, refl, ap, sym, subst, ◌∙◌}
use mathlib.Core.Bool.{Bool, true, false, cond}
use mathlib.Core.List.{List, [], ◌∷◌, ◌++◌, append_assoc, append-nil}
use Prim.Native.Nat.{ℕ, zero, suc, ◌+◌, ◌≤◌, ◌<◌}
use native.Mathlib.Omega.{arith}
use lib.Dec.{leb, eqb}
use lib.ListN.{length, get_or, take, drop, length-append, length-drop, get_or-append}
use lib.Seq.{take-append-le, drop-append-le}
use borrow.Author.Tests.{leb-true, leb-false, eqb-true, eqb-false}
use Rattle.journal.specs.declared.Step.{Step}
use Rattle.journal.specs.declared.Step.TheVariants.{Call, Pass, More, End}
use Rattle.journal.specs.Records.{most, head, size_at, well_formed}
use Rattle.journal.specs.Items.{Item, call, call_at, after, items_from, items}
use Rattle.journal.specs.Window.{step_of, go_on, read_from, joined}
use Rattle.journal.specs.Laws.{Follows, Decides}
use Rattle.journal.proofs.Known.{by, stands, formed}
use Rattle.journal.proofs.Reading.{at-record, one_more}

-- the first octets are those of the window
module _ (w l : List ℕ) (five : 5 ≤ length w) where
  octet : (i : ℕ) → i < 5 → get_or (w ++ l) i 0 ≡ get_or w i 0
  octet i h = get_or-append w l 0 i (omega arith)

  size : size_at (w ++ l) ≡ size_at w
  unfolding size_at
  size = simp (octet 3 (omega arith), octet 4 (omega arith))

  grows : well_formed w ≡ true → well_formed (w ++ l) ≡ true
  grows e =
      let s = stands w e in
      formed (w ++ l)
      (record {
        first = octet 0 (omega arith) ∙ s.first;
        second = octet 1 (omega arith) ∙ s.second;
        allowed = simp (octet 2 (omega arith), size) s.allowed;
        small = omega (arith, size, s.small);
        whole = simp length-append (omega (arith, size, s.whole));
      })

  -- as many octets as the longest record has decide
  shrinks : head + most ≤ length w → well_formed (w ++ l) ≡ true → well_formed w ≡ true
  shrinks h e =
      let s = stands (w ++ l) e in
      formed w
      (record {
        first = sym (octet 0 (omega arith)) ∙ s.first;
        second = sym (octet 1 (omega arith)) ∙ s.second;
        allowed = simp (octet 2 (omega arith), size) at s.allowed;
        small = omega (arith, size, s.small);
        whole = omega (arith, size, s.small);
      })

at_least : (n : ℕ) → (n ≡ 0 → ⊥) → 1 ≤ n
at_least zero f = absurd (f refl)
at_least (suc n) f = omega arith

-- what each step says of its window
abbrev Told : List ℕ → Bool → Step → Type 0
Told w is_end (Call kind n) = (well_formed w ≡ true) × (get_or w 2 0 ≡ kind) × (size_at w ≡ n)
Told w is_end Pass = (well_formed w ≡ false) × (1 ≤ length w) × (is_end ≡ false → head + most ≤ length w)
Told w is_end More = (is_end ≡ false) × (length w < head + most)
Told w is_end End = (is_end ≡ true) × (length w ≡ 0)

by_tests : (w : List ℕ) (a b c is_end : Bool) → well_formed w ≡ a → eqb (length w) 0 ≡ b → leb (head + most) (length w) ≡ c
    → Told w is_end (cond a (Call (get_or w 2 0) (size_at w)) (cond is_end (cond b End Pass) (cond c Pass More)))
by_tests w true b c is_end e f g = (e, refl, refl)
by_tests w false true c true e f g = (refl, eqb-true _ _ f)
by_tests w false false c true e f g =
    (e, at_least (length w) (eqb-false _ _ f), λ (t : true ≡ false). absurd (let z : ◌≡◌ {A = ℕ} 0 1 = cc in omega arith))
by_tests w false b true false e f g = (e, omega (arith, leb-true (head + most) (length w) g), λ t. leb-true (head + most) (length w) g)
by_tests w false b false false e f g = (refl, leb-false _ _ g)

told : (w : List ℕ) (is_end : Bool) (s : Step) → step_of w is_end ≡ s → Told w is_end s
unfolding step_of
told w is_end s e =
    subst (λ (x : Step). Told w is_end x) e
    (by_tests w (well_formed w) (eqb (length w) 0) (leb (head + most) (length w)) is_end refl refl refl)

takes : (w : List ℕ) (kind n : ℕ) → Told w true (Call kind n) → (l : List ℕ)
    → (well_formed (w ++ l) ≡ true) × (size_at (w ++ l) ≡ n) × (call_at (w ++ l) ≡ call kind (take n (drop head w))) × (head + n ≤ length w)
takes w kind n t l =
    let whole = (stands w t.0).whole in
    let five : 5 ≤ length w = omega arith in
    let z : size_at (w ++ l) ≡ n = size w l five ∙ t.2 in
    let k : get_or (w ++ l) 2 0 ≡ kind = octet w l five 2 (omega arith) ∙ t.1 in
    let all : n ≤ length (drop 5 w) = simp length-drop (omega (arith, t.2)) in (
      grows w l five t.0,
      z,
      ap (λ (m : ℕ). call (get_or (w ++ l) 2 0) (take m (drop 5 (w ++ l)))) z
          ∙ ap (λ (m : ℕ). call m (take n (drop 5 (w ++ l)))) k
          ∙ ap (λ (x : List ℕ). call kind (take n x)) (drop-append-le 5 w l five)
          ∙ ap (λ (x : List ℕ). call kind x) (take-append-le n (drop 5 w) l all),
      omega (arith, t.2),
    )

passes : (w : List ℕ) (is_end : Bool) → Told w is_end Pass → (l : List ℕ) → Follows is_end l → well_formed (w ++ l) ≡ false
passes w true t l f = ap (λ (x : List ℕ). well_formed (w ++ x)) f ∙ ap well_formed (append-nil w) ∙ t.0
passes w false t l f =
    let h : head + most ≤ length w = t.2 refl in
    let n = t.0 in
    by (well_formed (w ++ l))
    (λ e. let y = shrinks w l (omega arith) h e in absurd (let z : ◌≡◌ {A = ℕ} 0 1 = cc in omega arith))
    (λ e. e)

pub decided : (w : List ℕ) (is_end : Bool) → Decides w is_end
decided w is_end =
    record {
      takes = λ kind n e l f. takes w kind n (told w is_end (Call kind n) e) l;
      passes = λ e l f. let t = told w is_end Pass e in (t.1, passes w is_end t l f);
      waits = told w is_end More;
      ends = told w is_end End;
    }

-- the steps that a reader may still need: one for each octet, for each piece, for the end that it does not know of yet, and for the end
abbrev need : List ℕ → Bool → List (List ℕ) → ℕ
need w is_end ps = length w + length (joined ps) + length ps + cond is_end 0 1 + 1

abbrev Holds : ℕ → Type 0
Holds steps =
    (k : ℕ) (w : List ℕ) (is_end : Bool) (ps : List (List ℕ)) → (is_end ≡ true → ps ≡ []) → need w is_end ps ≤ steps
    → read_from steps k w is_end ps ≡ items_from 0 k (w ++ joined ps)

follows : (is_end : Bool) (ps : List (List ℕ)) → (is_end ≡ true → ps ≡ []) → Follows is_end (joined ps)
follows true ps f = ap joined (f refl)
follows false ps f = tt

none : (w : List ℕ) → length w ≡ 0 → w ≡ []
none [] e = refl
none (o ∷ w) e = absurd (omega arith)

module _ (steps : ℕ) (holds : Holds steps) (k : ℕ) where
  call-turn : (w : List ℕ) (is_end : Bool) (ps : List (List ℕ)) (kind n : ℕ) → Told w is_end (Call kind n) → (is_end ≡ true → ps ≡ []) → need w is_end ps ≤ suc steps
      → go_on (read_from steps) k w is_end ps (Call kind n) ≡ items_from 0 k (w ++ joined ps)
  unfolding items
  call-turn w is_end ps kind n d f h =
      let t = takes w kind n d (joined ps) in
      let x = w ++ joined ps in
      let r = drop (head + n) w in
      let short : need r is_end ps ≤ steps = simp length-drop (omega (arith, t.3)) in
      ap (λ (is : List Item). after k (call kind (take n (drop head w)) ∷ is))
      (holds 0 r is_end ps f short ∙ ap (λ (l : List ℕ). items_from 0 0 l) (sym (drop-append-le (head + n) w (joined ps) t.3)))
      ∙ ap (λ (c : Item). after k (c ∷ items_from 0 0 (drop (head + n) x))) (sym t.2)
      ∙ ap (λ (m : ℕ). after k (call_at x ∷ items_from 0 0 (drop (head + m) x))) (sym t.1)
      ∙ sym (at-record k x t.0)

  pass-turn : (w : List ℕ) (is_end : Bool) (ps : List (List ℕ)) → Told w is_end Pass → (is_end ≡ true → ps ≡ []) → need w is_end ps ≤ suc steps
      → go_on (read_from steps) k w is_end ps Pass ≡ items_from 0 k (w ++ joined ps)
  pass-turn [] is_end ps d f h = absurd (omega (arith, d.1))
  pass-turn (o ∷ w) is_end ps d f h =
      holds (suc k) w is_end ps f (omega arith)
      ∙ sym (one_more k o (w ++ joined ps) (passes (o ∷ w) is_end d (joined ps) (follows is_end ps f)))

  more_turn : (w : List ℕ) (is_end : Bool) (ps : List (List ℕ)) → is_end ≡ false → need w is_end ps ≤ suc steps
      → go_on (read_from steps) k w is_end ps More ≡ items_from 0 k (w ++ joined ps)
  more_turn w true ps d h = absurd (let z : ◌≡◌ {A = ℕ} 0 1 = cc in omega arith)
  more_turn w false [] d h = holds k w true [] (λ e. refl) (omega arith)
  more_turn w false (p ∷ ps) d h =
      let short : need (w ++ p) false ps ≤ steps = simp length-append (omega (arith, length-append p (joined ps))) in
      holds k (w ++ p) false ps (λ (e : false ≡ true). absurd (let z : ◌≡◌ {A = ℕ} 0 1 = cc in omega arith)) short
      ∙ ap (λ (l : List ℕ). items_from 0 k l) (append_assoc w p (joined ps))

  end-turn : (w : List ℕ) (is_end : Bool) (ps : List (List ℕ)) → Told w is_end End → (is_end ≡ true → ps ≡ [])
      → go_on (read_from steps) k w is_end ps End ≡ items_from 0 k (w ++ joined ps)
  unfolding items_from
  end-turn w is_end ps d f =
      sym (ap (λ (l : List ℕ). items_from 0 k (l ++ joined ps)) (none w d.1) ∙ ap (λ (qs : List (List ℕ)). items_from 0 k (joined qs)) (f d.0))

  turn : (w : List ℕ) (is_end : Bool) (ps : List (List ℕ)) (s : Step) → Told w is_end s → (is_end ≡ true → ps ≡ []) → need w is_end ps ≤ suc steps
      → go_on (read_from steps) k w is_end ps s ≡ items_from 0 k (w ++ joined ps)
  turn w is_end ps (Call kind n) d f h = call-turn w is_end ps kind n d f h
  turn w is_end ps Pass d f h = pass-turn w is_end ps d f h
  turn w is_end ps More d f h = more_turn w is_end ps d.0 h
  turn w is_end ps End d f h = end-turn w is_end ps d f

reads_on : (steps : ℕ) → Holds steps
unfolding read_from
reads_on zero k w is_end ps f h = absurd (omega arith)
reads_on (suc steps) k w is_end ps f h = turn steps (reads_on steps) k w is_end ps (step_of w is_end) (told w is_end (step_of w is_end) refl) f h

pub cut : (ps : List (List ℕ)) (steps : ℕ) → length (joined ps) + length ps + 2 ≤ steps → read_from steps 0 [] false ps ≡ items (joined ps)
unfolding items
cut ps steps h =
    reads_on steps 0 [] false ps (λ (e : false ≡ true). absurd (let z : ◌≡◌ {A = ℕ} 0 1 = cc in omega arith)) (omega arith)
