-- The laws, all together.
use mathlib.Core.Path.{◌≡◌, refl, ap, sym, ◌∙◌}
use mathlib.Core.Bool.{Bool, true, false, cond, not}
use mathlib.Core.Logic.{◌↔◌, ⊎_elim}
use Rattle.std.proofs.lemmas.Bool.{cases_Bool}
use mathlib.Core.List.{List, []}
use Prim.Native.Nat.{ℕ, ◌+◌, ◌≤◌}
use native.Mathlib.Omega.{arith}
use lib.ListN.{length}
use Rattle.look.specs.Look.{is_of}
use Rattle.std.specs.Prelude.{Option, Some, None, Result, Ok, Err}
use Rattle.initial.specs.declared.Span.{Span}
use Rattle.initial.specs.declared.Unwalkable.{Unwalkable}
use Rattle.initial.specs.Messages.{is_initial, mandatory_length, type_of}
use Rattle.initial.specs.Walk.{span, container_in, container_of}
use Rattle.initial.specs.Outer.{is_hideable, hides, outer_of}
use Rattle.initial.specs.Inside.{is_asked, is_inside, refused, handed, value_at, of_type, hidden_in, hidden_of, no_message, ends_in18}
use Rattle.initial.specs.Laws.{Laws}
use Rattle.initial.proofs.Walks.{enough}
use Rattle.initial.proofs.Within.{within, whole, absent}
use Rattle.initial.proofs.Outer.{no-shorter, length-is, front, octet, walk, value}
use Rattle.initial.proofs.Inside.{own, looks, by-type, by_three, first_three}

-- what goes out has w's type
same-type : (w v : List ℕ) (t : ℕ) → mandatory_length w ≤ length w → is_of t (outer_of w v) ≡ is_of t w
unfolding mandatory_length
same-type w v t h =
    sym (first_three t (outer_of w v)) ∙ ap (λ (l : List ℕ). is_of t l) (front w v h 3 (omega arith)) ∙ first_three t w

initially : (w v : List ℕ) → mandatory_length w ≤ length w → is_initial (outer_of w v) ≡ is_initial w
unfolding is_initial
initially w v h = simp (same-type w v 0x4C h, same-type w v 0x45 h)

-- asked for under type 1, uplink, of an initial message
asked : (f : List ℕ → List ℕ) (p : List ℕ) → is_initial p ≡ true → hidden_of 1 0 f p ≡ hidden_in f p (container_of p)
unfolding hidden_of is_asked
asked f p i = simp i

refuses : (b : Bool) (q : List ℕ) → (cond b (handed q) refused ≡ refused) ↔ (not b ≡ true)
refuses true q = (λ e. cc, λ e. cc)
refuses false q = (λ e. refl, λ e. refl)

ends_by : (f : List ℕ → List ℕ) (p : List ℕ) → is_initial p ≡ true → (c : Result (Option Span) Unwalkable) → (hidden_in f p c ≡ refused) ↔ (no_message f p c ≡ true)
ends_by f p i (Err e) = (λ e. refl, λ e. refl)
ends_by f p i (Ok None) = (λ e. cc, λ e. cc)
ends_by f p i (Ok (Some s)) =
    let q = f (value_at p s.start s.length) in simp (by-type p q i) (refuses (is_of (type_of p) q) q)

ends : (f : List ℕ → List ℕ) (p : List ℕ) → is_initial p ≡ true → (hidden_of 1 0 f p ≡ refused) ↔ (ends_in18 f p ≡ true)
unfolding ends_in18
ends f p i = simp (asked f p i) (ends_by f p i (container_of p))

none : (w v : List ℕ) → hides w ≡ false → outer_of w v ≡ w
unfolding outer_of
none w v t = simp t

contained : (w v : List ℕ) → mandatory_length w ≤ length w → hides w ≡ true → container_of (outer_of w v) ≡ Ok (Some (span (mandatory_length w + 3) (length v)))
unfolding container_of
contained w v h t = ap container_in (walk w v h t)

back : (f : List ℕ → List ℕ) (w v : List ℕ) → is_initial w ≡ true → is_hideable w ≡ true → f v ≡ w
    → hidden_of 1 0 f (outer_of w v) ≡ handed (cond (hides w) w [])
unfolding mandatory_length is_hideable
back f w v i a e =
    let h = whole w a in
    let o : is_initial (outer_of w v) ≡ true = initially w v h ∙ i in
    asked f (outer_of w v) o
    ∙ ⊎_elim
    (λ (t : hides w ≡ true).
    let q : f (value_at (outer_of w v) (mandatory_length w + 3) (length v)) ≡ w = ap f (value w v h t) ∙ e in
    let same : is_inside (outer_of w v) w ≡ true = by-type (outer_of w v) w o ∙ ap (λ (k : ℕ). is_of k w) (octet w v h 2 (omega arith)) ∙ own w i in
    ap (hidden_in f (outer_of w v)) (contained w v h t) ∙ ap (of_type (outer_of w v)) q ∙ simp (same, t))
    (λ (t : hides w ≡ false). ap (λ (m : List ℕ). hidden_in f m (container_of m)) (none w v t) ∙ ap (hidden_in f w) (absent (container_of w) a) ∙ simp t)
    (cases_Bool (hides w))

pub laws : Laws
laws =
    record {
      walks = λ m. record { steps = enough m; within = within m; whole = whole m };
      out = λ w v. record {
        length-is = length-is w v;
        no-shorter = no-shorter w;
        two-octets = λ h. omega (arith, no-shorter w);
        front = λ n h. front w v h n;
        initial = initially w v;
        walk = walk w v;
        value = value w v;
      };
      inside = λ f p. record { looks = looks p; by-type = by-type p; by_three = by_three p; ends = ends f p };
      back = back;
    }
