-- What calls on any context share: each does one act on one record, and answers the COUNT that it used.
use Rattle.std.specs.Prelude.{Ok, Err}
use Prim.Native.Nat.{ℕ}
use mathlib.Core.Path.{◌≡◌, refl, sym, ap, ◌∙◌, subst}
use mathlib.Core.Bool.{Bool, true, false, cond}
use mathlib.Core.List.{List, [], ◌∷◌}
use lib.ListN.{length, set}
use lib.Dec.{eqb}
use Rattle.count.specs.declared.Record.{Record}
use Rattle.count.specs.Rule.{Opening, use_late}
use Rattle.count.specs.declared.Taken.TheVariants.{Late, Forward}
use Rattle.count.specs.declared.Missed.TheVariants.{NoCandidate, WrongCode}
use Rattle.count.specs.Run.{State, Act, stay, forward, round, use_by, act, act_of, used}
use Rattle.count.specs.Machine.{state_at, records_after}
use Rattle.refusals.specs.Order.{refused_or}
use Rattle.nas_core.specs.declared.Core.{Core}
use Rattle.nas_core.specs.Keyed.{wraps}
use Rattle.nas_core.specs.Leaves.{Leaves, leaves, over, used_with, received_as, Values}
use Rattle.nas_core.specs.Verify.{advanced}
use Rattle.promise.specs.Outcomes.{Outcome, outcome, used_by, SameKeys}

-- an act, if there is no refusal
abbrev pub unless : ℕ → Act → Act
unless n a = cond (eqb n 0) a stay

pub same_keys : (x : Core) → SameKeys x x
same_keys x = record { integrity = refl; ciphering = refl; integrity-key = refl; ciphering-key = refl }

pub advanced-by : (x : Core) (r : Record) (c : ℕ) → advanced x r c ≡ use_by (cond (wraps x) round forward) x.size r c
unfolding advanced
advanced-by x r c = go (wraps x)
  where
    go : (w : Bool) → cond w (use_by round x.size r c) (use_by forward x.size r c) ≡ use_by (cond w round forward) x.size r c
    go true = refl
    go false = refl

-- A context as its calls see it: a core and records, and COUNT c used in the record at p, forward and late.
pub record Holding (X : Type 0) : Type 0 where
  pub core : X → Core
  pub records : X → List Record
  pub ahead : X → ℕ → ℕ → X
  pub late : X → ℕ → ℕ → X
  pub ahead-core : (x : X) (p c : ℕ) → core (ahead x p c) ≡ core x
  pub late_core : (x : X) (p c : ℕ) → core (late x p c) ≡ core x
  pub ahead-records : (x : X) (p c : ℕ)
      → records (ahead x p c) ≡ set (records x) p (advanced (core x) (state_at p (core x).size (records x)).at c)
  pub late-records : (x : X) (p c : ℕ)
      → records (late x p c) ≡ set (records x) p (use_late (state_at p (core x).size (records x)).at c)

module _ {X : Type 0} (H : Holding X) where
  abbrev pub state_of : ℕ → X → State
  state_of p x = state_at p (H.core x).size (H.records x)

  -- the next COUNT used
  abbrev pub next : X → ℕ → Act
  next x p = act_of (wraps (H.core x)) (Ok (Forward (state_of p x).at.next))

  -- What an act on the record at p makes of a context, and of an answer.
  pub record Acts (x : X) (p : ℕ) (a : Act) (o : Outcome X) : Type 0 where
    pub keys-after : SameKeys (H.core x) (H.core o.context)
    pub size-after : (H.core o.context).size ≡ (act a (state_of p x)).size
    pub records-after : H.records o.context ≡ records_after p a (H.core x).size (H.records x)
    pub counts : used_by o.values ≡ used a

  module _ (x : X) (p : ℕ) where
    keys_of : (y : X) → H.core y ≡ H.core x → SameKeys (H.core x) (H.core y)
    keys_of y e = subst (SameKeys (H.core x)) (sym e) (same_keys (H.core x))

    -- the shapes: nothing, a COUNT used forward, a COUNT used late
    pub refused : (v : Values) (out : List ℕ) → used_by v ≡ [] → Acts x p stay (record { values = v; context = x; output = out })
    refused v out e = record { keys-after = same_keys (H.core x); size-after = refl; records-after = refl; counts = e }

    pub ahead : (v : Values) (c : ℕ) (out : List ℕ) → used_by v ≡ c ∷ []
        → Acts x p (act_of (wraps (H.core x)) (Ok (Forward c))) (record { values = v; context = H.ahead x p c; output = out })
    ahead v c out e =
        record {
          keys-after = keys_of (H.ahead x p c) (H.ahead-core x p c);
          size-after = ap (λ (k : Core). k.size) (H.ahead-core x p c);
          records-after = H.ahead-records x p c ∙ ap (set (H.records x) p) (advanced-by (H.core x) (state_of p x).at c);
          counts = e;
        }

    pub below : (v : Values) (c : ℕ) (out : List ℕ) → used_by v ≡ c ∷ []
        → Acts x p (act_of (wraps (H.core x)) (Ok (Late c))) (record { values = v; context = H.late x p c; output = out })
    below v c out e =
        record {
          keys-after = keys_of (H.late x p c) (H.late_core x p c);
          size-after = ap (λ (k : Core). k.size) (H.late_core x p c);
          records-after = H.late-records x p c;
          counts = e;
        }

    -- a refusal comes first
    pub first-refused : {A : Type 0} (v : A → Values) (n : ℕ) (r : ℕ → Leaves X A) (l : Leaves X A) (a : Act)
        → ((k : ℕ) → Acts x p stay (outcome v (r k))) → Acts x p a (outcome v l) → Acts x p (unless n a) (outcome v (refused_or n r l))
    first-refused v n r l a f g = go (eqb n 0)
      where
        go : (t : Bool) → Acts x p (cond t a stay) (outcome v (cond t l (r n)))
        go true = g
        go false = f n

    -- by what an opening finds
    pub by-opening : {A : Type 0} (v : A → Values) (r : ℕ → Leaves X A) (h : ℕ → X → Leaves X A) (o : Opening)
        → ((k : ℕ) → Acts x p stay (outcome v (r k)))
        → ((c : ℕ) → Acts x p (act_of (wraps (H.core x)) (Ok (Forward c))) (outcome v (h c (H.ahead x p c))))
        → ((c : ℕ) → Acts x p (act_of (wraps (H.core x)) (Ok (Late c))) (outcome v (h c (H.late x p c))))
        → Acts x p (act_of (wraps (H.core x)) o) (outcome v (received_as (H.ahead x p) (H.late x p) r h o))
    by-opening v r h (Err NoCandidate) f g k = f 6
    by-opening v r h (Err WrongCode) f g k = f 7
    by-opening v r h (Ok (Late c)) f g k = k c
    by-opening v r h (Ok (Forward c)) f g k = g c

    -- refused, or the next COUNT used and octets written
    pub sends : {A : Type 0} (v : A → Values) (refuses : ℕ → A) (says : ℕ → ℕ → A) → ((k : ℕ) → used_by (v (refuses k)) ≡ [])
        → ((c w : ℕ) → used_by (v (says c w)) ≡ c ∷ []) → (n : ℕ) (made : ℕ → List ℕ) (out : List ℕ)
        → let c = (state_of p x).at.next in
        Acts x p (unless n (next x p)) (outcome v (refused_or n (λ k. leaves (refuses k) x out) (used_with says (H.ahead x p) c (made c) out)))
    sends v refuses says none one n made out =
        let c = (state_of p x).at.next in
        first-refused v n (λ k. leaves (refuses k) x out) (used_with says (H.ahead x p) c (made c) out) (next x p)
        (λ k. refused (v (refuses k)) out (none k))
        (ahead (v (says c (length (made c)))) c (over (made c) out) (one c (length (made c))))
