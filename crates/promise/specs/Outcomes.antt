-- What a call on a context X gives, in words that look at no context of their own: the promises of each context are stated in them.
use Rattle.std.specs.Prelude.{ℕ, ◌≡◌, true, cond, ◌⊎◌, List, [], ◌∷◌, length, take}
use Rattle.nas_core.specs.declared.Core.{Core}
use Rattle.nas_core.specs.Leaves.{Leaves, leaves, over, Values}

-- document 01's values of the answer, the context, and the lent output: no octets where none is lent
pub record Outcome (X : Type 0) : Type 0 where
  pub values : Values
  pub context : X
  pub output : List ℕ

abbrev pub outcome : {X A : Type 0} → (A → Values) → Leaves X A → Outcome X
outcome values_of (leaves a x out) = record { values = values_of a; context = x; output = out }

-- the COUNT that an answer says was used, if one was
abbrev pub used_by : Values → List ℕ
used_by v = cond v.uses (v.count ∷ []) []

-- "the same keys and codes"; the window size is each side's own
pub record SameKeys (x y : Core) : Type 0 where
  pub integrity : x.integrity ≡ y.integrity
  pub ciphering : x.ciphering ≡ y.ciphering
  pub integrity-key : x.integrity_key ≡ y.integrity_key
  pub ciphering-key : x.ciphering_key ≡ y.ciphering_key

abbrev pub Succeeds : {X : Type 0} → Outcome X → Type 0
Succeeds o = o.values.number ≡ 0

-- the answer says that COUNT c was used
abbrev pub Uses : {X : Type 0} → Outcome X → ℕ → Type 0
Uses o c = (o.values.uses ≡ true) × (o.values.count ≡ c)

-- the octets in front of the output, as many as the answer says were written
abbrev pub written : {X : Type 0} → Outcome X → List ℕ
written o = take o.values.wrote o.output

-- "uses c and hands over its octets": the answer names c, as a success or as 8, and the octets stand in front of the output
pub record TakenAs {X : Type 0} (o : Outcome X) (c : ℕ) (inner out : List ℕ) : Type 0 where
  pub uses : o.values.uses ≡ true
  pub count : o.values.count ≡ c
  pub number : (o.values.number ≡ 0) ⊎ (o.values.number ≡ 8)
  pub wrote : o.values.wrote ≡ length inner
  pub hands : o.output ≡ over inner out
