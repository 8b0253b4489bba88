-- Creation, restore, reselection and the window size: calls that use no COUNT (document 01, "Words" and "The COUNT rule").
use Rattle.std.specs.Prelude.{ℕ, cond, List, [], ◌∷◌, get_or, replicate, ltb}
use Rattle.count.specs.Rule.{resize_of, close_of}
use Rattle.refusals.specs.Order.{◌when◌, first, refused_or}
use Rattle.nas_core.specs.Keyed.{away_from_null}
pub use Rattle.nas_core.specs.Keyed.{core_with}
use Rattle.nas_core.specs.Refusals.{unbuilt}
use Rattle.aes.specs.Keys.{key_of}
use Rattle.nas_5gs.specs.declared.Context.{Context}
use Rattle.nas_core.specs.ChangeAnswer.{ChangeAnswer, Refused, Done}
use Rattle.nas_5gs.specs.Places.{record_at, four, any_over, fault_of}
use Rattle.nas_5gs.specs.Leaves.{Leaves, leaves}

-- four next COUNTs, size 0, no bit marked
abbrev pub context_with : ℕ → ℕ → List ℕ → List ℕ → List ℕ → Context
context_with i c ik ck next =
    record { core = core_with i c (key_of ik) (key_of ck) 0; records = four (λ p. record { next = get_or next p 0; bits = 0 }) }

-- what a refused creation or restore hands back: both codes 255, all else 0
abbrev pub refused_context : Context
refused_context = context_with 255 255 (replicate 16 0) (replicate 16 0) (replicate 4 0)

-- creation: 13
unfoldable pub new_of : ℕ → ℕ → List ℕ → List ℕ → Leaves ChangeAnswer
new_of i c ik ck =
    refused_or (first (13 when unbuilt i c ∷ []))
    (λ n. leaves (Refused n) refused_context [])
    (leaves Done (context_with i c ik ck (replicate 4 0)) [])

-- restore: 13, 16
unfoldable pub restore_of : ℕ → ℕ → List ℕ → List ℕ → List ℕ → Leaves ChangeAnswer
restore_of i c ik ck next =
    refused_or (first (13 when unbuilt i c ∷ 16 when any_over (four (λ p. get_or next p 0)) ∷ []))
    (λ n. leaves (Refused n) refused_context [])
    (leaves Done (context_with i c ik ck next) [])

-- every late COUNT of every record closed
unfoldable pub closed : Context → Context
closed x = record { core = x.core; records = four (λ p. close_of x.core.size (record_at x p)) }

-- "reselecting away from null closes every late COUNT in all four records"
unfoldable pub kept_for : Context → ℕ → Context
kept_for x i = cond (away_from_null x.core.integrity i) (closed x) x

-- reselection: 13; next COUNTs and size stay, and but for the above the bits
unfoldable pub reselect_of : Context → ℕ → ℕ → List ℕ → List ℕ → Leaves ChangeAnswer
reselect_of x i c ik ck =
    refused_or (first (fault_of x ∷ 13 when unbuilt i c ∷ []))
    (λ n. leaves (Refused n) x [])
    (leaves Done (record { core = core_with i c (key_of ik) (key_of ck) x.core.size; records = (kept_for x i).records }) [])

-- every record under a new size
unfoldable pub resized : Context → ℕ → Context
resized x n =
    record {
      core = core_with x.core.integrity x.core.ciphering x.core.integrity_key x.core.ciphering_key n;
      records = four (λ p. resize_of x.core.size n (record_at x p));
    }

-- window size: 14
unfoldable pub window_of : Context → ℕ → Leaves ChangeAnswer
window_of x n =
    refused_or (first (fault_of x ∷ 14 when (ltb 64 n) ∷ []))
    (λ k. leaves (Refused k) x [])
    (leaves Done (resized x n) [])
