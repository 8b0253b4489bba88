-- Verifying a received code over a record (document 01, "The COUNT rule"; TS 24.501 4.4.3.2, 4.4.3.3), and using a COUNT.
use Rattle.std.specs.Prelude.{ℕ, ◌+◌, Bool, true, false, cond, ◌&&◌, ◌||◌, List, [], ◌∷◌, get_or, take, drop, eqb}
use Rattle.count.specs.Rule.{opening, use_forward, use_round}
use Rattle.count.specs.declared.Record.{Record}
use Rattle.count.specs.Rule.{Opening}
use Rattle.nas_core.specs.declared.Core.{Core}
use Rattle.nas_core.specs.Keyed.{wraps, code_by}

-- are two runs of octets the same
abbrev pub same : List ℕ → List ℕ → Bool
same [] [] = true
same [] (b ∷ m) = false
same (a ∷ l) [] = false
same (a ∷ l) (b ∷ m) = eqb a b && same l m

-- does the code that begins at octet p of a message fit COUNT c: it covers what follows it
unfoldable pub fits : Core → ℕ → ℕ → ℕ → ℕ → List ℕ → Bool
fits x c b d p m = wraps x || same (take 4 (drop p m)) (code_by x c b d (drop (p + 4) m))

-- what a message is taken as whose code begins at octet p, with the last octet of its COUNT behind the code
unfoldable pub verify_of : Core → Record → ℕ → ℕ → ℕ → List ℕ → Opening
verify_of x r b d p m = opening 8 (wraps x) (λ c. fits x c b d p m) x.size r (get_or m (p + 4) 0)

-- COUNT c used forward; under null integrity next goes round and the bits stay
unfoldable pub advanced : Core → Record → ℕ → Record
advanced x r c = cond (wraps x) (use_round r c) (use_forward x.size r c)
