-- Demands 2 and 3 together: what a seal of z wrote, opened by x after any calls that demand 3 speaks of, with the same keys and codes and room enough.
use Rattle.std.specs.Prelude.{ℕ, ◌≤◌, ◌≡◌, true, List, length}
use Rattle.nas_core.specs.Verify.{fits}
use Rattle.nas_eps.specs.declared.Context.{Context}
use Rattle.nas_core.specs.declared.Direction.{Direction}
use Rattle.nas_core.specs.declared.Direction.TheVariants.{Uplink}
use Rattle.nas_eps.specs.Places.{uplink, place_of}
use Rattle.nas_eps.specs.Octets.{bearer}
use Rattle.promises_eps.specs.Calls.{Call, seal_message, seal_request, open_message, gives, context_after}
use Rattle.promises_eps.specs.Words.{SameKeys, Ahead, Succeeds, written, TakenAs, AnswersRequest}
use Rattle.promises_eps.specs.Demand3.{Begins, NeverToNull, Due}

pub record Delivers (z x : Context) (ks : List Call) : Type 0 where
  -- "The sealing round trip asks for at least one octet"
  pub seal : (t : ℕ) (d : Direction) (inner out room : List ℕ)
      → let s = gives (seal_message t d inner out) z in
      let now = context_after gives x ks in
      let o = gives (open_message d (written s) room) now in
      Succeeds s → 1 ≤ length inner → length inner ≤ length room
      → Due gives (place_of d) x ks (λ c. fits now.core c bearer (place_of d) 1 (written s) ≡ true) s.values.count
      → Succeeds o × TakenAs o s.values.count inner room
  pub request : (i : ℕ) (out room : List ℕ)
      → let s = gives (seal_request i out) z in
      let now = context_after gives x ks in
      Succeeds s → Ahead 32 uplink now s.values.count → AnswersRequest (gives (open_message Uplink (written s) room) now) s.values.count i room

abbrev pub Delivery : Type 0
Delivery =
    (z x : Context) → Begins x → (ks : List Call) → NeverToNull gives x ks → SameKeys z.core (context_after gives x ks).core → Delivers z x ks
