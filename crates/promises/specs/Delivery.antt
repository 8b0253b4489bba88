-- Demands 2 and 3 together: what a seal of z wrote, given to the matching open call of x after any calls that demand 3 speaks of, with the same keys and codes
-- and room enough. Where demand 3 makes it use that COUNT, the inner octets are handed over.
use Rattle.std.specs.Prelude.{ℕ, ◌≤◌, ◌≡◌, true, List, length}
use Rattle.nas_core.specs.Verify.{fits}
use Rattle.nas_5gs.specs.declared.Context.{Context}
use Rattle.initial.specs.Outer.{outer_length}
use Rattle.nas_core.specs.declared.Direction.{Direction}
use Rattle.nas_core.specs.declared.Direction.TheVariants.{Uplink}
use Rattle.nas_5gs.specs.declared.Connection.{Connection}
use Rattle.nas_5gs.specs.Places.{direction_no, bearer_no, place_of}
use Rattle.nas_5gs.specs.Eps.{eps_place, eps_bearer, eps_direction}
use Rattle.promises.specs.Calls.{Call, seal5gs, seal_opaque, seal_initial, open5gs, seal_eps, open_eps, gives, second, context_after}
use Rattle.promises.specs.Words.{Uses, SameKeys, Succeeds, written, TakenAs}
use Rattle.promises.specs.Demand2.{EndsIn18, HandsWhole}
use Rattle.promises.specs.Demand3.{Begins, NeverToNull, Due}

pub record Delivers (z x : Context) (ks : List Call) : Type 0 where
  pub seal : (t : ℕ) (d : Direction) (k : Connection) (inner out room room2 : List ℕ)
      → let s = gives (seal5gs t d k inner out) z in
      let now = context_after gives x ks in
      let o = gives (open5gs d k (written s) room room2) now in
      Succeeds s → length inner ≤ length room → (t ≡ 1 → d ≡ Uplink → length inner ≤ length room2)
      → Due gives (place_of d k) x ks (λ c. fits now.core c (bearer_no k) (direction_no d) 2 (written s) ≡ true) s.values.count
      → TakenAs o s.values.count inner room × ((EndsIn18 now t d k s.values.count inner → ⊥) → Succeeds o)
  -- "these are the octets demand 3 speaks of": the whole message, in the second output where something of it was hidden
  pub initial : (k : Connection) (w out room room2 : List ℕ)
      → let s = gives (seal_initial k w out) z in
      let now = context_after gives x ks in
      let o = gives (open5gs Uplink k (written s) room room2) now in
      Succeeds s → outer_length w ≤ length room → outer_length w ≤ length room2
      → Due gives (place_of Uplink k) x ks (λ c. fits now.core c (bearer_no k) 0 2 (written s) ≡ true) s.values.count
      → Succeeds o × Uses o s.values.count × HandsWhole w o (second (open5gs Uplink k (written s) room room2) now) room room2
  -- "The sealing round trip therefore asks for at least one octet .. after an opaque seal it may end in 8 with the same octets"
  pub opaque : (t : ℕ) (d : Direction) (k : Connection) (inner out room room2 : List ℕ)
      → let s = gives (seal_opaque t d k inner out) z in
      let now = context_after gives x ks in
      let o = gives (open5gs d k (written s) room room2) now in
      Succeeds s → 1 ≤ length inner → length inner ≤ length room → (t ≡ 1 → d ≡ Uplink → length inner ≤ length room2)
      → Due gives (place_of d k) x ks (λ c. fits now.core c (bearer_no k) (direction_no d) 2 (written s) ≡ true) s.values.count
      → TakenAs o s.values.count inner room
  pub eps : (inner out room : List ℕ)
      → let s = gives (seal_eps inner out) z in
      let now = context_after gives x ks in
      let o = gives (open_eps (written s) room) now in
      Succeeds s → length inner ≤ length room
      → Due gives eps_place x ks (λ c. fits now.core c eps_bearer eps_direction 1 (written s) ≡ true) s.values.count
      → Succeeds o × TakenAs o s.values.count inner room

abbrev pub Delivery : Type 0
Delivery =
    (z x : Context) → Begins x → (ks : List Call) → NeverToNull gives x ks → SameKeys z.core (context_after gives x ks).core → Delivers z x ks
