-- When an open call takes a message as a COUNT: by what its opening finds.
use Prim.Native.Nat.{ℕ, ◌+◌, ◌-◌, ◌≤◌, ◌<◌, min}
use mathlib.Core.Path.{◌≡◌, refl, ap, ◌∙◌}
use mathlib.Core.Bool.{Bool, true, false, cond, ◌&&◌}
use mathlib.Core.Logic.{◌⊎◌, inl, inr}
use mathlib.Core.List.{List}
use native.Mathlib.Omega.{arith}
use lib.ListN.{length, get_or, drop}
use lib.Dec.{eqb}
use borrow.Author.Tests.{eqb-true, eq-eqb, ne_eqb, le-ltb}
use Rattle.count.specs.Rule.{Opening, exhausted, distance_of}
use Rattle.nas_core.specs.declared.Core.{Core}
use Rattle.nas_core.specs.Keyed.{payload}
use Rattle.nas_core.specs.Refusals.{limit, unbuilt, core_fault}
use Rattle.envelope.specs.Initial.{beside}
use Rattle.nas_5gs.specs.declared.Context.{Context}
use Rattle.nas_core.specs.declared.Direction.{Direction}
use Rattle.nas_5gs.specs.declared.Connection.{Connection}
use Rattle.nas_5gs.specs.OpenAnswer as open'
use Rattle.nas_5gs.specs.EpsOpenAnswer as eps
use Rattle.nas_5gs.specs.Places.{direction_no, bearer_no, place_of, record_at, next_at, fault_of}
use Rattle.nas_5gs.specs.Leaves.{Values, open_values, eps_open_values}
use Rattle.nas_5gs.specs.Envelope.{wrong_type, ciphers, envelope}
use Rattle.nas_5gs.specs.Open.{type_of, open_refusal, room_for}
use Rattle.nas_5gs.specs.Eps.{eps_place, not_eps, eps_message, open_eps_refusal, eps_handed, eps_opened, open_eps_of}
use Rattle.promises.specs.Calls.{open5gs, open_eps, Outcome, gives}
use Rattle.promise.proofs.Answers.{left as left_by}
pub use Rattle.promise.proofs.Answers.{Answering}
use Rattle.promises.proofs.Shapes.{holding, found, plain, inside, carried, opened_as, first-open, eps_found, eps_as}
use Rattle.promises.proofs.Opening.{envelope-sealed, payload-length, payload_twice}

pub no-fault : (x : Context) → unbuilt x.core.integrity x.core.ciphering ≡ false → x.core.size ≤ 64 → ((p : ℕ) → p < 4 → next_at x p ≤ exhausted)
    → fault_of x ≡ 0
unfolding fault_of core_fault
no-fault x built small counts =
    simp (
      built,
      le-ltb 64 x.core.size small,
      le-ltb exhausted (next_at x 0) (counts 0 (omega arith)),
      le-ltb exhausted (next_at x 1) (counts 1 (omega arith)),
      le-ltb exhausted (next_at x 2) (counts 2 (omega arith)),
      le-ltb exhausted (next_at x 3) (counts 3 (omega arith)),
    )

abbrev pub left : {A : Type 0} (v : A → Values) (no' yes' : ℕ → A) (plain_of_lem : ℕ → List ℕ) → Answering v no' yes' plain_of_lem → Context → ℕ → List ℕ → Opening → Outcome
left v no' yes' plain_of_lem a x p out o = left_by holding v no' yes' plain_of_lem a x p out o

-- the two kinds of open call
module _ (x : Context) (p b d : ℕ) (m out : List ℕ) where
  pub open-answering : Answering open_values open'.Refused (opened_as x p b d m out) (plain x p b d m out)
  open-answering =
      record {
        refuses = λ n. refl;
        uses = λ c. go-uses c (eqb (carried x p b d m out c) 0);
        count = λ c. go-count c (eqb (carried x p b d m out c) 0);
        number = λ c. go-number c (eqb (carried x p b d m out c) 0);
        wrote = λ c. go-wrote c (eqb (carried x p b d m out c) 0);
      }
    where
      answer : ℕ → Bool → Values
      answer c t =
          open_values (
          cond t (open'.Accepted c (distance_of (record_at x p) c) (length (plain x p b d m out c)) (type_of m) (length (beside (inside x p b d m out c))))
          (open'.Content c (distance_of (record_at x p) c) (length (plain x p b d m out c)) (type_of m) (carried x p b d m out c)))

      go-uses : (c : ℕ) (t : Bool) → (answer c t).uses ≡ true
      go-uses c true = refl
      go-uses c false = refl

      go-count : (c : ℕ) (t : Bool) → (answer c t).count ≡ c
      go-count c true = refl
      go-count c false = refl

      go-number : (c : ℕ) (t : Bool) → ((answer c t).number ≡ 0) ⊎ ((answer c t).number ≡ 8)
      go-number c true = inl refl
      go-number c false = inr refl

      go-wrote : (c : ℕ) (t : Bool) → (answer c t).wrote ≡ length (plain x p b d m out c)
      go-wrote c true = refl
      go-wrote c false = refl

module _ (x : Context) (m out : List ℕ) where
  pub eps-answering : Answering eps_open_values eps.Refused (eps_as x m out) (λ c. drop 6 m)
  eps-answering =
      record {
        refuses = λ n. refl;
        uses = λ c. go-uses c (not_eps (drop 6 m));
        count = λ c. go-count c (not_eps (drop 6 m));
        number = λ c. go-number c (not_eps (drop 6 m));
        wrote = λ c. go-wrote c (not_eps (drop 6 m));
      }
    where
      answer : ℕ → Bool → Values
      answer c t = eps_open_values (cond t (eps.Content c (distance_of (record_at x eps_place) c) (length (drop 6 m)) 12) (eps.Accepted c (distance_of (record_at x eps_place) c) (length (drop 6 m))))

      go-uses : (c : ℕ) (t : Bool) → (answer c t).uses ≡ true
      go-uses c true = refl
      go-uses c false = refl

      go-count : (c : ℕ) (t : Bool) → (answer c t).count ≡ c
      go-count c true = refl
      go-count c false = refl

      go-number : (c : ℕ) (t : Bool) → ((answer c t).number ≡ 0) ⊎ ((answer c t).number ≡ 8)
      go-number c true = inr refl
      go-number c false = inl refl

      go-wrote : (c : ℕ) (t : Bool) → (answer c t).wrote ≡ length (drop 6 m)
      go-wrote c true = refl
      go-wrote c false = refl

-- what the calls leave, once they are not refused at once
pub open-left : (x : Context) (d : Direction) (k : Connection) (m out out2 : List ℕ)
    → open_refusal x m (room_for (type_of m) (direction_no d) (length out) (length out2)) ≡ 0
    → let b = bearer_no k in let p = place_of d k in
    gives (open5gs d k m out out2) x
    ≡ left open_values open'.Refused (opened_as x p b (direction_no d) m out) (plain x p b (direction_no d) m out)
    (open-answering x p b (direction_no d) m out) x p out (found x p b (direction_no d) m out)
open-left x d k m out out2 e = rw (first-open x d k m out out2, e)

pub eps-left : (x : Context) (m out : List ℕ) → open_eps_refusal x m (length out) ≡ 0
    → gives (open_eps m out) x
    ≡ left eps_open_values eps.Refused (eps_as x m out) (λ c. drop 6 m) (eps-answering x m out) x eps_place out (eps_found x m out)
unfolding open_eps_of eps_opened eps_handed
eps-left x m out e = rw e

-- within limit and room they are not
module _ (x : Context) (fault : fault_of x ≡ 0) (m : List ℕ) (n room : ℕ) (low : n ≤ limit) (fit : n ≤ room) where
  pub open-passes : (t : ℕ) → length m ≡ 7 + n → 1 ≤ n → get_or m 0 0 ≡ 0x7E → type_of m ≡ t → 1 ≤ t → t ≤ 4 → open_refusal x m room ≡ 0
  unfolding open_refusal wrong_type
  open-passes t long some first-octet type from to =
      rw type (simp (
        fault,
        le-ltb (length m) 7 (omega arith),
        eq-eqb (get_or m 0 0) 0x7E first-octet,
        le-ltb t 1 from,
        le-ltb 4 t to,
        ne_eqb (length m) 7 (omega arith),
        le-ltb limit (length m - 7) (omega arith),
        le-ltb room (length m - 7) (omega arith),
      ))

  pub eps-passes : length m ≡ 6 + n → get_or m 0 0 ≡ 0x17 → open_eps_refusal x m room ≡ 0
  unfolding open_eps_refusal
  eps-passes long first-octet =
      simp (
        fault,
        le-ltb (length m) 6 (omega arith),
        eq-eqb (get_or m 0 0) 0x17 first-octet,
        le-ltb limit (length m - 6) (omega arith),
        le-ltb room (length m - 6) (omega arith),
      )

-- the room that is asked for, where both outputs have it
pub has_room : (t d n room room2 : ℕ) → n ≤ room → (t ≡ 1 → d ≡ 0 → n ≤ room2) → n ≤ room_for t d room room2
unfolding room_for
has_room t d n room room2 fit fit2 = go (eqb t 1) (eqb d 0) refl refl
  where
    go : (a b : Bool) → eqb t 1 ≡ a → eqb d 0 ≡ b → n ≤ cond (a && b) (min room room2) room
    go true true p q = let h = fit2 (eqb-true t 1 p) (eqb-true d 0 q) in omega arith
    go true false p q = fit
    go false b p q = fit

-- a sealed message is so
module _ (x : Core) (t c b d : ℕ) (inner : List ℕ) where
  pub envelope-type : 1 ≤ t → t ≤ 4 → type_of (envelope x t c b d inner) ≡ t
  unfolding envelope
  envelope-type from to = omega arith

  pub envelope-first : get_or (envelope x t c b d inner) 0 0 ≡ 0x7E
  unfolding envelope
  envelope-first = refl

  pub envelope-long : length (envelope x t c b d inner) ≡ 7 + length inner
  envelope-long = (envelope-sealed x c inner b d t).long ∙ ap (7 +◌) (payload-length x c b d inner (ciphers t))

  pub envelope-back : 1 ≤ t → t ≤ 4
      → let m = envelope x t c b d inner in payload x (ciphers (type_of m)) c b d (drop 7 m) ≡ inner
  envelope-back from to =
      rw (envelope-type from to, (envelope-sealed x c inner b d t).body-there) (payload_twice x c b d inner (ciphers t))

pub eps-first : (x : Core) (c : ℕ) (inner : List ℕ) → get_or (eps_message x c inner) 0 0 ≡ 0x17
unfolding eps_message
eps-first x c inner = refl
