-- When an open call takes a sealed message as a COUNT: by what its opening finds.
use Prim.Native.Nat.{ℕ, ◌+◌, ◌-◌, ◌*◌, ◌%◌, ◌≤◌}
use mathlib.Core.Path.{◌≡◌, refl}
use mathlib.Core.Bool.{Bool, true, false, cond}
use mathlib.Core.Logic.{inl, inr}
use mathlib.Core.List.{List, []}
use native.Mathlib.Omega.{arith}
use lib.ListN.{length, get_or, drop}
use borrow.Author.Tests.{eq-eqb, ne_eqb, le-ltb}
use Rattle.count.specs.Rule.{Opening}
use Rattle.count.specs.Facts.{Takes}
use Rattle.nas_core.specs.declared.Core.{Core}
use Rattle.nas_core.specs.Types.{wrong_type, ciphers}
use Rattle.nas_core.specs.Keyed.{wraps, code_by, payload}
use Rattle.nas_core.specs.Refusals.{limit}
use Rattle.nas_core.proofs.Keys.{payload_twice}
use Rattle.nas_eps.specs.declared.Context.{Context}
use Rattle.nas_eps.specs.OpenAnswer as open'
use Rattle.nas_eps.specs.Places.{fault_of}
use Rattle.nas_eps.specs.Leaves.{open_values}
use Rattle.nas_eps.specs.Octets.{message, type_of, is_request, request_head, short_code, service_request, identifier_of, short_fits}
use Rattle.nas_eps.specs.Open.{form_refusal, open_refusal}
use Rattle.nas_eps.proofs.Lengths.{request-length}
use Rattle.promise.proofs.Answers.{Answering, left}
use Rattle.promise.proofs.Sealed.{Sealed, one-sealed, same_refl, or-true, codes_same, payloads-same, protected-same}
use Rattle.promises_eps.specs.Calls.{Outcome}
use Rattle.promises_eps.specs.Words.{SameKeys, AnswersRequest}
use Rattle.promises_eps.proofs.Shapes.{holding, payload_of, plain, answer_as, opened_as}

module _ (x : Context) (p : ℕ) (m : List ℕ) where
  -- answers of either kind: all are successes
  pub success-as : (c : ℕ) (t : Bool) → (open_values (answer_as x p m t c)).number ≡ 0
  success-as c true = refl
  success-as c false = refl

  pub answering : Answering open_values open'.Refused (opened_as x p m) (plain x p m)
  answering =
      record {
        refuses = λ n. refl;
        uses = λ c. go-uses c (is_request m);
        count = λ c. go-count c (is_request m);
        number = λ c. inl (success-as c (is_request m));
        wrote = λ c. go-wrote c (is_request m);
      }
    where
      go-uses : (c : ℕ) (t : Bool) → (open_values (answer_as x p m t c)).uses ≡ true
      go-uses c true = refl
      go-uses c false = refl

      go-count : (c : ℕ) (t : Bool) → (open_values (answer_as x p m t c)).count ≡ c
      go-count c true = refl
      go-count c false = refl

      go-wrote : (c : ℕ) (t : Bool) → (open_values (answer_as x p m t c)).wrote ≡ length (cond t [] (payload_of x p m c))
      go-wrote c true = refl
      go-wrote c false = refl

  -- what an open call leaves by what it finds
  abbrev pub left_by : List ℕ → Opening → Outcome
  left_by out o = left holding open_values open'.Refused (opened_as x p m) (plain x p m) answering x p out o

-- a message of types 1 to 4
module _ (x : Core) (t c d : ℕ) (inner : List ℕ) where
  pub message-type : 1 ≤ t → t ≤ 4 → type_of (message x t c d inner) ≡ t
  unfolding message
  message-type from to = omega arith

  pub message-low : get_or (message x t c d inner) 0 0 % 16 ≡ 7
  unfolding message
  message-low = omega arith

  pub message-other : 1 ≤ t → t ≤ 4 → is_request (message x t c d inner) ≡ false
  message-other from to = ne_eqb (type_of (message x t c d inner)) 12 (λ e. omega (arith, message-type from to))

  pub message-sealed : Sealed x c 0 d 1 (message x t c d inner) (payload x (ciphers t) c 0 d inner)
  unfolding message
  message-sealed = one-sealed x c 0 d (t * 16 + 7) (payload x (ciphers t) c 0 d inner)

  pub message-back : 1 ≤ t → t ≤ 4
      → let m = message x t c d inner in payload x (ciphers (type_of m)) c 0 d (drop 6 m) ≡ inner
  message-back from to = rw (message-type from to, message-sealed.body-there) (payload_twice x c 0 d inner (ciphers t))

pub message-same : (x y : Core) → SameKeys y x → (t c d : ℕ) (m : List ℕ) → message y t c d m ≡ message x t c d m
unfolding message
message-same x y k t c d m = rw (payloads-same x y c 0 d k (ciphers t) m, protected-same x y c 0 d k (payload x (ciphers t) c 0 d m))

pub type-passes : (t : ℕ) → 1 ≤ t → t ≤ 4 → wrong_type t ≡ false
unfolding wrong_type
type-passes t from to = simp (le-ltb t 1 from, le-ltb 4 t to)

-- within limit and room it is not refused
pub message-passes : (x : Context) → fault_of x ≡ 0 → (p : ℕ) (m : List ℕ) (n room t : ℕ) → n ≤ limit → n ≤ room → length m ≡ 6 + n → 1 ≤ n
    → get_or m 0 0 % 16 ≡ 7 → type_of m ≡ t → 1 ≤ t → t ≤ 4 → open_refusal x p m room ≡ 0
unfolding open_refusal form_refusal
message-passes x fault p m n room t low fit long some seven type from to =
    rw type (simp (
      fault,
      ne_eqb (length m) 0 (λ e. omega arith),
      eq-eqb (get_or m 0 0 % 16) 7 seven,
      type-passes t from to,
      ne_eqb t 12 (λ e. omega arith),
      le-ltb (length m) 7 (omega arith),
      le-ltb limit (length m - 6) (omega arith),
      le-ltb room (length m - 6) (omega arith),
    ))

-- a SERVICE REQUEST
four-pass : (z : Context) → fault_of z ≡ 0 → (m : List ℕ) (room : ℕ) → get_or m 0 0 ≡ 0xC7 → length m ≡ 4 → open_refusal z 0 m room ≡ 0
unfolding open_refusal form_refusal wrong_type
four-pass z fault m room first long = rw first (simp (fault, ne_eqb (length m) 0 (λ e. omega arith), eq-eqb (length m) 4 long))

request-first : (x : Core) (i c : ℕ) → get_or (service_request x i c) 0 0 ≡ 0xC7
unfolding service_request
request-first x i c = refl

module _ (x : Core) (i c : ℕ) where
  pub request-is : is_request (service_request x i c) ≡ true
  unfolding service_request
  request-is = refl

  pub request-bits : get_or (service_request x i c) 1 0 % 32 ≡ c % 32
  unfolding service_request
  request-bits = omega arith

  pub request-names : identifier_of (service_request x i c) ≡ i
  unfolding service_request
  request-names = omega arith

  pub request-own : short_fits x c (service_request x i c) ≡ true
  unfolding service_request short_fits short_code
  request-own = rw (same_refl (drop 2 (code_by x c 0 0 (request_head i c)))) (or-true (wraps x))

  pub request-passes : (z : Context) → fault_of z ≡ 0 → (room : ℕ) → open_refusal z 0 (service_request x i c) room ≡ 0
  request-passes z fault room = four-pass z fault (service_request x i c) room (request-first x i c) (request-length x i c)

pub request-same : (x y : Core) → SameKeys y x → (i c : ℕ) → service_request y i c ≡ service_request x i c
unfolding service_request short_code
request-same x y k i c = rw (codes_same x y c 0 0 k (request_head i c))

-- taken exactly by its answer
module _ (x : Context) (p : ℕ) (m : List ℕ) (is : is_request m ≡ true) (out : List ℕ) (c : ℕ) where
  pub request-answered : (o : Opening) → Takes o c → AnswersRequest (left_by x p m out o) c (identifier_of m) out
  request-answered o (inl e) =
      rw (e, is) record { succeeds = refl; uses = refl; count = refl; header = refl; identifier = refl; wrote = refl; keeps = refl }
  request-answered o (inr e) =
      rw (e, is) record { succeeds = refl; uses = refl; count = refl; header = refl; identifier = refl; wrote = refl; keeps = refl }
