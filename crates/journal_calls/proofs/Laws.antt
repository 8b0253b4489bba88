-- A call's bytes read as the call, keys and next COUNTs as themselves.
use mathlib.Core.Path.{◌≡◌, refl, ap, sym, ◌∙◌}
use mathlib.Core.List.{List, [], ◌∷◌, ◌++◌}
use Prim.Native.Nat.{ℕ, ◌+◌, ◌*◌, ◌/◌, ◌%◌, ◌≤◌}
use native.Mathlib.Nat.{div-add-mod', div-div-eq-div-mul, mod-eq_of_lt}
use native.Mathlib.Omega.{arith}
use lib.ListN.{length, get_or, take, drop, length-append}
use lib.Seq.{take_at, drop_at, get_or-append-add}
use borrow.Author.Tests.{le-leb}
use Rattle.journal_calls.specs.declared.Call.{Call}
use Rattle.journal_calls.specs.declared.Call.TheVariants.{Unknown, New, Restore, Reselect, Window, Seal, Opaque, Open, EpsSeal, EpsOpen, N1ToS1, VerifyN1ToS1, S1ToN1, VerifyS1ToN1, Initial}
use Rattle.journal_calls.specs.Fields.{count_at, key_at, counts_in, counts_of}
use Rattle.journal_calls.specs.Calls.{kind_of, front_of, call_of, rest_of}
use Rattle.journal_calls.specs.Laws.{Places, Back, Laws}

room : (n : ℕ) → n / 256 * 256 + n % 256 ≡ n
room n = div-add-mod' n 256

call : (c : Call) (r : List ℕ) → Places c → call_of (kind_of c) (front_of c ++ r) ≡ c
unfolding call_of
call Unknown r p = refl
call (New i c) r p = refl
call (Restore i c) r p = refl
call (Reselect i c) r p = refl
call (Window n) r p = refl
call (Seal t q n) r p = simp (room, mod-eq_of_lt p)
call (Opaque t q n) r p = simp (room, mod-eq_of_lt p)
call (Open q n m) r p = simp (room, mod-eq_of_lt p)
call (EpsSeal n) r p = simp room
call (EpsOpen n) r p = simp room
call N1ToS1 r p = refl
call (VerifyN1ToS1 o) r p = refl
call (S1ToN1 a b n) r p = simp room
call VerifyS1ToN1 r p = refl
call (Initial k n) r p = simp (room, mod-eq_of_lt p)

pub back : (c : Call) (r : List ℕ) → Places c → Back c r
unfolding rest_of
back c r p =
    record {
      call = call c r p;
      rest' = ap (λ (x : Call). drop (length (front_of x)) (front_of c ++ r)) (call c r p) ∙ drop_at (front_of c) r (length (front_of c)) refl;
    }

-- two octets from n's higher ones
step : (n k m : ℕ) → n / k / 256 ≡ n / m → n / m * 256 + n / k % 256 ≡ n / k
step n k m e = ap (λ (x : ℕ). x * 256 + n / k % 256) (sym e) ∙ div-add-mod' (n / k) 256

word : (n : ℕ) → ((n / 16777216 * 256 + n / 65536 % 256) * 256 + n / 256 % 256) * 256 + n % 256 ≡ n
word n =
    ap (λ (x : ℕ). (x * 256 + n / 256 % 256) * 256 + n % 256) (step n 65536 16777216 (div-div-eq-div-mul n 65536 256))
    ∙ ap (λ (x : ℕ). x * 256 + n % 256) (step n 256 65536 (div-div-eq-div-mul n 256 256))
    ∙ div-add-mod' n 256

module _ (ik ck : List ℕ) (hi : length ik ≡ 16) (hc : length ck ≡ 16) where
  -- an octet behind the keys
  behind : (l : List ℕ) (i : ℕ) → get_or (ik ++ (ck ++ l)) (32 + i) 0 ≡ get_or l i 0
  behind l i =
      let e : 32 + i ≡ length ik + (length ck + i) = omega arith in
      ap (λ (k : ℕ). get_or (ik ++ (ck ++ l)) k 0) e
      ∙ get_or-append-add ik (ck ++ l) (length ck + i) 0
      ∙ get_or-append-add ck l i 0

  at_count : (l : List ℕ) (i : ℕ) → count_at (ik ++ (ck ++ l)) (32 + i) ≡ count_at l i
  at_count l i =
      let e : 32 + i + 1 ≡ 32 + (i + 1) = omega arith in
      let f : 32 + i + 2 ≡ 32 + (i + 2) = omega arith in
      let g : 32 + i + 3 ≡ 32 + (i + 3) = omega arith in
      simp (e, f, g, behind l i, behind l (i + 1), behind l (i + 2), behind l (i + 3))

  integrity : (l : List ℕ) → key_at (ik ++ (ck ++ l)) 0 ≡ ik
  unfolding key_at
  integrity l =
      let h : 0 + 16 ≤ length (ik ++ (ck ++ l)) = simp length-append (omega arith) in
      simp (le-leb _ _ h) (take_at ik (ck ++ l) 16 hi)

  ciphering : (l : List ℕ) → key_at (ik ++ (ck ++ l)) 16 ≡ ck
  unfolding key_at
  ciphering l =
      let h : 16 + 16 ≤ length (ik ++ (ck ++ l)) = simp length-append (omega arith) in
      simp (le-leb _ _ h)
      (ap (λ (x : List ℕ). take 16 x) (drop_at ik (ck ++ l) 16 hi) ∙ take_at ck l 16 hc)

  counts : (a b c d : ℕ) → counts_in (ik ++ (ck ++ counts_of (a ∷ b ∷ c ∷ d ∷ []))) ≡ a ∷ b ∷ c ∷ d ∷ []
  unfolding counts_in counts_of
  counts a b c d =
      let l = counts_of (a ∷ b ∷ c ∷ d ∷ []) in
      let x = ik ++ (ck ++ l) in
      let p : count_at x 32 ≡ a = at_count l 0 ∙ word a in
      let q : count_at x 36 ≡ b = at_count l 4 ∙ word b in
      let r : count_at x 40 ≡ c = at_count l 8 ∙ word c in
      let s : count_at x 44 ≡ d = at_count l 12 ∙ word d in
      λ j. p j ∷ q j ∷ r j ∷ s j ∷ []

pub laws : Laws
laws =
    record {
      back = back;
      state = λ ik ck a b c d hi hc. record { integrity = integrity ik ck hi hc; ciphering = ciphering ik ck hi hc; counts = counts ik ck hi hc a b c d };
    }
