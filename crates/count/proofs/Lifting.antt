-- From one record to a context.
use Prim.Native.Nat.{ℕ, zero, suc, ◌<◌}
use mathlib.Core.Path.{◌≡◌, refl, sym, ap, ◌∙◌, subst}
use mathlib.Core.Bool.{Bool, true, false, cond}
use mathlib.Core.List.{List, [], ◌∷◌, map}
use native.Mathlib.Omega.{arith}
use lib.Dec.{eqb}
use lib.ListN.{length, get_or, length-set, length-map}
use lib.Seq.{get_or-set_same, get_or-set_other}
use borrow.Author.Tests.{eqb-true, eqb-false, ne_eqb}
use Rattle.count.specs.declared.Record.{Record}
use Rattle.count.specs.Rule.{resize_of, close_of}
use Rattle.count.specs.Run.{Way, Act, stay, uses, resize, close, use_by, act, used, Valid, after, Fair, history, NoneTwice}
use Rattle.count.specs.Machine.{state_at, records_after, seen, Machine, view, gives_all, acts_on, used_at, Acting, Sound, Others, Lift}
use Rattle.count.proofs.Openings.{facts}

abbrev nothing : Record
nothing = record { next = 0; bits = 0 }

map_at : (f : Record → Record) (l : List Record) (p : ℕ) → p < length l → get_or (map f l) p nothing ≡ f (get_or l p nothing)
map_at f [] p h = absurd (omega arith)
map_at f (x ∷ l) zero h = refl
map_at f (x ∷ l) (suc p) h = map_at f l p (omega arith)

module _ (p q size : ℕ) (l : List Record) where
  -- the record at p after a store at q
  stored : (w : Way) (c : ℕ) → p < length l → (b : Bool) → eqb p q ≡ b
      → state_at p size (records_after q (uses w c) size l) ≡ act (cond b (uses w c) stay) (state_at p size l)
  stored w c h true e =
      rw (← eqb-true p q e) λ i. record { size = size; at = get_or-set_same l p (use_by w size (get_or l p nothing) c) nothing h i }
  stored w c h false e =
      λ i. record { size = size; at = get_or-set_other l q p (use_by w size (get_or l q nothing) c) nothing (eqb-false p q e) i }

  state-after : (a : Act) → p < length l → state_at p (act a (state_at q size l)).size (records_after q a size l) ≡ act (seen p q a) (state_at p size l)
  state-after stay h = refl
  state-after (uses w c) h = stored w c h (eqb p q) refl
  state-after (resize new) h = λ i. record { size = new; at = map_at (resize_of size new) l p h i }
  state-after close h = λ i. record { size = size; at = map_at (close_of size) l p h i }

  pub length-after : (a : Act) → length (records_after q a size l) ≡ length l
  length-after stay = refl
  length-after (uses w c) = length-set l q (use_by w size (get_or l q nothing) c)
  length-after (resize new) = length-map l (resize_of size new)
  length-after close = length-map l (close_of size)

  -- what is valid for the record worked on is, as seen, valid for each
  only-there : (w : Way) (c : ℕ) → Valid (uses w c) (state_at q size l) → (b : Bool) → eqb p q ≡ b → Valid (cond b (uses w c) stay) (state_at p size l)
  only-there w c v true e = subst (λ (k : ℕ). Valid (uses w c) (state_at k size l)) (sym (eqb-true p q e)) v
  only-there w c v false e = tt

  pub seen-valid : (a : Act) → Valid a (state_at q size l) → Valid (seen p q a) (state_at p size l)
  seen-valid stay v = tt
  seen-valid (uses w c) v = only-there w c v (eqb p q) refl
  seen-valid (resize new) v = tt
  seen-valid close v = absurd v

nothing-used : (b : Bool) → [] ≡ cond {A = List ℕ} b [] []
nothing-used true = refl
nothing-used false = refl

used-there : (w : Way) (c : ℕ) (b : Bool) → used (cond b (uses w c) stay) ≡ cond b (c ∷ []) []
used-there w c true = refl
used-there w c false = refl

used-seen : (p q : ℕ) (a : Act) → used (seen p q a) ≡ cond (eqb p q) (used a) []
used-seen p q stay = nothing-used (eqb p q)
used-seen p q (uses w c) = used-there w c (eqb p q)
used-seen p q (resize new) = nothing-used (eqb p q)
used-seen p q close = nothing-used (eqb p q)

other-stays : (p q : ℕ) (a : Act) → (p ≡ q → ⊥) → ((new : ℕ) → a ≡ resize new → ⊥) → (a ≡ close → ⊥) → seen p q a ≡ stay
other-stays p q stay ne other open-still = refl
other-stays p q (uses w c) ne other open-still = simp (ne_eqb p q ne)
other-stays p q (resize new) ne other open-still = absurd (other new refl)
other-stays p q close ne other open-still = absurd (open-still refl)

pub view-gives : {X C : Type 0} (T : Machine X C) (Good : X → Type 0) → Acting T Good → (k : C) (x : X) → Good x → (p : ℕ) → p < length (T.records x)
    → view T p (T.gives k x) ≡ act (seen p (T.place k x) (T.does k x)) (view T p x)
view-gives T Good acting k x good p there =
    ap (λ (n : ℕ). state_at p n (T.records (T.gives k x))) (acting.size-after k x good)
    ∙ ap (state_at p (act (T.does k x) (view T (T.place k x) x)).size) (acting.records-after k x good)
    ∙ state-after p (T.place k x) (T.size x) (T.records x) (T.does k x) there

pub others : Others
others X C T Good acting k x good p there ne other open-still =
    view-gives T Good acting k x good p there
    ∙ ap (λ (a : Act). act a (view T p x)) (other-stays p (T.place k x) (T.does k x) ne other open-still)

module _ {X C : Type 0} (T : Machine X C) (Good : X → Type 0) (sound : Sound T Good) (x : X) (good : Good x) (p : ℕ) (there : p < length (T.records x)) where
  pub still-good : (ks : List C) → Good (gives_all T x ks)
  still-good [] = good
  still-good (k ∷ ks) = sound.stays k (gives_all T x ks) (still-good ks)

  still-there : (ks : List C) → p < length (T.records (gives_all T x ks))
  still-there [] = there
  still-there (k ∷ ks) =
      let y = gives_all T x ks in
      let e : length (T.records (T.gives k y)) ≡ length (T.records y) =
      ap length (sound.acting.records-after k y (still-good ks)) ∙ length-after p (T.place k y) (T.size y) (T.records y) (T.does k y)
      in
      omega (arith, still-there ks)

  record-after : (ks : List C) → view T p (gives_all T x ks) ≡ after (view T p x) (acts_on T p x ks)
  record-after [] = refl
  record-after (k ∷ ks) =
      let y = gives_all T x ks in
      view-gives T Good sound.acting k y (still-good ks) p (still-there ks)
      ∙ ap (act (seen p (T.place k y) (T.does k y))) (record-after ks)

  pub fair : (ks : List C) → Fair (view T p x) (acts_on T p x ks)
  fair [] = tt
  fair (k ∷ ks) =
      let y = gives_all T x ks in (
        subst (Valid (seen p (T.place k y) (T.does k y))) (record-after ks)
            (seen-valid p (T.place k y) (T.size y) (T.records y) (T.does k y) (sound.valid k y (still-good ks))),
        fair ks,
      )

  pub used-history : (ks : List C) → used_at T p x ks ≡ history (acts_on T p x ks)
  used-history [] = refl
  used-history (k ∷ ks) = let y = gives_all T x ks in simp (used-seen p (T.place k y) (T.does k y), used-history ks)

pub lift : Lift
lift X C T Good sound x good p there =
    let fair-run = fair T Good sound x good p there in
    record {
      record-after = record-after T Good sound x good p there;
      facts = λ shut ks. facts (view T p x) shut (acts_on T p x ks) (fair-run ks);
      once = λ shut ks. subst NoneTwice (sym (used-history T Good sound x good p there ks)) (facts (view T p x) shut (acts_on T p x ks) (fair-run ks)).once;
    }
