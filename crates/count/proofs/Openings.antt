-- What an opening answers, what it takes a message as, and that its act is valid.
use Rattle.std.specs.Prelude.{Option, None, Some, Ok, Err}
use Prim.Native.Nat.{ℕ, ◌%◌, ◌^◌, ◌<◌}
use mathlib.Core.Path.{◌≡◌, refl, sym, ap, ◌∙◌, subst}
use mathlib.Core.Bool.{Bool, true, false, cond}
use mathlib.Core.Logic.{◌⊎◌, inl, inr, ⊎_elim, ◌↔◌}
use native.Mathlib.Nat.{mod-mod}
use Rattle.count.specs.Rule.{Opening, exhausted, forward_of, late_of, try_forward, try, opening, forward_only}
use Rattle.count.specs.declared.Taken.TheVariants.{Late, Forward}
use Rattle.count.specs.declared.Missed.TheVariants.{NoCandidate, WrongCode}
use Rattle.count.specs.Run.{State, act_of, Open, Valid, after}
use Rattle.count.specs.Facts.{NoLate, When, Answers, Takes, Reach, FactsHold}
use Rattle.count.proofs.Candidates.{never, forward-is, forward-reached, late_is, late-found}
use Rattle.count.proofs.Runs.{none-twice, open-late}

module _ (fits : ℕ → Bool) (late ahead : Option ℕ) where
  abbrev W : Opening → Type 0
  W = When fits late ahead

  -- the answer is given when it may be
  forward-when : NoLate fits late ahead → W (try_forward fits ahead)
  forward-when n = go ahead refl
    where
      test : (c : ℕ) → ahead ≡ Some c → (b : Bool) → fits c ≡ b → W (cond b (Ok (Forward c)) (Err WrongCode))
      test c e true f = (n, e, f)
      test c e false f = (c, n, e, f)

      go : (l : Option ℕ) → ahead ≡ l → W (try_forward fits l)
      go None e = (n, e)
      go (Some c) e = test c e (fits c) refl

  when : W (try fits late ahead)
  when = go late refl
    where
      test : (c : ℕ) → late ≡ Some c → (b : Bool) → fits c ≡ b → W (cond b (Ok (Late c)) (try_forward fits ahead))
      test c e true f = (e, f)
      test c e false f = forward-when (λ c' e'. let q : c' ≡ c = cc in ap fits q ∙ f)

      go : (l : Option ℕ) → late ≡ l → W (try fits l ahead)
      go None e = forward-when (λ c e'. never (sym e ∙ e'))
      go (Some c) e = test c e (fits c) refl

  -- and then no other is
  no-late : NoLate fits late ahead → try fits late ahead ≡ try_forward fits ahead
  no-late n = go late refl
    where
      go : (l : Option ℕ) → late ≡ l → try fits l ahead ≡ try_forward fits ahead
      go None e = refl
      go (Some c) e = simp (n c e)

  only : (o : Opening) → W o → try fits late ahead ≡ o
  only (Ok (Late c)) (e, f) = simp (e, f)
  only (Ok (Forward c)) (n, e, f) = no-late n ∙ simp (e, f)
  only (Err NoCandidate) (n, e) = no-late n ∙ simp e
  only (Err WrongCode) (c, n, e, f) = no-late n ∙ simp (e, f)

  pub answers : Answers fits late ahead
  answers o = ((λ e. subst W e when), only o)

-- under non-null integrity
module _ (k : ℕ) (fits : ℕ → Bool) (s : State) (o : ℕ) where
  -- what is tried is valid
  try-valid : (l : Option ℕ) → ((c : ℕ) → l ≡ Some c → Open s c) → Valid (act_of false (try fits l (forward_of k false s.at o))) s
  try-valid l open-there = go (try fits l (forward_of k false s.at o)) (when fits l (forward_of k false s.at o))
    where
      go : (a : Opening) → When fits l (forward_of k false s.at o) a → Valid (act_of false a) s
      go (Ok (Late c)) t = open-there c t.0
      go (Ok (Forward c)) t = let h = forward-reached k s.at o c t.1 in (h.1.from, h.0)
      go (Err NoCandidate) t = tt
      go (Err WrongCode) t = tt

  pub opening-valid : Valid (act_of false (opening k false fits s.size s.at o)) s
  unfolding opening
  opening-valid = try-valid (late_of k s.size s.at o) (λ c e. (late-found k s.size s.at o c e).0)

  pub forward-valid : Valid (act_of false (forward_only k false fits s.at o)) s
  unfolding forward_only
  forward-valid = try-valid None (λ c e. never e)

module _ (k : ℕ) (fits : ℕ → Bool) (s : State) (c : ℕ) (count : c < exhausted) (own : fits c ≡ true) where
  abbrev low : ℕ
  low = c % 2 ^ k

  reach : forward_of k false s.at low ≡ Some c ↔ Reach k s c
  reach = (
    (λ e. let h = forward-reached k s.at low c e in (h.1.from, h.1.reach)),
    λ h. forward-is k false s.at low c count record { from = h.0; reach = h.1; ends = sym (mod-mod c (2 ^ k)) },
  )

  -- no open COUNT that ends like c fits
  abbrev Free : Type 0
  Free = (c' : ℕ) → Open s c' → c' % 2 ^ k ≡ low → fits c' ≡ false

  pub opening-takes : s.size < 2 ^ k → Takes (opening k false fits s.size s.at low) c ↔ (Open s c ⊎ (Reach k s c × Free))
  unfolding opening
  opening-takes small =
      let l = late_of k s.size s.at low in
      let a = answers fits l (forward_of k false s.at low) in
      let found = late-found k s.size s.at low in
      let is : (c' : ℕ) → Open s c' → c' % 2 ^ k ≡ low → l ≡ Some c' = λ c' o q. late_is k s.size s.at low c' small o (q ∙ sym (mod-mod c (2 ^ k))) in (
        ⊎_elim
            (λ e. inl (found c ((a (Ok (Late c))).0 e).0).0)
            (λ e. let t = (a (Ok (Forward c))).0 e in inr (reach.0 t.1, λ c' o q. t.0 c' (is c' o q))),
        ⊎_elim
            (λ o. inl ((a (Ok (Late c))).1 (is c o refl, own)))
            (λ h. inr ((a (Ok (Forward c))).1 ((λ c' e. let t = found c' e in h.1 c' t.0 (t.1 ∙ mod-mod c (2 ^ k))), reach.1 h.0, own))),
      )

  pub forward-takes : (forward_only k false fits s.at low ≡ Ok (Forward c)) ↔ Reach k s c
  unfolding forward_only
  forward-takes =
      let a = answers fits None (forward_of k false s.at low) (Ok (Forward c)) in (
        (λ e. reach.0 (a.0 e).1),
        λ h. a.1 ((λ c' e. never e), reach.1 h, own),
      )

pub facts : FactsHold
facts s shut run fair =
    let t = after s run in
    let open-iff = open-late s shut run fair in
    record {
      once = none-twice s shut run fair;
      open-late = open-iff;
      taken = λ k fits c small count own.
          let u = opening-takes k fits t c count own small in (
            (λ x. ⊎_elim (λ o. inl ((open-iff c).0 o)) (λ h. inr (h.0, λ c' o. h.1 c' ((open-iff c').1 o))) (u.0 x)),
            λ x. u.1 (⊎_elim (λ o. inl ((open-iff c).1 o)) (λ h. inr (h.0, λ c' o. h.1 c' ((open-iff c').0 o))) x),
          );
      taken-forward = λ k fits c count own. forward-takes k fits t c count own;
    }
