-- What a context holds stays within its limits.
use Rattle.std.specs.Prelude.{Option, Ok, Err}
use Prim.Native.Nat.{ℕ, ◌≤◌, ◌<◌}
use mathlib.Core.Path.{◌≡◌, refl, sym, ap, ◌∙◌, subst}
use mathlib.Core.Bool.{Bool, true, false, cond}
use native.Mathlib.Omega.{arith}
use lib.ListN.{length}
use lib.Dec.{eqb}
use Rattle.count.specs.Rule.{Opening, exhausted, forward_of, try, use_forward, use_round, use_late, resize_of, close_of}
use Rattle.count.specs.declared.Taken.TheVariants.{Late, Forward}
use Rattle.count.specs.declared.Missed.TheVariants.{NoCandidate, WrongCode}
use Rattle.count.specs.declared.Record.{Record}
use Rattle.count.specs.Run.{State, Act, stay, uses, resize, close, forward, late, round, act, act_of}
use Rattle.count.specs.Facts.{When}
use Rattle.count.specs.Machine.{seen, view}
use Rattle.count.proofs.Candidates.{forward-found}
use Rattle.count.proofs.Openings.{answers}
use Rattle.count.proofs.Lifting.{view-gives, length-after}
use Rattle.promise.specs.Limits.{Bounded, LimitsKept}

-- what calls do
pub next-bounded : (w : Bool) (c : ℕ) → c < exhausted → Bounded (act_of w (Ok (Forward c)))
next-bounded true c h = tt
next-bounded false c h = h

pub tried-bounded : (k : ℕ) (w : Bool) (fits : ℕ → Bool) (l : Option ℕ) (r : Record) (s : ℕ) → Bounded (act_of w (try fits l (forward_of k w r s)))
tried-bounded k w fits l r s = go (try fits l (forward_of k w r s)) ((answers fits l (forward_of k w r s) (try fits l (forward_of k w r s))).0 refl)
  where
    go : (o : Opening) → When fits l (forward_of k w r s) o → Bounded (act_of w o)
    go (Ok (Late c)) t = tt
    go (Ok (Forward c)) t = next-bounded w c (forward-found k w r s c t.1).0
    go (Err NoCandidate) t = tt
    go (Err WrongCode) t = tt

seen-bounded : (p q : ℕ) (a : Act) → Bounded a → Bounded (seen p q a)
seen-bounded p q stay h = tt
seen-bounded p q (uses w c) h = go (eqb p q)
  where
    go : (t : Bool) → Bounded (cond t (uses w c) stay)
    go true = h
    go false = tt
seen-bounded p q (resize n) h = h
seen-bounded p q close h = tt

next_under : (a : Act) (s : State) → Bounded a → s.at.next ≤ exhausted → (act a s).at.next ≤ exhausted
unfolding use_forward use_round use_late resize_of close_of
next_under stay s v h = h
next_under (uses forward c) s v h = omega arith
next_under (uses late c) s v h = h
next_under (uses round c) s v h = omega arith
next_under (resize n) s v h = h
next_under close s v h = h

size-under : (a : Act) (s : State) → Bounded a → s.size ≤ 64 → (act a s).size ≤ 64
size-under stay s v h = h
size-under (uses w c) s v h = h
size-under (resize n) s v h = v
size-under close s v h = h

pub limits : LimitsKept
limits X C T Shape acting k x shape bounded within =
    record {
      small =
          subst (λ (n : ℕ). n ≤ 64) (sym (acting.size-after k x shape))
          (size-under (T.does k x) (view T (T.place k x) x) bounded within.small);
      counts = λ p h.
          let e : length (T.records (T.gives k x)) ≡ length (T.records x) =
          ap length (acting.records-after k x shape) ∙ length-after p (T.place k x) (T.size x) (T.records x) (T.does k x) in
          let there = subst (λ (n : ℕ). p < n) e h in
          subst (λ (s : State). s.at.next ≤ exhausted) (sym (view-gives T Shape acting k x shape p there))
          (next_under (seen p (T.place k x) (T.does k x)) (view T p x) (seen-bounded p (T.place k x) (T.does k x) bounded) (within.counts p there));
    }
