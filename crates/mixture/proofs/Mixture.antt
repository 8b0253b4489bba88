-- A mixture of both kinds is a run of the calls by value.
use Prim.Native.Nat.{ℕ}
use mathlib.Core.Path.{◌≡◌, refl, sym, ap, ◌∙◌, subst}
use mathlib.Core.List.{List, [], ◌∷◌, map}
use Rattle.count.specs.Run.{NoneTwice}
use Rattle.nas_5gs.specs.declared.Context.{Context}
use Rattle.nas_5gs.specs.Places.{place_of, record_at}
use Rattle.promises.specs.Calls.{Call, Outcome, gives, second, lent, lent_second, context_after, counts_used}
use Rattle.promises.proofs.Promises.{promises}
use Rattle.mixture.specs.Mixture.{InPlace, window_in, seal_in, open_in, changes, changes_second, handing, AnyCall, by_value, in_place, leaves_by, leaves_second, call_of, kept_after, used_in, Mixture}

same : (l : InPlace) (x : Context) → (changes l x ≡ gives (handing l) x) × (changes_second l x ≡ second (handing l) x)
same (window_in n) x = (refl, refl)
same (seal_in t d k inner out) x = (refl, refl)
same (open_in d k m out out2) x = (refl, refl)

either : (s : AnyCall) (x : Context) → leaves_by s x ≡ gives (call_of s) x
either (by_value k) x = refl
either (in_place l) x = (same l x).0

either_second : (s : AnyCall) (x : Context) → leaves_second s x ≡ second (call_of s) x
either_second (by_value k) x = refl
either_second (in_place l) x = (same l x).1

context : (x : Context) (ss : List AnyCall) → kept_after x ss ≡ context_after gives x (map call_of ss)
context x [] = refl
context x (s ∷ ss) = ap (λ (o : Outcome). o.context) (either s (kept_after x ss)) ∙ ap (λ y. (gives (call_of s) y).context) (context x ss)

next : (x : Context) (ss : List AnyCall) (s : AnyCall) → leaves_by s (kept_after x ss) ≡ gives (call_of s) (context_after gives x (map call_of ss))
next x ss s = either s (kept_after x ss) ∙ ap (gives (call_of s)) (context x ss)

counts : (x : Context) (ss : List AnyCall) (p : ℕ) → used_in p x ss ≡ counts_used gives p x (map call_of ss)
counts x [] p = refl
counts x (s ∷ ss) p = rw (next x ss s, counts x ss p) refl

-- demand 1, of a call that refuses and whose number is not 8
refused : (k : Call) (x : Context)
    → let o = gives k x in
    (o.values.number ≡ 0 → ⊥) → (o.values.number ≡ 8 → ⊥) → (o.context ≡ x) × (o.output ≡ lent k) × (second k x ≡ lent_second k)
refused k x a b =
    let d = promises.demand1 k x in
    ((d.kept a b).1, (d.kept a b).2, (d.untouched a).1)

kept : (l : InPlace) (x : Context)
    → let o = changes l x in
    (o.values.number ≡ 0 → ⊥) → (o.values.number ≡ 8 → ⊥)
    → (o.context ≡ x) × (o.output ≡ lent (handing l)) × (changes_second l x ≡ lent_second (handing l))
kept (window_in n) x = refused (handing (window_in n)) x
kept (seal_in t d k inner out) x = refused (handing (seal_in t d k inner out)) x
kept (open_in d k m out out2) x = refused (handing (open_in d k m out out2)) x

pub mixture : Mixture
mixture =
    record {
      same = same;
      kept = kept;
      mixed = λ x ss.
          record {
            context = context x ss;
            counts = counts x ss;
            next = next x ss;
            next-second = λ s. either_second s (kept_after x ss) ∙ ap (second (call_of s)) (context x ss);
          };
      demand3 = λ x b ss h.
          let d = promises.demand3 x b (map call_of ss) h in
          (λ w k. subst NoneTwice (sym (counts x ss (place_of w k))) (d.once w k), d);
      isolation = λ x four p h ss e.
          let i = promises.isolation x four p h (map call_of ss) e in
          (ap (λ y. record_at y p) (context x ss) ∙ i.left, i);
    }
