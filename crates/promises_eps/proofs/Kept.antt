-- What the contexts keep is their keys' own.
use Prim.Native.Nat.{ℕ}
use mathlib.Core.Path.{◌≡◌, sym, ap, ◌∙◌, subst}
use mathlib.Core.Bool.{Bool, true, false, cond}
use mathlib.Core.Logic.{⊎_elim}
use mathlib.Core.List.{List, [], ◌∷◌}
use lib.Dec.{eqb}
use lib.ListN.{length, replicate}
use Rattle.aes.specs.Keys.{Kept, nia2_by, nea2_by}
use Rattle.snow3g.specs.Uea2.{nea1_of}
use Rattle.snow3g.specs.Uia2.{nia1_of}
use Rattle.zuc.specs.Ciphering.{nea3_of}
use Rattle.zuc.specs.Integrity.{nia3_of}
use Rattle.aes.proofs.Laws.{made_kept, nia2-standard, nea2-standard}
use Rattle.algorithms.specs.Codes.{keyed, code_of, cipher_of}
use Rattle.algorithms.proofs.Laws.{by_args}
use Rattle.nas_core.specs.declared.Core.{Core}
use Rattle.nas_core.specs.Keyed.{code_by, payload}
use Rattle.nas_core.specs.Refusals.{unbuilt, any_over}
use Rattle.refusals.specs.Order.{◌when◌, first, refused_or}
use Rattle.nas_eps.specs.declared.Context.{Context}
use Rattle.nas_core.specs.ChangeAnswer as change
use Rattle.nas_eps.specs.Leaves.{leaves, change_values}
use Rattle.nas_eps.specs.Changes.{context_with, refused_context, new_of, restore_of}
use Rattle.promises_eps.specs.Calls.{Making, create, restore, makes, Call, gives, outcome}
use Rattle.promises_eps.specs.Kept.{KeptIn, Always}
use Rattle.promises_eps.proofs.Shapes.{acts}

-- refused or not
either : (n : ℕ) (f : ℕ → Context) (y : Context) → ((k : ℕ) → KeptIn (f k)) → KeptIn y
    → KeptIn (outcome change_values (refused_or n (λ k. leaves (change.Refused k) (f k) []) (leaves change.Done y []))).context
either n f y r d = go (eqb n 0)
  where
    go : (t : Bool) → KeptIn (outcome change_values (cond t (leaves change.Done y []) (leaves (change.Refused n) (f n) []))).context
    go true = d
    go false = r n

with : (i c : ℕ) (ik ck : List ℕ) (up down : ℕ) → KeptIn (context_with i c ik ck up down)
with i c ik ck up down = record { integrity = made_kept ik; ciphering = made_kept ck }

none : KeptIn refused_context
none = with 255 255 (replicate 16 0) (replicate 16 0) 0 0

made : (m : Making) → KeptIn (makes m).context
unfolding new_of restore_of
made (create i c ik ck) =
    either (first (13 when unbuilt i c ∷ [])) (λ k. refused_context) (context_with i c ik ck 0 0)
    (λ k. none) (with i c ik ck 0 0)
made (restore i c ik ck up down) =
    either (first (13 when unbuilt i c ∷ 16 when any_over (up ∷ down ∷ []) ∷ [])) (λ k. refused_context) (context_with i c ik ck up down)
    (λ k. none) (with i c ik ck up down)

after : (k : Call) (x : Context) → length x.records ≡ 2 → KeptIn x → KeptIn (gives k x).context
after k x two h =
    ⊎_elim
    (λ s. record { integrity = rw (← s.integrity-key) h.integrity; ciphering = rw (← s.ciphering-key) h.ciphering })
    (λ r.
    record {
      integrity = subst Kept (sym (ap (λ (y : Core). y.integrity_key) r.core-after)) (made_kept r.integrity_key);
      ciphering = subst Kept (sym (ap (λ (y : Core). y.ciphering_key) r.core-after)) (made_kept r.ciphering_key);
    })
    (acts k x two).keys-after

pub always : Always
unfolding code_by payload code_of cipher_of
always =
    record {
      made = made;
      after = after;
      codes = λ x h c b d m.
          let k = x.core.integrity_key in
          by_args x.core.integrity _ (keyed nia1_of) nia2_by (keyed nia3_of) k c b d m ∙ rw (nia2-standard k c b d m h.integrity);
      payloads = λ x h t c b d m.
          let k = x.core.ciphering_key in
          rw (by_args x.core.ciphering (λ key c b d m. m) (keyed nea1_of) nea2_by (keyed nea3_of) k c b d m, nea2-standard k c b d m h.ciphering);
    }
