-- Demand 2: containers and estimates.
use Rattle.std.specs.Prelude.{None, Some, Ok}
use Prim.Native.Nat.{ℕ, ◌+◌, ◌*◌, ◌/◌, ◌%◌, ◌≤◌, ◌<◌}
use mathlib.Core.Path.{◌≡◌, refl, sym, ap, ◌∙◌, subst}
use mathlib.Core.Bool.{Bool, true, false, cond, not, ◌||◌}
use mathlib.Core.Logic.{◌⊎◌, inl, inr}
use mathlib.Core.List.{List, [], ◌∷◌}
use native.Mathlib.Omega.{arith}
use native.Mathlib.Nat.{mod-mod}
use lib.ListN.{length, get_or, drop}
use lib.Seq.{get_or-set_same}
use lib.Dec.{ltb}
use borrow.Author.Tests.{eq-eqb, ltb-false, le-ltb, le-leb, lt-leb, not-false}
use Rattle.count.specs.declared.Taken.TheVariants.{Late, Forward}
use Rattle.count.specs.declared.Record.{Record}
use Rattle.count.specs.Rule.{exhausted, forward_of, late_of, opening, forward_only, use_forward, use_round}
use Rattle.count.specs.Facts.{Takes}
use Rattle.count.proofs.Candidates.{never, forward-is}
use Rattle.count.proofs.Openings.{answers}
use Rattle.refusals.proofs.Laws.{passed, off}
use Rattle.algorithms.specs.Codes.{is_built}
use Rattle.algorithms.proofs.Laws.{code-length, built-small}
use Rattle.nas_core.specs.declared.Core.{Core}
use Rattle.nas_core.specs.Keyed.{wraps, code_by}
use Rattle.nas_core.specs.Refusals.{limit, unbuilt}
use Rattle.nas_core.specs.Verify.{fits, verify_of, advanced}
use Rattle.nas_5gs.specs.declared.Context.{Context}
use Rattle.nas_5gs.specs.OpenAnswer as open'
use Rattle.nas_5gs.specs.EpsOpenAnswer as eps
use Rattle.nas_5gs.specs.Places.{direction_no, bearer_no, place_of, record_at, next_at, fault_of, used}
use Rattle.nas_5gs.specs.Leaves.{use_next, open_values, eps_open_values}
use Rattle.nas_5gs.specs.Eps.{eps_place, eps_bearer, eps_direction}
use Rattle.nas_5gs.specs.Containers.{container_place, container_bearer, container_direction, s1_count, s1_value, s1_to_n1, other_algorithms, verify_s1_to_n1_refusals, verify_s1_to_n1_refusal}
use Rattle.promises.specs.Calls.{open5gs, open_eps, make_n1_to_s1, verify_n1_to_s1, make_s1_to_n1, verify_s1_to_n1, Outcome, gives}
use Rattle.promises.specs.Words.{SameKeys, Ahead, Succeeds, Uses}
use Rattle.promises.specs.Demand2.{Containers, Twice, Estimates}
use Rattle.promise.proofs.Answers.{names}
use Rattle.promises.proofs.Shapes.{holding, found, plain, opened_as, eps_found, eps_as, octet_found}
use Rattle.promises.proofs.Soundness.{Four, next-there}
use Rattle.promises.proofs.Passing.{gives-passed, gives-refused, uses-passed}
use Rattle.promises.proofs.Opening.{Parts, parts, fits-behind, codes_same}
use Rattle.promises.proofs.Taking.{left, open-answering, eps-answering, open-left, eps-left}
use Rattle.promises.proofs.Faults.{faultless, fault-stays}
use Rattle.promises.proofs.Demand1.{opened-passed, s1-long}
use Rattle.promises.proofs.Demand2.{writes-by}

-- estimates
taken-fits : (w : Bool) (fit : ℕ → Bool) (size : ℕ) (r : Record) (s c : ℕ) → Takes (opening 8 w fit size r s) c
    → ((late_of 8 size r s ≡ Some c) ⊎ (forward_of 8 w r s ≡ Some c)) × (fit c ≡ true)
unfolding opening
taken-fits true fit size r s c (inl e) = never ((answers fit None (forward_of 8 true r s) (Ok (Late c))).0 e).0
taken-fits false fit size r s c (inl e) =
    let t = (answers fit (late_of 8 size r s) (forward_of 8 false r s) (Ok (Late c))).0 e in (inl t.0, t.1)
taken-fits true fit size r s c (inr e) = let t = (answers fit None (forward_of 8 true r s) (Ok (Forward c))).0 e in (inr t.1, t.2)
taken-fits false fit size r s c (inr e) =
    let t = (answers fit (late_of 8 size r s) (forward_of 8 false r s) (Ok (Forward c))).0 e in (inr t.1, t.2)

module _ (x : Context) where
  found-fits : (p b d q : ℕ) (m : List ℕ) (c : ℕ) → Takes (verify_of x.core (record_at x p) b d q m) c
      → ((late_of 8 x.core.size (record_at x p) (get_or m (q + 4) 0) ≡ Some c) ⊎ (forward_of 8 (wraps x.core) (record_at x p) (get_or m (q + 4) 0) ≡ Some c))
      × (fits x.core c b d q m ≡ true)
  unfolding verify_of
  found-fits p b d q m c h = taken-fits (wraps x.core) (λ c'. fits x.core c' b d q m) x.core.size (record_at x p) (get_or m (q + 4) 0) c h

  pub estimates : Estimates gives x
  estimates =
      record {
        opens = λ d k m out out2 c u.
            let b = bearer_no k in let e = direction_no d in let p = place_of d k in
            let q = open-left x d k m out out2 (uses-passed (open5gs d k m out out2) x u.0) in
            let a = open-answering x p b e m out in
            let u' : Uses (left open_values open'.Refused (opened_as x p b e m out) (plain x p b e m out) a x p out (found x p b e m out)) c =
            subst (λ (w : Outcome). Uses w c) q u in
            found-fits p b e 2 m c
            (names holding open_values open'.Refused (opened_as x p b e m out) (plain x p b e m out) a x p out (found x p b e m out) c u'.0 u'.1);
        opens-eps = λ m out c u.
            let q = eps-left x m out (uses-passed (open_eps m out) x u.0) in
            let a = eps-answering x m out in
            let u' : Uses (left eps_open_values eps.Refused (eps_as x m out) (λ c'. drop 6 m) a x eps_place out (eps_found x m out)) c =
            subst (λ (w : Outcome). Uses w c) q u in
            found-fits eps_place eps_bearer eps_direction 1 m c
            (names holding eps_open_values eps.Refused (eps_as x m out) (λ c'. drop 6 m) a x eps_place out (eps_found x m out) c u'.0 u'.1);
      }

-- S1-to-N1
pub both-built : (i c : ℕ) → unbuilt i c ≡ false → is_built i ≡ true
unfolding unbuilt
both-built i c e = go (is_built i) (is_built c) refl e
  where
    go : (a b : Bool) → is_built i ≡ a → not a || not b ≡ false → is_built i ≡ true
    go true b q h = q
    go false b q h = let z : ◌≡◌ {A = ℕ} 0 1 = cc in absurd (omega arith)

module _ (x : Core) (ncc ngksi : ℕ) where
  abbrev value : List ℕ
  value = s1_to_n1 x ncc ngksi

  s1-parts : Parts value (code_by x s1_count container_bearer container_direction (s1_value x ncc ngksi)) (x.ciphering * 16 + x.integrity) ((ncc * 16 + ngksi) ∷ 0 ∷ 0 ∷ [])
  unfolding s1_to_n1 code_by
  s1-parts =
      parts (code_by x s1_count container_bearer container_direction (s1_value x ncc ngksi)) (x.ciphering * 16 + x.integrity) ((ncc * 16 + ngksi) ∷ 0 ∷ 0 ∷ [])
      (code-length x.integrity x.integrity_key s1_count container_bearer container_direction (s1_value x ncc ngksi))

  s1-fits : fits x s1_count container_bearer container_direction 0 value ≡ true
  s1-fits = fits-behind x s1_count container_bearer container_direction (s1_value x ncc ngksi) 0 value s1-parts.code-there s1-parts.covered

  s1-algorithms : x.integrity ≤ 15 → other_algorithms x value ≡ false
  unfolding other_algorithms
  s1-algorithms h =
      let e = s1-parts.octet-there in
      let a : get_or value 4 0 / 16 ≡ x.ciphering = omega arith in
      let b : get_or value 4 0 % 16 ≡ x.integrity = omega arith in
      simp (eq-eqb (get_or value 4 0 / 16) x.ciphering a, eq-eqb (get_or value 4 0 % 16) x.integrity b)

s1-same : (x y : Core) (ncc ngksi : ℕ) → SameKeys y x → s1_to_n1 y ncc ngksi ≡ s1_to_n1 x ncc ngksi
unfolding s1_to_n1
s1-same x y ncc ngksi k = rw (codes_same x y s1_count container_bearer container_direction k, k.ciphering, k.integrity)

-- verified: what it must pass
pub verify-passes : (x : Context) (v : List ℕ) → fault_of x ≡ 0 → 8 ≤ length v → length v ≤ limit → other_algorithms x.core v ≡ false
    → next_at x container_place < exhausted → fits x.core s1_count container_bearer container_direction 0 v ≡ true → verify_s1_to_n1_refusal x v ≡ 0
unfolding verify_s1_to_n1_refusal
verify-passes x v fault from to same left fit =
    simp (fault, le-ltb (length v) 8 from, le-ltb limit (length v) to, same, lt-leb exhausted (next_at x container_place) left, fit)

pub verified : (x : Context) (v : List ℕ) → verify_s1_to_n1_refusal x v ≡ 0
    → Succeeds (gives (verify_s1_to_n1 v) x) × Uses (gives (verify_s1_to_n1 v) x) (next_at x container_place)
unfolding use_next
verified x v e = rw (gives-passed (verify_s1_to_n1 v) x e) (refl, (refl, refl))

octet-found : (x : Context) (c : ℕ) → c < exhausted → Ahead container_place x c → octet_found x (c % 256) ≡ Ok (Forward c)
unfolding forward_only
octet-found x c count h =
    let r = record_at x container_place in
    rw (forward-is 8 (wraps x.core) r (c % 256) c count record { from = h.0; reach = h.1; ends = sym (mod-mod c 256) })

octet-verified : (x : Context) (c : ℕ) → c < exhausted → fault_of x ≡ 0 → Ahead container_place x c
    → Succeeds (gives (verify_n1_to_s1 (c % 256)) x) × Uses (gives (verify_n1_to_s1 (c % 256)) x) c
octet-verified x c count fault h =
    rw (gives-passed (verify_n1_to_s1 (c % 256)) x fault, octet-found x c count h) (refl, (refl, refl))

octet-made : (z : Context) → Succeeds (gives make_n1_to_s1 z)
    → let v = (gives make_n1_to_s1 z).values in (v.octet ≡ v.count % 256) × (v.count < exhausted)
octet-made z h =
    let e = opened-passed make_n1_to_s1 z (inl h) in
    rw (gives-passed make_n1_to_s1 z e) (refl, next-there make_n1_to_s1 z e)

pub containers : (z x : Context) → SameKeys z.core x.core → Containers z x
containers z x keys =
    record {
      s1_to_n1 = λ ncc ngksi out h fault left.
          let w = (writes-by (make_s1_to_n1 ncc ngksi out) z container_place (λ c. s1_to_n1 z.core ncc ngksi) out refl h).1 in
          let f = faultless x fault in
          let long = s1-long x ncc ngksi in
          let pass = verify-passes x (s1_to_n1 x.core ncc ngksi) fault (omega arith) (omega arith)
          (s1-algorithms x.core ncc ngksi (built-small x.core.integrity (both-built x.core.integrity x.core.ciphering f.built))) left
          (s1-fits x.core ncc ngksi) in
          subst
          (λ (v : List ℕ). let o = gives (verify_s1_to_n1 v) x in Succeeds o × Uses o (next_at x container_place))
          (sym (w ∙ s1-same x.core z.core ncc ngksi keys))
          (verified x (s1_to_n1 x.core ncc ngksi) pass);
      n1_to_s1 = λ h fault a.
          let m = octet-made z h in
          let c = (gives make_n1_to_s1 z).values.count in
          subst (λ (n : ℕ). let o = gives (verify_n1_to_s1 n) x in Succeeds o × Uses o c) (sym m.0) (octet-verified x c m.1 fault a);
    }

-- a COUNT used, seen in the record
module _ (x : Context) (p c : ℕ) (there : p < length x.records) where
  next-used : next_at (used x p c) p ≡ cond (wraps x.core) ((c + 1) % exhausted) (c + 1)
  unfolding used advanced use_round use_forward
  next-used =
      ap (λ (r : Record). r.next) (get_or-set_same x.records p (advanced x.core (record_at x p) c) (record { next = 0; bits = 0 }) there) ∙ go (wraps x.core)
    where
      go : (w : Bool) → (cond w (use_round (record_at x p) c) (use_forward x.core.size (record_at x p) c)).next ≡ cond w ((c + 1) % exhausted) (c + 1)
      go true = refl
      go false = refl

  core-used : (used x p c).core ≡ x.core
  unfolding used
  core-used = refl

module _ (x : Context) (v : List ℕ) (four : Four x) (h : Succeeds (gives (verify_s1_to_n1 v) x)) where
  abbrev c : ℕ
  c = next_at x container_place

  abbrev y : Context
  y = (gives (verify_s1_to_n1 v) x).context

  before : verify_s1_to_n1_refusal x v ≡ 0
  before = opened-passed (verify_s1_to_n1 v) x (inl h)

  y-is : y ≡ used x container_place c
  unfolding use_next
  y-is = ap (λ (o : Outcome). o.context) (gives-passed (verify_s1_to_n1 v) x before)

  y-core : y.core ≡ x.core
  y-core = ap (λ (z : Context). z.core) y-is ∙ core-used x container_place c (omega arith)

  y-next : next_at y container_place ≡ cond (wraps x.core) ((c + 1) % exhausted) (c + 1)
  y-next = ap (λ (z : Context). next_at z container_place) y-is ∙ next-used x container_place c (omega arith)

  was : (i : ℕ) → get_or (verify_s1_to_n1_refusals x v) i 0 ≡ 0
  unfolding verify_s1_to_n1_refusal
  was = passed (verify_s1_to_n1_refusals x v) before

  y-fault : fault_of y ≡ 0
  y-fault = fault-stays (verify_s1_to_n1 v) x four (was 0)

  long : 8 ≤ length v
  long = ltb-false (length v) 8 (off 1 (ltb (length v) 8) (omega arith) (was 1))

  short : length v ≤ limit
  short = ltb-false limit (length v) (off 4 (ltb limit (length v)) (omega arith) (was 2))

  same : other_algorithms y.core v ≡ false
  same = rw y-core (off 15 (other_algorithms x.core v) (omega arith) (was 3))

  fit : fits y.core s1_count container_bearer container_direction 0 v ≡ true
  fit =
      rw y-core (not-false (fits x.core s1_count container_bearer container_direction 0 v)
      (off 7 (not (fits x.core s1_count container_bearer container_direction 0 v)) (omega arith) (was 5)))

  again : (n : ℕ) → next_at y container_place ≡ n → n < exhausted → Succeeds (gives (verify_s1_to_n1 v) y) × Uses (gives (verify_s1_to_n1 v) y) n
  again n e left =
      subst (λ (k : ℕ). Succeeds (gives (verify_s1_to_n1 v) y) × Uses (gives (verify_s1_to_n1 v) y) k) e
      (verified y v (verify-passes y v y-fault long short same (omega arith) fit))

  six : exhausted ≤ next_at y container_place → (gives (verify_s1_to_n1 v) y).values.number ≡ 6
  unfolding verify_s1_to_n1_refusal
  six over =
      let e : verify_s1_to_n1_refusal y v ≡ 6 =
      simp (y-fault, le-ltb (length v) 8 long, le-ltb limit (length v) short, same, le-leb exhausted (next_at y container_place) over) in
      rw (gives-refused (verify_s1_to_n1 v) y (λ z. omega arith)) e

  round-next : (w : Bool) → wraps x.core ≡ w → next_at y container_place ≡ cond w ((c + 1) % exhausted) (c + 1)
  round-next w e = y-next ∙ ap (λ (b : Bool). cond b ((c + 1) % exhausted) (c + 1)) e

  twice_passes : c + 1 < exhausted → Succeeds (gives (verify_s1_to_n1 v) y) × Uses (gives (verify_s1_to_n1 v) y) (c + 1)
  twice_passes left = go (wraps x.core) refl
    where
      go : (w : Bool) → wraps x.core ≡ w → Succeeds (gives (verify_s1_to_n1 v) y) × Uses (gives (verify_s1_to_n1 v) y) (c + 1)
      go true e = let n = round-next true e in again (c + 1) (omega arith) left
      go false e = again (c + 1) (round-next false e) left

pub twice : (x : Context) (v : List ℕ) → Twice x v
twice x v =
    record {
      first_passes = λ h four left. let t = twice_passes x v four h left in ((verified x v (before x v four h)).1, t.0, t.1);
      took-last = λ h four last. (
        (verified x v (before x v four h)).1,
        (λ e. let n = round-next x v four h false e in six x v four h (omega arith)),
        λ e. let n = round-next x v four h true e in again x v four h 0 (omega arith) (omega arith),
      );
    }
