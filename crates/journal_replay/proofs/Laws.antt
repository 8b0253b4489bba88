-- A line whose record is read again is performed as it was.
use mathlib.Core.Path.{◌≡◌, refl, ap, sym, ◌∙◌}
use mathlib.Core.List.{List, [], ◌∷◌, ◌++◌, append-nil}
use Prim.Native.Nat.{ℕ, ◌+◌, ◌/◌, ◌%◌, ◌≤◌, ◌<◌, min}
use native.Mathlib.Omega.{arith}
use lib.Dec.{eqb}
use lib.ListN.{length}
use Rattle.std.specs.Prelude.{Option, Some, None, IsSome}
use Rattle.nas_5gs.specs.declared.Context.{Context}
use Rattle.nas_5gs.specs.Leaves.{LeavesTwo}
use Rattle.hex_parse.specs.Lines.{Line}
use Rattle.hex_parse.specs.declared.Call.{Call}
use Rattle.hex_parse.specs.declared.Call.TheVariants as hex
use Rattle.hex_perform.specs.declared.Answer.{Answer}
use Rattle.hex_perform.specs.Perform.{direction_of, connection_of, call_of, perform_of}
use Rattle.journal.specs.Items.{Item}
use Rattle.journal.specs.Laws.{calls}
use Rattle.journal.proofs.Known.{by}
use Rattle.journal.proofs.Laws as journal-laws
use Rattle.journal_calls.specs.declared.Call.{Call as Entry}
use Rattle.journal_calls.specs.Fields.{key_at, counts_in, counts_of}
use Rattle.journal_calls.specs.Calls.{kind_of, front_of, rest_of}
use Rattle.journal_calls.specs.declared.Call.TheVariants as journal
use Rattle.journal_calls.specs.Laws.{Places, State}
use Rattle.journal_calls.proofs.Laws as call-laws
use Rattle.journal_lines.specs.Lines.{place_of, access_of, entry_of, rest_in, entry_in, bytes_of, line_for, line_of}
use Rattle.journal_replay.specs.Replay.{lent, performed, given, answered, lines_in, replayed}
use Rattle.journal_replay.specs.Laws.{room_in, second_in, Held, AllHeld, records_of, Replays}

-- a place and a connection are read back
place-low : (d k : ℕ) → place_of d k < 4
unfolding place_of
place-low d k = by (eqb k 1) (λ e. by (eqb d 0) (λ f. simp (e, f) (omega arith)) (λ f. simp (e, f) (omega arith))) (λ e. by (eqb d 0) (λ f. simp (e, f) (omega arith)) (λ f. simp (e, f) (omega arith)))

direction : (d k : ℕ) → direction_of (place_of d k % 2) ≡ direction_of d
unfolding place_of direction_of
direction d k = by (eqb k 1) (λ e. by (eqb d 0) (λ f. simp (e, f)) (λ f. simp (e, f))) (λ e. by (eqb d 0) (λ f. simp (e, f)) (λ f. simp (e, f)))

connection : (d k : ℕ) → connection_of (place_of d k / 2 + 1) ≡ connection_of k
unfolding place_of connection_of
connection d k = by (eqb k 1) (λ e. by (eqb d 0) (λ f. simp (e, f)) (λ f. simp (e, f))) (λ e. by (eqb d 0) (λ f. simp (e, f)) (λ f. simp (e, f)))

access-low : (k : ℕ) → access_of k < 2
unfolding access_of
access-low k = by (eqb k 1) (λ e. simp e (omega arith)) (λ e. simp e (omega arith))

access : (k : ℕ) → connection_of (access_of k % 2 + 1) ≡ connection_of k
unfolding access_of connection_of
access k = by (eqb k 1) (λ e. simp e) (λ e. simp e)

places : (c : Call) (n m : ℕ) → Places (entry_of c n m)
places hex.Bad n m = tt
places (hex.New i c) n m = tt
places (hex.Restore i c) n m = tt
places (hex.Reselect i c) n m = tt
places (hex.Window w) n m = tt
places (hex.Seal t d k) n m = place-low d k
places (hex.Opaque t d k) n m = place-low d k
places (hex.Initial k) n m = access-low k
places (hex.Open d k) n m = place-low d k
places hex.EpsSeal n m = tt
places hex.EpsOpen n m = tt
places hex.N1ToS1 n m = tt
places (hex.VerifyN1ToS1 o) n m = tt
places (hex.S1ToN1 p k) n m = tt
places hex.VerifyS1ToN1 n m = tt
places (hex.Raw i c w) n m = tt
places hex.Show n m = tt
places (hex.Across d k) n m = tt
places (hex.WindowIn w) n m = tt
places (hex.SealIn t d k) n m = tt
places (hex.OpenIn d k) n m = tt

-- keys and next COUNTs
module _ (l : Line) (h : Held l) where
  four-of : (next : List ℕ) → length next ≡ 4 → counts_in (l.integrity_key ++ (l.ciphering_key ++ counts_of next)) ≡ next
  four-of (a ∷ b ∷ c ∷ d ∷ []) e = ((call-laws.laws).state l.integrity_key l.ciphering_key a b c d h.integrity h.ciphering).counts
  four-of [] e = absurd (omega arith)
  four-of (a ∷ []) e = absurd (omega arith)
  four-of (a ∷ b ∷ []) e = absurd (omega arith)
  four-of (a ∷ b ∷ c ∷ []) e = absurd (omega arith)
  four-of (a ∷ b ∷ c ∷ d ∷ x ∷ n) e = absurd (omega arith)

  state : State l.integrity_key l.ciphering_key (0 ∷ 0 ∷ 0 ∷ 0 ∷ [])
  state = (call-laws.laws).state l.integrity_key l.ciphering_key 0 0 0 0 h.integrity h.ciphering

  integrity-alone : key_at (l.integrity_key ++ l.ciphering_key) 0 ≡ l.integrity_key
  integrity-alone = ap (λ (t : List ℕ). key_at (l.integrity_key ++ t) 0) (sym (append-nil l.ciphering_key)) ∙ state.integrity []

  ciphering-alone : key_at (l.integrity_key ++ l.ciphering_key) 16 ≡ l.ciphering_key
  ciphering-alone = ap (λ (t : List ℕ). key_at (l.integrity_key ++ t) 16) (sym (append-nil l.ciphering_key)) ∙ state.ciphering []

  -- each call as its record's line has it
  same : (c : Call) (n m : ℕ) (o : List ℕ) (x : Context) (out second : List ℕ) → 1 ≤ kind_of (entry_of c n m)
      → perform_of (line_for (entry_of c n m) (rest_in (entry_of c n m) l o)) x (rest_in (entry_of c n m) l o) out second ≡ call_of c l x o out second
  unfolding perform_of call_of
  same hex.Bad n m o x out second p = absurd (omega arith)
  same (hex.New i c) n m o x out second p = simp (integrity-alone, ciphering-alone)
  same (hex.Restore i c) n m o x out second p =
      simp (state.integrity (counts_of l.next), state.ciphering (counts_of l.next), four-of l.next h.counts)
  same (hex.Reselect i c) n m o x out second p = simp (integrity-alone, ciphering-alone)
  same (hex.Window w) n m o x out second p = refl
  same (hex.Seal t d k) n m o x out second p = simp (direction d k, connection d k)
  same (hex.Opaque t d k) n m o x out second p = simp (direction d k, connection d k)
  same (hex.Initial k) n m o x out second p = simp (access k)
  same (hex.Open d k) n m o x out second p = simp (direction d k, connection d k)
  same hex.EpsSeal n m o x out second p = refl
  same hex.EpsOpen n m o x out second p = refl
  same hex.N1ToS1 n m o x out second p = refl
  same (hex.VerifyN1ToS1 v) n m o x out second p = refl
  same (hex.S1ToN1 a b) n m o x out second p = refl
  same hex.VerifyS1ToN1 n m o x out second p = refl
  same (hex.Raw i c w) n m o x out second p = absurd (omega arith)
  same hex.Show n m o x out second p = absurd (omega arith)
  same (hex.Across d k) n m o x out second p = absurd (omega arith)
  same (hex.WindowIn w) n m o x out second p = absurd (omega arith)
  same (hex.SealIn t d k) n m o x out second p = absurd (omega arith)
  same (hex.OpenIn d k) n m o x out second p = absurd (omega arith)

-- its rooms
rooms : (e : Entry) (r : List ℕ) → ((line_for e r).room ≡ room_in e) × ((line_for e r).second ≡ second_in e)
rooms journal.Unknown r = (refl, refl)
rooms (journal.New i c) r = (refl, refl)
rooms (journal.Restore i c) r = (refl, refl)
rooms (journal.Reselect i c) r = (refl, refl)
rooms (journal.Window w) r = (refl, refl)
rooms (journal.Seal t p n) r = (refl, refl)
rooms (journal.Opaque t p n) r = (refl, refl)
rooms (journal.Open p n m) r = (refl, refl)
rooms (journal.EpsSeal n) r = (refl, refl)
rooms (journal.EpsOpen n) r = (refl, refl)
rooms journal.N1ToS1 r = (refl, refl)
rooms (journal.VerifyN1ToS1 o) r = (refl, refl)
rooms (journal.S1ToN1 p k n) r = (refl, refl)
rooms journal.VerifyS1ToN1 r = (refl, refl)
rooms (journal.Initial k n) r = (refl, refl)

-- what an Option that has a value is
some-of : (o : Option ℕ) → IsSome o → (n : ℕ) × (o ≡ Some n)
some-of (Some n) h = (n, refl)
some-of None h = absurd (let z : ◌≡◌ {A = ℕ} 0 1 = cc in omega arith)

-- a line's record, read and performed
one : (l : Line) (o : List ℕ) (x : Context) → Held l
    → performed (line_of (kind_of (entry_in l)) (bytes_of l o)) (rest_of (kind_of (entry_in l)) (bytes_of l o)) x ≡ performed l o x
unfolding performed perform_of line_of bytes_of entry_in
one l o x h =
    let n = min l.room 65535 in
    let m = min l.second 65535 in
    let e = entry_of l.call n m in
    let r = rest_in e l o in
    let b = call-laws.back e r (places l.call n m) in
    let room : (line_for e r).room ≡ l.room = (rooms e r).0 ∙ sym h.room in
    let second : (line_for e r).second ≡ l.second = (rooms e r).1 ∙ sym h.second in
    ap (λ (y : Entry). performed (line_for y (rest_of (kind_of e) (front_of e ++ r))) (rest_of (kind_of e) (front_of e ++ r)) x) b.call
    ∙ ap (λ (t : List ℕ). performed (line_for e t) t x) b.rest'
    ∙ ap (λ (k : ℕ). perform_of (line_for e r) x r (lent k) (lent (line_for e r).second)) room
    ∙ ap (λ (k : ℕ). perform_of (line_for e r) x r (lent l.room) (lent k)) second
    ∙ same l h l.call n m o x (lent l.room) (lent l.second) h.called
    ∙ simp (some-of l.octets h.whole).1

all : (ls : List (Line × List ℕ)) (x : Context) → AllHeld ls → answered (lines_in (calls (records_of ls))) x ≡ answered ls x
unfolding answered
all [] x h = refl
all (l ∷ ls) x h =
    ap (λ (a : LeavesTwo Answer). a ∷ answered (lines_in (calls (records_of ls))) (given a)) (one l.0 l.1 x h.0)
    ∙ ap (λ (as' : List (LeavesTwo Answer)). performed l.0 l.1 x ∷ as') (all ls (given (performed l.0 l.1 x)) h.1)

pub replays : Replays
unfolding replayed
replays ls x h w =
    ap (λ (is : List Item). answered (lines_in is) x) ((journal-laws.laws).written (records_of ls) w).alone ∙ all ls x h
