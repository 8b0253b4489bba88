-- What holds of reading and writing: stated here, proved in proofs/Laws.antt.
use Rattle.std.specs.Prelude.{ℕ, ◌+◌, ◌≤◌, ◌<◌, ◌≡◌, Bool, true, false, not, ◌&&◌, ◌||◌, List, [], ◌∷◌, ◌++◌, leb, ltb, eqb, length, take, drop}
use Rattle.journal.specs.declared.Step.TheVariants.{Call, Pass, More, End}
use Rattle.journal.specs.Records.{is_allowed, most, head, size_at, well_formed, record_of}
use Rattle.journal.specs.Items.{Item, call, skipped, call_at, items}
use Rattle.journal.specs.Window.{step_of, read_from, joined}

-- a record stands there, or the input ends there
unfoldable pub stops : List ℕ → Bool
stops l = well_formed l || eqb (length l) 0

-- the search from the octet after the first: the least such position
pub record Next (l : List ℕ) (n : ℕ) : Type 0 where
  pub some : 1 ≤ n
  pub found : stops (drop n l) ≡ true
  pub least : (m : ℕ) → 1 ≤ m → m < n → stops (drop m l) ≡ false

-- item 10's sentence, of any function that a reader might be
pub record Reads (f : List ℕ → List Item) : Type 0 where
  pub at-end : f [] ≡ []
  pub at-record : (l : List ℕ) → well_formed l ≡ true → f l ≡ call_at l ∷ f (drop (head + size_at l) l)
  pub at-damage : (l : List ℕ) (n : ℕ) → stops l ≡ false → Next l n → f l ≡ skipped n ∷ f (drop n l)

pub record Sentence : Type 0 where
  pub reads : Reads items
  -- the search ends
  pub next : (l : List ℕ) → 1 ≤ length l → (n : ℕ) × Next l n
  -- no second function fits
  pub only : (f : List ℕ → List Item) → Reads f → (l : List ℕ) → f l ≡ items l

-- the octets that are skipped, and those of the records whose calls are done
abbrev pub skipped_in : List Item → ℕ
skipped_in [] = 0
skipped_in (call kind bytes ∷ is) = skipped_in is
skipped_in (skipped n ∷ is) = n + skipped_in is

abbrev pub done_in : List Item → ℕ
done_in [] = 0
done_in (call kind bytes ∷ is) = head + length bytes + done_in is
done_in (skipped n ∷ is) = done_in is

-- no stretch is empty, and no two touch
abbrev pub is_stretch : List Item → Bool
is_stretch [] = false
is_stretch (call kind bytes ∷ is) = false
is_stretch (skipped n ∷ is) = true

abbrev pub are_apart : List Item → Bool
are_apart [] = true
are_apart (call kind bytes ∷ is) = are_apart is
are_apart (skipped n ∷ is) = ltb 0 n && not (is_stretch is) && are_apart is

pub record Counted (l : List ℕ) : Type 0 where
  pub all : skipped_in (items l) + done_in (items l) ≡ length l
  pub apart : are_apart (items l) ≡ true

-- calls, each a kind and its bytes: that a writer takes them, their records, and what these read as
abbrev pub are_written : List (ℕ × List ℕ) → Bool
are_written [] = true
are_written (c ∷ cs) = is_allowed c.0 (length c.1) && leb (length c.1) most && are_written cs

abbrev pub records : List (ℕ × List ℕ) → List ℕ
records [] = []
records (c ∷ cs) = record_of c.0 c.1 ++ records cs

abbrev pub calls : List (ℕ × List ℕ) → List Item
calls [] = []
calls (c ∷ cs) = call c.0 c.1 ∷ calls cs

-- 53 nowhere follows 4E
abbrev pub markless : List ℕ → Bool
markless [] = true
markless (a ∷ []) = true
markless (a ∷ b ∷ l) = not (eqb a 0x4E && eqb b 0x53) && markless (b ∷ l)

pub record Back (cs : List (ℕ × List ℕ)) : Type 0 where
  -- what was written reads as the same calls, whatever follows
  pub back : (l : List ℕ) → items (records cs ++ l) ≡ calls cs ++ items l
  pub alone : items (records cs) ≡ calls cs
  -- damage d in which no position is a record's costs exactly d
  pub between : (d l : List ℕ) → 1 ≤ length d → ((i : ℕ) → i < length d → well_formed (drop i (d ++ l)) ≡ false) → stops l ≡ true
      → items (records cs ++ (d ++ l)) ≡ calls cs ++ (skipped (length d) ∷ items l)
  pub unmarked : (d : List ℕ) (es : List (ℕ × List ℕ)) → 1 ≤ length d → markless d ≡ true → are_written es ≡ true
      → items (records cs ++ (d ++ records es)) ≡ calls cs ++ (skipped (length d) ∷ calls es)

-- what may follow a window: nothing at the end
abbrev pub Follows : Bool → List ℕ → Type 0
Follows true l = l ≡ []
Follows false l = Unit {0}

pub record Decides (w : List ℕ) (is_end : Bool) : Type 0 where
  -- the call lies in the window, and what follows does not change it
  pub takes : (kind n : ℕ) → step_of w is_end ≡ Call kind n → (l : List ℕ) → Follows is_end l
      → (well_formed (w ++ l) ≡ true) × (size_at (w ++ l) ≡ n) × (call_at (w ++ l) ≡ call kind (take n (drop head w))) × (head + n ≤ length w)
  pub passes : step_of w is_end ≡ Pass → (l : List ℕ) → Follows is_end l → (1 ≤ length w) × (well_formed (w ++ l) ≡ false)
  pub waits : step_of w is_end ≡ More → (is_end ≡ false) × (length w < head + most)
  pub ends : step_of w is_end ≡ End → (is_end ≡ true) × (length w ≡ 0)

pub record Laws : Type 0 where
  pub sentence : Sentence
  pub counted : (l : List ℕ) → Counted l
  pub written : (cs : List (ℕ × List ℕ)) → are_written cs ≡ true → Back cs
  pub decided : (w : List ℕ) (is_end : Bool) → Decides w is_end
  -- however the journal is cut into pieces
  pub cut : (ps : List (List ℕ)) (steps : ℕ) → length (joined ps) + length ps + 2 ≤ steps → read_from steps 0 [] false ps ≡ items (joined ps)
