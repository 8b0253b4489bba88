-- The names of the lines, in ASCII.
use Rattle.std.specs.Prelude.{ℕ, List, [], ◌∷◌}

-- new
abbrev pub new : List ℕ
new = 110 ∷ 101 ∷ 119 ∷ []

-- restore
abbrev pub restore : List ℕ
restore = 114 ∷ 101 ∷ 115 ∷ 116 ∷ 111 ∷ 114 ∷ 101 ∷ []

-- reselect
abbrev pub reselect : List ℕ
reselect = 114 ∷ 101 ∷ 115 ∷ 101 ∷ 108 ∷ 101 ∷ 99 ∷ 116 ∷ []

-- window
abbrev pub window : List ℕ
window = 119 ∷ 105 ∷ 110 ∷ 100 ∷ 111 ∷ 119 ∷ []

-- seal
abbrev pub seal : List ℕ
seal = 115 ∷ 101 ∷ 97 ∷ 108 ∷ []

-- opaque
abbrev pub opaque : List ℕ
opaque = 111 ∷ 112 ∷ 97 ∷ 113 ∷ 117 ∷ 101 ∷ []

-- open
abbrev pub open' : List ℕ
open' = 111 ∷ 112 ∷ 101 ∷ 110 ∷ []

-- open2
abbrev pub open2 : List ℕ
open2 = 111 ∷ 112 ∷ 101 ∷ 110 ∷ 50 ∷ []

-- initial
abbrev pub initial : List ℕ
initial = 105 ∷ 110 ∷ 105 ∷ 116 ∷ 105 ∷ 97 ∷ 108 ∷ []

-- epsseal
abbrev pub epsseal : List ℕ
epsseal = 101 ∷ 112 ∷ 115 ∷ 115 ∷ 101 ∷ 97 ∷ 108 ∷ []

-- epsopen
abbrev pub epsopen : List ℕ
epsopen = 101 ∷ 112 ∷ 115 ∷ 111 ∷ 112 ∷ 101 ∷ 110 ∷ []

-- n1s1
abbrev pub n1s1 : List ℕ
n1s1 = 110 ∷ 49 ∷ 115 ∷ 49 ∷ []

-- n1s1v
abbrev pub n1s1v : List ℕ
n1s1v = 110 ∷ 49 ∷ 115 ∷ 49 ∷ 118 ∷ []

-- s1n1
abbrev pub s1n1 : List ℕ
s1n1 = 115 ∷ 49 ∷ 110 ∷ 49 ∷ []

-- s1n1v
abbrev pub s1n1v : List ℕ
s1n1v = 115 ∷ 49 ∷ 110 ∷ 49 ∷ 118 ∷ []

-- raw
abbrev pub raw : List ℕ
raw = 114 ∷ 97 ∷ 119 ∷ []

-- show
abbrev pub show : List ℕ
show = 115 ∷ 104 ∷ 111 ∷ 119 ∷ []

-- across
abbrev pub across : List ℕ
across = 97 ∷ 99 ∷ 114 ∷ 111 ∷ 115 ∷ 115 ∷ []

-- across2
abbrev pub across2 : List ℕ
across2 = 97 ∷ 99 ∷ 114 ∷ 111 ∷ 115 ∷ 115 ∷ 50 ∷ []

-- sealin
abbrev pub sealin : List ℕ
sealin = 115 ∷ 101 ∷ 97 ∷ 108 ∷ 105 ∷ 110 ∷ []

-- openin
abbrev pub openin : List ℕ
openin = 111 ∷ 112 ∷ 101 ∷ 110 ∷ 105 ∷ 110 ∷ []

-- open2in
abbrev pub open2in : List ℕ
open2in = 111 ∷ 112 ∷ 101 ∷ 110 ∷ 50 ∷ 105 ∷ 110 ∷ []

-- windowin
abbrev pub windowin : List ℕ
windowin = 119 ∷ 105 ∷ 110 ∷ 100 ∷ 111 ∷ 119 ∷ 105 ∷ 110 ∷ []
