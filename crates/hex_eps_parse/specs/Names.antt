-- The names of the EPS lines, in ASCII.
use Rattle.std.specs.Prelude.{ℕ, List, [], ◌∷◌}

-- enew
abbrev pub enew : List ℕ
enew = 101 ∷ 110 ∷ 101 ∷ 119 ∷ []

-- erestore
abbrev pub erestore : List ℕ
erestore = 101 ∷ 114 ∷ 101 ∷ 115 ∷ 116 ∷ 111 ∷ 114 ∷ 101 ∷ []

-- ereselect
abbrev pub ereselect : List ℕ
ereselect = 101 ∷ 114 ∷ 101 ∷ 115 ∷ 101 ∷ 108 ∷ 101 ∷ 99 ∷ 116 ∷ []

-- ewindow
abbrev pub ewindow : List ℕ
ewindow = 101 ∷ 119 ∷ 105 ∷ 110 ∷ 100 ∷ 111 ∷ 119 ∷ []

-- eseal
abbrev pub eseal : List ℕ
eseal = 101 ∷ 115 ∷ 101 ∷ 97 ∷ 108 ∷ []

-- esr
abbrev pub esr : List ℕ
esr = 101 ∷ 115 ∷ 114 ∷ []

-- eopen
abbrev pub eopen : List ℕ
eopen = 101 ∷ 111 ∷ 112 ∷ 101 ∷ 110 ∷ []

-- eraw
abbrev pub eraw : List ℕ
eraw = 101 ∷ 114 ∷ 97 ∷ 119 ∷ []

-- eshow
abbrev pub eshow : List ℕ
eshow = 101 ∷ 115 ∷ 104 ∷ 111 ∷ 119 ∷ []
