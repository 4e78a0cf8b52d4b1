-- Worked examples of a search over a line without faults, at eight digits.
use Rattle.std.specs.Prelude.{◌≡◌, ℕ, List, [], ◌∷◌}
use Rattle.search.specs.Verdicts.{Entry, only, shared, Clear}
use Rattle.search.specs.Searches.{Reached}

-- a meter is its number here
abbrev pub itself : List ℕ → List ℕ
itself k = k

-- a search of these meters that has come to its end has listed es and sent n probes
abbrev pub EndsWith : List (List ℕ) → List (Entry (List ℕ)) → ℕ → Type 0
EndsWith ms es n = (fs : List (Entry (List ℕ))) (k : ℕ) → Reached (Clear itself ms) 8 [] fs k → (fs ≡ es) × (k ≡ n)

abbrev pub first : List ℕ
first = 1 ∷ 2 ∷ 3 ∷ 4 ∷ 5 ∷ 6 ∷ 7 ∷ 8 ∷ []

abbrev pub second : List ℕ
second = 1 ∷ 2 ∷ 9 ∷ 0 ∷ 0 ∷ 0 ∷ 0 ∷ 3 ∷ []

-- two meters, in either order on the line
abbrev pub TwoNumbers : Type 0
TwoNumbers =
    EndsWith (first ∷ second ∷ []) (only first ∷ only second ∷ []) 31
    × EndsWith (second ∷ first ∷ []) (only first ∷ only second ∷ []) 31

-- two meters of one number
abbrev pub OneNumber : Type 0
OneNumber = EndsWith (first ∷ first ∷ []) (shared first ∷ []) 81
