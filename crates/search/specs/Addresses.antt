-- The meters of a search of eight digits are told by their addresses, as these travel.
use Rattle.std.specs.Prelude.{◌≡◌, ℕ, ◌/◌, ◌%◌, List, [], ◌∷◌, length, slice_index}
use Rattle.telegram.specs.Patterns.{fits}
use Rattle.search.specs.Numbers.{begins}

-- the number of an address: its eight digits, highest first
abbrev pub number : List ℕ → List ℕ
number a =
    slice_index a 3 / 16 ∷ slice_index a 3 % 16 ∷ slice_index a 2 / 16 ∷ slice_index a 2 % 16 ∷ slice_index a 1 / 16 ∷ slice_index a 1 % 16 ∷ slice_index a 0 / 16 ∷ slice_index a 0 % 16 ∷ []

-- the pattern fits just the addresses whose number begins with p
abbrev pub FitsBeginning : List ℕ → List ℕ → Type 0
FitsBeginning pattern p = (a : List ℕ) → length a ≡ 8 → fits pattern a ≡ begins p (number a)
