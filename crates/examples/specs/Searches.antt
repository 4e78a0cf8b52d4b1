-- Worked examples of searches, computed.
use Rattle.std.specs.Prelude.{ℕ, List, [], ◌∷◌}
use Rattle.std.specs.List.{AllByRecursion}
use Rattle.search.specs.Examples.{EndsWith, first, second}
use Rattle.search.specs.Verdicts.{Entry, only, shared}

pub data SearchExample : Type 0 where
  -- what a search over a line without faults lists of meters with these numbers, and how many selections it sends
  lists : (numbers : List (List ℕ)) (entries : List (Entry (List ℕ))) (selections : ℕ) → SearchExample

abbrev pub EndsSo : SearchExample → Type 0
EndsSo (lists numbers entries selections) = EndsWith numbers entries selections

abbrev pub search_examples : List SearchExample
search_examples =
    -- 12345678 and 12900003, in either order on the line
    lists (first ∷ second ∷ []) (only first ∷ only second ∷ []) 31
    ∷ lists (second ∷ first ∷ []) (only first ∷ only second ∷ []) 31
    -- two meters of one number
    ∷ lists (first ∷ first ∷ []) (shared first ∷ []) 81
    ∷ []

abbrev pub AllEndSo : Type 0
AllEndSo = AllByRecursion EndsSo search_examples
