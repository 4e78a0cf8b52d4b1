-- Values of words, one after another.
use Rattle.std.proofs.Common.{◌≡◌, ℕ, ◌+◌, ◌≤◌, Bool, List, ◌++◌, map, length}
use Rattle.std.specs.List.{list_all}

-- the values of all words are read, but for those of what is left
pub record Read {X : Type 0} (fits : List ℕ → Bool) (value : List ℕ → X) (all left : List (List ℕ)) (items : List X) (len cap : ℕ) : Type 0 where
  pub tests : list_all fits left ≡ list_all fits all
  pub values : items ++ map value left ≡ map value all
  pub room : len + length left ≤ cap
