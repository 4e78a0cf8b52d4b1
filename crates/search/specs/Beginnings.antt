-- A beginning of the code, as a list of digits.
use Rattle.std.specs.Prelude.{ℕ, List, take, Some, None, Option}
use Rattle.std.proofs.Math.Option.{Option as Maybe, none, some}
use Rattle.search.specs.declared.beginning.Beginning.{Beginning}

abbrev pub digits_of : Beginning → List ℕ
digits_of b = take b.len b.digits

-- the beginning to probe next, if one is left
abbrev pub followed : Option Beginning → Maybe (List ℕ)
followed None = none
followed (Some b) = some (digits_of b)
