-- What a house does with a statement that was read.
use Rattle.std.specs.Prelude.{◌≡◌, Bool, cond}
use Rattle.house.specs.Houses.{Parts, takes, with_statement}
use Rattle.house.specs.Lines.{Statement}

-- the statement is added where the house takes it, else nothing changes
pub record Accepts (p : Parts) (s : Statement) (r : Bool) (q : Parts) : Type 0 where
  pub answer : r ≡ takes p s
  pub parts : q ≡ cond r (with_statement p s) p
