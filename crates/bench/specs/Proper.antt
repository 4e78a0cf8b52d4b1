-- What a bench can be made from.
use Rattle.std.specs.Prelude.{ℕ, ◌+◌, ◌≤◌, List, length, vec_items}
use Rattle.std.specs.List.{AllByRecursion}
use Rattle.bench.specs.declared.row.Body.{Body}
use Rattle.bench.specs.declared.row.Row.{Row}

-- a body of at most 240 bytes, inside an area of this size
pub record Inside (size : ℕ) (b : Body) : Type 0 where
  pub short : b.length ≤ 240
  pub ends : b.start + b.length ≤ size

-- a row of 1 to 16 such bodies
pub record Fits (size : ℕ) (r : Row) : Type 0 where
  pub some_bodies : 1 ≤ length (vec_items r.bodies)
  pub few_bodies : length (vec_items r.bodies) ≤ 16
  pub inside : AllByRecursion (Inside size) (vec_items r.bodies)

pub record Proper (rows : List Row) (area codes : List ℕ) : Type 0 where
  pub few_rows : length rows ≤ 250
  pub small_area : length area ≤ 65535
  pub few_codes : length codes ≤ 4096
  pub rows_fit : AllByRecursion (Fits (length area)) rows
  pub codes_known : AllByRecursion (λ code. code ≤ 3) codes
