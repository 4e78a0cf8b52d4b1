-- Which meters of a table are chosen: none, one by its row, or several.
use Rattle.std.specs.Prelude.{◌≡◌, ℕ, ◌<◌, ◌≤◌, List, [], ◌∷◌, length}
use Rattle.line.specs.Meters.{Meter}
use Rattle.telegram.specs.declared.matches.Matches.{Matches}
use Rattle.telegram.specs.declared.matches.Matches.TheVariants.{Nobody, One, Several}
use Rattle.bus.specs.Tables.{meter_at}

-- the choice tells of the meters chosen from a table
abbrev pub Tells : List Meter → List Meter → Matches ℕ → Type 0
Tells ms chosen Nobody = chosen ≡ []
Tells ms chosen (One row) = (row < length ms) × (chosen ≡ meter_at ms row ∷ [])
Tells ms chosen Several = 2 ≤ length chosen

-- one meter more
abbrev pub one_more : Matches ℕ → ℕ → Matches ℕ
one_more Nobody row = One row
one_more (One other) row = Several
one_more Several row = Several
