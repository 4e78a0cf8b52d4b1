-- The laws of a search, told from the meaning of the line.
use Rattle.std.specs.Prelude.{◌≡◌, ℕ, ◌≤◌, Bool, false, List, map, length, None, ◌==◌}
use Rattle.line.specs.Meters.{Meter}
use Rattle.line.specs.Exchanges.{State}
use Rattle.search.specs.Addresses.{number}
use Rattle.search.specs.Counts.{◌∈◌}
use Rattle.search.specs.Laws.{TrueList, WholeList}
use Rattle.search.specs.Verdicts.{Entry}

-- the addresses of the meters, in the line's order
abbrev pub addresses : List Meter → List (List ℕ)
addresses ms = map (λ m. m.address) ms

-- the line has no faults
abbrev pub faultless : State → Bool
faultless s = s.run == 0

-- where the line has no faults, no meter stays selected
abbrev pub Clears : State → State → Type 0
Clears s s' = s.run ≡ 0 → s'.bus.selection ≡ None

-- there is a place for each number present
abbrev pub Enough : List Meter → ℕ → Type 0
Enough ms places = (ks : List (List ℕ)) × ((a : List ℕ) → a ∈ addresses ms → number a ∈ ks) × (length ks ≤ places)

-- What a search finds on a line of these meters and this run. Whatever the line loses or damages, the list is true, and
-- a place for each number present is enough. Where the line has no faults and the list is not full, it is whole.
pub record Finds (D : ℕ) (ms : List Meter) (run places : ℕ) (listed : List (Entry (List ℕ))) (selections : ℕ) (full : Bool) : Type 0 where
  pub truly : TrueList number (addresses ms) listed
  pub enough : Enough ms places → full ≡ false
  pub wholly : run ≡ 0 → full ≡ false → WholeList number (addresses ms) D listed selections
