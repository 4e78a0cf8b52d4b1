-- The places that a run of calls has for the entries of its searches: one search's entries come after the other's.
use Rattle.std.specs.Prelude.{◌≡◌, ℕ, ◌≤◌, List, length, take, drop}
use Rattle.search.specs.declared.entry.Entry.{Entry}
use Rattle.round.specs.declared.places.Places.{Places}

-- how many there are
abbrev pub room : Places → ℕ
room p = length p.all.now

-- what the searches so far listed
abbrev pub listed : Places → List Entry
listed p = take p.used p.all.now

-- more places may be used, and those after them are untouched; they are the same places
pub record Fills (p p' : Places) : Type 0 where
  pub size : room p' ≡ room p
  pub later : p.used ≤ p'.used
  pub untouched : drop p'.used p'.all.now ≡ drop p'.used p.all.now
  pub lender : p'.all.ghost_name ≡ p.all.ghost_name
