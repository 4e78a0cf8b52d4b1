-- What the lines of a test house add up to.
use Rattle.std.specs.Prelude.{◌≡◌, ℕ, Bool, true, false, not, List, [], ◌∷◌, ◌++◌, map, length, is_some, Some, None, Ok, Err, vec_items, Option, Result, nat_lt}
use Rattle.input.specs.Lines.{content}
use Rattle.house.specs.declared.house.House.{House}
use Rattle.house.specs.declared.house.Unreadable.{Unreadable}
use Rattle.house.specs.Lines.{Asked, Listed, Spells, Statement, skipped, area, meter, fault, retry, places, call, asked, listed}

-- the parts of a house, each in the order of its lines
pub record Parts : Type 0 where
  pub meters : List Listed
  pub area_bytes : List ℕ
  pub fault_codes : List ℕ
  pub limits : List ℕ
  pub places_given : Option ℕ
  pub calls : List Asked

abbrev pub parts_of : House → Parts
parts_of h =
    record {
      meters = map listed (vec_items h.rows);
      area_bytes = vec_items h.area;
      fault_codes = vec_items h.codes;
      limits = vec_items h.limits;
      places_given = h.places;
      calls = map asked (vec_items h.calls);
    }

-- a house without lines
abbrev pub no_parts : Parts
no_parts = record { meters = []; area_bytes = []; fault_codes = []; limits = []; places_given = None; calls = [] }

-- a house has at most three layers, and says only once how many places there are
abbrev pub takes : Parts → Statement → Bool
takes p skipped = true
takes p (area bytes) = true
takes p (meter m) = true
takes p (fault codes) = true
takes p (retry limit) = nat_lt (length p.limits) 3
takes p (places count) = not (is_some p.places_given)
takes p (call c) = true

-- what a statement adds stands behind what was there
abbrev pub with_statement : Parts → Statement → Parts
with_statement p skipped = p
with_statement p (area bytes) = record p { area_bytes = p.area_bytes ++ bytes }
with_statement p (meter m) = record p { meters = p.meters ++ m ∷ [] }
with_statement p (fault codes) = record p { fault_codes = p.fault_codes ++ codes }
with_statement p (retry limit) = record p { limits = p.limits ++ limit ∷ [] }
with_statement p (places count) = record p { places_given = Some count }
with_statement p (call c) = record p { calls = p.calls ++ c ∷ [] }

-- a readable line spells one statement, which the house takes and which is all that is added
pub record TakesLine (before : Parts) (line : List ℕ) (after : Parts) : Type 0 where
  pub says : Statement
  pub spelled : Spells (content line) says
  pub only : (s : Statement) → Spells (content line) s → s ≡ says
  pub taken : takes before says ≡ true
  pub parts : after ≡ with_statement before says

-- an unreadable one spells none that the house takes, and adds nothing
pub record RefusesLine (before : Parts) (line : List ℕ) (after : Parts) : Type 0 where
  pub untaken : (s : Statement) → Spells (content line) s → takes before s ≡ false
  pub parts : after ≡ before

abbrev pub Adds : Parts → List ℕ → Result House Unreadable → Type 0
Adds before line (Ok house) = TakesLine before line (parts_of house)
Adds before line (Err refusal) = RefusesLine before line (parts_of refusal.house)
