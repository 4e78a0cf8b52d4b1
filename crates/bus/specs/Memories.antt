-- What a table of meters remembers, as the memory of a bus.
use Rattle.std.specs.Prelude.{◌≡◌, ℕ, ◌<◌, List, [], ◌∷◌, length, Some, None, Option}
use Rattle.std.specs.Option.{option_map}
use Rattle.line.specs.Meters.{Meter}
use Rattle.line.specs.Buses.{Bus}
use Rattle.line.specs.Exchanges.{heard}
use Rattle.bus.specs.declared.memory.Kept.{Kept}
use Rattle.bus.specs.declared.memory.Memory.{Memory}
use Rattle.bus.specs.declared.meter_bus.MeterBus.{MeterBus}

-- the turn is 0 if no bit is kept
abbrev pub turn_kept : Option Kept → ℕ
turn_kept None = 0
turn_kept (Some k) = k.turn

-- meters with a memory
abbrev pub remembering : List Meter → Memory → Bus
remembering ms m =
    record { meters = ms; selection = m.selection; kept = option_map (λ k. k.bit) m.kept; turn = turn_kept m.kept }

-- the bus that a table with a memory is, where `meters` reads the table
abbrev pub bus_of : {T : Type 0} → (T → List Meter) → MeterBus T → Bus
bus_of meters x = remembering (meters x.table) x.memory

-- a request is heard: the meters stay the same, and their memory is what hearing it makes of the old one
pub record Hears {T : Type 0} (meters : T → List Meter) (request : List ℕ) (x x' : MeterBus T) : Type 0 where
  pub table : x'.table ≡ x.table
  pub bus : bus_of meters x' ≡ heard request (bus_of meters x)

-- meters that have heard nothing yet
abbrev pub at_rest : List Meter → Bus
at_rest ms = record { meters = ms; selection = None; kept = None; turn = 0 }

-- the number of telegrams of the only meter, where there is exactly one
abbrev pub OnlyHas : List Meter → Option ℕ → Type 0
OnlyHas [] None = Unit {0}
OnlyHas [] (Some n) = ⊥
OnlyHas (m ∷ []) None = ⊥
OnlyHas (m ∷ []) (Some n) = n ≡ length m.telegrams
OnlyHas (m ∷ m' ∷ ms) None = Unit {0}
OnlyHas (m ∷ m' ∷ ms) (Some n) = ⊥

-- not 0
abbrev pub Positive : Option ℕ → Type 0
Positive None = Unit {0}
Positive (Some n) = 0 < n
