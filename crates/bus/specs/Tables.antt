-- Meters by the numbers of their rows, from 0.
use Rattle.std.specs.Prelude.{ℕ, List, [], Option, slice_index_or}
use Rattle.std.specs.Option.{option_map}
use Rattle.std.specs.List.{slice_get}
use Rattle.line.specs.Meters.{Meter}

-- past the last row, a meter with no address and no telegram
abbrev pub meter_at : List Meter → ℕ → Meter
meter_at ms row = slice_index_or ms row (record { address = []; telegrams = [] })

-- the address of the meter in a row, if there is one
abbrev pub address_at : List Meter → ℕ → Option (List ℕ)
address_at ms row = option_map (λ m. m.address) (slice_get ms row)

-- a telegram of the meter in a row, by its place from 0; empty where there is none
abbrev pub telegram_at : List Meter → ℕ → ℕ → List ℕ
telegram_at ms row place = slice_index_or (meter_at ms row).telegrams place []
