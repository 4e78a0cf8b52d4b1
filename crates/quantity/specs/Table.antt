-- The table of VIF codes, the low seven bits of a VIF: which quantity each row of codes states, in which unit,
-- and with which power of ten.
use Rattle.std.specs.Prelude.{ℕ, ◌+◌, ◌%◌, ◌≤◌, Bool, cond, ◌&&◌, ◌||◌, List, [], ◌∷◌, ℤ, pos, ◌-ℤ◌, Some, None, Option, ◌==◌, find, nat_le, nat_lt}
use Rattle.quantity.specs.declared.meaning.Meaning.{Meaning}
use Rattle.quantity.specs.declared.quantity.Quantity.{Quantity}
use Rattle.quantity.specs.declared.quantity.Quantity.TheVariants as quantity
use Rattle.quantity.specs.declared.table.Row.{Row}
use Rattle.quantity.specs.declared.table.Scale.{Scale}
use Rattle.quantity.specs.declared.table.Scale.TheVariants.{Tens, Time, Plain}
use Rattle.quantity.specs.declared.unit.Unit as unit
use Rattle.quantity.specs.declared.unit.Unit.TheVariants as u

-- a row: its first code, how many codes it has, their quantity, and how unit and power go by n
abbrev pub row : ℕ → ℕ → Quantity → Scale → Row
row first count q s = record { first = first; count = count; quantity = q; scale = s }

abbrev pub table : List Row
table =
    row 0x00 8 quantity.Energy (Tens u.WattHour 3)
    ∷ row 0x08 8 quantity.EnergyJoule (Tens u.Joule 0)
    ∷ row 0x10 8 quantity.Volume (Tens u.CubicMetre 6)
    ∷ row 0x18 8 quantity.Mass (Tens u.Kilogram 3)
    ∷ row 0x20 4 quantity.OnTime Time
    ∷ row 0x24 4 quantity.OperatingTime Time
    ∷ row 0x28 8 quantity.Power (Tens u.Watt 3)
    ∷ row 0x30 8 quantity.PowerJoule (Tens u.JoulePerHour 0)
    ∷ row 0x38 8 quantity.VolumeFlow (Tens u.CubicMetrePerHour 6)
    ∷ row 0x40 8 quantity.VolumeFlowMinute (Tens u.CubicMetrePerMinute 7)
    ∷ row 0x48 8 quantity.VolumeFlowSecond (Tens u.CubicMetrePerSecond 9)
    ∷ row 0x50 8 quantity.MassFlow (Tens u.KilogramPerHour 3)
    ∷ row 0x58 4 quantity.FlowTemperature (Tens u.Celsius 3)
    ∷ row 0x5C 4 quantity.ReturnTemperature (Tens u.Celsius 3)
    ∷ row 0x60 4 quantity.TemperatureDifference (Tens u.Kelvin 3)
    ∷ row 0x64 4 quantity.ExternalTemperature (Tens u.Celsius 3)
    ∷ row 0x68 4 quantity.Pressure (Tens u.Bar 3)
    ∷ row 0x6C 1 quantity.Date Plain
    ∷ row 0x6D 1 quantity.DateTime Plain
    ∷ row 0x6E 1 quantity.HeatCostUnits Plain
    ∷ row 0x70 4 quantity.AveragingDuration Time
    ∷ row 0x74 4 quantity.ActualityDuration Time
    ∷ row 0x78 1 quantity.FabricationNumber Plain
    ∷ row 0x79 1 quantity.Identification Plain
    ∷ row 0x7A 1 quantity.BusAddress Plain
    ∷ row 0x7B 1 quantity.Extension Plain
    ∷ row 0x7D 1 quantity.Extension Plain
    ∷ row 0x7F 1 quantity.ManufacturerSpecific Plain
    ∷ []

abbrev pub first_code : Row → ℕ
first_code r = r.first

-- the code after the last
abbrev pub next_code : Row → ℕ
next_code r = r.first + r.count

abbrev pub has : ℕ → Row → Bool
has c r = nat_le (first_code r) c && nat_lt c (next_code r)

-- n is the low three bits of a code in a row of eight, the low two in a row of four
abbrev pub n_of : ℕ → Row → ℕ
n_of c r = c % r.count

abbrev pub time_unit : ℕ → unit.Unit
time_unit n = cond (n == 0) u.Second (cond (n == 1) u.Minute (cond (n == 2) u.Hour u.Day))

abbrev pub unit_by : Scale → ℕ → unit.Unit
unit_by (Tens v k) n = v
unit_by Time n = time_unit n
unit_by Plain n = u.Unitless

-- the power of ten
abbrev pub power_by : Scale → ℕ → ℤ
power_by (Tens v k) n = pos n -ℤ pos k
power_by Time n = pos 0
power_by Plain n = pos 0

abbrev pub row_meaning : ℕ → Row → Meaning
row_meaning c r = record { quantity = r.quantity; unit = unit_by r.scale (n_of c r); power = power_by r.scale (n_of c r) }

-- the first row that has a code
abbrev pub row_with : ℕ → List Row → Option Row
row_with c rs = find (has c) rs

abbrev pub meaning_at : ℕ → Option Row → Option Meaning
meaning_at c None = None
meaning_at c (Some r) = Some (row_meaning c r)

abbrev pub code_meaning : ℕ → Option Meaning
code_meaning c = meaning_at c (row_with c table)

-- 7B and 7D extend the table, and want bit 7
unfoldable pub vif_meaning : ℕ → Option Meaning
vif_meaning v = cond (v == 0x7B || v == 0x7D) None (code_meaning (v % 128))

-- by how much the power is below n
abbrev pub lowered : Scale → ℕ
lowered (Tens v k) = k
lowered Time = 0
lowered Plain = 0

-- no power of the row is below -9
abbrev pub Moderate : Row → Type 0
Moderate r = lowered r.scale ≤ 9
