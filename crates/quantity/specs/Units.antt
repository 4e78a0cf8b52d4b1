-- How the programs print a unit.
use Rattle.std.specs.Prelude.{ℕ, List, codes}
use Rattle.quantity.specs.declared.unit.Unit as unit
use Rattle.quantity.specs.declared.unit.Unit.TheVariants as u

-- `-` where there is none
abbrev pub unit_name : unit.Unit → List ℕ
unit_name u.Unitless = codes "-"
unit_name u.WattHour = codes "Wh"
unit_name u.Joule = codes "J"
unit_name u.CubicMetre = codes "m3"
unit_name u.Kilogram = codes "kg"
unit_name u.Second = codes "s"
unit_name u.Minute = codes "min"
unit_name u.Hour = codes "h"
unit_name u.Day = codes "d"
unit_name u.Watt = codes "W"
unit_name u.JoulePerHour = codes "J/h"
unit_name u.CubicMetrePerHour = codes "m3/h"
unit_name u.CubicMetrePerMinute = codes "m3/min"
unit_name u.CubicMetrePerSecond = codes "m3/s"
unit_name u.KilogramPerHour = codes "kg/h"
unit_name u.Celsius = codes "C"
unit_name u.Kelvin = codes "K"
unit_name u.Bar = codes "bar"
