-- What a capture means.
use Rattle.std.specs.Prelude.{List, vec_items}
use Rattle.line.specs.Buses.{Bus}
use Rattle.line.specs.Exchanges.{State}
use Rattle.line.specs.Meters.{Meter}
use Rattle.bus.specs.Memories.{bus_of}
use Rattle.bus.specs.declared.meter_bus.MeterBus.{MeterBus}
use Rattle.capture.specs.declared.recording.Recording.{Recording}
use Rattle.capture.specs.Rows.{meters_of}

-- the meters of a recording
abbrev pub recorded : Recording → List Meter
recorded t = meters_of (vec_items t.bytes) (vec_items t.rows)

-- a line that never has a fault
abbrev pub faultless : Bus → State
faultless b = record { bus = b; run = 0; streak = 0 }

abbrev pub state_of : MeterBus Recording → State
state_of x = faultless (bus_of recorded x)
