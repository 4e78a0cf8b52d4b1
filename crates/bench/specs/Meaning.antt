-- What a bench means.
use Rattle.std.specs.Prelude.{List, vec_items}
use Rattle.line.specs.Exchanges.{State}
use Rattle.line.specs.Meters.{Meter}
use Rattle.bus.specs.Memories.{bus_of}
use Rattle.bus.specs.declared.meter_bus.MeterBus.{MeterBus}
use Rattle.bench.specs.declared.fault_codes.FaultCodes.{FaultCodes}
use Rattle.bench.specs.declared.table.RowTable.{RowTable}
use Rattle.bench.specs.Codes.{longest, streak}
use Rattle.bench.specs.Meters.{meters_of}

-- a meter for each row
abbrev pub row_meters : RowTable → List Meter
row_meters t = meters_of (vec_items t.rows) (vec_items t.area)

-- the run is the longest stretch of faults, the streak the stretch just before the position
abbrev pub state_of : MeterBus RowTable → FaultCodes → State
state_of meters faults =
    record {
      bus = bus_of row_meters meters;
      run = longest (vec_items faults.codes);
      streak = streak (vec_items faults.codes) faults.position;
    }
