-- How each fault of a record is told.
use Rattle.std.specs.Prelude.{ℕ, List, length, Some, None, Ok, Err, Option, Result}
use Rattle.link.specs.declared.fault.Layer.TheVariants as layer
use Rattle.link.specs.declared.fault.Report.{Report}
use Rattle.link.specs.Faults.{report_at}
use Rattle.record.specs.declared.fault.RecordFault.{RecordFault}
use Rattle.record.specs.declared.fault.RecordFault.TheVariants.{DataField, Chain, Vif, Digit, TextLength, Ended}

-- a fault of a record, by number and place
abbrev pub at : ℕ → ℕ → Report
at number place = report_at layer.Record number place

abbrev pub record_report : RecordFault → Report
record_report (DataField place) = at 11 place
record_report (Chain place) = at 12 place
record_report (Vif place) = at 13 place
record_report (Digit place) = at 14 place
record_report (TextLength place) = at 15 place
record_report (Ended place) = at 16 place

-- bs is a telegram up to its body's end, where it ends early
abbrev pub ended : List ℕ → Report
ended bs = at 16 (length bs)

-- the fault that a result tells, if any
abbrev pub record_fault : {T : Type 0} → Result T RecordFault → Option Report
record_fault (Ok x) = None
record_fault (Err e) = Some (record_report e)
