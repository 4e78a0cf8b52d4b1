-- How each fault of a frame is told: its layer, its place if it has one, its number.
use Rattle.std.specs.Prelude.{ℕ, List, Some, None, Ok, Err, codes, Option, Result}
use Rattle.link.specs.declared.fault.Layer.{Layer}
use Rattle.link.specs.declared.fault.Layer.TheVariants as layer
use Rattle.link.specs.declared.fault.Report.{Report}
use Rattle.link.specs.declared.fault.FrameFault.{FrameFault}
use Rattle.link.specs.declared.fault.FrameFault.TheVariants.{Empty, Start, TooFew, Header, TooMany, Stop, Checksum, Oversize}

-- how the programs print a layer
abbrev pub layer_name : Layer → List ℕ
layer_name layer.Frame = codes "frame"
layer_name layer.Reply = codes "reply"
layer_name layer.Record = codes "record"
layer_name layer.Master = codes "master"
layer_name layer.Making = codes "making"

-- a fault with a place
abbrev pub report_at : Layer → ℕ → ℕ → Report
report_at l number place = record { layer = l; place = Some place; number = number }

-- a fault without one
abbrev pub report_of : Layer → ℕ → Report
report_of l number = record { layer = l; place = None; number = number }

abbrev pub frame_report : FrameFault → Report
frame_report Empty = report_at layer.Frame 1 0
frame_report Start = report_at layer.Frame 2 0
frame_report (TooFew given) = report_at layer.Frame 3 given
frame_report (Header place) = report_at layer.Frame 4 place
frame_report (TooMany place) = report_at layer.Frame 5 place
frame_report (Stop place) = report_at layer.Frame 6 place
frame_report (Checksum place) = report_at layer.Frame 7 place
frame_report Oversize = report_of layer.Frame 8

-- the fault that a result tells, if any
abbrev pub frame_fault : {T : Type 0} → Result T FrameFault → Option Report
frame_fault (Ok x) = None
frame_fault (Err e) = Some (frame_report e)
