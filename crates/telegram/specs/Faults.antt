-- How each fault of a reply telegram is told, and that a frame's fault rises whole.
use Rattle.std.specs.Prelude.{◌≡◌, Some, None, Ok, Err, Option, Result}
use Rattle.link.specs.declared.fault.Layer.TheVariants as layer
use Rattle.link.specs.declared.fault.Report.{Report}
use Rattle.link.specs.Faults.{frame_report, report_at}
use Rattle.telegram.specs.declared.fault.ReplyFault.{ReplyFault}
use Rattle.telegram.specs.declared.fault.ReplyFault.TheVariants.{Frame, NotReply, Digit}

abbrev pub reply_report : ReplyFault → Report
reply_report (Frame e) = frame_report e
reply_report (NotReply place) = report_at layer.Reply 9 place
reply_report (Digit place) = report_at layer.Reply 10 place

-- the fault that a result tells, if any
abbrev pub reply_fault : {T : Type 0} → Result T ReplyFault → Option Report
reply_fault (Ok x) = None
reply_fault (Err e) = Some (reply_report e)

-- the fault is a frame's, whole, as that frame's fault is told
abbrev pub FromFrame : ReplyFault → Report → Type 0
FromFrame (Frame e) r = frame_report e ≡ r
FromFrame (NotReply place) r = ⊥
FromFrame (Digit place) r = ⊥

-- where the bytes are refused as a frame, that fault comes inside the reply's fault
abbrev pub Rises : {T : Type 0} → Option Report → Result T ReplyFault → Type 0
Rises None r = Unit {0}
Rises (Some t) (Ok x) = ⊥
Rises (Some t) (Err e) = FromFrame e t
