-- How the refusals of a capture are told.
use Rattle.link.specs.declared.fault.Layer.TheVariants as layer
use Rattle.link.specs.declared.fault.Report.{Report}
use Rattle.link.specs.Faults.{report_of}
use Rattle.telegram.specs.Faults.{reply_report}
use Rattle.capture.specs.declared.fault.CaptureFault.{CaptureFault}
use Rattle.capture.specs.declared.fault.Cause.{Cause}
use Rattle.capture.specs.declared.fault.Cause.TheVariants.{Size, Reply}

abbrev pub cause_report : Cause → Report
cause_report Size = report_of layer.Making 21
cause_report (Reply f) = reply_report f

-- beside it the number of the telegram is told
abbrev pub capture_report : CaptureFault → Report
capture_report e = cause_report e.cause
