-- How the refusal of a layer is told.
use Rattle.std.specs.Prelude.{ℕ, cond, Some, None, Ok, Err, Option, Result, nat_le}
use Rattle.link.specs.declared.fault.Layer.TheVariants as layer
use Rattle.link.specs.declared.fault.Report.{Report}
use Rattle.link.specs.Faults.{report_of}
use Rattle.line.specs.declared.fault.LimitFault.{LimitFault}

abbrev pub limit_report : Report
limit_report = report_of layer.Making 23

-- the fault that a result tells, if any
abbrev pub limit_fault : {T L : Type 0} → Result T (LimitFault L) → Option Report
limit_fault (Ok x) = None
limit_fault (Err e) = Some limit_report

-- the refusal of a limit: a layer has at most 7 tries more than one
abbrev pub limit_refusal : ℕ → Option Report
limit_refusal limit = cond (nat_le limit 7) None (Some limit_report)
