-- How the refusals of a bench are told.
use Rattle.std.specs.Prelude.{ℕ, Some, None, Ok, Err, Option, Result}
use Rattle.link.specs.declared.fault.Layer.TheVariants as layer
use Rattle.link.specs.declared.fault.Report.{Report}
use Rattle.link.specs.Faults.{report_at, report_of}
use Rattle.bench.specs.declared.fault.BenchFault.{BenchFault}
use Rattle.bench.specs.declared.fault.BenchFault.TheVariants.{Size, Row, Code}

-- more than a bench holds
abbrev pub oversize : Report
oversize = report_of layer.Making 21

-- a bad row or code, by its number
abbrev pub bad : ℕ → Report
bad number = report_at layer.Making 22 number

abbrev pub bench_report : BenchFault → Report
bench_report Size = oversize
bench_report (Row number) = bad number
bench_report (Code number) = bad number

-- the fault that a result tells, if any
abbrev pub bench_fault : {T : Type 0} → Result T BenchFault → Option Report
bench_fault (Ok x) = None
bench_fault (Err e) = Some (bench_report e)
