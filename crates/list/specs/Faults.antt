-- How a list without a free place is told.
use Rattle.link.specs.declared.fault.Layer.TheVariants as layer
use Rattle.link.specs.declared.fault.Report.{Report}
use Rattle.link.specs.Faults.{report_of}

abbrev pub full_report : Report
full_report = report_of layer.Master 17
