-- How the refusals of a master are told.
use Rattle.std.specs.Prelude.{Bool, true, false, Ok, Err, Result}
use Rattle.link.specs.declared.fault.Layer.TheVariants as layer
use Rattle.link.specs.declared.fault.Report.{Report}
use Rattle.link.specs.Faults.{report_of}
use Rattle.master.specs.declared.fault.FetchFault.{FetchFault}
use Rattle.master.specs.declared.fault.FetchFault.TheVariants.{Unanswered, Garbled, Silent}
use Rattle.master.specs.declared.fault.SearchFault.{SearchFault}
use Rattle.master.specs.declared.fault.Summary.{Summary}

abbrev pub fetch_report : FetchFault → Report
fetch_report Unanswered = report_of layer.Master 18
fetch_report Garbled = report_of layer.Master 19
fetch_report Silent = report_of layer.Master 20

-- what a search reports, also where it is refused
abbrev pub summary_of : Result Summary SearchFault → Summary
summary_of (Ok s) = s
summary_of (Err f) = f.summary

-- the search was refused: an entry found no place
abbrev pub is_full : Result Summary SearchFault → Bool
is_full (Ok s) = false
is_full (Err f) = true
