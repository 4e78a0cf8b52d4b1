use Rattle.std.proofs.Common.{rules}
use Rattle.round.specs.Places.{listed}
use Rattle.round.proofs.Promising.{run_goes_on, run_lists}
use Rattle.round.proofs.any_master.Master.run.Goals as goal

pub returns-clause-goes_on : goal.returns-clause-goes_on
returns-clause-goes_on g c =
    run_goes_on g.L.Line.means _ c.args.self c.obey-master.result.0 _ _ (listed c.obey-master.new.places) c.obey-master.ensures.runs

pub returns-clause-lists : goal.returns-clause-lists
returns-clause-lists g c =
    run_lists g.L.Line.means _ c.args.self c.obey-master.result.0 _ _ _ (search rules)
