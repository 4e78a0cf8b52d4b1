use Rattle.round.proofs.Promising.{promised}
use Rattle.round.proofs.any_master.Master.start.Goals as goal

pub returns : goal.returns
returns g c =
    let m = g.L.Line in
    let f = c.run.ensures in
    record {
      calls = f.calls;
      promise = promised m.means _ c.new.result c.run.result.0 _ _ _ f.runs m.base m.tries c.args.line c.new.ensures.line c.new.ensures.idle f.house f.layers f.faultless;
      within = f.within;
      other_outcomes = f.other_outcomes;
      other_entries = f.other_entries;
    }
