use Rattle.round.specs.declared.any_master.Master.TheVariants as master
use Rattle.round.proofs.Stepping.{fetch_lacks, goes_as, pick_lacks, search_lacks}
use Rattle.round.proofs.any_master.Master.step.Goals as goal

pub returns-in-Idle-Pick-clause-goes : goal.returns-in-Idle-Pick-clause-goes
returns-in-Idle-Pick-clause-goes g c =
    goes_as g.L.Line.means _ _ c.in-Idle-Pick.is-0 c.pick.result.0 _ _ _ _ _ _ c.in-Idle-Pick.is-1 (c.pick.ensures.goes _ _)

pub returns-in-Idle-Release-clause-goes : goal.returns-in-Idle-Release-clause-goes
returns-in-Idle-Release-clause-goes g c =
    goes_as g.L.Line.means _ _ c.in-Idle-Release.is-0 c.release_idle.result.0 _ _ _ _ _ _ c.in-Idle-Release.is-1 (c.release_idle.ensures.goes _ _)

pub returns-in-Idle-Fetch-clause-goes : goal.returns-in-Idle-Fetch-clause-goes
returns-in-Idle-Fetch-clause-goes g c =
    goes_as g.L.Line.means _ _ c.in-Idle-Fetch.is-0 (master.Idle c.in-Idle-Fetch.idle) _ _ _ _ _ _ c.in-Idle-Fetch.is-1 (fetch_lacks g.L.Line.means _ _ _)

pub returns-in-Picked-Fetch-clause-goes : goal.returns-in-Picked-Fetch-clause-goes
returns-in-Picked-Fetch-clause-goes g c =
    goes_as g.L.Line.means _ _ c.in-Picked-Fetch.is-0 c.fetch.result.0 _ _ _ _ _ _ c.in-Picked-Fetch.is-1 (c.fetch.ensures.goes _ _)

pub returns-in-Picked-Release-clause-goes : goal.returns-in-Picked-Release-clause-goes
returns-in-Picked-Release-clause-goes g c =
    goes_as g.L.Line.means _ _ c.in-Picked-Release.is-0 c.release_picked.result.0 _ _ _ _ _ _ c.in-Picked-Release.is-1 (c.release_picked.ensures.goes _ _)

pub returns-in-Picked-Search-clause-goes : goal.returns-in-Picked-Search-clause-goes
returns-in-Picked-Search-clause-goes g c =
    goes_as g.L.Line.means _ _ c.in-Picked-Search.is-0 (master.Picked c.in-Picked-Search.picked) _ _ _ _ _ _ c.in-Picked-Search.is-1 (search_lacks g.L.Line.means _ _ _)

pub returns-in-Picked-Pick-clause-goes : goal.returns-in-Picked-Pick-clause-goes
returns-in-Picked-Pick-clause-goes g c =
    goes_as g.L.Line.means _ _ c.in-Picked-Pick.is-0 (master.Picked c.in-Picked-Pick.picked) _ _ _ _ _ _ c.in-Picked-Pick.is-1 (pick_lacks g.L.Line.means _ _ _ _)
