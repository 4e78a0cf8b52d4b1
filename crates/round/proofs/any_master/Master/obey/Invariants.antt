use Rattle.std.proofs.Common.{◌≡◌, take, drop}
use Rattle.round.specs.Modes.{SameHouse, line_of}
use Rattle.round.specs.Places.{Fills, listed, room}
use Rattle.round.specs.Promise.{Runs}
use Rattle.round.proofs.any_master.Master.obey.Given as goal

-- the calls so far have these outcomes and entries, and the other places are untouched
abbrev pub invariant-loop-i : goal.invariant-loop-i
invariant-loop-i g l =
    let means = g.L.Line.means in
    Fills l.initial.places l.places
    × Runs means (room l.initial.places) l.initial.master (take l.i l.calls) (take l.i l.outcomes) l.master (listed l.places)
    × (drop l.i l.outcomes ≡ drop l.i l.initial.outcomes)
    × SameHouse means l.initial.master l.master
    × (g.L.Line.tries (line_of l.master) ≡ g.L.Line.tries (line_of l.initial.master))
