use Rattle.std.proofs.Common.{refl}
use Rattle.line.specs.Layering.{run_gone}
use Rattle.master.proofs.master.Idle.new.Goals as goal

pub returns : goal.returns
returns g c = record { line = refl; steady = run_gone _ _ _ (g.L.Line.layered c.args.line) }
