use Rattle.std.proofs.Common.{◌≤◌, length}
use Rattle.scenario.proofs.make_calls.Given as goal

abbrev pub invariant-loop-left : goal.invariant-loop-left
invariant-loop-left g l = length l.left ≤ length l.calls

abbrev pub decreases-loop-left : goal.decreases-loop-left
decreases-loop-left g l = length l.left
