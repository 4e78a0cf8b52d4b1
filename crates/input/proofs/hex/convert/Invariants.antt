use Rattle.input.proofs.Pairs.{Converted}
use Rattle.input.proofs.hex.convert.Given as goal

abbrev pub invariant-loop-i : goal.invariant-loop-i
invariant-loop-i l = Converted l.initial.text l.text l.i l.count l.high
