use Rattle.input.proofs.Pairs.{Tested}
use Rattle.input.proofs.hex.is_hexadecimal.Given as goal

abbrev pub invariant-loop-c : goal.invariant-loop-c
invariant-loop-c l = Tested l.text l.c-index l.high
