use Rattle.house.proofs.Counting.{Counted}
use Rattle.house.proofs.number.decimal.Given as goal

abbrev pub invariant-loop-c : goal.invariant-loop-c
invariant-loop-c l = Counted l.word l.c-index l.value
