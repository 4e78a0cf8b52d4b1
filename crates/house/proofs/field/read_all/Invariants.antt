use Rattle.std.proofs.Common.{vec_items, vec_len, vec_capacity}
use Rattle.house.specs.Words.{words}
use Rattle.house.proofs.Reading.{Read}
use Rattle.house.proofs.field.read_all.Given as goal

abbrev pub invariant-loop-word : goal.invariant-loop-word
invariant-loop-word g l =
    (goal.iterator-loop-word g).can_next l.word-iterator
    × (goal.iterator-loop-word g).is_finite l.word-iterator
    × Read g.F.Field.fits g.F.Field.value (words l.fn.words.text.now) (words l.word-iterator.text.now) (vec_items l.items) (vec_len l.items) (vec_capacity l.items)
