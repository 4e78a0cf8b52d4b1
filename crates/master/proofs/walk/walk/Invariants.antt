use Rattle.std.proofs.Common.{◌≡◌, map}
use Rattle.list.specs.FixedLists.{all_places, entries_of, lender}
use Rattle.search.specs.Beginnings.{digits_of}
use Rattle.search.specs.Entries.{entry_of}
use Rattle.search.specs.Next.{left, todo}
use Rattle.master.specs.Lists.{Filled}
use Rattle.master.proofs.Walking.{Sofar}
use Rattle.master.proofs.walk.walk.Given as goal

abbrev pub invariant-walk : goal.invariant-walk
invariant-walk g l =
    Sofar (g.L.Line.means l.initial.line) (g.L.Line.means l.line) (digits_of l.at) (map entry_of (entries_of l.list)) l.selections
    × Filled (all_places l.initial.list) l.list
    × (lender l.list ≡ lender l.initial.list)
    × (g.L.Line.tries l.line ≡ g.L.Line.tries l.initial.line)

abbrev pub decreases-walk : goal.decreases-walk
decreases-walk g l = left 8 (todo (digits_of l.at))
