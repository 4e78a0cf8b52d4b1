use Rattle.std.proofs.Common.{◌≡◌, ◌≤◌, length, take}
use Rattle.search.specs.Next.{raised}
use Rattle.search.proofs.beginning.Beginning.raised.Given as goal

abbrev pub invariant-loop-last : goal.invariant-loop-last
invariant-loop-last l =
    (length l.kept ≤ 8) × (l.kept ≡ take (length l.kept) l.self.digits) × (raised l.kept ≡ raised (take l.self.len l.self.digits))

abbrev pub decreases-loop-last : goal.decreases-loop-last
decreases-loop-last l = length l.kept
