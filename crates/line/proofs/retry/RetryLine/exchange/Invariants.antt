use Rattle.std.proofs.Common.{◌≡◌, ℕ, ◌+◌, ◌-◌, true, List}
use Rattle.line.specs.Exchanges.{State}
use Rattle.line.specs.Layers.{Tries}
use Rattle.line.proofs.retry.RetryLine.exchange.Given as goal

-- whatever the tries that are left lead to, all tries lead to; the limit and the layers below are as they were
abbrev pub invariant-loop : goal.invariant-loop
invariant-loop g l =
    let m = g.L.Line in
    let k : ℕ = l.initial.self.limit + 1 in
    ((r : List ℕ) (u : State) → Tries l.request (k - l.counter) l.silent (m.means l.self.below) r u → Tries l.request k true (m.means l.initial.self.below) r u) × (l.self.limit ≡ l.initial.self.limit) × (m.tries l.self.below ≡ m.tries l.initial.self.below)
