use Rattle.std.proofs.Common.{None, vec_items, refl, rules}
use Rattle.bench.proofs.Making.{new_means, new_sound}
use Rattle.bench.proofs.Ordering.{order_of}
use Rattle.bench.proofs.bench.Bench.new.Goals as goal

pub invariant_of-result : goal.invariant_of-result
invariant_of-result c =
    record { sound = ∣ new_sound (vec_items c.args.rows) (vec_items c.args.area) (vec_items c.args.codes) c.new-bus.result c.new-bus.ensures.bus (search rules) ∣₁ }

pub returns-clause-order : goal.returns-clause-order
returns-clause-order c = order_of (vec_items c.args.rows) (vec_items c.args.area) (vec_items c.args.codes) None (search rules)

pub returns-clause-bench : goal.returns-clause-bench
returns-clause-bench c =
    let rows = vec_items c.args.rows in
    let area = vec_items c.args.area in
    let codes = vec_items c.args.codes in
    let bus = c.new-bus.result in
    let rest = c.new-bus.ensures.bus in
    record { means = new_means rows area codes bus rest; sound = new_sound rows area codes bus rest (search rules); codes_are = refl; first = refl }
