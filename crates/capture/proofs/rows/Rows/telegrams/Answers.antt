use Rattle.std.proofs.Common.{◌≡◌, ◌<◌, ◌^◌, sum_by, length, vec_items, ◌∙◌, arith, rules}
use Rattle.std.proofs.iter.runs.Made.{chains}
use Rattle.capture.proofs.Totals.{total_few, total_is}
use Rattle.capture.proofs.rows.Rows.telegrams.Goals as goal

pub sum-requires-clause-fits : goal.sum-requires-clause-fits
sum-requires-clause-fits c =
    let list = c.args.self.now.list in
    let fits : sum_by (λ r. length r.starts.items) (vec_items list) < 2 ^ 64 = omega (arith, total_few (vec_items list), c.args.self.now.few, list.ok.0) in
    search (rules, chains)

pub returns : goal.returns
returns c =
    let list = c.args.self.now.list in
    let total : c.sum.result ≡ sum_by (λ r. length r.starts.items) (vec_items list) = search (rules, chains) in
    record {
      count = λ bytes. total ∙ total_is bytes (vec_items list);
      few = omega (arith, total_few (vec_items list), c.args.self.now.few, list.ok.0);
    }
