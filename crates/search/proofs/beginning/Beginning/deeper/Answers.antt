use Rattle.std.proofs.Common.{arith}
use Rattle.std.proofs.lemmas.List.{take_more_set}
use Rattle.search.proofs.Digits.{set_digit}
use Rattle.search.proofs.beginning.Beginning.deeper.Goals as goal

pub invariant_of-result : goal.invariant_of-result
invariant_of-result c =
    record {
      short = omega arith;
      decimal = set_digit c.args.self.now.digits c.args.self.now.len _ (omega arith) c.args.self.now.decimal;
    }

pub returns : goal.returns
returns c = take_more_set c.args.self.now.digits c.args.self.now.len 0 (omega arith)
