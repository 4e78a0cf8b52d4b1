use Rattle.std.proofs.Common.{◌≡◌, take, arith}
use Rattle.std.proofs.lemmas.List.{take_all}
use Rattle.link.proofs.Ordering.{fails_first_at}
use Rattle.telegram.specs.Digits.{digit_checks}
use Rattle.telegram.proofs.address.methods.AddressTryFromArrayU88.try_from.Goals as goal

pub returns : goal.returns
returns c =
    let bs = c.args.bytes in
    let e : take 8 bs ≡ bs = take_all 8 bs (omega arith) in
    record {
      fault = c.at.ensures.fault;
      order = fails_first_at (digit_checks 0 bs) _ c.at.ensures.fault;
      bytes = simp e at c.at.ensures.bytes;
    }
