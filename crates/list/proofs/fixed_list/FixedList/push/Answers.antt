use Rattle.std.proofs.Common.{arith, rules}
use Rattle.std.proofs.lemmas.List.{take_more_set}
use Rattle.list.proofs.fixed_list.FixedList.push.Goals as goal

pub returns : goal.returns
returns g c =
    let l = c.args.self.now in
    record {
      result = search rules;
      places = search rules;
      used = search rules;
      entries = take_more_set l.places.now l.used c.args.entry (omega arith);
      lender = search rules;
    }
