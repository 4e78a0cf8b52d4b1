use Rattle.std.proofs.Common.{length, refl, arith, rules}
use Rattle.record.specs.Numbers.{first_bad}
use Rattle.record.proofs.Decimals.{bad_told, few_digits, none_bad}
use Rattle.record.proofs.number.decimal.Goals as goal

pub returns-in-Some : goal.returns-in-Some
returns-in-Some c =
    record { fault = bad_told c.args.place c.in-Some.bad c.args.bytes.now c.in-Some.ensures.1 c.in-Some.ensures.0; value = tt }

pub overflow_cast-n : goal.overflow_cast-n
overflow_cast-n c =
    let h = few_digits (length c.args.bytes.now) _ (omega arith) c.digits-n.ensures.bound in search rules

pub overflow_sub-result : goal.overflow_sub-result
overflow_sub-result c = let h = few_digits (length c.args.bytes.now) _ (omega arith) c.digits-n.ensures.bound in search rules

pub returns-then-bytes-ge240 : goal.returns-then-bytes-ge240
returns-then-bytes-ge240 c =
    let h = few_digits (length c.args.bytes.now) _ (omega arith) c.digits-n.ensures.bound in
    record {
      fault = none_bad c.args.place (first_bad c.args.bytes.now) c.args.bytes.now refl c.in_default.ensures;
      value = search rules;
    }

pub returns : goal.returns
returns c =
    let h = few_digits (length c.args.bytes.now) _ (omega arith) c.digits-n.ensures.bound in
    record {
      fault = none_bad c.args.place (first_bad c.args.bytes.now) c.args.bytes.now refl c.in_default.ensures;
      value = search rules;
    }
