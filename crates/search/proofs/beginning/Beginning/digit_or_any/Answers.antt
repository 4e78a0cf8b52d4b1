use Rattle.std.proofs.Common.{take, sym, ◌∙◌, arith, length-take}
use Rattle.std.proofs.lemmas.List.{get_or-take, get_or_past, get_or_default}
use Rattle.search.proofs.beginning.Beginning.digit_or_any.Goals as goal

pub returns-then-i-self : goal.returns-then-i-self
returns-then-i-self c =
    let b = c.args.self.now in
    record {
      value = get_or_default b.digits c.args.i 0 0xF (omega arith) ∙ sym (get_or-take b.len b.digits c.args.i 0xF (omega arith));
      small = omega (arith, b.decimal c.args.i);
    }

pub returns-else-i-self : goal.returns-else-i-self
returns-else-i-self c =
    let b = c.args.self.now in
    record {
      value = sym (get_or_past (take b.len b.digits) c.args.i 0xF (simp length-take (omega arith)));
      small = omega arith;
    }
