use Rattle.std.proofs.Common.{◌%◌, length, arith, rules, ◌∙◌}
use Rattle.record.proofs.Decimals.{digits_are}
use Rattle.record.proofs.Positions.{pair, pow_most, whole}
use Rattle.record.proofs.number.digits.Goals as goal

pub returns : goal.returns
returns c =
    let bs = c.args.bytes.now in
    let m = pow_most 100 (length bs) 8 (omega arith) (omega arith) in
    let h = whole 100 (λ b. pair (b % 0xF0)) 2 c.positional.result bs (omega arith) (λ i. omega arith) (omega (arith, m)) (c.positional.ensures (λ b. pair (b % 0xF0)) (λ b d k. search rules)) in
    record { value = h.0 ∙ digits_are bs (λ i. let r = c.type_inv.bytes i in omega arith) c.requires.tested; bound = omega (arith, h.1) }
