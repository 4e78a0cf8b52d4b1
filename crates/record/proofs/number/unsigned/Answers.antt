use Rattle.std.proofs.Common.{length, arith, rules}
use Rattle.record.proofs.Positions.{pow_most, whole}
use Rattle.record.proofs.number.unsigned.Goals as goal

pub returns : goal.returns
returns c =
    let bs = c.args.bytes.now in
    let m = pow_most 256 (length bs) 8 (omega arith) (omega arith) in
    let h = whole 256 (λ b. b) 1 c.positional.result bs (omega arith) (λ i. let r = c.type_inv.bytes i in omega arith) (omega (arith, m)) (c.positional.ensures (λ b. b) (λ b d k. search rules)) in
    record { value = h.0; bound = omega (arith, h.1) }
