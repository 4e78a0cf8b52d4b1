use Rattle.std.proofs.Common.{ℕ, ◌+◌, ◌-◌, ◌*◌, ◌^◌, ◌<◌, ◌≤◌, length, negsuc, ◌-ℤ◌, ap, ◌∙◌, arith, w64, to_z, of_z}
use Rattle.record.specs.Numbers.{signed}
use Rattle.record.proofs.Decimals.{from_half}
use Rattle.record.proofs.Positions.{half_is, half_twice, pow_most}
use Rattle.record.proofs.number.integer.Goals as goal
use Rattle.record.proofs.number.integer.Goals.{then-negative, else-negative}

pub overflow_sub-distance-then-negative-2 : goal.overflow_sub-distance-then-negative-2
overflow_sub-distance-then-negative-2 c =
    let k = length c.args.bytes.now in
    omega (arith, half_is k (omega arith) (omega arith), half_twice k (omega arith), c.unsigned-n.ensures.bound)

pub returns-then-negative-2 : goal.returns-then-negative-2
returns-then-negative-2 c =
    let k = length c.args.bytes.now in
    let half : ℕ = 2 ^ (8 * k - 1) in
    let n = c.unsigned-n.result in
    let e = half_is k (omega arith) (omega arith) in
    let b : n < half + half = omega (arith, half_twice k (omega arith), c.unsigned-n.ensures.bound) in
    let l : half ≤ 2 ^ 63 = pow_most 2 (8 * k - 1) 63 (omega arith) (omega arith) in
    elim c.if-negative.branch [
      | then-negative w ↦
          ap (λ d. to_z w64 (of_z w64 (negsuc 0 -ℤ to_z w64 d))) w.distance-is
          ∙ ap (λ h. to_z w64 (of_z w64 (negsuc 0 -ℤ to_z w64 (h - 1 - (n - h))))) e
          ∙ from_half half n (omega (arith, e)) b l
          ∙ ap (signed half) c.unsigned-n.ensures.value
      | else-negative w ↦ absurd (omega (arith, w.if-negative.false, c.if-negative-2.true))
    ]
