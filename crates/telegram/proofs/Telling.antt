-- The first digit above 9 of a number of four bytes.
use Rattle.std.proofs.Common.{◌≡◌, ℕ, ◌+◌, Bool, true, false, not, List, [], ◌∷◌, length, Some, ap, arith}
use Rattle.std.specs.List.{position}
use Rattle.link.specs.declared.fault.Layer.TheVariants as layer
use Rattle.link.specs.declared.fault.Report.{Report}
use Rattle.link.specs.Checks.{first_fault}
use Rattle.link.specs.Faults.{report_at}
use Rattle.telegram.specs.Digits.{decimal, digit_checks}

-- by which of the four bytes are decimal
told : (x y z w : Bool) (start i : ℕ) → position not (x ∷ y ∷ z ∷ w ∷ []) ≡ Some i → (r : ℕ → Report) → Some (r (start + i)) ≡ first_fault (Rattle.link.specs.Checks.must x (r start) ∷ Rattle.link.specs.Checks.must y (r (start + 1)) ∷ Rattle.link.specs.Checks.must z (r (start + 2)) ∷ Rattle.link.specs.Checks.must w (r (start + 3)) ∷ [])
told false y z w start i h r = ap (λ k. Some (r k)) (let e : i ≡ 0 = cc in omega arith)
told true false z w start i h r = let e : i ≡ 1 = cc in ap (λ k. Some (r (start + k))) e
told true true false w start i h r = let e : i ≡ 2 = cc in ap (λ k. Some (r (start + k))) e
told true true true false start i h r = let e : i ≡ 3 = cc in ap (λ k. Some (r (start + k))) e
told true true true true start i h r = let z : ◌≡◌ {A = ℕ} 0 1 = cc in absurd (omega arith)

pub first_told : (n : List ℕ) (start i : ℕ) → length n ≡ 4 → position (λ b. not (decimal b)) n ≡ Some i → Some (report_at layer.Reply 10 (start + i)) ≡ first_fault (digit_checks start n)
first_told (a ∷ b ∷ c ∷ d ∷ []) start i l h = told (decimal a) (decimal b) (decimal c) (decimal d) start i h (λ p. report_at layer.Reply 10 p)
first_told [] start i l h = absurd (omega arith)
first_told (a ∷ []) start i l h = absurd (omega arith)
first_told (a ∷ b ∷ []) start i l h = absurd (omega arith)
first_told (a ∷ b ∷ c ∷ []) start i l h = absurd (omega arith)
first_told (a ∷ b ∷ c ∷ d ∷ e ∷ n) start i l h = absurd (omega arith)
