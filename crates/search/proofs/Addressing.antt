-- The number of an address whose digits are decimal.
use Rattle.std.proofs.Common.{◌≡◌, ℕ, ◌/◌, ◌%◌, ◌<◌, true, leb, List, get_or, refl, arith}
use Rattle.std.proofs.lemmas.Bool.{and_parts, leb-true}
use Rattle.telegram.specs.Digits.{decimal, decimal_number}
use Rattle.search.specs.Numbers.{Number}
use Rattle.search.specs.Addresses.{number}

both : (b : ℕ) → decimal b ≡ true → (b / 16 < 10) × (b % 16 < 10)
both b h =
    let parts = and_parts (leb (b % 16) 9) (leb (b / 16) 9) h in
    let low = leb-true (b % 16) 9 parts.0 in
    let high = leb-true (b / 16) 9 parts.1 in
    (omega arith, omega arith)

pub number_digits : (a : List ℕ) → decimal_number a ≡ true → Number 8 (number a)
number_digits a h =
    let d = decimal in
    let first = and_parts (d (get_or a 0 0)) _ h in
    let second = and_parts (d (get_or a 1 0)) _ first.1 in
    let third = and_parts (d (get_or a 2 0)) (d (get_or a 3 0)) second.1 in
    let b₀ = both (get_or a 0 0) first.0 in
    let b₁ = both (get_or a 1 0) second.0 in
    let b₂ = both (get_or a 2 0) third.0 in
    let b₃ = both (get_or a 3 0) third.1 in
    (refl, (b₃.0, (b₃.1, (b₂.0, (b₂.1, (b₁.0, (b₁.1, (b₀.0, (b₀.1, tt)))))))))
