-- Where the telegram at a place ends.
use Rattle.std.proofs.Common.{◌≡◌, ℕ, ◌+◌, ◌-◌, ◌≤◌, min, List, length, get_or, take, drop, sym, refl, ap, ◌∙◌, ap₂, arith}
use Rattle.std.proofs.lemmas.List.{length-take, length-drop, get_or-drop, take-append-drop, take_at}
use Rattle.capture.specs.Cutting.{telegram_from}

pub length_telegram : (bs : List ℕ) (at : ℕ) → length (telegram_from bs at) ≡ min (6 + get_or bs (at + 1) 0) (length bs - at)
length_telegram bs at = length-take _ (drop at bs) ∙ ap₂ (λ a b. min (6 + a) b) (get_or-drop at bs 1 0) (length-drop at bs)

pub take_length : (n : ℕ) (xs : List ℕ) → take (length (take n xs)) xs ≡ take n xs
take_length n xs = ap (λ ys. take (length (take n xs)) ys) (sym (take-append-drop n xs)) ∙ take_at _ _ _ refl

-- the part of the bytes from a telegram's start to its end is that telegram
pub part_is : (bs : List ℕ) (at end : ℕ) → end ≡ at + length (telegram_from bs at) → take (end - at) (drop at bs) ≡ telegram_from bs at
part_is bs at end e =
    let n : end - at ≡ length (telegram_from bs at) = omega arith in
    ap (λ k. take k (drop at bs)) n ∙ take_length _ (drop at bs)

pub end_within : (bs : List ℕ) (at : ℕ) → at ≤ length bs → at + length (telegram_from bs at) ≤ length bs
end_within bs at h = omega (arith, length_telegram bs at)
