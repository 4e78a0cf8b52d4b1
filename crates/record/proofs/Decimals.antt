-- Numbers with a sign, and the digits above 9.
use Rattle.std.proofs.Common.{◌≡◌, ℕ, suc, ◌+◌, ◌-◌, ◌*◌, ◌/◌, ◌%◌, ◌^◌, ◌<◌, ◌≤◌, ⊎_elim, Bool, true, false, cond, leb, ltb, set, get_or-set_other, get_or-set_same, List, [], ◌∷◌, length, get_or, negsuc, ◌-ℤ◌, Some, None, Option, sym, refl, ap, ◌∙◌, subst, zero-add, arith, w64, to_z, of_z}
use Rattle.std.specs.List.{AllWithin, HoldsAt, prefix_len, range_with_len}
use Rattle.std.specs.Option.{MatchOption}
use Rattle.std.proofs.lemmas.List.Sums.{prefix_len_passes}
use Rattle.std.proofs.lemmas.List.FromFn.{get_or-range_with_len, length-range_with_len}
use Rattle.std.proofs.lemmas.Int.{ints}
use Rattle.std.proofs.lemmas.Bool.{and_parts, cases_Bool, cases_lt, cond-true, cond-false, le-ltb, leb-true, lt-ltb}
use Rattle.std.proofs.lemmas.Bool.Decides.{nat_tests}
use Rattle.link.specs.declared.fault.Report.{Report}
use Rattle.link.specs.Checks.{first_fault}
use Rattle.telegram.specs.Digits.{decimal}
use Rattle.record.specs.Faults.{at}
use Rattle.record.specs.Numbers.{digit_checks, digits_value, first_bad, magnitude, negative, signed, top_byte, total}
use Rattle.record.proofs.Leading.{all_pass, first_to_fail}
use Rattle.record.proofs.Positions.{length_magnitude, pair, pair_by_pair, positional_at, pow_most, total_from_0}

-- a number from half on, as it is computed
pub from_half : (half v : ℕ) → half ≤ v → v < half + half → half ≤ 2 ^ 63 → to_z w64 (of_z w64 (negsuc 0 -ℤ to_z w64 (half - 1 - (v - half)))) ≡ signed half v
from_half half v h k l = simp (le-ltb v half h) (omega (arith, ints))

-- one byte more in front, of which x says whether it is decimal
told_more : (x : Bool) (k m p : ℕ) (f : Option Report) → f ≡ cond (ltb k m) (Some (at 14 (p + 1 + k))) None → cond x f (Some (at 14 p)) ≡ cond (ltb (cond x (1 + k) 0) (suc m)) (Some (at 14 (p + cond x (1 + k) 0))) None
told_more true k m p f e =
    let n : p + 1 + k ≡ p + (1 + k) = omega arith in
    let l : ltb k m ≡ ltb (1 + k) (suc m) = grind (arith, nat_tests) in
    e ∙ ap (λ q. cond (ltb k m) (Some (at 14 q)) None) n ∙ ap (λ t. cond t (Some (at 14 (p + (1 + k)))) None) l
told_more false k m p f e =
    let n : p ≡ p + 0 = omega arith in
    let l : ltb 0 (suc m) ≡ true = lt-ltb 0 (suc m) (omega arith) in
    ap (λ q. Some (at 14 q)) n ∙ sym (cond-true (ltb 0 (suc m)) (Some (at 14 (p + 0))) None l)

told : (p : ℕ) (bs : List ℕ) → first_fault (digit_checks p bs) ≡ cond (ltb (prefix_len decimal bs) (length bs)) (Some (at 14 (p + prefix_len decimal bs))) None
told p [] = refl
told p (b ∷ bs) = told_more (decimal b) (prefix_len decimal bs) (length bs) p (first_fault (digit_checks (p + 1) bs)) (told (p + 1) bs)

-- the first digit above 9 is told, or there is none
module _ (p bad : ℕ) (bs : List ℕ) (h : bad ≡ first_bad bs) where
  count_of : length (magnitude bs) ≡ length bs
  count_of = length_magnitude bs

  pub bad_told : bad < length bs → Some (at 14 (p + bad)) ≡ first_fault (digit_checks p (magnitude bs))
  bad_told l =
      let t : ltb (first_bad bs) (length (magnitude bs)) ≡ true = lt-ltb (first_bad bs) (length (magnitude bs)) (omega (arith, count_of)) in
      ap (λ k. Some (at 14 (p + k))) h ∙ sym (told p (magnitude bs) ∙ cond-true (ltb (first_bad bs) (length (magnitude bs))) (Some (at 14 (p + first_bad bs))) None t)

  pub none_bad : length bs ≤ bad → None ≡ first_fault (digit_checks p (magnitude bs))
  none_bad l =
      let t : ltb (first_bad bs) (length (magnitude bs)) ≡ false = le-ltb (first_bad bs) (length (magnitude bs)) (omega (arith, count_of)) in
      sym (told p (magnitude bs) ∙ cond-false (ltb (first_bad bs) (length (magnitude bs))) (Some (at 14 (p + first_bad bs))) None t)

-- sixteen digits are below the largest number
pub few_digits : (k n : ℕ) → k ≤ 8 → n + 2 ≤ 2 * 100 ^ k → n < 2 ^ 63
few_digits k n q h = omega (arith, pow_most 100 k 8 (omega arith) q)

-- a search over the places of the bytes finds the first bad one
module _ (bs : List ℕ) where
  abbrev pub Good : ℕ → Type 0
  Good i = decimal (get_or (magnitude bs) i 0) ≡ true

  abbrev pub Bad : ℕ → Type 0
  Bad i = decimal (get_or (magnitude bs) i 0) ≡ false

  abbrev pub places : List ℕ
  places = range_with_len 0 (length bs)

  place_is : (k : ℕ) → k < length bs → get_or places k 0 ≡ k
  place_is k h = get_or-range_with_len 0 (length bs) k 0 h ∙ zero-add k

  good : (n : ℕ) → n ≤ length bs → AllWithin Good places 0 n → (k : ℕ) → k < n → Good k
  good n l h k m = subst Good (place_is k (omega arith)) (h k 0 (omega arith) m)

  pub bad_found : (r : Option ℕ) → MatchOption r (AllWithin Good places 0 (length places)) (λ x. Bad x × (i : ℕ) × (i < length places) × HoldsAt (λ y. y ≡ x) places i × AllWithin Good places 0 i) → MatchOption r (length bs ≤ first_bad bs) (λ x. (x < length bs) × (x ≡ first_bad bs))
  bad_found None h =
      let e = length_magnitude bs in
      let l = length-range_with_len 0 (length bs) in
      let a = all_pass decimal (magnitude bs) (λ k m. good (length places) (omega (arith, l)) h k (omega (arith, l, e))) in
      omega (arith, a, e)
  bad_found (Some x) (b, i, m, w, g) =
      let e = length_magnitude bs in
      let l = length-range_with_len 0 (length bs) in
      let z : i ≡ x = sym (place_is i (omega (arith, l))) ∙ w 0 in
      let f = first_to_fail decimal (magnitude bs) x (omega (arith, l, e, z)) b (λ k n. good i (omega (arith, l)) g k (omega (arith, z, n))) in
      (omega (arith, l, z), f)

-- a byte with 0 for a sign, which only a sign makes so large
decimal_small : (b : ℕ) → decimal b ≡ true → b < 0xF0
decimal_small b h =
    let k = and_parts (leb (b % 16) 9) (leb (b / 16) 9) h in
    omega (arith, leb-true (b % 16) 9 k.0, leb-true (b / 16) 9 k.1)

clean_at : (bs : List ℕ) (i : ℕ) → i < length bs → get_or bs i 0 < 256 → Good bs i → get_or bs i 0 % 0xF0 ≡ get_or (magnitude bs) i 0
clean_at bs i l r g =
    let n = length bs - 1 in
    let t = top_byte bs in
    ⊎_elim
    (λ y.
    let e : magnitude bs ≡ set bs n (t - 0xF0) = cond-true (negative bs) (set bs n (t - 0xF0)) bs y in
    let big = leb-true 0xF0 t y in
    ⊎_elim
    (λ (m : i < n).
    let o : get_or (magnitude bs) i 0 ≡ get_or bs i 0 = ap (λ xs. get_or xs i 0) e ∙ get_or-set_other bs n i (t - 0xF0) 0 (λ z. omega (arith, z, m)) in
    let s = decimal_small (get_or bs i 0) (ap decimal (sym o) ∙ g) in
    omega (arith, s, o))
    (λ (m : n ≤ i).
    let z : i ≡ n = omega (arith, m, l) in
    let o : get_or (magnitude bs) i 0 ≡ t - 0xF0 = ap (λ xs. get_or xs i 0) e ∙ ap (λ k. get_or (set bs n (t - 0xF0)) k 0) z ∙ get_or-set_same bs n (t - 0xF0) 0 (omega arith) in
    let q : get_or bs i 0 ≡ t = ap (λ k. get_or bs k 0) z in
    omega (arith, o, q, r, big))
    (cases_lt i n))
    (λ y.
    let e : magnitude bs ≡ bs = cond-false (negative bs) (set bs n (t - 0xF0)) bs y in
    let o : get_or (magnitude bs) i 0 ≡ get_or bs i 0 = ap (λ xs. get_or xs i 0) e in
    let s = decimal_small (get_or bs i 0) (ap decimal (sym o) ∙ g) in
    omega (arith, s, o))
    (cases_Bool (negative bs))

-- the number by its bytes, once no digit is bad
pub digits_are : (bs : List ℕ) → ((i : ℕ) → get_or bs i 0 < 256) → length bs ≤ first_bad bs → total (λ i. 100 ^ i) (λ b. pair (b % 0xF0)) 0 bs ≡ digits_value (magnitude bs)
digits_are bs r h =
    sym (total_from_0 100 (λ b. pair (b % 0xF0)) bs)
    ∙ positional_at 100 (λ b. pair (b % 0xF0)) pair bs (magnitude bs) (sym (length_magnitude bs))
    (λ i l. ap pair (clean_at bs i l (r i) (prefix_len_passes decimal (magnitude bs) i 0 (omega (arith, h)))))
    ∙ pair_by_pair (magnitude bs)
