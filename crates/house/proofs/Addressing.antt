-- A number of decimal digits is an address's number.
use Rattle.std.proofs.Common.{sym, ◌≡◌, ℕ, ◌+◌, ◌-◌, ◌*◌, ◌/◌, ◌%◌, ◌<◌, ◌≤◌, true, leb, List, length, get_or, is_ok, Some, None, Ok, Err, Result, unwrap_or, refl, ap, ◌∙◌, arith}
use Rattle.std.specs.List.{list_all}
use Rattle.std.proofs.lemmas.List.Sums.{AllPass-from_list_all}
use Rattle.std.proofs.lemmas.Bool.{and_from, and_parts, cond-true, eqb-true, le-leb, leb-true}
use Rattle.std.proofs.lemmas.Option.{none-some}
use Rattle.link.specs.Checks.{first_fault}
use Rattle.telegram.specs.declared.fault.ReplyFault.{ReplyFault}
use Rattle.telegram.specs.Digits.{decimal, digit_checks}
use Rattle.telegram.specs.Faults.{reply_fault}
use Rattle.input.specs.Hex.{hex_value, in_range}
use Rattle.house.specs.declared.number.Digit.TheVariants.{Decimal}
use Rattle.house.specs.Fields.{address_of, is_address}
use Rattle.house.specs.Numbers.{decimal_digit, digit_value, has_digits, pair_at}

digit_small : (c : ℕ) → decimal_digit c ≡ true → digit_value c ≤ 9
unfolding hex_value
digit_small c e =
    let p = and_parts (leb 0x30 c) (leb c 0x39) e in
    let l = leb-true c 0x39 p.1 in
    let v : hex_value c ≡ Some (c - 0x30) = cond-true (in_range 0x30 0x39 c) _ _ e in
    omega (arith, ap (λ o. unwrap_or o 0) v)

digit_at : (w : List ℕ) (i : ℕ) → list_all decimal_digit w ≡ true → i < length w → digit_value (get_or w i 0) ≤ 9
digit_at w i e h =
    digit_small (get_or w i 0) (AllPass-from_list_all decimal_digit w e i 0 h)

both_small : (x y : ℕ) → x ≤ 9 → y ≤ 9 → decimal (x * 16 + y) ≡ true
both_small x y h k = and_from (leb ((x * 16 + y) % 16) 9) _ (le-leb _ 9 (omega arith)) (le-leb ((x * 16 + y) / 16) 9 (omega arith))

pair_decimal : (w : List ℕ) (i : ℕ) → list_all decimal_digit w ≡ true → i + 1 < length w → decimal (pair_at w i) ≡ true
pair_decimal w i e h = both_small (digit_value (get_or w i 0)) (digit_value (get_or w (i + 1) 0)) (digit_at w i e (omega arith)) (digit_at w (i + 1) e h)

no_fault : {T : Type 0} (r : Result T ReplyFault) → reply_fault r ≡ None → is_ok r ≡ true
no_fault (Ok x) e = refl
no_fault (Err f) e = absurd (none-some _ (sym e))

pub is_made : {T : Type 0} (r : Result T ReplyFault) (number maker version medium : List ℕ) → is_address number maker version medium ≡ true → reply_fault r ≡ first_fault (digit_checks 0 (address_of number maker version medium)) → is_ok r ≡ true
is_made r number maker version medium e f =
    let p = and_parts (has_digits Decimal 8 number) _ e in
    let q = and_parts (list_all decimal_digit number) _ p.0 in
    let size : length number ≡ 8 = eqb-true (length number) 8 q.1 in
    let d6 = pair_decimal number 6 q.0 (omega arith) in
    let d4 = pair_decimal number 4 q.0 (omega arith) in
    let d2 = pair_decimal number 2 q.0 (omega arith) in
    let d0 = pair_decimal number 0 q.0 (omega arith) in
    no_fault r (f ∙ (cond-true _ _ _ d6 ∙ (cond-true _ _ _ d4 ∙ (cond-true _ _ _ d2 ∙ cond-true _ _ _ d0))))
