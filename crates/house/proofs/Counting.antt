-- Reading a number digit by digit.
use Rattle.std.proofs.Common.{◌≡◌, ℕ, ◌+◌, ◌<◌, ◌≤◌, Bool, true, false, cond, ◌&&◌, leb, ltb, List, [], ◌∷◌, length, get_or, drop, Some, None, Option, fold, sym, refl, ap, ◌∙◌, arith}
use Rattle.std.specs.Bool.{then_some}
use Rattle.std.specs.List.{list_all}
use Rattle.std.proofs.lemmas.List.{at_drop_all, at_drop_more}
use Rattle.std.proofs.lemmas.List.Folds.{list_all_at}
use Rattle.std.proofs.lemmas.Bool.{and_left, and_right, cond-false, lt-leb, lt-ltb}
use Rattle.house.specs.Numbers.{decimal_digit, decimal_value, is_decimal, next_digit}

-- more digits make no number smaller
grows : (a : ℕ) (w : List ℕ) → a ≤ fold next_digit a w
grows a [] = omega arith
grows a (c ∷ w) = omega (arith, grows (next_digit a c) w)

-- the reading of a word up to a place: the digits so far, and their number
pub record Counted (w : List ℕ) (i value : ℕ) : Type 0 where
  pub digits : list_all decimal_digit (drop i w) ≡ list_all decimal_digit w
  pub number : fold next_digit value (drop i w) ≡ decimal_value w

abbrev number : ℕ → List ℕ → Option ℕ
number most w = cond (is_decimal most w) (Some (decimal_value w)) None

refuses : (w : List ℕ) (most : ℕ) → is_decimal most w ≡ false → None ≡ number most w
refuses w most e = sym (cond-false (is_decimal most w) _ _ e)

module _ (w : List ℕ) (i : ℕ) (h : i < length w) where
  pub no_digit : (most : ℕ) → decimal_digit (get_or w i 0) ≡ false → None ≡ number most w
  no_digit most e =
      refuses w most (and_right (ltb 0 (length w)) _ (and_left (list_all decimal_digit w) _ (list_all_at decimal_digit w i 0 h e)))

  module _ (value : ℕ) (was : Counted w i value) where
    further : fold next_digit (next_digit value (get_or w i 0)) (drop (i + 1) w) ≡ decimal_value w
    further = sym (at_drop_more (fold next_digit value) w i 0 h) ∙ was.number

    pub too_large : (most : ℕ) → most < next_digit value (get_or w i 0) → None ≡ number most w
    too_large most l =
        let g = grows (next_digit value (get_or w i 0)) (drop (i + 1) w) in
        refuses w most
        (and_right (ltb 0 (length w)) _ (and_right (list_all decimal_digit w) _ (lt-leb (decimal_value w) most (omega (arith, g, further)))))

    pub counted_more : (next : ℕ) → next ≡ next_digit value (get_or w i 0) → decimal_digit (get_or w i 0) ≡ true → Counted w (i + 1) next
    counted_more next e d =
        rw e
        (record {
          digits = sym (at_drop_more (list_all decimal_digit) w i 0 h ∙ ap (λ b. b && list_all decimal_digit (drop (i + 1) w)) d) ∙ was.digits;
          number = further;
        })

chosen : (b : Bool) (v : ℕ) → then_some b v ≡ cond b (Some v) None
chosen true v = refl
chosen false v = refl

pub counted_all : (w : List ℕ) (most i value : ℕ) → 0 < length w → length w ≤ i → Counted w i value → then_some (leb value most) value ≡ number most w
counted_all w most i value some h was =
    let v : value ≡ decimal_value w = sym (at_drop_all (fold next_digit value) w i h) ∙ was.number in
    let d : true ≡ list_all decimal_digit w = sym (at_drop_all (list_all decimal_digit) w i h) ∙ was.digits in
    chosen (leb value most) value ∙ ap (λ n. cond (leb n most) (Some n) None) v
    ∙ ap (λ b. cond (b && leb (decimal_value w) most) (Some (decimal_value w)) None) d
    ∙ ap (λ b. cond (b && (list_all decimal_digit w && leb (decimal_value w) most)) (Some (decimal_value w)) None) (sym (lt-ltb 0 (length w) some))
