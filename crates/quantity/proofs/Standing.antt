-- The laws of the table, by tests that antt computes over all its rows and codes.
use Rattle.std.proofs.Common.{◌≡◌, ℕ, zero, suc, ◌-◌, ◌/◌, ◌%◌, ◌<◌, ◌≤◌, Bool, true, not, ◌&&◌, eqb, leb, List, [], ◌∷◌, get_or, take, drop, Some, None, Option, sym, refl, ap, ◌∙◌, subst, zero-add, arith}
use Rattle.std.proofs.lemmas.List.FromFn.{get_or-range_with_len, length-range_with_len}
use Rattle.std.proofs.ByRecursion.{All-weaker}
use Rattle.std.proofs.lemmas.List.Recursion.{and_at}
use Rattle.std.proofs.lemmas.Bool.{and_parts, cond-false, leb-true, eqb-true, not-true}
use Rattle.std.specs.List.{range_with_len, AllByRecursion, list_all}
use Rattle.quantity.specs.declared.table.Row.{Row}
use Rattle.quantity.specs.Laws.{Rising, TableStands, rows_with}
use Rattle.quantity.specs.Table.{Moderate, first_code, has, lowered, n_of, next_code, row_with, table, vif_meaning}

tested : {X : Type 0} (p : X → Bool) (xs : List X) → list_all p xs ≡ true → AllByRecursion (λ x. p x ≡ true) xs
tested p [] t = tt
tested p (x ∷ xs) t = let h = and_parts (p x) (list_all p xs) t in (h.0, tested p xs h.1)

-- what passes a test at each code
at_code : (p : ℕ → Bool) (n : ℕ) → list_all p (range_with_len 0 n) ≡ true → (c : ℕ) → c < n → p c ≡ true
at_code p n t c h =
    subst (λ k. p k ≡ true) (get_or-range_with_len 0 n c 0 h ∙ zero-add c)
    (and_at (list_all p) p refl (λ _ _. refl) (range_with_len 0 n) c 0 (omega (arith, length-range_with_len 0 n)) t)

abbrev rising : ℕ → List Row → Bool
rising from [] = leb from 128
rising from (r ∷ rs) = leb from (first_code r) && rising (next_code r) rs

rises_by : (from : ℕ) (rs : List Row) → rising from rs ≡ true → Rising from rs
rises_by from [] t = leb-true from 128 t
rises_by from (r ∷ rs) t =
    let h = and_parts (leb from (first_code r)) (rising (next_code r) rs) t in
    (leb-true from (first_code r) h.0, rises_by (next_code r) rs h.1)

pub table_stands : TableStands
unfolding vif_meaning TableStands
table_stands =
    record {
      rises = rises_by 0 table refl;
      aligned =
          All-weaker (λ r. eqb (first_code r % r.count) 0 ≡ true) (λ r. first_code r % r.count ≡ 0) (λ r. eqb-true (first_code r % r.count) 0) table
          (tested (λ r. eqb (first_code r % r.count) 0) table refl);
      once = λ c h. leb-true (rows_with c) 1 (at_code (λ k. leb (rows_with k) 1) 128 refl c h);
      without_row = refl;
      numbered = refl;
      refused = refl;
    }

-- the row at which to begin looking, by the high five bits of a code
abbrev starts : List ℕ
starts =
    0 ∷ 0 ∷ 1 ∷ 1 ∷ 2 ∷ 2 ∷ 3 ∷ 3 ∷ 4 ∷ 5 ∷ 6 ∷ 6 ∷ 7 ∷ 7 ∷ 8 ∷ 8 ∷ 9 ∷ 9 ∷ 10 ∷ 10 ∷ 11 ∷ 11 ∷ 12 ∷ 13 ∷ 14 ∷ 15 ∷ 16 ∷ 17 ∷ 20 ∷ 21 ∷ 22 ∷ 26 ∷ []

-- rows that do not have a code are passed over
passed_over : (c n : ℕ) (rs : List Row) → list_all (λ r. not (has c r)) (take n rs) ≡ true → row_with c (drop n rs) ≡ row_with c rs
passed_over c zero rs t = refl
passed_over c (suc n) [] t = refl
passed_over c (suc n) (r ∷ rs) t =
    let h = and_parts (not (has c r)) (list_all (λ r. not (has c r)) (take n rs)) t in
    passed_over c n rs h.1 ∙ sym (cond-false (has c r) (Some r) (row_with c rs) (not-true (has c r) h.0))

pub start_within : (c : ℕ) → c < 128 → get_or starts (c / 4) 0 ≤ 28
start_within c h = leb-true (get_or starts (c / 4) 0) 28 (at_code (λ k. leb (get_or starts (k / 4) 0) 28) 128 refl c h)

pub start_passed : (c : ℕ) → c < 128 → row_with c (drop (get_or starts (c / 4) 0) table) ≡ row_with c table
start_passed c h =
    passed_over c (get_or starts (c / 4) 0) table (at_code (λ k. list_all (λ r. not (has k r)) (take (get_or starts (k / 4) 0) table)) 128 refl c h)

-- what holds of the row of a code, if it has one
abbrev of_row : (ℕ → Row → Bool) → ℕ → Option Row → Bool
of_row p c None = true
of_row p c (Some r) = p c r

at_row : (p : ℕ → Row → Bool) → list_all (λ k. of_row p k (row_with k table)) (range_with_len 0 128) ≡ true → (c : ℕ) (r : Row) → c < 128 → row_with c table ≡ Some r → p c r ≡ true
at_row p t c r h e = sym (ap (of_row p c) e) ∙ at_code (λ k. of_row p k (row_with k table)) 128 t c h

-- what the meaning of a code stands on: its row has it, n counts from the row's first code, and numbers stay small
pub row_serves : (c : ℕ) (r : Row) → c < 128 → row_with c table ≡ Some r → (has c r ≡ true) × ((n_of c r ≡ c - first_code r) × ((r.count ≤ 8) × Moderate r))
row_serves c r h e = (
  at_row (λ k x. has k x) refl c r h e,
  (
    eqb-true (n_of c r) (c - first_code r) (at_row (λ k x. eqb (n_of k x) (k - first_code x)) refl c r h e),
    (
      leb-true r.count 8 (at_row (λ k x. leb x.count 8) refl c r h e),
      leb-true (lowered r.scale) 9 (at_row (λ k x. leb (lowered x.scale) 9) refl c r h e),
    ),
  ),
)
