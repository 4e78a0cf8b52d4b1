-- Digits below ten.
use Rattle.std.proofs.Common.{ℕ, ◌<◌, List, length, get_or, take, set, sym, subst, ⊎_elim}
use Rattle.std.proofs.lemmas.List.{get_or-set_same, get_or-set_other, set_past}
use Rattle.std.proofs.ByRecursion.{All-from_get_or, All-take}
use Rattle.std.proofs.lemmas.Bool.{cases_eq, cases_lt}
use Rattle.search.specs.Numbers.{Digits}

-- each element is a digit
abbrev pub Decimal : List ℕ → Type 0
Decimal ds = (k : ℕ) → get_or ds k 0 < 10

pub set_digit : (ds : List ℕ) (i d : ℕ) → d < 10 → Decimal ds → Decimal (set ds i d)
set_digit ds i d h all k =
    ⊎_elim
    (λ within. ⊎_elim
    (λ e. let P : ℕ → Type 0 = λ x. x < 10 in subst (λ j. get_or (set ds i d) j 0 < 10) (sym e) (subst P (sym (get_or-set_same ds i d 0 within)) h))
    (λ n. let P : ℕ → Type 0 = λ x. x < 10 in subst P (sym (get_or-set_other ds i k d 0 n)) (all k))
    (cases_eq k i))
    (λ past. subst (λ l. get_or l k 0 < 10) (sym (set_past ds i d past)) (all k))
    (cases_lt i (length ds))

pub front_digits : (ds : List ℕ) (n : ℕ) → Decimal ds → Digits (take n ds)
front_digits ds n h = All-take (λ d. d < 10) n ds (All-from_get_or (λ d. d < 10) ds 0 (λ i l. h i))
