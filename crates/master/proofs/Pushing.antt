-- One more entry in the next place of a list.
use Rattle.std.proofs.Common.{◌≡◌, ℕ, ◌+◌, ◌≤◌, cond, List, [], ◌∷◌, ◌++◌, length, drop, set, is_ok, Some, Ok, Err, Option, Result, sym, refl, ap, ◌∙◌, subst, ⊎_elim, arith, length-set, MatchResult}
use Rattle.std.specs.Option.{option_to_list}
use Rattle.std.proofs.lemmas.List.{drop-set-lt, drop-drop}
use Rattle.std.proofs.lemmas.Bool.{cases_lt, lt-ltb, le-ltb}
use Rattle.list.specs.declared.fixed_list.FixedList.{FixedList}
use Rattle.list.specs.declared.full.Full.{Full}
use Rattle.list.specs.FixedLists.{all_places, entries_of, put_entries, put_places, put_result, put_used, used_of}
use Rattle.master.specs.Lists.{Filled}

-- what is left of the places after an entry that may find no place
pub record Added {T : Type 0} (l l' : FixedList T) (x : T) (r : Result (Unit {0}) Full) : Type 0 where
  pub cases : MatchResult r (λ _. entries_of l' ≡ entries_of l ++ x ∷ []) (λ _. (◌≡◌ {A = ℕ} 1 1) × (entries_of l' ≡ entries_of l) × (used_of l' ≡ length (all_places l')))
  pub filled : (places : List T) → Filled places l → Filled places l'

module _ {T : Type 0} (l l' : FixedList T) (x : T) where
  found_place : (r : Result (Unit {0}) Full) → r ≡ Ok tt → all_places l' ≡ set (all_places l) (used_of l) x → used_of l' ≡ used_of l + 1 → entries_of l' ≡ put_entries (entries_of l) x (is_ok r) → Added l l' x r
  found_place (Ok u) e p u' es =
      record {
        cases = es;
        filled = λ places f.
            let one : drop 1 (drop (used_of l) (all_places l)) ≡ drop 1 (drop (used_of l) places) = ap (drop 1) f.untouched in
            record {
              size = ap length p ∙ length-set (all_places l) (used_of l) x ∙ f.size;
              untouched = ap (λ k. drop k (all_places l')) u' ∙ ap (drop (used_of l + 1)) p ∙ drop-set-lt (used_of l + 1) (all_places l) (used_of l) x (omega arith)
                  ∙ sym (drop-drop 1 (used_of l) (all_places l)) ∙ one ∙ drop-drop 1 (used_of l) places
                  ∙ ap (λ k. drop k places) (sym u');
            };
      }
  found_place (Err f) e p u' es = absurd (let z : ◌≡◌ {A = ℕ} 0 1 = cc in omega arith)

  found_none : (r : Result (Unit {0}) Full) → r ≡ Err (record {}) → all_places l' ≡ all_places l → used_of l' ≡ used_of l → length (all_places l) ≤ used_of l → entries_of l' ≡ put_entries (entries_of l) x (is_ok r) → Added l l' x r
  found_none (Ok u) e p u' most es = absurd (let z : ◌≡◌ {A = ℕ} 0 1 = cc in omega arith)
  found_none (Err f) e p u' most es =
      record {
        cases = (refl, es, omega (arith, l.within, ap length p));
        filled = λ places f. record {
          size = ap length p ∙ f.size;
          untouched = ap (λ k. drop k (all_places l')) u' ∙ ap (drop (used_of l)) p ∙ f.untouched ∙ ap (λ k. drop k places) (sym u');
        };
      }

  pub added : (r : Result (Unit {0}) Full) → r ≡ put_result (all_places l) (used_of l) → all_places l' ≡ put_places (all_places l) (used_of l) x → used_of l' ≡ put_used (all_places l) (used_of l) → entries_of l' ≡ put_entries (entries_of l) x (is_ok r) → Added l l' x r
  added r e p u es =
      let xs = all_places l in
      let n = used_of l in
      ⊎_elim
      (λ low. let t = lt-ltb n (length xs) low in
      found_place r (e ∙ ap (λ b. cond b (Ok tt) (Err (record {}))) t) (p ∙ ap (λ b. cond b (set xs n x) xs) t) (u ∙ ap (λ b. cond b (n + 1) n) t) es)
      (λ high. let t = le-ltb n (length xs) high in
      found_none r (e ∙ ap (λ b. cond b (Ok tt) (Err (record {}))) t) (p ∙ ap (λ b. cond b (set xs n x) xs) t) (u ∙ ap (λ b. cond b (n + 1) n) t) high es)
      (cases_lt n (length xs))

-- the same of an entry that is there
pub added_some : {T : Type 0} (l l' : FixedList T) (x : T) (r : Result (Unit {0}) Full) (o : Option T) → o ≡ Some x → Added l l' x r → MatchResult r (λ _. entries_of l' ≡ entries_of l ++ option_to_list o) (λ _. (length (option_to_list o) ≡ 1) × (entries_of l' ≡ entries_of l) × (used_of l' ≡ length (all_places l')))
added_some l l' x r o e a =
    subst (λ v. MatchResult r (λ _. entries_of l' ≡ entries_of l ++ option_to_list v) (λ _. (length (option_to_list v) ≡ 1) × (entries_of l' ≡ entries_of l) × (used_of l' ≡ length (all_places l')))) (sym e) a.cases

pub filled_start : {T : Type 0} (places : List T) (l : FixedList T) → all_places l ≡ places → Filled places l
filled_start places l e = record { size = ap length e; untouched = ap (drop (used_of l)) e }

pub one_of : {X : Type 0} (xs : List X) → length xs ≡ 1 → (x : X) × (xs ≡ x ∷ [])
one_of [] e = absurd (omega arith)
one_of (x ∷ []) e = (x, refl)
one_of (x ∷ y ∷ xs) e = absurd (omega arith)
