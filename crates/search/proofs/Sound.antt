-- What a search over any line has listed is true and in order.
use Rattle.std.proofs.Common.{◌≡◌, ℕ, ◌≤◌, Bool, true, false, cond, ltb, List, [], ◌∷◌, ◌++◌, map, length, refl, ap, ◌∙◌, subst, arith}
use Rattle.std.specs.List.{AllByRecursion}
use Rattle.std.proofs.lemmas.Bool.{ltb-false}
use Rattle.std.proofs.lemmas.List.{map-append, append_assoc}
use Rattle.std.proofs.ByRecursion.{All-append, All-weaker}
use Rattle.search.specs.Numbers.{Number, begins, children, digits, Rising, value, Ascending}
use Rattle.search.specs.Verdicts.{Verdict, nobody, one, several, Entry, shared, fitting, Numbered, numbers, number_of, followers, found, Faulty}
use Rattle.search.specs.Searches.{Reached, start, probe}
use Rattle.search.specs.Laws.{Correct, Present, TrueList, ListedTruly}
use Rattle.search.proofs.Order.{begins_self, children_rising, longer_begin, rising_step, rising_front, all_front}
use Rattle.search.proofs.Steps.{in_tree}
use Rattle.search.proofs.Holders.{fitting_full, fitting_begins, only_holder, all_present, present_number}
use Rattle.search.proofs.Values.{values_ascend, ascending_front}

module _ {M : Type 0} (number : M → List ℕ) (ms : List M) where
  -- a probe that tells one meter is right, and several are told only where `least` or more begin so
  abbrev pub Truthful : ℕ → (List ℕ → Verdict M → Type 0) → Type 0
  Truthful least May = ((p : List ℕ) (m : M) → May p (one m) → fitting number ms p ≡ m ∷ []) × ((p : List ℕ) → May p several → least ≤ length (fitting number ms p))

  module _ (least : ℕ) (May : List ℕ → Verdict M → Type 0) (truth : Truthful least May) (D : ℕ) (numbered : Numbered number D ms) where
    -- what a probe of p lists, and then what is probed next
    abbrev next : List ℕ → Verdict M → List (List ℕ)
    next p v = numbers number (found D p v) ++ followers D p v

    next_in_order : (p : List ℕ) (v : Verdict M) → May p v → Rising (next p v) × AllByRecursion (λ y. begins p y ≡ true) (next p v)
    next_in_order p nobody h = (tt, tt)
    next_in_order p (one m) h = ((tt, tt), (fitting_begins number ms p m [] (truth.0 p m h), tt))
    next_in_order p several h = go (ltb (length p) D)
      where
        go : (b : Bool) → Rising (numbers number (cond b [] (shared p ∷ [])) ++ cond b (children p) []) × AllByRecursion (λ y. begins p y ≡ true) (numbers number (cond b [] (shared p ∷ [])) ++ cond b (children p) [])
        go true = (children_rising p, longer_begin p digits)
        go false = ((tt, tt), (begins_self p, tt))

    pub found_correct : (p : List ℕ) (v : Verdict M) → length p ≤ D → May p v → AllByRecursion (Correct number ms least) (found D p v)
    found_correct p nobody l h = tt
    found_correct p (one m) l h = (only_holder number ms p m (truth.0 p m h), tt)
    found_correct p several l h = go (ltb (length p) D) refl
      where
        go : (b : Bool) → ltb (length p) D ≡ b → AllByRecursion (Correct number ms least) (cond b [] (shared p ∷ []))
        go true e = tt
        go false e =
            let n = ltb-false (length p) D e in
            let q : length p ≡ D = omega arith in
            let f = ap length (fitting_full number ms D numbered p q) in
            let t = truth.1 p h in
            (omega arith, tt)

    -- the numbers listed, and then the beginnings still to be probed, rise
    pub sound : {ps : List (List ℕ)} {es : List (Entry M)} {n : ℕ} → Reached May D ps es n → Rising (numbers number es ++ ps) × AllByRecursion (Correct number ms least) es
    sound start = ((tt, tt), tt)
    sound (probe {p} {rest} {es} {n} r v h) = step (sound r) (in_tree D r).0.1
      where
        step : Rising (numbers number es ++ p ∷ rest) × AllByRecursion (Correct number ms least) es → length p ≤ D → Rising (numbers number (es ++ found D p v) ++ (followers D p v ++ rest)) × AllByRecursion (Correct number ms least) (es ++ found D p v)
        step g l =
            let o = next_in_order p v h in
            let s : Rising (numbers number es ++ (next p v ++ rest)) = rising_step p (numbers number es) rest (next p v) o.0 o.1 g.0 in
            (simp (map-append, append_assoc) (simp append_assoc at s), All-append (Correct number ms least) es (found D p v) g.1 (found_correct p v l h))

pub faulty_truthful : {M : Type 0} (number : M → List ℕ) (ms : List M) → Truthful number ms 1 (Faulty number ms)
faulty_truthful number ms = (λ p m h. h, λ p h. h)

pub listed_truly : (M : Type 0) → ListedTruly M
listed_truly M number ms D hs ps es n r =
    let s = sound number ms 1 (Faulty number ms) (faulty_truthful number ms) D hs r in
    let rises = rising_front (numbers number es) ps s.0 in
    let held = all_present number ms es s.1 in
    let NumbersOf = All-weaker (Present number ms) (Number D) (present_number number ms D hs) (numbers number es) held in
    record { rising = rises; values = values_ascend D (numbers number es) NumbersOf rises; present = held; correct = s.1 }

-- the front of a list that is true is true
pub true_front : {M : Type 0} (number : M → List ℕ) (ms : List M) (es fs : List (Entry M)) → TrueList number ms (es ++ fs) → TrueList number ms es
true_front number ms es fs t =
    let e = map-append (number_of number) es fs in
    let v = ap (map value) e ∙ map-append value (numbers number es) (numbers number fs) in
    record {
      rising = rising_front (numbers number es) (numbers number fs) (subst Rising e t.rising);
      values = ascending_front (map value (numbers number es)) (map value (numbers number fs)) (subst Ascending v t.values);
      present = all_front (Present number ms) (numbers number es) (numbers number fs) (subst (AllByRecursion (Present number ms)) e t.present);
      correct = all_front (Correct number ms 1) es fs t.correct;
    }
