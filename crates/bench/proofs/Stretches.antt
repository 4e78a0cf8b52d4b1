-- Stretches of faults.
use Rattle.std.proofs.Common.{◌≡◌, ℕ, zero, suc, ◌+◌, ◌-◌, ◌<◌, ◌≤◌, true, false, List, [], ◌∷◌, length, get_or, drop, sym, ap, ◌∙◌, subst, ⊎_elim, add-one, arith}
use Rattle.std.specs.List.{prefix_len}
use Rattle.std.proofs.lemmas.List.{get_or_past}
use Rattle.std.proofs.lemmas.List.Sums.{prefix_len-drop_yes}
use Rattle.std.proofs.lemmas.Bool.{both_ways, cases_Bool, cases_lt, cond-true, cond-false}
use Rattle.bench.specs.Codes.{Longest, Stretch, faulty, longest, streak}

-- after the last code there are no faults
pub fault_inside : (codes : List ℕ) (i : ℕ) → faulty (get_or codes i 0) ≡ true → i < length codes
fault_inside codes i e =
    ⊎_elim (λ h. h) (λ h. absurd (both_ways (faulty (get_or codes i 0)) (ap faulty (get_or_past codes i 0 h)) e)) (cases_lt i (length codes))

module _ (codes : List ℕ) (n : ℕ) where
  pub streak_grows : faulty (get_or codes n 0) ≡ true → streak codes (n + 1) ≡ streak codes n + 1
  unfolding streak
  streak_grows e = ap (streak codes) (add-one n) ∙ cond-true _ _ _ e

  pub streak_ends : faulty (get_or codes n 0) ≡ false → streak codes (n + 1) ≡ 0
  unfolding streak
  streak_ends e = ap (streak codes) (add-one n) ∙ cond-false _ _ _ e

-- a streak is a stretch that ends at its position
record JustBefore (codes : List ℕ) (position : ℕ) : Type 0 where
  within : streak codes position ≤ position
  stretch : Stretch codes (position - streak codes position) (streak codes position)

just_before : (codes : List ℕ) (position : ℕ) → JustBefore codes position
unfolding streak
just_before codes zero = record { within = omega arith; stretch = λ i l h. absurd (omega arith) }
just_before codes (suc n) =
    let p = just_before codes n in
    let low : streak codes n ≤ n = p.within in
    let up : suc n ≡ n + 1 = sym (add-one n) in
    ⊎_elim
    (λ e. let k : streak codes (suc n) ≡ streak codes n + 1 = cond-true _ _ _ e in
    record {
      within = omega arith;
      stretch = λ i l h. ⊎_elim (λ b. p.stretch i (omega arith) (omega arith)) (λ b. let j : n ≡ i = omega arith in subst (λ m. faulty (get_or codes m 0) ≡ true) j e) (cases_lt i n);
    })
    (λ e. let k : streak codes (suc n) ≡ 0 = cond-false _ _ _ e in
    record { within = omega arith; stretch = λ i l h. absurd (omega arith) })
    (cases_Bool (faulty (get_or codes n 0)))

-- a stretch is a front of what is left
stretch_leads : (codes : List ℕ) (from n : ℕ) → Stretch codes from n → n ≤ prefix_len faulty (drop from codes)
stretch_leads codes from zero h = omega arith
stretch_leads codes from (suc n) h =
    let here : faulty (get_or codes from 0) ≡ true = h from (omega arith) (omega arith) in
    omega (arith, prefix_len-drop_yes faulty codes from 0 (fault_inside codes from here) here, stretch_leads codes (from + 1) n (λ i l u. h i (omega arith) (omega arith)))

leads_within : (codes : List ℕ) (from : ℕ) → prefix_len faulty (drop from codes) ≤ longest codes
unfolding longest
leads_within [] zero = omega arith
leads_within [] (suc n) = omega arith
leads_within (c ∷ codes) zero = omega arith
leads_within (c ∷ codes) (suc n) = omega (arith, leads_within codes n)

no_longer : (codes : List ℕ) (from n : ℕ) → Stretch codes from n → n ≤ longest codes
no_longer codes from n h = omega (arith, stretch_leads codes from n h, leads_within codes from)

pub streak_within : (codes : List ℕ) (position : ℕ) → streak codes position ≤ longest codes
streak_within codes position = no_longer codes (position - streak codes position) (streak codes position) (just_before codes position).stretch

-- a front of faults is a stretch
front_stretch : (codes : List ℕ) → Stretch codes 0 (prefix_len faulty codes)
front_stretch [] i l h = absurd (omega arith)
front_stretch (c ∷ codes) zero l h =
    ⊎_elim (λ e. e) (λ e. let none : prefix_len faulty (c ∷ codes) ≡ 0 = cond-false _ _ _ e in absurd (omega arith)) (cases_Bool (faulty c))
front_stretch (c ∷ codes) (suc i) l h =
    ⊎_elim
    (λ e. let more : prefix_len faulty (c ∷ codes) ≡ 1 + prefix_len faulty codes = cond-true _ _ _ e in front_stretch codes i (omega arith) (omega arith))
    (λ e. let none : prefix_len faulty (c ∷ codes) ≡ 0 = cond-false _ _ _ e in absurd (omega arith))
    (cases_Bool (faulty c))

-- the stretch, one place on
shifted : (c : ℕ) (codes : List ℕ) (from n : ℕ) → Stretch codes from n → Stretch (c ∷ codes) (suc from) n
shifted c codes from n h zero l u = absurd (omega arith)
shifted c codes from n h (suc i) l u = h i (omega arith) (omega arith)

found : (codes : List ℕ) → (start : ℕ) × Stretch codes start (longest codes)
unfolding longest
found [] = (0, λ i l h. absurd (omega arith))
found (c ∷ codes) =
    let rest = found codes in
    ⊎_elim
    (λ h. let e : prefix_len faulty (c ∷ codes) ≡ longest (c ∷ codes) = omega arith in (0, subst (Stretch (c ∷ codes) 0) e (front_stretch (c ∷ codes))))
    (λ h. let e : longest codes ≡ longest (c ∷ codes) = omega arith in (suc rest.0, subst (Stretch (c ∷ codes) (suc rest.0)) e (shifted c codes rest.0 (longest codes) rest.1)))
    (cases_lt (longest codes) (prefix_len faulty (c ∷ codes)))

pub longest_is : (codes : List ℕ) → Longest codes (longest codes)
longest_is codes = let f = found codes in record { start = f.0; stretch = f.1; no_longer = no_longer codes }
