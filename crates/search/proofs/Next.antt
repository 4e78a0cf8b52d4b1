-- The next beginning tells all that are still to be probed.
use Rattle.std.proofs.Common.{◌≡◌, ℕ, suc, ◌+◌, ◌-◌, ◌<◌, ◌≤◌, Bool, true, false, cond, ltb, List, [], ◌∷◌, ◌++◌, map, length, sym, refl, ap, ◌∙◌, subst, arith}
use mathlib.Core.Option.{Option, none, some}
use Rattle.std.specs.List.{range_with_len}
use Rattle.std.proofs.lemmas.Bool.{lt-ltb, le-ltb, ltb-true, ltb-false, cond-true, cond-false}
use Rattle.std.proofs.lemmas.List.{append_assoc, map-append}
use Rattle.search.specs.Numbers.{longer, children}
use Rattle.search.specs.Verdicts.{Verdict, nobody, one, several, Entry, followers, found, Told}
use Rattle.search.specs.Searches.{Reached, probe}
use Rattle.search.specs.Next.{raised, raisedUnder, upnext, todo, todo?, left, size}
use Rattle.search.specs.Laws.{NextLeads, ToldIsFaulty}
use Rattle.search.proofs.Steps.{left_falls, left_bound, reached_weaker}

-- d's later siblings
abbrev later : ℕ → List (List ℕ)
later d = map (λ e. e ∷ []) (range_with_len (d + 1) (9 - d))

later_is : (d : ℕ) → later d ≡ todo? (raisedUnder d none)
later_is d = go (ltb d 9) refl
  where
    go : (b : Bool) → ltb d 9 ≡ b → later d ≡ todo? (cond b (some ((d + 1) ∷ [])) none)
    go true h = let l = ltb-true d 9 h in let e : 9 - d ≡ suc (9 - (d + 1)) = omega arith in ap (λ n. map (λ e. e ∷ []) (range_with_len (d + 1) n)) e
    go false h = let l = ltb-false d 9 h in let e : 9 - d ≡ 0 = omega arith in ap (λ n. map (λ e. e ∷ []) (range_with_len (d + 1) n)) e

under : (d : ℕ) (o : Option (List ℕ)) → map (λ q. d ∷ q) (todo? o) ++ later d ≡ todo? (raisedUnder d o)
under d none = later_is d
under d (some q) = refl

-- with p next: p, and then what is next where nothing longer is probed
pub todo_is : (p : List ℕ) → todo p ≡ p ∷ todo? (raised p)
todo_is [] = refl
todo_is (d ∷ p) = ap (λ l. map (λ q. d ∷ q) l ++ later d) (todo_is p) ∙ ap (λ l. (d ∷ p) ∷ l) (under d (raised p))

-- with p and a 0 next: the ten longer ones, and then the same
pub todo_longer : (p : List ℕ) → todo (longer p 0) ≡ children p ++ todo? (raised p)
todo_longer [] = refl
todo_longer (d ∷ p) =
    ap (λ l. map (λ q. d ∷ q) l ++ later d) (todo_longer p)
    ∙ ap (λ l. l ++ later d) (map-append (λ q. d ∷ q) (children p) (todo? (raised p)))
    ∙ append_assoc (children (d ∷ p)) (map (λ q. d ∷ q) (todo? (raised p))) (later d)
    ∙ ap (λ l. children (d ∷ p) ++ l) (under d (raised p))

module _ {M : Type 0} where
  pub todo_upnext : (D : ℕ) (p : List ℕ) (v : Verdict M) → todo? (upnext D p v) ≡ followers D p v ++ todo? (raised p)
  todo_upnext D p nobody = refl
  todo_upnext D p (one m) = refl
  todo_upnext D p several = go (ltb (length p) D)
    where
      go : (b : Bool) → todo? (cond b (some (longer p 0)) (raised p)) ≡ cond b (children p) [] ++ todo? (raised p)
      go true = todo_longer p
      go false = refl

-- how the last digit is raised, from the end of the beginning
pub raised_nine : (p : List ℕ) (c : ℕ) → 9 ≤ c → raised (longer p c) ≡ raised p
raised_nine [] c h = cond-false (ltb c 9) (some ((c + 1) ∷ [])) none (le-ltb c 9 h)
raised_nine (d ∷ p) c h = ap (raisedUnder d) (raised_nine p c h)

pub raised_digit : (p : List ℕ) (c : ℕ) → c < 9 → raised (longer p c) ≡ some (longer p (c + 1))
raised_digit [] c h = cond-true (ltb c 9) (some ((c + 1) ∷ [])) none (lt-ltb c 9 h)
raised_digit (d ∷ p) c h = ap (raisedUnder d) (raised_digit p c h)

module _ {M : Type 0} (May : List ℕ → Verdict M → Type 0) (D : ℕ) where
  pub next_leads_at : (p : List ℕ) (es : List (Entry M)) (n : ℕ) → Reached May D (todo p) es n → (v : Verdict M) → May p v → Reached May D (todo? (upnext D p v)) (es ++ found D p v) (suc n) × (left D (todo? (upnext D p v)) < left D (todo p)) × (suc n ≤ size D)
  next_leads_at p es n r v h =
      let s : Reached May D (p ∷ todo? (raised p)) es n = subst (λ ps. Reached May D ps es n) (todo_is p) r in
      let t : Reached May D (followers D p v ++ todo? (raised p)) (es ++ found D p v) (suc n) = probe s v h in
      let e = ap (left D) (todo_upnext D p v) in
      let f = left_falls D p v (todo? (raised p)) in
      let a = ap (left D) (todo_is p) in
      let b = left_bound D t in
      (subst (λ ps. Reached May D ps (es ++ found D p v) (suc n)) (sym (todo_upnext D p v)) t, omega arith, omega arith)

pub next_leads : (M : Type 0) → NextLeads M
next_leads M number D p v ms faultless es n r h = next_leads_at (Told number ms faultless) D p es n r v h

pub told_is_faulty : (M : Type 0) → ToldIsFaulty M
told_is_faulty M number ms faultless D ps es n r =
    (reached_weaker D {May = Told number ms faultless} (λ p v h. h.0) r, λ e. reached_weaker D {May = Told number ms faultless} (λ p v h. h.1 e) r)
