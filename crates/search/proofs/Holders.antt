-- The meters that have a number, among those whose number begins with something.
use Rattle.std.proofs.Common.{◌≡◌, ℕ, ◌≤◌, Bool, true, false, cond, ◌&&◌, eqb, List, [], ◌∷◌, length, filter, sym, refl, ap, ◌∙◌, subst, inl, arith}
use Rattle.std.specs.List.{AllByRecursion}
use Rattle.std.proofs.lemmas.Bool.{and_parts, and_from, false≢true, eqb-true, eq-eqb}
use Rattle.std.proofs.ByRecursion.{All-weaker, kept_by_passes}
use Rattle.search.specs.Numbers.{begins, same, Number}
use Rattle.search.specs.Counts.{◌∈◌}
use Rattle.search.specs.Verdicts.{fitting, holders, Numbered, Entry, only, shared, number_of, numbers}
use Rattle.search.specs.Laws.{Correct, Present}
use Rattle.search.proofs.Members.{in_all, in_kept_of}

pub same_self : (k : List ℕ) → same k k ≡ true
same_self [] = refl
same_self (d ∷ k) = and_from (eqb d d) (same k k) (eq-eqb d d refl) (same_self k)

pub same_is : (p k : List ℕ) → same p k ≡ true → p ≡ k
same_is [] [] h = refl
same_is [] (e ∷ k) h = absurd (false≢true h)
same_is (d ∷ p) [] h = absurd (false≢true h)
same_is (d ∷ p) (e ∷ k) h =
    let both = and_parts (eqb d e) (same p k) h in
    let q = eqb-true d e both.0 in
    let r = same_is p k both.1 in
    cc

-- at full length to begin with a number is to be it
pub begins_full : (p k : List ℕ) → length p ≡ length k → begins p k ≡ same p k
begins_full [] [] h = refl
begins_full [] (e ∷ k) h = absurd (omega arith)
begins_full (d ∷ p) [] h = refl
begins_full (d ∷ p) (e ∷ k) h = ap (λ b. eqb d e && b) (begins_full p k (omega arith))

pub kept_by_same : {X : Type 0} (t u : X → Bool) (xs : List X) → AllByRecursion (λ x. t x ≡ u x) xs → filter t xs ≡ filter u xs
kept_by_same t u [] h = refl
kept_by_same t u (x ∷ xs) h = let r = kept_by_same t u xs h.1 in let q = h.0 in cc

pub kept_by_kept : {X : Type 0} (t u : X → Bool) → ((x : X) → u x ≡ true → t x ≡ true) → (xs : List X) → filter u (filter t xs) ≡ filter u xs
kept_by_kept t u h [] = refl
kept_by_kept {X} t u h (x ∷ xs) = go (kept_by_kept t u h xs) (t x) (u x) refl (h x)
  where
    go : filter u (filter t xs) ≡ filter u xs → (a b : Bool) → u x ≡ b → (b ≡ true → a ≡ true) → filter u (cond a (x ∷ filter t xs) (filter t xs)) ≡ cond b (x ∷ filter u xs) (filter u xs)
    go r true true q k = let s : cond (u x) (x ∷ filter u (filter t xs)) (filter u (filter t xs)) ≡ x ∷ filter u xs = cc in s
    go r true false q k = let s : cond (u x) (x ∷ filter u (filter t xs)) (filter u (filter t xs)) ≡ filter u xs = cc in s
    go r false true q k = absurd (false≢true (k refl))
    go r false false q k = r

module _ {M : Type 0} (number : M → List ℕ) (ms : List M) where
  pub fitting_full : (D : ℕ) → Numbered number D ms → (k : List ℕ) → length k ≡ D → fitting number ms k ≡ holders number ms k
  fitting_full D hs k h = kept_by_same (λ m. begins k (number m)) (λ m. same k (number m)) ms (All-weaker (λ m. Number D (number m)) (λ m. begins k (number m) ≡ same k (number m)) (λ m g. begins_full k (number m) (h ∙ sym g.0)) ms hs)

  pub fitting_begins : (p : List ℕ) (m : M) (fs : List M) → fitting number ms p ≡ m ∷ fs → begins p (number m) ≡ true
  fitting_begins p m fs e =
      let P : List M → Type 0 = AllByRecursion (λ m. begins p (number m) ≡ true) in
      let h : P (m ∷ fs) = subst P e (kept_by_passes (λ m. begins p (number m)) ms) in
      h.0

  -- the only meter that a beginning fits is the only one with its number
  pub only_holder : (p : List ℕ) (m : M) → fitting number ms p ≡ m ∷ [] → holders number ms (number m) ≡ m ∷ []
  only_holder p m e =
      let b = fitting_begins p m [] e in
      let f : (x : M) → same (number m) (number x) ≡ true → begins p (number x) ≡ true = λ x s. subst (λ k. begins p k ≡ true) (same_is (number m) (number x) s) b in
      let k = kept_by_kept (λ x. begins p (number x)) (λ x. same (number m) (number x)) f ms in
      let s = same_self (number m) in
      let q : filter (λ x. same (number m) (number x)) (m ∷ []) ≡ m ∷ [] = cc in
      sym k ∙ ap (filter (λ x. same (number m) (number x))) e ∙ q

  -- a number with a holder is some meter's
  pub held : (k : List ℕ) (hs : List M) → holders number ms k ≡ hs → 1 ≤ length hs → Present number ms k
  held k [] e l = absurd (omega arith)
  held k (m ∷ hs) e l =
      let i : m ∈ holders number ms k = rw e (inl refl) in
      let P : List M → Type 0 = AllByRecursion (λ x. same k (number x) ≡ true) in
      let s : P (m ∷ hs) = subst P e (kept_by_passes (λ x. same k (number x)) ms) in
      (m, (in_kept_of (λ x. same k (number x)) m ms i, sym (same_is k (number m) s.0)))

  pub correct_present : (e : Entry M) → Correct number ms 1 e → Present number ms (number_of number e)
  correct_present (only m) h = held (number m) (m ∷ []) h (omega arith)
  correct_present (shared k) h = held k (holders number ms k) refl h

  pub all_present : (es : List (Entry M)) → AllByRecursion (Correct number ms 1) es → AllByRecursion (Present number ms) (numbers number es)
  all_present [] h = tt
  all_present (e ∷ es) h = (correct_present e h.0, all_present es h.1)

  pub present_number : (D : ℕ) → Numbered number D ms → (k : List ℕ) → Present number ms k → Number D k
  present_number D hs k c = subst (Number D) c.1.1 (in_all (λ m. Number D (number m)) c.0 ms c.1.0 hs)
