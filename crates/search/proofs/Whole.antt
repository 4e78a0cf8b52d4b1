-- A search over a line without faults lists each number that is present.
use Rattle.std.proofs.Common.{◌≡◌, ℕ, zero, suc, ◌+◌, ◌<◌, true, eqb, List, [], ◌∷◌, length, sym, refl, ap, ◌∙◌, subst, inl, inr, arith}
use Rattle.std.specs.List.{flat_map}
use Rattle.std.proofs.lemmas.Bool.{and_parts, and_from, eq-eqb}
use Rattle.search.specs.Numbers.{Digits, Number, begins, longer, digits}
use Rattle.search.specs.Counts.{◌∈◌}
use Rattle.search.specs.Verdicts.{Entry, shared, verdict_on, fitting, number_of, numbers, Clear}
use Rattle.search.proofs.Walks.{listed, walk}
use Rattle.search.specs.Laws.{ListedWholly}
use Rattle.search.proofs.Holders.{begins_full, same_is}
use Rattle.search.proofs.Steps.{length_longer, reached_weaker}
use Rattle.search.proofs.Members.{in_all, in_kept, in_counting, in_map_joined}
use Rattle.search.proofs.Verdicts.{verdict_one, verdict_several, clear_faulty}
use Rattle.search.proofs.Sound.{Truthful, sound, listed_truly}
use Rattle.search.proofs.Count.{probes_counted}
use Rattle.search.proofs.Bound.{probes_bounded}
use Rattle.search.proofs.Clear.{clear_end}

pub clear_truthful : {M : Type 0} (number : M → List ℕ) (ms : List M) → Truthful number ms 2 (Clear number ms)
clear_truthful number ms = (λ p m h. verdict_one (fitting number ms p) m h, λ p h. verdict_several (fitting number ms p) h)

-- a number that goes on after p has a next digit
next_digit : (p k : List ℕ) → begins p k ≡ true → length p < length k → Digits k → (c : ℕ) × ((c < 10) × (begins (longer p c) k ≡ true))
next_digit [] [] b l g = absurd (omega arith)
next_digit [] (e ∷ k) b l g = (e, (g.0, and_from (eqb e e) true (eq-eqb e e refl) refl))
next_digit (d ∷ p) [] b l g = absurd (omega arith)
next_digit (d ∷ p) (e ∷ k) b l g =
    let both = and_parts (eqb d e) (begins p k) b in
    let n = next_digit p k both.1 (omega arith) g.1 in
    (n.0, (n.1.0, and_from (eqb d e) (begins (longer p n.0) k) both.0 n.1.1))

module _ {M : Type 0} (number : M → List ℕ) (ms : List M) (D : ℕ) (m : M) (present : m ∈ ms) (numbered : Number D (number m)) where
  whole : (d : ℕ) (p : List ℕ) → length p + d ≡ D → begins p (number m) ≡ true → number m ∈ numbers number (walk number ms d p)
  unfolding walk
  whole zero p l b = go (fitting number ms p) refl (in_kept (λ x. begins p (number x)) m ms present b)
    where
      go : (fs : List M) → fitting number ms p ≡ fs → m ∈ fs → number m ∈ numbers number (listed (shared p ∷ []) (verdict_on (fitting number ms p)))
      go [] e i = absurd i
      go (x ∷ []) e i = rw e (elim i [ inl q ↦ inl (ap number q) | inr r ↦ absurd r ])
      go (x ∷ y ∷ fs) e i = rw e (inl (same_is p (number m) (sym (begins_full p (number m) (let n = numbered.0 in omega arith)) ∙ b)))
  whole (suc d) p l b = go (fitting number ms p) refl (in_kept (λ x. begins p (number x)) m ms present b) (λ c h. whole d (longer p c) (let a = length_longer p c in omega arith) h)
    where
      deeper : List (Entry M)
      deeper = flat_map (λ c. walk number ms d (longer p c)) digits

      go : (fs : List M) → fitting number ms p ≡ fs → m ∈ fs → ((c : ℕ) → begins (longer p c) (number m) ≡ true → number m ∈ numbers number (walk number ms d (longer p c))) → number m ∈ numbers number (listed deeper (verdict_on (fitting number ms p)))
      go [] e i w = absurd i
      go (x ∷ []) e i w = rw e (elim i [ inl q ↦ inl (ap number q) | inr r ↦ absurd r ])
      go (x ∷ y ∷ fs) e i w =
          let n = next_digit p (number m) b (let s = numbered.0 in omega arith) numbered.1 in
          rw e (in_map_joined (number_of number) (λ c. walk number ms d (longer p c)) (number m) n.0 digits (in_counting 10 0 n.0 (omega arith) (let h = n.1.0 in omega arith)) (w n.0 n.1.1))

pub listed_wholly : (M : Type 0) → ListedWholly M
listed_wholly M number ms D hs es n r =
    let s = sound number ms 2 (Clear number ms) (clear_truthful number ms) D hs r in
    let w = clear_end number ms D r in
    let b = probes_bounded number ms D in
    record {
      truly = listed_truly M number ms D hs [] es n (reached_weaker D {May = Clear number ms} (clear_faulty number ms) r);
      complete = λ m i. subst (λ l. number m ∈ numbers number l) (sym w.0) (whole number ms D m i (in_all (λ x. Number D (number x)) m ms i hs) D [] (omega arith) refl);
      correct = s.1;
      counted = w.1 ∙ probes_counted number ms D;
      bounded = let q = w.1 in omega arith;
    }
