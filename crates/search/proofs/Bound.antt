-- How many probes a search sends at most.
use Rattle.std.proofs.Common.{◌≡◌, ℕ, zero, suc, ◌+◌, ◌-◌, ◌*◌, ◌/◌, ◌≤◌, Bool, true, false, cond, List, [], ◌∷◌, length, refl, arith}
use Rattle.std.proofs.lemmas.Bool.{ltb-true}
use Rattle.search.specs.Numbers.{digits, longer, further, beginnings}
use Rattle.search.specs.Counts.{passing}
use Rattle.search.specs.Verdicts.{fitting, common, commons}
use Rattle.search.proofs.Walks.{probes}
use Rattle.search.proofs.Totals.{total_le, total_scale, total_joined, sumTo_le, passing_le, sumTo_const}
use Rattle.search.proofs.Begin.{fitting_parts, kept_by_short}
use Rattle.search.proofs.Count.{probes_counted}

module _ {M : Type 0} (number : M → List ℕ) (ms : List M) where
  -- the common ones among the beginnings of one length share out the meters, two or more to each
  pub halved : (l : ℕ) (p : List ℕ) → 2 * passing (common number ms) (further l p) ≤ length (fitting number ms p)
  unfolding further
  halved zero p = go (common number ms p) refl
    where
      go : (b : Bool) → common number ms p ≡ b → 2 * (cond b 1 0 + 0) ≤ length (fitting number ms p)
      go true h = let k = ltb-true 1 (length (fitting number ms p)) h in omega arith
      go false h = omega arith
  halved (suc l) p =
      let t : List ℕ → ℕ = λ q. cond (common number ms q) 1 0 in
      let j = total_joined t (λ c. further l (longer p c)) digits in
      let s = total_scale 2 (λ c. passing (common number ms) (further l (longer p c))) digits in
      let e = total_le (λ c. 2 * passing (common number ms) (further l (longer p c))) (λ c. length (fitting number ms (longer p c))) (λ c. halved l (longer p c)) digits in
      let f = fitting_parts number ms p in
      omega arith

  level : (l : ℕ) → passing (common number ms) (beginnings l) ≤ length ms / 2
  level l = let h = halved l [] in let s = kept_by_short (λ m. true) ms in omega arith

  -- the empty beginning is one, and each further length has one to two meters at most
  few : (D : ℕ) → commons number ms D ≤ 1 + (D - 1) * (length ms / 2)
  unfolding commons further
  few zero = omega arith
  few (suc n) =
      let s = sumTo_le n (λ l. passing (common number ms) (beginnings (suc l))) (λ l. length ms / 2) (λ l. level (suc l)) in
      let k = sumTo_const n (length ms / 2) in
      let f = passing_le (common number ms) ([] ∷ []) in
      let e : suc n - 1 ≡ n = omega arith in
      rw e (omega arith)

pub probes_bounded : {M : Type 0} (number : M → List ℕ) (ms : List M) (D : ℕ) → probes number ms D [] ≤ 11 + 10 * (D - 1) * (length ms / 2)
probes_bounded number ms D = let c = probes_counted number ms D in let f = few number ms D in omega arith
