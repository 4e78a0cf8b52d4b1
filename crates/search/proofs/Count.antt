-- How many probes a search sends over a line without faults.
use Rattle.std.proofs.Common.{◌≡◌, ℕ, zero, suc, ◌+◌, ◌*◌, ◌<◌, ◌≤◌, cond, List, [], ◌∷◌, length, refl, ap, arith}
use Rattle.std.proofs.lemmas.Bool.{cond-true, cond-false, lt-ltb, le-ltb}
use Rattle.search.specs.Numbers.{digits, longer, further}
use Rattle.search.specs.Counts.{total, passing, sum_to}
use Rattle.search.specs.Verdicts.{fitting, common, commons, verdict_on}
use Rattle.search.proofs.Walks.{probes, sent}
use Rattle.search.proofs.Totals.{total_ext, total_add, total_scale, total_const, total_joined, sumTo_ext, sumTo_total}
use Rattle.search.proofs.Begin.{fitting_longer}

module _ {M : Type 0} (number : M → List ℕ) (ms : List M) where
  -- how many of the beginnings that go on from p by less than d digits are common
  abbrev gains : ℕ → List ℕ → ℕ
  gains d p = sum_to d (λ l. passing (common number ms) (further l p))

  gains_suc : (d : ℕ) (p : List ℕ) → gains (suc d) p ≡ cond (common number ms p) 1 0 + total (λ c. gains d (longer p c)) digits
  unfolding further
  gains_suc d p =
      let t : X = λ q. cond (common number ms q) 1 0 in
      let a = sumTo_ext d (λ l. total t (further (suc l) p)) (λ l. total (λ c. total t (further l (longer p c))) digits) (λ l. total_joined t (λ c. further l (longer p c)) digits) in
      let b = sumTo_total d (λ l c. total t (further l (longer p c))) digits in
      omega arith
    where
      X : Type 0
      X = List ℕ → ℕ

  -- nothing that goes on from a beginning of one meter at most is common
  gains_none : (d : ℕ) (p : List ℕ) → length (fitting number ms p) ≤ 1 → gains d p ≡ 0
  gains_none zero p h = refl
  gains_none (suc d) p h =
      let c : ◌≡◌ {A = ℕ} (cond (common number ms p) 1 0) 0 = cond-false (common number ms p) 1 0 (le-ltb 1 (length (fitting number ms p)) h) in
      let t = total_ext (λ c. gains d (longer p c)) (λ c. 0) (λ c. gains_none d (longer p c) (let l = fitting_longer number ms p c in omega arith)) digits in
      let z = total_const 0 digits in
      let s = gains_suc d p in
      omega arith

  counted : (d : ℕ) (p : List ℕ) → probes number ms d p ≡ 1 + 10 * gains d p
  unfolding probes
  counted zero p = refl
  counted (suc d) p = go (fitting number ms p) refl (total_ext (λ c. probes number ms d (longer p c)) (λ c. 1 + 10 * gains d (longer p c)) (λ c. counted d (longer p c)) digits)
    where
      deeper : ℕ
      deeper = total (λ c. probes number ms d (longer p c)) digits

      go : (fs : List M) → fitting number ms p ≡ fs → deeper ≡ total (λ c. 1 + 10 * gains d (longer p c)) digits → probes number ms (suc d) p ≡ 1 + 10 * gains (suc d) p
      go [] e t =
          let h : length (fitting number ms p) ≤ 1 = rw e (omega arith) in
          let z = gains_none (suc d) p h in
          let s : probes number ms (suc d) p ≡ 1 = ap (λ l. sent deeper (verdict_on l)) e in
          omega arith
      go (m ∷ []) e t =
          let h : length (fitting number ms p) ≤ 1 = rw e (omega arith) in
          let z = gains_none (suc d) p h in
          let s : probes number ms (suc d) p ≡ 1 = ap (λ l. sent deeper (verdict_on l)) e in
          omega arith
      go (m ∷ n ∷ fs) e t =
          let h : 1 < length (fitting number ms p) = rw e (omega arith) in
          let c : ◌≡◌ {A = ℕ} (cond (common number ms p) 1 0) 1 = cond-true (common number ms p) 1 0 (lt-ltb 1 (length (fitting number ms p)) h) in
          let s : probes number ms (suc d) p ≡ 1 + deeper = ap (λ l. sent deeper (verdict_on l)) e in
          let g = gains_suc d p in
          let a = total_add (λ c. 1) (λ c. 10 * gains d (longer p c)) digits in
          let b = total_scale 10 (λ c. gains d (longer p c)) digits in
          let k = total_const 1 digits in
          omega arith

-- one probe, and ten for each beginning that is common to two or more meters
pub probes_counted : {M : Type 0} (number : M → List ℕ) (ms : List M) (D : ℕ) → probes number ms D [] ≡ 1 + 10 * commons number ms D
unfolding commons
probes_counted number ms D = counted number ms D []
