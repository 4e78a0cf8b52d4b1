-- A search probes beginnings of up to D digits, and ends.
use Rattle.std.proofs.Common.{◌≡◌, ℕ, zero, suc, ◌+◌, ◌-◌, ◌*◌, ◌<◌, ◌≤◌, Bool, true, false, cond, ltb, List, [], ◌∷◌, ◌++◌, map, length, refl, ap, arith, length-append}
use Rattle.std.specs.List.{AllByRecursion}
use Rattle.std.proofs.lemmas.Bool.{ltb-true, lt-ltb, le-ltb, cond-true, cond-false}
use Rattle.std.proofs.ByRecursion.{All-append}
use Rattle.search.specs.Numbers.{Digits, longer, children, digits}
use Rattle.search.specs.Verdicts.{Verdict, nobody, one, several, Entry, followers, found}
use Rattle.search.specs.Searches.{Reached, start, probe}
use Rattle.search.specs.Next.{size, left}
use Rattle.search.proofs.Totals.{total_append}

pub length_longer : (p : List ℕ) (c : ℕ) → length (longer p c) ≡ suc (length p)
length_longer p c = let a = length-append p (c ∷ []) in omega arith

-- a beginning of up to D digits
abbrev pub InTree : ℕ → List ℕ → Type 0
InTree D p = Digits p × (length p ≤ D)

longer_in_tree : (D : ℕ) (p : List ℕ) → Digits p → length p < D → (cs : List ℕ) → Digits cs → AllByRecursion (InTree D) (map (longer p) cs)
longer_in_tree D p g l [] h = tt
longer_in_tree D p g l (c ∷ cs) h = ((All-append (λ d. d < 10) p (c ∷ []) g (h.0, tt), let a = length_longer p c in omega arith), longer_in_tree D p g l cs h.1)

pub digits_small : Digits digits
digits_small = omega arith

left_longer : (D : ℕ) (p : List ℕ) (d : ℕ) → D - length p ≡ suc d → (cs : List ℕ) → left D (map (longer p) cs) ≡ length cs * size d
left_longer D p d e [] = omega arith
left_longer D p d e (c ∷ cs) =
    let a = length_longer p c in
    let s : D - length (longer p c) ≡ d = omega arith in
    let t = ap size s in
    let r = left_longer D p d e cs in
    omega arith

size_positive : (d : ℕ) → 0 < size d
size_positive zero = omega arith
size_positive (suc d) = omega arith

module _ {M : Type 0} (D : ℕ) where
  followers_in_tree : (p : List ℕ) (v : Verdict M) → InTree D p → AllByRecursion (InTree D) (followers D p v)
  followers_in_tree p nobody h = tt
  followers_in_tree p (one m) h = tt
  followers_in_tree p several h = go (ltb (length p) D) refl
    where
      go : (b : Bool) → ltb (length p) D ≡ b → AllByRecursion (InTree D) (cond b (children p) [])
      go true e = longer_in_tree D p h.0 (ltb-true (length p) D e) digits digits_small
      go false e = tt

  pub in_tree : {May : List ℕ → Verdict M → Type 0} {ps : List (List ℕ)} {es : List (Entry M)} {n : ℕ} → Reached May D ps es n → AllByRecursion (InTree D) ps
  in_tree start = ((tt, omega arith), tt)
  in_tree (probe {p} {rest} {es} {n} r v h) =
      let g = in_tree r in
      All-append (InTree D) (followers D p v) rest (followers_in_tree p v g.0) g.1

  -- what is left to probe falls with each probe
  pub left_falls : (p : List ℕ) (v : Verdict M) (rest : List (List ℕ)) → left D (followers D p v ++ rest) < left D (p ∷ rest)
  left_falls p nobody rest = let s = size_positive (D - length p) in omega arith
  left_falls p (one m) rest = let s = size_positive (D - length p) in omega arith
  left_falls p several rest = go (D - length p) refl
    where
      go : (d : ℕ) → D - length p ≡ d → left D (cond (ltb (length p) D) (children p) [] ++ rest) < size (D - length p) + left D rest
      go zero e =
          let c : cond (ltb (length p) D) (children p) [] ≡ [] = cond-false (ltb (length p) D) (children p) [] (le-ltb (length p) D (omega arith)) in
          let s = size_positive (D - length p) in
          rw c (omega arith)
      go (suc d) e =
          let c : cond (ltb (length p) D) (children p) [] ≡ children p = cond-true (ltb (length p) D) (children p) [] (lt-ltb (length p) D (omega arith)) in
          let a = total_append (λ q. size (D - length q)) (children p) rest in
          let l = left_longer D p d e digits in
          let s = ap size e in
          rw c (omega arith)

  -- so a search sends at most one probe for each beginning of up to D digits
  pub left_bound : {May : List ℕ → Verdict M → Type 0} {ps : List (List ℕ)} {es : List (Entry M)} {n : ℕ} → Reached May D ps es n → n + left D ps ≤ size D
  left_bound start = let e : D - 0 ≡ D = omega arith in let s = ap size e in omega arith
  left_bound (probe {p} {rest} {es} {n} r v h) = let b = left_bound r in let f = left_falls p v rest in omega arith

  -- and it can be taken to its end
  pub finish : {May : List ℕ → Verdict M → Type 0} (tell : (p : List ℕ) → (v : Verdict M) × May p v) (fuel : ℕ) (ps : List (List ℕ)) (es : List (Entry M)) (n : ℕ) → Reached May D ps es n → left D ps ≤ fuel → (es' : List (Entry M)) × ((n' : ℕ) × Reached May D [] es' n')
  finish tell fuel [] es n r l = (es, (n, r))
  finish tell zero (p ∷ rest) es n r l = absurd (let s = size_positive (D - length p) in omega arith)
  finish tell (suc fuel) (p ∷ rest) es n r l =
      finish tell fuel (followers D p (tell p).0 ++ rest) (es ++ found D p (tell p).0) (suc n) (probe r (tell p).0 (tell p).1) (let f = left_falls p (tell p).0 rest in omega arith)

  -- what one line may tell another may tell too
  pub reached_weaker : {May Other : List ℕ → Verdict M → Type 0} → ((p : List ℕ) (v : Verdict M) → May p v → Other p v) → {ps : List (List ℕ)} {es : List (Entry M)} {n : ℕ} → Reached May D ps es n → Reached Other D ps es n
  reached_weaker w start = start
  reached_weaker w (probe {p} {rest} {es} {n} r v h) = probe (reached_weaker w r) v (w p v h)
