-- A search over a line without faults, step by step, is the walk.
use Rattle.std.proofs.Common.{◌≡◌, ℕ, zero, suc, ◌+◌, ◌-◌, Bool, cond, List, [], ◌∷◌, ◌++◌, map, length, sym, refl, ap, ◌∙◌, ap₂, arith}
use Rattle.std.specs.List.{flat_map}
use Rattle.std.proofs.lemmas.Bool.{lt-ltb, le-ltb}
use Rattle.std.proofs.lemmas.List.{append_assoc, append-nil}
use Rattle.search.specs.Numbers.{longer, children, digits}
use Rattle.search.specs.Counts.{total}
use Rattle.search.specs.Verdicts.{Verdict, nobody, one, several, Entry, shared, verdict_on, fitting, followers, found, Clear}
use Rattle.search.specs.Searches.{Reached, start, probe}
use Rattle.search.specs.Next.{left}
use Rattle.search.proofs.Walks.{listed, sent, walk, probes}
use Rattle.search.specs.Laws.{SearchEnds}
use Rattle.search.proofs.Totals.{total_append}
use Rattle.search.proofs.Steps.{length_longer, finish}

joined_append : {X A : Type 0} (f : X → List A) (xs ys : List X) → flat_map f (xs ++ ys) ≡ flat_map f xs ++ flat_map f ys
joined_append f [] ys = refl
joined_append f (x ∷ xs) ys = ap (λ l. f x ++ l) (joined_append f xs ys) ∙ sym (append_assoc (f x) (flat_map f xs) (flat_map f ys))

module _ {M : Type 0} (number : M → List ℕ) (ms : List M) (D : ℕ) where
  -- what is listed, and sent, from p on
  abbrev from : List ℕ → List (Entry M)
  from p = walk number ms (D - length p) p

  abbrev costs : List ℕ → ℕ
  costs p = probes number ms (D - length p) p

  from_longer : (p : List ℕ) (d : ℕ) → D - length p ≡ suc d → (c : ℕ) → D - length (longer p c) ≡ d
  from_longer p d e c = let a = length_longer p c in omega arith

  from_children : (p : List ℕ) (d : ℕ) → D - length p ≡ suc d → (cs : List ℕ) → flat_map from (map (longer p) cs) ≡ flat_map (λ c. walk number ms d (longer p c)) cs
  from_children p d e [] = refl
  from_children p d e (c ∷ cs) = ap₂ ◌++◌ (ap (λ x. walk number ms x (longer p c)) (from_longer p d e c)) (from_children p d e cs)

  costs_children : (p : List ℕ) (d : ℕ) → D - length p ≡ suc d → (cs : List ℕ) → total costs (map (longer p) cs) ≡ total (λ c. probes number ms d (longer p c)) cs
  costs_children p d e [] = refl
  costs_children p d e (c ∷ cs) = ap₂ ◌+◌ (ap (λ x. probes number ms x (longer p c)) (from_longer p d e c)) (costs_children p d e cs)

  -- the walk from p on is what the probe of p lists, and then the walks from what follows it
  abbrev Onward : List ℕ → ℕ → Verdict M → Type 0
  Onward p d v = (walk number ms d p ≡ found D p v ++ flat_map from (followers D p v)) × (probes number ms d p ≡ 1 + total costs (followers D p v))

  -- the same where several are told, by the test whether p may grow
  abbrev lists : List ℕ → Bool → List (Entry M)
  lists p b = cond b [] (shared p ∷ []) ++ flat_map from (cond b (children p) [])

  abbrev sends : List ℕ → Bool → ℕ
  sends p b = 1 + total costs (cond b (children p) [])

  onward : (p : List ℕ) (d : ℕ) → D - length p ≡ d → (v : Verdict M) → verdict_on (fitting number ms p) ≡ v → Onward p d v
  unfolding walk probes
  onward p zero e nobody h = (ap (listed (shared p ∷ [])) h, refl)
  onward p (suc d) e nobody h = (ap (listed (flat_map (λ c. walk number ms d (longer p c)) digits)) h, ap (sent (total (λ c. probes number ms d (longer p c)) digits)) h)
  onward p zero e (one m) h = (ap (listed (shared p ∷ [])) h, refl)
  onward p (suc d) e (one m) h = (ap (listed (flat_map (λ c. walk number ms d (longer p c)) digits)) h, ap (sent (total (λ c. probes number ms d (longer p c)) digits)) h)
  onward p zero e several h =
      let b = le-ltb (length p) D (omega arith) in
      (ap (listed (shared p ∷ [])) h ∙ sym (ap (lists p) b), sym (ap (sends p) b))
  onward p (suc d) e several h =
      let b = lt-ltb (length p) D (omega arith) in
      (ap (listed (flat_map (λ c. walk number ms d (longer p c)) digits)) h ∙ sym (from_children p d e digits) ∙ sym (ap (lists p) b), ap (sent (total (λ c. probes number ms d (longer p c)) digits)) h ∙ ap (λ x. 1 + x) (sym (costs_children p d e digits)) ∙ sym (ap (sends p) b))

  -- at any moment, what is listed and what is still to come make up the walk, and so do the probes
  pub on_the_way : {ps : List (List ℕ)} {es : List (Entry M)} {n : ℕ} → Reached (Clear number ms) D ps es n → (es ++ flat_map from ps ≡ walk number ms D []) × (n + total costs ps ≡ probes number ms D [])
  on_the_way start =
      let z : D - 0 ≡ D = omega arith in
      (append-nil (from []) ∙ ap (λ d. walk number ms d []) z, let c = ap (λ d. probes number ms d []) z in omega arith)
  on_the_way (probe {p} {rest} {es} {n} r v h) = step (on_the_way r) (onward p (D - length p) refl v (sym h))
    where
      step : (es ++ (from p ++ flat_map from rest) ≡ walk number ms D []) × (n + (costs p + total costs rest) ≡ probes number ms D []) → Onward p (D - length p) v → (es ++ found D p v ++ flat_map from (followers D p v ++ rest) ≡ walk number ms D []) × (suc n + total costs (followers D p v ++ rest) ≡ probes number ms D [])
      step g o =
          let j = joined_append from (followers D p v) rest in
          let a = append_assoc es (found D p v) (flat_map from (followers D p v ++ rest)) in
          let b = append_assoc (found D p v) (flat_map from (followers D p v)) (flat_map from rest) in
          let t = total_append costs (followers D p v) rest in
          let w = o.0 in
          let k = o.1 in
          let x = g.0 in
          let y = g.1 in
          (cc, omega arith)

  pub clear_end : {es : List (Entry M)} {n : ℕ} → Reached (Clear number ms) D [] es n → (es ≡ walk number ms D []) × (n ≡ probes number ms D [])
  clear_end {es} r = let g = on_the_way r in (sym (append-nil es) ∙ g.0, let h = g.1 in omega arith)

pub search_ends : (M : Type 0) → SearchEnds M
search_ends M number ms D =
    let f = finish D (λ p. (verdict_on (fitting number ms p), refl)) (left D ([] ∷ [])) ([] ∷ []) [] 0 start (omega arith) in
    record { listed = f.0; probes = f.1.0; reached = f.1.1 }
