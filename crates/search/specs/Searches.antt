-- A search step by step.
use Rattle.std.specs.Prelude.{ℕ, suc, List, [], ◌∷◌, ◌++◌}
use Rattle.search.specs.Verdicts.{Verdict, Entry, followers, found}

-- The beginnings that are still to be probed, what is listed so far, and how many probes were sent. `May p v` says that a probe of p may tell v,
-- and numbers have D digits
pub data Reached {M : Type 0} (May : List ℕ → Verdict M → Type 0) (D : ℕ) : List (List ℕ) → List (Entry M) → ℕ → Type 0 where
  start : Reached May D ([] ∷ []) [] 0
  probe : {p : List ℕ} {rest : List (List ℕ)} {es : List (Entry M)} {n : ℕ} → Reached May D (p ∷ rest) es n → (v : Verdict M) → May p v → Reached May D (followers D p v ++ rest) (es ++ found D p v) (suc n)
