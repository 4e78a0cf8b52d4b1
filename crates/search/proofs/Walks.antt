-- The search over a line without faults as a recursion over the beginnings: what it lists, and how many probes it sends.
use Rattle.std.proofs.Common.{ℕ, zero, suc, ◌+◌, List, [], ◌∷◌}
use Rattle.std.specs.List.{flat_map}
use Rattle.search.specs.Numbers.{longer, digits}
use Rattle.search.specs.Counts.{total}
use Rattle.search.specs.Verdicts.{Verdict, nobody, one, several, Entry, only, shared, verdict_on, fitting}

-- what is listed, and how many probes it takes, where what several meters lead to is given
module _ {M : Type 0} where
  abbrev pub listed : List (Entry M) → Verdict M → List (Entry M)
  listed deeper nobody = []
  listed deeper (one m) = only m ∷ []
  listed deeper several = deeper

  abbrev pub sent : ℕ → Verdict M → ℕ
  sent deeper nobody = 1
  sent deeper (one m) = 1
  sent deeper several = 1 + deeper

-- from p on: d digits may still be added to p
module _ {M : Type 0} (number : M → List ℕ) (ms : List M) where
  unfoldable pub walk : ℕ → List ℕ → List (Entry M)
  walk zero p = listed (shared p ∷ []) (verdict_on (fitting number ms p))
  walk (suc d) p = let deeper : List (Entry M) = flat_map (λ c. walk d (longer p c)) digits in listed deeper (verdict_on (fitting number ms p))

  unfoldable pub probes : ℕ → List ℕ → ℕ
  probes zero p = 1
  probes (suc d) p = let deeper : ℕ = total (λ c. probes d (longer p c)) digits in sent deeper (verdict_on (fitting number ms p))
