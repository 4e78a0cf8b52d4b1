-- The beginnings that are still to be probed, told from the next one alone.
use Rattle.std.specs.Prelude.{ℕ, zero, suc, ◌+◌, ◌-◌, ◌*◌, cond, List, [], ◌∷◌, ◌++◌, map, length, nat_lt}
use Rattle.std.proofs.Math.Option.{Option, none, some}
use Rattle.std.specs.List.{range_with_len}
use Rattle.search.specs.Numbers.{longer}
use Rattle.search.specs.Counts.{total}
use Rattle.search.specs.Verdicts.{Verdict, nobody, one, several}

-- the next beginning where nothing longer than p is probed: its last digit that is not 9 is raised, and what follows it dropped
abbrev pub raisedUnder : ℕ → Option (List ℕ) → Option (List ℕ)
raisedUnder d none = cond (nat_lt d 9) (some ((d + 1) ∷ [])) none
raisedUnder d (some q) = some (d ∷ q)

abbrev pub raised : List ℕ → Option (List ℕ)
raised [] = none
raised (d ∷ p) = raisedUnder d (raised p)

-- the beginning that is probed after p, where numbers have D digits
module _ {M : Type 0} where
  abbrev pub upnext : ℕ → List ℕ → Verdict M → Option (List ℕ)
  upnext D p nobody = raised p
  upnext D p (one m) = raised p
  upnext D p several = cond (nat_lt (length p) D) (some (longer p 0)) (raised p)

-- the beginnings still to be probed where p is the next one: p, those that differ from it in a higher last digit, then those of one digit less, and so on
abbrev pub todo : List ℕ → List (List ℕ)
todo [] = [] ∷ []
todo (d ∷ p) = map (λ q. d ∷ q) (todo p) ++ map (λ e. e ∷ []) (range_with_len (d + 1) (9 - d))

abbrev pub todo? : Option (List ℕ) → List (List ℕ)
todo? none = []
todo? (some p) = todo p

-- how many beginnings go on from one by 0 to d digits
abbrev pub size : ℕ → ℕ
size zero = 1
size (suc d) = 1 + 10 * size d

-- how many of up to D digits go on from those still to be probed: this falls with each probe
abbrev pub left : ℕ → List (List ℕ) → ℕ
left D ps = total (λ p. size (D - length p)) ps
