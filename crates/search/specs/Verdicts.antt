-- What a probe of a beginning tells of the meters on a line, and what a search then lists. The meters have any type M, and each a number.
--     fitting number ms p       the meters whose number begins with p, in the line's order
--     holders number ms k       the meters that have the number k
--     commons number ms D       how many beginnings of 0 to D - 1 digits are common to two or more meters
use Rattle.std.specs.Prelude.{◌≡◌, ℕ, ◌<◌, Bool, true, cond, List, [], ◌∷◌, map, length, filter, nat_lt}
use Rattle.std.specs.List.{AllByRecursion}
use Rattle.search.specs.Numbers.{Number, begins, same, children, beginnings}
use Rattle.search.specs.Counts.{passing, sum_to}

-- nobody answers, one meter does, or several
pub data Verdict (M : Type 0) : Type 0 where
  nobody : Verdict M
  one : M → Verdict M
  several : Verdict M

-- the only meter with its number, or a number that several meters share
pub data Entry (M : Type 0) : Type 0 where
  only : M → Entry M
  shared : List ℕ → Entry M

-- the verdict on the meters that a beginning fits
abbrev pub verdict_on : {M : Type 0} → List M → Verdict M
verdict_on [] = nobody
verdict_on (m ∷ []) = one m
verdict_on (m ∷ n ∷ ms) = several

module _ {M : Type 0} (number : M → List ℕ) where
  abbrev pub fitting : List M → List ℕ → List M
  fitting ms p = filter (λ m. begins p (number m)) ms

  abbrev pub holders : List M → List ℕ → List M
  holders ms k = filter (λ m. same k (number m)) ms

  -- p is common to two or more meters
  abbrev pub common : List M → List ℕ → Bool
  common ms p = nat_lt 1 (length (fitting ms p))

  unfoldable pub commons : List M → ℕ → ℕ
  commons ms D = sum_to D (λ l. passing (common ms) (beginnings l))

  -- each meter has a number of D digits
  abbrev pub Numbered : ℕ → List M → Type 0
  Numbered D ms = AllByRecursion (λ m. Number D (number m)) ms

  abbrev pub number_of : Entry M → List ℕ
  number_of (only m) = number m
  number_of (shared k) = k

  abbrev pub numbers : List (Entry M) → List (List ℕ)
  numbers es = map number_of es

-- what follows a probe of p, where numbers have D digits: the beginnings that are probed before all others, and what is listed
module _ {M : Type 0} where
  abbrev pub followers : ℕ → List ℕ → Verdict M → List (List ℕ)
  followers D p nobody = []
  followers D p (one m) = []
  followers D p several = cond (nat_lt (length p) D) (children p) []

  abbrev pub found : ℕ → List ℕ → Verdict M → List (Entry M)
  found D p nobody = []
  found D p (one m) = only m ∷ []
  found D p several = cond (nat_lt (length p) D) [] (shared p ∷ [])

-- what a probe of p may tell over a line without faults, and over any line
module _ {M : Type 0} (number : M → List ℕ) (ms : List M) where
  abbrev pub Clear : List ℕ → Verdict M → Type 0
  Clear p v = v ≡ verdict_on (fitting number ms p)

  abbrev pub Faulty : List ℕ → Verdict M → Type 0
  Faulty p nobody = Unit {0}
  Faulty p (one m) = fitting number ms p ≡ m ∷ []
  Faulty p several = 0 < length (fitting number ms p)

  -- over a line of which it is known whether it is without faults
  abbrev pub Told : Bool → List ℕ → Verdict M → Type 0
  Told faultless p v = Faulty p v × (faultless ≡ true → Clear p v)
