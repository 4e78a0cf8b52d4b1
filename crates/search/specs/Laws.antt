-- The laws of a search, as statements, for meters of any type M and numbers of any count of digits D.
use Rattle.std.specs.Prelude.{◌≡◌, ℕ, suc, ◌+◌, ◌-◌, ◌*◌, ◌/◌, ◌<◌, ◌≤◌, Bool, true, List, [], ◌∷◌, ◌++◌, map, length}
use Rattle.std.proofs.Math.Option.{Option}
use Rattle.std.specs.List.{AllByRecursion}
use Rattle.search.specs.Numbers.{Number, ◌≺◌, Rising, value, Ascending}
use Rattle.search.specs.Counts.{◌∈◌}
use Rattle.search.specs.Verdicts.{Verdict, Entry, only, shared, holders, commons, Numbered, numbers, found, Clear, Faulty, Told}
use Rattle.search.specs.Searches.{Reached}
use Rattle.search.specs.Next.{upnext, todo, todo?, size, left}

-- An entry is correct: one that is not shared is of the only meter with its number, and the number of a shared one belongs to `least` meters or more
abbrev pub Correct : {M : Type 0} (number : M → List ℕ) (ms : List M) (least : ℕ) → Entry M → Type 0
Correct number ms least (only m) = holders number ms (number m) ≡ m ∷ []
Correct number ms least (shared k) = least ≤ length (holders number ms k)

-- some meter has the number k
abbrev pub Present : {M : Type 0} (number : M → List ℕ) (ms : List M) → List ℕ → Type 0
Present {M} number ms k = (m : M) × ((m ∈ ms) × (number m ≡ k))

-- What is listed over any line: the numbers rise strictly, each is present, and an entry that is not shared is of the only meter with its number
pub record TrueList {M : Type 0} (number : M → List ℕ) (ms : List M) (es : List (Entry M)) : Type 0 where
  pub rising : Rising (numbers number es)
  pub values : Ascending (map value (numbers number es))
  pub present : AllByRecursion (Present number ms) (numbers number es)
  pub correct : AllByRecursion (Correct number ms 1) es

-- What is listed over a line without faults: each number present too, and shared just where two or more meters have it; and how many probes it took
pub record WholeList {M : Type 0} (number : M → List ℕ) (ms : List M) (D : ℕ) (es : List (Entry M)) (n : ℕ) : Type 0 where
  pub truly : TrueList number ms es
  pub complete : (m : M) → m ∈ ms → number m ∈ numbers number es
  pub correct : AllByRecursion (Correct number ms 2) es
  pub counted : n ≡ 1 + 10 * commons number ms D
  pub bounded : n ≤ 11 + 10 * (D - 1) * (length ms / 2)

-- at any moment of a search over any line
abbrev pub ListedTruly : Type 0 → Type 0
ListedTruly M = (number : M → List ℕ) (ms : List M) (D : ℕ) → Numbered number D ms → (ps : List (List ℕ)) (es : List (Entry M)) (n : ℕ) → Reached (Faulty number ms) D ps es n → TrueList number ms es

-- a place for each number present is enough for all entries
abbrev pub PlacesEnough : Type 0 → Type 0
PlacesEnough M = (number : M → List ℕ) (ms : List M) (D : ℕ) → Numbered number D ms → (ks : List (List ℕ)) → ((m : M) → m ∈ ms → number m ∈ ks) → (ps : List (List ℕ)) (es : List (Entry M)) (n : ℕ) → Reached (Faulty number ms) D ps es n → length es ≤ length ks

-- at the end of a search over a line without faults
abbrev pub ListedWholly : Type 0 → Type 0
ListedWholly M = (number : M → List ℕ) (ms : List M) (D : ℕ) → Numbered number D ms → (es : List (Entry M)) (n : ℕ) → Reached (Clear number ms) D [] es n → WholeList number ms D es n

-- a search over a line without faults comes to its end
pub record Ended {M : Type 0} (number : M → List ℕ) (ms : List M) (D : ℕ) : Type 0 where
  pub listed : List (Entry M)
  pub probes : ℕ
  pub reached : Reached (Clear number ms) D [] listed probes

abbrev pub SearchEnds : Type 0 → Type 0
SearchEnds M = (number : M → List ℕ) (ms : List M) (D : ℕ) → Ended number ms D

-- Where p is next, a search may start
abbrev pub Starts : {M : Type 0} (number : M → List ℕ) (D : ℕ) → List ℕ → Type 0
Starts {M} number D p = (ms : List M) (faultless : Bool) → Reached (Told number ms faultless) D (todo p) [] 0

-- What is listed where a probe of p tells v is correct
abbrev pub Lists : {M : Type 0} (number : M → List ℕ) (D : ℕ) → List ℕ → Verdict M → List (Entry M) → Type 0
Lists {M} number D p v es =
    (ms : List M) (faultless : Bool) → Numbered number D ms → Told number ms faultless p v → AllByRecursion (Correct number ms 1) es × (faultless ≡ true → AllByRecursion (Correct number ms 2) es)

-- A search needs to keep the next beginning alone: where p is next and its probe tells v, the search goes on with q next. What is left to probe falls,
-- and there are never more probes than beginnings of up to D digits
abbrev pub Leads : {M : Type 0} (number : M → List ℕ) (D : ℕ) → List ℕ → Verdict M → Option (List ℕ) → Type 0
Leads {M} number D p v q = (ms : List M) (faultless : Bool) (es : List (Entry M)) (n : ℕ) → Reached (Told number ms faultless) D (todo p) es n → Told number ms faultless p v → Reached (Told number ms faultless) D (todo? q) (es ++ found D p v) (suc n) × (left D (todo? q) < left D (todo p)) × (suc n ≤ size D)

abbrev pub NextLeads : Type 0 → Type 0
NextLeads M = (number : M → List ℕ) (D : ℕ) (p : List ℕ) (v : Verdict M) → Leads number D p v (upnext D p v)

-- a search is one over any line, and with no faults one over a line without faults
abbrev pub ToldIsFaulty : Type 0 → Type 0
ToldIsFaulty M = (number : M → List ℕ) (ms : List M) (faultless : Bool) (D : ℕ) (ps : List (List ℕ)) (es : List (Entry M)) (n : ℕ) → Reached (Told number ms faultless) D ps es n → Reached (Faulty number ms) D ps es n × (faultless ≡ true → Reached (Clear number ms) D ps es n)

-- numbers of as many digits that come one before the other are in that order as values
abbrev pub ValuesRise : Type 0
ValuesRise = (D : ℕ) (x y : List ℕ) → Number D x → Number D y → x ≺ y → value x < value y
