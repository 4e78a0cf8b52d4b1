-- Numbers of meters and their beginnings, as lists of digits, highest first.
--     Number D k          k is a number of D digits
--     begins p k          the beginning p fits the number k
--     beginnings l        all beginnings of l digits
--     x ≺ y               x comes before y
use Rattle.std.specs.Prelude.{◌≡◌, ℕ, zero, suc, ◌+◌, ◌*◌, ◌<◌, Bool, true, false, ◌&&◌, ◌⊎◌, List, [], ◌∷◌, ◌++◌, map, length, ◌==◌}
use Rattle.std.specs.List.{range_with_len, flat_map, AllByRecursion}

infix 50 ◌≺◌
-- the ten digits, in order
abbrev pub digits : List ℕ
digits = range_with_len 0 10

-- a beginning made of digits, and a number of D digits
abbrev pub Digits : List ℕ → Type 0
Digits p = AllByRecursion (λ d. d < 10) p

abbrev pub Number : ℕ → List ℕ → Type 0
Number D k = (length k ≡ D) × Digits k

-- k begins with p, and k is p
abbrev pub begins : List ℕ → List ℕ → Bool
begins [] k = true
begins (d ∷ p) [] = false
begins (d ∷ p) (e ∷ k) = d == e && begins p k

abbrev pub same : List ℕ → List ℕ → Bool
same [] [] = true
same [] (e ∷ k) = false
same (d ∷ p) [] = false
same (d ∷ p) (e ∷ k) = d == e && same p k

-- p with one digit more, and with each of the ten
abbrev pub longer : List ℕ → ℕ → List ℕ
longer p d = p ++ d ∷ []

abbrev pub children : List ℕ → List (List ℕ)
children p = map (longer p) digits

-- the beginnings that go on from p by l digits, in order, and all beginnings of l digits.
-- There are ten to the power l of them, so the definition stays shut to tactics
unfoldable pub further : ℕ → List ℕ → List (List ℕ)
further zero p = p ∷ []
further (suc l) p = flat_map (λ d. further l (longer p d)) digits

abbrev pub beginnings : ℕ → List (List ℕ)
beginnings l = further l []

-- x comes before y: at the first place where they differ, x has the smaller digit
abbrev pub ◌≺◌ : List ℕ → List ℕ → Type 0
[] ≺ y = ⊥
(a ∷ x) ≺ [] = ⊥
(a ∷ x) ≺ (b ∷ y) = (a < b) ⊎ ((a ≡ b) × (x ≺ y))

-- each comes before all that stand after it
abbrev pub Rising : List (List ℕ) → Type 0
Rising [] = Unit {0}
Rising (x ∷ xs) = AllByRecursion (λ y. x ≺ y) xs × Rising xs

-- the value that the digits stand for, where those before them stand for a
abbrev pub valued : ℕ → List ℕ → ℕ
valued a [] = a
valued a (d ∷ p) = valued (10 * a + d) p

abbrev pub value : List ℕ → ℕ
value p = valued 0 p

-- each value is below all that stand after it
abbrev pub Ascending : List ℕ → Type 0
Ascending [] = Unit {0}
Ascending (x ∷ xs) = AllByRecursion (λ y. x < y) xs × Ascending xs
