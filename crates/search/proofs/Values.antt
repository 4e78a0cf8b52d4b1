-- The order of numbers is the order of their values.
use Rattle.std.proofs.Common.{◌≡◌, ℕ, ◌+◌, ◌*◌, ◌<◌, List, [], ◌∷◌, ◌++◌, map, length, sym, ◌∙◌, inl, inr, arith}
use Rattle.std.specs.List.{AllByRecursion}
use Rattle.std.proofs.ByRecursion.{All-map}
use Rattle.search.specs.Numbers.{Digits, Number, ◌≺◌, Rising, Ascending, valued, value}
use Rattle.search.proofs.Order.{all_front}
use Rattle.search.specs.Laws.{ValuesRise}

-- a smaller front leads to a smaller value, whatever digits follow
front_rises : (x y : List ℕ) → length x ≡ length y → Digits x → (a b : ℕ) → a < b → valued a x < valued b y
front_rises [] [] l g a b h = h
front_rises [] (e ∷ y) l g a b h = absurd (omega arith)
front_rises (d ∷ x) [] l g a b h = absurd (omega arith)
front_rises (d ∷ x) (e ∷ y) l g a b h = front_rises x y (omega arith) g.1 (10 * a + d) (10 * b + e) (let s = g.0 in omega arith)

rises : (x y : List ℕ) → length x ≡ length y → Digits x → x ≺ y → (a : ℕ) → valued a x < valued a y
rises [] y l g h a = absurd h
rises (d ∷ x) [] l g h a = absurd h
rises (d ∷ x) (e ∷ y) l g h a =
    elim h [ inl s ↦ front_rises x y (omega arith) g.1 (10 * a + d) (10 * a + e) (omega arith) | inr r ↦ rw r.0 (rises x y (omega arith) g.1 r.1 (10 * a + e)) ]

pub values_rise : ValuesRise
values_rise D x y p q h = rises x y (p.0 ∙ sym q.0) p.1 h 0

pub values_ascend : (D : ℕ) (xs : List (List ℕ)) → AllByRecursion (Number D) xs → Rising xs → Ascending (map value xs)
values_ascend D [] n r = tt
values_ascend D (x ∷ xs) n r = (All-map (λ v. value x < v) value xs (each xs n.1 r.0), values_ascend D xs n.1 r.1)
  where
    each : (ys : List (List ℕ)) → AllByRecursion (Number D) ys → AllByRecursion (λ y. x ≺ y) ys → AllByRecursion (λ y. value x < value y) ys
    each [] m l = tt
    each (y ∷ ys) m l = (values_rise D x y n.0 m.0 l.0, each ys m.1 l.1)

pub ascending_front : (xs ys : List ℕ) → Ascending (xs ++ ys) → Ascending xs
ascending_front [] ys h = tt
ascending_front (x ∷ xs) ys h = (all_front (λ z. x < z) xs ys h.0, ascending_front xs ys h.1)
