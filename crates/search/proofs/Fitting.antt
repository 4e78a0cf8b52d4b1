-- The pattern of a beginning fits the addresses whose number begins with it.
use Rattle.std.proofs.Common.{◌≡◌, ℕ, zero, suc, ◌+◌, ◌*◌, ◌/◌, ◌%◌, ◌<◌, ◌≤◌, Bool, true, false, ◌&&◌, ◌||◌, eqb, List, [], ◌∷◌, map, length, get_or, sym, refl, ap, ◌∙◌, ap₂, arith}
use Rattle.std.specs.List.{range_with_len}
use Rattle.link.proofs.Lists.{spelled_whole}
use Rattle.std.proofs.lemmas.Bool.{ne_eqb}
use Rattle.telegram.specs.Patterns.{digit_fits, digits_fit, fits, digit_or_wildcard, beginning_pattern}
use Rattle.search.specs.Numbers.{Digits, begins}
use Rattle.search.specs.Addresses.{number}

-- each digit of k fits that of p at its place, from the place i on
abbrev all_fit : List ℕ → ℕ → List ℕ → Bool
all_fit p i [] = true
all_fit p i (e ∷ k) = digit_fits (digit_or_wildcard p i) e && all_fit p (suc i) k

past_fit : (i : ℕ) (k : List ℕ) → all_fit [] i k ≡ true
past_fit i [] = refl
past_fit i (e ∷ k) = past_fit (suc i) k

shift_fit : (d : ℕ) (p : List ℕ) (i : ℕ) (k : List ℕ) → all_fit (d ∷ p) (suc i) k ≡ all_fit p i k
shift_fit d p i [] = refl
shift_fit d p i (e ∷ k) = ap (λ b. digit_fits (digit_or_wildcard p i) e && b) (shift_fit d p (suc i) k)

digit_only : (d e : ℕ) → d < 10 → digit_fits d e ≡ eqb d e
digit_only d e h = ap (λ b. b || eqb d e) (ne_eqb d 0xF (λ x. omega arith))

begins_fit : (p k : List ℕ) → Digits p → length p ≤ length k → begins p k ≡ all_fit p 0 k
begins_fit [] k h l = sym (past_fit 0 k)
begins_fit (d ∷ p) [] h l = absurd (omega arith)
begins_fit (d ∷ p) (e ∷ k) h l =
    ap₂ ◌&&◌ (sym (digit_only d e h.0)) (begins_fit p k h.1 (omega arith) ∙ sym (shift_fit d p 0 k))

and_swap : (x y z : Bool) → (x && (y && z)) ≡ (y && (x && z))
and_swap true y z = refl
and_swap false true z = refl
and_swap false false z = refl

and_assoc : (x y z : Bool) → ((x && y) && z) ≡ (x && (y && z))
and_assoc true y z = refl
and_assoc false y z = refl

and_true : (x : Bool) → (x && true) ≡ x
and_true true = refl
and_true false = refl

-- four pairs of tests, told the other way round
turned : (a b c d : Bool) → (a && (b && (c && (d && true)))) ≡ (d && (c && (b && (a && true))))
turned a b c d =
    ap (λ x. a && (b && x)) (and_swap c d true) ∙ ap (λ x. a && x) (and_swap b d (c && true)) ∙ and_swap a d (b && (c && true))
    ∙ ap (λ x. d && (a && x)) (and_swap b c true) ∙ ap (λ x. d && x) (and_swap a c (b && true)) ∙ ap (λ x. d && (c && x)) (and_swap a b true)

-- a byte of two digits fits where both digits do
pair_fits : (x y b : ℕ) → y < 16 → digits_fit (x * 16 + y) b ≡ (digit_fits x (b / 16) && digit_fits y (b % 16))
pair_fits x y b h =
    let high : (x * 16 + y) / 16 ≡ x = omega arith in
    let low : (x * 16 + y) % 16 ≡ y = omega arith in
    ap₂ (λ u v. digit_fits u (b / 16) && digit_fits v (b % 16)) high low

digit_small : (p : List ℕ) (i : ℕ) → Digits p → digit_or_wildcard p i < 16
digit_small [] i h = omega arith
digit_small (d ∷ p) zero h = omega (arith, h.0)
digit_small (d ∷ p) (suc i) h = digit_small p i h.1

-- the tests of a pair, and then the rest
paired : (x y b : ℕ) (rest : Bool) → y < 16 → (digits_fit (x * 16 + y) b && rest) ≡ (digit_fits x (b / 16) && (digit_fits y (b % 16) && rest))
paired x y b rest h = ap (λ t. t && rest) (pair_fits x y b h) ∙ and_assoc (digit_fits x (b / 16)) (digit_fits y (b % 16)) rest

pub pattern_fits : (p a : List ℕ) → Digits p → length p ≤ 8 → length a ≡ 8 → fits (beginning_pattern p) a ≡ begins p (number a)
unfolding fits
pattern_fits p a h short long =
    let t : ℕ → ℕ → ℕ → Bool = λ i j b. digits_fit (digit_or_wildcard p i * 16 + digit_or_wildcard p j) b in
    let b₀ = get_or a 0 0 in
    let b₁ = get_or a 1 0 in
    let b₂ = get_or a 2 0 in
    let b₃ = get_or a 3 0 in
    let tests : fits (beginning_pattern p) (map (λ k. get_or a k 0) (range_with_len 0 8)) ≡ (t 6 7 b₀ && (t 4 5 b₁ && (t 2 3 b₂ && (t 0 1 b₃ && true)))) = and_true (t 6 7 b₀ && (t 4 5 b₁ && (t 2 3 b₂ && (t 0 1 b₃ && true)))) in
    let small : (i : ℕ) → digit_or_wildcard p i < 16 = λ i. digit_small p i h in
    ap (fits (beginning_pattern p)) (spelled_whole a 8 long) ∙ tests ∙ turned (t 6 7 b₀) (t 4 5 b₁) (t 2 3 b₂) (t 0 1 b₃)
    ∙ paired (digit_or_wildcard p 0) (digit_or_wildcard p 1) b₃ _ (small 1)
    ∙ ap (λ x. digit_fits (digit_or_wildcard p 0) (b₃ / 16) && (digit_fits (digit_or_wildcard p 1) (b₃ % 16) && x))
    (paired (digit_or_wildcard p 2) (digit_or_wildcard p 3) b₂ _ (small 3)
    ∙ ap (λ x. digit_fits (digit_or_wildcard p 2) (b₂ / 16) && (digit_fits (digit_or_wildcard p 3) (b₂ % 16) && x))
    (paired (digit_or_wildcard p 4) (digit_or_wildcard p 5) b₁ _ (small 5)
    ∙ ap (λ x. digit_fits (digit_or_wildcard p 4) (b₁ / 16) && (digit_fits (digit_or_wildcard p 5) (b₁ % 16) && x)) (paired (digit_or_wildcard p 6) (digit_or_wildcard p 7) b₀ true (small 7))))
    ∙ sym (begins_fit p (number a) h (omega arith))
