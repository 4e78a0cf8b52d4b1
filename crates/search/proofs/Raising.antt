-- The next beginning, told from the last digit.
use Rattle.std.proofs.Common.{◌≡◌, ℕ, ◌+◌, ◌<◌, ◌≤◌, List, [], ◌∷◌, ◌++◌, length, take, set, sym, refl, ap, ◌∙◌, arith}
use Rattle.std.proofs.lemmas.List.{length-append, take-take, take_at, take_more_set}
use mathlib.Core.Option.{some}
use Rattle.search.specs.Next.{raised}
use Rattle.search.proofs.Next.{raised_nine, raised_digit}

-- a 9 at the end is dropped
pub nine_dropped : (kept front : List ℕ) (d : ℕ) → kept ≡ front ++ d ∷ [] → 9 ≤ d → raised front ≡ raised kept
nine_dropped kept front d h nine = sym (ap raised h ∙ raised_nine front d nine)

-- what stands before the last of the first digits are first digits too
pub front_of : (ds kept front : List ℕ) (d : ℕ) → kept ≡ front ++ d ∷ [] → kept ≡ take (length kept) ds → front ≡ take (length front) ds
front_of ds kept front d h k =
    let n : length front ≤ length kept = omega (arith, ap length h, length-append front (d ∷ [])) in
    sym (take_at front (d ∷ []) (length front) refl) ∙ ap (take (length front)) (sym h ∙ k) ∙ take-take (length front) (length kept) ds n

-- any other digit at the end is raised in place
pub last_raised : (ds kept front : List ℕ) (d : ℕ) → kept ≡ front ++ d ∷ [] → kept ≡ take (length kept) ds → length kept ≤ length ds → d < 9 → some (take (length kept) (set ds (length front) (d + 1))) ≡ raised kept
last_raised ds kept front d h k room low =
    let n : length kept ≡ length front + 1 = omega (arith, ap length h, length-append front (d ∷ [])) in
    ap (λ m. some (take m (set ds (length front) (d + 1)))) n
    ∙ ap some (take_more_set ds (length front) (d + 1) (omega arith) ∙ ap (λ p. p ++ (d + 1) ∷ []) (sym (front_of ds kept front d h k)))
    ∙ sym (ap raised h ∙ raised_digit front d low)
