-- The worked examples, computed.
use Rattle.std.proofs.Common.{◌≡◌, ℕ, List, [], ◌∷◌, refl, ◌∙◌}
use Rattle.search.specs.Verdicts.{Entry, only, shared}
use Rattle.search.specs.Examples.{itself, first, second, EndsWith, TwoNumbers, OneNumber}
use Rattle.search.proofs.Walks.{walk, probes}
use Rattle.search.proofs.Clear.{clear_end}

computed : (ms : List (List ℕ)) (es : List (Entry (List ℕ))) (n : ℕ) → walk itself ms 8 [] ≡ es → probes itself ms 8 [] ≡ n → EndsWith ms es n
computed ms es n w p fs k r = let e = clear_end itself ms 8 r in (e.0 ∙ w, e.1 ∙ p)

pub two_numbers : TwoNumbers
unfolding walk probes
two_numbers =
    (computed (first ∷ second ∷ []) (only first ∷ only second ∷ []) 31 refl refl, computed (second ∷ first ∷ []) (only first ∷ only second ∷ []) 31 refl refl)

pub one_number : OneNumber
unfolding walk probes
one_number = computed (first ∷ first ∷ []) (shared first ∷ []) 81 refl refl
