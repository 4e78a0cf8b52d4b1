-- The longest keyword, by its bytes.
use Rattle.std.proofs.Common.{◌≡◌, ℕ, ◌<◌, ◌≤◌, List, [], ◌∷◌, length, get_or, Some, refl, arith}
use Rattle.house.specs.declared.keyword.Keyword.TheVariants.{Places}
use Rattle.house.specs.Lines.{keyword_of}

pub places_word : (cs : List ℕ) → 6 ≤ length cs → length cs < 7 → get_or cs 0 0 ≡ 0x70 → get_or cs 1 0 ≡ 0x6c → get_or cs 2 0 ≡ 0x61 → get_or cs 3 0 ≡ 0x63 → get_or cs 4 0 ≡ 0x65 → get_or cs 5 0 ≡ 0x73 → Some Places ≡ keyword_of cs
places_word [] h l p q r s t u = absurd (omega arith)
places_word (a ∷ []) h l p q r s t u = absurd (omega arith)
places_word (a ∷ b ∷ []) h l p q r s t u = absurd (omega arith)
places_word (a ∷ b ∷ c ∷ []) h l p q r s t u = absurd (omega arith)
places_word (a ∷ b ∷ c ∷ d ∷ []) h l p q r s t u = absurd (omega arith)
places_word (a ∷ b ∷ c ∷ d ∷ e ∷ []) h l p q r s t u = absurd (omega arith)
places_word (a ∷ b ∷ c ∷ d ∷ e ∷ f ∷ []) h l p q r s t u = rw (p, q, r, s, t, u) refl
places_word (a ∷ b ∷ c ∷ d ∷ e ∷ f ∷ g ∷ cs) h l p q r s t u = absurd (omega arith)
