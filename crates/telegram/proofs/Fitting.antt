-- Whether a pattern fits, byte by byte.
use Rattle.std.proofs.Common.{◌≡◌, ℕ, Bool, true, false, ◌&&◌, List, length, get_or, sym, refl, ◌∙◌, ap₂}
use Rattle.link.proofs.Lists.{spelled_whole}
use Rattle.telegram.specs.Patterns.{digits_fit, byte_fits, fits}

four : (a b c d : Bool) → (((a && b) && c) && d) ≡ (a && (b && (c && (d && true))))
four true true true true = refl
four true true true false = refl
four true true false d = refl
four true false c d = refl
four false b c d = refl

-- four tests, told from the left
abbrev pub all_four : (ℕ → ℕ → Bool) → List ℕ → List ℕ → ℕ → ℕ → ℕ → ℕ → Bool
all_four f p a i j k l =
    ((f (get_or p i 0) (get_or a i 0) && f (get_or p j 0) (get_or a j 0)) && f (get_or p k 0) (get_or a k 0)) && f (get_or p l 0) (get_or a l 0)

pub fits_bytes : (p a : List ℕ) → length p ≡ 8 → length a ≡ 8 → (all_four digits_fit p a 0 1 2 3 && all_four byte_fits p a 4 5 6 7) ≡ fits p a
unfolding fits
fits_bytes p a e f =
    ap₂ ◌&&◌ (four (digits_fit (get_or p 0 0) (get_or a 0 0)) (digits_fit (get_or p 1 0) (get_or a 1 0)) (digits_fit (get_or p 2 0) (get_or a 2 0)) (digits_fit (get_or p 3 0) (get_or a 3 0)))
    (four (byte_fits (get_or p 4 0) (get_or a 4 0)) (byte_fits (get_or p 5 0) (get_or a 5 0)) (byte_fits (get_or p 6 0) (get_or a 6 0)) (byte_fits (get_or p 7 0) (get_or a 7 0)))
    ∙ ap₂ fits (sym (spelled_whole p 8 e)) (sym (spelled_whole a 8 f))
