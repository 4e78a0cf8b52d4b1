-- Choosing meters row by row.
use Rattle.std.proofs.Common.{◌≡◌, ℕ, ◌+◌, ◌<◌, Bool, true, false, cond, List, [], ◌∷◌, ◌++◌, length, take, filter, sym, ap, ◌∙◌, subst, arith, MatchOption}
use Rattle.std.specs.List.{slice_get}
use Rattle.std.proofs.lemmas.List.Elements.{filter_more}
use Rattle.std.proofs.lemmas.List.{append-nil, length-append}
use Rattle.std.proofs.lemmas.Option.{slice_get-get_or}
use Rattle.line.specs.Meters.{Meter}
use Rattle.telegram.specs.declared.matches.Matches.{Matches}
use Rattle.telegram.specs.declared.matches.Matches.TheVariants.{Nobody, One, Several}
use Rattle.bus.specs.Choices.{Tells, one_more}
use Rattle.bus.specs.Tables.{meter_at}

module _ (p : Meter → Bool) (ms : List Meter) (i : ℕ) (h : i < length ms) where
  -- what a test says of the meter in a row
  pub at_row : (b : Bool) → MatchOption (slice_get ms i) (b ≡ false) (λ m. b ≡ p m) → p (meter_at ms i) ≡ b
  at_row b c = sym (subst (λ o. MatchOption o (b ≡ false) (λ m. b ≡ p m)) (slice_get-get_or ms i _ h) c)

  kept_next : (b : Bool) → p (meter_at ms i) ≡ b → filter p (take (i + 1) ms) ≡ filter p (take i ms) ++ cond b (meter_at ms i ∷ []) []
  kept_next b e = filter_more p ms i _ h ∙ ap (λ x. filter p (take i ms) ++ cond x (meter_at ms i ∷ []) []) e

  added : (choice : Matches ℕ) (old new : List Meter) → new ≡ old ++ meter_at ms i ∷ [] → Tells ms old choice → Tells ms new (one_more choice i)
  added Nobody old new n o = (h, n ∙ ap (λ l. l ++ meter_at ms i ∷ []) o)
  added (One j) old new n o = omega (arith, ap length n, ap length o.1, length-append old (meter_at ms i ∷ []))
  added Several old new n o = omega (arith, ap length n, o, length-append old (meter_at ms i ∷ []))

  pub tells_fit : (choice : Matches ℕ) → p (meter_at ms i) ≡ true → Tells ms (filter p (take i ms)) choice → Tells ms (filter p (take (i + 1) ms)) (one_more choice i)
  tells_fit choice e o = added choice _ _ (kept_next true e) o

  pub tells_unfit : (choice : Matches ℕ) → p (meter_at ms i) ≡ false → Tells ms (filter p (take i ms)) choice → Tells ms (filter p (take (i + 1) ms)) choice
  tells_unfit choice e o = subst (λ l. Tells ms l choice) (sym (kept_next false e ∙ append-nil (filter p (take i ms)))) o
