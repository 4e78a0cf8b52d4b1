-- Tests of the elements of a list, one after another.
use Rattle.std.proofs.Common.{◌≡◌, ℕ, ◌+◌, Bool, true, false, cond, not, List, [], ◌∷◌, Some, None, Option, MatchOption, sym, refl, ap, ◌∙◌}
use Rattle.std.specs.List.{position, position_from}
use Rattle.std.specs.Option.{option_map}
use Rattle.std.proofs.lemmas.Iterator.Adapters.{position_from-zero}
use Rattle.link.specs.declared.fault.Report.{Report}
use Rattle.link.specs.Checks.{first_fault}
use Rattle.bench.specs.Checks.{numbered}
use Rattle.bench.specs.Faults.{bad}

one_more : (b : Bool) (n : ℕ) (o : Option Report) (q : Option ℕ) → o ≡ option_map bad q → cond b o (Some (bad n)) ≡ option_map bad (cond (not b) (Some n) q)
one_more true n o q e = e
one_more false n o q e = refl

told : (r : Option Report) (o : Option ℕ) → MatchOption o (r ≡ None) (λ i. r ≡ Some (bad i)) → r ≡ option_map bad o
told r None h = h
told r (Some i) h = h

module _ {X : Type 0} (p : X → Bool) where
  numbered_from : (n : ℕ) (xs : List X) → first_fault (numbered p n xs) ≡ option_map bad (position_from (λ x. not (p x)) n xs)
  numbered_from n [] = refl
  numbered_from n (x ∷ xs) = one_more (p x) n _ _ (numbered_from (n + 1) xs)

  -- what a search for the first element that does not pass tells
  pub first_told : (xs : List X) (o : Option ℕ) (r : Option Report) → o ≡ position (λ x. not (p x)) xs → MatchOption o (r ≡ None) (λ i. r ≡ Some (bad i)) → r ≡ first_fault (numbered p 0 xs)
  first_told xs o r e h =
      told r o h ∙ ap (option_map bad) (e ∙ position_from-zero (λ x. not (p x)) xs) ∙ sym (numbered_from 0 xs)
