-- Checks in a stated order: the first that fails tells its fault.
use Rattle.std.specs.Prelude.{◌≡◌, Bool, true, false, cond, List, [], ◌∷◌, ◌++◌, Some, None, Option}
use Rattle.std.specs.List.{AllByRecursion}
use Rattle.link.specs.declared.fault.Report.{Report}

-- one check: what must hold, and what is told where it does not
pub data Check : Type 0 where
  must : (condition : Bool) (told : Report) → Check

abbrev pub condition : Check → Bool
condition (must c r) = c

abbrev pub told : Check → Report
told (must c r) = r

-- the fault of the first check that fails, if any does
abbrev pub first_fault : List Check → Option Report
first_fault [] = None
first_fault (must c r ∷ cs) = cond c (first_fault cs) (Some r)

-- the law of the order: no fault means that every check holds; a fault is told by a check that fails,
-- and every check before that one holds
pub record First (cs : List Check) (r : Report) : Type 0 where
  pub before : List Check
  pub failing : Check
  pub after : List Check
  pub in_order : cs ≡ before ++ failing ∷ after
  pub passed : AllByRecursion (λ c. condition c ≡ true) before
  pub fails : condition failing ≡ false
  pub tells : told failing ≡ r

abbrev pub FailsFirst : List Check → Option Report → Type 0
FailsFirst cs None = AllByRecursion (λ c. condition c ≡ true) cs
FailsFirst cs (Some r) = First cs r
