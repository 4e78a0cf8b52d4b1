-- The first check that fails, and those before it that hold.
use Rattle.std.proofs.Common.{◌≡◌, true, false, List, [], ◌∷◌, ◌++◌, Some, None, Option, sym, refl, ap, subst}
use Rattle.link.specs.declared.fault.Report.{Report}
use Rattle.link.specs.Checks.{Check, must, FailsFirst, first_fault}

-- one more check that holds in front
after_one : (r : Report) (cs : List Check) (o : Option Report) → FailsFirst cs o → FailsFirst (must true r ∷ cs) o
after_one r cs None h = (refl, h)
after_one r cs (Some t) h =
    record {
      before = must true r ∷ h.before;
      failing = h.failing;
      after = h.after;
      in_order = ap (λ x. must true r ∷ x) h.in_order;
      passed = (refl, h.passed);
      fails = h.fails;
      tells = h.tells;
    }

pub fails_first : (cs : List Check) → FailsFirst cs (first_fault cs)
fails_first [] = tt
fails_first (must true r ∷ cs) = after_one r cs (first_fault cs) (fails_first cs)
fails_first (must false r ∷ cs) =
    record { before = []; failing = must false r; after = cs; in_order = refl; passed = tt; fails = refl; tells = refl }

-- the same of whatever equals the first fault
pub fails_first_at : (cs : List Check) (o : Option Report) → o ≡ first_fault cs → FailsFirst cs o
fails_first_at cs o h = let P : Option Report → Type 0 = FailsFirst cs in subst P (sym h) (fails_first cs)

-- the first of two faults
abbrev pub or_else : Option Report → Option Report → Option Report
or_else None b = b
or_else (Some r) b = Some r

-- one list of checks after another
pub first_joined : (xs ys : List Check) → first_fault (xs ++ ys) ≡ or_else (first_fault xs) (first_fault ys)
first_joined [] ys = refl
first_joined (must true r ∷ xs) ys = first_joined xs ys
first_joined (must false r ∷ xs) ys = refl
