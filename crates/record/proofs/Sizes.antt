-- Every coding has a count of bytes that its kind allows.
use Rattle.std.proofs.Common.{ℕ, get_or, IfSome, None, Option, sym, refl, subst, ⊎_elim, lit≤}
use Rattle.std.specs.List.{AllByRecursion}
use Rattle.std.proofs.ByRecursion.{All-get_or}
use Rattle.std.proofs.lemmas.List.{get_or_past}
use Rattle.std.proofs.lemmas.Bool.{cases_lt}
use Rattle.record.specs.declared.coding.Coding.{Coding}
use Rattle.record.specs.Codings.{Sized, codings}

abbrev OfSize : Option Coding → Type 0
OfSize o = IfSome o Sized

all_sized : AllByRecursion OfSize codings
all_sized = (refl, ((lit≤ tt, lit≤ tt), ((lit≤ tt, lit≤ tt), ((lit≤ tt, lit≤ tt), ((lit≤ tt, lit≤ tt), (refl, ((lit≤ tt, lit≤ tt), ((lit≤ tt, lit≤ tt), (tt, ((lit≤ tt, lit≤ tt), ((lit≤ tt, lit≤ tt), ((lit≤ tt, lit≤ tt), ((lit≤ tt, lit≤ tt), (tt, ((lit≤ tt, lit≤ tt), (tt, tt))))))))))))))))

pub sized_at : (f : ℕ) → OfSize (get_or codings f None)
sized_at f =
    ⊎_elim
    (λ h. All-get_or OfSize codings f None h all_sized)
    (λ h. subst OfSize (sym (get_or_past codings f None h)) tt)
    (cases_lt f 16)
