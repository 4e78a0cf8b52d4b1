-- How the data of a record are coded, by the data field, the low four bits of its DIF.
use Rattle.std.specs.Prelude.{◌≡◌, ℕ, ◌%◌, ◌≤◌, List, [], ◌∷◌, Some, None, Option, slice_index_or}
use Rattle.record.specs.declared.coding.Coding.{Coding}
use Rattle.record.specs.declared.coding.Coding.TheVariants.{Fixed, Text}
use Rattle.record.specs.declared.coding.Kind.{Kind}
use Rattle.record.specs.declared.coding.Kind.TheVariants.{NoData, Integer, Real, Decimal}

-- the data fields from 0 to F, with their count of bytes; 8 and F are reserved
abbrev pub codings : List (Option Coding)
codings =
    Some (Fixed 0 NoData) ∷ Some (Fixed 1 Integer) ∷ Some (Fixed 2 Integer) ∷ Some (Fixed 3 Integer)
    ∷ Some (Fixed 4 Integer) ∷ Some (Fixed 4 Real) ∷ Some (Fixed 6 Integer) ∷ Some (Fixed 8 Integer)
    ∷ None ∷ Some (Fixed 1 Decimal) ∷ Some (Fixed 2 Decimal) ∷ Some (Fixed 3 Decimal)
    ∷ Some (Fixed 4 Decimal) ∷ Some Text ∷ Some (Fixed 6 Decimal) ∷ None
    ∷ []

unfoldable pub dif_coding : ℕ → Option Coding
dif_coding dif = slice_index_or codings (dif % 16) None

-- how many bytes a value of each kind has
abbrev pub SizedKind : ℕ → Kind → Type 0
SizedKind n NoData = n ≡ 0
SizedKind n Integer = (1 ≤ n) × (n ≤ 8)
SizedKind n Real = n ≡ 4
SizedKind n Decimal = (1 ≤ n) × (n ≤ 8)

abbrev pub Sized : Coding → Type 0
Sized (Fixed n k) = SizedKind n k
Sized Text = Unit {0}
