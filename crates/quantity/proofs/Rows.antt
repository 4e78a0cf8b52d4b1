-- What a VIF means, by the row of the table that has its code.
use Rattle.std.proofs.Common.{◌≡◌, ℕ, ◌%◌, Option, ap}
use Rattle.std.proofs.lemmas.Bool.{ne_eqb}
use Rattle.quantity.specs.declared.table.Row.{Row}
use Rattle.quantity.specs.Table.{meaning_at, row_with, table, vif_meaning}

-- what a VIF that is neither 7B nor 7D means, by the row that is found
pub by_row : (v : ℕ) (o : Option Row) → (v ≡ 0x7B → ⊥) → (v ≡ 0x7D → ⊥) → o ≡ row_with (v % 128) table → meaning_at (v % 128) o ≡ vif_meaning v
unfolding vif_meaning
by_row v o h k e = simp (ne_eqb v 0x7B h, ne_eqb v 0x7D k) (ap (meaning_at (v % 128)) e)
