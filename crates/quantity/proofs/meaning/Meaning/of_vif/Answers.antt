use Rattle.std.proofs.Common.{◌%◌, Some, None, sym, ap, ◌∙◌, arith, rules}
use Rattle.quantity.specs.Table.{vif_meaning}
use Rattle.quantity.proofs.Rows.{by_row}
use Rattle.quantity.proofs.Standing.{row_serves, table_stands}
use Rattle.quantity.proofs.meaning.Meaning.of_vif.Goals as goal

pub returns-then-vif-eq-FIRST_EXTENSION : goal.returns-then-vif-eq-FIRST_EXTENSION
unfolding vif_meaning
returns-then-vif-eq-FIRST_EXTENSION c = record { value = search rules; table = table_stands }

pub returns-in_err-row : goal.returns-in_err-row
returns-in_err-row c =
    record {
      value = c.from_residual.ensures ∙ by_row c.args.vif None c.if-vif-eq-SECOND_EXTENSION.false c.if-vif-eq-FIRST_EXTENSION.false c.in_err-row.ensures;
      table = table_stands;
    }

pub meaning_in-requires : goal.meaning_in-requires
meaning_in-requires c = row_serves (c.args.vif % 128) c.in_ok-row.row (omega arith) (sym c.in_ok-row.ensures)

pub returns : goal.returns
returns c =
    record {
      value = ap Some c.meaning_in.ensures ∙ by_row c.args.vif (Some c.in_ok-row.row) c.if-vif-eq-SECOND_EXTENSION.false c.if-vif-eq-FIRST_EXTENSION.false c.in_ok-row.ensures;
      table = table_stands;
    }
