use Rattle.std.proofs.Common.{sym, ◌∙◌, arith}
use Rattle.input.proofs.Pairs.{convert_open, convert_byte, convert_some}
use Rattle.input.proofs.hex.convert.Goals as goal
use Rattle.input.proofs.hex.convert.Goals.{in-Open, in-Byte}

pub unwrap-requires : goal.unwrap-requires
unwrap-requires c =
    let l = c.loop-i in
    convert_some c.args.text.now l.text l.i l.count l.high (omega arith) l.invariant c.requires _ c.read_character.ensures.value

pub loop-i-preserved : goal.loop-i-preserved
loop-i-preserved c =
    let l = c.loop-i in
    elim c.match-unwrap.branch [
      | in-Open w ↦ convert_open c.args.text.now l.text l.i l.count l.high (omega arith) l.invariant _ _ _ _ _ w.in-Open.ensures c.read_character.ensures.value c.read_character.ensures.small w.text-is w.count-is w.high-is
      | in-Byte w ↦ convert_byte c.args.text.now l.text l.i l.count l.high (omega arith) l.invariant _ _ _ _ (sym w.in-Byte.ensures ∙ c.read_character.ensures.value) w.text-is w.count-is w.high-is
    ]
