use Rattle.std.proofs.Common.{◌≡◌, [], ◌∷◌, length, sym, refl, ap, ◌∙◌}
use Rattle.link.specs.Buffers.{filled}
use Rattle.line.specs.Layers.{last_reply}
use Rattle.line.proofs.retry.give_up.Goals as goal

-- the byte 00 and then 00 is all 00
one_zero : filled [] ≡ filled (0 ∷ [])
unfolding filled
one_zero = refl

pub returns-else-silent : goal.returns-else-silent
returns-else-silent c =
    let e = sym (ap last_reply c.if-silent.false) in
    record { buffer = c.new_buffer.ensures ∙ one_zero ∙ ap filled e; count = ap length e }
