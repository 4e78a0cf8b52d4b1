use Rattle.std.proofs.Common.{◌≡◌, ◌-◌, length, take, rules}
use Rattle.input.proofs.Judging.{unreadable_line, telegram_line}
use Rattle.input.proofs.line.read_line.Goals as goal

pub returns-then-not-is_hexadecimal : goal.returns-then-not-is_hexadecimal
returns-then-not-is_hexadecimal c =
    unreadable_line c.args.line.now c.content_len-end.result c.content_len-end.ensures.value c.if-is_skipped.ensures c.if-is_dash.ensures c.if-not-is_hexadecimal.ensures

pub returns : goal.returns
returns c =
    let same : length c.convert-size.new.text ≡ length (take (c.content_len-end.result - 0) c.args.line.now) = search rules in
    telegram_line c.args.line.now c.content_len-end.result c.content_len-end.ensures.value c.convert-size.result c.convert-size.new.text c.content_len-end.ensures.within c.if-is_skipped.ensures same c.convert-size.ensures.within c.convert-size.ensures.bytes c.convert-size.ensures.rest
