use Rattle.std.proofs.Common.{◌+◌, get_or, sym, ◌∙◌, arith}
use Rattle.link.proofs.Passed.{Headed, ended, long_bytes, headed_checks}
use Rattle.link.proofs.reading.read_long.Goals as goal

pub returns : goal.returns
returns c =
    let bs = c.args.bytes.now in
    let h : Headed bs = record { start_is = c.requires; least = omega arith; again = omega arith; fourth = omega arith } in
    let passed = c.in_ok-check_end.ensures in
    record {
      fault = passed ∙ sym (headed_checks bs h (omega arith));
      bytes = long_bytes bs h (ended 4 (get_or bs 1 0 + 6) bs (sym passed));
    }
