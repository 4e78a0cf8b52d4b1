use Rattle.std.proofs.Common.{cond, Some, None, sym, refl, ap, arith}
use Rattle.std.proofs.lemmas.Bool.{le-leb, lt-leb}
use Rattle.line.specs.Faults.{limit_report}
use Rattle.line.specs.Layering.{layers_multiply}
use Rattle.line.proofs.retry.Retry.new.Goals as goal

pub returns-then-limit-gt-MOST_RETRIES : goal.returns-then-limit-gt-MOST_RETRIES
returns-then-limit-gt-MOST_RETRIES g c =
    record {
      fault = sym (ap (λ few. cond few None (Some limit_report)) (lt-leb c.args.limit 7 (omega arith)));
      line = refl;
      piles = layers_multiply;
    }

pub returns : goal.returns
returns g c =
    record {
      fault = sym (ap (λ few. cond few None (Some limit_report)) (le-leb c.args.limit 7 (omega arith)));
      line = (refl, refl);
      piles = layers_multiply;
    }
