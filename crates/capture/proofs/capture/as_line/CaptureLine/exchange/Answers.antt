use Rattle.std.proofs.Common.{length, sym, refl, ap, ◌∙◌}
use Rattle.line.specs.Soundness.{sound_out}
use Rattle.line.proofs.Exchanging.{exchange_sound}
use Rattle.capture.specs.Captures.{meaning}
use Rattle.capture.specs.Meaning.{recorded}
use Rattle.capture.specs.Recordings.{telegrams_of}
use Rattle.capture.proofs.capture.as_line.CaptureLine.exchange.Goals as goal

pub invariant_of-self : goal.invariant_of-self
invariant_of-self c =
    let x = c.args.self.now in
    let w = c.answer.ensures in
    record {
      sound = ∣ exchange_sound (sound_out (meaning x) x.sound) (w.exchanged (meaning x) refl).exchange ∣₁;
      counted = x.counted ∙ ap (λ t. length (telegrams_of (recorded t))) (sym w.hears.table);
    }

pub returns-clause-exchanged : goal.returns-clause-exchanged
returns-clause-exchanged c = c.answer.ensures.exchanged (meaning c.args.self.now) refl
