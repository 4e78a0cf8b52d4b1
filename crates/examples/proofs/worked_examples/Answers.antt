use Rattle.std.proofs.Common.{refl}
use Rattle.link.specs.Frames.{frame_refusal}
use Rattle.telegram.specs.Requests.{request_bytes}
use Rattle.quantity.specs.Table.{vif_meaning}
use Rattle.record.specs.Codings.{dif_coding}
use Rattle.record.specs.Records.{record_of, record_refusal}
use Rattle.examples.proofs.worked_examples.Goals as goal

pub returns : goal.returns
unfolding frame_refusal request_bytes vif_meaning dif_coding record_of record_refusal
returns c =
    record {
      hold = (refl, (refl, (refl, (refl, (refl, (refl, ((refl, refl, refl), ((refl, refl, refl), ((refl, refl, refl), (refl, ((λ b s. refl), ((λ b s. refl), tt))))))))))));
      count = refl;
    }
