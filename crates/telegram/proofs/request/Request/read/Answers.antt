use Rattle.std.proofs.Common.{◌≡◌, rules}
use Rattle.std.specs.Option.{option_and_then}
use Rattle.std.specs.Result.{result_ok}
use Rattle.link.specs.Frames.{parts}
use Rattle.telegram.specs.Requests.{request_in}
use Rattle.telegram.proofs.Asking.{heard}
use Rattle.telegram.proofs.request.Request.read.Goals as goal

pub returns : goal.returns
returns c =
    let given : c.map_or.result ≡ option_and_then (λ f. request_in (parts f)) (result_ok c.read.result) = search rules in
    let h = heard c.args.bytes.now c.read.result c.map_or.result c.read.ensures.frame c.read.ensures.reads given in
    record { value = h.0; understands = h.1 }
