use Rattle.command_line.proofs.OneRequest.{one_request}
use Rattle.command_line.proofs.laws.request_is_one.Goals as goal

pub returns : goal.returns
returns c = one_request
