use Rattle.plain_state.proofs.Records.{one_text, one_payload}
use Rattle.plain_state.proofs.record.laws_of_records.Goals as goal

pub returns : goal.returns
returns c = record {
  one_text = one_text;
  one_payload = one_payload;
}
