use Rattle.std.proofs.Common.{sym, None}
use Rattle.bstr.proofs.lemmas.FieldLemmas.{chain-whole}
use Rattle.cdrc_text.specs.Pieces.{fields_of, spans_of}
use Rattle.cdrc_text.proofs.Fields.{parts-field_ends}
use Rattle.cdrc_text.proofs.Runs.{are_maximal_runs}
use Rattle.cdrc_text.proofs.laws.fields_are_maximal_runs.Goals as goal

pub returns : goal.returns
unfolding fields_of
returns c = record {
  fields = λ bytes. sym (parts-field_ends bytes None (spans_of bytes));
  runs = λ bytes. are_maximal_runs (spans_of bytes);
  characters = chain-whole;
}
