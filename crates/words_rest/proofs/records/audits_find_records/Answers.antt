use Rattle.std.proofs.Common.{◌∙◌}
use Rattle.words_rest.proofs.Living.{none_cyclic, none_deferred, none_lives}
use Rattle.record_counts.proofs.Sums.{no_bytes, no_slots}
use Rattle.words_rest.proofs.Summed.{bytes_told, slots_told}
use Rattle.words_rest.proofs.records.audits_find_records.Goals as goal

pub returns : goal.returns
returns c = record {
  held = λ u z p views meets fit left none heads are weight ranks found is.
      let law = meets.law.both.1 in record {
        live = is.live ∙ slots_told z p views meets.lawful law left fit none heads are;
        deferred = is.deferred ∙ none_deferred p left.rests;
        cyclic = none_cyclic z p views meets.lawful law fit left none found.cyclic is.cyclic;
        bytes = is.bytes ∙ bytes_told z p views meets.lawful law left fit none heads are weight;
      };
  freed = λ u z p views meets fit left none nothing weight ranks found is.
      let law = meets.law.both.1 in
      let no = none_lives z p views meets.lawful law fit left none nothing in record {
        live = is.live ∙ no_slots p no;
        deferred = is.deferred ∙ none_deferred p left.rests;
        cyclic = none_cyclic z p views meets.lawful law fit left none found.cyclic is.cyclic;
        bytes = is.bytes ∙ no_bytes p weight no;
      };
}
