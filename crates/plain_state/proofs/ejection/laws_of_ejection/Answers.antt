use Rattle.plain_state.proofs.Ejections.{kept_times, split_times, split_length, kept_in_order, ejected_in_order, kept_push, ejected_push}
use Rattle.plain_state.proofs.ejection.laws_of_ejection.Goals as goal

pub returns : goal.returns
returns c = record {
  smaller = λ es seen kind slot. kept_times kind slot es seen;
  whole = λ es seen kind slot. split_times kind slot es seen;
  earlier = λ front seen e. (kept_push e front seen, ejected_push e front seen);
  kept_in_order = kept_in_order;
  ejected_in_order = ejected_in_order;
  lengths = split_length;
}
