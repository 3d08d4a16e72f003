use Rattle.words_law.proofs.Seats.{own_lists, others_lists, root_lists, tagged_append}
use Rattle.words_law.proofs.promises.each_list_is_its_seats.Goals as goal

pub returns : goal.returns
returns c = record {
  own = own_lists;
  others = others_lists;
  root = root_lists;
  joined = tagged_append;
}
