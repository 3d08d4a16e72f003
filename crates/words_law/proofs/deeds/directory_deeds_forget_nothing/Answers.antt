use Rattle.words_law.proofs.Forgets.{make_forgets, link_forgets, bind_forgets, see_forgets, upgrade_forgets, lead_forgets, read_forgets, answer_forgets, forget_forgets, draw_forgets}
use Rattle.words_law.proofs.deeds.directory_deeds_forget_nothing.Goals as goal

pub returns : goal.returns
returns c = record {
  make = make_forgets;
  link = link_forgets;
  bind = bind_forgets;
  see = see_forgets;
  upgrade = upgrade_forgets;
  lead = lead_forgets;
  read = read_forgets;
  answer = answer_forgets;
  forget = forget_forgets;
  draw = draw_forgets;
}
