use Rattle.std.proofs.Common.{refl, ap, sym, subst, ◌∙◌}
use Rattle.std.specs.Prelude.{Option}
use Rattle.epoch_domain.specs.plain_protocol.plain_state.declared.act.EventPlace.{EventPlace}
use Rattle.epoch_domain.specs.plain_protocol.plain_state.declared.slot.SlotId.{SlotId}
use Rattle.epoch_domain.specs.plain_protocol.plain_state.Steps.{word_of}
use Rattle.epoch_domain.specs.epoch_core.declared.act.EpochAct.TheVariants as act
use Rattle.epoch_domain.specs.epoch_rule.declared.view.EpochSeatView.{EpochSeatView}
use Rattle.epoch_domain.specs.Calls.{IsReady}
use Rattle.epoch_refs.proofs.Exchanging.{lost_word, renamed, word_back}
use Rattle.epoch_refs.proofs.exchanges.e_cas.Goals as goal

pub cas-requires-clause-deed : goal.cas-requires-clause-deed
cas-requires-clause-deed g c =
    let T : EpochSeatView _ × EventPlace × Option SlotId → Type 0 = λ x.
    IsReady (g.D.Deed.ready c.args.deed c.args.domain.now.protocol)
    (act.Cas x.1 c.args.expected x.2) x.0 in
    subst T
    (λ i. (sym c.reserve.ensures.same.1 i, sym c.event_place.ensures i, sym c.slot_of-content.ensures i))
    c.requires.deed

pub returns-in-Done-clause-done : goal.returns-in-Done-clause-done
returns-in-Done-clause-done g c = record {
  ready = c.reserve.new.seat;
  reserved = c.reserve.ensures.same;
  between = c.cas.new.seat;
  exchange = renamed c.cas.ensures
      (λ i. act.Cas (c.event_place.ensures i) c.args.expected (c.slot_of-content.ensures i))
      c.in-Done.is;
  dates = c.date_taken.ensures.dates;
}

pub returns-in-LostTo-clause-done : goal.returns-in-LostTo-clause-done
returns-in-LostTo-clause-done g c = record {
  gives_back = refl;
  held = c.in-LostTo.held;
  word = c.held_as.ensures;
  other = λ same.
      let lost = lost_word c.cas.ensures.word c.args.expected c.in-LostTo.held
      (sym c.in-LostTo.is ∙ c.cas.ensures.answers) in
      lost.0 (sym (word_back c.cas.ensures.word) ∙ (ap word_of (sym lost.1)
      ∙ (sym c.held_as.ensures ∙ same)));
  found = record {
    ready = c.reserve.new.seat;
    reserved = c.reserve.ensures.same;
    between = c.cas.new.seat;
    exchange = renamed c.cas.ensures
        (λ i. act.Cas (c.event_place.ensures i) c.args.expected (c.slot_of-content.ensures i))
        c.in-LostTo.is;
    dates = refl;
  };
}
