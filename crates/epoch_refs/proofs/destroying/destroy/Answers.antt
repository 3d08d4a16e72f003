use Rattle.std.proofs.Common.{ap, subst, ◌∙◌}
use Rattle.epoch_domain.specs.epoch_core.declared.act.EpochAct.TheVariants as act
use Rattle.epoch_domain.specs.Calls.{IsSameView, Steps, same_view}
use Rattle.epoch_domain.specs.plain_protocol.Owns.{Object}
use Rattle.epoch_refs.proofs.destroying.destroy.Goals as goal

pub returns-clause-destroys : goal.returns-clause-destroys
returns-clause-destroys g c = record {
  first = c.clear_field.new.seat;
  second = c.clear_field-2.new.seat;
  read = c.see_all-payload.new.seat;
  payload = c.see_all-payload.result;
  clears_first = c.clear_field.ensures.clears;
  clears_second = c.clear_field-2.ensures.clears;
  sees = c.see_all-payload.ensures.sees;
  frees =
      subst (Steps g.P.Kind.PayloadKind.fits c.args.domain.now same_view IsSameView (act.Free c.args.slot)
      c.see_all-payload.new.seat c.free.new.seat) c.free.ensures.answers c.free.ensures;
  known = c.see_all-payload.ensures.known
      ∙ ap (λ (o : Object). o.payload)
      (c.clear_field-2.ensures.leaves.object ∙ c.clear_field.ensures.leaves.object);
  weighs = c.call-weight.ensures.weight;
}
