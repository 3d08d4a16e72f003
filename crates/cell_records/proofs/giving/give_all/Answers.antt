use Rattle.std.proofs.Common.{◌≡◌, ◌+◌, List, ◌++◌, ◌∷◌, [], refl, ap, sym, ◌∙◌, append-nil, append_assoc, subst, arith}
use Rattle.cell_intern.specs.cell_calls.cell_law.plain_state.Lists.{times}
use Rattle.cell_intern.specs.cell_calls.cell_law.plain_state.declared.slot.SlotId.{SlotId}
use Rattle.epoch_alone.proofs.Below.core_law_Kit.{times_none}
use Rattle.domain_audit.proofs.Below.slot_store_Quieting.{no_items}
use Rattle.lane_work.specs.Keeping.{slots_of}
use Rattle.lane_work.specs.counted_handles.Handles.{Handle}
use Rattle.cell_records.proofs.Dropped.{gives_more, next_owned}
use Rattle.cell_records.proofs.giving.give_all.Goals as goal

pub loop-handle-init : goal.loop-handle-init
loop-handle-init c = record {
  all = c.into_iter-handle-iterator.ensures.into_iter_gives.0;
  ready = c.requires.ready;
  owned = λ s. let none = times_none s in omega (arith, none);
  client = refl;
  null = λ null. null;
}

pub give_one-requires-clause-owned : goal.give_one-requires-clause-owned
give_one-requires-clause-owned c =
    next_owned c.args.kept.items c.loop-handle.yielded c.loop-handle.handle-iterator.rest.items
    c.next.new.self.rest.items c.in-Some.handle c.loop-handle.invariant.all
    c.in-Some.ensures.steps.0 c.args.root.now c.loop-handle.root c.loop-handle.invariant.owned
    c.requires.owned

pub loop-handle-preserved : goal.loop-handle-preserved
loop-handle-preserved c = record {
  all = append_assoc c.loop-handle.yielded (c.in-Some.handle ∷ []) c.next.new.self.rest.items
      ∙ sym (ap (λ (hs : List Handle). c.loop-handle.yielded ++ hs) c.in-Some.ensures.steps.0)
      ∙ c.loop-handle.invariant.all;
  ready = c.give_one.ensures.ready;
  owned = gives_more c.loop-handle.yielded c.in-Some.handle c.args.root.now c.loop-handle.root
      c.give_one.new.root c.loop-handle.invariant.owned c.give_one.ensures.owned;
  client = c.give_one.ensures.client ∙ c.loop-handle.invariant.client;
  null = λ null. c.give_one.ensures.null (c.loop-handle.invariant.null null);
}

pub returns-clause-owned : goal.returns-clause-owned
returns-clause-owned c =
    subst (λ (hs : List Handle). (s : SlotId)
    → times s c.loop-handle.root.view.core.owned + times s (slots_of hs)
    ≡ times s c.args.root.now.view.core.owned)
    (sym (append-nil c.loop-handle.yielded)
    ∙ sym (ap (λ (hs : List Handle). c.loop-handle.yielded ++ hs)
    (no_items c.loop-handle.handle-iterator.rest.items
    (sym c.loop-handle.handle-iterator.rest.ok.0 ∙ c.in-None.ensures.steps.0)))
    ∙ c.loop-handle.invariant.all)
    c.loop-handle.invariant.owned
