use Rattle.std.proofs.Common.{List, ◌++◌, ◌∷◌, [], refl, ap, sym, ◌∙◌, append-nil, append_assoc, subst}
use Rattle.domain_audit.specs.counted_handles.Handles.{Handle}
use Rattle.domain_audit.proofs.Below.slot_store_Quieting.{no_items}
use Rattle.lane_domain.specs.lane_files.Keeping.{GivesUp, slots_of}
use Rattle.lane_domain.proofs.Below.lane_files_Giving.{gives_none}
use Rattle.lane_domain.proofs.Below.lane_files_SeatsKept.{owns_drop}
use Rattle.lane_reports.proofs.Dropped.{gives_more, next_owned}
use Rattle.lane_reports.proofs.Trails.{alone_same, alone_then, drop_alone}
use Rattle.lane_reports.proofs.giving.give_all.Goals as goal

pub loop-handle-init : goal.loop-handle-init
loop-handle-init c = record {
  all = c.into_iter-handle-iterator.ensures.into_iter_gives.0;
  gives = gives_none c.args.root.now;
  client = refl;
  trail = alone_same c.args.root.now.view.core c.args.root.now.view.core refl;
  room = c.requires.room;
  rest = c.requires.rest;
}

pub drop_strong-requires-clause-owned : goal.drop_strong-requires-clause-owned
drop_strong-requires-clause-owned c =
    next_owned c.args.kept.items c.loop-handle.yielded c.loop-handle.handle-iterator.rest.items
    c.next.new.self.rest.items c.in-Some.handle c.loop-handle.invariant.all
    c.in-Some.ensures.steps.0 c.args.root.now c.loop-handle.root c.loop-handle.invariant.gives
    c.requires.owned

pub loop-handle-preserved : goal.loop-handle-preserved
loop-handle-preserved c = record {
  all = append_assoc c.loop-handle.yielded (c.in-Some.handle ∷ []) c.next.new.self.rest.items
      ∙ sym (ap (λ (hs : List Handle). c.loop-handle.yielded ++ hs) c.in-Some.ensures.steps.0)
      ∙ c.loop-handle.invariant.all;
  gives = gives_more c.args.kept.items c.loop-handle.yielded
      c.loop-handle.handle-iterator.rest.items c.next.new.self.rest.items c.in-Some.handle
      c.loop-handle.invariant.all c.in-Some.ensures.steps.0 c.args.root.now c.loop-handle.root
      c.loop-handle.invariant.gives c.requires.owned c.drop_strong.new.seat
      (owns_drop _ c.args.domain.now c.in-Some.handle.slot c.loop-handle.root
      c.drop_strong.new.seat c.drop_strong.ensures.dropped c.drop_strong.ensures.objects);
  client = c.drop_strong.ensures.client ∙ c.loop-handle.invariant.client;
  trail = alone_then c.args.root.now.view.core c.loop-handle.root.view.core
      c.drop_strong.new.seat.view.core c.loop-handle.invariant.trail
      (drop_alone _ c.args.domain.now c.in-Some.handle.slot c.loop-handle.root
      c.drop_strong.new.seat c.drop_strong.ensures.dropped);
  room = c.drop_strong.ensures.room c.loop-handle.invariant.room;
  rest = c.drop_strong.ensures.rest;
}

pub returns-clause-gives : goal.returns-clause-gives
returns-clause-gives c =
    subst (λ (hs : List Handle). GivesUp (slots_of hs) c.args.root.now c.loop-handle.root)
    (sym (append-nil c.loop-handle.yielded)
    ∙ sym (ap (λ (hs : List Handle). c.loop-handle.yielded ++ hs) (no_items c.loop-handle.handle-iterator.rest.items
    (sym c.loop-handle.handle-iterator.rest.ok.0 ∙ c.in-None.ensures.steps.0)))
    ∙ c.loop-handle.invariant.all)
    c.loop-handle.invariant.gives
