use Rattle.std.proofs.Common.{◌≡◌, ap, sym, ◌∙◌, subst, arith}
use Rattle.std.specs.Prelude.{Option}
use Rattle.map_law.specs.plain_state.declared.act.EventPlace.TheVariants.{Cell}
use Rattle.map_law.specs.plain_state.declared.act.PlainAct.TheVariants as plain
use Rattle.map_law.specs.plain_state.declared.slot.SlotId.{SlotId}
use Rattle.map_law.specs.plain_state.Lists.{times}
use Rattle.map_law.specs.plain_state.Steps.{word_of}
use Rattle.map_law.specs.declared.view.View.{View}
use Rattle.map_law.specs.Nodes.{IsNode}
use Rattle.map_law.specs.Publishing.{PublishReady, PublishTells, publish_next}
use Rattle.slot_store.specs.core_events.declared.view.CoreView.{CoreView}
use Rattle.slot_store.specs.core_events.Steps.{IsContent}
use Rattle.slot_store.specs.domain_rule.Views.{own_of}
use Rattle.slot_store.specs.counted_handles.Handles.{Handle}
use Rattle.slot_store.specs.retiring_stores.Exchanging.{LosesTo, Replaces}
use Rattle.atomic_shared.specs.Places.{named}
use Rattle.version_making.specs.Keeping.{Keeps, none, of_both, of_handle}
use Rattle.version_making.proofs.Keeping.{goes_then, keeps_then}
use Rattle.version_updates.specs.Publishing.{but_for}
use Rattle.version_updates.proofs.Beside.{keeps_all_but, keeps_but_for}
use Rattle.version_updates.proofs.Freezing.{owns_first, owns_second, publish_ready}
use Rattle.version_updates.proofs.Giving.{can_give, owned_given, without}
use Rattle.version_updates.proofs.Losing.{keeps_lost, lost_by, lost_is}
use Rattle.version_updates.proofs.Replacing.{entries_are, keeps_replaced, open_still, published, replaced_by}
use Rattle.version_updates.proofs.publishing.publish.Goals as goal

pub try_replace-requires-clause-owned : goal.try_replace-requires-clause-owned
try_replace-requires-clause-owned c =
    can_give c.args.new c.args.seat.now.view.core
    (owns_second c.args.old c.args.new c.args.seat.now c.requires.owned.0)

pub try_replace-requires-clause-expected : goal.try_replace-requires-clause-expected
try_replace-requires-clause-expected c =
    subst (λ (s : Option SlotId). IsContent c.args.domain.now.shape s)
    (sym c.slot_of-expected.ensures) c.requires.owned.1

pub try_replace-requires-clause-deed : goal.try_replace-requires-clause-deed
try_replace-requires-clause-deed c w =
    subst (λ (s : Option SlotId). PublishReady c.args.domain.now.protocol.cell s c.slot_of.result
    c.args.update.key c.args.update.change c.args.update.answer (own_of c.args.seat.now.view)
    c.args.seat.now.view.client (plain.TryReplace (Cell c.args.cell) s (named c.args.new)))
    (sym c.slot_of-expected.ensures)
    (subst (λ (s : Option SlotId). PublishReady c.args.domain.now.protocol.cell (named c.args.old) s
    c.args.update.key c.args.update.change c.args.update.answer (own_of c.args.seat.now.view)
    c.args.seat.now.view.client (plain.TryReplace (Cell c.args.cell) (named c.args.old)
    (named c.args.new)))
    (sym c.slot_of.ensures)
    (publish_ready c.args.domain.now c.args.cell c.args.domain.now.protocol.cell c.args.old
    c.args.new c.args.update c.args.seat.now c.requires.cell.0 c.requires.ready.0
    c.requires.ready.1
    (owns_first c.args.old c.args.new c.args.seat.now c.requires.owned.0)
    (owns_second c.args.old c.args.new c.args.seat.now c.requires.owned.0) c.requires.version))

pub give_up-requires-clause-owned : goal.give_up-requires-clause-owned
give_up-requires-clause-owned c x =
    let same : times x c.try_replace.new.seat.view.core.owned
    ≡ times x (without c.args.new c.args.seat.now.view.core).owned =
    ap (λ (v : CoreView). times x v.owned) c.in-Ok.ensures.replaced.0.same in
    let given = owned_given c.args.new c.args.seat.now.view.core
    (owns_second c.args.old c.args.new c.args.seat.now c.requires.owned.0) x in
    let both = c.requires.owned.0 x in
    omega (arith, same, given, both)

-- THE OLD ROOT WAS FOUND
module _ (c : goal.After-give_up) where
  does : Replaces IsNode c.args.domain.now (publish_next (named c.args.old) (named c.args.new)
      c.args.update.key c.args.update.change c.args.update.answer)
      (PublishTells c.args.domain.now.protocol.cell c.args.update.key c.args.update.change
      c.args.update.answer) (Cell c.args.cell) (named c.args.new) (named c.args.old)
      c.args.seat.now c.try_replace.new.seat
  does =
      replaced_by c.args.domain.now c.args.cell c.args.old c.args.new c.args.update
      c.args.seat.now c.try_replace.new.seat c.slot_of-expected.result c.slot_of.result
      c.slot_of-expected.ensures c.slot_of.ensures c.in-Ok.ensures.replaced.0

pub returns-in-Ok-clause-published : goal.returns-in-Ok-clause-published
returns-in-Ok-clause-published c =
    published c.args.domain.now c.args.cell c.args.old c.args.new c.args.update c.args.seat.now
    c.try_replace.new.seat (does c) c.requires.cell.0 c.give_up.new.seat
    c.give_up.ensures.keeps.goes

pub returns-in-Ok-clause-entries : goal.returns-in-Ok-clause-entries
returns-in-Ok-clause-entries c =
    ap (λ (v : View). v.entries) c.give_up.ensures.client
    ∙ entries_are c.args.domain.now c.args.cell c.args.old c.args.new c.args.update
    c.args.seat.now c.try_replace.new.seat (does c)

pub returns-in-Ok-clause-keeps : goal.returns-in-Ok-clause-keeps
returns-in-Ok-clause-keeps c =
    keeps_then 0 0 0 0 (of_handle c.args.new) none (of_handle c.args.old) none
    (of_both c.args.old c.args.new) none c.args.seat.now
    (but_for c.args.seat.now.view.client c.try_replace.new.seat)
    (but_for c.args.seat.now.view.client c.give_up.new.seat)
    (keeps_replaced c.args.domain.now c.args.cell c.args.old c.args.new c.args.update
    c.args.seat.now c.try_replace.new.seat (does c)
    (owns_second c.args.old c.args.new c.args.seat.now c.requires.owned.0)
    c.try_replace.ensures.objects)
    (keeps_but_for 0 0 (of_handle c.args.old) none c.args.seat.now.view.client
    c.try_replace.new.seat c.give_up.new.seat c.give_up.ensures.keeps)
    (λ x. (omega arith, omega arith, omega arith))

pub returns-in-Ok-clause-open : goal.returns-in-Ok-clause-open
returns-in-Ok-clause-open c =
    ap (λ (v : View). v.cleared) c.give_up.ensures.client
    ∙ open_still c.args.domain.now c.args.cell c.args.old c.args.new c.args.update
    c.args.seat.now c.try_replace.new.seat (does c) c.requires.ready.1

-- ANOTHER ROOT was found
module _ (c : goal.After-give_up-in-Err-2) where
  loses : LosesTo IsNode c.args.domain.now (publish_next (named c.args.old) (named c.args.new)
      c.args.update.key c.args.update.change c.args.update.answer)
      (PublishTells c.args.domain.now.protocol.cell c.args.update.key c.args.update.change
      c.args.update.answer) (Cell c.args.cell) (named c.args.new) (named c.args.old)
      c.in-Err.lost.now c.args.seat.now c.try_replace.new.seat
  loses =
      lost_by c.args.domain.now c.args.cell c.args.old c.args.new c.args.update
      c.in-Err.lost.now c.args.seat.now c.try_replace.new.seat c.slot_of-expected.result
      c.slot_of.result c.slot_of-expected.ensures c.slot_of.ensures c.in-Err.ensures.lost

  kept_lost : Keeps 0 0 none none c.args.seat.now c.try_replace.new.seat
  kept_lost =
      keeps_lost c.args.domain.now c.args.cell c.args.old c.args.new c.args.update
      c.in-Err.lost.now c.args.seat.now c.try_replace.new.seat loses

  kept_all : Keeps 0 0 (of_both c.args.old c.args.new) none c.args.seat.now
      c.give_up-in-Err-2.new.seat
  kept_all =
      keeps_then 0 0 0 0 (of_handle c.args.new) none (of_handle c.args.old) none
      (of_both c.args.old c.args.new) none c.args.seat.now c.give_up-in-Err.new.seat
      c.give_up-in-Err-2.new.seat
      (keeps_then 0 0 0 0 none none (of_handle c.args.new) none (of_handle c.args.new) none
      c.args.seat.now c.try_replace.new.seat c.give_up-in-Err.new.seat kept_lost
      (subst (λ (h : Option Handle). Keeps 0 0 (of_handle h) none c.try_replace.new.seat
      c.give_up-in-Err.new.seat) c.in-Err.ensures.back c.give_up-in-Err.ensures.keeps)
      (λ x. (omega arith, omega arith, omega arith)))
      c.give_up-in-Err-2.ensures.keeps (λ x. (omega arith, omega arith, omega arith))

pub returns-in-Err-clause-lost : goal.returns-in-Err-clause-lost
returns-in-Err-clause-lost c =
    lost_is c.args.domain.now c.args.cell c.args.old c.args.new c.args.update c.in-Err.lost.now
    c.args.seat.now c.try_replace.new.seat (loses c) c.requires.cell.0 c.held_as-seen.result
    (c.held_as-seen.ensures ∙ ap word_of c.slot_of-expected.ensures) c.give_up-in-Err-2.new.seat
    (goes_then c.try_replace.new.seat.view.core c.give_up-in-Err.new.seat.view.core
    c.give_up-in-Err-2.new.seat.view.core c.give_up-in-Err.ensures.keeps.goes
    c.give_up-in-Err-2.ensures.keeps.goes)

pub returns-in-Err-clause-entries : goal.returns-in-Err-clause-entries
returns-in-Err-clause-entries c = (kept_all c).grows.entries

pub returns-in-Err-clause-keeps : goal.returns-in-Err-clause-keeps
returns-in-Err-clause-keeps c =
    keeps_all_but 0 0 (of_both c.args.old c.args.new) none c.args.seat.now
    c.give_up-in-Err-2.new.seat (kept_all c)

pub returns-in-Err-clause-open : goal.returns-in-Err-clause-open
returns-in-Err-clause-open c = (kept_all c).grows.cleared ∙ c.requires.ready.1
