use Rattle.std.proofs.Common.{◌≡◌, true}
use Rattle.law_lesson.specs.plain_state.declared.slot.SlotId.{SlotId}
use Rattle.words_rest.specs.Kept.{TellsWord}
use Rattle.lane_reports.specs.Holders.{has}
use Rattle.lane_reports.specs.Kept.{lives_in}
use Rattle.lane_reports.proofs.Finding.{learns_on, leaves_on, of_some}
use Rattle.lane_reports.proofs.records.find_record.Goals as goal

pub returns-in_err-slot-clause-leaves : goal.returns-in_err-slot-clause-leaves
returns-in_err-slot-clause-leaves g c =
    leaves_on c.args.root.now c.loop.root c.find_held.new.root c.loop.invariant.3
    c.find_held.ensures.leaves

pub returns-in_err-slot-clause-learns : goal.returns-in_err-slot-clause-learns
returns-in_err-slot-clause-learns g c =
    learns_on c.args.root.now.view.client c.loop.root.view.client c.find_held.new.root.view.client
    c.loop.invariant.4 c.find_held.ensures.learns

pub returns-in-Some-2-clause-held : goal.returns-in-Some-2-clause-held
returns-in-Some-2-clause-held g c =
    of_some (λ (s : SlotId). has c.args.held.now s ≡ true) c.in_ok-slot.field-0
    c.in-Some-2.slot c.in-Some-2.is c.in_ok-slot.ensures.held

pub returns-in-Some-2-clause-tells : goal.returns-in-Some-2-clause-tells
returns-in-Some-2-clause-tells g c =
    of_some (λ (s : SlotId). TellsWord c.find_held.new.root.view.client.1 c.args.word.now s
    (lives_in c.find_held.new.root s)) c.in_ok-slot.field-0 c.in-Some-2.slot c.in-Some-2.is
    c.in_ok-slot.ensures.tells

pub returns-in-Some-2-clause-leaves : goal.returns-in-Some-2-clause-leaves
returns-in-Some-2-clause-leaves g c =
    leaves_on c.args.root.now c.loop.root c.find_held.new.root c.loop.invariant.3
    c.find_held.ensures.leaves

pub returns-in-Some-2-clause-learns : goal.returns-in-Some-2-clause-learns
returns-in-Some-2-clause-learns g c =
    learns_on c.args.root.now.view.client c.loop.root.view.client c.find_held.new.root.view.client
    c.loop.invariant.4 c.find_held.ensures.learns

pub loop-preserved : goal.loop-preserved
loop-preserved g c = (
  tt,
  tt,
  c.find_held.ensures.ready,
  leaves_on c.args.root.now c.loop.root c.find_held.new.root c.loop.invariant.3
      c.find_held.ensures.leaves,
  learns_on c.args.root.now.view.client c.loop.root.view.client c.find_held.new.root.view.client
      c.loop.invariant.4 c.find_held.ensures.learns,
)
