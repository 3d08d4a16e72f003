-- An upgrade of the node before one that a seat saw in the tail cell.
use Rattle.std.proofs.Common.{◌≡◌, ℕ, ◌<◌, Bool, true, false, [], ◌∷◌, ◌++◌, refl, ap, sym, ◌∙◌, subst, arith, List}
use Rattle.std.specs.Prelude.{cond, ◌==◌}
use Rattle.weak_part_calls.specs.plain_state.declared.slot.SlotId.{SlotId}
use Rattle.weak_part_calls.specs.plain_state.Lists.{times}
use Rattle.weak_part_calls.specs.core_events.declared.act.Act.TheVariants as act
use Rattle.weak_part_calls.specs.core_events.declared.outcome.Outcome.{Outcome}
use Rattle.weak_part_calls.specs.core_events.declared.view.CoreView.{CoreView}
use Rattle.weak_part_calls.specs.core_events.ShownSteps.{shown_number}
use Rattle.weak_part_calls.specs.acquire_retire.Calls.{IsReady}
use Rattle.weak_part_calls.specs.acquire_retire.Collecting.{move}
use Rattle.weak_part_calls.specs.acquire_retire.Domains.{DomainState}
use Rattle.weak_part_calls.specs.acquire_retire.Seats.{SeatState}
use Rattle.weak_part_calls.specs.control_word.Calls.{FindsEnded, GainsStrong, with_add, with_strong}
use Rattle.weak_part_calls.specs.control_word.Moves.{Becomes, KnowsStill}
use Rattle.linked_queue.specs.queue_law.declared.view.Form.TheVariants.{Double}
use Rattle.linked_queue.specs.queue_law.declared.view.View.{View}
use Rattle.linked_queue.specs.queue_law.Lessons.{EndedReady, EndedTells, ended_next}
use Rattle.linked_queue.specs.queue_law.Pushes.{helped_view}
use Rattle.linked_queue.specs.queue_protocol.declared.law.QueueLaw.{QueueLaw}
use Rattle.linked_queue.specs.Pushes.{SeesTail}
use Rattle.linked_queue.specs.Queues.{IsAttached, beside_eyes, ends_of}
use Rattle.linked_queue.proofs.Owning.{has_owned, own_life, owns_pushed, still_owned}
use Rattle.double_link_queue.specs.Leaving.{LeavesBoth}
use Rattle.double_link_queue.specs.Pushes.{NotesHelp, SeesBack, SeesBefore}
use Rattle.double_link_queue.proofs.Backs.{tail_kept}
use Rattle.double_link_queue.proofs.Leavings.{both_as}

-- what the view is told by a deed that notes that there is nothing to help
pub notes_help : (b : Bool) (v w : View) → w ≡ cond b (helped_view v) v → NotesHelp v w
notes_help true v w is = record {
  beside = ap beside_eyes is;
  node = ap (λ (u : View). u.eyes.node) is;
  life = ap (λ (u : View). u.eyes.life) is;
  was_tail = ap (λ (u : View). u.eyes.was_tail) is;
  is_before = ap (λ (u : View). u.eyes.before) is;
}
notes_help false v w is = record {
  beside = ap beside_eyes is;
  node = ap (λ (u : View). u.eyes.node) is;
  life = ap (λ (u : View). u.eyes.life) is;
  was_tail = ap (λ (u : View). u.eyes.was_tail) is;
  is_before = ap (λ (u : View). u.eyes.before) is;
}

pub notes_none : (v w : View) → w ≡ v → NotesHelp v w
notes_none v w is = notes_help false v w is

module _ (fits : List ℕ → Type 0) (d : DomainState QueueLaw) (last back : SlotId)
    (old : SeatState View) (sees : SeesBack last back old) where
  pub ended_ready : d.protocol.form ≡ Double → IsAttached old.view.client
      → IsReady (EndedReady (ends_of d)) d.shape (act.Add back) old.view
  ended_ready form attached w = record {
    before = back.0;
    node = last.0;
    act_is = refl;
    form = form;
    held = (let some' = sees.tail.owns in omega arith);
    seen = sees.tail.node;
    seen_life = own_life last old (has_owned last old sees.tail.owns) ∙ sees.tail.life;
    at_before = sees.is_before;
    attached = attached.attached;
  }

  module _ (new : SeatState View) (knows : KnowsStill old.view.core old new) where
    -- an add with the deed, whatever it found
    module _ (o : Outcome) (v : CoreView)
        (by : Becomes fits d ended_next EndedTells (move (act.Add back) o ∷ []) v old new) where
      abbrev number : ℕ
      number = shown_number (act.Add back) by.walks.1.word

      client : new.view.client ≡ cond (number == 1) (helped_view old.view.client) old.view.client
      client = ap (λ (z : SeatState View). z.view.client) by.walks.2 ∙ by.walks.1.told.client

      pub added : NotesHelp old.view.client new.view.client
      added = notes_help (number == 1) old.view.client new.view.client client

    tail_on : NotesHelp old.view.client new.view.client → 0 < times last new.view.core.owned
        → new.view.core.shape ≡ old.view.core.shape → SeesTail last new
    tail_on notes owns shape = tail_kept last old new sees.tail owns
        (knows last (has_owned last old sees.tail.owns)) shape notes.node notes.life notes.was_tail

    pub back_on : NotesHelp old.view.client new.view.client → 0 < times last new.view.core.owned
        → new.view.core.weaks ≡ old.view.core.weaks → new.view.core.shape ≡ old.view.core.shape
        → SeesBack last back new
    back_on notes owns weaks shape = record {
      tail = tail_on notes owns shape;
      owns = subst (λ l. 0 < times back l) (sym weaks) sees.owns;
      is_before = notes.is_before ∙ sees.is_before;
    }

    -- it was counted
    module _ (gains : GainsStrong fits d ended_next EndedTells back old new) where
      up_owned : new.view.core.owned ≡ old.view.core.owned ++ back ∷ []
      up_owned = ap (λ (v : CoreView). v.owned) gains.core

      up_last : 0 < times last new.view.core.owned
      up_last = still_owned last back old.view.core.owned new.view.core.owned up_owned
          sees.tail.owns

      pub up_back : SeesBack last back new
      up_back = back_on (added _ _ gains) up_last (ap (λ (v : CoreView). v.weaks) gains.core)
          (ap (λ (v : CoreView). v.shape) gains.core)

      pub up_before : SeesBefore last back new
      up_before = record {
        tail = up_back.tail;
        owns = owns_pushed back old.view.core.owned new.view.core.owned up_owned;
        is_before = up_back.is_before;
      }

      pub up_leaves : LeavesBoth (old.view.core.owned ++ back ∷ []) old.view.core.weaks old new
      up_leaves = both_as old new (with_strong back old.view.core) old.view.core _ gains.core refl
          (omega arith) knows
          (λ x was is. was)

    -- the object had ended
    module _ (found : FindsEnded fits d ended_next EndedTells back old new) where
      pub ended_back : SeesBack last back new
      ended_back = back_on (added _ _ found.becomes)
          (subst (λ l. 0 < times last l) (sym (ap (λ (v : CoreView). v.owned) found.becomes.core))
          sees.tail.owns)
          (ap (λ (v : CoreView). v.weaks) found.becomes.core)
          (ap (λ (v : CoreView). v.shape) found.becomes.core)

      pub ended_leaves : LeavesBoth old.view.core.owned old.view.core.weaks old new
      ended_leaves = both_as old new (with_add old.view.core) old.view.core _ found.becomes.core
          refl (omega arith) knows
          (λ x was is. was)

-- what is seen of the node before is seen still, where the seat owns both nodes and its eyes are on them
pub before_left : (owned weaks : List SlotId) (last before : SlotId) (old new : SeatState View)
    → SeesBefore last before old → LeavesBoth owned weaks old new → 0 < times last owned
    → 0 < times before owned → new.view.client ≡ old.view.client → SeesBefore last before new
before_left owned weaks last before old new sees leaves some_last some_before client =
    let was = sees.tail.owns in
    let is = leaves.owns last in
    let at = leaves.owns before in
    record {
      tail = tail_kept last old new sees.tail (omega arith)
          (leaves.knows last (omega arith) (omega arith))
          (ap (λ (v : CoreView). v.shape) leaves.same) (ap (λ (v : View). v.eyes.node) client)
          (ap (λ (v : View). v.eyes.life) client) (ap (λ (v : View). v.eyes.was_tail) client);
      owns = omega arith;
      is_before = ap (λ (v : View). v.eyes.before) client ∙ sees.is_before;
    }
