-- The link behind the node before: what its deeds ask, and what they leave.
use Rattle.std.proofs.Common.{◌≡◌, ℕ, ◌<◌, Bool, true, false, [], ◌∷◌, ◌++◌, inl, refl, ap, sym, ◌∙◌, subst, arith, List}
use Rattle.std.specs.Prelude.{Option, Some, None, cond, ◌==◌}
use Rattle.weak_part_calls.specs.plain_state.declared.act.EventPlace.TheVariants.{Field}
use Rattle.weak_part_calls.specs.plain_state.declared.slot.SlotId.{SlotId}
use Rattle.weak_part_calls.specs.plain_state.Lists.{times}
use Rattle.weak_part_calls.specs.plain_protocol.Owns.{Object}
use Rattle.weak_part_calls.specs.core_events.declared.act.Act.TheVariants as act
use Rattle.weak_part_calls.specs.core_events.declared.outcome.Outcome.{Outcome}
use Rattle.weak_part_calls.specs.core_events.declared.outcome.Outcome.TheVariants as outcome
use Rattle.weak_part_calls.specs.core_events.declared.view.CoreView.{CoreView}
use Rattle.weak_part_calls.specs.core_events.Views.{without}
use Rattle.weak_part_calls.specs.core_events.Words.{slot_in}
use Rattle.weak_part_calls.proofs.Below.core_law_Kit.{times_push}
use Rattle.weak_part_calls.specs.acquire_retire.Calls.{IsReady, Steps}
use Rattle.weak_part_calls.specs.acquire_retire.Collecting.{move}
use Rattle.weak_part_calls.specs.acquire_retire.Domains.{DomainState}
use Rattle.weak_part_calls.specs.acquire_retire.Seats.{SeatState}
use Rattle.weak_part_calls.specs.control_word.Moves.{Becomes, KnowsStill}
use Rattle.linked_queue.specs.queue_law.declared.view.Form.TheVariants.{Double}
use Rattle.linked_queue.specs.queue_law.declared.view.View.{View}
use Rattle.linked_queue.specs.queue_law.Lessons.{set_next}
use Rattle.linked_queue.specs.queue_law.Pushes.{HelpReady, helped_view}
use Rattle.linked_queue.specs.queue_protocol.declared.law.QueueLaw.{QueueLaw}
use Rattle.linked_queue.specs.Pushes.{SeesTail}
use Rattle.linked_queue.specs.Queues.{ends_of}
use Rattle.linked_queue.proofs.Looks.{looked}
use Rattle.linked_queue.proofs.Owning.{has_owned, own_life}
use Rattle.double_link_queue.specs.Before.{BeforeTells, HeldSetReady}
use Rattle.double_link_queue.specs.Leaving.{LeavesBoth}
use Rattle.double_link_queue.specs.Pushes.{NotesHelp, SeesBefore, SeesNodeBefore}
use Rattle.double_link_queue.proofs.Backs.{tail_kept}
use Rattle.double_link_queue.proofs.Owning.{goes_on, through_both}
use Rattle.double_link_queue.proofs.Upgrades.{before_left, notes_help, notes_none}

notes_set : (b : Bool) (v w : View) → w ≡ cond b v (helped_view v) → NotesHelp v w
notes_set true v w is = notes_none v w is
notes_set false v w is = notes_help true v w is

-- SET
module _ (fits : List ℕ → Type 0) (d : DomainState QueueLaw) (last before : SlotId)
    (old : SeatState View) (sees : SeesBefore last before old) where
  pub set_ready : d.protocol.form ≡ Double
      → IsReady (HeldSetReady (ends_of d)) d.shape (act.Look (Field before 0)) old.view
  set_ready form w = record {
    set = record {
      before = before.0;
      node = last.0;
      reads = inl refl;
      form = form;
      held = (let some' = sees.tail.owns in omega arith);
      seen = sees.tail.node;
      seen_life = own_life last old (has_owned last old sees.tail.owns) ∙ sees.tail.life;
      at_before = sees.is_before;
    };
    holds = (let some' = sees.owns in omega arith);
  }

  module _ (new : SeatState View) (o : Outcome)
      (step : Steps fits d set_next BeforeTells (act.Look (Field before 0)) old new o) where
    abbrev found : Option SlotId
    found = slot_in step.word

    by : Becomes fits d set_next BeforeTells
        (move (act.Look (Field before 0)) (outcome.Found found) ∷ []) old.view.core old new
    by = looked d (Field before 0) found old new
        (record { table = step.table; word = step.word; told = step.told; answers = refl })

    client : new.view.client ≡ cond (step.word == 0) old.view.client (helped_view old.view.client)
    client = step.told.client

    pub set_notes : NotesHelp old.view.client new.view.client
    set_notes = notes_set (step.word == 0) old.view.client new.view.client client

    set_knows : KnowsStill old.view.core old new
    set_knows s has = step.told.objects s has

    pub set_before : SeesNodeBefore last before new
    set_before =
        let owned = ap (λ (v : CoreView). v.owned) by.core in
        let owns : 0 < times before new.view.core.owned =
        subst (λ l. 0 < times before l) (sym owned) sees.owns in
        record {
          sees = record {
            tail = tail_kept last old new sees.tail
                (subst (λ l. 0 < times last l) (sym owned) sees.tail.owns)
                (set_knows last (has_owned last old sees.tail.owns))
                (ap (λ (v : CoreView). v.shape) by.core) set_notes.node set_notes.life
                set_notes.was_tail;
            owns = owns;
            is_before = set_notes.is_before ∙ sees.is_before;
          };
          is_node =
              ap (λ (o : Object). o.payload) (step.told.says.objects before (has_owned before new
              owns))
              ∙ step.told.happened.fact.2 before.0 sees.is_before;
        }

-- HELP
pub help_ready : (d : DomainState QueueLaw) (last before : SlotId) (seat : SeatState View)
    → d.protocol.form ≡ Double → SeesBefore last before seat
    → IsReady (HelpReady (ends_of d)) d.shape (act.Cas (Field before 0) None (Some last)) seat.view
help_ready d last before seat form sees w = record {
  before = before.0;
  node = last.0;
  act_is = refl;
  form = form;
  held = (let some' = sees.tail.owns in omega arith);
  seen = sees.tail.node;
  seen_life = own_life last seat (has_owned last seat sees.tail.owns) ∙ sees.tail.life;
  at_before = sees.is_before;
}

-- a node before stays one, where the seat owns both nodes still and its view is as it was
pub node_before_left : (owned weaks : List SlotId) (last before : SlotId) (old new : SeatState View)
    → SeesNodeBefore last before old → LeavesBoth owned weaks old new → 0 < times last owned
    → 0 < times before owned → new.view.client ≡ old.view.client → SeesNodeBefore last before new
node_before_left owned weaks last before old new node leaves some_last some_before client =
    let was = node.sees.owns in
    let at = leaves.owns before in
    record {
      sees = before_left owned weaks last before old new node.sees leaves some_last some_before
          client;
      is_node = ap (λ (o : Object). o.payload) (leaves.knows before (omega arith) (omega arith))
          ∙ node.is_node;
    }

-- and so does the tail cell's node, where the view is told at most that there is nothing to help
pub tail_noted : (owned weaks : List SlotId) (last : SlotId) (old new : SeatState View)
    → SeesTail last old → LeavesBoth owned weaks old new → 0 < times last owned
    → NotesHelp old.view.client new.view.client → SeesTail last new
tail_noted owned weaks last old new sees leaves some' notes =
    let was = sees.owns in
    let is = leaves.owns last in
    tail_kept last old new sees (omega arith) (leaves.knows last (omega arith) (omega arith))
    (ap (λ (v : CoreView). v.shape) leaves.same) notes.node notes.life notes.was_tail

pub notes_then : (v w u : View) → NotesHelp v w → NotesHelp w u → NotesHelp v u
notes_then v w u first second = record {
  beside = second.beside ∙ first.beside;
  node = second.node ∙ first.node;
  life = second.life ∙ first.life;
  was_tail = second.was_tail ∙ first.was_tail;
  is_before = second.is_before ∙ first.is_before;
}

-- A reference to n is gained, something is done, and that reference is given up: the tail cell's node is seen still.
pub tail_through : (n last : SlotId) (a b c e : SeatState View)
    → LeavesBoth (a.view.core.owned ++ n ∷ []) a.view.core.weaks a b
    → LeavesBoth b.view.core.owned b.view.core.weaks b c
    → LeavesBoth (without n c.view.core.owned) c.view.core.weaks c e → SeesTail last a
    → SeesTail last c → e.view.client ≡ c.view.client → SeesTail last e
tail_through n last a b c e gains goes gives sees late client =
    let on = goes_on n None a b c e gains goes in
    let all = through_both n None a b c e gains goes gives in
    let was = sees.owns in
    let now' = late.owns in
    let at = on.owns last in
    let is = all.owns last in
    let push = times_push last n a.view.core.owned in
    tail_kept last c e late (omega arith)
    (all.knows last (omega arith) (omega arith) ∙ sym (on.knows last (omega arith) (omega arith)))
    (ap (λ (v : CoreView). v.shape) gives.same) (ap (λ (v : View). v.eyes.node) client)
    (ap (λ (v : View). v.eyes.life) client) (ap (λ (v : View). v.eyes.was_tail) client)
