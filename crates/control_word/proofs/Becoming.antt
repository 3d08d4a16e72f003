-- One step, and several in turn, by what they answered: what the seat has come to have.
use Rattle.std.proofs.Common.{◌≡◌, ℕ, Bool, List, [], ◌∷◌, ◌++◌, refl, ap, sym, ◌∙◌, subst, append_assoc}
use Rattle.std.specs.Prelude.{slice_index_or}
use Rattle.counted_handles.specs.plain_state.declared.act.PlainAct.{PlainAct}
use Rattle.counted_handles.specs.plain_state.declared.slot.SlotId.{SlotId}
use Rattle.counted_handles.specs.plain_state.Lists.{Entry}
use Rattle.counted_handles.specs.plain_state.State.{Plain}
use Rattle.acquire_retire.specs.plain_protocol.Owns.{HasSlot, Object, OwnPart}
use Rattle.acquire_retire.specs.core_events.declared.act.Act.{Act}
use Rattle.acquire_retire.specs.core_events.declared.outcome.Outcome.{Outcome}
use Rattle.acquire_retire.specs.core_events.declared.shape.Shape.{Shape}
use Rattle.acquire_retire.specs.core_events.declared.view.CoreView.{CoreView}
use Rattle.acquire_retire.specs.core_events.declared.view.Move.{Move}
use Rattle.acquire_retire.specs.core_events.declared.view.Note.{Note}
use Rattle.acquire_retire.specs.core_events.declared.view.Note.TheVariants as note
use Rattle.acquire_retire.specs.core_events.declared.view.Phase.{Phase}
use Rattle.acquire_retire.specs.core_events.Shows.{show_seat}
use Rattle.acquire_retire.specs.core_events.ShownSteps.{shown_act}
use Rattle.acquire_retire.specs.core_events.Steps.{answer, changed, moved}
use Rattle.acquire_retire.proofs.Below.core_law_Trails.{changed_trail}
use Rattle.acquire_retire.specs.domain_rule.Told.{changed_object, cleared_after}
use Rattle.acquire_retire.specs.domain_rule.Views.{object_in}
use Rattle.acquire_retire.specs.Calls.{IsSameView, Steps, same_view}
use Rattle.acquire_retire.specs.Collecting.{move}
use Rattle.acquire_retire.specs.Domains.{DomainState}
use Rattle.acquire_retire.specs.Seats.{SeatState}
use Rattle.acquire_retire.proofs.Answered.{moved_same}
use Rattle.control_word.specs.Moves.{Becomes, KnowsStill}
use Rattle.acquire_retire.specs.Collecting.{WalksBy}
use Rattle.control_word.specs.Resting.{IsAtRest, IsSettled}

-- a view but for its trail
abbrev pub bare : CoreView → CoreView
bare v = record v { trail = [] }

-- what of a view tells whether the seat is in a call
abbrev pub calling : CoreView → Shape × Phase × Bool × List Note × List Entry
calling v = (v.shape, v.phase, v.left, v.notes, v.owed)

module _ {P V : Type 0} (fits : List ℕ → Type 0) (d : DomainState P)
    (next : OwnPart → OwnPart → V → PlainAct → ℕ → V)
    (allows : Plain → Plain → ℕ → V → V → Type 0) where
  pub walks_append : (xs ys : List Move) (a b c : SeatState V) → WalksBy fits d next allows xs a b
      → WalksBy fits d next allows ys b c → WalksBy fits d next allows (xs ++ ys) a c
  walks_append [] ys a b c first more =
      subst (λ (x : SeatState V). WalksBy fits d next allows ys x c) first more
  walks_append (x ∷ xs) ys a b c first more =
      (first.0, first.1, walks_append xs ys first.0 b c first.2 more)

  pub walks_table : (ms : List Move) (a b : SeatState V) → WalksBy fits d next allows ms a b
      → b.table ≡ a.table
  walks_table [] a b walks = ap (λ (x : SeatState V). x.table) walks
  walks_table (m ∷ ms) a b walks = walks_table ms walks.0 b walks.2 ∙ walks.1.table

-- rest is told by the table and by what tells whether the seat is in a call
pub rests_on : {P V : Type 0} (d : DomainState P) (old new : SeatState V) → new.table ≡ old.table
    → calling new.view.core ≡ calling old.view.core → IsAtRest d old → IsAtRest d new
rests_on d old new table is rest = record {
  of_domain = (table ∙ rest.of_domain.0, ap (λ x. x.0) is ∙ rest.of_domain.1);
  idle = (ap (λ x. x.1) is ∙ rest.idle.0, ap (λ x. x.2) is ∙ rest.idle.1);
  owes_nothing = ap (λ x. x.4) is ∙ rest.owes_nothing;
  first = ap (λ x. slice_index_or x.3 0 note.Idle) is ∙ rest.first;
  others = λ j. subst (λ (n : Note). IsSettled n)
      (sym (ap (λ x. slice_index_or x.3 j note.Idle) is)) (rest.others j);
}

module _ {P V : Type 0} {fits : List ℕ → Type 0} (d : DomainState P)
    {next : OwnPart → OwnPart → V → PlainAct → ℕ → V}
    {allows : Plain → Plain → ℕ → V → V → Type 0} where
  -- what the seat has after a step is told by the answer: whatever word has this answer tells it
  pub core_after : (a : Act) (old new : SeatState V) (o : Outcome) (w : ℕ)
      → Steps fits d next allows a old new o → answer d.shape a w old.view.core ≡ o
      → new.view.core ≡ moved d.shape a w old.view.core
  core_after a old new o w step is =
      step.told.core
      ∙ moved_same d.shape a step.word w old.view.core (sym step.answers ∙ sym is)

  pub one_step : (a : Act) (old new : SeatState V) (o : Outcome) (w : ℕ) (v : CoreView)
      → Steps fits d next allows a old new o → answer d.shape a w old.view.core ≡ o
      → bare (changed d.shape a w old.view.core) ≡ bare v
      → cleared_after a old.view.core old.view.cleared ≡ old.view.cleared
      → Becomes fits d next allows (move a o ∷ []) v old new
  one_step a old new o w v step is sets clears = record {
    walks = (new, step, refl);
    core =
        core_after a old new o w step is
        ∙ ap (λ (t : List Move). record (changed d.shape a w old.view.core) { trail = t }) trail
        ∙ ap (λ (u : CoreView). record u { trail = old.view.core.trail ++ move a o ∷ [] }) sets;
    cleared = step.told.cleared ∙ clears;
  }
    where
      trail : (changed d.shape a w old.view.core).trail ++ move a (answer d.shape a w old.view.core) ∷ []
          ≡ old.view.core.trail ++ move a o ∷ []
      trail = λ i. (changed_trail d.shape a w old.view.core).trail i ++ move a (is i) ∷ []

  pub more_steps : (xs ys : List Move) (u v : CoreView) (a b c : SeatState V)
      → Becomes fits d next allows xs u a b → Becomes fits d next allows ys v b c
      → Becomes fits d next allows (xs ++ ys) v a c
  more_steps xs ys u v a b c first more = record {
    walks = walks_append fits d next allows xs ys a b c first.walks more.walks;
    core =
        more.core
        ∙ ap (λ (t : List Move). record v { trail = t })
        (ap (λ (x : CoreView). x.trail ++ ys) first.core
        ∙ append_assoc a.view.core.trail xs ys);
    cleared = more.cleared ∙ first.cleared;
  }

  -- a seat that is at rest before is so afterwards, where what tells it is the same
  pub rest_after : (ms : List Move) (v : CoreView) (old new : SeatState V)
      → Becomes fits d next allows ms v old new → calling v ≡ calling old.view.core
      → IsAtRest d old → IsAtRest d new
  rest_after ms v old new by same =
      rests_on d old new (walks_table fits d next allows ms old new by.walks)
      (ap calling by.core ∙ same)

  -- what the seat knew of the slots that it has before the step it knows afterwards
  pub knows_after : (a : Act) (old new : SeatState V) (o : Outcome) (kept : CoreView)
      → Steps fits d next allows a old new o
      → ((s : SlotId) → HasSlot (show_seat kept) s → HasSlot (show_seat old.view.core) s)
      → ((w : ℕ) (s : SlotId) (x : Object)
      → changed_object (shown_act d.shape a w old.view.core) s x ≡ x)
      → KnowsStill kept old new
  knows_after a old new o kept step has same s it =
      step.told.objects s (has s it) ∙ same step.word s (object_in old.view s)

-- the seat came to have v by moves without a deed, and knows what it knew of the slots that it has by `kept`
pub record Comes {P V : Type 0} (fits : List ℕ → Type 0) (d : DomainState P) (ms : List Move)
    (v kept : CoreView) (old new : SeatState V) : Type 0 where
  pub by : Becomes fits d same_view IsSameView ms v old new
  pub client : new.view.client ≡ old.view.client
  pub knows : KnowsStill kept old new

module _ {P V : Type 0} {fits : List ℕ → Type 0} (d : DomainState P) where
  pub comes_more : (xs ys : List Move) (u v kept : CoreView) (a b c : SeatState V)
      → Comes fits d xs u kept a b → Comes fits d ys v kept b c → Comes fits d (xs ++ ys) v kept a c
  comes_more xs ys u v kept a b c first more = record {
    by = more_steps d xs ys u v a b c first.by more.by;
    client = more.client ∙ first.client;
    knows = λ s has. more.knows s has ∙ first.knows s has;
  }

  pub comes_one : (a : Act) (old new : SeatState V) (o : Outcome) (w : ℕ) (v kept : CoreView)
      → Steps fits d same_view IsSameView a old new o → answer d.shape a w old.view.core ≡ o
      → bare (changed d.shape a w old.view.core) ≡ bare v
      → cleared_after a old.view.core old.view.cleared ≡ old.view.cleared
      → ((s : SlotId) → HasSlot (show_seat kept) s → HasSlot (show_seat old.view.core) s)
      → ((w : ℕ) (s : SlotId) (x : Object)
      → changed_object (shown_act d.shape a w old.view.core) s x ≡ x)
      → Comes fits d (move a o ∷ []) v kept old new
  comes_one a old new o w v kept step is sets clears has same = record {
    by = one_step d a old new o w v step is sets clears;
    client = step.told.client;
    knows = knows_after d a old new o kept step has same;
  }
