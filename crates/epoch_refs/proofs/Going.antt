-- Events without a deed one after another, and what the seat has after them.
use Rattle.std.proofs.Common.{◌≡◌, ℕ, List, [], ◌∷◌, ◌++◌, append_assoc, refl, ap, sym, ◌∙◌, subst}
use Rattle.epoch_domain.specs.plain_protocol.plain_state.declared.slot.SlotId.{SlotId}
use Rattle.epoch_domain.specs.plain_protocol.Owns.{HasSlot, Object}
use Rattle.epoch_domain.specs.domain_rule.Told.{changed_object}
use Rattle.epoch_domain.specs.epoch_core.declared.act.EpochAct.{EpochAct}
use Rattle.epoch_domain.specs.epoch_core.declared.outcome.EpochOutcome.{EpochOutcome}
use Rattle.epoch_domain.specs.epoch_core.declared.view.EpochMove.{EpochMove}
use Rattle.epoch_domain.specs.epoch_core.declared.view.EpochView.{EpochView}
use Rattle.epoch_domain.specs.epoch_core.Shows.{show_seat}
use Rattle.epoch_domain.specs.epoch_core.Steps.{changed, noted}
use Rattle.epoch_domain.specs.epoch_rule.Told.{object_step}
use Rattle.epoch_domain.specs.epoch_rule.Views.{object_in}
use Rattle.epoch_domain.specs.Calls.{IsSameView, Steps, same_view}
use Rattle.epoch_domain.specs.Domains.{DomainState}
use Rattle.epoch_domain.specs.Seats.{SeatState}
use Rattle.epoch_refs.specs.Searching.{Goes}
use Rattle.epoch_refs.specs.Walks.{Walks, move}

pub append_nil : {A : Type 0} (xs : List A) → xs ++ [] ≡ xs
append_nil [] = refl
append_nil (x ∷ xs) = ap (λ ys. x ∷ ys) (append_nil xs)

module _ {P V : Type 0} (fits : List ℕ → Type 0) (d : DomainState P) where
  -- walks join
  pub walks_more : (ms ns : List EpochMove) (old mid new : SeatState V) → Walks fits d ms old mid
      → Walks fits d ns mid new → Walks fits d (ms ++ ns) old new
  walks_more [] ns old mid new is more = subst (λ s. Walks fits d ns s new) is more
  walks_more (m ∷ ms) ns old mid new walks more =
      (walks.0, walks.1, walks_more ms ns walks.0 mid new walks.2 more)

  pub walks_table : (ms : List EpochMove) (old new : SeatState V) → Walks fits d ms old new
      → new.table ≡ old.table
  walks_table [] old new is = ap (λ s. s.table) is
  walks_table (m ∷ ms) old new walks =
      walks_table ms walks.0 new walks.2 ∙ walks.1.table

  -- an event that has the answer o is a walk
  pub walk_one : (a : EpochAct) (o : EpochOutcome) (old new : SeatState V)
      → Steps fits d same_view IsSameView a old new o → Walks fits d (move a o ∷ []) old new
  walk_one a o old new step = (new, step, refl)

  pub goes_nowhere : (old : SeatState V) → Goes fits d [] old.view.core old old
  goes_nowhere old = record {
    walks = refl;
    core = ap (λ (t : List EpochMove). record old.view.core { trail = t })
        (sym (append_nil old.view.core.trail));
    client = refl;
    knows = λ s has. refl;
  }

  module _ (ms : List EpochMove) (v u : EpochView) (old mid new : SeatState V)
      (goes : Goes fits d ms v old mid) where
    -- what more a walk does
    pub goes_on : (ns : List EpochMove) → Walks fits d ns mid new
        → new.view.core ≡ record u { trail = mid.view.core.trail ++ ns }
        → new.view.client ≡ mid.view.client
        → ((x : SlotId) → HasSlot (show_seat old.view.core) x
        → object_in new.view x ≡ object_in mid.view x)
        → Goes fits d (ms ++ ns) u old new
    goes_on ns walks core client same = record {
      walks = walks_more ms ns old mid new goes.walks walks;
      core = core
          ∙ ap (λ (t : List EpochMove). record u { trail = t })
          (ap (λ (w : EpochView). w.trail ++ ns) goes.core
          ∙ append_assoc old.view.core.trail ms ns);
      client = client ∙ goes.client;
      knows = λ x has. same x has ∙ goes.knows x has;
    }

    -- what one event more does
    pub one_more : (a : EpochAct) (o : EpochOutcome)
        → (step : Steps fits d same_view IsSameView a mid new o)
        → changed d.shape a step.word mid.view.core ≡ record u { trail = mid.view.core.trail }
        → ((x : SlotId) → HasSlot (show_seat old.view.core) x
        → HasSlot (show_seat mid.view.core) x)
        → ((x : SlotId) → HasSlot (show_seat old.view.core) x → (y : Object)
        → changed_object (object_step a mid.view.core) x y ≡ y)
        → Goes fits d (ms ++ move a o ∷ []) u old new
    one_more a o step changes still leaves =
        goes_on (move a o ∷ []) (walk_one a o mid new step)
        (step.told.core
        ∙ ((λ i. noted a (sym step.answers i) (changed d.shape a step.word mid.view.core))
        ∙ ap (noted a o) changes))
        step.told.client
        (λ x has. step.told.objects x (still x has) ∙ leaves x has (object_in mid.view x))
