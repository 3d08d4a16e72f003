-- A record that is noted as found.
use Rattle.std.proofs.Common.{◌≡◌, inl, inr, ℕ, List, ◌∷◌, refl, sym, ap, subst, ◌∙◌}
use Rattle.std.specs.Prelude.{Option}
use Rattle.cell_calls.specs.Cells.{area_of}
use Rattle.cell_calls.specs.Keeping.{Learns}
use Rattle.cell_calls.specs.cell_law.Lessons.{FindReady, FindTells, Finds, find_next, found_rope}
use Rattle.cell_law.specs.declared.view.View.{View}
use Rattle.cell_calls.specs.cell_law.Walks.{payloads}
use Rattle.cell_calls.specs.cell_law.directory_law.Cells.{Area}
use Rattle.cell_calls.specs.cell_law.directory_law.Payloads.{IsText, Text}
use Rattle.cell_calls.specs.cell_law.directory_law.Steps.{life_in, life_of}
use Rattle.cell_calls.specs.cell_law.directory_law.Views.{In, rope}
use Rattle.directory_law.specs.declared.view.Rope.{Rope}
use Rattle.cell_calls.specs.cell_protocol.declared.law.CellLaw.{CellLaw}
use Rattle.cell_law.proofs.InTurn.{find_follows}
use Rattle.epoch_domain.specs.plain_protocol.plain_state.declared.act.EventPlace.TheVariants.{Field}
use Rattle.epoch_domain.specs.plain_protocol.plain_state.declared.act.PlainAct.TheVariants as plain
use Rattle.epoch_domain.specs.plain_protocol.plain_state.declared.slot.SlotId.{SlotId}
use Rattle.epoch_domain.specs.plain_protocol.Owns.{Object}
use Rattle.epoch_domain.specs.epoch_core.declared.act.EpochAct.TheVariants as act
use Rattle.epoch_domain.specs.epoch_core.declared.outcome.EpochOutcome.TheVariants as outcome
use Rattle.epoch_domain.specs.epoch_rule.Views.{object_in, own_of}
use Rattle.epoch_domain.specs.Calls.{Steps}
use Rattle.epoch_domain.specs.Domains.{DomainState}
use Rattle.epoch_domain.specs.Seats.{SeatState}
use Rattle.epoch_domain.proofs.Below.epoch_rule_Others.{held_has}
use Rattle.cell_finding.specs.Comparing.{IsWhole, sighted}
use Rattle.cell_finding.specs.Finding.{IsFound, IsOwnIfAlone, IsRecordIn}
use Rattle.cell_finding.specs.Looking.{HasSeen, OnlyLooks}
use Rattle.cell_finding.proofs.Along.{has_along, sees_first}
use Rattle.cell_finding.proofs.Looks.{look_few, look_keeps, looks_sees, seen_holds, seen_object}
use Rattle.cell_finding.proofs.Shown.{at_step, state}

-- where all slots of a text were seen, it can be noted as found
pub find_ready : (text : Text) (head : SlotId) (a : SeatState View) → IsWhole text head a → IsText text
    → FindReady (own_of a.view) a.view.client (plain.Look (Field head 1))
find_ready text head a whole is =
    find_follows (own_of a.view) a.view.client (sighted a) whole.along.earlier
    (plain.Look (Field head 1)) whole.along.seen whole.along.is_open tt
    (has_along head whole.last a whole.along) (subst IsText whole.is is)

module _ (fits : List ℕ → Type 0) (d : DomainState CellLaw) (head : SlotId) (x : Option SlotId)
    (old new : SeatState View)
    (step : Steps fits d find_next (FindTells (area_of d.protocol)) (act.Look (Field head 1)) old new
    (outcome.Found x)) where
  abbrev z : Area
  z = area_of d.protocol

  pub found_looks : OnlyLooks 1 old new
  found_looks = record {
    keeps = look_keeps fits d find_next (FindTells z) (Field head 1) (outcome.Found x) old new step;
    learns = subst (λ (v : View). Learns old.view.client v) (sym step.told.client)
        (record { saw = λ e i. i; found = λ e i. inr i; rest = refl });
    few = look_few fits d find_next (FindTells z) (Field head 1) (outcome.Found x) old new step;
  }

  module _ (text : Text) (whole : IsWhole text head old) where
    seen_head : HasSeen old.view.core head
    seen_head = sees_first head whole.last old whole.along

    abbrev entry : Rope
    entry = rope head (object_in new.view head).life text

    life_is : life_in (own_of old.view) head ≡ (object_in new.view head).life
    life_is =
        ap life_of (seen_object old.view head seen_head)
        ∙ ap (λ (o : Object). o.life)
        (sym (step.told.objects head (held_has head old.view.core (seen_holds old.view.core head seen_head))))

    entry_is : found_rope (own_of old.view) (sighted old).slots ≡ entry
    entry_is =
        ap (λ (s : SlotId). rope s (life_in (own_of old.view) s)
        (payloads (own_of old.view) (sighted old).slots)) whole.along.first_is
        ∙ (ap (λ (l : ℕ). rope head l (payloads (own_of old.view) (sighted old).slots)) life_is
        ∙ ap (λ (t : Text). rope head (object_in new.view head).life t) (sym whole.is))

    found_is : new.view.client.found ≡ entry ∷ old.view.client.found
    found_is =
        ap (λ (v : View). v.found) step.told.client
        ∙ ap (λ (e : Rope). e ∷ old.view.client.found) entry_is

    tells : Finds z (state fits d find_next (FindTells z) (Field head 1) x old new step)
        old.view.client entry
    tells = step.told.happened.fact.2 entry found_is

    pub is_found : IsFound d text head old new
    is_found = record {
      noted = subst (λ (es : List Rope). In entry es) (sym found_is) (inl refl);
      seen = looks_sees 1 old new found_looks head seen_head;
      stood = at_step fits d find_next (FindTells z) (Field head 1) x old new step
          (IsRecordIn z text head (object_in new.view head).life)
          (tells.is, tells.life);
    }

    -- where no other seat may put a head into a cell, the seat has put it there
    pub is_own : IsOwnIfAlone d text head new
    is_own alone =
        let bound = ap (λ (v : View). v.bound) step.told.client in
        let grant = ap (λ (v : View). v.grant) step.told.client in
        subst (λ (es : List Rope). In entry es) (sym bound) (tells.own (sym grant ∙ alone))
