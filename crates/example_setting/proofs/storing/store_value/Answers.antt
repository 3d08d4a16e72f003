use Rattle.std.proofs.Common.{◌∙◌, ℕ, Some, ap, subst}
use Rattle.cdrc.specs.plain_state.declared.act.EventPlace.TheVariants.{Cell}
use Rattle.cdrc.specs.plain_state.declared.slot.Kind.TheVariants.{Strong}
use Rattle.cdrc.specs.plain_state.Lists.{times}
use Rattle.cdrc.specs.core_events.declared.view.CoreView.{CoreView}
use Rattle.cdrc.specs.core_events.Steps.{without_given}
use Rattle.example_setting.proofs.Storings.{gives_made, knows_given}
use Rattle.cdrc.specs.retiring_stores.Exchanging.{Stores}
use Rattle.example_setting.specs.Deeds.{StoreTells, store_next}
use Rattle.example_setting.specs.Setting.{owns}
use Rattle.cdrc.proofs.Below.slot_store_Sparing.{make_is_spared}
use Rattle.example_setting.proofs.storing.store_value.Goals as goal

pub make-requires-clause-deed : goal.make-requires-clause-deed
make-requires-clause-deed g c s mid begins =
    make_is_spared c.args.domain.now (owns c.args.domain.now.protocol.cell) c.args.value.now s
    c.args.seat.now mid begins (λ own. own)

pub returns-clause-put : goal.returns-clause-put
returns-clause-put g c =
    let d = c.args.domain.now in let s = c.in_ok-object.object.slot in record {
      slot = s;
      made = c.make.new.seat;
      makes = c.in_ok-object.ensures.made;
      stores = subst
          (λ (i : ℕ). Stores g.K.PayloadKind.fits d store_next (StoreTells d.protocol.cell)
          (Cell i) (Some s) c.make.new.seat c.store.new.seat)
          c.requires.cell c.store.ensures.stored;
    }

pub returns-clause-owned : goal.returns-clause-owned
returns-clause-owned g c x =
    let s = c.in_ok-object.object.slot in
    ap (λ (v : CoreView). times x v.owned) c.store.ensures.stored.swaps.same
    ∙ ap (λ (v : CoreView). times x (without_given Strong (Some s) v).owned) c.in_ok-object.ensures.made.core
    ∙ gives_made s x c.args.seat.now.view.core

pub returns-clause-objects : goal.returns-clause-objects
returns-clause-objects g c =
    knows_given c.in_ok-object.object.slot _ c.args.seat.now c.make.new.seat c.store.new.seat
    c.in_ok-object.ensures.made.core c.in_ok-object.ensures.objects c.store.ensures.objects
