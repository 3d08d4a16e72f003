use Rattle.std.proofs.Common.{◌≡◌, ◌∙◌, Some, ap, subst}
use Rattle.domain_audit.specs.plain_state.declared.slot.Kind.{Kind}
use Rattle.domain_audit.specs.plain_state.declared.slot.Kind.TheVariants.{Strong}
use Rattle.domain_audit.specs.acquire_retire.Collecting.{rest_of}
use Rattle.domain_audit.specs.plain_state.Lists.{times}
use Rattle.domain_audit.specs.core_events.declared.view.CoreView.{CoreView}
use Rattle.domain_audit.specs.core_events.Steps.{without_given}
use Rattle.atomic_shared.specs.Places.{strong_place}
use Rattle.seat_life.proofs.Given.{gives_made, none_owned, open_made, strong_kind}
use Rattle.seat_life.proofs.storing.store_value.Goals as goal

pub store-requires-clause-open : goal.store-requires-clause-open
store-requires-clause-open g c =
    open_made c.args.domain.now.shape c.in_ok-object.object.slot _ c.args.seat.now.view.core
    c.make.new.seat.view.core (strong_place c.args.place) c.in_ok-object.ensures.made.core
    c.requires.open

pub store-requires-clause-deed : goal.store-requires-clause-deed
store-requires-clause-deed g c =
    c.requires.storing c.in_ok-object.object.slot c.make.new.seat c.in_ok-object.ensures.made

pub kept : (g : _) (c : goal.After-store g) → rest_of c.store.new.seat.view.core
    ≡ rest_of (without_given Strong (Some c.in_ok-object.object.slot) c.make.new.seat.view.core)
kept g c =
    subst
    (λ (k : Kind). rest_of c.store.new.seat.view.core
    ≡ rest_of (without_given k (Some c.in_ok-object.object.slot) c.make.new.seat.view.core))
    (strong_kind c.args.place) c.store.ensures.stored.swaps.same

pub returns-clause-same : goal.returns-clause-same
returns-clause-same g c =
    let stored = kept g c in let made = c.in_ok-object.ensures.made.core in (
      ap (λ (v : CoreView). v.seat) stored ∙ ap (λ (v : CoreView). v.seat) made,
      ap (λ (v : CoreView). v.left_seats) stored ∙ ap (λ (v : CoreView). v.left_seats) made,
    )

pub returns-clause-owns : goal.returns-clause-owns
returns-clause-owns g c =
    let stored = kept g c in
    let made = c.in_ok-object.ensures.made.core in
    let s = c.in_ok-object.object.slot in (
      λ x. ap (λ (v : CoreView). times x v.owned) stored
          ∙ ap (λ (v : CoreView). times x (without_given Strong (Some s) v).owned) made
          ∙ gives_made s x c.args.seat.now.view.core,
      ap (λ (v : CoreView). v.weaks) stored ∙ ap (λ (v : CoreView). v.weaks) made,
    )

pub returns-clause-nothing : goal.returns-clause-nothing
returns-clause-nothing g c none =
    let same = returns-clause-owns g c in (
      none_owned c.args.seat.now.view.core.owned c.store.new.seat.view.core.owned same.0 none.0,
      same.1 ∙ none.1,
    )
