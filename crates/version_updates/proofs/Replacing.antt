-- An exchange that found the old root, and put the new one there.
use Rattle.std.proofs.Common.{◌≡◌, ⊎_elim, ℕ, suc, Bool, true, false, List, [], ◌∷◌, ◌++◌, length, refl, ap, sym, ◌∙◌, subst, arith}
use Rattle.std.specs.Prelude.{Option, ◌==◌, if◌then◌else◌}
use Rattle.map_law.specs.plain_state.declared.act.EventPlace.TheVariants.{Cell}
use Rattle.map_law.specs.plain_state.declared.slot.SlotId.{SlotId}
use Rattle.map_law.specs.plain_state.Lists.{times}
use Rattle.map_law.specs.plain_state.Steps.{word_of}
use Rattle.map_trees.specs.declared.change.Entry.{Entry}
use Rattle.map_law.specs.declared.view.View.{View}
use Rattle.map_law.specs.Nodes.{IsNode}
use Rattle.map_law.specs.Publishing.{ChangesMap, PublishTells, entered, entry_of, frozen_in, publish_next}
use Rattle.map_protocol.specs.declared.law.MapLaw.{MapLaw}
use Rattle.slot_store.specs.core_events.declared.outcome.Outcome.TheVariants as outcome
use Rattle.slot_store.specs.core_events.declared.view.CoreView.{CoreView}
use Rattle.slot_store.specs.core_events.Words.{slot_in}
use Rattle.slot_store.specs.domain_rule.Views.{own_of}
use Rattle.slot_store.specs.acquire_retire.Domains.{DomainState}
use Rattle.slot_store.specs.acquire_retire.Seats.{SeatState}
use Rattle.slot_store.specs.control_word.Moves.{KnowsStill}
use Rattle.slot_store.specs.counted_handles.Handles.{Handle}
use Rattle.slot_store.specs.retiring_stores.Exchanging.{Replaces, shown_after, shown_before}
use Rattle.slot_store.specs.retiring_stores.Scanning.{ScansWhereDue}
use Rattle.atomic_shared.specs.Places.{named}
use Rattle.version_making.specs.Keeping.{GoesOn, Keeps, aside, none, of_handle}
use Rattle.version_making.proofs.Keeping.{goes_none, goes_then, keeps_by}
use Rattle.version_updates.specs.declared.update.Update.{Update}
use Rattle.version_updates.specs.Publishing.{IsPublished, but_for}
use Rattle.version_updates.proofs.Beside.{grows_but_for}
use Rattle.version_updates.proofs.Freezing.{frozen_in_grows}
use Rattle.version_updates.proofs.Giving.{HasIt, adds_given, aside_given, makes_given, owned_given, without}

-- a list with one more isn't that list
longer : (es : List Entry) (e : Entry) → length (es ++ e ∷ []) ≡ suc (length es)
longer [] e = refl
longer (x ∷ es) e = ap suc (longer es e)

pub not_longer : (es : List Entry) (e : Entry) → es ≡ es ++ e ∷ [] → ⊥
not_longer es e is =
    let more = longer es e in let same = ap length is in omega (arith, more, same)

was_done : (b : Bool) (x : Option SlotId)
    → outcome.Done ≡ (if b then outcome.Done else outcome.LostTo x) → b ≡ true
was_done true x is = refl
was_done false x is = absurd (cc (is))

pub scans_go : {P : Type 0} (d : DomainState P) (a b : SeatState View) → ScansWhereDue IsNode d a b
    → GoesOn a.view.core b.view.core
scans_go d a b due = ⊎_elim
    (λ scans. (_, scans.1.collects.goes.trail))
    (λ same. goes_none a.view.core b.view.core
    (ap (λ (x : SeatState View). x.view.core.trail) same.1))
    due

-- the exchange as the handles name its slots
pub replaced_by : (d : DomainState MapLaw) (c : ℕ) (old new : Option Handle) (u : Update)
    (a b : SeatState View) (x y : Option SlotId) → x ≡ named old → y ≡ named new
    → Replaces IsNode d (publish_next x y u.key u.change u.answer)
    (PublishTells d.protocol.cell u.key u.change u.answer) (Cell c) (named new) x a b
    → Replaces IsNode d (publish_next (named old) (named new) u.key u.change u.answer)
    (PublishTells d.protocol.cell u.key u.change u.answer) (Cell c) (named new) (named old) a b
replaced_by d c old new u a b x y is same does =
    subst (λ (z : Option SlotId). Replaces IsNode d
    (publish_next z (named new) u.key u.change u.answer)
    (PublishTells d.protocol.cell u.key u.change u.answer) (Cell c) (named new) z a b) is
    (subst (λ (z : Option SlotId). Replaces IsNode d (publish_next x z u.key u.change u.answer)
    (PublishTells d.protocol.cell u.key u.change u.answer) (Cell c) (named new) x a b) same does)

module _ (d : DomainState MapLaw) (c : ℕ) (old new : Option Handle) (u : Update)
    (a b : SeatState View)
    (does : Replaces IsNode d (publish_next (named old) (named new) u.key u.change u.answer)
    (PublishTells d.protocol.cell u.key u.change u.answer) (Cell c) (named new) (named old) a b)
  where
    -- the view with the new root frozen, and with the entry
    abbrev frozen_view : View
    frozen_view = frozen_in (own_of a.view) (named new) a.view.client

    abbrev mid : SeatState View
    mid = does.mid

    test : (does.puts.step.word == word_of (named old)) ≡ true
    test = was_done (does.puts.step.word == word_of (named old)) (slot_in does.puts.step.word)
        does.puts.step.answers

    client_mid : mid.view.client ≡ entered u.key u.change u.answer frozen_view
    client_mid =
        does.puts.step.told.client
        ∙ ap (λ (t : Bool). if t then entered u.key u.change u.answer frozen_view else frozen_view)
        test

    client_is : b.view.client ≡ entered u.key u.change u.answer frozen_view
    client_is = does.client ∙ client_mid

    entered_is : (entered u.key u.change u.answer frozen_view).entries
        ≡ a.view.client.entries ++ entry_of u.key u.change u.answer a.view.client ∷ []
    entered_is =
        let grows = frozen_in_grows (own_of a.view) (named new) a.view.client in
        λ i. grows.entries i ++ record {
          seat = grows.number i;
          key = u.key;
          change = u.change;
          answer = u.answer;
        } ∷ []

    -- THE VIEW has one entry more
    pub entries_are : b.view.client.entries
        ≡ a.view.client.entries ++ entry_of u.key u.change u.answer a.view.client ∷ []
    entries_are = ap (λ (v : View). v.entries) client_is ∙ entered_is

    pub open_still : a.view.client.cleared ≡ false → b.view.client.cleared ≡ false
    open_still uncleared =
        ap (λ (v : View). v.cleared) client_is
        ∙ (frozen_in_grows (own_of a.view) (named new) a.view.client).cleared ∙ uncleared

    pub here_still : a.view.client.here ≡ true → b.view.client.here ≡ true
    here_still here =
        ap (λ (v : View). v.here) client_is
        ∙ (frozen_in_grows (own_of a.view) (named new) a.view.client).here ∙ here

    changes : ChangesMap d.protocol.cell u.key u.change u.answer (shown_before does.puts.step)
        (shown_after does.puts.step)
    changes = ⊎_elim
        (λ same. absurd (not_longer a.view.client.entries
        (entry_of u.key u.change u.answer a.view.client)
        (sym same.1 ∙ ap (λ (v : View). v.entries) client_mid ∙ entered_is)))
        (λ more. more.1)
        does.puts.step.told.happened.fact.2

    -- THE EXCHANGE is one that publishes
    pub published : c ≡ d.protocol.cell → (e : SeatState View) → GoesOn b.view.core e.view.core
        → IsPublished d c old new u a e
    published same e goes = record {
      before = a;
      after = mid;
      step = does.puts.step;
      since = goes_none a.view.core a.view.core refl;
      till = goes_then mid.view.core b.view.core e.view.core (scans_go d mid b does.scans) goes;
      holds = (
        does.puts.shows_held,
        does.puts.shows_given,
        subst (λ (x : ℕ). ChangesMap x u.key u.change u.answer (shown_before does.puts.step)
            (shown_after does.puts.step)) (sym same) changes,
      );
    }

    -- THE SEAT has given the new root
    pub keeps_replaced : HasIt new a.view.core
        → KnowsStill (without new a.view.core) a b
        → Keeps 0 0 (of_handle new) none a (but_for a.view.client b)
    keeps_replaced has knows =
        let makes = makes_given new a.view.core in
        let adds = adds_given new a.view.core in
        keeps_by 0 0 (of_handle new) none a (but_for a.view.client b) (without new a.view.core)
        (without new a.view.core)
        (goes_then a.view.core mid.view.core b.view.core
        (_, ap (λ (v : CoreView). v.trail) does.puts.core) (scans_go d mid b does.scans))
        (ap aside does.same ∙ aside_given new a.view.core)
        (λ x. ap (λ (v : CoreView). times x v.owned) does.same) (
          ap (λ (v : CoreView). v.makes) does.same,
          ap (λ (v : CoreView). v.adds) does.same,
        )
        (λ x. let o = owned_given new a.view.core has x in omega (arith, o))
        (omega (arith, makes), omega (arith, makes)) (omega (arith, adds), omega (arith, adds))
        knows
        (λ x less. let o = owned_given new a.view.core has x in omega (arith, o, less))
        (grows_but_for a.view.client frozen_view b.view.client
        (frozen_in_grows (own_of a.view) (named new) a.view.client)
        (ap (λ (v : View). Rattle.version_updates.proofs.Beside.noted v) client_is))
