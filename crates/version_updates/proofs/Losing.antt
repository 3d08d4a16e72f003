-- An exchange that found another root than the old one.
use Rattle.std.proofs.Common.{◌≡◌, ⊎_elim, ℕ, Bool, true, false, refl, ap, sym, ◌∙◌, subst, arith}
use Rattle.std.specs.Prelude.{Option, ◌==◌, if◌then◌else◌}
use Rattle.map_law.specs.plain_state.declared.act.EventPlace.TheVariants.{Cell}
use Rattle.map_law.specs.plain_state.declared.slot.SlotId.{SlotId}
use Rattle.map_law.specs.plain_state.Steps.{word_of}
use Rattle.map_law.specs.declared.view.View.{View}
use Rattle.map_law.specs.Nodes.{IsNode, KeepsMap}
use Rattle.map_law.specs.Publishing.{PublishTells, entered, entry_of, frozen_in, publish_next}
use Rattle.map_law.proofs.Turned.{word_same}
use Rattle.map_protocol.specs.declared.law.MapLaw.{MapLaw}
use Rattle.slot_store.specs.core_events.declared.act.Act.TheVariants as act
use Rattle.slot_store.specs.core_events.declared.outcome.Outcome.TheVariants as outcome
use Rattle.slot_store.specs.core_events.Runs.{after}
use Rattle.slot_store.specs.core_events.Shows.{shows}
use Rattle.slot_store.specs.core_events.Words.{slot_in}
use Rattle.slot_store.proofs.Below.control_word_Becoming.{knows_after}
use Rattle.slot_store.specs.domain_rule.Views.{own_of}
use Rattle.slot_store.specs.acquire_retire.Domains.{DomainState}
use Rattle.slot_store.specs.acquire_retire.Seats.{SeatState}
use Rattle.slot_store.specs.control_word.Moves.{KnowsStill}
use Rattle.slot_store.specs.counted_handles.Handles.{Handle}
use Rattle.slot_store.specs.retiring_stores.Exchanging.{LosesTo}
use Rattle.atomic_shared.specs.Places.{named}
use Rattle.version_making.specs.Keeping.{GoesOn, Grows, Keeps, none}
use Rattle.version_making.proofs.Keeping.{goes_none, keeps_core}
use Rattle.version_updates.specs.declared.update.Update.{Update}
use Rattle.version_updates.specs.Publishing.{IsLost}
use Rattle.version_updates.proofs.Freezing.{frozen_in_grows}
use Rattle.version_updates.proofs.Replacing.{not_longer}

was_lost : (b : Bool) (x y : Option SlotId)
    → outcome.LostTo x ≡ (if b then outcome.Done else outcome.LostTo y) → b ≡ false
was_lost true x y is = absurd (cc (is))
was_lost false x y is = refl

-- the exchange as the handles name its slots
pub lost_by : (d : DomainState MapLaw) (c : ℕ) (old new : Option Handle) (u : Update) (now : ℕ)
    (a b : SeatState View) (x y : Option SlotId) → x ≡ named old → y ≡ named new
    → LosesTo IsNode d (publish_next x y u.key u.change u.answer)
    (PublishTells d.protocol.cell u.key u.change u.answer) (Cell c) (named new) x now a b
    → LosesTo IsNode d (publish_next (named old) (named new) u.key u.change u.answer)
    (PublishTells d.protocol.cell u.key u.change u.answer) (Cell c) (named new) (named old) now a b
lost_by d c old new u now a b x y is same does =
    subst (λ (z : Option SlotId). LosesTo IsNode d
    (publish_next z (named new) u.key u.change u.answer)
    (PublishTells d.protocol.cell u.key u.change u.answer) (Cell c) (named new) z now a b) is
    (subst (λ (z : Option SlotId). LosesTo IsNode d (publish_next x z u.key u.change u.answer)
    (PublishTells d.protocol.cell u.key u.change u.answer) (Cell c) (named new) x now a b) same
    does)

module _ (d : DomainState MapLaw) (c : ℕ) (old new : Option Handle) (u : Update) (now : ℕ)
    (a b : SeatState View)
    (does : LosesTo IsNode d (publish_next (named old) (named new) u.key u.change u.answer)
    (PublishTells d.protocol.cell u.key u.change u.answer) (Cell c) (named new) (named old) now a b)
  where
    abbrev frozen_view : View
    frozen_view = frozen_in (own_of a.view) (named new) a.view.client

    abbrev mid : SeatState View
    mid = does.loses.becomes.walks.0

    last : b ≡ mid
    last = does.loses.becomes.walks.2

    test : (does.loses.becomes.walks.1.word == word_of (named old)) ≡ false
    test = was_lost (does.loses.becomes.walks.1.word == word_of (named old)) does.found
        (slot_in does.loses.becomes.walks.1.word) does.loses.becomes.walks.1.answers

    client_mid : mid.view.client ≡ frozen_view
    client_mid =
        does.loses.becomes.walks.1.told.client
        ∙ ap (λ (t : Bool). if t then entered u.key u.change u.answer frozen_view else frozen_view)
        test

    grows_mid : Grows a.view.client mid.view.client
    grows_mid = subst (λ (v : View). Grows a.view.client v) (sym client_mid)
        (frozen_in_grows (own_of a.view) (named new) a.view.client)

    -- THE SEAT has what it had
    pub keeps_lost : Keeps 0 0 none none a b
    keeps_lost =
        keeps_core 0 0 none none a b a.view.core a.view.core _ does.loses.becomes.core refl
        (λ x. refl) (omega arith, omega arith) (omega arith, omega arith)
        (subst (λ (x : SeatState View). KnowsStill a.view.core a x) (sym last)
        (knows_after d (act.Cas (Cell c) (named old) (named new)) a mid (outcome.LostTo does.found)
        a.view.core does.loses.becomes.walks.1 (λ x has. has) (λ w x it. refl)))
        (λ x less. less)
        (subst (λ (x : SeatState View). Grows a.view.client x.view.client) (sym last) grows_mid)

    keeps_map : KeepsMap d.protocol.cell (shows d.shape does.loses.becomes.walks.1.told.happened.before)
        (shows d.shape (after d.shape does.loses.becomes.walks.1.told.happened.before
        a.view.core.seat (act.Cas (Cell c) (named old) (named new))))
    keeps_map = ⊎_elim
        (λ same. same.0)
        (λ more. absurd (not_longer a.view.client.entries
        (entry_of u.key u.change u.answer a.view.client) (sym grows_mid.entries ∙ more.0)))
        does.loses.becomes.walks.1.told.happened.fact.2

    -- THE EXCHANGE is one that is lost
    pub lost_is : c ≡ d.protocol.cell → (seen : ℕ) → seen ≡ word_of (named old)
        → (e : SeatState View) → GoesOn b.view.core e.view.core
        → IsLost d c old new u (record { seen = seen; now = now }) a e
    lost_is same seen is e goes = record {
      found = does.found;
      seen = is;
      now = does.word;
      differ = λ equal. does.loses.other
          (word_same does.found (named old) (sym does.word ∙ (sym equal ∙ is)));
      exchange = record {
        before = a;
        after = mid;
        step = does.loses.becomes.walks.1;
        since = goes_none a.view.core a.view.core refl;
        till = subst (λ (x : SeatState View). GoesOn x.view.core e.view.core) last goes;
        holds = (
          does.loses.shows_found,
          subst (λ (x : ℕ). KeepsMap x
              (shows d.shape does.loses.becomes.walks.1.told.happened.before)
              (shows d.shape (after d.shape does.loses.becomes.walks.1.told.happened.before
              a.view.core.seat (act.Cas (Cell c) (named old) (named new))))) (sym same) keeps_map,
        );
      };
    }
