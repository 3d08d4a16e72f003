-- A look at the root cell, by which a version is found to be the map's still, or to be no more.
use Rattle.std.proofs.Common.{◌≡◌, ◌≢◌, ◌≤◌, ℕ, [], ◌∷◌, refl, ap, sym, ◌∙◌, subst, arith}
use Rattle.std.specs.Prelude.{Option, Some, None}
use Rattle.map_law.specs.plain_state.declared.act.EventPlace.TheVariants.{Cell}
use Rattle.map_law.specs.plain_state.declared.slot.SlotId.{SlotId}
use Rattle.map_law.specs.plain_state.State.{Plain}
use Rattle.map_law.specs.plain_state.Steps.{word_of}
use Rattle.map_law.specs.plain_protocol.Owns.{own_part}
use Rattle.map_law.specs.declared.view.View.{View}
use Rattle.map_law.specs.Lessons.{IsMapOf, answer_next}
use Rattle.map_law.specs.Nodes.{IsNode, root}
use Rattle.map_law.specs.Patterns.{IsKid, Pattern, Spells}
use Rattle.map_law.specs.Plans.{height_of}
use Rattle.map_protocol.specs.declared.law.MapLaw.{MapLaw}
use Rattle.slot_store.specs.core_events.declared.act.Act.TheVariants as act
use Rattle.slot_store.specs.core_events.declared.outcome.Outcome.{Outcome}
use Rattle.slot_store.specs.core_events.declared.outcome.Outcome.TheVariants as outcome
use Rattle.slot_store.specs.core_events.Shows.{shows}
use Rattle.slot_store.proofs.Below.acquire_retire_Contents.{look_on}
use Rattle.slot_store.proofs.Below.control_word_Becoming.{knows_after, one_step, rest_after}
use Rattle.slot_store.specs.domain_rule.Views.{object_in}
use Rattle.slot_store.specs.acquire_retire.Calls.{Steps}
use Rattle.slot_store.specs.acquire_retire.Collecting.{move}
use Rattle.slot_store.specs.acquire_retire.Domains.{DomainState}
use Rattle.slot_store.specs.acquire_retire.Seats.{SeatState}
use Rattle.slot_store.specs.control_word.Moves.{Becomes}
use Rattle.slot_store.specs.counted_handles.Handles.{Handle}
use Rattle.atomic_shared.specs.Places.{named}
use Rattle.atomic_shared.proofs.Below.protected_loads_Telling.{content_found}
use Rattle.version_making.specs.Keeping.{IsReadyFor, Keeps, none}
use Rattle.version_making.specs.Standing.{kid_by}
use Rattle.version_making.proofs.Keeping.{goes_none, grows_same, keeps_core}
use Rattle.version_making.proofs.Looked.{shown_object}
use Rattle.version_making.proofs.Own.{handle_owned, owned_has}
use Rattle.version_updates.specs.declared.update.Lost.{Lost}
use Rattle.version_updates.specs.Longest.{StillTells, longest}
use Rattle.version_updates.specs.Looking.{IsMoved, IsStill}
use Rattle.version_updates.proofs.Freezing.{Owns}

module _ (d : DomainState MapLaw) (c : ℕ) (is : c ≡ d.protocol.cell) (a b : SeatState View)
    (o : Outcome)
    (look : Steps IsNode d answer_next (StillTells d.protocol.cell) (act.Look (Cell c)) a b o)
  where
    by : Becomes IsNode d answer_next (StillTells d.protocol.cell)
        (move (act.Look (Cell c)) o ∷ []) a.view.core a b
    by = one_step d (act.Look (Cell c)) a b o look.word a.view.core look
        (sym look.answers) refl refl

    pub client_looked : b.view.client ≡ a.view.client
    client_looked = look.told.client

    pub keeps_looked : Keeps 0 0 none none a b
    keeps_looked =
        keeps_core 0 0 none none a b a.view.core a.view.core _ by.core refl (λ x. refl)
        (omega arith, omega arith) (omega arith, omega arith)
        (knows_after d (act.Look (Cell c)) a b o a.view.core look (λ x has. has)
        (λ w x it. refl))
        (λ x less. less) (grows_same a.view.client b.view.client client_looked)

    pub ready_looked : IsReadyFor d a → IsReadyFor d b
    ready_looked ready = record {
      rest = rest_after d (move (act.Look (Cell c)) o ∷ []) a.view.core a b by
          refl ready.rest;
      room = subst (λ v. Rattle.slot_store.specs.core_events.Steps.HasRoom v) (sym by.core)
          ready.room;
      here = ap (λ (v : View). v.here) client_looked ∙ ready.here;
    }

module _ (d : DomainState MapLaw) (c : ℕ) (is : c ≡ d.protocol.cell) (a b : SeatState View)
    (found : Option SlotId)
    (look : Steps IsNode d answer_next (StillTells d.protocol.cell) (act.Look (Cell c)) a b
    (outcome.Found found)) where
  abbrev state : Plain
  state = shows d.shape look.told.happened.before

  shown : root state c ≡ found
  shown = content_found look.told (Cell c) (look_on d.shape (Cell c)) ∙ sym (cc (look.answers))

  -- of what the seat owns it has the object that the domain shows
  kid_shown : (h : Option Handle) → Owns h a
      → IsKid (own_part state a.view.core.seat) (named h) (kid_by h a)
  kid_shown None owns = refl
  kid_shown (Some h) owns = (
    object_in a.view h.slot,
    shown_object look.told h.slot (owned_has h.slot a (handle_owned h.slot a owns)),
    refl,
  )

  -- of what stands in the cell it has the node that its handle tells
  kid_there : (h : Option Handle) → Owns h a → found ≡ named h
      → IsKid (own_part state a.view.core.seat) (root state d.protocol.cell) (kid_by h a)
  kid_there h owns same =
      subst (λ (x : Option SlotId). IsKid (own_part state a.view.core.seat) x (kid_by h a))
      (sym (ap (λ (x : ℕ). root state x) (sym is) ∙ (shown ∙ same))) (kid_shown h owns)

  -- what its notes spell from there is the map, and no way is longer than the height tells
  map_is : (h : Option Handle) → Owns h a → found ≡ named h → (pat : Pattern)
      → Spells a.view.client (kid_by h a) pat
      → IsMapOf c state pat × (longest pat ≤ height_of pat)
  map_is h owns same pat spells = (
    subst (λ (x : ℕ). IsMapOf x state pat) (sym is)
        (look.told.happened.fact.2.0.2 (kid_by h a) pat (kid_there h owns same) spells),
    look.told.happened.fact.2.1 (kid_by h a) pat (kid_there h owns same) spells,
  )

  -- ANOTHER one
  pub moved : (h : Option Handle) (lost : Lost) → lost.seen ≡ word_of (named h)
      → lost.now ≡ word_of found → lost.seen ≢ lost.now → IsMoved d c h lost a b
  moved h lost seen now differ = record {
    found = found;
    seen = seen;
    now = now;
    differ = differ;
    look = record {
      before = a;
      after = b;
      step = look;
      since = goes_none a.view.core a.view.core refl;
      till = goes_none b.view.core b.view.core refl;
      holds = shown;
    };
  }

-- THE SAME root
pub still : (d : DomainState MapLaw) (c : ℕ) → c ≡ d.protocol.cell → (a b : SeatState View)
    (h : Option Handle)
    → Steps IsNode d answer_next (StillTells d.protocol.cell) (act.Look (Cell c)) a b
    (outcome.Found (named h))
    → Owns h a → IsStill d c h a b
still d c is a b h look owns = record {
  before = a;
  after = b;
  step = look;
  since = goes_none a.view.core a.view.core refl;
  till = goes_none b.view.core b.view.core refl;
  holds = (
    shown d c is a b (named h) look,
    map_is d c is a b (named h) look h owns refl,
  );
}
