-- The last look at the root cell.
use Rattle.std.proofs.Common.{◌≡◌, inl, ℕ, [], ◌∷◌, ◌++◌, refl, ap, sym, ◌∙◌, subst}
use Rattle.std.specs.Prelude.{Option, Some}
use Rattle.std.proofs.lemmas.List.{append-nil}
use Rattle.map_law.specs.plain_state.declared.act.EventPlace.TheVariants.{Cell}
use Rattle.map_law.specs.plain_state.declared.slot.SlotId.{SlotId}
use Rattle.map_law.specs.plain_state.State.{Plain}
use Rattle.map_law.specs.plain_state.Steps.{word_of}
use Rattle.map_law.specs.plain_protocol.Owns.{own_part}
use Rattle.map_law.specs.declared.view.View.{View}
use Rattle.map_law.specs.Nodes.{IsNode, root}
use Rattle.map_law.specs.Patterns.{IsKid}
use Rattle.map_law.specs.Lessons.{answer_next}
use Rattle.map_protocol.specs.declared.law.MapLaw.{MapLaw}
use Rattle.protected_loads.specs.core_events.declared.act.Act.TheVariants as act
use Rattle.protected_loads.specs.core_events.declared.outcome.Outcome.{Outcome}
use Rattle.protected_loads.specs.core_events.declared.outcome.Outcome.TheVariants as outcome
use Rattle.protected_loads.specs.core_events.declared.view.CoreView.{CoreView}
use Rattle.protected_loads.specs.core_events.Shows.{shows}
use Rattle.protected_loads.specs.domain_rule.Views.{object_in}
use Rattle.protected_loads.specs.acquire_retire.Calls.{Steps}
use Rattle.protected_loads.specs.acquire_retire.Collecting.{move}
use Rattle.protected_loads.specs.acquire_retire.Domains.{DomainState}
use Rattle.protected_loads.specs.acquire_retire.Seats.{SeatState}
use Rattle.protected_loads.specs.control_word.Moves.{KnowsStill}
use Rattle.protected_loads.specs.control_word.Resting.{IsAtRest}
use Rattle.control_word.proofs.Below.acquire_retire_Contents.{look_on}
use Rattle.protected_loads.proofs.Below.control_word_Becoming.{calling, knows_after}
use Rattle.protected_loads.proofs.Noting.{rests_still}
use Rattle.protected_loads.proofs.Telling.{content_found}
use Rattle.version_reading.specs.Lessons.{KnowsWays, LookTells}
use Rattle.version_reading.specs.Reading.{AtALook, KnowsRoot, Reads, Saw, kid_in}
use Rattle.version_reading.proofs.Events.{one_read, part_has}
use Rattle.version_reading.proofs.Learning.{learns_as}

abbrev pub Looks : DomainState MapLaw → ℕ → SeatState View → SeatState View → Outcome → Type 0
Looks d c old new o =
    Steps IsNode d answer_next (LookTells d.protocol.cell) (act.Look (Cell c)) old new o

module _ (d : DomainState MapLaw) (c : ℕ) (is : c ≡ d.protocol.cell) (old new : SeatState View)
    (found : Option SlotId)
    (look : Looks d c old new (outcome.Found found)) where
  pub last_reads : Reads old.view.core old new
  last_reads =
      one_read d (act.Look (Cell c)) old new (outcome.Found found) old.view.core look refl refl tt
      (learns_as old.view.client new.view.client look.told.client)

  pub last_knows : KnowsStill old.view.core old new
  last_knows =
      knows_after d (act.Look (Cell c)) old new (outcome.Found found) old.view.core look
      (λ x it. it) (λ w x it. refl)

  abbrev state : Plain
  state = shows d.shape look.told.happened.before

  shown : root state c ≡ found
  shown = content_found look.told (Cell c) (look_on d.shape (Cell c)) ∙ sym (cc (look.answers))

  knows_root : KnowsRoot c found old state
  knows_root =
      let ways = subst (λ (i : ℕ). KnowsWays i state old.view.core.seat old.view.client) (sym is)
      look.told.happened.fact.2.2 in record {
        shown = shown;
        tree = ways.tree;
        is = ways.is;
        shaped = ways.shaped;
        ways = λ r same has way tells.
            ways.ways (kid_in (Some r) old) way
            (subst (λ (x : Option SlotId). IsKid (own_part state old.view.core.seat) x
            (kid_in (Some r) old)) (sym (shown ∙ same))
            (object_in old.view r, part_has look.told r has, refl)) tells;
      }

  pub last_map : AtALook d c (KnowsRoot c found old) old new
  last_map = record {
    before = old;
    after = new;
    found = found;
    looks = look;
    since = ([], sym (append-nil old.view.core.trail));
    till = ([], sym (append-nil new.view.core.trail));
    holds = knows_root;
  }

  pub last_saw : Saw c (word_of found) old.view.core.trail new.view.core.trail
  last_saw = record {
    before = [];
    event = move (act.Look (Cell c)) (outcome.Found found);
    after = [];
    trail = ap (λ (u : CoreView). u.trail) look.told.core
        ∙ ap (λ (x : Outcome). old.view.core.trail ++ move (act.Look (Cell c)) x ∷ [])
        (sym look.answers);
    showed = inl (found, refl, refl);
  }

  pub last_rests : IsAtRest d old → IsAtRest d new
  last_rests rest = rests_still d old new rest last_reads.table (ap calling last_reads.core)
