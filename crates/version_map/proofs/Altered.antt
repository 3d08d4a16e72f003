-- A version that was altered: where it is published, where its key isn't there, and where too long a way was found.
use Rattle.std.proofs.Common.{◌≡◌, ℕ, ◌<◌, ◌^◌, Bool, true, false, [], ◌∷◌, ◌++◌, refl, ap, sym, ◌∙◌, subst, arith}
use Rattle.std.specs.Prelude.{Option, Some, None}
use Rattle.version_making.specs.map_law.plain_state.declared.slot.SlotId.{SlotId}
use Rattle.version_making.specs.map_law.plain_state.State.{Plain}
use Rattle.version_changes.specs.map_trees.declared.change.Change.{Change}
use Rattle.version_changes.specs.map_trees.declared.change.Change.TheVariants as change
use Rattle.version_making.specs.map_law.declared.view.Kid.{Kid}
use Rattle.version_making.specs.map_law.declared.view.View.{View}
use Rattle.version_making.specs.map_law.Lessons.{IsMapOf, answer_next}
use Rattle.version_making.specs.map_law.Patterns.{Pattern, Spells, branch, hole, null, filled}
use Rattle.version_making.specs.map_law.Publishing.{entry_of, PublishTells, publish_next}
use Rattle.version_making.proofs.Below.map_law_Plans.{height_is}
use Rattle.version_making.specs.map_law.plain_state.declared.act.EventPlace.TheVariants.{Cell}
use Rattle.version_making.specs.map_protocol.declared.law.MapLaw.{MapLaw}
use Rattle.version_making.specs.slot_store.core_events.declared.act.Act.TheVariants as act
use Rattle.version_making.specs.slot_store.core_events.declared.outcome.Outcome.TheVariants as outcome
use Rattle.version_making.specs.slot_store.acquire_retire.Domains.{DomainState}
use Rattle.version_making.specs.slot_store.acquire_retire.Seats.{SeatState}
use Rattle.version_making.specs.slot_store.counted_handles.Handles.{Handle}
use Rattle.version_making.specs.atomic_shared.Places.{named}
use Rattle.version_making.specs.Building.{height_by}
use Rattle.version_making.specs.Keeping.{GoesOn, Grows}
use Rattle.version_making.specs.Standing.{kid_by}
use Rattle.version_making.proofs.Keeping.{goes_none}
use Rattle.version_changes.specs.Showing.{IsLonger, most_nodes}
use Rattle.version_updates.specs.Longest.{StillTells, longest}
use Rattle.version_updates.specs.Looking.{IsMoved, IsStill}
use Rattle.version_updates.specs.Publishing.{IsLost, IsPublished, MakesVersion, but_for}
use Rattle.version_updates.specs.declared.update.Lost.{Lost}
use Rattle.version_updates.specs.declared.update.Update.{Update}
use Rattle.version_updates.proofs.Altering.{root_height, version_made}
use Rattle.version_map.specs.Maps.{HasValue}
use Rattle.version_map.specs.Updating.{HasAltered, IsAbsent, IsDone, IsDoneBy, IsUpdated, Saw, SeesAnother, takes_nothing}
use Rattle.version_map.proofs.Updates.{saw_look, saw_lost, saw_within, step_within}

-- TO BE PUBLISHED
pub may_publish : (old new : Option Handle) (u : Update) (s : SeatState View) → HasAltered old new u s
    → MakesVersion old new u s
may_publish old new u s has =
    version_made old new u s s has.old_pattern has.new_pattern has.low refl has.spells has.stands
    has.altered

-- A KEY THAT ISN'T THERE
pub answer_none : (c : Change) (answer : Option ℕ) → takes_nothing c answer ≡ true → answer ≡ None
answer_none (change.Put value) answer is = absurd (cc (is))
answer_none (change.Bump more) answer is = absurd (cc (is))
answer_none change.Take (Some value) is = absurd (cc (is))
answer_none change.Take None is = refl

module _ (d : DomainState MapLaw) (c : ℕ) (old new : Option Handle) (u : Update)
    (s t : SeatState View) (has : HasAltered old new u s) (none' : u.answer ≡ None)
    (still : IsStill d c old s t) where
  absent_in : (p : Plain) → IsMapOf c p has.old_pattern → HasValue c u.key None p
  absent_in p map =
      let low = subst (λ (h : ℕ). h < 2 ^ 62)
      (sym (root_height old s s.view.client has.old_pattern has.spells)) has.low in
      let is = has.altered map.0 map.1 map.3
      (subst (λ (h : ℕ). h < 2 ^ 62) (sym (height_is map.0 has.old_pattern map.1)) low) in
      (filled map.0 has.old_pattern, map.2, map.3, sym is.2 ∙ none')

  pub absent : t.view.client.entries ≡ s.view.client.entries → IsAbsent d c u.key s t
  absent entries = record {
    found = named old;
    look = step_within d answer_next (StillTells d.protocol.cell) (act.Look (Cell c))
        (outcome.Found (named old)) _ s t still (λ p q. HasValue c u.key None p) s t
        (goes_none s.view.core s.view.core refl) (goes_none t.view.core t.view.core refl)
        (λ p q holds. absent_in p (holds.1 has.old_pattern has.spells).0);
    entries = entries;
  }

  pub done_absent : takes_nothing u.change u.answer ≡ true
      → t.view.client.entries ≡ s.view.client.entries → IsDone d c u.key u.change None s t
  done_absent nothing entries =
      subst (λ (b : Bool). IsDoneBy b d c u.key u.change None s t)
      (sym (ap (λ (a : Option ℕ). takes_nothing u.change a) (sym none') ∙ nothing)) (absent entries)

-- PUBLISHED
pub done_published : (d : DomainState MapLaw) (c : ℕ) (old new : Option Handle) (u : Update)
    (s t : SeatState View) → IsPublished d c old new u s t
    → t.view.client.entries
    ≡ s.view.client.entries ++ entry_of u.key u.change u.answer s.view.client ∷ []
    → takes_nothing u.change u.answer ≡ false → IsDone d c u.key u.change u.answer s t
done_published d c old new u s t published entries some =
    subst (λ (b : Bool). IsDoneBy b d c u.key u.change u.answer s t) (sym some)
    (record { from = named old; to = named new; exchange = published; entries = entries })

pub lost_another : (d : DomainState MapLaw) (c : ℕ) (old new : Option Handle) (u : Update) (lost : Lost)
    (s t : SeatState View) → IsLost d c old new u lost s t
    → t.view.client.entries ≡ s.view.client.entries → SeesAnother c (named old) lost s t
lost_another d c old new u lost s t l entries = record {
  is = l.seen;
  differ = l.differ;
  sees = subst (λ (w : ℕ). Saw c w s.view.core.trail t.view.core.trail)
      (sym l.now)
      (saw_lost d (publish_next (named old) (named new) u.key u.change u.answer)
      (PublishTells d.protocol.cell u.key u.change u.answer) c l.found _ s t (named old) (named new)
      l.exchange);
  entries = entries;
}

pub moved_another : (d : DomainState MapLaw) (c : ℕ) (old : Option Handle) (lost : Lost)
    (s t : SeatState View) → IsMoved d c old lost s t
    → t.view.client.entries ≡ s.view.client.entries → SeesAnother c (named old) lost s t
moved_another d c old lost s t m entries = record {
  is = m.seen;
  differ = m.differ;
  sees = subst (λ (w : ℕ). Saw c w s.view.core.trail t.view.core.trail)
      (sym m.now)
      (saw_look d answer_next (StillTells d.protocol.cell) c m.found _ s t m.look);
  entries = entries;
}

-- A PART of a call, after a part by which the view has learnt more
module _ (q s t : SeatState View) (goes : GoesOn q.view.core s.view.core)
    (grows : Grows q.view.client s.view.client) where
  pub another_before : (c : ℕ) (seen : Option SlotId) (lost : Lost) → SeesAnother c seen lost s t
      → SeesAnother c seen lost q t
  another_before c seen lost another = record {
    is = another.is;
    differ = another.differ;
    sees = saw_within c lost.now q.view.core s.view.core t.view.core t.view.core goes another.sees
        (goes_none t.view.core t.view.core refl);
    entries = another.entries ∙ grows.entries;
  }

  module _ (d : DomainState MapLaw) (c key : ℕ) (change : Change) where
    absent_before : IsAbsent d c key s t → IsAbsent d c key q t
    absent_before absent = record {
      found = absent.found;
      look = step_within d answer_next (StillTells d.protocol.cell) (act.Look (Cell c))
          (outcome.Found absent.found) _ s t absent.look (λ p q'. HasValue c key None p) q t goes
          (goes_none t.view.core t.view.core refl) (λ p q' holds. holds);
      entries = absent.entries ∙ grows.entries;
    }

    updated_before : (answer : Option ℕ) → IsUpdated d c key change answer s t
        → IsUpdated d c key change answer q t
    updated_before answer updated = record {
      from = updated.from;
      to = updated.to;
      exchange = step_within d (publish_next updated.from updated.to key change answer)
          (PublishTells d.protocol.cell key change answer)
          (act.Cas (Cell c) updated.from updated.to) outcome.Done _ s t updated.exchange _ q t goes
          (goes_none t.view.core t.view.core refl) (λ p q' holds. holds);
      entries = updated.entries
          ∙ (λ i. grows.entries i ++ record {
            seat = grows.number i;
            key = key;
            change = change;
            answer = answer;
          } ∷ []);
    }

    done_by_before : (b : Bool) (answer : Option ℕ) → IsDoneBy b d c key change answer s t
        → IsDoneBy b d c key change answer q t
    done_by_before true answer done = absent_before done
    done_by_before false answer done = updated_before answer done

    pub done_before : (answer : Option ℕ) → IsDone d c key change answer s t
        → IsDone d c key change answer q t
    done_before answer = done_by_before (takes_nothing change answer) answer

-- THE SEAT but for its entries, from another view with the same ones
pub but_for_same : (v w : View) (s : SeatState View) → w.entries ≡ v.entries → w.cleared ≡ v.cleared
    → but_for w s ≡ but_for v s
but_for_same v w s entries cleared =
    λ i. record s {
      view = record s.view {
        client = record s.view.client { entries = entries i; cleared = cleared i };
      };
    }

-- TOO LONG A WAY
nodes_same : (p : Pattern) → most_nodes p ≡ longest p
nodes_same null = refl
nodes_same (hole s h) = refl
nodes_same (branch k v h l r) =
    let x = nodes_same l in let y = nodes_same r in omega (arith, x, y)

pub not_longer : (d : DomainState MapLaw) (c : ℕ) (old : Option Handle) (q s t : SeatState View)
    → kid_by old s ≡ kid_by old q → IsLonger old (height_by old q) q s → IsStill d c old s t → ⊥
not_longer d c old q s t same long still =
    let spells = subst (λ (k : Option Kid). Spells s.view.client k long.pattern) (sym same)
    long.spells in
    let most = (still.holds.1 long.pattern spells).1 in
    let high = root_height old q s.view.client long.pattern long.spells in
    let is = nodes_same long.pattern in
    let more = long.longer in omega (arith, most, high, is, more)
