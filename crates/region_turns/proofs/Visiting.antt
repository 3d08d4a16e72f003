-- The events of a region join those that were made before.
use Rattle.std.proofs.Common.{◌≡◌, ◌∙◌, ℕ, ◌+◌, List, [], ◌∷◌, ◌++◌, Option, Some, append_assoc, length, length-append, refl, ap, sym, arith}
use Rattle.std.specs.Prelude.{◌%◌}
use Rattle.std.proofs.lemmas.List.{append-nil}
use Rattle.std.proofs.lemmas.List.Elements.{All-push}
use Rattle.epoch_refs.specs.plain_protocol.plain_state.declared.act.EventPlace.TheVariants.{Cell}
use Rattle.epoch_refs.specs.plain_protocol.plain_state.declared.act.PlainAct.{PlainAct}
use Rattle.epoch_refs.specs.plain_protocol.plain_state.declared.slot.SlotId.{SlotId}
use Rattle.epoch_refs.specs.plain_protocol.plain_state.State.{Plain}
use Rattle.epoch_refs.specs.plain_protocol.Owns.{OwnPart}
use Rattle.epoch_refs.specs.epoch_core.declared.act.EpochAct.TheVariants as act
use Rattle.epoch_refs.specs.epoch_core.declared.outcome.EpochOutcome.TheVariants as outcome
use Rattle.epoch_refs.specs.epoch_core.declared.view.EpochMove.{EpochMove}
use Rattle.epoch_refs.specs.epoch_core.declared.view.EpochView.{EpochView}
use Rattle.epoch_refs.specs.epoch_domain.Calls.{IsSameView, Steps, same_view}
use Rattle.epoch_refs.specs.epoch_domain.Domains.{DomainState}
use Rattle.epoch_refs.specs.epoch_domain.Seats.{SeatState}
use Rattle.epoch_refs.specs.Calls.{Enters}
use Rattle.epoch_refs.specs.Walks.{move}
use Rattle.region_turns.specs.Visits.{Found, HasLooked, HasSeen, HasVisited, HasVisitedEach, Region, looked_at, looked_from, visited, visited_from}
use Rattle.region_turns.proofs.Trails.{step_trail, then_events}

-- one look more
looked_more : (i : ℕ) (found : List Found) (f : Found)
    → looked_from i (found ++ f ∷ []) ≡ looked_from i found ++ looked_at ((i + length found) % 16) f
looked_more i [] f = let same : i ≡ i + 0 = omega arith in ap (λ (n : ℕ). looked_at (n % 16) f) same
looked_more i (x ∷ found) f =
    let same : (i + 1) + length found ≡ i + length (x ∷ found) = omega arith in
    ap (λ (ys : List EpochMove). looked_at (i % 16) x ++ ys)
    (looked_more (i + 1) found f
    ∙ ap (λ (n : ℕ). looked_from (i + 1) found ++ looked_at (n % 16) f) same)

-- one region more
visited_more : (i : ℕ) (regions : List Region) (r : Region)
    → visited_from i (regions ++ r ∷ []) ≡ visited_from i regions ++ visited (i + length regions) r
visited_more i [] r =
    let same : i ≡ i + 0 = omega arith in
    append-nil (visited i r) ∙ ap (λ (n : ℕ). visited n r) same
visited_more i (x ∷ regions) r =
    let same : (i + 1) + length regions ≡ i + length (x ∷ regions) = omega arith in
    ap (λ (ys : List EpochMove). visited i x ++ ys)
    (visited_more (i + 1) regions r
    ∙ ap (λ (n : ℕ). visited_from (i + 1) regions ++ visited n r) same)
    ∙ sym (append_assoc (visited i x) (visited_from (i + 1) regions) (visited (i + length (x ∷ regions)) r))

module _ {P V : Type 0} {fits : List ℕ → Type 0} {d : DomainState P} {old mid new : SeatState V} where
  module _ {next : OwnPart → OwnPart → V → PlainAct → ℕ → V}
      {allows : Plain → Plain → ℕ → V → V → Type 0} {c : Option SlotId} {cell w : ℕ}
      (s : SlotId) where
    -- a look that found s, and a read of s
    pub has_seen : Steps fits d next allows (act.Look (Cell cell)) old mid (outcome.Found c)
        → c ≡ Some s → Steps fits d same_view IsSameView (act.See s 0) mid new (outcome.Word w)
        → HasSeen cell old.view.core new.view.core
    has_seen looks is reads =
        let v = old.view.core in
        let looked =
        step_trail fits d looks
        ∙ ap (λ (o : Option SlotId). v.trail ++ move (act.Look (Cell cell)) (outcome.Found o) ∷ [])
        is in
        record {
          found = record { slot = s; word = reads.word };
          events =
              then_events v.trail mid.view.core.trail new.view.core.trail
              (move (act.Look (Cell cell)) (outcome.Found (Some s)) ∷ [])
              (move (act.See s 0) (outcome.Word reads.word) ∷ []) looked
              (ap (λ (u : EpochView). u.trail) reads.told.core);
        }

  -- a region with its looks
  pub has_visited : {i looks : ℕ} (after : SeatState V) → Enters fits d old mid
      → HasLooked i looks mid.view.core after.view.core
      → Steps fits d same_view IsSameView act.Exit after new outcome.Plain
      → HasVisited i looks old.view.core new.view.core
  has_visited {i = i} after enters looked exits =
      let t = old.view.core.trail in
      let opened = move act.Enter (outcome.Epoch enters.epoch) ∷ move act.Open outcome.Plain ∷ [] in
      let seen = looked_from i looked.found in
      record {
        region = record { epoch = enters.epoch; found = looked.found };
        many = looked.many;
        events =
            then_events t mid.view.core.trail new.view.core.trail opened
            (seen ++ move act.Exit outcome.Plain ∷ [])
            (ap (λ (u : EpochView). u.trail) enters.core)
            (then_events mid.view.core.trail after.view.core.trail new.view.core.trail seen
            (move act.Exit outcome.Plain ∷ []) looked.events
            (ap (λ (u : EpochView). u.trail) exits.told.core));
      }

module _ {u v w : EpochView} {i n : ℕ} where
  pub has_looked_more : {cell : ℕ} → HasLooked i n u v → HasSeen cell v w → cell ≡ (i + n) % 16
      → HasLooked i (n + 1) u w
  has_looked_more {cell = cell} looked seen is =
      let found = looked.found in
      let at = ap (λ (k : ℕ). (i + k) % 16) (sym looked.many) in
      let l = length-append found (seen.found ∷ []) in
      let many = looked.many in
      record {
        found = found ++ seen.found ∷ [];
        many = omega (arith, l, many);
        events =
            then_events u.trail v.trail w.trail (looked_from i found) (looked_at cell seen.found)
            looked.events seen.events
            ∙ ap (λ (ys : List EpochMove). u.trail ++ ys)
            (ap (λ (k : ℕ). looked_from i found ++ looked_at k seen.found) (is ∙ at)
            ∙ sym (looked_more i found seen.found));
      }

  pub has_visited_more : {looks first : ℕ} → HasVisitedEach i looks n u v
      → HasVisited first looks v w → first ≡ i + n → HasVisitedEach i looks (n + 1) u w
  has_visited_more {looks = looks} {first = first} each one is =
      let regions = each.regions in
      let at = ap (λ (k : ℕ). i + k) (sym each.count) in
      let l = length-append regions (one.region ∷ []) in
      let count = each.count in
      record {
        regions = regions ++ one.region ∷ [];
        count = omega (arith, l, count);
        many =
            All-push (λ (r : Region). length r.found ≡ looks) regions one.region each.many one.many;
        events =
            then_events u.trail v.trail w.trail (visited_from i regions) (visited first one.region)
            each.events one.events
            ∙ ap (λ (ys : List EpochMove). u.trail ++ ys)
            (ap (λ (k : ℕ). visited_from i regions ++ visited k one.region) (is ∙ at)
            ∙ sym (visited_more i regions one.region));
      }

-- before the first look, and before the first region
module _ (i looks : ℕ) (u : EpochView) where
  pub has_looked_none : HasLooked i 0 u u
  has_looked_none = record { found = []; many = refl; events = sym (append-nil u.trail) }

  pub has_visited_none : HasVisitedEach i looks 0 u u
  has_visited_none = record {
    regions = [];
    count = refl;
    many = λ k other low. absurd (omega arith);
    events = sym (append-nil u.trail);
  }
