-- A search of one version, from the time that its root is held.
use Rattle.std.proofs.Common.{◌≡◌, ◌≢◌, ℕ, ◌+◌, ◌<◌, List, [], ◌++◌, length, refl, ap, sym, ◌∙◌, subst, arith}
use Rattle.std.proofs.lemmas.List.{append-nil}
use Rattle.std.specs.Prelude.{Err, IfOk, Ok, Option, Some, None, Result, slice_index}
use Rattle.version_making.specs.protected_loads.plain_state.declared.slot.Kind.TheVariants.{Strong}
use Rattle.version_making.specs.protected_loads.plain_state.declared.slot.SlotId.{SlotId}
use Rattle.version_making.specs.protected_loads.plain_state.State.{Plain}
use Rattle.version_making.specs.protected_loads.plain_state.Steps.{word_of}
use Rattle.version_making.specs.protected_loads.plain_protocol.Owns.{HasSlot, Object}
use Rattle.version_making.specs.protected_loads.core_events.declared.act.Act.TheVariants as act
use Rattle.version_making.specs.protected_loads.core_events.declared.outcome.Outcome.{Outcome}
use Rattle.version_making.specs.protected_loads.core_events.declared.view.CoreView.{CoreView}
use Rattle.version_making.specs.protected_loads.core_events.declared.view.Note.TheVariants as stands
use Rattle.version_making.specs.protected_loads.core_events.Shows.{show_seat, shows}
use Rattle.version_making.specs.protected_loads.core_events.Steps.{with_note}
use Rattle.version_making.specs.protected_loads.core_events.Views.{note_of}
use Rattle.version_making.specs.protected_loads.core_events.Words.{slot_in}
use Rattle.version_making.specs.protected_loads.domain_rule.Views.{object_in}
use Rattle.version_making.specs.protected_loads.acquire_retire.Calls.{IsSameView, Steps, same_view}
use Rattle.version_making.specs.protected_loads.acquire_retire.Domains.{DomainState}
use Rattle.version_making.specs.protected_loads.acquire_retire.Seats.{SeatState}
use Rattle.version_making.specs.protected_loads.control_word.Moves.{KnowsStill}
use Rattle.version_making.proofs.Below.core_law_ShownPlaces.{slot_word}
use Rattle.version_making.proofs.Below.protected_loads_Noting.{second_stays, written_back}
use Rattle.version_making.proofs.Below.protected_loads_Telling.{four_notes}
use Rattle.version_changes.specs.map_trees.Trees.{Pair, leaf}
use Rattle.version_reading.specs.map_law.declared.view.View.{View}
use Rattle.version_reading.specs.map_law.Nodes.{IsNode, root}
use Rattle.version_reading.specs.map_protocol.declared.law.MapLaw.{MapLaw}
use Rattle.version_reading.specs.Reading.{AtALook, GoesOn, HasNext, HasNode, IsLonger, KnowsRoot, Reads, Saw, Sought, held_by, pair_by, root_by}
use Rattle.version_reading.proofs.Events.{goes_on, reads_as, reads_same, reads_then}
use Rattle.version_reading.proofs.Releasing.{free_knows, free_reads, released_has}
use Rattle.version_reading.proofs.Searches.{next_found, next_is, not_longer}
use Rattle.version_reading.proofs.Walking.{node_has, node_kept}
use Rattle.version_map.specs.Maps.{HasRange, Scanned, SeesAnother}
use Rattle.version_map.proofs.Trails.{look_also, look_within, saw_within}

-- the content of a place by its word
same_content : (o : Option SlotId) (r : SlotId) → word_of o ≡ r.0 + 1 → o ≡ Some r
same_content o r is = sym (slot_word o) ∙ (ap slot_in is ∙ slot_word (Some r))

-- FROM THE HOLD to the release: some reads, the last look, and the release of the root's word
module _ (d : DomainState MapLaw) (c : ℕ) (r : SlotId) (j : ℕ) (start mid late end : SeatState View)
    (node : HasNode r start)
    (held : (0 < j) × (j < 4) × (note_of start.view.core j ≡ stands.Valid Strong r))
    (walks : Reads start.view.core start mid) (walks_knows : KnowsStill start.view.core start mid)
    (found : Option SlotId) (map : AtALook d c (KnowsRoot c found mid) mid late)
    (saw : Saw c (word_of found) mid.view.core.trail late.view.core.trail)
    (looks : Reads mid.view.core mid late) (looks_knows : KnowsStill mid.view.core mid late)
    (o : Outcome) (release : Steps IsNode d same_view IsSameView (act.Release j) late end o) where
  both : Reads start.view.core start late
  both = reads_same start.view.core start mid late walks looks

  noted : note_of late.view.core j ≡ stands.Valid Strong r
  noted = ap (λ (u : CoreView). note_of u j) both.core ∙ held.2

  frees : Reads (with_note j stands.Idle late.view.core) late end
  frees = free_reads d (Some j) j refl r late end held.1 noted o release

  pub all_reads : Reads (with_note j stands.Idle start.view.core) start end
  all_reads =
      reads_then (λ (u : CoreView). with_note j stands.Idle u) (λ u t. refl) start.view.core start
      late end both frees

  has_start : (x : SlotId) → HasSlot (show_seat (with_note j stands.Idle start.view.core)) x
      → HasSlot (show_seat start.view.core) x
  has_start x has =
      let four = four_notes release.told in
      let long = ap (λ (u : CoreView). length u.notes) both.core in
      released_has start.view.core j r x (omega (arith, held.1, four, long)) held.2 has

  pub all_knows : KnowsStill (with_note j stands.Idle start.view.core) start end
  all_knows x has =
      let at = has_start x has in
      free_knows d (Some j) j refl r late end held.1 noted o release x
      (subst (λ (u : CoreView). HasSlot (show_seat (with_note j stands.Idle u)) x) (sym both.core)
      has)
      ∙ (looks_knows x (subst (λ (u : CoreView). HasSlot (show_seat u) x) (sym walks.core) at)
      ∙ walks_knows x at)

  since : GoesOn start.view.core mid.view.core
  since = goes_on start.view.core start mid walks

  till : GoesOn late.view.core end.view.core
  till = goes_on (with_note j stands.Idle late.view.core) late end frees

  pub sees_another : (seen now : ℕ) → seen ≡ r.0 + 1 → now ≡ word_of found → now ≢ seen
      → SeesAnother c (r.0 + 1) seen now start end
  sees_another seen now is at other = record {
    is = is;
    differ = λ same. other (sym same);
    sees = subst (λ (w : ℕ). Saw c w start.view.core.trail end.view.core.trail) (sym at)
        (saw_within c (word_of found) start.view.core mid.view.core late.view.core end.view.core
        since saw till);
  }

  mid_node : HasNode r mid
  mid_node = node_kept start mid r walks walks_knows node

  -- THE CELL shows the root still
  module _ (shows_root : word_of found ≡ r.0 + 1) where
    knows : AtALook d c (KnowsRoot c (Some r) mid) mid late
    knows = subst (λ (x : Option SlotId). AtALook d c (KnowsRoot c x mid) mid late)
        (same_content found r shows_root) map

    pub has_next : (key : ℕ) (x : Option Pair) → Sought r key x mid
        → AtALook d c (HasNext c key x) start end
    has_next key x sought =
        look_within d c (HasNext c key x) start mid late end since
        (look_also d c (KnowsRoot c (Some r) mid) (HasNext c key x) mid late
        (λ p k. next_found c r mid p k mid_node key x sought) knows) till

    pub has_range : (low high room n : ℕ) (out : List (ℕ × ℕ))
        → Scanned r low high room n out mid
        → AtALook d c (HasRange c low high room n out) start end
    has_range low high room n out scanned =
        look_within d c (HasRange c low high room n out) start mid late end since
        (look_also d c (KnowsRoot c (Some r) mid) (HasRange c low high room n out) mid late
        (λ p k. (
          k.tree,
          k.is,
          k.shaped,
          scanned k.tree k.shaped (λ key x sought. next_is c r mid p k mid_node key x sought),
        )) knows) till

    pub no_longer : IsLonger r (slice_index (object_in start.view r).payload 3) mid → ⊥
    no_longer longer =
        let same = walks_knows r (node_has start r node) in
        not_longer c r mid (shows d.shape knows.looks.told.happened.before) knows.holds mid_node
        (subst (λ (x : Object). IsLonger r (slice_index x.payload 3) mid) (sym same) longer)

-- NULL
pub from_null : (d : DomainState MapLaw) (c : ℕ) (old new : SeatState View) (key : ℕ)
    → AtALook d c (λ p. root p c ≡ None) old new → AtALook d c (HasNext c key None) old new
from_null d c old new key look =
    look_also d c (λ p. root p c ≡ None) (HasNext c key None) old new
    (λ p is. (leaf, is, (tt, tt), refl)) look

pub range_from_null : (d : DomainState MapLaw) (c : ℕ) (old new : SeatState View)
    (low high room : ℕ) (out : List (ℕ × ℕ)) → AtALook d c (λ p. root p c ≡ None) old new
    → AtALook d c (HasRange c low high room 0 out) old new
range_from_null d c old new low high room out look =
    look_also d c (λ p. root p c ≡ None) (HasRange c low high room 0 out) old new
    (λ p is. (
      leaf,
      is,
      (tt, tt),
      record { few = omega arith; count = refl; rest = []; begins = refl; full = λ more. refl },
    )) look

-- WITH THE HOLD before it
module _ (d : DomainState MapLaw) (c : ℕ) (r : SlotId) (j : ℕ) (old start end : SeatState View)
    (free : (0 < j) × (j < 4) × (note_of old.view.core j ≡ stands.Idle))
    {E : Type 0} (held : Result (Option SlotId) E) (is : held ≡ Ok (Some r))
    (takes : Reads (held_by j (root_by held) old.view.core) old start)
    (holds_knows : KnowsStill old.view.core old start) where
  holds : Reads (with_note j (stands.Valid Strong r) old.view.core) old start
  holds = subst (λ (x : Result (Option SlotId) E).
      Reads (held_by j (root_by x) old.view.core) old start) is takes

  back : with_note j stands.Idle (with_note j (stands.Valid Strong r) old.view.core) ≡ old.view.core
  back = second_stays old.view.core j (stands.Valid Strong r) stands.Idle
      ∙ written_back old.view.core j stands.Idle free.2

  module _ (goes : Reads (with_note j stands.Idle start.view.core) start end)
      (goes_knows : KnowsStill (with_note j stands.Idle start.view.core) start end) where
    pub whole_reads : Reads old.view.core old end
    whole_reads =
        reads_as (with_note j stands.Idle (with_note j (stands.Valid Strong r) old.view.core))
        old.view.core old end back
        (reads_then (λ (u : CoreView). with_note j stands.Idle u) (λ u t. refl)
        (with_note j (stands.Valid Strong r) old.view.core) old start end holds goes)

    left : with_note j stands.Idle start.view.core
        ≡ record old.view.core { trail = old.view.core.trail ++ holds.moves }
    left = ap (λ (u : CoreView). with_note j stands.Idle u) holds.core
        ∙ ap (λ (u : CoreView). record u { trail = old.view.core.trail ++ holds.moves }) back

    pub whole_knows : KnowsStill old.view.core old end
    whole_knows x has =
        goes_knows x (subst (λ (u : CoreView). HasSlot (show_seat u) x) (sym left) has)
        ∙ holds_knows x has

    from_start : (fact : Plain → Type 0) → AtALook d c fact start end
        → AtALook d c fact old end
    from_start fact look =
        look_within d c fact old start end end
        (goes_on (with_note j (stands.Valid Strong r) old.view.core) old start holds) look
        ([], sym (append-nil end.view.core.trail))

    pub all_from_start : (key : ℕ) {F : Type 0} (x : Result (Option (ℕ × ℕ)) F)
        → IfOk x (λ found. AtALook d c (HasNext c key (pair_by found)) start end)
        → IfOk x (λ found. AtALook d c (HasNext c key (pair_by found)) old end)
    all_from_start key (Ok found) look = from_start (HasNext c key (pair_by found)) look
    all_from_start key (Err error) look = tt

    pub range_from_start : (low high room : ℕ) (out : List (ℕ × ℕ)) {F : Type 0} (x : Result ℕ F)
        → IfOk x (λ n. AtALook d c (HasRange c low high room n out) start end)
        → IfOk x (λ n. AtALook d c (HasRange c low high room n out) old end)
    range_from_start low high room out (Ok n) look = from_start (HasRange c low high room n out) look
    range_from_start low high room out (Err error) look = tt
