-- One event of a read, and several in turn: what the seat has afterwards.
use Rattle.std.proofs.Common.{◌≡◌, ℕ, ◌+◌, ◌<◌, Bool, List, [], ◌∷◌, ◌++◌, refl, ap, sym, ◌∙◌, subst, arith, append_assoc}
use Rattle.std.specs.Prelude.{Some, None, slice_index, if◌then◌else◌}
use Rattle.std.proofs.lemmas.List.{append-nil}
use Rattle.map_law.specs.plain_state.declared.act.PlainAct.{PlainAct}
use Rattle.map_law.specs.plain_state.declared.slot.PlainSlot.{PlainSlot}
use Rattle.map_law.specs.plain_state.declared.slot.SlotId.{SlotId}
use Rattle.map_law.specs.plain_state.State.{Plain, PlainSeat, seat_at, slot_at}
use Rattle.map_law.specs.plain_protocol.Owns.{HasSlot, Object, OwnPart, has_slot, object_of, own_part}
use Rattle.map_law.specs.Patterns.{HasObject}
use Rattle.map_law.specs.declared.view.View.{View}
use Rattle.map_protocol.specs.declared.law.MapLaw.{MapLaw}
use Rattle.protected_loads.specs.core_events.declared.act.Act.{Act}
use Rattle.protected_loads.specs.core_events.declared.act.Act.TheVariants as act
use Rattle.protected_loads.specs.core_events.declared.outcome.Outcome.{Outcome}
use Rattle.protected_loads.specs.core_events.declared.outcome.Outcome.TheVariants as outcome
use Rattle.protected_loads.specs.core_events.declared.shape.Shape.{Shape}
use Rattle.protected_loads.specs.core_events.declared.view.CoreView.{CoreView}
use Rattle.protected_loads.specs.core_events.declared.view.Move.{Move}
use Rattle.protected_loads.specs.core_events.Shows.{show_seat, shows}
use Rattle.protected_loads.specs.core_events.Steps.{changed}
use Rattle.protected_loads.specs.core_events.Views.{Holds, HoldsStrongly, Terms}
use Rattle.protected_loads.specs.core_events.Words.{payload_at}
use Rattle.protected_loads.specs.domain_rule.declared.view.SeatView.{SeatView}
use Rattle.protected_loads.specs.domain_rule.Told.{Told, cleared_after}
use Rattle.protected_loads.specs.domain_rule.Views.{object_in, own_of}
use Rattle.protected_loads.specs.acquire_retire.Calls.{IsSameView, Steps, same_view}
use Rattle.protected_loads.specs.acquire_retire.Collecting.{move}
use Rattle.protected_loads.specs.acquire_retire.Domains.{DomainState}
use Rattle.protected_loads.specs.acquire_retire.Seats.{SeatState}
use Rattle.protected_loads.proofs.Below.control_word_Becoming.{bare, one_step}
use Rattle.protected_loads.proofs.Below.control_word_Finding.{slot_there}
use Rattle.protected_loads.proofs.Below.core_law_Bridge.{shown_seat, shown_slot}
use Rattle.protected_loads.proofs.Below.core_law_Each.{get_each}
use Rattle.protected_loads.proofs.Telling.{holds_has}
use Rattle.version_reading.specs.Reading.{AllRead, GoesOn, IsRead, IsReading, Learns, Reads}
use Rattle.version_reading.proofs.Learning.{learns_as, learns_none, learns_then}

-- THE SEAT'S PART, as its view tells it
pub own_has : {V : Type 0} (v : SeatView V) (s : SlotId) → HasSlot (show_seat v.core) s
    → (own_of v).objects s ≡ Some (object_in v s)
own_has v s has = ap (λ (b : Bool). if b then Some (object_in v s) else None) has

module _ {V : Type 0} {fits : List ℕ → Type 0} {z : Shape} {ts : Terms}
    {next : OwnPart → OwnPart → V → PlainAct → ℕ → V}
    {allows : Plain → Plain → ℕ → V → V → Type 0} {a : Act} {v v' : SeatView V} {w : ℕ}
    (told : Told fits z ts next allows a v w v') where
  pub seat_shown : seat_at (shows z told.happened.before) v.core.seat ≡ show_seat v.core
  seat_shown =
      shown_seat z told.happened.before v.core.seat told.happened.enabled.0
      ∙ ap show_seat (sym told.happened.view)

  pub part_has : (s : SlotId) → HasSlot (show_seat v.core) s
      → HasObject (own_part (shows z told.happened.before) v.core.seat) s (object_in v s)
  part_has s has =
      let e = ap (λ (x : PlainSeat). has_slot x s) seat_shown ∙ has in
      ap (λ (b : Bool). if b then Some (object_of (slot_at (shows z told.happened.before) s))
      else None) e
      ∙ ap (λ (x : Object). Some x) (sym (told.said.objects s has))

-- READS
all_both : (xs ys : List Move) → AllRead xs → AllRead ys → AllRead (xs ++ ys)
all_both [] ys a b = b
all_both (x ∷ xs) ys a b = (a.0, all_both xs ys a.1 b)

pub reads_none : (a : SeatState View) → Reads a.view.core a a
reads_none a = record {
  table = refl;
  moves = [];
  only = tt;
  core = ap (λ (t : List Move). record a.view.core { trail = t }) (sym (append-nil a.view.core.trail));
  cleared = refl;
  learns = learns_none a.view.client;
}

-- what is changed beside the trail doesn't depend on it
abbrev pub Minds : (CoreView → CoreView) → Type 0
Minds f = (u : CoreView) (t : List Move) → f (record u { trail = t }) ≡ record (f u) { trail = t }

pub reads_then : (f : CoreView → CoreView) → Minds f → (v : CoreView) (a b c : SeatState View)
    → Reads v a b → Reads (f b.view.core) b c → Reads (f v) a c
reads_then f minds v a b c one two = record {
  table = two.table ∙ one.table;
  moves = one.moves ++ two.moves;
  only = all_both one.moves two.moves one.only two.only;
  core = two.core
      ∙ (ap (λ (u : CoreView). record (f u) { trail = u.trail ++ two.moves }) one.core
      ∙ (ap (λ (u : CoreView). record u {
        trail = (a.view.core.trail ++ one.moves) ++ two.moves;
      }) (minds v (a.view.core.trail ++ one.moves))
      ∙ ap (λ (t : List Move). record (f v) { trail = t })
      (append_assoc a.view.core.trail one.moves two.moves)));
  cleared = two.cleared ∙ one.cleared;
  learns = learns_then a.view.client b.view.client c.view.client one.learns two.learns;
}

pub reads_same : (v : CoreView) (a b c : SeatState View) → Reads v a b → Reads b.view.core b c
    → Reads v a c
reads_same v a b c one two = reads_then (λ (u : CoreView). u) (λ u t. refl) v a b c one two

pub reads_as : (u v : CoreView) (a b : SeatState View) → u ≡ v → Reads u a b → Reads v a b
reads_as u v a b is = subst (λ (x : CoreView). Reads x a b) is

pub goes_on : (v : CoreView) (a b : SeatState View) → Reads v a b → GoesOn a.view.core b.view.core
goes_on v a b r = (r.moves, ap (λ (u : CoreView). u.trail) r.core)

-- the seat goes on to be in the middle of the read
pub still_reading : (d : DomainState MapLaw) (v : CoreView) (a b : SeatState View) → Reads v a b
    → v.shape ≡ a.view.core.shape → v.phase ≡ a.view.core.phase → v.left ≡ a.view.core.left
    → IsReading d a → IsReading d b
still_reading d v a b r shape phase left is = record {
  of = (r.table ∙ is.of.0, ap (λ (u : CoreView). u.shape) r.core ∙ (shape ∙ is.of.1));
  idle = (
    ap (λ (u : CoreView). u.phase) r.core ∙ (phase ∙ is.idle.0),
    ap (λ (u : CoreView). u.left) r.core ∙ (left ∙ is.idle.1),
  );
  here = ap (λ (u : View). u.here) r.learns.same ∙ is.here;
}

module _ {fits : List ℕ → Type 0} (d : DomainState MapLaw)
    {next : OwnPart → OwnPart → View → PlainAct → ℕ → View}
    {allows : Plain → Plain → ℕ → View → View → Type 0} where
  -- ONE EVENT
  pub one_read : (a : Act) (old new : SeatState View) (o : Outcome) (v : CoreView)
      → (step : Steps fits d next allows a old new o)
      → bare (changed d.shape a step.word old.view.core) ≡ bare v
      → cleared_after a old.view.core old.view.cleared ≡ old.view.cleared → IsRead a
      → Learns old.view.client new.view.client → Reads v old new
  one_read a old new o v step sets clears is learns =
      let by = one_step d a old new o step.word v step (sym step.answers) sets clears in record {
        table = step.table;
        moves = move a o ∷ [];
        only = (is, tt);
        core = by.core;
        cleared = by.cleared;
        learns = learns;
      }

-- A PAYLOAD WORD
module _ {fits : List ℕ → Type 0} (d : DomainState MapLaw) (s : SlotId) (i n : ℕ)
    (old new : SeatState View) (o : Outcome)
    (step : Steps fits d same_view IsSameView (act.See s i) old new o) where
  pub word_reads : Reads old.view.core old new
  word_reads =
      one_read d (act.See s i) old new o old.view.core step refl refl tt
      (learns_as old.view.client new.view.client step.told.client)

  pub word_is : (0 < 16) → i < 16 → HoldsStrongly old.view.core s → o ≡ outcome.Word n
      → n ≡ slice_index (object_in old.view s).payload i
  word_is some' below held is =
      let h : Holds old.view.core s = omega (arith, held) in
      let there = slot_there step.told s h in
      let before = step.told.happened.before in
      let at : 0 + i ≡ i = omega arith in
      let shown : slice_index (slot_at (shows d.shape before) s).payload i ≡ n =
      ap (λ (x : PlainSlot). slice_index x.payload i) (shown_slot d.shape before s there)
      ∙ (get_each 0 16 i (λ k. slice_index before.words (payload_at d.shape s k)) 0 below
      ∙ (ap (λ (k : ℕ). slice_index before.words (payload_at d.shape s k)) at
      ∙ (sym step.told.happened.found ∙ sym (cc (step.answers, is))))) in
      sym shown
      ∙ ap (λ (x : Object). slice_index x.payload i)
      (sym (step.told.said.objects s (holds_has old.view.core s h)))
