-- What a pop's lesson notes of the item that is popped: to whom it is, if it is a delivery.
use Rattle.std.proofs.Common.{◌≡◌, ⊎_elim, suc, ◌+◌, ◌≤◌, Bool, true, false, List, [], ◌∷◌, ◌++◌, length, ap, sym, ◌∙◌, subst, arith}
use Rattle.std.proofs.lemmas.Bool.{eq-eqb}
use Rattle.std.proofs.lemmas.List.{length_push}
use Rattle.std.specs.Prelude.{if◌then◌else◌, slice_set, slice_index_or, slice_index, IfOk, IfSome, Option, Some, None, Result, Ok, Err}
use Rattle.control_word.specs.acquire_retire.Calls.{IsSameView, Steps, same_view}
use Rattle.control_word.specs.acquire_retire.Domains.{DomainState}
use Rattle.control_word.specs.acquire_retire.Seats.{SeatState}
use Rattle.control_word.specs.core_events.declared.act.Act.TheVariants as act
use Rattle.control_word.specs.core_events.declared.outcome.Outcome.TheVariants as outcome
use Rattle.control_word.specs.core_events.declared.view.CoreView.{CoreView}
use Rattle.control_word.specs.core_events.declared.view.Note.{Note}
use Rattle.control_word.specs.core_events.declared.view.Note.TheVariants as note
use Rattle.control_word.specs.core_events.Shows.{show_seat, shows}
use Rattle.control_word.specs.core_events.Steps.{validated, with_note}
use Rattle.control_word.specs.core_events.Views.{CanReadFields, Holds, note_of, valid_of}
use Rattle.control_word.specs.core_events.Words.{slot_in}
use Rattle.control_word.specs.counted_handles.Handles.{Handle}
use Rattle.control_word.specs.domain_rule.Views.{object_in, own_of}
use Rattle.control_word.specs.plain_protocol.Owns.{HasSlot, Object}
use Rattle.control_word.specs.plain_state.declared.act.EventPlace.TheVariants.{Field}
use Rattle.control_word.specs.plain_state.declared.act.PlainAct.TheVariants as plain
use Rattle.control_word.specs.plain_state.declared.slot.Kind.{Kind}
use Rattle.control_word.specs.plain_state.declared.slot.Kind.TheVariants.{Strong, Disposal}
use Rattle.control_word.specs.plain_state.declared.slot.SlotId.{SlotId}
use Rattle.control_word.specs.plain_state.Lists.{entry_times}
use Rattle.control_word.specs.plain_state.State.{slot_at}
use Rattle.control_word.specs.plain_state.Steps.{word_of}
use Rattle.control_word.proofs.Below.acquire_retire_Contents.{check_on}
use Rattle.control_word.proofs.Below.core_law_Kit.{times_push, valid_cons}
use Rattle.control_word.proofs.Below.core_law_ShownPlaces.{word_slot}
use Rattle.linked_queue.specs.Pops.{both_by}
use Rattle.linked_queue.specs.Readings.{LeavesBeside, ReadsWithin}
use Rattle.part_calls.proofs.Below.protected_loads_Noting.{release_keeps}
use Rattle.part_calls.specs.atomic_shared.Places.{named}
use Rattle.watch_protocol.specs.declared.news.NewsLaw.{NewsLaw}
use Rattle.watch_protocol.specs.watch_law.declared.view.Address.{Address}
use Rattle.watch_protocol.specs.watch_law.declared.view.View.{View}
use Rattle.watch_protocol.specs.watch_law.Lessons.{read_next, reads}
use Rattle.watch_protocol.specs.watch_law.News.{NewsView}
use Rattle.watch_protocol.specs.watch_law.Payloads.{IsDelivery, IsObserver, told}
use Rattle.watch_protocol.specs.watch_law.Steps.{address_by, payload_in}
use Rattle.weak_part_calls.proofs.Below.protected_loads_Telling.{content_found, holds_has}
use Rattle.weak_part_calls.specs.protected_loads.References.{Refers}
use Rattle.weak_watch.proofs.Made.{own_life, own_payload}
use Rattle.weak_watch.specs.Receiving.{LessonTells, NotesRead, lesson_next, read_in, with_queue}
use Rattle.weak_watch.specs.Subjects.{news_fits}

-- LISTS
pub push_same : {A : Type 0} (xs : List A) (a b : A) → xs ++ a ∷ [] ≡ xs ++ b ∷ [] → a ≡ b
push_same [] a b is = cc (is)
push_same {A = A} (x ∷ xs) a b is =
    let rest : xs ++ a ∷ [] ≡ xs ++ b ∷ [] = cc (is) in push_same xs a b rest

longer : {A : Type 0} (xs : List A) (a : A) → xs ≡ xs ++ a ∷ [] → ⊥
longer xs a is =
    let e = ap length is in let f = length_push xs a in absurd (omega (arith, e, f))

-- WHAT IS HELD, from the check to the answer
valid_more : (k : Kind) (x : SlotId) (ns : List Note)
    → entry_times k x (valid_of ns)
    ≤ entry_times k x (valid_of (slice_set ns 0 (validated (slice_index_or ns 0 note.Idle))))
valid_more k x [] = omega arith
valid_more k x (note.Idle ∷ ns) = omega arith
valid_more k x (note.Announced j s ∷ ns) =
    let e = valid_cons k x (note.Valid j s) ns in omega (arith, e)
valid_more k x (note.Valid j s ∷ ns) = omega arith

read_on : (v : CoreView) (x : SlotId) (b : Bool) → CanReadFields v x
    → Holds (if b then with_note 0 (validated (note_of v 0)) v else v) x
read_on v x true can =
    let a = valid_more Strong x v.notes in
    let c = valid_more Disposal x v.notes in omega (arith, a, c, can)
read_on v x false can = omega (arith, can)

add_on : (v : CoreView) (x s : SlotId) (b : Bool) → Holds v x
    → Holds (if b then record v { owned = v.owned ++ s ∷ []; adds = v.adds + 1 }
    else record v { adds = v.adds + 1 }) x
add_on v x s true holds = let e = times_push x s v.owned in omega (arith, e, holds)
add_on v x s false holds = omega (arith, holds)

-- A REFERENCE to s was gained, of field 0 of the item
module _ (d : DomainState NewsLaw) (item s : SlotId) (old new : SeatState NewsView)
    (r : Refers news_fits d (Field item 0) lesson_next LessonTells s old new) where
  abbrev mid : SeatState NewsView
  mid = r.protects.mid

  abbrev checked : SeatState NewsView
  checked = r.protects.checks.walks.0

  abbrev protected : SeatState NewsView
  protected = r.mid

  abbrev late : SeatState NewsView
  late = r.keeps.walks.0

  abbrev check : Steps news_fits d lesson_next LessonTells (act.Check 0 (Field item 0)) mid checked
      outcome.Valid
  check = r.protects.checks.walks.1

  abbrev is_checked : protected ≡ checked
  is_checked = r.protects.checks.walks.2

  abbrev count : Steps news_fits d same_view IsSameView (act.Add s) protected late outcome.Up
  count = r.keeps.walks.1

  can_read : CanReadFields mid.view.core item
  can_read = subst (λ (v : CoreView). CanReadFields v item) (sym check.told.happened.view)
      check.told.happened.enabled.1.3.1

  has_item : HasSlot (show_seat mid.view.core) item
  has_item = let can = can_read in holds_has mid.view.core item (omega (arith, can))

  held_item : Holds checked.view.core item
  held_item = subst (λ (v : CoreView). Holds v item) (sym check.told.core)
      (read_on mid.view.core item _ can_read)

  held_protected : Holds protected.view.core item
  held_protected = subst (λ (z : SeatState NewsView). Holds z.view.core item) (sym is_checked)
      held_item

  held_late : Holds late.view.core item
  held_late = subst (λ (v : CoreView). Holds v item) (sym count.told.core)
      (add_on protected.view.core item s _ held_protected)

  -- THE ITEM is known at the end as at the check
  known_item : object_in new.view item ≡ object_in mid.view item
  known_item =
      ap (λ (z : SeatState NewsView). object_in z.view item) r.keeps.walks.2.2
      ∙ (r.keeps.walks.2.1.told.objects item (holds_has late.view.core item held_late)
      ∙ release_keeps (note_of late.view.core 0) item (object_in late.view item))
      ∙ count.told.objects item (holds_has protected.view.core item held_protected)
      ∙ ap (λ (z : SeatState NewsView). object_in z.view item) is_checked
      ∙ check.told.objects item has_item

  -- THE CONTENT too
  has_content : HasSlot (show_seat checked.view.core) s
  has_content = subst (λ (z : SeatState NewsView). HasSlot (show_seat z.view.core) s) is_checked
      (holds_has protected.view.core s
      (subst (λ (v : CoreView). Holds v s) (sym count.told.happened.view)
      count.told.happened.enabled.1.2))

  known_content : object_in new.view s ≡ object_in checked.view s
  known_content = r.object ∙ sym r.protects.object
      ∙ ap (λ (z : SeatState NewsView). object_in z.view s) is_checked

  word : slot_in check.word ≡ Some s
  word = sym (content_found check.told (Field item 0) (check_on d.shape 0 (Field item 0)))
      ∙ r.protects.there

  number : check.word ≡ suc s.0
  number =
      let e : s.0 + 1 ≡ check.word = ap word_of (sym word) ∙ word_slot check.word in
      omega (arith, e)

  -- THE NOTE
  abbrev noted : Address
  noted = address_by (own_of mid.view) item (Some (object_in checked.view s)) s

  noted_is : noted ≡ read_in item s new
  noted_is =
      let life = own_life item mid has_item ∙ ap (λ (o : Object). o.life) (sym known_item) in
      let payload = own_payload item mid has_item
      ∙ ap (λ (o : Object). o.payload) (sym known_item) in
      let content = sym known_content in
      λ i. record {
        slot = item;
        life = life i;
        event = told (payload i);
        observer = s;
        observer_life = (content i).life;
        id = told (content i).payload;
      }

  reads_it : IsDelivery (object_in new.view item).payload
      → checked.view.client.1.read ≡ mid.view.client.1.read ++ noted ∷ []
  reads_it is =
      let delivery : IsDelivery (payload_in (own_of mid.view) item) =
      subst IsDelivery (sym (own_payload item mid has_item))
      (subst (λ (o : Object). IsDelivery o.payload) known_item is) in
      let object : (own_of checked.view).objects s ≡ Some (object_in checked.view s) =
      ap (λ b. if b then Some (object_in checked.view s) else None) has_content in
      ap (λ (v : NewsView). v.1.read) check.told.client
      ∙ ap (λ n. (read_next (own_of mid.view) (own_of checked.view) mid.view.client.1
      (plain.Check 0 (Field item 0)) n).read) number
      ∙ ap (λ x. (reads (own_of mid.view) item x s mid.view.client.1).read) object
      ∙ ap (λ b. (if b then record mid.view.client.1 {
        read = mid.view.client.1.read ++ noted ∷ [];
      } else mid.view.client.1).read)
      (eq-eqb (slice_index (payload_in (own_of mid.view) item) 0) 2 delivery)

  is_observer : IsDelivery (object_in new.view item).payload
      → IsObserver (object_in new.view s).payload
  is_observer is = ⊎_elim
      (λ same. absurd (longer mid.view.client.1.read noted
      (sym (ap (λ (v : View). v.read) same) ∙ reads_it is)))
      (λ tells.
      let a = push_same mid.view.client.1.read tells.0 noted (sym tells.1 ∙ reads_it is) in
      let at : IsObserver
      (slot_at (shows d.shape check.told.happened.before) tells.0.observer).payload =
      tells.2.observer.0 in
      subst (λ (o : Object). IsObserver o.payload) (sym r.object)
      (subst (λ (x : Address). IsObserver
      (slot_at (shows d.shape check.told.happened.before) x.observer).payload) a at))
      check.told.happened.fact.2

  pub refers_noted : NotesRead item s old new
  refers_noted is = (
    ap (λ (v : NewsView). v.1.read)
        (r.client ∙ ap (λ (z : SeatState NewsView). z.view.client) is_checked)
        ∙ reads_it is
        ∙ ap (λ (v : NewsView). v.1.read ++ noted ∷ []) r.protects.announces.client
        ∙ ap (λ (a : Address). old.view.client.1.read ++ a ∷ []) noted_is,
    is_observer is,
  )

-- among the steps of a pop
pub within_noted : (d : DomainState NewsLaw) (item s : SlotId) (old new : SeatState NewsView)
    → ReadsWithin news_fits d with_queue lesson_next LessonTells 0 item (Some s) old new
    → NotesRead item s old new
within_noted d item s old new reads is =
    let before = ap (λ (v : NewsView). v.1.read) reads.before.same in
    let after = ap (λ (v : NewsView). v.1.read) reads.after.same in
    let thing = reads.knows.same_item in
    let content = reads.knows.same_content in
    let noted = refers_noted d item s reads.begun reads.read reads.loads
    (subst (λ (o : Object). IsDelivery o.payload) thing is) in (
      after ∙ noted.0
          ∙ (λ i. before i ++ record {
            slot = item;
            life = (sym thing i).life;
            event = told (sym thing i).payload;
            observer = s;
            observer_life = (sym content i).life;
            id = told (sym content i).payload;
          } ∷ []),
      subst (λ (o : Object). IsObserver o.payload) (sym content) noted.1,
    )

pub takes_noted : {E : Type 0} (d : DomainState NewsLaw)
    (r : Result (Option (Handle × Option Handle)) E) (old new : SeatState NewsView)
    → LeavesBeside news_fits d with_queue lesson_next LessonTells (Some 0) (both_by r) old new
    → IfOk r (λ found. IfSome found (λ pair. IfSome pair.1 (λ content.
    NotesRead pair.0.slot content.slot old new)))
takes_noted d (Err e) old new beside = tt
takes_noted d (Ok None) old new beside = tt
takes_noted d (Ok (Some x)) old new beside = of x.1 beside
  where
    of : (o : Option Handle)
        → ReadsWithin news_fits d with_queue lesson_next LessonTells 0 x.0.slot (named o) old new
        → IfSome o (λ content. NotesRead x.0.slot content.slot old new)
    of None reads = tt
    of (Some h) reads = within_noted d x.0.slot h.slot old new reads
