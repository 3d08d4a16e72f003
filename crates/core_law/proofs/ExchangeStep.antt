-- An exchange of a place keeps the invariant.
use Rattle.std.proofs.Common.{◌≡◌, ◌⊎◌, inl, inr, ⊎_elim, ℕ, ◌+◌, ◌*◌, ◌^◌, ◌<◌, ◌≤◌, List, [], length, get_or, set, ap, sym, ◌∙◌, arith}
use Rattle.std.specs.Prelude.{slice_index, if◌then◌else◌, Option, Some, None}
use Rattle.std.proofs.lemmas.List.{get_or-set_other}
use Rattle.core_events.specs.plain_state.declared.act.EventPlace.{EventPlace}
use Rattle.core_events.specs.plain_state.declared.act.EventPlace.TheVariants.{Cell, Field, WeakCell, WeakField}
use Rattle.core_events.specs.plain_state.declared.slot.Kind.{Kind}
use Rattle.core_events.specs.plain_state.declared.slot.Kind.TheVariants.{Strong, Weak, Disposal}
use Rattle.core_events.specs.plain_state.declared.slot.SlotId.{SlotId}
use Rattle.core_events.specs.plain_state.Lists.{times, entry_times}
use Rattle.core_events.specs.plain_state.Places.{place_kind}
use Rattle.core_events.specs.plain_state.Steps.{word_of, joined}
use Rattle.core_events.specs.declared.shape.Shape.{Shape}
use Rattle.core_events.specs.declared.view.CoreView.{CoreView}
use Rattle.core_events.specs.declared.view.Move.{Move}
use Rattle.core_events.specs.declared.view.Note.{Note}
use Rattle.core_events.specs.declared.view.Note.TheVariants as note
use Rattle.core_events.specs.Views.{note_of}
use Rattle.core_events.specs.Words.{slot_in, strong_at, weak_at, place_at, note_at, cell_at, weak_cell_at, field_at, weak_field_at}
use Rattle.core_events.specs.Steps.{IsIdle, HasRoom, CanGive, exchanged}
use Rattle.core_events.specs.Runs.{Core, view_at}
use Rattle.core_events.specs.Counts.{in_word, listed, naming, noting, in_phase, finishing, helping, baring, filling, giving, dying_times, refs, adds_used, guarding, is_live_word}
use Rattle.core_events.specs.Good.{SeatLaw}
use Rattle.core_law.specs.Slots.{numbers, SlotLaw}
use Rattle.core_law.specs.Sound.{Sound, covering}
use Rattle.core_law.proofs.Kit.{kind_one, in_word_null, by_slot}
use Rattle.core_law.proofs.SlotSame.{slot_same}
use Rattle.core_law.proofs.Bits.{bits_off, ticket_off}
use Rattle.core_law.proofs.Counters.{kind_none}
use Rattle.core_law.proofs.SlotSteps as slot
use Rattle.core_law.proofs.Writes.{IsPlace, place_off_notes, place_off_bits, place_off_strong, place_off_weak, places_put, places_at, fields_sum, fields_sum_off}
use Rattle.core_law.proofs.Put.{put, put_sound, announced_put, guarded_put, unripe_put, tickets_put, fit_put, at_seat, totals}
use Rattle.core_law.proofs.Steady.{nothing_seen, named_in_range}
use Rattle.core_law.proofs.Guards.{guards_all}
use Rattle.core_law.proofs.Exchange.{SameBut, exchanged_listed, exchanged_retired, in_word_other, joined_length, joined_times, same_but}

module _ (z : Shape) (c : Core) (n : ℕ) (so : Sound z c) (hn : n < z.seats) where
  abbrev v : CoreView
  v = view_at c n

  -- the slot whose field the place is is live or dying
  abbrev pub IsAlive : EventPlace → Type 0
  IsAlive (Cell i) = Unit {0}
  IsAlive (Field s i) = 0 < refs Strong z c s + dying_times c s
  IsAlive (WeakCell i) = Unit {0}
  IsAlive (WeakField s) = 0 < refs Strong z c s + dying_times c s

  -- a slot of which the place is no field, or which is live or dying
  abbrev IsSpared : ℕ → ℕ → SlotId → Type 0
  IsSpared p w x = (fields_sum z (set c.words p w) x ≡ fields_sum z c.words x)
      ⊎ (0 < refs Strong z c x + dying_times c x)

  alive_or : (q : EventPlace) (w : ℕ) (x : SlotId) → IsPlace z q → IsAlive q → IsSpared (place_at z q) w x
  alive_or (Cell i) w x there alive =
      inl (fields_sum_off z c.words (cell_at z i) w x (omega arith) (omega arith))
  alive_or (Field s i) w x there alive = by_slot s x (IsSpared (field_at z s i) w) (inr alive)
      (λ ne. inl (fields_sum_off z c.words (field_at z s i) w x (omega arith) (omega arith)))
  alive_or (WeakCell i) w x there alive =
      inl (fields_sum_off z c.words (weak_cell_at z i) w x (omega arith) (omega arith))
  alive_or (WeakField s) w x there alive = by_slot s x (IsSpared (weak_field_at z s) w) (inr alive)
      (λ ne. inl (fields_sum_off z c.words (weak_field_at z s) w x (omega arith) (omega arith)))

  given_in_range : (kind : Kind) (new : Option SlotId) (k : Kind) (x : SlotId) → CanGive kind new v
      → z.slots ≤ x.0 → kind_one k kind (in_word x (word_of new)) ≡ 0
  given_in_range kind None k x can le =
      let i = ap (kind_one k kind) (in_word_null x) in let m = kind_none k kind in omega arith
  given_in_range Strong (Some s) k x can le =
      let there = named_in_range z n v s (so.seats n hn) (omega arith) in
      let i = ap (kind_one k Strong) (in_word_other x (s.0 + 1) (omega arith)) in
      let m = kind_none k Strong in omega arith
  given_in_range Weak (Some s) k x can le =
      let there = named_in_range z n v s (so.seats n hn) (omega arith) in
      let i = ap (kind_one k Weak) (in_word_other x (s.0 + 1) (omega arith)) in
      let m = kind_none k Weak in omega arith
  given_in_range Disposal (Some s) k x can le = absurd can

  given_fits : (kind : Kind) (new : Option SlotId) → CanGive kind new v → word_of new < 2 ^ 64
  given_fits kind None can = omega arith
  given_fits Strong (Some s) can =
      let there = named_in_range z n v s (so.seats n hn) (omega arith) in
      let few = so.shape.3 in omega arith
  given_fits Weak (Some s) can =
      let there = named_in_range z n v s (so.seats n hn) (omega arith) in
      let few = so.shape.3 in omega arith
  given_fits Disposal (Some s) can = absurd can

  -- from v to u the seat puts `new` into place q and retires what was there
  module _ (q : EventPlace) (new : Option SlotId) (u : CoreView) (same : SameBut v u)
      (moves : (k : Kind) (x : SlotId) → listed k x u + kind_one k (place_kind q)
      (in_word x (word_of new)) ≡ listed k x v + kind_one k (place_kind q)
      (in_word x (slice_index c.words (place_at z q))))
      (retires : u.retired ≡ joined (place_kind q) (slot_in (slice_index c.words (place_at z q)))
      v.retired)
      (idle : IsIdle v) (room : HasRoom v) (there : IsPlace z q) (alive : IsAlive q)
      (can : CanGive (place_kind q) new v) where
    names : (s : SlotId) → z.slots ≤ s.0 → naming s u ≡ 0
    names s le =
        let law = (so.seats n hn).range s le in
        let m = moves Strong s in
        let m' = moves Weak s in
        let i = places_at z c.words q s there in
        let ra = so.range (place_kind q) s le in
        let none : in_word s (slice_index c.words (place_at z q)) ≡ 0 = omega arith in
        let a = ap (kind_one Strong (place_kind q)) none in
        let a' = ap (kind_one Weak (place_kind q)) none in
        let a'' = ap (kind_one Disposal (place_kind q)) none in
        let b = kind_none Strong (place_kind q) in
        let b' = kind_none Weak (place_kind q) in
        let b'' = kind_none Disposal (place_kind q) in
        let m'' = moves Disposal s in
        let d = ap (times s) same.dying in
        let r = ap (times s) same.ripe in
        let e = ap (times s) same.made in
        let o = ap (noting s) same.notes in
        let f = ap (in_phase s) same.phase in omega arith

    laws : (x : SlotId) → x.0 < z.slots
        → SlotLaw (adds_used (put c n u (place_at z q) (word_of new)))
        (numbers z (put c n u (place_at z q) (word_of new)) x)
    laws x hx =
        let p : ℕ = place_at z q in
        let w : ℕ = word_of new in
        let t = totals z c n u x so hn in
        let m = moves Strong x in
        let m' = moves Weak x in
        let e = places_put z c.words q (word_of new) Strong x there so.words in
        let e' = places_put z c.words q (word_of new) Weak x there so.words in
        let i = get_or-set_other c.words (place_at z q) (strong_at z x) (word_of new) 0
        (place_off_strong z q x there) in
        let i' = get_or-set_other c.words (place_at z q) (weak_at z x) (word_of new) 0
        (place_off_weak z q x there) in
        let bt = bits_off z c.words (place_at z q) (word_of new) x (place_off_bits z q there) in
        let fin = ap (finishing x) same.phase in
        let hlp = ap (helping x) same.phase in
        let bar = ap (baring x) same.phase in
        let fill = ap (filling x) same.phase in
        let giv = ap (giving x) same.phase in
        let dyi = ap (times x) same.dying in
        let add = same.adds in
        ⊎_elim
        (λ (f : fields_sum z (set c.words (place_at z q) (word_of new)) x ≡ fields_sum z c.words x).
        slot_same _ _ (numbers z c x) _ (so.slots x hx) (omega arith) (omega arith))
        (λ (live : 0 < refs Strong z c x + dying_times c x).
        slot.field_write _ _ (numbers z c x) _ (so.slots x hx) (omega arith) live (omega arith))
        (alive_or q (word_of new) x there alive)

    no_disposal : (r : EventPlace) (m : ℕ) → kind_one Disposal (place_kind r) m ≡ 0
    no_disposal r m = grind arith

    -- what a place or a retired entry guarded, the other or this entry guards
    guards : (a : ℕ) (k : Kind) (s : SlotId) → v.seen ≡ []
        → (0 < guarding a k s v
        → 0 < covering k z (set c.words (place_at z q) (word_of new)) s + guarding a k s u)
        × (0 < covering k z c.words s
        → 0 < covering k z (set c.words (place_at z q) (word_of new)) s + guarding a k s u)
    guards a Strong s seen' =
        let e = places_put z c.words q (word_of new) Strong s there so.words in
        let g = guards_all a Strong s v seen' in
        let g' = guards_all a Strong s u (same.seen ∙ seen') in
        let r = ap (entry_times Strong s) retires in
        let j = joined_times Strong (place_kind q) s (slice_index c.words (place_at z q)) v.retired in
        ((λ pos. omega arith), (λ pos. omega arith))
    guards a Weak s seen' =
        let e = places_put z c.words q (word_of new) Weak s there so.words in
        let g = guards_all a Weak s v seen' in
        let g' = guards_all a Weak s u (same.seen ∙ seen') in
        let r = ap (entry_times Weak s) retires in
        let j = joined_times Weak (place_kind q) s (slice_index c.words (place_at z q)) v.retired in
        ((λ pos. omega arith), (λ pos. omega arith))
    guards a Disposal s seen' =
        let g = guards_all a Disposal s v seen' in
        let g' = guards_all a Disposal s u (same.seen ∙ seen') in
        let d = ap (times s) same.dying in
        let w : covering Disposal z (set c.words (place_at z q) (word_of new)) s
        ≡ covering Disposal z c.words s =
        ap (λ (i : ℕ). if is_live_word i then 1 else 0)
        (get_or-set_other c.words (place_at z q) (strong_at z s) (word_of new) 0
        (place_off_strong z q s there)) in
        ((λ pos. omega arith), (λ pos. omega arith))

    seat : SeatLaw z n u
    seat =
        let law = so.seats n hn in
        record {
          number = same.seat ∙ law.number;
          same_shape = same.shape ∙ law.same_shape;
          quota = rw same.quota law.quota;
          adds = rw (same.adds, same.quota) law.adds;
          makes = λ l. rw (same.makes, same.quota, same.grants, same.tickets) (law.makes (sym same.left ∙ l));
          can_start = λ s e. ⊎_elim (λ f. absurd (cc (same.phase, f, idle.0)))
              (λ f. absurd (cc (same.phase, f, idle.0))) e;
          four = rw same.notes law.four;
          scans = inl (same.seen ∙ nothing_seen z n v law (λ e. absurd (cc (idle.0, e))));
          reads = rw same.seen law.reads;
          owes_nothing = λ e. absurd (cc (same.phase, e, idle.0));
          ripe = λ s. rw (same.ripe, same.dying) (law.ripe s);
          kinds = λ s.
              let m = moves Disposal s in
              let a = no_disposal q (in_word s (word_of new)) in
              let b = no_disposal q (in_word s (slice_index c.words (place_at z q))) in
              let d = law.kinds s in omega arith;
          range = names;
          gone = λ e. absurd (cc (same.left, e, idle.1));
        }

    exchange : Sound z (put c n u (place_at z q) (word_of new))
    exchange =
        let h = at_seat z c n so hn in
        let seen' = nothing_seen z n v (so.seats n hn) (λ e. absurd (cc (idle.0, e))) in
        let before = place_off_bits z q there in
        put_sound z c n u (place_at z q) (word_of new) so hn (record {
          law = seat;
          slots = laws;
          announced = announced_put z c n u (set c.words (place_at z q) (word_of new)) so hn
              (λ m i hm ne hi. get_or-set_other c.words (place_at z q) (note_at m i) (word_of new) 0
              (place_off_notes z q there m i hm hi))
              (λ i hi. get_or-set_other c.words (place_at z q) (note_at n i) (word_of new) 0
              (place_off_notes z q there n i hn hi)
              ∙ rw same.notes (so.announced n i h hi));
          guarded = guarded_put z c n u (set c.words (place_at z q) (word_of new)) so hn
              (λ i k s hi valid. inl (was_valid i k s valid))
              (λ m i k s hm hi valid is. guards (4 * m + i) k s seen');
          unripe = unripe_put z c n u (set c.words (place_at z q) (word_of new)) so hn
              (λ i s hi valid. inl (was_valid i Disposal s valid))
              (λ m i s hm hi valid. rw same.ripe (omega arith));
          range = λ k s le.
              let e = places_put z c.words q (word_of new) k s there so.words in
              let g = given_in_range (place_kind q) new k s can le in
              let r = so.range k s le in omega arith;
          tickets = tickets_put z c n u (set c.words (place_at z q) (word_of new)) so hn
              same.tickets same.left_seats (let a = same.adds in omega arith)
              (ticket_off z c.words (place_at z q) (word_of new) (omega arith));
          fit = fit_put z c n u (place_at z q) (word_of new) so (given_fits (place_kind q) new can)
              (λ x a b. bits_off z c.words (place_at z q) (word_of new) x before);
        })
        same.room same.left
        (let r = ap length retires in
        let l = joined_length (place_kind q) (slot_in (slice_index c.words (place_at z q)))
        v.retired in
        let o = ap length same.owed in
        let f = same.room in omega arith)
      where
        was_valid : (i : ℕ) (k : Kind) (s : SlotId) → note_of u i ≡ note.Valid k s
            → note_of v i ≡ note.Valid k s
        was_valid i k s valid =
            ap (λ (ns : List Note). get_or ns i note.Idle) (sym same.notes) ∙ valid

  pub exchange_step : (q : EventPlace) (new : Option SlotId) (t : List Move) → IsIdle v → HasRoom v
      → IsPlace z q → IsAlive q → CanGive (place_kind q) new v
      → Sound z (put c n (record (exchanged (place_kind q) new
      (slice_index c.words (place_at z q)) v) { trail = t }) (place_at z q) (word_of new))
  exchange_step q new t idle room there alive can =
      let w : ℕ = slice_index c.words (place_at z q) in
      exchange q new (record (exchanged (place_kind q) new (slice_index c.words (place_at z q)) v)
      { trail = t })
      (same_but (place_kind q) new (slice_index c.words (place_at z q)) v t)
      (λ k x. exchanged_listed k (place_kind q) new (slice_index c.words (place_at z q)) x v t can)
      (exchanged_retired (place_kind q) new (slice_index c.words (place_at z q)) v t)
      idle room there alive can
