-- Announcements, releases, scans, reads, and the events of weak words show a plain step each.
use Rattle.std.proofs.Common.{◌≡◌, ◌≢◌, ⊎_elim, ℕ, ◌+◌, ◌<◌, List, ◌++◌, length, set, refl, ap, sym, ◌∙◌, subst, arith}
use Rattle.std.specs.Prelude.{slice_index, ◌==◌, nat_lt, Option, None}
use Rattle.std.proofs.lemmas.List.{get_or-set_same, get_or-set_other, map-set}
use Rattle.std.proofs.lemmas.Bool.Decides.{nat_tests}
use Rattle.core_events.specs.plain_state.declared.act.EventPlace.{EventPlace}
use Rattle.core_events.specs.plain_state.declared.slot.Kind.{Kind}
use Rattle.core_events.specs.plain_state.declared.slot.Kind.TheVariants.{Disposal}
use Rattle.core_events.specs.plain_state.declared.slot.SlotId.{SlotId}
use Rattle.core_events.specs.plain_state.Lists.{Entry, entry_times}
use Rattle.core_events.specs.plain_state.References.{strong_refs}
use Rattle.core_events.specs.plain_state.State.{seat_at, with_seat}
use Rattle.core_events.specs.plain_state.Steps.{Row}
use Rattle.core_events.specs.declared.act.Act.TheVariants as act
use Rattle.core_events.specs.declared.outcome.Outcome.TheVariants as outcome
use Rattle.core_events.specs.declared.shape.Shape.{Shape}
use Rattle.core_events.specs.declared.view.CoreView.{CoreView}
use Rattle.core_events.specs.declared.view.Note.{Note}
use Rattle.core_events.specs.declared.view.Note.TheVariants as note
use Rattle.core_events.specs.declared.view.Phase.TheVariants as phase
use Rattle.core_events.specs.Words.{slot_in, note_at, cell_at, weak_cell_at, strong_at, weak_at, place_at, payload_at, ticket_at}
use Rattle.core_events.specs.announce_slots.Words.{code}
use Rattle.core_events.specs.counter_word.Words.{value}
use Rattle.core_events.specs.plain_state.Ejection.{kept, ejected}
use Rattle.core_events.specs.Views.{note_of, valid_of, without}
use Rattle.core_events.specs.declared.view.Move.{Move}
use Rattle.core_events.specs.Steps.{May, noted, moved, with_note, plus_one, minus_one, is_last, all_seen}
use Rattle.core_events.specs.Runs.{Core, Enabled, view_at}
use Rattle.core_events.specs.Counts.{strong, weak, adds_used}
use Rattle.core_events.specs.Shows.{shows, show_seat, filled}
use Rattle.core_events.specs.ShownSteps.{releases}
use Rattle.core_law.specs.Slots.{numbers}
use Rattle.core_law.specs.Sound.{Sound}
use Rattle.core_law.proofs.Kit.{by_test, entry_append, entry_none}
use Rattle.core_law.proofs.Bits.{bits_bound}
use Rattle.core_law.proofs.Held.{held_named}
use Rattle.core_law.proofs.InRange.{readable_in_range}
use Rattle.core_law.proofs.Parts.{value_is}
use Rattle.core_law.proofs.Put.{put, at_seat, adds_fit}
use Rattle.core_events.proofs.Below.plain_state_Ejections.{split_times}
use Rattle.core_law.proofs.Steady.{named_in_range}
use Rattle.core_law.proofs.Bridge.{shown_seat, shown_strong}
use Rattle.core_law.proofs.Does as does
use Rattle.core_law.proofs.Losing.{loses_without, valid_same, valid_loses, valid_gains}
use Rattle.core_law.proofs.Quiet.{same_plain, calm, fills_nothing, unfilled_if, past_beside, slot_beside, slot_quiet, weak_quiet, note_quiet, still_quiet}
use Rattle.core_law.proofs.Frames.{plain_eq}
use Rattle.core_law.proofs.Lawful.{shows_lawful}
use Rattle.core_law.proofs.Lists.{each_same}
use Rattle.core_law.proofs.Does.{ShowsRow}
use Rattle.core_law.proofs.ShownPlaces.{shown_readable, shown_word}

module _ (z : Shape) (c : Core) (n : ℕ) (so : Sound z c) (hn : n < z.seats) where
  abbrev v : CoreView
  v = view_at c n

  is : seat_at (shows z c) n ≡ show_seat (view_at c n)
  is = shown_seat z c n (at_seat z c n so hn)

  -- a seat that only goes on has its trail alone anew
  same : (u : CoreView) (p : ℕ) → u.phase ≡ v.phase → u.dying ≡ v.dying → u.made ≡ v.made
      → show_seat u ≡ show_seat v → shows z (put c n u p (slice_index c.words p)) ≡ shows z c
  same u p e f g seen = same_plain (shows z c) _ n (show_seat u)
      (still_quiet z c n u so hn p (calm v u e f g)) (seen ∙ sym is)

  -- the word of the seat's own note
  own_note : (j : ℕ) → note_at v.seat j ≡ note_at n j
  own_note j = ap (λ (m : ℕ). note_at m j) (so.seats n hn).number

  -- a note is written that isn't valid
  notes : (j : ℕ) (y : Note) (t : List Move) (p w : ℕ) → p ≡ note_at n j → j < 4
      → shows z (put c n (record v { notes = set v.notes j y; trail = t }) p w)
      ≡ with_seat (shows z c) n (record (show_seat v) { snapshots = valid_of (set v.notes j y) })
  notes j y t p w here hj = rw here (note_quiet z c n _ so hn j w hj (calm v _ refl refl refl))

  -- and none was: the seat shows the same snapshots
  unseen : (j : ℕ) (y : Note) → j < 4 → ((k : Kind) (s : SlotId) → y ≡ note.Valid k s → ⊥)
      → ((k : Kind) (s : SlotId) → note_of v j ≡ note.Valid k s → ⊥)
      → record (show_seat v) { snapshots = valid_of (set v.notes j y) } ≡ seat_at (shows z c) n
  unseen j y hj new old =
      let four = (so.seats n hn).four in
      ap (λ (es : List Entry). record (show_seat v) { snapshots = es })
      (valid_same v.notes j y (omega arith) new old) ∙ sym is

  pub announce_shows : (j : ℕ) (k : Kind) (s : SlotId) → Enabled z c n (act.Announce j k s)
      → ShowsRow z c n (act.Announce j k s)
  announce_shows j k s on =
      let idle = on.1.2 in (
        refl,
        same_plain (shows z c) _ n _
            (notes j (note.Announced k s) _ _ (code k s) (own_note j) on.1.1)
            (unseen j (note.Announced k s) on.1.1 (λ k' x e. absurd (cc (e)))
            (λ k' x e. absurd (cc (idle, e)))),
      )

  pub release_shows : (j : ℕ) → Enabled z c n (act.Release j) → ShowsRow z c n (act.Release j)
  release_shows j on = of (note_of v j) refl
    where
      of : (x : Note) → note_of v j ≡ x → Row (shows z c) n (releases x) 0
          (shows z (put c n (noted (act.Release j) outcome.Plain (with_note j note.Idle v))
          (note_at v.seat j) 0))
      of note.Idle e = absurd (on.1.2 e)
      of (note.Announced k s) e = (
        refl,
        same_plain (shows z c) _ n _ (notes j note.Idle _ _ 0 (own_note j) on.1.1)
            (unseen j note.Idle on.1.1 (λ k' x f. absurd (cc (f))) (λ k' x f. absurd (cc (e, f)))),
      )
      of (note.Valid k s) e =
          let four = (so.seats n hn).four in
          let small = on.1.1 in
          does.does_end_snapshot (shows z c) _ n (show_seat v) is k s
          (valid_of (set v.notes j note.Idle))
          (valid_loses v.notes j k s (omega arith) e) (notes j note.Idle _ _ 0 (own_note j) on.1.1)

  pub look_shows : (p : EventPlace) → Enabled z c n (act.Look p) → ShowsRow z c n (act.Look p)
  look_shows p on = (
    shown_readable z c n p so hn on.1.1,
    shown_word z c p (readable_in_range z n v (so.seats n hn) p on.1.1),
    same _ (place_at z p) refl refl refl refl,
  )

  pub see_shows : (s : SlotId) (i : ℕ) → Enabled z c n (act.See s i) → ShowsRow z c n (act.See s i)
  see_shows s i on =
      does.does_see (shows z c) _ n (show_seat v) is s i
      (⊎_elim (λ a. omega arith) (λ a. omega arith) on.1.1) on.1.2
      (same _ (payload_at z s i) refl refl refl refl)

  pub wcount_shows : (s : SlotId) → Enabled z c n (act.Wcount s) → ShowsRow z c n (act.Wcount s)
  wcount_shows s on =
      does.does_weak_count (shows z c) _ n (show_seat v) is s on.1.1
      (same _ (weak_at z s) refl refl refl refl)

  pub wadd_shows : (s : SlotId) → Enabled z c n (act.Wadd s) → ShowsRow z c n (act.Wadd s)
  wadd_shows s on =
      does.does_weak_gain (shows z c) _ n (show_seat v) is s on.1.2
      (weak_quiet z c n _ so hn s (plus_one (weak z c s))
      (named_in_range z n v s (so.seats n hn) (held_named s v on.1.2)) (calm v _ refl refl refl))

  pub wdrop_shows : (s : SlotId) → Enabled z c n (act.Wdrop s) → ShowsRow z c n (act.Wdrop s)
  wdrop_shows s on =
      let own = on.1.1 in
      let hs = named_in_range z n v s (so.seats n hn) (omega arith) in
      let was = ap filled on.1.0.0 in
      let none = unfilled_if (weak z c s == 1) (phase.Give s) phase.Idle refl refl in
      does.does_weak_drop (shows z c) _ n (show_seat v) is s (without s v.weaks)
      (loses_without s v.weaks on.1.1)
      (weak_quiet z c n _ so hn s (minus_one (weak z c s)) hs (fills_nothing v _ was none refl refl)
      ∙ ap (λ (f : Option SlotId). with_seat (shows z c) n
      (record (show_seat v) { weaks = without s v.weaks; filling = f })) (none ∙ sym was))

  -- the number of tickets is written, and shows no slot anything else
  pub ticket_shows : Enabled z c n act.Ticket → ShowsRow z c n act.Ticket
  ticket_shows on =
      does.does_ticket (shows z c) _ n (show_seat v) is (slice_index c.words (ticket_at z)) refl
      (plain_eq _ (shows z (put c n u (ticket_at z) (plus_one (slice_index c.words (ticket_at z)))))
      (map-set show_seat c.views n u)
      (each_same z.cells _ _ (λ i l. ap slot_in (off (cell_at z i) (omega arith))))
      (each_same z.weak_cells _ _ (λ i l. ap slot_in (off (weak_cell_at z i) (omega arith))))
      (each_same z.slots _ _ (λ x l.
      let s : SlotId = record { 0 = x } in
      let b = bits_bound z s l in
      slot_quiet z c n u so hn ws s (calm v u refl refl refl s)
      (slot_beside z c.words (ticket_at z) _ s (past_beside z (ticket_at z) s (omega arith) l)
      (omega arith) (omega arith))))
      (get_or-set_same c.words (ticket_at z) _ 0 there ∙ one_more))
    where
      u : CoreView
      u = moved z act.Ticket (slice_index c.words (ticket_at z)) v

      ws : List ℕ
      ws = set c.words (ticket_at z) (plus_one (slice_index c.words (ticket_at z)))

      off : (i : ℕ) → i ≢ ticket_at z → slice_index ws i ≡ slice_index c.words i
      off i ne = get_or-set_other c.words (ticket_at z) i
          (plus_one (slice_index c.words (ticket_at z))) 0 ne

      there : ticket_at z < length c.words
      there = let len = so.words in omega arith

      -- there are few tickets
      one_more : plus_one (slice_index c.words (ticket_at z)) ≡ slice_index c.words (ticket_at z) + 1
      one_more = let few = so.tickets.few in let fit = adds_fit z c so in omega arith

  -- a weak snapshot
  pub alive_shows : (j : ℕ) → Enabled z c n (act.Alive j) → ShowsRow z c n (act.Alive j)
  alive_shows j on =
      let s : SlotId = on.1.2.0 in
      let noted_as = on.1.2.1 in
      let held = on.1.2.2 in
      let hs = named_in_range z n v s (so.seats n hn) (held_named s v held) in
      let reads = value_is (adds_used c) (numbers z c s) (so.slots s hs) (adds_fit z c so)
      ∙ sym (shown_strong z c s) in
      let four = (so.seats n hn).four in
      let small = on.1.1 in
      by_test (nat_lt 0 (value (strong z c on.1.2.0)))
      (λ test.
      let pos : 0 < value (strong z c s) = grind (arith, nat_tests) in
      let some' : 0 < strong_refs (shows z c) s = subst (λ (m : ℕ). 0 < m) reads pos in
      rw (on.1.2.1, test) (does.does_alive (shows z c) _ n (show_seat v) is j s _
      (valid_of (set v.notes j (note.Valid Disposal s))) held reads pos
      ((shows_lawful z c so).strong s some').0
      (valid_gains v.notes j Disposal s (omega arith) (λ k x e. absurd (cc (noted_as, e))))
      (still_quiet z c n _ so hn (strong_at z s) (calm v _ refl refl refl))))
      (λ test.
      let none : value (strong z c s) ≡ 0 = grind (arith, nat_tests) in
      rw (on.1.2.1, test) (does.does_alive_none (shows z c) _ n (show_seat v) is j s _ held reads none
      (same _ (strong_at z s) refl refl refl refl)))

  pub scan_shows : Enabled z c n act.Scan → ShowsRow z c n act.Scan
  scan_shows on =
      let w : ℕ = slice_index c.words (1 + length v.seen) in
      let nothing : filled v.phase ≡ filled phase.Idle =
      ⊎_elim (λ e. ap filled e.0.0) (λ e. ap filled e) on.1 in
      let quiet = λ (u : CoreView) (e : filled u.phase ≡ None) (d : u.dying ≡ v.dying)
      (m : u.made ≡ v.made).
      still_quiet z c n u so hn (1 + length v.seen) (fills_nothing v u nothing e d m) in
      by_test (is_last z v)
      (λ test. rw test (does.does_split (shows z c) _ n (show_seat v) is
      (ejected v.retired (all_seen w v) ++ kept v.retired (all_seen w v)) (order w on.1)
      (quiet _ refl refl refl
      ∙ ap (λ (f : Option SlotId). with_seat (shows z c) n (record (show_seat v) {
        deferred = ejected v.retired (all_seen w v) ++ kept v.retired (all_seen w v);
        filling = f;
      })) (sym nothing))))
      (λ test. rw test (
        refl,
        same_plain (shows z c) _ n _ (quiet _ refl refl refl)
            (ap (λ (f : Option SlotId). record (show_seat v) { filling = f }) (sym nothing)
            ∙ sym is),
      ))
    where
      order : (w : ℕ) → May z act.Scan v → (k : Kind) (s : SlotId)
          → entry_times k s (ejected v.retired (all_seen w v) ++ kept v.retired (all_seen w v))
          ≡ entry_times k s (v.owed ++ v.retired)
      order w may k s =
          let owes = ⊎_elim (λ e. e.1) (λ e. (so.seats n hn).owes_nothing e) may in
          let a = entry_append k s (ejected v.retired (all_seen w v))
          (kept v.retired (all_seen w v)) in
          let b = entry_append k s v.owed v.retired in
          let e = ap (entry_times k s) owes in
          let m = entry_none k s in
          let t = split_times k s v.retired (all_seen w v) in omega arith
