-- Steps that leave notes, retired entries and scans as they are, and write no place: the counters'
-- steps.
use Rattle.std.proofs.Common.{◌≡◌, ◌⊎◌, inl, ⊎_elim, ℕ, ◌+◌, ◌*◌, ◌^◌, ◌<◌, ◌≤◌, true, false, List, [], length, get_or, set, refl, ap, sym, ◌∙◌, arith}
use Rattle.std.specs.Prelude.{slice_index}
use Rattle.std.proofs.lemmas.List.{get_or-set_other}
use Rattle.std.proofs.lemmas.Bool.{cases_lt}
use Rattle.core_events.specs.plain_state.declared.slot.Kind.{Kind}
use Rattle.core_events.specs.plain_state.declared.slot.Kind.TheVariants.{Strong, Weak, Disposal}
use Rattle.core_events.specs.plain_state.declared.slot.SlotId.{SlotId}
use Rattle.core_events.specs.declared.shape.Shape.{Shape}
use Rattle.core_events.specs.declared.view.CoreView.{CoreView}
use Rattle.core_events.specs.declared.view.Note.{Note}
use Rattle.core_events.specs.declared.view.Note.TheVariants as note
use Rattle.core_events.specs.declared.view.Phase.TheVariants as phase
use Rattle.core_events.specs.plain_state.Lists.{times}
use Rattle.core_events.specs.Words.{note_at, bits_at, bit_in, bitmaps, ticket_at}
use Rattle.core_events.specs.Views.{no_view, note_of, allowed_makes}
use Rattle.core_events.specs.Runs.{Core, view_at}
use Rattle.core_events.specs.Counts.{naming, listed, adds_used, guarding, in_note}
use Rattle.core_events.specs.Good.{SeatLaw, TicketLaw, word_of_note}
use Rattle.core_law.specs.Slots.{numbers, SlotLaw}
use Rattle.core_law.specs.Sound.{Sound, covering}
use Rattle.core_law.proofs.Writes.{OffPlaces, OffNotes, OffBits, places_off}
use Rattle.core_law.proofs.Kit.{one_same, noting_at}
use Rattle.core_law.proofs.Bits.{bits_off, ticket_off}
use Rattle.core_law.proofs.Guards.{guards_all}
use Rattle.core_law.proofs.Put.{put, put_sound, announced_put, guarded_put, unripe_put, tickets_put, fit_put, ripe_times, at_seat}

-- a slot that a seat names is there
pub named_in_range : (z : Shape) (n : ℕ) (v : CoreView) (s : SlotId) → SeatLaw z n v
    → 0 < naming s v → s.0 < z.slots
named_in_range z n v s law h = ⊎_elim
    (λ lt. lt)
    (λ le. let e = law.range s le in absurd (omega arith))
    (cases_lt s.0 z.slots)

-- and so is one that is under a valid note
pub noted_in_range : (z : Shape) (n : ℕ) (v : CoreView) (j : ℕ) (k : Kind) (s : SlotId) → SeatLaw z n v
    → j < 4 → note_of v j ≡ note.Valid k s → s.0 < z.slots
noted_in_range z n v j k s law hj valid =
    let four = law.four in
    let at = noting_at s v.notes j (omega arith) in
    let is : in_note s (note_of v j) ≡ in_note s (note.Valid k s) = ap (in_note s) valid in
    let o = one_same s s refl in
    named_in_range z n v s law (omega arith)

-- a seat that isn't scanning has seen nothing
pub nothing_seen : (z : Shape) (n : ℕ) (v : CoreView) → SeatLaw z n v → (v.phase ≡ phase.Scan → ⊥)
    → v.seen ≡ []
nothing_seen z n v law ne = ⊎_elim (λ e. e) (λ e. absurd (ne e)) law.scans

-- a seat that is in the middle of something hasn't left
pub not_left : (z : Shape) (n : ℕ) (v : CoreView) → SeatLaw z n v → (v.phase ≡ phase.Idle → ⊥)
    → v.left ≡ true → ⊥
not_left z n v law busy left = busy (law.gone left).0

-- what a step on a counter leaves of a view
pub record SameRest (v u : CoreView) : Type 0 where
  pub seat : u.seat ≡ v.seat
  pub shape : u.shape ≡ v.shape
  pub quota : u.quota ≡ v.quota
  pub grants : u.grants ≡ v.grants
  pub tickets : u.tickets ≡ v.tickets
  pub left_seats : u.left_seats ≡ v.left_seats
  pub notes : u.notes ≡ v.notes
  pub retired : u.retired ≡ v.retired
  pub seen : u.seen ≡ v.seen
  pub room : u.room ≡ v.room
  pub left : u.left ≡ v.left

-- what holds of the seat by itself
pub steady_seat : (z : Shape) (n : ℕ) (v u : CoreView) → SeatLaw z n v → SameRest v u
    → (v.phase ≡ phase.Scan → ⊥) → (u.phase ≡ phase.Scan → ⊥) → (v.left ≡ true → ⊥)
    → u.adds ≤ v.quota.adds → (v.left ≡ false → u.makes ≤ allowed_makes v)
    → ((s : SlotId) → (u.phase ≡ phase.Bare s) ⊎ (u.phase ≡ phase.Blank s) → u.adds < v.quota.adds)
    → ((s : SlotId) → times s u.ripe ≤ times s u.dying)
    → ((s : SlotId) → listed Disposal s u ≡ 0)
    → ((s : SlotId) → z.slots ≤ s.0 → naming s u ≡ 0) → SeatLaw z n u
steady_seat z n v u law same ne ne' stays adds' makes' starts ripe' kinds' range' = record {
  number = same.seat ∙ law.number;
  same_shape = same.shape ∙ law.same_shape;
  quota = rw same.quota law.quota;
  adds = rw same.quota adds';
  makes = λ l. rw (same.quota, same.grants, same.tickets) (makes' (sym same.left ∙ l));
  can_start = λ s e. rw same.quota (starts s e);
  four = rw same.notes law.four;
  scans = inl (same.seen ∙ nothing_seen z n v law ne);
  reads = rw same.seen law.reads;
  owes_nothing = λ e. absurd (ne' e);
  ripe = ripe';
  kinds = kinds';
  range = range';
  gone = λ e. absurd (stays (sym same.left ∙ e));
}

-- what keeps weak snapshots guarded: of a slot that is ripe for nobody, this seat's guard and the strong word's flags
-- together go on to guard it
abbrev pub KeepsLive : Shape → Core → List ℕ → CoreView → CoreView → Type 0
KeepsLive z c ws v u =
    (a : ℕ) (x : SlotId) → x.0 < z.slots → ripe_times c x ≡ 0
    → (0 < guarding a Disposal x v → 0 < covering Disposal z ws x + guarding a Disposal x u)
    × (0 < covering Disposal z c.words x → 0 < covering Disposal z ws x + guarding a Disposal x u)

-- a word of no place and no announcement, with which the bits past the last slot stay
pub record OffRest (z : Shape) (ws : List ℕ) (p w : ℕ) : Type 0 where
  pub places : OffPlaces z p
  pub notes : OffNotes z p
  pub fits : w < 2 ^ 64
  pub spare :
      (x : SlotId) → z.slots ≤ x.0 → x.0 < 64 * bitmaps z
      → bit_in x (slice_index (set ws p w) (bits_at z x)) ≡ bit_in x (slice_index ws (bits_at z x))

-- a word before the bits
pub off_rest : (z : Shape) (ws : List ℕ) (p w : ℕ) → OffPlaces z p × OffNotes z p → OffBits z p
    → w < 2 ^ 64 → OffRest z ws p w
off_rest z ws p w off before fits = record {
  places = off.0;
  notes = off.1;
  fits = fits;
  spare = λ x a b. bits_off z ws p w x before;
}

-- what a step leaves of a view's notes, retired entries and scan
pub record SameNotes (v u : CoreView) : Type 0 where
  pub notes : u.notes ≡ v.notes
  pub retired : u.retired ≡ v.retired
  pub seen : u.seen ≡ v.seen
  pub room : u.room ≡ v.room
  pub left : u.left ≡ v.left

-- it is enough to show the laws of all slots, of the seat and of the tickets, and that what lives is guarded
pub steady_put : (z : Shape) (c : Core) (n : ℕ) (u : CoreView) (p w : ℕ) → Sound z c → n < z.seats
    → OffRest z c.words p w → SeatLaw z n u
    → ((x : SlotId) → x.0 < z.slots → SlotLaw (adds_used (put c n u p w))
    (numbers z (put c n u p w) x))
    → SameNotes (view_at c n) u → TicketLaw z (put c n u p w)
    → ((x : SlotId) → times x u.ripe ≤ times x (view_at c n).ripe)
    → KeepsLive z c (set c.words p w) (view_at c n) u
    → length u.owed ≤ length (view_at c n).owed → Sound z (put c n u p w)
steady_put z c n u p w so hn off law slots same tickets ripe' live owed' =
    let h = at_seat z c n so hn in
    put_sound z c n u p w so hn
    (record {
      law = law;
      slots = slots;
      announced = announced_put z c n u (set c.words p w) so hn
          (λ m j hm ne hj. get_or-set_other c.words p (note_at m j) w 0 (off.notes m j hm hj))
          (λ j hj. get_or-set_other c.words p (note_at n j) w 0 (off.notes n j hn hj)
          ∙ (so.announced n j h hj
          ∙ ap (λ (ns : List Note). word_of_note (get_or ns j note.Idle)) (sym same.notes)));
      guarded = guarded_put z c n u (set c.words p w) so hn
          (λ j k s hj valid. inl (same_note j k s valid))
          (λ m j k s hm hj valid is. stays m j k s hm hj valid);
      unripe = unripe_put z c n u (set c.words p w) so hn
          (λ j s hj valid. inl (same_note j Disposal s valid))
          (λ m j s hm hj valid. ripe' s);
      range = λ k s le. places_off z c.words p w off.places k s ∙ so.range k s le;
      tickets = tickets;
      fit = fit_put z c n u p w so off.fits off.spare;
    })
    same.room same.left
    (fits (ap length same.retired))
  where
    same_note : (j : ℕ) (k : Kind) (s : SlotId) → note_of u j ≡ note.Valid k s
        → note_of (view_at c n) j ≡ note.Valid k s
    same_note j k s valid = ap (λ (ns : List Note). get_or ns j note.Idle) (sym same.notes) ∙ valid

    stays : (m j : ℕ) (k : Kind) (s : SlotId) → m < z.seats → j < 4
        → note_of (view_at c m) j ≡ note.Valid k s
        → (0 < guarding (4 * m + j) k s (view_at c n)
        → 0 < covering k z (set c.words p w) s + guarding (4 * m + j) k s u)
        × (0 < covering k z c.words s
        → 0 < covering k z (set c.words p w) s + guarding (4 * m + j) k s u)
    stays m j Strong s hm hj valid =
        let q = places_off z c.words p w off.places Strong s in
        let g : guarding (4 * m + j) Strong s u ≡ guarding (4 * m + j) Strong s (view_at c n) =
        rw (same.retired, same.seen) refl in
        ((λ pos. omega arith), (λ pos. omega arith))
    stays m j Weak s hm hj valid =
        let q = places_off z c.words p w off.places Weak s in
        let g : guarding (4 * m + j) Weak s u ≡ guarding (4 * m + j) Weak s (view_at c n) =
        rw (same.retired, same.seen) refl in
        ((λ pos. omega arith), (λ pos. omega arith))
    stays m j Disposal s hm hj valid =
        live (4 * m + j) s (noted_in_range z m (view_at c m) j Disposal s (so.seats m hm) hj valid)
        (so.unripe m j s (at_seat z c m so hm) hj valid)

    fits : length u.retired ≡ length (view_at c n).retired → length u.retired
        + length u.owed ≤ u.room
    fits l =
        let f = so.room.each n no_view (at_seat z c n so hn) in
        let r = same.room in omega arith

-- and the tickets stay where their word isn't written
pub steady_sound : (z : Shape) (c : Core) (n : ℕ) (u : CoreView) (p w : ℕ) → Sound z c → n < z.seats
    → OffRest z c.words p w → p < ticket_at z → SeatLaw z n u
    → ((x : SlotId) → x.0 < z.slots → SlotLaw (adds_used (put c n u p w))
    (numbers z (put c n u p w) x))
    → SameRest (view_at c n) u → (view_at c n).adds ≤ u.adds
    → ((x : SlotId) → times x u.ripe ≤ times x (view_at c n).ripe)
    → KeepsLive z c (set c.words p w) (view_at c n) u
    → length u.owed ≤ length (view_at c n).owed → Sound z (put c n u p w)
steady_sound z c n u p w so hn off before law slots same more =
    steady_put z c n u p w so hn off law slots
    (record {
      notes = same.notes;
      retired = same.retired;
      seen = same.seen;
      room = same.room;
      left = same.left;
    })
    (tickets_put z c n u (set c.words p w) so hn same.tickets same.left_seats more
    (ticket_off z c.words p w before))

-- a seat that isn't scanning guards every slot in its dying list
pub guards_dying : (z : Shape) (n : ℕ) (v : CoreView) → SeatLaw z n v → (v.phase ≡ phase.Scan → ⊥)
    → (a : ℕ) (x : SlotId) → guarding a Disposal x v ≡ times x v.dying
guards_dying z n v law ne a x = guards_all a Disposal x v (nothing_seen z n v law ne)

-- where no strong word loses its object and no slot leaves the dying list, what lives is guarded
pub keeps_live : (z : Shape) (c : Core) (n : ℕ) (ws : List ℕ) (u : CoreView) → SeatLaw z n (view_at c n)
    → SameRest (view_at c n) u → ((view_at c n).phase ≡ phase.Scan → ⊥)
    → ((x : SlotId) → ripe_times c x ≡ 0 → times x (view_at c n).dying ≤ times x u.dying)
    → ((x : SlotId) → x.0 < z.slots
    → covering Disposal z c.words x ≤ covering Disposal z ws x + times x u.dying)
    → KeepsLive z c ws (view_at c n) u
keeps_live z c n ws u law same ne dies lives a x hx unripe =
    let g = guards_dying z n (view_at c n) law ne a x in
    let g' = guards_all a Disposal x u (same.seen ∙ nothing_seen z n (view_at c n) law ne) in
    let d = dies x unripe in
    let l = lives x hx in ((λ pos. omega arith), (λ pos. omega arith))
