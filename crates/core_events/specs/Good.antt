-- What holds of every state that events reach, part by part.
use Rattle.std.specs.Prelude.{ℕ, ◌≡◌, ◌≢◌, ◌⊎◌, ◌+◌, ◌*◌, ◌^◌, ◌<◌, ◌≤◌, true, false, [], length, slice_index, nat_lt, if◌then◌else◌, All}
use Rattle.announce_slots.specs.plain_state.declared.slot.Kind.{Kind}
use Rattle.announce_slots.specs.plain_state.declared.slot.Kind.TheVariants.{Strong, Weak, Disposal}
use Rattle.announce_slots.specs.plain_state.declared.slot.SlotId.{SlotId}
use Rattle.announce_slots.specs.plain_state.declared.slot.Stage.TheVariants.{Blank, Live, Ended}
use Rattle.announce_slots.specs.plain_state.Lists.{times}
use Rattle.announce_slots.specs.plain_state.References.{own_reference}
use Rattle.core_events.specs.declared.shape.Shape.{Shape}
use Rattle.core_events.specs.declared.view.CoreView.{CoreView}
use Rattle.core_events.specs.declared.view.Note.{Note}
use Rattle.core_events.specs.declared.view.Note.TheVariants as note
use Rattle.core_events.specs.declared.view.Phase.TheVariants as phase
use Rattle.core_events.specs.Words.{note_at, bitmaps, word_count}
use Rattle.announce_slots.specs.Words.{code}
use Rattle.announce_slots.specs.counter_word.Words.{ZERO, has_help, low, value}
use Rattle.core_events.specs.Views.{note_of, room_of, allowed_makes}
use Rattle.core_events.specs.Runs.{Core, view_at, HasNullFields, IsQuota}
use Rattle.core_events.specs.Counts.{total, listed, naming, refs, places, finishers, helpers, barers, fillers, givers, dying_times, adds_used, strong, weak, free_bit, tickets_drawn, ticket_times, stage, guarding}

-- the strong word counts the strong references, and the weak word counts the weak ones and the
-- slot's own, which a slot that is claimed bare doesn't have yet
pub record CountLaw (z : Shape) (c : Core) (s : SlotId) : Type 0 where
  pub strong_count : value (strong z c s) ≡ refs Strong z c s
  pub help : has_help (strong z c s) ≡ true → ZERO ≤ strong z c s
  pub weak_count :
      (weak z c s ≡ refs Weak z c s + own_reference (stage z c s))
      ⊎ ((weak z c s ≡ 0) × (0 < barers c s) × (refs Weak z c s ≡ 0) × (stage z c s ≡ Blank))

-- a strong count that came to 0 has somebody who is to end the object, a help flag has somebody who
-- is to take it, and a slot that isn't free and has weak count 0 somebody who is to arm it or to give it back
pub record PendingEnd (z : Shape) (c : Core) (s : SlotId) : Type 0 where
  pub ends : strong z c s ≡ 0 → 0 < finishers c s
  pub helps : has_help (strong z c s) ≡ true → 0 < finishers c s + helpers c s
  pub gives : weak z c s ≡ 0 → 0 < free_bit z c s + barers c s + givers c s

-- the zero flag stands, and not the help flag
abbrev pub IsOver : ℕ → Type 0
IsOver w = (ZERO ≤ w) × (has_help w ≡ false)

-- how many seats have the slot from its claim to its start, or are to give it back
abbrev pub keepers : Core → SlotId → ℕ
keepers c s = barers c s + fillers c s + givers c s

-- one seat ends a slot, one fills it or gives it back
pub record OneEnder (z : Shape) (c : Core) (s : SlotId) : Type 0 where
  pub once : dying_times c s ≤ 1
  pub dying :
      0 < dying_times c s
      → IsOver (strong z c s) × (free_bit z c s ≡ 0) × (barers c s + fillers c s ≡ 0)
  pub one_keeper : keepers c s ≤ 1
  pub kept : 0 < keepers c s → IsOver (strong z c s) × (free_bit z c s ≡ 0)
  pub blank : 0 < fillers c s → weak z c s ≡ 1
  pub bare : 0 < barers c s + givers c s → weak z c s ≡ 0
  pub bit : free_bit z c s ≤ 1
  pub free : free_bit z c s ≡ 1 → IsOver (strong z c s) × (weak z c s ≡ 0)
  pub nulls : stage z c s ≢ Live → stage z c s ≢ Ended → HasNullFields z c.words s

-- the count of each word is at most the adds that all seats have used
pub record CountBounds (z : Shape) (c : Core) (s : SlotId) : Type 0 where
  pub strong_most : low (strong z c s) ≤ adds_used c
  pub weak_most : (weak z c s ≤ adds_used c) ⊎ ((0 < fillers c s) × (weak z c s ≡ 1))

-- the tickets of all seats are the numbers below the ticket word, each once, and each cost an add
pub record TicketLaw (z : Shape) (c : Core) : Type 0 where
  pub each :
      (t : ℕ) → total (ticket_times t) c.views ≡ (if nat_lt t (tickets_drawn z c) then 1 else 0)
  pub few : tickets_drawn z c ≤ adds_used c

-- words are words, and the bits past the last slot are clear
pub record WordsFit (z : Shape) (c : Core) : Type 0 where
  pub fit : (i : ℕ) → slice_index c.words i < 2 ^ 64
  pub spare : (s : SlotId) → z.slots ≤ s.0 → s.0 < 64 * bitmaps z → free_bit z c s ≡ 0

-- the announcement word of a note
abbrev pub word_of_note : Note → ℕ
word_of_note note.Idle = 0
word_of_note (note.Announced k s) = code k s
word_of_note (note.Valid k s) = code k s

-- a note stands in its word
abbrev pub AreAnnounced : Core → Type 0
AreAnnounced c =
    (n j : ℕ) → n < length c.views → j < 4
    → slice_index c.words (note_at n j) ≡ word_of_note (note_of (view_at c n) j)

-- what is under a valid note of kind Strong or Weak is held by a place of its kind, or by a retired entry that no scan
-- has passed by
abbrev pub AreProtected : Shape → Core → Type 0
AreProtected z c =
    (n j : ℕ) (k : Kind) (s : SlotId) → k ≢ Disposal → n < length c.views → j < 4
    → note_of (view_at c n) j ≡ note.Valid k s
    → 0 < places k z c.words s + total (guarding (4 * n + j) k s) c.views

-- what is under a weak snapshot lives, or waits to be destroyed in a list whose seat's scan hasn't passed by the note,
-- and is ripe for nobody
pub record AreUndisposed (z : Shape) (c : Core) : Type 0 where
  pub stands :
      (n j : ℕ) (s : SlotId) → n < length c.views → j < 4
      → note_of (view_at c n) j ≡ note.Valid Disposal s
      → (stage z c s ≡ Live) ⊎ (0 < total (guarding (4 * n + j) Disposal s) c.views)
  pub unripe :
      (n j : ℕ) (s : SlotId) → n < length c.views → j < 4
      → note_of (view_at c n) j ≡ note.Valid Disposal s
      → total (λ v. times s v.ripe) c.views ≡ 0

-- the room of a seat that hasn't left
abbrev pub staying_room : CoreView → ℕ
staying_room v = if v.left then 0 else v.room

-- no seat has more to give up than it has room for, and a leave moves a seat's room to seat 0
pub record Room (z : Shape) (c : Core) : Type 0 where
  pub each : All (λ (v : CoreView). length v.retired + length v.owed ≤ v.room) c.views
  pub others : (n : ℕ) → 0 < n → n < length c.views → (view_at c n).room ≡ room_of z
  pub sum : total staying_room c.views ≡ z.seats * room_of z

-- what holds of each seat by itself: its numbers, its scan, that every slot that it names is there,
-- and that one that has left has nothing
pub record SeatLaw (z : Shape) (n : ℕ) (v : CoreView) : Type 0 where
  pub number : v.seat ≡ n
  pub same_shape : v.shape ≡ z
  pub quota : IsQuota v.quota
  pub adds : v.adds ≤ v.quota.adds
  pub makes : v.left ≡ false → v.makes ≤ allowed_makes v
  pub can_start :
      (s : SlotId) → (v.phase ≡ phase.Bare s) ⊎ (v.phase ≡ phase.Blank s) → v.adds < v.quota.adds
  pub four : length v.notes ≡ 4
  pub scans : (v.seen ≡ []) ⊎ (v.phase ≡ phase.Scan)
  pub reads : length v.seen < 4 * z.seats
  pub owes_nothing : v.phase ≡ phase.Scan → v.owed ≡ []
  pub ripe : (s : SlotId) → times s v.ripe ≤ times s v.dying
  -- no decrement of the kind Disposal is deferred
  pub kinds : (s : SlotId) → listed Disposal s v ≡ 0
  pub range : (s : SlotId) → z.slots ≤ s.0 → naming s v ≡ 0
  pub gone :
      v.left ≡ true
      → (v.phase ≡ phase.Idle) × (v.owned ≡ []) × (v.weaks ≡ []) × (v.retired ≡ []) × (v.owed ≡ [])
      × (v.dying ≡ []) × ((j : ℕ) → note_of v j ≡ note.Idle)

-- every place holds null or a slot that is there
abbrev pub ArePlacesInRange : Shape → Core → Type 0
ArePlacesInRange z c = (k : Kind) (s : SlotId) → z.slots ≤ s.0 → places k z c.words s ≡ 0

pub record Good (z : Shape) (c : Core) : Type 0 where
  pub words : length c.words ≡ word_count z
  pub views : length c.views ≡ z.seats
  pub seats : (n : ℕ) → n < z.seats → SeatLaw z n (view_at c n)
  pub counts : (s : SlotId) → s.0 < z.slots → CountLaw z c s
  pub pending : (s : SlotId) → s.0 < z.slots → PendingEnd z c s
  pub enders : (s : SlotId) → s.0 < z.slots → OneEnder z c s
  pub bounds : (s : SlotId) → s.0 < z.slots → CountBounds z c s
  pub announced : AreAnnounced c
  pub protected : AreProtected z c
  pub undisposed : AreUndisposed z c
  pub tickets : TicketLaw z c
  pub fit : WordsFit z c
  pub room : Room z c
  pub range : ArePlacesInRange z c
