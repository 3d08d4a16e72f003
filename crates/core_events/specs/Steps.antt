-- The table of events: for each act the word that it works on, what becomes of that word, when a
-- seat may do it, what it answers, and what the seat has afterwards. w is the word found.
use Rattle.std.specs.Prelude.{ℕ, ◌≡◌, ◌≢◌, ◌⊎◌, ◌+◌, ◌-◌, ◌%◌, ◌^◌, ◌<◌, ◌==◌, nat_lt, bit_and, Bool, false, List, [], ◌∷◌, ◌++◌, length, slice_set, Option, Some, None, if◌then◌else◌}
use prog.Atomic.{either}
use Rattle.announce_slots.specs.plain_state.declared.slot.Kind.{Kind}
use Rattle.announce_slots.specs.plain_state.declared.slot.Kind.TheVariants.{Strong, Weak, Disposal}
use Rattle.announce_slots.specs.plain_state.declared.slot.SlotId.{SlotId}
use Rattle.announce_slots.specs.plain_state.Lists.{Entry, times}
use Rattle.announce_slots.specs.plain_state.Places.{place_kind}
use Rattle.announce_slots.specs.plain_state.Steps.{word_of, joined}
use Rattle.core_events.specs.declared.act.Act.{Act}
use Rattle.core_events.specs.declared.act.Act.TheVariants as act
use Rattle.core_events.specs.declared.outcome.Outcome.{Outcome}
use Rattle.core_events.specs.declared.outcome.Outcome.TheVariants as outcome
use Rattle.core_events.specs.declared.shape.Shape.{Shape}
use Rattle.core_events.specs.declared.view.CoreView.{CoreView}
use Rattle.core_events.specs.declared.view.Note.{Note}
use Rattle.core_events.specs.declared.view.Note.TheVariants as note
use Rattle.core_events.specs.declared.view.Phase.{Phase}
use Rattle.core_events.specs.declared.view.Phase.TheVariants as phase
use Rattle.core_events.specs.Words.{note_at, strong_at, weak_at, payload_at, place_at, bits_at, bit_alone, bit_in, ticket_at, announcements, slot_in}
use Rattle.announce_slots.specs.Words.{code}
use Rattle.announce_slots.specs.counter_word.Words.{ZERO, HELP, has_help, value}
use Rattle.announce_slots.specs.plain_state.Ejection.{Announcements, kept, ejected, ripened}
use Rattle.announce_slots.specs.Seen.{announced_in}
use Rattle.core_events.specs.Views.{note_of, slot_of, slot_noted, of_slot, about, alone, without, Holds, IsOpen, IsReadable, IsRipeField, allowed_makes}

-- the counter word of a reference. No reference is of the kind Disposal
abbrev pub counter_at : Shape → Kind → SlotId → ℕ
counter_at z Strong s = strong_at z s
counter_at z Weak s = weak_at z s
counter_at z Disposal s = 0

-- the counter word of the first entry that is owed
abbrev pub owed_at : Shape → List Entry → ℕ
owed_at z [] = 0
owed_at z (e ∷ es) = counter_at z e.0 e.1

-- which word
abbrev pub place : Shape → Act → CoreView → ℕ
place z (act.Add s) v = strong_at z s
place z (act.Drop s) v = strong_at z s
place z act.Pay v = owed_at z v.owed
place z act.Finish v = of_slot (strong_at z) (slot_of v.phase)
place z act.Take v = of_slot (strong_at z) (slot_of v.phase)
place z (act.Count s) v = strong_at z s
place z act.Mark v = of_slot (strong_at z) (slot_of v.phase)
place z (act.Announce j k s) v = note_at v.seat j
place z (act.Release j) v = note_at v.seat j
place z (act.Look p) v = place_at z p
place z (act.Check j p) v = place_at z p
place z (act.Alive j) v = of_slot (strong_at z) (slot_noted (note_of v j))
place z act.Scan v = 1 + length v.seen
place z (act.Swap p new) v = place_at z p
place z (act.Cas p old new) v = place_at z p
place z (act.Claim s) v = bits_at z s
place z act.Arm v = of_slot (weak_at z) (slot_of v.phase)
place z (act.Fill i x) v = of_slot (λ s. payload_at z s i) (slot_of v.phase)
place z act.Start v = of_slot (strong_at z) (slot_of v.phase)
place z (act.See s i) v = payload_at z s i
place z act.Free v = of_slot (bits_at z) (slot_of v.phase)
place z act.Ticket v = ticket_at z
place z (act.Wadd s) v = weak_at z s
place z (act.Wdrop s) v = weak_at z s
place z (act.Destroy s) v = weak_at z s
place z (act.Wcount s) v = weak_at z s
place z (act.Leave j) v = 0

-- fetch_add 1 and fetch_sub 1
abbrev pub plus_one : ℕ → ℕ
plus_one w = (w + 1) % 2 ^ 64

abbrev pub minus_one : ℕ → ℕ
minus_one w = (w + (2 ^ 64 - 1)) % 2 ^ 64

-- what becomes of the word
abbrev pub next : Act → CoreView → ℕ → ℕ
next (act.Add s) v w = plus_one w
next (act.Drop s) v w = minus_one w
next act.Pay v w = minus_one w
next act.Finish v w = either (w == 0) ZERO w
next act.Take v w = bit_and w (2 ^ 64 - 1 - HELP)
next (act.Count s) v w = w
next act.Mark v w = either (w == 0) (ZERO + HELP) w
next (act.Announce j k s) v w = code k s
next (act.Release j) v w = 0
next (act.Look p) v w = w
next (act.Check j p) v w = w
next (act.Alive j) v w = w
next act.Scan v w = w
next (act.Swap p new) v w = word_of new
next (act.Cas p old new) v w = either (w == word_of old) (word_of new) w
next (act.Claim s) v w = bit_and w (2 ^ 64 - 1 - bit_alone s)
next act.Arm v w = 1
next (act.Fill i x) v w = x
next act.Start v w = 1
next (act.See s i) v w = w
next act.Free v w = (w + of_slot bit_alone (slot_of v.phase)) % 2 ^ 64
next act.Ticket v w = plus_one w
next (act.Wadd s) v w = plus_one w
next (act.Wdrop s) v w = minus_one w
next (act.Destroy s) v w = minus_one w
next (act.Wcount s) v w = w
next (act.Leave j) v w = w

-- the seat is there, and in the middle of nothing
abbrev pub IsIdle : CoreView → Type 0
IsIdle v = (v.phase ≡ phase.Idle) × (v.left ≡ false)

abbrev pub HasAdd : CoreView → Type 0
HasAdd v = v.adds < v.quota.adds

abbrev pub HasMake : CoreView → Type 0
HasMake v = v.makes < allowed_makes v

abbrev pub HasRoom : CoreView → Type 0
HasRoom v = length v.retired + length v.owed < v.room

-- a new content of a place of kind k: null, or a reference that the seat has to give
abbrev pub CanGive : Kind → Option SlotId → CoreView → Type 0
CanGive k None v = Unit {0}
CanGive Strong (Some s) v = 0 < times s v.owned
CanGive Weak (Some s) v = 0 < times s v.weaks
CanGive Disposal (Some s) v = ⊥

-- null, or a slot of the domain
abbrev pub IsContent : Shape → Option SlotId → Type 0
IsContent z None = Unit {0}
IsContent z (Some s) = s.0 < z.slots

-- the seat has nothing that only itself could give up
abbrev pub CanLeave : CoreView → Type 0
CanLeave v = IsIdle v × (v.owed ≡ []) × ((j : ℕ) → note_of v j ≡ note.Idle)

-- when a seat may do it, as far as its own view tells
abbrev pub May : Shape → Act → CoreView → Type 0
May z (act.Add s) v = IsIdle v × HasAdd v × Holds v s
May z (act.Drop s) v = IsIdle v × (0 < times s v.owned)
May z act.Pay v = IsIdle v × (v.owed ≢ [])
May z act.Finish v = (s : SlotId) × (v.phase ≡ phase.Finish s)
May z act.Take v = (s : SlotId) × (v.phase ≡ phase.Help s)
May z (act.Count s) v = IsIdle v × Holds v s
May z act.Mark v = (s : SlotId) × (v.phase ≡ phase.Zero s)
May z (act.Announce j k s) v = IsIdle v × (j < 4) × (note_of v j ≡ note.Idle) × (s.0 < z.slots)
May z (act.Release j) v = IsIdle v × (j < 4) × (note_of v j ≢ note.Idle)
May z (act.Look p) v = IsIdle v × IsReadable z v p
May z (act.Check j p) v =
    IsIdle v × (j < 4) × ((s : SlotId) × (note_of v j ≡ note.Announced (place_kind p) s))
    × IsReadable z v p
May z (act.Alive j) v =
    IsIdle v × (j < 4) × ((s : SlotId) × (note_of v j ≡ note.Announced Disposal s) × Holds v s)
May z act.Scan v = (IsIdle v × (v.owed ≡ [])) ⊎ (v.phase ≡ phase.Scan)
May z (act.Swap p new) v =
    IsIdle v × HasRoom v
    × ((IsOpen z v p × CanGive (place_kind p) new v) ⊎ (IsRipeField v p × (new ≡ None)))
May z (act.Cas p old new) v =
    IsIdle v × HasRoom v × IsOpen z v p × CanGive (place_kind p) new v × IsContent z old
May z (act.Claim s) v = IsIdle v × (s.0 < z.slots) × HasMake v × HasAdd v
May z act.Arm v = (s : SlotId) × (v.phase ≡ phase.Bare s)
May z (act.Fill i x) v = ((s : SlotId) × (v.phase ≡ phase.Blank s)) × (i < 16) × (x < 2 ^ 64)
May z act.Start v = (s : SlotId) × (v.phase ≡ phase.Blank s)
May z (act.See s i) v = IsIdle v × (Holds v s ⊎ (0 < times s v.dying)) × (i < 16)
May z act.Free v = (s : SlotId) × (v.phase ≡ phase.Give s)
May z act.Ticket v = IsIdle v × HasAdd v
May z (act.Wadd s) v = IsIdle v × HasAdd v × Holds v s
May z (act.Wdrop s) v = IsIdle v × (0 < times s v.weaks)
May z (act.Destroy s) v = IsIdle v × (0 < times s v.ripe)
May z (act.Wcount s) v = IsIdle v × Holds v s
May z (act.Leave j) v = (v.seat ≡ 0) × (j ≢ 0) × (j < z.seats) × CanLeave v

-- the answer of a decrement of a counter word
abbrev pub decremented : Kind → ℕ → Outcome
decremented Strong w = if w == 1 then outcome.Zeroed else outcome.Left
decremented Weak w = if w == 1 then outcome.Last else outcome.Left
decremented Disposal w = outcome.Left

abbrev pub paid_outcome : ℕ → List Entry → Outcome
paid_outcome w [] = outcome.Left
paid_outcome w (e ∷ es) = decremented e.0 w

-- a check is valid where the place holds the slot that the note announces
abbrev pub is_valid : ℕ → Note → Bool
is_valid w note.Idle = false
is_valid w (note.Announced k s) = w == s.0 + 1
is_valid w (note.Valid k s) = false

-- what the words of a whole scan announce, of which w is the last
abbrev pub all_seen : ℕ → CoreView → Announcements
all_seen w v = announced_in (v.seen ++ w ∷ [])

abbrev pub is_last : Shape → CoreView → Bool
is_last z v = length v.seen + 1 == announcements z

-- what the event answers
abbrev pub answer : Shape → Act → ℕ → CoreView → Outcome
answer z (act.Add s) w v = if nat_lt w ZERO then outcome.Up else outcome.Dead
answer z (act.Drop s) w v = decremented Strong w
answer z act.Pay w v = paid_outcome w v.owed
answer z act.Finish w v =
    if w == 0 then outcome.Ended else if has_help w then outcome.Help else outcome.Lost
answer z act.Take w v = if has_help w then outcome.Ended else outcome.NoHelp
answer z (act.Count s) w v = if w == 0 then outcome.Again else outcome.Number (value w)
answer z act.Mark w v = outcome.Number (value w)
answer z (act.Announce j k s) w v = outcome.Plain
answer z (act.Release j) w v = outcome.Plain
answer z (act.Look p) w v = outcome.Found (slot_in w)
answer z (act.Check j p) w v =
    if is_valid w (note_of v j) then outcome.Valid else outcome.Moved (slot_in w)
answer z (act.Alive j) w v = if nat_lt 0 (value w) then outcome.Alive else outcome.Zeroed
answer z act.Scan w v =
    if is_last z v
    then outcome.Split w (length (kept v.retired (all_seen w v)))
    (length (ejected v.retired (all_seen w v)))
    else outcome.Word w
answer z (act.Swap p new) w v = outcome.Found (slot_in w)
answer z (act.Cas p old new) w v =
    if w == word_of old then outcome.Done else outcome.LostTo (slot_in w)
answer z (act.Claim s) w v = if bit_in s w == 1 then outcome.Claimed else outcome.Taken w
answer z act.Arm w v = outcome.Plain
answer z (act.Fill i x) w v = outcome.Plain
answer z act.Start w v = outcome.Plain
answer z (act.See s i) w v = outcome.Word w
answer z act.Free w v = outcome.Plain
answer z act.Ticket w v = outcome.Number w
answer z (act.Wadd s) w v = outcome.Plain
answer z (act.Wdrop s) w v = decremented Weak w
answer z (act.Destroy s) w v = decremented Weak w
answer z (act.Wcount s) w v = outcome.Word w
answer z (act.Leave j) w v = outcome.Plain

-- after a decrement: the one that found 1 is to finish the object, or to give the slot back
abbrev pub given_up : Kind → SlotId → ℕ → CoreView → CoreView
given_up Strong s w v = record v { phase = if w == 1 then phase.Finish s else phase.Idle }
given_up Weak s w v = record v { phase = if w == 1 then phase.Give s else phase.Idle }
given_up Disposal s w v = v

abbrev pub paid : ℕ → List Entry → CoreView → CoreView
paid w [] v = v
paid w (e ∷ es) v = given_up e.0 e.1 w (record v { owed = es })

-- it ended the object, or goes on to this phase
abbrev pub ended : Bool → Option SlotId → Phase → CoreView → CoreView
ended b s next v =
    if b then record v { dying = v.dying ++ alone s; phase = phase.Idle } else record v
    { phase = next }

abbrev pub with_note : ℕ → Note → CoreView → CoreView
with_note j n v = record v { notes = slice_set v.notes j n }

-- what was announced is under a snapshot now
abbrev pub validated : Note → Note
validated note.Idle = note.Idle
validated (note.Announced k s) = note.Valid k s
validated (note.Valid k s) = note.Valid k s

-- a place of kind k took this reference of the seat
abbrev pub without_given : Kind → Option SlotId → CoreView → CoreView
without_given k None v = v
without_given Strong (Some s) v = record v { owned = without s v.owned }
without_given Weak (Some s) v = record v { weaks = without s v.weaks }
without_given Disposal (Some s) v = v

-- the seat put a new content into a place of kind k, which held w
abbrev pub exchanged : Kind → Option SlotId → ℕ → CoreView → CoreView
exchanged k new w v =
    record (without_given k new v) { retired = joined k (slot_in w) v.retired }

abbrev pub scanned : Shape → ℕ → CoreView → CoreView
scanned z w v =
    if is_last z v
    then record v {
      phase = phase.Idle;
      seen = [];
      retired = kept v.retired (all_seen w v);
      owed = ejected v.retired (all_seen w v);
      ripe = ripened v.ripe v.dying (all_seen w v);
    }
    else record v { phase = phase.Scan; seen = v.seen ++ w ∷ [] }

-- what the seat has afterwards, but for its trail. A leave is of two views: see `taken_over`
abbrev pub changed : Shape → Act → ℕ → CoreView → CoreView
changed z (act.Add s) w v =
    if nat_lt w ZERO
    then record v { owned = v.owned ++ s ∷ []; adds = v.adds + 1 }
    else record v { adds = v.adds + 1 }
changed z (act.Drop s) w v = given_up Strong s w (record v { owned = without s v.owned })
changed z act.Pay w v = paid w v.owed v
changed z act.Finish w v =
    ended (w == 0) (slot_of v.phase)
    (if has_help w then about phase.Help (slot_of v.phase) else phase.Idle) v
changed z act.Take w v = ended (has_help w) (slot_of v.phase) phase.Idle v
changed z (act.Count s) w v = if w == 0 then record v { phase = phase.Zero s } else v
changed z act.Mark w v = record v { phase = phase.Idle }
changed z (act.Announce j k s) w v = with_note j (note.Announced k s) v
changed z (act.Release j) w v = with_note j note.Idle v
changed z (act.Look p) w v = v
changed z (act.Check j p) w v =
    if is_valid w (note_of v j) then with_note j (validated (note_of v j)) v else v
changed z (act.Alive j) w v =
    if nat_lt 0 (value w) then with_note j (validated (note_of v j)) v else v
changed z act.Scan w v = scanned z w v
changed z (act.Swap p new) w v = exchanged (place_kind p) new w v
changed z (act.Cas p old new) w v = if w == word_of old then exchanged (place_kind p) new w v else v
changed z (act.Claim s) w v =
    if bit_in s w == 1 then record v { makes = v.makes + 1; phase = phase.Bare s } else v
changed z act.Arm w v = record v { phase = about phase.Blank (slot_of v.phase) }
changed z (act.Fill i x) w v = v
changed z act.Start w v =
    record v {
      owned = v.owned ++ alone (slot_of v.phase);
      made = v.made ++ alone (slot_of v.phase);
      adds = v.adds + 1;
      phase = phase.Idle;
    }
changed z (act.See s i) w v = v
changed z act.Free w v = record v { phase = phase.Idle }
changed z act.Ticket w v = record v { adds = v.adds + 1; tickets = v.tickets ++ w ∷ [] }
changed z (act.Wadd s) w v = record v { weaks = v.weaks ++ s ∷ []; adds = v.adds + 1 }
changed z (act.Wdrop s) w v = given_up Weak s w (record v { weaks = without s v.weaks })
changed z (act.Destroy s) w v =
    given_up Weak s w (record v { dying = without s v.dying; ripe = without s v.ripe })
changed z (act.Wcount s) w v = v
changed z (act.Leave j) w v = v

-- the event and its answer join the trail
abbrev pub noted : Act → Outcome → CoreView → CoreView
noted a o v = record v { trail = v.trail ++ record { act = a; outcome = o } ∷ [] }

-- what the seat has afterwards
abbrev pub moved : Shape → Act → ℕ → CoreView → CoreView
moved z a w v = noted a (answer z a w v) (changed z a w v)
