-- How often a slot stands in lists, phases and places, of one seat and of all.
use Rattle.std.specs.Prelude.{ℕ, zero, suc, ◌+◌, ◌==◌, ◌&&◌, ◌||◌, not, nat_lt, Bool, List, length, slice_index, sum_by, count_by, if◌then◌else◌}
use Rattle.announce_slots.specs.plain_state.declared.slot.Kind.{Kind}
use Rattle.announce_slots.specs.plain_state.declared.slot.Kind.TheVariants.{Strong, Weak, Disposal}
use Rattle.announce_slots.specs.plain_state.declared.slot.SlotId.{SlotId}
use Rattle.announce_slots.specs.plain_state.declared.slot.Stage.{Stage}
use Rattle.announce_slots.specs.plain_state.declared.slot.Stage.TheVariants.{Free, Blank, Live, Ended, Husk}
use Rattle.announce_slots.specs.plain_state.Lists.{times, entry_times, is_slot}
use Rattle.core_events.specs.declared.shape.Shape.{Shape}
use Rattle.core_events.specs.declared.view.CoreView.{CoreView}
use Rattle.core_events.specs.declared.view.LeftSeat.{LeftSeat}
use Rattle.core_events.specs.declared.view.Note.{Note}
use Rattle.core_events.specs.declared.view.Note.TheVariants as note
use Rattle.core_events.specs.declared.view.Phase.{Phase}
use Rattle.core_events.specs.declared.view.Phase.TheVariants as phase
use Rattle.core_events.specs.Words.{strong_at, weak_at, cell_at, weak_cell_at, field_at, weak_field_at, bits_at, bit_in, ticket_at}
use Rattle.announce_slots.specs.Words.{code}
use Rattle.announce_slots.specs.counter_word.Words.{has_zero, has_help}
use Rattle.core_events.specs.Runs.{Core}

-- 1 where they are the same slot
unfoldable pub one : SlotId → SlotId → ℕ
one s x = if is_slot s x then 1 else 0

-- 1 where the word of a place holds s
unfoldable pub in_word : SlotId → ℕ → ℕ
in_word s w = if w == s.0 + 1 then 1 else 0

-- f of each seat's view, added up
unfoldable pub total : (CoreView → ℕ) → List CoreView → ℕ
total f vs = sum_by f vs

-- f of each number below n, added up
unfoldable pub sum_below : ℕ → (ℕ → ℕ) → ℕ
sum_below zero f = 0
sum_below (suc n) f = sum_below n f + f n

-- 1 where the phase is that of a seat that is to finish s, to help with it, to arm it, to fill it, to give it back
abbrev pub finishing : SlotId → Phase → ℕ
finishing s phase.Idle = 0
finishing s (phase.Finish x) = one s x
finishing s (phase.Help x) = 0
finishing s (phase.Zero x) = 0
finishing s phase.Scan = 0
finishing s (phase.Bare x) = 0
finishing s (phase.Blank x) = 0
finishing s (phase.Give x) = 0

abbrev pub helping : SlotId → Phase → ℕ
helping s phase.Idle = 0
helping s (phase.Finish x) = 0
helping s (phase.Help x) = one s x
helping s (phase.Zero x) = 0
helping s phase.Scan = 0
helping s (phase.Bare x) = 0
helping s (phase.Blank x) = 0
helping s (phase.Give x) = 0

abbrev pub baring : SlotId → Phase → ℕ
baring s phase.Idle = 0
baring s (phase.Finish x) = 0
baring s (phase.Help x) = 0
baring s (phase.Zero x) = 0
baring s phase.Scan = 0
baring s (phase.Bare x) = one s x
baring s (phase.Blank x) = 0
baring s (phase.Give x) = 0

abbrev pub filling : SlotId → Phase → ℕ
filling s phase.Idle = 0
filling s (phase.Finish x) = 0
filling s (phase.Help x) = 0
filling s (phase.Zero x) = 0
filling s phase.Scan = 0
filling s (phase.Bare x) = 0
filling s (phase.Blank x) = one s x
filling s (phase.Give x) = 0

abbrev pub giving : SlotId → Phase → ℕ
giving s phase.Idle = 0
giving s (phase.Finish x) = 0
giving s (phase.Help x) = 0
giving s (phase.Zero x) = 0
giving s phase.Scan = 0
giving s (phase.Bare x) = 0
giving s (phase.Blank x) = 0
giving s (phase.Give x) = one s x

-- 1 where the phase has the slot s
abbrev pub in_phase : SlotId → Phase → ℕ
in_phase s phase.Idle = 0
in_phase s (phase.Finish x) = one s x
in_phase s (phase.Help x) = one s x
in_phase s (phase.Zero x) = one s x
in_phase s phase.Scan = 0
in_phase s (phase.Bare x) = one s x
in_phase s (phase.Blank x) = one s x
in_phase s (phase.Give x) = one s x

-- 1 where the note names s
abbrev pub in_note : SlotId → Note → ℕ
in_note s note.Idle = 0
in_note s (note.Announced k x) = one s x
in_note s (note.Valid k x) = one s x

unfoldable pub noting : SlotId → List Note → ℕ
noting s ns = sum_by (in_note s) ns

-- the references of kind k that one seat owns or has yet to give up
abbrev pub listed : Kind → SlotId → CoreView → ℕ
listed Strong s v = times s v.owned + entry_times Strong s v.retired + entry_times Strong s v.owed
listed Weak s v = times s v.weaks + entry_times Weak s v.retired + entry_times Weak s v.owed
listed Disposal s v = entry_times Disposal s v.retired + entry_times Disposal s v.owed

-- how often a seat's lists, notes and phase name s
abbrev pub naming : SlotId → CoreView → ℕ
naming s v =
    listed Strong s v + listed Weak s v + listed Disposal s v + times s v.dying + times s v.ripe
    + noting s v.notes + in_phase s v.phase + times s v.made

-- the two strong fields of slot x that hold s
abbrev pub fields_holding : Shape → List ℕ → SlotId → ℕ → ℕ
fields_holding z ws s x =
    in_word s (slice_index ws (field_at z (record { 0 = x }) 0))
    + in_word s (slice_index ws (field_at z (record { 0 = x }) 1))

-- the places of kind k that hold s
abbrev pub places : Kind → Shape → List ℕ → SlotId → ℕ
places Strong z ws s =
    sum_below z.cells (λ i. in_word s (slice_index ws (cell_at z i)))
    + sum_below z.slots (fields_holding z ws s)
places Weak z ws s =
    sum_below z.weak_cells (λ i. in_word s (slice_index ws (weak_cell_at z i)))
    + sum_below z.slots (λ x. in_word s (slice_index ws (weak_field_at z (record { 0 = x }))))
places Disposal z ws s = 0

-- all references of kind k to s, but for the slot's own
abbrev pub refs : Kind → Shape → Core → SlotId → ℕ
refs k z c s = total (listed k s) c.views + places k z c.words s

-- how many seats are to finish s, to help with it, have claimed it bare, fill it, are to give it back
abbrev pub finishers : Core → SlotId → ℕ
finishers c s = total (λ v. finishing s v.phase) c.views

abbrev pub helpers : Core → SlotId → ℕ
helpers c s = total (λ v. helping s v.phase) c.views

abbrev pub barers : Core → SlotId → ℕ
barers c s = total (λ v. baring s v.phase) c.views

abbrev pub fillers : Core → SlotId → ℕ
fillers c s = total (λ v. filling s v.phase) c.views

abbrev pub givers : Core → SlotId → ℕ
givers c s = total (λ v. giving s v.phase) c.views

-- how often s stands in dying lists
abbrev pub dying_times : Core → SlotId → ℕ
dying_times c s = total (λ v. times s v.dying) c.views

abbrev pub adds_used : Core → ℕ
adds_used c = total (λ v. v.adds) c.views

abbrev pub strong : Shape → Core → SlotId → ℕ
strong z c s = slice_index c.words (strong_at z s)

abbrev pub weak : Shape → Core → SlotId → ℕ
weak z c s = slice_index c.words (weak_at z s)

-- 1 where the slot's bit is set
abbrev pub free_bit : Shape → Core → SlotId → ℕ
free_bit z c s = bit_in s (slice_index c.words (bits_at z s))

-- how many tickets were drawn
abbrev pub tickets_drawn : Shape → Core → ℕ
tickets_drawn z c = slice_index c.words (ticket_at z)

-- how often a ticket stands in the lists of all seats, those that left among them
unfoldable pub number_times : ℕ → List ℕ → ℕ
number_times t ts = count_by (λ x. x == t) ts

abbrev pub ticket_times : ℕ → CoreView → ℕ
ticket_times t v =
    number_times t v.tickets + sum_by (λ (l : LeftSeat). number_times t l.tickets) v.left_seats

-- the strong word is that of an object that lives: no zero flag, or the help flag too
abbrev pub is_live_word : ℕ → Bool
is_live_word w = not (has_zero w) || has_help w

-- what tells how far a slot is
pub record Signs : Type 0 where
  pub bit : ℕ
  pub claimers : ℕ
  pub dying : ℕ
  pub strong : ℕ

unfoldable pub stage_of : Signs → Stage
stage_of g =
    if g.bit == 1 then Free
    else if nat_lt 0 g.claimers then Blank
    else if nat_lt 0 g.dying then Ended
    else if is_live_word g.strong then Live
    else Husk

abbrev pub signs : Shape → Core → SlotId → Signs
signs z c s = record {
  bit = free_bit z c s;
  claimers = barers c s + fillers c s;
  dying = dying_times c s;
  strong = strong z c s;
}

abbrev pub stage : Shape → Core → SlotId → Stage
stage z c s = stage_of (signs z c s)

-- a scan has read announcement word a, counted from 0, and found another word there than w
abbrev pub has_passed : ℕ → ℕ → List ℕ → Bool
has_passed a w seen = nat_lt a (length seen) && not (slice_index seen a == w)

-- what of a seat's lists keeps a snapshot of each kind valid: a retired entry, or a slot that waits to be destroyed
abbrev pub waiting : Kind → SlotId → CoreView → ℕ
waiting Strong s v = entry_times Strong s v.retired
waiting Weak s v = entry_times Weak s v.retired
waiting Disposal s v = times s v.dying

-- of that, what still guards s for announcement word a: none where the seat's scan has passed the word
abbrev pub guarding : ℕ → Kind → SlotId → CoreView → ℕ
guarding a k s v = if has_passed a (code k s) v.seen then 0 else waiting k s v
