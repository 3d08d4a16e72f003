-- The table of events: for each act the word that it works on, what becomes of that word, when a seat may do it, what
-- it answers, and what the seat has afterwards. w is the word found.
use Rattle.std.specs.Prelude.{ℕ, ◌≡◌, ◌≢◌, ◌⊎◌, ◌+◌, ◌^◌, ◌<◌, ◌≤◌, ◌==◌, nat_lt, ◌&&◌, ◌||◌, not, Bool, true, List, [], ◌∷◌, ◌++◌, count_by, Option, Some, None, if◌then◌else◌}
use prog.Atomic.{either}
use Rattle.core_law.specs.plain_state.declared.slot.SlotId.{SlotId}
use Rattle.core_law.specs.plain_state.Lists.{times, is_slot}
use Rattle.core_law.specs.plain_state.Steps.{word_of}
use Rattle.core_law.specs.core_events.Steps.{plus_one, minus_one}
use Rattle.core_law.specs.core_events.Views.{of_slot, alone, without}
use Rattle.core_law.specs.core_events.Words.{slot_in}
use Rattle.epoch_core.specs.declared.act.Dated.{Dated}
use Rattle.epoch_core.specs.declared.act.EpochAct.{EpochAct}
use Rattle.epoch_core.specs.declared.act.EpochAct.TheVariants as act
use Rattle.epoch_core.specs.declared.outcome.EpochOutcome.{EpochOutcome}
use Rattle.epoch_core.specs.declared.outcome.EpochOutcome.TheVariants as outcome
use Rattle.epoch_core.specs.declared.shape.EpochShape.{EpochShape}
use Rattle.epoch_core.specs.declared.view.EpochPhase.{EpochPhase}
use Rattle.epoch_core.specs.declared.view.EpochPhase.TheVariants as phase
use Rattle.epoch_core.specs.declared.view.EpochView.{EpochView}
use Rattle.epoch_core.specs.declared.view.Sweep.{Sweep}
use Rattle.epoch_core.specs.Words.{free_word, last_epoch, epoch_at, region_at, count_at, field_at, payload_at, place_at}
use Rattle.epoch_core.specs.Views.{IsIdle, IsInside, IsOpen, Holds, slot_of, epoch_of}

-- PENDING ENTRIES
abbrev pub is_dated : Dated → Dated → Bool
is_dated d x = is_slot d.slot x.slot && x.date == d.date

-- how often an entry stands in a list
unfoldable pub dated_times : Dated → List Dated → ℕ
dated_times d ds = count_by (is_dated d) ds

-- the list without its first d
abbrev pub without_dated : Dated → List Dated → List Dated
without_dated d [] = []
without_dated d (x ∷ xs) = if is_dated d x then xs else x ∷ without_dated d xs

-- WORDS
-- the region word of the next seat in a scan
abbrev pub scanned_at : EpochPhase → ℕ
scanned_at phase.Idle = 0
scanned_at (phase.Entering e) = 0
scanned_at (phase.Undated s) = 0
scanned_at (phase.Blank s) = 0
scanned_at (phase.Scan w) = region_at w.passed

-- which word
abbrev pub place : EpochShape → EpochAct → EpochView → ℕ
place z (act.Claim s) v = count_at z s
place z (act.Fill i x) v = of_slot (λ s. payload_at z s i) (slot_of v.phase)
place z act.Start v = of_slot (count_at z) (slot_of v.phase)
place z (act.See s i) v = payload_at z s i
place z (act.Add s) v = count_at z s
place z (act.Drop s) v = count_at z s
place z (act.Pay d) v = count_at z d.slot
place z (act.Free s) v = count_at z s
place z (act.Look p) v = place_at z p
place z (act.Swap p new) v = place_at z p
place z (act.Cas p old new) v = place_at z p
place z (act.Clear s i) v = field_at z s i
place z act.Date v = epoch_at
place z act.Enter v = epoch_at
place z act.Open v = region_at v.seat
place z act.Exit v = region_at v.seat
place z act.Flush v = epoch_at
place z act.Scan v = scanned_at v.phase
place z act.Advance v = epoch_at
place z (act.Leave j) v = 0

-- what becomes of the word
abbrev pub next : EpochAct → EpochView → ℕ → ℕ
next (act.Claim s) v w = either (w == free_word) 0 w
next (act.Fill i x) v w = x
next act.Start v w = 1
next (act.See s i) v w = w
next (act.Add s) v w = plus_one w
next (act.Drop s) v w = minus_one w
next (act.Pay d) v w = minus_one w
next (act.Free s) v w = free_word
next (act.Look p) v w = w
next (act.Swap p new) v w = word_of new
next (act.Cas p old new) v w = either (w == word_of old) (word_of new) w
next (act.Clear s i) v w = 0
next act.Date v w = w
next act.Enter v w = w
next act.Open v w = epoch_of v.phase + 1
next act.Exit v w = 0
next act.Flush v w = w
next act.Scan v w = w
next act.Advance v w = either (w == epoch_of v.phase) (epoch_of v.phase + 1) w
next (act.Leave j) v w = w

-- CONDITIONS
abbrev pub HasAdd : EpochView → Type 0
HasAdd v = v.adds < v.quota.adds

abbrev pub HasMake : EpochView → Type 0
HasMake v = v.makes < v.quota.makes

-- a new content of a place: null, or a reference that the seat has to give
abbrev pub CanGive : Option SlotId → EpochView → Type 0
CanGive None v = Unit {0}
CanGive (Some s) v = 0 < times s v.owned

-- null, or a slot of the domain
abbrev pub IsContent : EpochShape → Option SlotId → Type 0
IsContent z None = Unit {0}
IsContent z (Some s) = s.0 < z.slots

-- the seat is in the middle of nothing, and its region is closed
abbrev pub CanLeave : EpochView → Type 0
CanLeave v = IsIdle v × (v.number ≡ 0)

-- two epochs after its date an entry may be paid
abbrev pub IsDue : Dated → EpochView → Type 0
IsDue d v = d.date + 2 ≤ v.known

-- when a seat may do it, as far as its own view tells
abbrev pub May : EpochShape → EpochAct → EpochView → Type 0
May z (act.Claim s) v = IsIdle v × (s.0 < z.slots) × HasMake v × HasAdd v
May z (act.Fill i x) v = ((s : SlotId) × (v.phase ≡ phase.Blank s)) × (i < 16) × (x < 2 ^ 64)
May z act.Start v = (s : SlotId) × (v.phase ≡ phase.Blank s)
May z (act.See s i) v = IsIdle v × (Holds v s ⊎ (0 < times s v.dying)) × (i < 16)
May z (act.Add s) v = IsIdle v × HasAdd v × Holds v s
May z (act.Drop s) v = IsIdle v × (0 < times s v.owned)
May z (act.Pay d) v = IsIdle v × (0 < dated_times d v.pending) × IsDue d v
May z (act.Free s) v = IsIdle v × (0 < times s v.dying)
May z (act.Look p) v = IsIdle v × IsInside v × IsOpen z v p
May z (act.Swap p new) v = IsIdle v × IsOpen z v p × CanGive new v
May z (act.Cas p old new) v = IsIdle v × IsOpen z v p × CanGive new v × IsContent z old
May z (act.Clear s i) v = IsIdle v × (i < 2) × (0 < times s v.dying)
May z act.Date v = (s : SlotId) × (v.phase ≡ phase.Undated s)
May z act.Enter v = IsIdle v × (v.number ≡ 0)
May z act.Open v = (e : ℕ) × (v.phase ≡ phase.Entering e)
May z act.Exit v = IsIdle v × IsInside v
May z act.Flush v = IsIdle v
May z act.Scan v = (w : Sweep) × (v.phase ≡ phase.Scan w) × (w.passed < z.seats)
May z act.Advance v = (w : Sweep) × (v.phase ≡ phase.Scan w) × (w.passed ≡ z.seats)
May z (act.Leave j) v = (v.seat ≡ 0) × (j ≢ 0) × (j < z.seats) × CanLeave v

-- ANSWERS
abbrev pub decremented : ℕ → EpochOutcome
decremented w = if w == 1 then outcome.Ended else outcome.Left

-- what the event answers
abbrev pub answer : EpochAct → ℕ → EpochView → EpochOutcome
answer (act.Claim s) w v = if w == free_word then outcome.Claimed else outcome.Taken w
answer (act.Fill i x) w v = outcome.Plain
answer act.Start w v = outcome.Plain
answer (act.See s i) w v = outcome.Word w
answer (act.Add s) w v = outcome.Plain
answer (act.Drop s) w v = decremented w
answer (act.Pay d) w v = decremented w
answer (act.Free s) w v = outcome.Plain
answer (act.Look p) w v = outcome.Found (slot_in w)
answer (act.Swap p new) w v = outcome.Found (slot_in w)
answer (act.Cas p old new) w v =
    if w == word_of old then outcome.Done else outcome.LostTo (slot_in w)
answer (act.Clear s i) w v = outcome.Found (slot_in w)
answer act.Date w v = outcome.Epoch w
answer act.Enter w v = outcome.Epoch w
answer act.Open w v = outcome.Plain
answer act.Exit w v = outcome.Plain
answer act.Flush w v = outcome.Epoch w
answer act.Scan w v = outcome.Word w
answer act.Advance w v = if w == epoch_of v.phase then outcome.Done else outcome.Epoch w
answer (act.Leave j) w v = outcome.Plain

-- WHAT BECOMES OF THE SEAT
-- the seat took this content out of a place
abbrev pub took : Option SlotId → EpochView → EpochView
took None v = v
took (Some s) v = record v { phase = phase.Undated s }

-- a place took this reference of the seat
abbrev pub gave : Option SlotId → EpochView → EpochView
gave None v = v
gave (Some s) v = record v { owned = without s v.owned }

-- the seat's region has seen this content
abbrev pub saw : Option SlotId → EpochView → EpochView
saw None v = v
saw (Some s) v = record v { seen = v.seen ++ s ∷ [] }

-- it ended the object where it took the last reference
abbrev pub ended_by : ℕ → SlotId → EpochView → EpochView
ended_by w s v = if w == 1 then record v { dying = v.dying ++ s ∷ [] } else v

-- an entry for the slot of the phase, of this date
abbrev pub dated_with : ℕ → Option SlotId → List Dated
dated_with e None = []
dated_with e (Some s) = record { slot = s; date = e } ∷ []

-- a region word that doesn't keep the epoch e from advancing
abbrev pub is_fit : ℕ → ℕ → Bool
is_fit e w = w == 0 || w == e + 1

-- after the region words below i the scan found these fit: the flush ends with the epoch that it read where it can't
-- advance it
abbrev pub swept : EpochShape → ℕ → ℕ → Bool → EpochView → EpochView
swept z e i fit v =
    if i == z.seats && not (fit && nat_lt e last_epoch)
    then record v { known = e; phase = phase.Idle }
    else record v { phase = phase.Scan (record { epoch = e; passed = i; fit = fit }) }

abbrev pub scanned : EpochShape → ℕ → EpochPhase → EpochView → EpochView
scanned z w phase.Idle v = v
scanned z w (phase.Entering e) v = v
scanned z w (phase.Undated s) v = v
scanned z w (phase.Blank s) v = v
scanned z w (phase.Scan x) v = swept z x.epoch (x.passed + 1) (x.fit && is_fit x.epoch w) v

-- what the seat has afterwards, but for its trail. A leave is of two views: see `taken_over`
abbrev pub changed : EpochShape → EpochAct → ℕ → EpochView → EpochView
changed z (act.Claim s) w v =
    if w == free_word then record v { makes = v.makes + 1; phase = phase.Blank s } else v
changed z (act.Fill i x) w v = v
changed z act.Start w v =
    record v {
      owned = v.owned ++ alone (slot_of v.phase);
      made = v.made ++ alone (slot_of v.phase);
      adds = v.adds + 1;
      phase = phase.Idle;
    }
changed z (act.See s i) w v = v
changed z (act.Add s) w v = record v { owned = v.owned ++ s ∷ []; adds = v.adds + 1 }
changed z (act.Drop s) w v = ended_by w s (record v { owned = without s v.owned })
changed z (act.Pay d) w v =
    ended_by w d.slot (record v { pending = without_dated d v.pending })
changed z (act.Free s) w v = record v { dying = without s v.dying }
changed z (act.Look p) w v = saw (slot_in w) v
changed z (act.Swap p new) w v = took (slot_in w) (gave new v)
changed z (act.Cas p old new) w v = if w == word_of old then took (slot_in w) (gave new v) else v
changed z (act.Clear s i) w v = took (slot_in w) v
changed z act.Date w v =
    record v { pending = v.pending ++ dated_with w (slot_of v.phase); phase = phase.Idle }
changed z act.Enter w v = record v { phase = phase.Entering w }
changed z act.Open w v = record v { number = epoch_of v.phase + 1; seen = []; phase = phase.Idle }
changed z act.Exit w v = record v { number = 0; seen = [] }
changed z act.Flush w v =
    record v { phase = phase.Scan (record { epoch = w; passed = 0; fit = true }) }
changed z act.Scan w v = scanned z w v.phase v
changed z act.Advance w v =
    record v { known = either (w == epoch_of v.phase) (epoch_of v.phase + 1) w; phase = phase.Idle }
changed z (act.Leave j) w v = v

-- the event and its answer join the trail
abbrev pub noted : EpochAct → EpochOutcome → EpochView → EpochView
noted a o v = record v { trail = v.trail ++ record { act = a; outcome = o } ∷ [] }

-- what the seat has afterwards
abbrev pub moved : EpochShape → EpochAct → ℕ → EpochView → EpochView
moved z a w v = noted a (answer a w v) (changed z a w v)
