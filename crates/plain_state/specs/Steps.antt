-- The steps of the plain state: what a seat may do, and what becomes of the state.
use Rattle.std.specs.Prelude.{ℕ, ◌≡◌, ◌≢◌, ◌<◌, ◌+◌, ◌⊎◌, true, false, List, [], ◌∷◌, ◌++◌, length, slice_set, Option, Some, None}
use Rattle.plain_state.specs.declared.act.EventPlace.{EventPlace}
use Rattle.plain_state.specs.declared.act.PlainAct.{PlainAct}
use Rattle.plain_state.specs.declared.act.PlainAct.TheVariants as act
use Rattle.plain_state.specs.declared.slot.Kind.{Kind}
use Rattle.plain_state.specs.declared.slot.Kind.TheVariants.{Strong, Weak, Disposal}
use Rattle.plain_state.specs.declared.slot.SlotId.{SlotId}
use Rattle.plain_state.specs.declared.slot.Stage.TheVariants.{Free, Blank, Live, Ended, Husk}
use Rattle.plain_state.specs.Lists.{Entry, times, entry_times, Loses, Gains}
use Rattle.plain_state.specs.State.{Plain, PlainSeat, seat_at, slot_at, stage_at, with_seat, with_slot}
use Rattle.plain_state.specs.Places.{Holds, held_times, IsOpen, IsReadable, IsDyingField, place_kind, content, with_content}
use Rattle.plain_state.specs.References.{strong_refs, weak_refs, snapshot_times}
use Rattle.plain_state.specs.Lawful.{IsCovered, HasNullFields}

-- the word of a place: 0 for null, else the slot's number and one
abbrev pub word_of : Option SlotId → ℕ
word_of None = 0
word_of (Some s) = s.0 + 1

-- a list that takes what a place held
abbrev pub joined : Kind → Option SlotId → List Entry → List Entry
joined k None es = es
joined k (Some s) es = es ++ (k, s) ∷ []

-- the same entries, in whatever order
abbrev pub IsReordering : List Entry → List Entry → Type 0
IsReordering es fs = (k : Kind) (s : SlotId) → entry_times k s fs ≡ entry_times k s es

-- the new content of a place is null, or a reference that the seat gives up: of its owned ones for a strong
-- place, of its weak ones for a weak place. v is the seat before, w the seat after
abbrev pub GivesUp : Kind → Option SlotId → PlainSeat → PlainSeat → Type 0
GivesUp k None v w = w ≡ v
GivesUp Strong (Some s) v w = (xs : List SlotId) × Loses v.owned s xs × (w ≡ record v { owned = xs })
GivesUp Weak (Some s) v w = (xs : List SlotId) × Loses v.weaks s xs × (w ≡ record v { weaks = xs })
GivesUp Disposal (Some s) v w = ⊥

-- the place holds `new`, and what it held is deferred
abbrev pub Replaces : Plain → ℕ → EventPlace → Option SlotId → Plain → Type 0
Replaces p n place new q =
    (w : PlainSeat) × GivesUp (place_kind place) new (seat_at p n) w
    × (q ≡ with_content
    (with_seat p n (record w { deferred = joined (place_kind place) (content p place) w.deferred }))
    place new)

-- a field becomes null, and what it held is deferred
abbrev pub Clears : Plain → ℕ → EventPlace → Plain → Type 0
Clears p n place q =
    let v = seat_at p n in
    q ≡ with_content
    (with_seat p n (record v { deferred = joined (place_kind place) (content p place) v.deferred }))
    place None

-- all lists of seat j go to seat 0
abbrev pub Leaves : Plain → ℕ → Plain → Type 0
Leaves p j q =
    let root = seat_at p 0 in
    let v = seat_at p j in
    q ≡ record p {
      seats = slice_set
          (slice_set p.seats 0 (record root {
            owned = root.owned ++ v.owned;
            weaks = root.weaks ++ v.weaks;
            deferred = root.deferred ++ v.deferred;
            dying = root.dying ++ v.dying;
          }))
          j (record v { owned = []; weaks = []; deferred = []; dying = []; left = true });
    }

-- The table of steps: seat n's act, the number that it finds, and the state q that it leads to. The number is the
-- word found in a place, the strong count for Count, Mark and Alive, 1 for an Add that found the zero mark, the number
-- of the ticket for Ticket, and else 0.
abbrev pub Row : Plain → ℕ → PlainAct → ℕ → Plain → Type 0
Row p n (act.Claim s) found q =
    let v = seat_at p n in let x = slot_at p s in
    (s.0 < length p.slots) × (x.stage ≡ Free) × (v.filling ≡ None) × (found ≡ 0)
    × (q ≡ with_slot (with_seat p n (record v { filling = Some s })) s (record x { stage = Blank }))
Row p n (act.Fill s i word) found q =
    let x = slot_at p s in
    (x.stage ≡ Blank) × ((seat_at p n).filling ≡ Some s) × (i < 16) × (found ≡ 0)
    × (q ≡ with_slot p s (record x { payload = slice_set x.payload i word }))
Row p n (act.Make s) found q =
    let v = seat_at p n in let x = slot_at p s in
    (x.stage ≡ Blank) × (v.filling ≡ Some s) × (found ≡ 0)
    × (q ≡ with_slot
    (with_seat p n (record v { owned = v.owned ++ s ∷ []; filling = None; adds = v.adds + 1 }))
    s (record x { stage = Live; marked = false; life = x.life + 1 }))
Row p n (act.Add s) found q =
    let v = seat_at p n in
    Holds v s
    × (((found ≡ 0) × ((slot_at p s).marked ≡ false)
    × (q ≡ with_seat p n (record v { owned = v.owned ++ s ∷ []; adds = v.adds + 1 })))
    ⊎ ((found ≡ 1) × ((slot_at p s).marked ≡ true)
    × (q ≡ with_seat p n (record v { adds = v.adds + 1 }))))
Row p n (act.Drop s) found q =
    let v = seat_at p n in
    (xs : List SlotId) × Loses v.owned s xs × (found ≡ 0) × (q ≡ with_seat p n (record v { owned = xs }))
Row p n (act.WeakGain s) found q =
    let v = seat_at p n in
    Holds v s × (found ≡ 0)
    × (q ≡ with_seat p n (record v { weaks = v.weaks ++ s ∷ []; adds = v.adds + 1 }))
Row p n (act.WeakDrop s) found q =
    let v = seat_at p n in
    (xs : List SlotId) × Loses v.weaks s xs × (found ≡ 0) × (q ≡ with_seat p n (record v { weaks = xs }))
Row p n (act.Look place) found q = IsReadable p n place × (found ≡ word_of (content p place)) × (q ≡ p)
Row p n (act.Check j place) found q =
    let v = seat_at p n in
    IsReadable p n place × (found ≡ word_of (content p place))
    × ((q ≡ p) ⊎ ((s : SlotId) × (content p place ≡ Some s)
    × ((es : List Entry) × Gains v.snapshots (place_kind place, s) es
    × (q ≡ with_seat p n (record v { snapshots = es })))))
Row p n (act.Alive j) found q =
    let v = seat_at p n in
    (s : SlotId) × Holds v s × (found ≡ strong_refs p s)
    × (((found ≡ 0) × (q ≡ p)) ⊎ ((0 < found) × (stage_at p s ≡ Live)
    × ((es : List Entry) × Gains v.snapshots (Disposal, s) es
    × (q ≡ with_seat p n (record v { snapshots = es })))))
Row p n (act.EndSnapshot k s) found q =
    let v = seat_at p n in
    (es : List Entry) × Loses v.snapshots (k, s) es × (found ≡ 0)
    × (q ≡ with_seat p n (record v { snapshots = es }))
Row p n (act.Replace place new) found q =
    IsOpen p n place × (found ≡ word_of (content p place)) × Replaces p n place new q
Row p n (act.TryReplace place old new) found q =
    IsOpen p n place × (found ≡ word_of (content p place))
    × (((content p place ≡ old) × Replaces p n place new q) ⊎ ((content p place ≢ old) × (q ≡ p)))
Row p n (act.Count s) found q = Holds (seat_at p n) s × (found ≡ strong_refs p s) × (q ≡ p)
Row p n (act.Mark s) found q =
    (found ≡ strong_refs p s)
    × (((q ≡ p) × (found ≡ 0 → (slot_at p s).marked ≡ true)) ⊎ ((stage_at p s ≡ Live) × (strong_refs p s ≡ 0)
    × (q ≡ with_slot p s (record (slot_at p s) { marked = true }))))
Row p n (act.WeakCount s) found q = Holds (seat_at p n) s × (found ≡ 0) × (q ≡ p)
Row p n (act.See s i) found q =
    (0 < held_times s (seat_at p n) + times s (seat_at p n).dying) × (i < 16) × (found ≡ 0) × (q ≡ p)
Row p n (act.Eject k s) found q =
    let v = seat_at p n in
    (es : List Entry) × Loses v.deferred (k, s) es × (found ≡ 0)
    × (q ≡ with_seat p n (record v { deferred = es })) × IsCovered q
Row p n (act.End s) found q =
    let v = seat_at p n in let x = slot_at p s in
    (x.stage ≡ Live) × (((x.marked ≡ true)) ⊎ (strong_refs p s ≡ 0)) × (found ≡ 0)
    × (q ≡ with_slot (with_seat p n (record v { dying = v.dying ++ s ∷ [] })) s
    (record x { stage = Ended; marked = true }))
Row p n (act.Clear place) found q =
    IsDyingField p n place × (found ≡ word_of (content p place)) × Clears p n place q
Row p n (act.Destroy s) found q =
    let v = seat_at p n in let x = slot_at p s in
    HasNullFields x × (snapshot_times Disposal p s ≡ 0) × (found ≡ 0)
    × ((xs : List SlotId) × Loses v.dying s xs
    × (q ≡ with_slot (with_seat p n (record v { dying = xs })) s (record x { stage = Husk })))
Row p n (act.Give s) found q =
    (stage_at p s ≡ Husk) × (weak_refs p s ≡ 0) × (found ≡ 0)
    × (q ≡ with_slot p s (record (slot_at p s) { stage = Free }))
Row p n (act.Leave j) found q =
    (n ≡ 0) × (j ≢ 0) × (j < length p.seats) × ((seat_at p j).left ≡ false)
    × ((seat_at p j).snapshots ≡ []) × ((seat_at p 0).filling ≡ None)
    × ((seat_at p j).filling ≡ None) × (found ≡ 0) × Leaves p j q
Row p n act.Split found q =
    let v = seat_at p n in
    (found ≡ 0)
    × ((es : List Entry) × IsReordering v.deferred es × (q ≡ with_seat p n (record v { deferred = es })))
Row p n act.Ticket found q =
    let v = seat_at p n in
    (found ≡ p.tickets)
    × (q ≡ record (with_seat p n (record v { adds = v.adds + 1 })) { tickets = p.tickets + 1 })
Row p n act.Still found q = (found ≡ 0) × (q ≡ p)

-- the seat is there, and hasn't left
abbrev pub IsSeat : Plain → ℕ → Type 0
IsSeat p n = (n < length p.seats) × ((seat_at p n).left ≡ false)

-- one plain step by seat n
abbrev pub Does : Plain → ℕ → PlainAct → ℕ → Plain → Type 0
Does p n act found q = IsSeat p n × Row p n act found q
