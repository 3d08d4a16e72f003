-- Snapshots of the desk's seat: taken, and kept by a reference.
use Rattle.std.proofs.Common.{◌≡◌, ℕ, Bool, true, List, refl, sym, ◌∙◌, subst, Some}
use Rattle.std.specs.Map.{values_of}
use Rattle.script_desk.specs.plain_state.declared.act.EventPlace.{EventPlace}
use Rattle.script_desk.specs.plain_state.declared.slot.Kind.TheVariants as kind
use Rattle.script_desk.specs.plain_state.declared.slot.SlotId.{SlotId}
use Rattle.script_desk.specs.plain_state.Places.{HoldsStrongly, place_kind}
use Rattle.script_desk.specs.plain_state.State.{seat_at}
use Rattle.script_desk.specs.plain_store.Calls.{Gains}
use Rattle.script_desk.specs.plain_settling.Snapshots.{Takes}
use Rattle.lone_heap.specs.acquire_retire.Seats.{SeatState}
use Rattle.lone_heap.specs.declared.words.Words.{Words}
use Rattle.lone_heap.specs.Lone.{IsReady, known_plain}
use Rattle.lone_heap.specs.Words.{AreNoted}
use Rattle.script_desk.specs.script_lines.declared.command.Command.TheVariants as command
use Rattle.script_desk.specs.declared.handle.Handle.{Handle}
use Rattle.script_desk.specs.declared.handle.Handle.TheVariants.{Strong, Weak, Snapshot}
use Rattle.script_desk.specs.declared.said.Said.TheVariants as said
use Rattle.script_desk.specs.Desks.{Binds, Desk, Names, bound}
use Rattle.script_desk.specs.Effects.{Acts, Gets}
use Rattle.script_desk.specs.Handles.{is_firm, is_snapshot, slot_of}
use Rattle.script_desk.specs.Holding.{CountsMore, HasHandle}
use Rattle.script_desk.specs.Places.{IsBoundTo}
use Rattle.script_desk.proofs.Gaining.{takes_more}
use Rattle.script_desk.proofs.Needs.{holds_firmly, kind_of}
use Rattle.script_desk.proofs.Sums.{has_bound}
use Rattle.domain_desk.specs.Desks.{DeskState, IsKept, desk_of, plain_of}
use Rattle.domain_desk.proofs.Keeping.{has_kept, kept_gained}

is_kept_alive : (h : Handle) → is_snapshot h ≡ true → is_firm h ≡ true
is_kept_alive (Strong s) is = refl
is_kept_alive (Weak s) is = is
is_kept_alive (Snapshot s) is = refl

keep_row : (d e : Desk) (name new : List ℕ) (h : Handle) → is_snapshot h ≡ true
    → bound d.names name ≡ Some h → Gains d.plain (slot_of h) (slot_of h) e.plain
    → Gets d new (Strong (slot_of h)) e → Acts d (command.Keep name new) said.Nothing e
keep_row d e name new (Strong s) is named gains gets = absurd (cc is)
keep_row d e name new (Weak s) is named gains gets = absurd (cc is)
keep_row d e name new (Snapshot (s, counted)) is named gains gets =
    (refl, (s, counted, named, gains, gets))

module _ {P : Type 0} (i d : DeskState P) (is : i ≡ d) (kept : IsKept d) where
  -- a snapshot that was taken, and its name
  pub taken_kept : (at : EventPlace) (s : SlotId) (counted : Bool) (hand : SlotId × Bool)
      (seat : SeatState (Unit {0})) (words : Words) (names : Names) → IsReady i.domain seat
      → AreNoted words seat → place_kind at ≡ kind.Strong
      → Takes (plain_of i) at (Some (s, counted)) (known_plain i.domain seat)
      → hand ≡ (s, counted) → CountsMore (values_of i.names) (Snapshot hand) (values_of names)
      → IsKept (record i { seat = seat; words = words; names = names })
  taken_kept at s counted hand seat words names ready noted strong takes same counts =
      kept_gained i d is kept seat words names ready noted (Snapshot (s, counted))
      (takes_more (plain_of i) (known_plain i.domain seat) at s counted strong takes)
      (subst (λ (x : SlotId × Bool). CountsMore (values_of i.names) (Snapshot x) (values_of names))
      same counts)

  -- the slot of a snapshot, by its name
  module _ (name : List ℕ) (s : SlotId)
      (known : (h : Handle) × (bound i.names name ≡ Some h) × (s ≡ slot_of h))
      (kind : IsBoundTo d.names name is_snapshot) where
    is_one : is_snapshot known.0 ≡ true
    is_one =
        kind_of (bound i.names name) is_snapshot known.0
        (subst (λ (x : DeskState P). IsBoundTo x.names name is_snapshot) (sym is) kind) known.1

    has_one : HasHandle (plain_of i) known.0
    has_one = has_bound (plain_of i) i.names name known.0 (has_kept i d is kept).kept.holds known.1

    pub snapshot_held : HoldsStrongly (seat_at (plain_of i) 0) s
    snapshot_held =
        subst (HoldsStrongly (seat_at (plain_of i) 0)) (sym known.2)
        (holds_firmly (plain_of i) known.0 (is_kept_alive known.0 is_one) has_one)

    -- it was kept by a reference
    pub keep_told : (new : List ℕ) (seat : SeatState (Unit {0})) (names : Names) (t u v : SlotId)
        → Gains (plain_of i) s t (known_plain i.domain seat) → u ≡ t → v ≡ u
        → Binds i.names new (Some (Strong v)) names
        → Acts (desk_of d) (command.Keep name new) said.Nothing
        (desk_of (record i { seat = seat; names = names }))
    keep_told new seat names t u v gains first second binds =
        let e : Desk = desk_of (record i { seat = seat; names = names }) in
        let one : Gains (plain_of i) (slot_of known.0) (slot_of known.0) e.plain =
        subst (λ (x : SlotId). Gains (plain_of i) x x e.plain) known.2 (refl, gains.1) in
        let named : Binds i.names new (Some (Strong (slot_of known.0))) names =
        subst (λ (x : SlotId). Binds i.names new (Some (Strong x)) names)
        (second ∙ first ∙ gains.0 ∙ known.2) binds in
        subst (λ (x : DeskState P). Acts (desk_of x) (command.Keep name new) said.Nothing e) is
        (keep_row (desk_of i) e name new known.0 is_one known.1 one (named, (refl, refl)))
