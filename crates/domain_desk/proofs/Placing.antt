-- What the desk's seat has after each call on a place, and what was begun.
use Rattle.std.proofs.Common.{◌≡◌, ℕ, true, false, List, refl, ap, sym, ◌∙◌, subst, arith, Option, Some, None, IfSome}
use Rattle.std.specs.Map.{values_of}
use Rattle.script_desk.specs.plain_state.declared.act.EventPlace.{EventPlace}
use Rattle.script_desk.specs.plain_state.declared.slot.Kind.{Kind}
use Rattle.script_desk.specs.plain_state.declared.slot.Kind.TheVariants as kind
use Rattle.script_desk.specs.plain_state.declared.slot.SlotId.{SlotId}
use Rattle.script_desk.specs.plain_state.Places.{Holds, IsOpen, place_kind}
use Rattle.script_desk.specs.plain_state.State.{Plain, seat_at}
use Rattle.script_desk.specs.plain_store.Calls.{MayGive, Puts}
use Rattle.lone_heap.specs.acquire_retire.Seats.{SeatState}
use Rattle.lone_heap.specs.Lone.{ThenTidies, known_plain}
use Rattle.script_desk.specs.script_lines.declared.command.Command.TheVariants as command
use Rattle.script_desk.specs.script_lines.declared.command.TextPlace.{TextPlace}
use Rattle.script_desk.specs.script_lines.declared.command.TextPlace.TheVariants as text
use Rattle.script_desk.specs.declared.handle.Handle.{Handle}
use Rattle.script_desk.specs.declared.handle.Handle.TheVariants.{Strong, Weak, Snapshot}
use Rattle.script_desk.specs.declared.said.Said.TheVariants as said
use Rattle.script_desk.specs.Desks.{Binds, Desk, Names, bound}
use Rattle.script_desk.specs.declared.said.Said.{Said}
use Rattle.script_desk.specs.Effects.{Acts, IsPlace, IsSlotOf, LoadsStrong, LoadsWeak}
use Rattle.script_desk.specs.Faults.{IsPlaceInRange, is_weak_place, place_needs, taken_by}
use Rattle.script_desk.specs.Handles.{slot_of}
use Rattle.script_desk.specs.Holding.{CountsMore, HasHandle, HasMore}
use Rattle.script_desk.specs.Places.{AreMet, IsBoundTo}
use Rattle.script_desk.proofs.Gaining.{handle_of, replaces_fewer, replaces_same}
use Rattle.script_desk.proofs.Needs.{kind_of, open_place}
use Rattle.script_desk.proofs.Steps.{same_then}
use Rattle.script_desk.proofs.Sums.{has_bound, kept_fewer, kept_same}
use Rattle.domain_desk.specs.Desks.{DeskState, IsKept, desk_of, plain_of, sizes_of}
use Rattle.domain_desk.specs.Runs.{Begins}
use Rattle.domain_desk.proofs.Keeping.{IsStill, has_kept, still_kept, tidied_same}

-- the kind of a place, and of what it takes
abbrev pub kind_at : TextPlace → Kind
kind_at (text.Cell i) = kind.Strong
kind_at (text.WeakCell i) = kind.Weak
kind_at (text.Field name i) = kind.Strong
kind_at (text.WeakField name) = kind.Weak

pub placed_kind : (names : Names) (place : TextPlace) (at : EventPlace) → IsPlace names place at
    → place_kind at ≡ kind_at place
placed_kind names (text.Cell i) at is = ap place_kind is
placed_kind names (text.WeakCell i) at is = ap place_kind is
placed_kind names (text.Field name i) at is = ap place_kind is.2
placed_kind names (text.WeakField name) at is = ap place_kind is.2

pub strong_kind : (names : Names) (place : TextPlace) (at : EventPlace) → is_weak_place place ≡ false
    → IsPlace names place at → place_kind at ≡ kind.Strong
strong_kind names place at strong is = placed_kind names place at is ∙ of place strong
  where
    of : (p : TextPlace) → is_weak_place p ≡ false → kind_at p ≡ kind.Strong
    of (text.Cell i) e = refl
    of (text.WeakCell i) e = absurd (cc e)
    of (text.Field name i) e = refl
    of (text.WeakField name) e = absurd (cc e)

-- a handle that a place takes is of its kind
taken_is : (place : TextPlace) (h : Handle) → taken_by place h ≡ true
    → handle_of (kind_at place) (slot_of h) ≡ h
taken_is (text.Cell i) (Strong s) takes = refl
taken_is (text.Cell i) (Weak s) takes = cc
taken_is (text.Cell i) (Snapshot s) takes = cc
taken_is (text.Field name i) (Strong s) takes = refl
taken_is (text.Field name i) (Weak s) takes = cc
taken_is (text.Field name i) (Snapshot s) takes = cc
taken_is (text.WeakCell i) (Strong s) takes = cc
taken_is (text.WeakCell i) (Weak s) takes = refl
taken_is (text.WeakCell i) (Snapshot s) takes = cc
taken_is (text.WeakField name) (Strong s) takes = cc
taken_is (text.WeakField name) (Weak s) takes = refl
taken_is (text.WeakField name) (Snapshot s) takes = cc

-- the seat has to give what it has a handle of
may_give : (k : Kind) (p : Plain) (s : SlotId) → HasHandle p (handle_of k s)
    → handle_of k s ≡ handle_of k s → (k ≡ kind.Disposal → ⊥) → MayGive k (Some s) (seat_at p 0)
may_give kind.Strong p s has same other = has
may_give kind.Weak p s has same other = has
may_give kind.Disposal p s has same other = other refl

not_disposal : (place : TextPlace) → kind_at place ≡ kind.Disposal → ⊥
not_disposal (text.Cell i) is = absurd (cc is)
not_disposal (text.WeakCell i) is = absurd (cc is)
not_disposal (text.Field name i) is = absurd (cc is)
not_disposal (text.WeakField name) is = absurd (cc is)

-- what it holds of a handle
holds_handle : (p : Plain) (h : Handle) → HasHandle p h → Holds (seat_at p 0) (slot_of h)
holds_handle p (Strong s) has = omega arith
holds_handle p (Weak s) has = omega arith
holds_handle p (Snapshot (s, true)) has = omega arith
holds_handle p (Snapshot (s, false)) has = omega arith

module _ {P : Type 0} (i d : DeskState P) (is : i ≡ d) (kept : IsKept d) where
  has_of : (name : List ℕ) (h : Handle) → bound d.names name ≡ Some h → HasHandle (plain_of d) h
  has_of name h e = has_bound (plain_of d) d.names name h kept.kept.holds e

  pub open_here : (place : TextPlace) (at : EventPlace) → IsPlaceInRange (sizes_of d) place
      → AreMet d.names (place_needs place) → IsPlace d.names place at
      → IsOpen (plain_of i) 0 at
  open_here place at range met placed =
      subst (λ (x : DeskState P). IsOpen (plain_of x) 0 at) (sym is)
      (open_place (desk_of d) place at has_of range met placed)

  -- what a name is bound to, by its slot
  abbrev Known : List ℕ → SlotId → Type 0
  Known name s = (h : Handle) × (bound d.names name ≡ Some h) × (s ≡ slot_of h)

  pub holds_here : (name : List ℕ) (s : SlotId) → Known name s → Holds (seat_at (plain_of i) 0) s
  holds_here name s (h, e, same) =
      subst (λ (x : DeskState P × SlotId). Holds (seat_at (plain_of x.0) 0) x.1)
      (λ j. (sym is j, sym same j)) (holds_handle (plain_of d) h (has_of name h e))

  pub held_here : (name : Option (List ℕ)) (s : Option SlotId) → IsSlotOf d.names name s
      → IfSome s (Holds (seat_at (plain_of i) 0))
  held_here None s none =
      subst (λ (o : Option SlotId). IfSome o (Holds (seat_at (plain_of i) 0))) (sym none) tt
  held_here (Some name) s (h, e, same) =
      subst (λ (o : Option SlotId). IfSome o (Holds (seat_at (plain_of i) 0))) (sym same)
      (holds_here name (slot_of h) (h, e, refl))

  -- the kind of what a name gives to a place
  module _ (place : TextPlace) (at : EventPlace) (placed : IsPlace d.names place at)
      (name : List ℕ) (s : SlotId) (known : Known name s)
      (takes : IsBoundTo d.names name (taken_by place)) where
    abbrev h : Handle
    h = known.0

    is_taken : handle_of (kind_at place) s ≡ h
    is_taken =
        ap (handle_of (kind_at place)) known.2
        ∙ taken_is place h (kind_of (bound d.names name) (taken_by place) h takes known.1)

    pub gives_here : MayGive (place_kind at) (Some s) (seat_at (plain_of i) 0)
    gives_here =
        subst (λ (x : DeskState P × Kind). MayGive x.1 (Some s) (seat_at (plain_of x.0) 0))
        (λ j. (sym is j, sym (placed_kind d.names place at placed) j))
        (may_give (kind_at place) (plain_of d) s
        (subst (HasHandle (plain_of d)) (sym is_taken) (has_of name h known.1)) refl
        (not_disposal place))

    module _ (seat : SeatState (Unit {0})) (names : Names) (still : IsStill i seat)
        (binds : Binds i.names name None names)
        (puts : ThenTidies (Puts (plain_of i) at (Some s)) (known_plain i.domain seat)) where
      abbrev later : DeskState P
      later = record i { seat = seat; names = names }

      pub put_begins :
          Begins (desk_of d) (command.Put place name) said.Nothing (desk_of later)
      put_begins =
          let row : Begins (desk_of i) (command.Put place name) said.Nothing (desk_of later) = (
            record { plain = puts.0; names = names; makers = i.makers; makes = i.makes },
            (
              refl,
              (
                at,
                h,
                subst (λ (x : DeskState P). IsPlace x.names place at) (sym is) placed,
                ap (λ (x : DeskState P). bound x.names name) is ∙ known.1,
                subst (λ (x : SlotId). Puts (plain_of i) at (Some x) puts.0) known.2 puts.1,
                (binds, (refl, refl)),
              ),
            ),
            record { tidies = puts.2; names = refl; makers = (refl, refl) },
          ) in
          subst (λ (x : DeskState P).
          Begins (desk_of x) (command.Put place name) said.Nothing (desk_of later)) is row

      pub put_kept : (found : Option Handle) → found ≡ bound i.names name
          → IfSome found (λ x. CountsMore (values_of names) x (values_of i.names))
          → IsKept later
      put_kept found was fewer =
          let named : found ≡ Some h = was ∙ ap (λ (x : DeskState P). bound x.names name) is ∙ known.1 in
          let counts = subst (λ (o : Option Handle).
          IfSome o (λ x. CountsMore (values_of names) x (values_of i.names))) named fewer in
          let less : HasMore puts.0 h (plain_of i) =
          subst (λ (x : Handle). HasMore puts.0 x (plain_of i)) is_taken
          (replaces_fewer (plain_of i) puts.0 at (kind_at place) s
          (placed_kind d.names place at placed) puts.1.0.0 puts.1.1.2) in
          let one = kept_fewer (plain_of i) i.names i.makers _ _ (has_kept i d is kept).kept puts.0 h
          names less counts in
          still_kept i d is kept seat names still
          (kept_same puts.0 names i.makers _ _ one (plain_of later)
          (tidied_same puts.0 (plain_of later) puts.2))

  -- a place that is cleared
  module _ (place : TextPlace) (at : EventPlace) (placed : IsPlace d.names place at)
      (seat : SeatState (Unit {0})) (still : IsStill i seat)
      (puts : ThenTidies (Puts (plain_of i) at None) (known_plain i.domain seat)) where
    abbrev cleared : DeskState P
    cleared = record i { seat = seat }

    pub clear_begins : Begins (desk_of d) (command.Clear place) said.Nothing (desk_of cleared)
    clear_begins =
        let row : Begins (desk_of i) (command.Clear place) said.Nothing (desk_of cleared) = (
          record { plain = puts.0; names = i.names; makers = i.makers; makes = i.makes },
          (
            refl,
            (
              at,
              subst (λ (x : DeskState P). IsPlace x.names place at) (sym is) placed,
              puts.1,
              (refl, (refl, refl)),
            ),
          ),
          record { tidies = puts.2; names = refl; makers = (refl, refl) },
        ) in
        subst (λ (x : DeskState P).
        Begins (desk_of x) (command.Clear place) said.Nothing (desk_of cleared)) is row

    pub clear_kept : IsKept cleared
    clear_kept =
        still_kept i d is kept seat i.names still
        (kept_same (plain_of i) i.names i.makers _ _ (has_kept i d is kept).kept (plain_of cleared)
        (same_then (plain_of i) puts.0 (plain_of cleared)
        (replaces_same (plain_of i) puts.0 at puts.1.0.0 puts.1.1.2)
        (tidied_same puts.0 (plain_of cleared) puts.2)))

-- what was found by the names of the fields
module _ {P : Type 0} (i d : DeskState P) (is : i ≡ d) where
  pub placed_so : (place : TextPlace) (at : EventPlace) → IsPlace i.names place at
      → IsPlace d.names place at
  placed_so place at placed = subst (λ (x : DeskState P). IsPlace x.names place at) is placed

  pub known_so : (name : List ℕ) (s : SlotId)
      → (h : Handle) × (bound i.names name ≡ Some h) × (s ≡ slot_of h)
      → (h : Handle) × (bound d.names name ≡ Some h) × (s ≡ slot_of h)
  known_so name s (h, e, same) =
      (h, ap (λ (x : DeskState P). bound x.names name) (sym is) ∙ e, same)

  pub slot_so : (name : Option (List ℕ)) (s : Option SlotId) → IsSlotOf i.names name s
      → IsSlotOf d.names name s
  slot_so name s slot = subst (λ (x : DeskState P). IsSlotOf x.names name s) is slot

-- a load of a place of the words, by its kind
pub loads_strong_acts : (d : Desk) (place : TextPlace) (at : EventPlace) (new : List ℕ)
    (answer : Said) (e : Desk) → IsPlace d.names place at → place_kind at ≡ kind.Strong
    → LoadsStrong d at new answer e → Acts d (command.Load place new) answer e
loads_strong_acts d (text.Cell i) at new answer e placed strong loads = (at, placed, loads)
loads_strong_acts d (text.Field name i) at new answer e placed strong loads = (at, placed, loads)
loads_strong_acts d (text.WeakCell i) at new answer e placed strong loads =
    let weak = placed_kind d.names (text.WeakCell i) at placed in absurd (cc (weak, strong))
loads_strong_acts d (text.WeakField name) at new answer e placed strong loads =
    let weak = placed_kind d.names (text.WeakField name) at placed in absurd (cc (weak, strong))

pub loads_weak_acts : (d : Desk) (place : TextPlace) (at : EventPlace) (new : List ℕ)
    (answer : Said) (e : Desk) → IsPlace d.names place at → place_kind at ≡ kind.Weak
    → LoadsWeak d at new answer e → Acts d (command.Load place new) answer e
loads_weak_acts d (text.WeakCell i) at new answer e placed weak loads = (at, placed, loads)
loads_weak_acts d (text.WeakField name) at new answer e placed weak loads = (at, placed, loads)
loads_weak_acts d (text.Cell i) at new answer e placed weak loads =
    let strong = placed_kind d.names (text.Cell i) at placed in absurd (cc (strong, weak))
loads_weak_acts d (text.Field name i) at new answer e placed weak loads =
    let strong = placed_kind d.names (text.Field name i) at placed in absurd (cc (strong, weak))
