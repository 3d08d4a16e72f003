-- What is told of the heap changes nothing; and a reference that was gained, or wasn't, and its name.
use Rattle.std.proofs.Common.{◌≡◌, ℕ, List, refl, ap, ◌∙◌, Some}
use Rattle.std.specs.Prelude.{slice_index}
use Rattle.script_desk.specs.plain_state.declared.slot.SlotId.{SlotId}
use Rattle.script_desk.specs.plain_state.State.{Plain, slot_at}
use Rattle.lone_heap.specs.acquire_retire.Seats.{SeatState}
use Rattle.lone_heap.specs.Lone.{known_plain}
use Rattle.script_desk.specs.script_lines.declared.command.Command.TheVariants as command
use Rattle.script_desk.specs.declared.handle.Handle.{Handle}
use Rattle.script_desk.specs.declared.said.Said.TheVariants as said
use Rattle.script_desk.specs.declared.sizes.Sizes.{Sizes}
use Rattle.script_desk.specs.Desks.{bound}
use Rattle.script_desk.specs.Effects.{Acts}
use Rattle.script_desk.specs.Handles.{slot_of}
use Rattle.script_desk.specs.Holding.{HasSame}
use Rattle.script_desk.proofs.Steps.{same_as}
use Rattle.domain_desk.specs.Desks.{DeskState, IsKept, desk_of, plain_of, sizes_of}
use Rattle.domain_desk.proofs.Keeping.{IsStill, kept_with}

module _ {P : Type 0} (i d : DeskState P) (is : i ≡ d) (kept : IsKept d)
    (seat : SeatState (Unit {0})) (still : IsStill i seat) where
  abbrev pub later : DeskState P
  later = record i { seat = seat }

  pub kept_so : HasSame (plain_of i) (plain_of later) → IsKept later
  kept_so same = kept_with i d is kept seat i.names still same refl

  module _ (same : known_plain i.domain seat ≡ plain_of i) where
    pub told_kept : IsKept later
    told_kept = kept_so (same_as (plain_of i) (plain_of later) same)

    pub same_desk : desk_of later ≡ desk_of d
    same_desk =
        ap (λ (p : Plain).
        record { plain = p; names = i.names; makers = i.makers; makes = i.makes }) same
        ∙ ap desk_of is

    -- the name's slot, and what was read of it
    module _ (name : List ℕ) (s : SlotId)
        (known : (h : Handle) × (bound d.names name ≡ Some h) × (s ≡ slot_of h)) where
      pub read_told : (word value : ℕ)
          → value ≡ slice_index (slot_at (plain_of i) s).payload word
          → Acts (desk_of d) (command.Read name word) (said.Word value) (desk_of later)
      read_told word value found = (
        known.0,
        known.1,
        ap said.Word
            (found
            ∙ (λ j. slice_index (slot_at (plain_of (is j)) (known.2 j)).payload word)),
        same_desk,
      )

-- the numbers of cells that the fields have
abbrev sizes_here : {P : Type 0} → DeskState P → Sizes
sizes_here i = record { cells = i.cells; weak_cells = i.weak_cells }

pub sizes_told : {P : Type 0} (i d : DeskState P) → i ≡ d → IsKept d → sizes_here i ≡ sizes_of d
sizes_told i d is kept =
    ap sizes_here is
    ∙ (λ j. record { cells = kept.kept.cells j; weak_cells = kept.kept.weak_cells j })
