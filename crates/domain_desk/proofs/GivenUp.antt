-- Handles that are given up: what the desk's seat has then, and what the command did.
use Rattle.std.proofs.Common.{◌≡◌, ℕ, Bool, false, List, refl, sym, ◌∙◌, subst, Option, Some, None}
use Rattle.script_desk.specs.plain_state.declared.act.PlainAct.TheVariants as act
use Rattle.script_desk.specs.plain_state.declared.slot.Kind.TheVariants as kind
use Rattle.script_desk.specs.plain_state.declared.slot.SlotId.{SlotId}
use Rattle.script_desk.specs.plain_state.State.{Plain}
use Rattle.script_desk.specs.plain_state.Steps.{Does}
use Rattle.script_desk.specs.plain_store.Calls.{ending}
use Rattle.script_desk.proofs.Below.plain_settling_Settling.{tidies_none}
use Rattle.lone_heap.specs.acquire_retire.Seats.{SeatState}
use Rattle.lone_heap.specs.declared.words.Words.{Words}
use Rattle.lone_heap.specs.Lone.{ThenTidies, known_plain}
use Rattle.script_desk.specs.script_lines.declared.command.Command.{Command}
use Rattle.script_desk.specs.declared.handle.Handle.{Handle}
use Rattle.script_desk.specs.declared.said.Said.TheVariants as said
use Rattle.script_desk.specs.Desks.{Binds, Desk, Names, bound, scope_of}
use Rattle.script_desk.specs.Faults.{IsFaultless}
use Rattle.script_desk.specs.Holding.{HasHandle, giving}
use Rattle.script_desk.proofs.Giving.{GivesUp, give_told}
use Rattle.script_desk.proofs.Sums.{has_bound}
use Rattle.domain_desk.specs.Desks.{DeskState, IsKept, desk_of, plain_of}
use Rattle.domain_desk.specs.Runs.{Begins, GivesNamed}
use Rattle.domain_desk.proofs.Keeping.{has_kept}

-- a snapshot that isn't counted has ended by one step
pub uncounted_ends : (p q : Plain) (s t : SlotId) (counted found : Bool) → found ≡ counted
    → found ≡ false → t ≡ s → Does p 0 (act.EndSnapshot kind.Strong t) 0 q
    → ThenTidies (Does p 0 (ending s counted) 0) q
uncounted_ends p q s t counted found is not same does = (
  q,
  subst (λ (b : Bool). Does p 0 (ending s b) 0 q) (sym not ∙ is)
      (subst (λ (x : SlotId). Does p 0 (act.EndSnapshot kind.Strong x) 0 q) same does),
  tidies_none q q refl,
)

-- what a name was bound to
module _ {P : Type 0} (i d : DeskState P) (is : i ≡ d) (kept : IsKept d) (name : List ℕ)
    (found : Option Handle) (h : Handle) (was : found ≡ bound i.names name) (some : found ≡ Some h)
  where
    pub has_found : HasHandle (plain_of i) h
    has_found =
        has_bound (plain_of i) i.names name h (has_kept i d is kept).kept.holds (sym was ∙ some)

    pub found_given : (seat : SeatState (Unit {0})) (words : Words) (names : Names)
        → Binds i.names name None names
        → ThenTidies (Does (plain_of i) 0 (giving h) 0) (known_plain i.domain seat)
        → GivesNamed (desk_of d) name
        (desk_of (record i { seat = seat; words = words; names = names }))
    found_given seat words names binds gives =
        let row : GivesNamed (desk_of i) name
        (desk_of (record i { seat = seat; words = words; names = names })) = (
          h,
          record { plain = gives.0; names = names; makers = i.makers; makes = i.makes },
          sym was ∙ some,
          gives.1,
          (binds, (refl, refl)),
          record { tidies = gives.2; names = refl; makers = (refl, refl) },
        ) in
        subst (λ (x : DeskState P). GivesNamed (desk_of x) name
        (desk_of (record i { seat = seat; words = words; names = names }))) is row

-- a command that gives up what its name is bound to has begun so
pub given_begins : (d f : Desk) (c : Command) (name : List ℕ) → GivesUp c name
    → IsFaultless (scope_of d) c → GivesNamed d name f → Begins d c said.Nothing f
given_begins d f c name cases faultless (h, e, is, does, gives, tidied) =
    (e, give_told d e c name cases faultless (h, is, does, gives), tidied)
