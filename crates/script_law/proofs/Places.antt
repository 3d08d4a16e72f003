-- The places and the slots that the words of a command name, at desks that are alike.
use Rattle.std.proofs.Common.{◌≡◌, ◌≢◌, ℕ, ◌<◌, List, length, refl, ap, sym, ◌∙◌, arith, true, false, Option, Some, None}
use Rattle.script_desk.specs.plain_state.declared.act.EventPlace.{EventPlace}
use Rattle.script_desk.specs.plain_state.declared.act.EventPlace.TheVariants.{Field, WeakField}
use Rattle.script_desk.specs.plain_state.declared.slot.SlotId.{SlotId}
use Rattle.script_desk.specs.plain_state.declared.slot.Stage.TheVariants.{Free}
use Rattle.script_desk.specs.plain_state.Places.{content}
use Rattle.script_desk.specs.plain_state.State.{stage_at}
use Rattle.script_desk.proofs.Below.plain_state_SeatRows.{held_there}
use Rattle.script_desk.specs.script_lines.declared.command.TextPlace.{TextPlace}
use Rattle.script_desk.specs.script_lines.declared.command.TextPlace.TheVariants as text
use Rattle.script_desk.specs.declared.handle.Handle.{Handle}
use Rattle.script_desk.specs.declared.handle.Handle.TheVariants.{Strong, Weak, Snapshot}
use Rattle.script_desk.specs.Desks.{Desk, bound}
use Rattle.script_desk.specs.Effects.{IsPlace, IsSlotOf}
use Rattle.script_desk.specs.Handles.{slot_of}
use Rattle.script_desk.specs.Holding.{HasHandle}
use Rattle.script_desk.proofs.Sums.{has_bound}
use Rattle.script_law.specs.Desks.{DesksAlike}
use Rattle.script_law.specs.Orderly.{IsOrderly}
use Rattle.script_law.specs.Renamings.{IsRenaming, renamed}
use Rattle.script_law.proofs.Backwards.{renamed_back}
use Rattle.script_law.proofs.Desks.{bound_alike, slot_of_renamed}
use Rattle.script_law.proofs.States.{content_alike, renamed_place}

-- what a name is bound to isn't free
pub handle_taken : (d : Desk) → IsOrderly d → (name : List ℕ) (h : Handle) → bound d.names name ≡ Some h
    → stage_at d.plain (slot_of h) ≢ Free
handle_taken d k name h is = of h (has_bound d.plain k.listed name h k.holds (k.same name ∙ is))
  where
    there : 0 < length d.plain.seats
    there = let a = k.one in omega arith

    of : (g : Handle) → HasHandle d.plain g → stage_at d.plain (slot_of g) ≢ Free
    of (Strong s) has = held_there d.plain 0 s k.sound there (omega arith)
    of (Weak s) has = held_there d.plain 0 s k.sound there (omega arith)
    of (Snapshot (s, true)) has = held_there d.plain 0 s k.sound there (omega arith)
    of (Snapshot (s, false)) has = held_there d.plain 0 s k.sound there (omega arith)

module _ (to from : SlotId → SlotId) (d e : Desk) (r : IsRenaming (length d.plain.slots) to from) (alike : DesksAlike to d e) where
  pub slot_bound_alike : (name : List ℕ) (h h' : Handle) → bound d.names name ≡ Some h → bound e.names name ≡ Some h'
      → slot_of h' ≡ to (slot_of h)
  slot_bound_alike name h h' is is' = ap slot_of (bound_alike to d e alike name h h' is is') ∙ slot_of_renamed to h

  pub is_place_alike : (place : TextPlace) (at at' : EventPlace) → IsPlace d.names place at → IsPlace e.names place at'
      → at' ≡ renamed_place to at
  is_place_alike (text.Cell i) at at' is is' = is' ∙ sym (ap (renamed_place to) is)
  is_place_alike (text.WeakCell i) at at' is is' = is' ∙ sym (ap (renamed_place to) is)
  is_place_alike (text.Field name i) at at' (h, b, is) (h', b', is') =
      is' ∙ ap (λ (s : SlotId). Field s i) (slot_bound_alike name h h' b b') ∙ sym (ap (renamed_place to) is)
  is_place_alike (text.WeakField name) at at' (h, b, is) (h', b', is') =
      is' ∙ ap WeakField (slot_bound_alike name h h' b b') ∙ sym (ap (renamed_place to) is)

  pub is_slot_alike : (name : Option (List ℕ)) (o o' : Option SlotId) → IsSlotOf d.names name o → IsSlotOf e.names name o'
      → o' ≡ renamed to o
  is_slot_alike None o o' is is' = is' ∙ sym (ap (renamed to) is)
  is_slot_alike (Some name) o o' (h, b, is) (h', b', is') =
      is' ∙ ap Some (slot_bound_alike name h h' b b') ∙ sym (ap (renamed to) is)

  -- what places hold
  module _ (at at' : EventPlace) (same : at' ≡ renamed_place to at) where
    content_then : content e.plain at' ≡ renamed to (content d.plain at)
    content_then =
        ap (content e.plain) same ∙ content_alike to from (length d.plain.slots) r d.plain e.plain refl alike.plain at

    pub holds_alike : (s s' : SlotId) → content d.plain at ≡ Some s → content e.plain at' ≡ Some s' → s' ≡ to s
    holds_alike s s' is is' =
        let a : Some s' ≡ Some (to s) = sym is' ∙ content_then ∙ ap (renamed to) is in cc

    pub one_holds : (s : SlotId) → content d.plain at ≡ Some s → content e.plain at' ≡ None → ⊥
    one_holds s is is' = let a : None ≡ Some (to s) = sym is' ∙ content_then ∙ ap (renamed to) is in cc

    pub other_holds : (s' : SlotId) → content d.plain at ≡ None → content e.plain at' ≡ Some s' → ⊥
    other_holds s' is is' = let a : Some s' ≡ None = sym is' ∙ content_then ∙ ap (renamed to) is in cc

    module _ (old old' : Option SlotId) (expected : old' ≡ renamed to old) where
      pub expected_too : content d.plain at ≡ old → content e.plain at' ≡ old'
      expected_too is = content_then ∙ ap (renamed to) is ∙ sym expected

      pub expected_back : content e.plain at' ≡ old' → content d.plain at ≡ old
      expected_back is =
          sym (renamed_back to from (length d.plain.slots) r (content d.plain at))
          ∙ ap (renamed from) (sym content_then ∙ is ∙ expected)
          ∙ renamed_back to from (length d.plain.slots) r old
