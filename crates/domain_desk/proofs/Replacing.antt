-- A place that is replaced where it holds what is expected: what the seat has then, and what was begun.
use Rattle.std.proofs.Common.{Bool, ◌≡◌, ⊎_elim, inl, inr, MatchOption, ℕ, ◌<◌, true, false, List, [], length, refl, ap, sym, ◌∙◌, subst, Option, Some, None, IfSome}
use Rattle.std.specs.Map.{values_of}
use Rattle.std.specs.Option.{option_and_then}
use Rattle.script_desk.specs.plain_state.declared.act.EventPlace.{EventPlace}
use Rattle.script_desk.specs.plain_state.declared.slot.Kind.{Kind}
use Rattle.script_desk.specs.plain_state.declared.slot.Kind.TheVariants as kind
use Rattle.script_desk.specs.plain_state.declared.slot.SlotId.{SlotId}
use Rattle.script_desk.specs.plain_state.Places.{place_kind}
use Rattle.script_desk.specs.plain_state.State.{Plain, seat_at}
use Rattle.script_desk.specs.plain_state.Steps.{Replaces}
use Rattle.script_desk.specs.plain_store.Calls.{MayGive, Tries}
use Rattle.lone_heap.specs.acquire_retire.Seats.{SeatState}
use Rattle.lone_heap.specs.Lone.{ThenTidies, known_plain}
use Rattle.script_desk.specs.script_lines.declared.command.Command.TheVariants as command
use Rattle.script_desk.specs.script_lines.declared.command.TextPlace.{TextPlace}
use Rattle.script_desk.specs.declared.handle.Handle.{Handle}
use Rattle.script_desk.specs.declared.handle.Handle.TheVariants.{Strong, Weak, Snapshot}
use Rattle.script_desk.specs.declared.said.Said.TheVariants as said
use Rattle.script_desk.specs.Desks.{Binds, Names, bound}
use Rattle.script_desk.specs.Effects.{GivesNew, IsPlace, IsSlotOf}
use Rattle.script_desk.specs.Faults.{need_of}
use Rattle.script_desk.specs.Handles.{is_strong, slot_of}
use Rattle.script_desk.specs.Holding.{CountsMore, HasHandle, HasMore, Kept}
use Rattle.script_desk.specs.Places.{AreMet}
use Rattle.script_desk.proofs.Gaining.{replaces_fewer, replaces_same}
use Rattle.script_desk.proofs.Needs.{first_met, kind_of}
use Rattle.script_desk.proofs.Placing.{tries_done}
use Rattle.script_desk.proofs.Steps.{same_as, same_then}
use Rattle.script_desk.proofs.Sums.{has_bound, kept_fewer, kept_same}
use Rattle.domain_desk.specs.Desks.{DeskState, IsKept, desk_of, plain_of}
use Rattle.domain_desk.specs.Runs.{Begins}
use Rattle.domain_desk.proofs.Keeping.{IsStill, has_kept, still_kept, tidied_same}

-- where the place held something else, nothing has changed
tries_lost : (p q : Plain) (place : EventPlace) (old new : Option SlotId)
    → Tries p place old new false q → q ≡ p
tries_lost p q place old new (exactly, (here, (opened, word, cases))) =
    ⊎_elim (λ x. absurd (cc (exactly.1 x.0))) (λ x. x.1) cases

pub tries_as : (p q : Plain) (at : EventPlace) (old new : Option SlotId) (b c : Bool) → b ≡ c
    → ThenTidies (Tries p at old new b) q → ThenTidies (Tries p at old new c) q
tries_as p q at old new b c is = subst (λ (x : Bool). ThenTidies (Tries p at old new x) q) is

-- a strong handle is of the slot that it names
strong_is : (h : Handle) → is_strong h ≡ true → h ≡ Strong (slot_of h)
strong_is (Strong s) strong = refl
strong_is (Weak s) strong = cc
strong_is (Snapshot s) strong = cc

module _ {P : Type 0} (i d : DeskState P) (is : i ≡ d) (kept : IsKept d) (at : EventPlace)
    (strong : place_kind at ≡ kind.Strong) where
  -- the strong reference that the new name stands for
  pub gives_slot : (new : Option (List ℕ)) (s : Option SlotId) → IsSlotOf d.names new s
      → AreMet d.names (need_of new is_strong)
      → MayGive (place_kind at) s (seat_at (plain_of i) 0)
  gives_slot new s slot met =
      subst (λ (x : DeskState P × Kind). MayGive x.1 s (seat_at (plain_of x.0) 0))
      (λ j. (sym is j, sym strong j)) (of new slot met)
    where
      of : (new : Option (List ℕ)) → IsSlotOf d.names new s
          → AreMet d.names (need_of new is_strong)
          → MayGive kind.Strong s (seat_at (plain_of d) 0)
      of None none met =
          subst (λ (o : Option SlotId). MayGive kind.Strong o (seat_at (plain_of d) 0)) (sym none) tt
      of (Some name) (h, e, same) met =
          let kind' = kind_of (bound d.names name) is_strong h
          (first_met d.names name is_strong [] met) e in
          let has : HasHandle (plain_of d) (Strong (slot_of h)) =
          subst (HasHandle (plain_of d)) (strong_is h kind')
          (has_bound (plain_of d) d.names name h kept.kept.holds e) in
          subst (λ (o : Option SlotId). MayGive kind.Strong o (seat_at (plain_of d) 0)) (sym same) has

  module _ (place : TextPlace) (placed : IsPlace d.names place at) (old new : Option (List ℕ))
      (expected slot : Option SlotId) (old_is : IsSlotOf d.names old expected)
      (new_is : IsSlotOf d.names new slot) (seat : SeatState (Unit {0}))
      (still : IsStill i seat) where
    module _ (tries : ThenTidies (Tries (plain_of i) at expected slot false)
        (known_plain i.domain seat)) where
      abbrev lost : DeskState P
      lost = record i { seat = seat }

      pub lost_begins :
          Begins (desk_of d) (command.Replace place old new) said.Lost (desk_of lost)
      lost_begins =
          let row : Begins (desk_of i) (command.Replace place old new) said.Lost (desk_of lost) = (
            record { plain = tries.0; names = i.names; makers = i.makers; makes = i.makes },
            (
              at,
              expected,
              slot,
              subst (λ (x : DeskState P). IsPlace x.names place at) (sym is) placed,
              subst (λ (x : DeskState P). IsSlotOf x.names old expected) (sym is) old_is,
              subst (λ (x : DeskState P). IsSlotOf x.names new slot) (sym is) new_is,
              inr (refl, tries.1, (refl, (refl, refl))),
            ),
            record { tidies = tries.2; names = refl; makers = (refl, refl) },
          ) in
          subst (λ (x : DeskState P).
          Begins (desk_of x) (command.Replace place old new) said.Lost (desk_of lost)) is row

      pub lost_kept : IsKept lost
      lost_kept =
          still_kept i d is kept seat i.names still
          (kept_same (plain_of i) i.names i.makers _ _ (has_kept i d is kept).kept (plain_of lost)
          (same_then (plain_of i) tries.0 (plain_of lost)
          (same_as (plain_of i) tries.0
          (tries_lost (plain_of i) tries.0 at expected slot tries.1))
          (tidied_same tries.0 (plain_of lost) tries.2)))

    module _ (names : Names)
        (binds : MatchOption new (names ≡ i.names) (λ n. Binds i.names n None names))
        (tries : ThenTidies (Tries (plain_of i) at expected slot true) (known_plain i.domain seat))
      where
        abbrev done : DeskState P
        done = record i { seat = seat; names = names }

        pub done_begins :
            Begins (desk_of d) (command.Replace place old new) said.Done (desk_of done)
        done_begins =
            let row : Begins (desk_of i) (command.Replace place old new) said.Done (desk_of done) = (
              record { plain = tries.0; names = names; makers = i.makers; makes = i.makes },
              (
                at,
                expected,
                slot,
                subst (λ (x : DeskState P). IsPlace x.names place at) (sym is) placed,
                subst (λ (x : DeskState P). IsSlotOf x.names old expected) (sym is) old_is,
                subst (λ (x : DeskState P). IsSlotOf x.names new slot) (sym is) new_is,
                inl (refl, tries.1, gives new binds),
              ),
              record { tidies = tries.2; names = refl; makers = (refl, refl) },
            ) in
            subst (λ (x : DeskState P).
            Begins (desk_of x) (command.Replace place old new) said.Done (desk_of done)) is row
          where
            gives : (n : Option (List ℕ))
                → MatchOption n (names ≡ i.names) (λ m. Binds i.names m None names)
                → GivesNew (desk_of i) n
                (record { plain = tries.0; names = names; makers = i.makers; makes = i.makes })
            gives None same = (same, (refl, refl))
            gives (Some n) b = (b, (refl, refl))

        pub done_kept : AreMet d.names (need_of new is_strong)
            → IfSome (option_and_then (bound i.names) new)
            (λ h. CountsMore (values_of names) h (values_of i.names)) → IsKept done
        done_kept met counts =
            still_kept i d is kept seat names still
            (kept_same tries.0 names i.makers _ _ (of new new_is binds counts met) (plain_of done)
            (tidied_same tries.0 (plain_of done) tries.2))
          where
            there : 0 < length (plain_of i).seats
            there = (tries_done (plain_of i) tries.0 at expected slot tries.1).0

            replaced : Replaces (plain_of i) 0 at slot tries.0
            replaced = (tries_done (plain_of i) tries.0 at expected slot tries.1).1

            of : (n : Option (List ℕ)) → IsSlotOf d.names n slot
                → MatchOption n (names ≡ i.names) (λ m. Binds i.names m None names)
                → IfSome (option_and_then (bound i.names) n)
                (λ h. CountsMore (values_of names) h (values_of i.names))
                → AreMet d.names (need_of n is_strong)
                → Kept tries.0 names i.makers i.cells i.weak_cells
            of None none same counts met =
                let r : Replaces (plain_of i) 0 at None tries.0 =
                subst (λ (o : Option SlotId). Replaces (plain_of i) 0 at o tries.0) none replaced in
                subst (λ (ns : Names). Kept tries.0 ns i.makers i.cells i.weak_cells) (sym same)
                (kept_same (plain_of i) i.names i.makers _ _ (has_kept i d is kept).kept tries.0
                (replaces_same (plain_of i) tries.0 at there r))
            of (Some n) (h, e, same) b counts met =
                let k = strong_is h (kind_of (bound d.names n) is_strong h
                (first_met d.names n is_strong [] met) e) in
                let named : bound i.names n ≡ Some h = ap (λ (x : DeskState P). bound x.names n) is ∙ e in
                let fewer = subst (λ (o : Option Handle).
                IfSome o (λ x. CountsMore (values_of names) x (values_of i.names))) named counts in
                let less = replaces_fewer (plain_of i) tries.0 at kind.Strong (slot_of h) strong there
                (subst (λ (o : Option SlotId). Replaces (plain_of i) 0 at o tries.0) same replaced) in
                kept_fewer (plain_of i) i.names i.makers _ _ (has_kept i d is kept).kept tries.0 h names
                (subst (λ (x : Handle). HasMore tries.0 x (plain_of i)) (sym k) less) fewer
