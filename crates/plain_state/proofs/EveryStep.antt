-- Every plain step keeps Sound.
use Rattle.std.proofs.Common.{inl, inr, ⊎_elim, ℕ, ◌<◌, length, refl, sym, subst, arith, Option, None}
use Rattle.plain_state.specs.declared.act.EventPlace.{EventPlace}
use Rattle.plain_state.specs.declared.act.EventPlace.TheVariants.{Cell, Field, WeakCell, WeakField}
use Rattle.plain_state.specs.declared.act.PlainAct.{PlainAct}
use Rattle.plain_state.specs.declared.act.PlainAct.TheVariants as act
use Rattle.plain_state.specs.declared.slot.SlotId.{SlotId}
use Rattle.plain_state.specs.State.{Plain, seat_at}
use Rattle.plain_state.specs.Places.{IsOpen, IsDyingField}
use Rattle.plain_state.specs.Steps.{Replaces, Clears, Does}
use Rattle.plain_state.specs.Sound.{Sound}
use Rattle.plain_state.specs.Lawful.{IsCovered}
use Rattle.plain_state.proofs.Changes.{IsThere}
use Rattle.plain_state.proofs.SeatRows.{is_there, held_live, open_there, add_sound, add_refused_sound, ticket_sound, weak_gain_sound, drop_sound, weak_drop_sound, readable_there, check_sound, alive_sound, end_snapshot_sound, eject_sound, split_sound}
use Rattle.plain_state.proofs.SlotRows.{claim_sound, fill_sound, make_sound, mark_sound, end_sound, dying_ended, destroy_sound, give_sound}
use Rattle.plain_state.proofs.PlaceRows.{HasObject, replace_sound}
use Rattle.plain_state.proofs.Leaves.{leave_sound}

-- an open place is a cell, or a field of a live object
open_object : (p : Plain) (n : ℕ) (place : EventPlace) → Sound p → n < length p.seats
    → IsOpen p n place
    → HasObject p place
open_object p n (Cell i) so hn at = tt
open_object p n (Field s i) so hn at = inl (held_live p n s so hn at.1)
open_object p n (WeakCell i) so hn at = tt
open_object p n (WeakField s) so hn at = inl (held_live p n s so hn at)

-- a field of a dying slot is there, and its object has ended
dying_there : (p : Plain) (n : ℕ) (place : EventPlace) → Sound p → n < length p.seats
    → IsDyingField p n place
    → IsThere p place × HasObject p place
dying_there p n (Cell i) so hn at = absurd at
dying_there p n (Field s i) so hn at =
    let e = dying_ended p n s so hn at.1.0 in (is_there p s (λ f. cc), inr e)
dying_there p n (WeakCell i) so hn at = absurd at
dying_there p n (WeakField s) so hn at =
    let e = dying_ended p n s so hn at.0 in (is_there p s (λ f. cc), inr e)

replaces_sound : (p q : Plain) (n : ℕ) (place : EventPlace) (new : Option SlotId) → Sound p
    → n < length p.seats
    → IsOpen p n place → Replaces p n place new q → Sound q
replaces_sound p q n place new so hn at is =
    subst Sound (sym is.2)
    (replace_sound p n place new is.0 so hn
    (open_there p n place so hn at) (open_object p n place so hn at) is.1)

clears_sound : (p q : Plain) (n : ℕ) (place : EventPlace) → Sound p → n < length p.seats
    → IsDyingField p n place
    → Clears p n place q → Sound q
clears_sound p q n place so hn at is =
    let d = dying_there p n place so hn at in
    subst Sound (sym is) (replace_sound p n place None (seat_at p n) so hn d.0 d.1 refl)

pub step_sound : (p q : Plain) (n : ℕ) (a : PlainAct) (found : ℕ) → Sound p → Does p n a found q
    → Sound q
step_sound p q n (act.Claim s) found so d =
    subst Sound (sym d.1.4) (claim_sound p n s so d.0.0 d.1.0 d.1.1)
step_sound p q n (act.Fill s i word) found so d =
    subst Sound (sym d.1.4) (fill_sound p s i word so d.1.0)
step_sound p q n (act.Make s) found so d = subst Sound (sym d.1.3) (make_sound p n s so d.0.0 d.1.0)
step_sound p q n (act.Add s) found so d =
    ⊎_elim
    (λ up. subst Sound (sym up.2) (add_sound p n s so d.0.0 up.1))
    (λ refused. subst Sound (sym refused.2) (add_refused_sound p n so d.0.0))
    d.1.1
step_sound p q n (act.Drop s) found so d =
    subst Sound (sym d.1.3) (drop_sound p n s d.1.0 so d.0.0 d.1.1)
step_sound p q n (act.WeakGain s) found so d =
    subst Sound (sym d.1.2) (weak_gain_sound p n s so d.0.0 d.1.0)
step_sound p q n (act.WeakDrop s) found so d =
    subst Sound (sym d.1.3) (weak_drop_sound p n s d.1.0 so d.0.0 d.1.1)
step_sound p q n (act.Look place) found so d = subst Sound (sym d.1.2) so
step_sound p q n (act.Check j place) found so d =
    ⊎_elim
    (λ same. subst Sound (sym same) so)
    (λ taken.
    let gain = taken.2 in
    let there = readable_there p n place so d.0.0 d.1.0 in
    subst Sound (sym gain.2)
    (check_sound p n place taken.0 gain.0 so d.0.0 there taken.1 gain.1))
    d.1.2
step_sound p q n (act.Alive j) found so d =
    ⊎_elim
    (λ zero. subst Sound (sym zero.1) so)
    (λ alive.
    let gain = alive.2 in
    subst Sound (sym gain.2) (alive_sound p n d.1.0 gain.0 so d.0.0 alive.1 gain.1))
    d.1.3
step_sound p q n (act.EndSnapshot k s) found so d =
    subst Sound (sym d.1.3) (end_snapshot_sound p n k s d.1.0 so d.0.0 d.1.1)
step_sound p q n (act.Replace place new) found so d =
    replaces_sound p q n place new so d.0.0 d.1.0 d.1.2
step_sound p q n (act.TryReplace place old new) found so d =
    ⊎_elim
    (λ done. replaces_sound p q n place new so d.0.0 d.1.0 done.1)
    (λ lost. subst Sound (sym lost.1) so)
    d.1.2
step_sound p q n (act.Count s) found so d = subst Sound (sym d.1.2) so
step_sound p q n (act.Mark s) found so d =
    ⊎_elim
    (λ same. subst Sound (sym same.0) so)
    (λ zero. subst Sound (sym zero.2) (mark_sound p s so zero.0 zero.1))
    d.1.1
step_sound p q n (act.WeakCount s) found so d = subst Sound (sym d.1.2) so
step_sound p q n (act.See s i) found so d = subst Sound (sym d.1.3) so
step_sound p q n (act.Eject k s) found so d =
    let covered = subst IsCovered d.1.3 d.1.4 in
    subst Sound (sym d.1.3) (eject_sound p n k s d.1.0 so d.0.0 d.1.1 covered)
step_sound p q n (act.End s) found so d =
    subst Sound (sym d.1.3) (end_sound p n s so d.0.0 d.1.0 d.1.1)
step_sound p q n (act.Clear place) found so d = clears_sound p q n place so d.0.0 d.1.0 d.1.2
step_sound p q n (act.Destroy s) found so d =
    let gone = d.1.3 in
    subst Sound (sym gone.2) (destroy_sound p n s gone.0 so d.0.0 gone.1 d.1.0 d.1.1)
step_sound p q n (act.Give s) found so d = subst Sound (sym d.1.3) (give_sound p s so d.1.0 d.1.1)
step_sound p q n (act.Leave j) found so d = leave_sound p q j so (omega arith) d.1.2 d.1.1 d.1.8
step_sound p q n act.Split found so d =
    let same = d.1.1 in
    subst Sound (sym same.2) (split_sound p n same.0 so d.0.0 same.1)
step_sound p q n act.Ticket found so d = subst Sound (sym d.1.1) (ticket_sound p n so d.0.0)
step_sound p q n act.Still found so d = subst Sound (sym d.1.1) so
