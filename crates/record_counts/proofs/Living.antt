-- What lives is owned, or a slot that lives leads to it: so it is reached, and there is nothing of it where nothing is
-- owned.
use Rattle.std.proofs.Common.{◌≡◌, ◌≢◌, ◌⊎◌, inl, inr, ⊎_elim, ℕ, suc, ◌<◌, ◌≤◌, List, [], ◌∷◌, length, refl, ap, sym, ◌∙◌, arith, Some}
use Rattle.std.specs.Prelude.{slice_index_or}
use Rattle.plain_audit.specs.plain_state.declared.slot.SlotId.{SlotId}
use Rattle.plain_audit.specs.plain_state.declared.slot.Stage.TheVariants.{Free, Live}
use Rattle.plain_audit.specs.plain_state.Lawful.{Lawful}
use Rattle.plain_audit.specs.plain_state.Lists.{times}
use Rattle.plain_audit.specs.plain_state.References.{held_in, over_seats}
use Rattle.plain_audit.specs.plain_state.State.{Plain, PlainSeat, new_seat, seat_at, slot_at, stage_at}
use Rattle.plain_audit.proofs.Below.plain_state_Kit.{held_self, seats_at, times_none}
use Rattle.directory_law.specs.declared.view.View.{View as DirectoryView}
use Rattle.directory_law.specs.Cells.{Area}
use Rattle.directory_law.specs.Chains.{OwnSlot}
use Rattle.directory_law.specs.Law.{DirectoryLaw}
use Rattle.directory_law.specs.Payloads.{IsPart}
use Rattle.directory_law.specs.Promises.{Reaches}
use Rattle.directory_law.proofs.Bytes.{piece_own}
use Rattle.directory_law.proofs.Chains.{live_own, pointed_part}
use Rattle.directory_law.proofs.Gives.{parts_stand_once}
use Rattle.directory_law.proofs.Owns.{inside_if}
use Rattle.plain_audit.specs.heap_audit.Heaps.{slot}
use Rattle.plain_audit.specs.heap_audit.Paths.{Path}
use Rattle.plain_audit.specs.heap_audit.Reached.{HowMany}
use Rattle.plain_audit.proofs.Below.heap_audit_Going.{leads_on}
use Rattle.plain_audit.proofs.Below.heap_audit_Leasts.{many_none}
use Rattle.plain_audit.specs.Reached.{HasField, IsReached, IsRoot, IsUnreached}
use Rattle.record_counts.specs.Records.{HoldsRecords, IsAllReached}
use Rattle.record_counts.proofs.Finite.{going_back}

-- what seat 0 owns has a reference
pub root_refs : (s : SlotId) (vs : List PlainSeat)
    → times s (slice_index_or vs 0 new_seat).owned ≤ over_seats (λ v. times s v.owned) vs
root_refs s [] = let none = times_none s in omega arith
root_refs s (v ∷ vs) = seats_at (λ v. times s v.owned) (v ∷ vs) 0 (omega arith)

pub live_low : (p : Plain) (s : SlotId) → stage_at p s ≡ Live → s.0 < length p.slots
live_low p s live = inside_if p s (λ free. let wrong : Live ≡ Free = sym live ∙ free in cc)

abbrev pub Second : Plain → SlotId → SlotId → Type 0
Second p x y = (slot_at p x).second ≡ Some y

reaches : (p : Plain) (x : SlotId) (ys : List SlotId) (y : SlotId) → Path (Second p) x ys y
    → (n : ℕ) × Reaches p x y n
reaches p x [] y path = (0, path)
reaches p x (w ∷ ys) y path =
    let r = reaches p w ys y path.1 in (suc r.0, (w, path.0, r.1))

module _ (z : Area) (p : Plain) (views : List DirectoryView) (lawful : Lawful p)
    (law : DirectoryLaw z p views) (holds : HoldsRecords p) where
  pub own_live : (s : SlotId) → stage_at p s ≡ Live → OwnSlot p s
  own_live s live = live_own p s live (piece_own (slot_at p s).payload (holds.pieces s live))

  -- that to which one leads is a part
  pub leads_to_part : (t s : SlotId) → stage_at p t ≡ Live → Second p t s
      → IsPart (slot_at p s).payload
  leads_to_part t s live leads = pointed_part z p views s law (t, own_live t live, leads)

  acyclic : (s : SlotId) (ys : List SlotId) → stage_at p s ≡ Live → Path (Second p) s ys s → ⊥
  acyclic s ys live path =
      let r = reaches p s ys s path in
      (parts_stand_once z p views lawful law).acyclic s r.0 (own_live s live) r.1

  -- what holds of what is owned, and of each slot to which one of which it holds leads, holds of all that lives
  pub living : (Q : SlotId → Type 0) → ((s : SlotId) → 0 < times s (seat_at p 0).owned → Q s)
      → ((t s : SlotId) → stage_at p t ≡ Live → Second p t s → Q t → Q s)
      → (s : SlotId) → stage_at p s ≡ Live → Q s
  living Q root next =
      going_back (length p.slots) (λ t. stage_at p t ≡ Live) (Second p) Q (live_low p) acyclic step
    where
      step : (s : SlotId) → stage_at p s ≡ Live
          → Q s ⊎ ((t : SlotId) × (stage_at p t ≡ Live) × Second p t s × (Q t → Q s))
      step s live = ⊎_elim
          (λ (own : 0 < times s (seat_at p 0).owned). inl (root s own))
          (λ led. inr (led.0, led.1, led.2, next led.0 s led.1 led.2))
          (holds.led s live)

  live_reached : (s : SlotId) → stage_at p s ≡ Live → IsReached p s
  live_reached = living (IsReached p)
      (λ s own.
      let least = root_refs s p.seats in
      let root : IsRoot p s = omega arith in (s, root, inl refl))
      (λ t s live leads r.
      let here = ap (held_in s) leads ∙ held_self s in
      let field : HasField p t s = (live, omega arith) in
      (r.0, r.1, leads_on (HasField p) r.0 t s r.2 field))

  pub all_reached : IsAllReached p
  all_reached s un = un.1 (live_reached s un.0)

  pub none_cyclic : (many : ℕ) → HowMany (λ n. IsUnreached p (slot n)) (length p.slots) many
      → many ≡ 0
  none_cyclic many h = many_none (λ n. IsUnreached p (slot n)) (length p.slots) many
      (λ k. all_reached (slot k)) h

  pub none_lives : ((s : SlotId) → times s (seat_at p 0).owned ≡ 0) → (s : SlotId)
      → stage_at p s ≢ Live
  none_lives nothing = living (λ s. ⊥) (λ s own. omega (arith, own, nothing s))
      (λ t s live leads no. no)
