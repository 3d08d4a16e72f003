-- The makes of a seat can be counted.
use Rattle.std.proofs.Common.{◌≡◌, ℕ, ◌+◌, ◌^◌, ◌<◌, ◌≤◌, List, [], ◌∷◌, ◌++◌, sum, ap, sym, subst, arith}
use Rattle.std.specs.Prelude.{slice_index_or}
use Rattle.std.proofs.lemmas.List.Sums.{sum_by_push}
use Rattle.atomic_table.specs.declared.shared.Seat.{Seat as TableSeat}
use Rattle.plain_state.specs.declared.act.PlainAct.{PlainAct}
use Rattle.plain_state.specs.declared.slot.SlotId.{SlotId}
use Rattle.plain_state.specs.State.{Plain}
use Rattle.domain_rule.specs.plain_protocol.Owns.{OwnPart}
use Rattle.core_promises.specs.core_events.declared.act.Act.TheVariants as act
use Rattle.core_promises.specs.core_events.declared.act.Event.{Event}
use Rattle.core_promises.specs.core_events.declared.shape.Shape.{Shape}
use Rattle.core_promises.specs.core_events.declared.view.CoreView.{CoreView}
use Rattle.core_promises.specs.core_events.Runs.{AreTerms, Core, History, IsShape, view_at}
use Rattle.core_promises.specs.core_events.Views.{Terms, allowed_makes, granted}
use Rattle.core_promises.proofs.Below.core_law_Parts.{sound_good}
use Rattle.core_promises.proofs.Below.core_law_Always.{history_sound}
use Rattle.core_promises.proofs.Below.core_law_Grants.{history_grants}
use Rattle.core_promises.proofs.Granted.{seat_granted}
use Rattle.domain_rule.specs.declared.view.SeatView.{SeatView}
use Rattle.acquire_retire.specs.Calls.{Stepped}
use Rattle.acquire_retire.specs.Domains.{DomainState}
use Rattle.acquire_retire.specs.Seats.{IsSeat, Stored}

-- what a seat's tickets grant is bounded by what all grants make
pub grants_few : (z : Shape) (ts : Terms) (es : List Event) (c : Core) → IsShape z → AreTerms z ts
    → History z ts es c → (n : ℕ) → n < z.seats → (v : CoreView) → v ≡ view_at c n
    → granted v.grants v.tickets ≤ 2 ^ 40
grants_few z ts es c shape terms history n there v is =
    let so = history_sound z ts es c shape terms history in
    let views = so.views in
    let most = seat_granted z c n (sound_good z c so).tickets (omega arith) in
    let quotas = terms.0 in
    let grants = ap sum (history_grants z ts es c history n (omega arith)) in
    let few = terms.2 in
    let same = ap (λ (u : CoreView). granted u.grants u.tickets) is in omega arith

-- so a seat that may claim has used few makes
pub claims_few : {P V : Type 0} {fits : List ℕ → Type 0} (d : DomainState P)
    (next_view : OwnPart → OwnPart → V → PlainAct → ℕ → V)
    (allows : Plain → Plain → ℕ → V → V → Type 0) (s : SlotId)
    (old new : TableSeat (Unit {0}) (SeatView V)) (w : ℕ)
    → Stepped fits d next_view allows (act.Claim s) old w new
    → (t : Stored) (batch_room seen_room dying_room : ℕ)
    → IsSeat old.me t batch_room seen_room dying_room → t.makes + 1 < 2 ^ 64
claims_few d next_view allows s old new w step t batch_room seen_room dying_room seat =
    let h = step.told.happened in
    let makes = subst (λ (v : CoreView). v.makes < allowed_makes v) (sym h.view) h.enabled.1.2 in
    let quota = seat.seated.law.quota.0 in
    let few = seat.seated.granted in
    let had = ap (λ (x : Stored). x.makes) seat.stores in omega arith

-- what the tickets grant once a number is drawn
pub granted_more : (grants own ts : List ℕ) (w : ℕ) → own ≡ grants
    → granted grants ts + slice_index_or own w 0 ≡ granted grants (ts ++ w ∷ [])
granted_more grants own ts w same =
    let a = sum_by_push (λ (t : ℕ). slice_index_or grants t 0) ts w in
    let e = ap (λ (gs : List ℕ). slice_index_or gs w 0) same in omega arith
