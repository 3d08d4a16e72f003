-- Sums over seats, slots and cells of which one alone has anything, or none.
use Rattle.std.proofs.Common.{◌≡◌, ◌≢◌, ◌⊎◌, inl, inr, ⊎_elim, ℕ, suc, ◌+◌, ◌<◌, List, [], ◌∷◌, get_or, refl, ap, sym, ◌∙◌, arith, Option, Some, None}
use Rattle.std.specs.Prelude.{if◌then◌else◌}
use Rattle.std.proofs.lemmas.List.Sums.{sum_by-cons}
use Rattle.plain_audit.specs.plain_state.declared.slot.PlainSlot.{PlainSlot}
use Rattle.plain_audit.specs.plain_state.declared.slot.SlotId.{SlotId}
use Rattle.plain_audit.specs.plain_state.declared.slot.Stage.{Stage}
use Rattle.plain_audit.specs.plain_state.declared.slot.Stage.TheVariants.{Free, Blank, Live, Ended, Husk}
use Rattle.plain_audit.specs.plain_state.Lists.{cell_times, holds}
use Rattle.plain_audit.specs.plain_state.References.{held_in, over_seats, over_slots}
use Rattle.plain_audit.specs.plain_state.State.{Plain, PlainSeat, new_seat, new_slot, stage_at}
use Rattle.plain_audit.specs.Audits.{if_live, live_bytes, live_slots}
use Rattle.plain_audit.proofs.Below.plain_state_Kit.{cells_none, held_is, held_none, none_or_some}

-- a number of which no seat has any
pub seats_none : (f : PlainSeat → ℕ) (vs : List PlainSeat)
    → ((n : ℕ) → f (get_or vs n new_seat) ≡ 0) → over_seats f vs ≡ 0
unfolding over_seats
seats_none f [] none = refl
seats_none f (v ∷ vs) none =
    let first : f v ≡ 0 = none 0 in
    let rest : over_seats f vs ≡ 0 = seats_none f vs (λ n. none (suc n)) in
    let all = sum_by-cons f v vs in omega arith

-- a number of which seat 0 alone has any
pub seats_root : (f : PlainSeat → ℕ) (vs : List PlainSeat) → f new_seat ≡ 0
    → ((n : ℕ) → 0 < n → f (get_or vs n new_seat) ≡ 0) → over_seats f vs ≡ f (get_or vs 0 new_seat)
unfolding over_seats
seats_root f [] new others = sym new
seats_root f (v ∷ vs) new others =
    let rest : over_seats f vs ≡ 0 = seats_none f vs (λ n. others (suc n) (omega arith)) in
    let all = sum_by-cons f v vs in omega arith

-- where all slots have something together, some slot has
pub some_slot : (f : PlainSlot → ℕ) (xs : List PlainSlot) → 0 < over_slots f xs
    → (k : ℕ) × (0 < f (get_or xs k new_slot))
unfolding over_slots
some_slot f [] some = absurd (omega (arith, some))
some_slot f (x ∷ xs) some = ⊎_elim
    (λ (none : f x ≡ 0).
    let all = sum_by-cons f x xs in
    let r = some_slot f xs (omega arith) in (suc r.0, r.1))
    (λ (here : 0 < f x). (0, here))
    (none_or_some (f x))

-- cells that are all null
cells_cons : (s : SlotId) (c : Option SlotId) (cs : List (Option SlotId))
    → cell_times s (c ∷ cs) ≡ held_in s c + cell_times s cs
unfolding cell_times held_in
cells_cons s c cs = sum_by-cons (λ (d : Option SlotId). if holds s d then 1 else 0) c cs

pub null_cells : (s : SlotId) (cs : List (Option SlotId)) → ((i : ℕ) → get_or cs i None ≡ None)
    → cell_times s cs ≡ 0
null_cells s [] null = cells_none s
null_cells s (c ∷ cs) null =
    let first : held_in s c ≡ 0 = ap (held_in s) (null 0) ∙ held_none s in
    let rest = null_cells s cs (λ i. null (suc i)) in
    let all = cells_cons s c cs in omega arith

-- a place that counts for s holds s
pub held_some : (s : SlotId) (place : Option SlotId) → 0 < held_in s place → place ≡ Some s
held_some s None some = absurd (omega (arith, some, held_none s))
held_some s (Some x) some = ap (λ (y : SlotId). Some y) (held_is s x some)

-- a number of which no slot has any
slots_none : (f : PlainSlot → ℕ) (xs : List PlainSlot)
    → ((k : ℕ) → f (get_or xs k new_slot) ≡ 0) → over_slots f xs ≡ 0
unfolding over_slots
slots_none f [] none = refl
slots_none f (x ∷ xs) none =
    let first : f x ≡ 0 = none 0 in
    let rest : over_slots f xs ≡ 0 = slots_none f xs (λ n. none (suc n)) in
    let all = sum_by-cons f x xs in omega arith

pub if_not_live : (n : ℕ) (g : Stage) → g ≢ Live → if_live n g ≡ 0
if_not_live n Free not = refl
if_not_live n Blank not = refl
if_not_live n Live not = absurd (not refl)
if_not_live n Ended not = refl
if_not_live n Husk not = refl

pub no_slots : (p : Plain) → ((s : SlotId) → stage_at p s ≢ Live) → live_slots p ≡ 0
no_slots p none = slots_none (λ x. if_live 1 x.stage) p.slots
    (λ k. if_not_live 1 (get_or p.slots k new_slot).stage (none (record { 0 = k })))

pub no_bytes : (p : Plain) (weight : List ℕ → ℕ) → ((s : SlotId) → stage_at p s ≢ Live)
    → live_bytes weight p ≡ 0
no_bytes p weight none = slots_none (λ x. if_live (weight x.payload) x.stage) p.slots
    (λ k. if_not_live (weight (get_or p.slots k new_slot).payload) (get_or p.slots k new_slot).stage
    (none (record { 0 = k })))

pub stage_live : (g : Stage) → (g ≡ Live) ⊎ (g ≢ Live)
stage_live Free = inr (λ (e : Free ≡ Live). cc)
stage_live Blank = inr (λ (e : Blank ≡ Live). cc)
stage_live Live = inl refl
stage_live Ended = inr (λ (e : Ended ≡ Live). cc)
stage_live Husk = inr (λ (e : Husk ≡ Live). cc)
