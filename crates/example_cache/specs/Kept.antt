-- The law holds at the start, and steps of others keep it.
use Rattle.std.proofs.Common.{◌≡◌, ⊎_elim, ℕ, ◌<◌, List, length, get_or, replicate, refl, sym, ap, subst, ◌∙◌, arith, Option, Some, None}
use Rattle.std.specs.Prelude.{Contains, slice_set}
use Rattle.std.proofs.lemmas.Bool.{cases_lt}
use Rattle.std.proofs.lemmas.List.{get_or_past, get_or-replicate, length-replicate}
use Rattle.cdrc.specs.plain_state.declared.act.PlainAct.{PlainAct}
use Rattle.cdrc.specs.plain_state.declared.act.PlainAct.TheVariants as act
use Rattle.cdrc.specs.plain_state.declared.slot.SlotId.{SlotId}
use Rattle.cdrc.specs.plain_state.State.{Plain, slot_at, stage_at}
use Rattle.cdrc.specs.plain_state.Lawful.{Lawful}
use Rattle.cdrc.specs.plain_state.Steps.{Does}
use Rattle.cdrc.specs.plain_protocol.Calm.{IsMade}
use Rattle.cdrc.specs.plain_protocol.Laws.{Starts, KeptByCalm, KeptByForeign, KeptByLeave}
use Rattle.cdrc.proofs.Below.protocol_pairs_Leaves.{calm_is_foreign, foreign_leaves}
use Rattle.cdrc.proofs.Below.protocol_pairs_Notes.{none_noted, noted_after, noted_before, noted_cases, noted_still}
use Rattle.cdrc.proofs.Below.protocol_pairs_WeaklyHeld.{goes_on, weak_cell_times}
use Rattle.example_cache.specs.Views.{View, WasRemembered, joined, no_view, view_at}
use Rattle.example_cache.specs.Cache.{Cache, Holds, owns}

-- STEPS. What the cell held goes on to be an object, with its value
module _ (cell : ℕ) (p q : Plain) (views : List View) (n : ℕ) (step : PlainAct) (found : ℕ)
    (lawful : Lawful p) (does : Does p n step found q) (law : Cache cell p views) where
  pub held_still : (s : SlotId) → Holds cell p s
      → IsMade (stage_at q s) × ((slot_at q s).payload ≡ (slot_at p s).payload)
  held_still s holds = goes_on p q n step found lawful does s (weak_cell_times p cell s holds)
      (law.held s holds).0

  pub same_cell : ((s : SlotId) → Holds cell q s → Holds cell p s) → Cache cell q views
  same_cell before = record {
    held = λ s holds.
        let was = before s holds in
        let still = held_still s was in
        (still.0, subst (WasRemembered views) (sym still.1) (law.held s was).1);
    recalled = law.recalled;
  }

pub cache_start : (cell : ℕ) → Starts (Cache cell) (λ n. no_view)
cache_start cell seats slots cells weak_cells =
    let null : Option SlotId = None in
    let none : get_or (replicate weak_cells null) cell null ≡ null =
    ⊎_elim (λ low. get_or-replicate weak_cells cell null null low)
    (λ past. let l = length-replicate weak_cells null in
    get_or_past (replicate weak_cells null) cell null (omega arith)) (cases_lt cell weak_cells) in
    record {
      held = λ s holds. let e : null ≡ Some s = sym none ∙ holds in absurd cc;
      recalled = λ value was.
          absurd (none_noted no_view (λ (z : View). z.recalled) refl seats value was);
    }

pub cache_foreign : (cell : ℕ) → KeptByForeign (Cache cell) (owns cell)
cache_foreign cell p q n step found views meets is does =
    let same = foreign_leaves (owns cell) p q n step found meets.lawful is does in
    same_cell cell p q views n step found meets.lawful does meets.law
    (λ s holds. sym (same.weak_cells cell refl) ∙ holds)

pub cache_calm : (cell : ℕ) → KeptByCalm (Cache cell)
cache_calm cell p q n step found views meets is does =
    cache_foreign cell p q n step found views meets (calm_is_foreign (owns cell) p step is) does

-- VIEWS. A seat's view grows, by values that it remembered and by values that were remembered
pub view_grows : (cell : ℕ) (p : Plain) (views : List View) (n : ℕ) (w : View) → n < length views
    → Cache cell p views
    → ((value : List ℕ) → Contains (view_at views n).remembered value → Contains w.remembered value)
    → ((value : List ℕ) → Contains w.recalled value → WasRemembered views value)
    → Cache cell p (slice_set views n w)
view_grows cell p views n w low law more recalled =
    let still = noted_still no_view (λ (z : View). z.remembered) views n w low more in
    record {
      held = λ s holds. ((law.held s holds).0, still _ (law.held s holds).1);
      recalled = λ value now. still value
          (⊎_elim (λ has. recalled value has) (λ was. law.recalled value was)
          (noted_cases no_view (λ (z : View). z.recalled) views n w low value now));
    }

-- A LEAVE
pub cache_leave : (cell : ℕ) → KeptByLeave (Cache cell) joined no_view
cache_leave cell p q j found views meets does =
    let c = meets.count in
    let m = does.1.2 in
    let there : j < length views = omega arith in
    let still = noted_after no_view (λ (z : View). z.remembered) joined refl (λ a b. refl) views j
    there does.1.1 in
    let was = noted_before no_view (λ (z : View). z.recalled) joined refl (λ a b. refl) views j
    there does.1.1 in
    let law = same_cell cell p q views 0 (act.Leave j) found meets.lawful does meets.law
    (λ s holds. ap (λ (z : Plain). get_or z.weak_cells cell None) (sym does.1.8) ∙ holds) in
    record {
      held = λ s holds. ((law.held s holds).0, still _ (law.held s holds).1);
      recalled = λ value now. still value (law.recalled value (was value now));
    }
