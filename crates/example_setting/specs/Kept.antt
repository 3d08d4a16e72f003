-- The law holds at the start, and steps of others keep it.
use Rattle.std.proofs.Common.{◌≡◌, ◌≢◌, ⊎_elim, ℕ, ◌<◌, List, [], length, get_or, map, replicate, refl, sym, subst, ◌∙◌, arith, Option, Some, None}
use Rattle.std.specs.Prelude.{Contains, slice_set}
use Rattle.std.specs.List.{range_with_len}
use Rattle.std.proofs.lemmas.Bool.{cases_eq, cases_lt}
use Rattle.std.proofs.lemmas.List.{get_or-set_same, get_or-set_other, get_or_past, get_or-replicate, length-replicate}
use Rattle.std.proofs.lemmas.List.FromFn.{get_or-map-range_with_len, length-map-range_with_len}
use Rattle.cdrc.specs.plain_state.declared.slot.SlotId.{SlotId}
use Rattle.cdrc.specs.plain_state.State.{Plain, slot_at}
use Rattle.cdrc.specs.plain_state.Lawful.{Lawful}
use Rattle.cdrc.specs.plain_protocol.Laws.{Starts, KeptByCalm, KeptByForeign}
use Rattle.cdrc.proofs.Below.protocol_pairs_Held.{cell_live}
use Rattle.cdrc.proofs.Below.protocol_pairs_Leaves.{calm_is_foreign, foreign_leaves}
use Rattle.cdrc.specs.protocol_pairs.Untouched.{IsUntouched}
use Rattle.example_setting.specs.Views.{View, no_view, view_at}
use Rattle.example_setting.specs.Setting.{WasStored, Holds, Setting, owns}

-- nothing is in an empty list
pub none_in : (value : List ℕ) → ¬ (Contains [] value)
none_in value has = absurd (omega (arith, has.1))

-- VIEWS
pub view_here : (views : List View) (n : ℕ) (w : View) → n < length views
    → view_at (slice_set views n w) n ≡ w
view_here views n w low = get_or-set_same views n w no_view low

pub view_else : (views : List View) (n m : ℕ) (w : View) → m ≢ n
    → view_at (slice_set views n w) m ≡ view_at views m
view_else views n m w not = get_or-set_other views n m w no_view not

-- a seat forgets nothing that it stored
pub stored_more : (views : List View) (n : ℕ) (w : View) → n < length views
    → ((value : List ℕ) → Contains (view_at views n).stored value → Contains w.stored value)
    → (value : List ℕ) → WasStored views value → WasStored (slice_set views n w) value
stored_more views n w low more value was = ⊎_elim
    (λ (is : was.0 ≡ n). (
      n,
      subst (λ (z : View). Contains z.stored value) (sym (view_here views n w low))
          (more value (subst (λ m. Contains (view_at views m).stored value) is was.1)),
    ))
    (λ (ne : was.0 ≢ n). (
      was.0,
      subst (λ (z : View). Contains z.stored value) (sym (view_else views n was.0 w ne)) was.1,
    ))
    (cases_eq was.0 n)

-- STATES
-- what the cell holds is what it held, with the value that it had
module _ (cell : ℕ) (p q : Plain) (views : List View) (lawful : Lawful p)
    (law : Setting cell p views) (same : IsUntouched (owns cell) p q) where
  pub held_before : (s : SlotId) → Holds q cell s → Holds p cell s
  held_before s holds = sym (same.cells cell refl) ∙ holds

  pub payload_before : (s : SlotId) → Holds p cell s → (slot_at q s).payload ≡ (slot_at p s).payload
  payload_before s holds = ((same.slots s).kept (cell_live p cell s lawful holds)).1

  pub untouched_keeps : Setting cell q views
  untouched_keeps = record {
    held = λ s holds.
        let was = held_before s holds in
        subst (WasStored views) (sym (payload_before s was)) (law.held s was);
    read = law.read;
  }

pub setting_start : (cell : ℕ) → Starts (Setting cell) (λ n. no_view)
setting_start cell seats slots cells weak_cells =
    let views = map (λ (n : ℕ). no_view) (range_with_len 0 seats) in
    let null : Option SlotId = None in
    let none : get_or (replicate cells null) cell null ≡ null =
    ⊎_elim (λ low. get_or-replicate cells cell null null low)
    (λ past. let l = length-replicate cells null in
    get_or_past (replicate cells null) cell null (omega arith)) (cases_lt cell cells) in
    let each : (n : ℕ) → view_at views n ≡ no_view =
    λ n. ⊎_elim
    (λ low. get_or-map-range_with_len (λ (m : ℕ). no_view) 0 seats n n no_view low (omega arith))
    (λ past. let l = length-map-range_with_len (λ (m : ℕ). no_view) 0 seats in
    get_or_past views n no_view (omega arith)) (cases_lt n seats) in
    record {
      held = λ s holds. let e : null ≡ Some s = sym none ∙ holds in absurd cc;
      read = λ n value has. absurd (none_in value
          (subst (λ (z : View). Contains z.read value) (each n) has));
    }

pub setting_foreign : (cell : ℕ) → KeptByForeign (Setting cell) (owns cell)
setting_foreign cell p q n step found views meets is does =
    untouched_keeps cell p q views meets.lawful meets.law
    (foreign_leaves (owns cell) p q n step found meets.lawful is does)

pub setting_calm : (cell : ℕ) → KeptByCalm (Setting cell)
setting_calm cell p q n step found views meets is does =
    setting_foreign cell p q n step found views meets (calm_is_foreign (owns cell) p step is) does
