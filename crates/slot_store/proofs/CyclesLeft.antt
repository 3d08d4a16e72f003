-- A seat that is alone and has settled leaves only cycles where nothing else refers to an object.
use Rattle.std.proofs.Common.{◌≡◌, ℕ, zero, suc, ◌+◌, ◌-◌, ◌<◌, ◌≤◌, Bool, true, false, List, [], ◌∷◌, refl, ap, sym, ◌∙◌, subst, arith}
use Rattle.std.specs.Prelude.{◌==◌, Option, Some, None, slice_index}
use Rattle.std.specs.Option.{option_map}
use Rattle.std.proofs.lemmas.Bool.Decides.{nat_tests}
use Rattle.protocol_pairs.specs.plain_state.declared.slot.Kind.{Kind}
use Rattle.protocol_pairs.specs.plain_state.declared.slot.Kind.TheVariants.{Strong, Weak, Disposal}
use Rattle.protocol_pairs.specs.plain_state.declared.slot.SlotId.{SlotId}
use Rattle.protocol_pairs.specs.plain_state.Lists.{Entry, entry_times, times}
use Rattle.protocol_pairs.specs.plain_state.declared.slot.Stage.TheVariants.{Live}
use Rattle.protocol_pairs.specs.plain_state.State.{Plain, stage_at}
use Rattle.claim_law.specs.core_events.declared.shape.Shape.{Shape}
use Rattle.claim_law.specs.core_events.declared.view.CoreView.{CoreView}
use Rattle.claim_law.specs.core_events.Runs.{Core, view_at}
use Rattle.claim_law.specs.core_events.Shows.{shows}
use Rattle.claim_law.specs.core_events.Views.{snapshots}
use Rattle.claim_law.specs.core_events.Words.{cell_at, slot_in}
use Rattle.claim_law.proofs.Below.core_law_Each.{get_each}
use Rattle.claim_law.proofs.Below.core_law_Kit.{entry_cons, entry_none, entry_one, kind_one, one_same}
use Rattle.retiring_stores.specs.domain_rule.declared.view.Whole.{Whole}
use Rattle.retiring_stores.specs.domain_rule.Views.{core_in}
use Rattle.retiring_stores.specs.acquire_retire.Domains.{DomainState}
use Rattle.retiring_stores.specs.acquire_retire.Seats.{SeatState}
use Rattle.retiring_stores.specs.acquire_retire.Wholes.{known_core}
use Rattle.retiring_stores.specs.control_word.Resting.{IsAtRest}
use Rattle.slot_store.specs.Leftovers.{HasNullCells, IsQuiet, LeavesCycles, RefersTo}
use Rattle.slot_store.proofs.Cycles.{live_referred}
use Rattle.slot_store.proofs.Lasting.{Lasts}
use Rattle.slot_store.proofs.Objects.{some_value}
use Rattle.slot_store.proofs.Turning.{nothing_in}

some_same : {A : Type 0} (x y : A) → Some x ≡ Some y → x ≡ y
some_same x y e = cc (e)

same_kind_one : (k : Kind) (n : ℕ) → kind_one k k n ≡ n
same_kind_one Strong n = refl
same_kind_one Weak n = refl
same_kind_one Disposal n = refl

-- a list in which no entry stands
no_entries : (es : List Entry) → ((k : Kind) (s : SlotId) → entry_times k s es ≤ 0) → es ≡ []
no_entries [] none = refl
no_entries (e ∷ es) none =
    let first = none e.0 e.1 in
    let more = entry_cons e.0 e.1 e es in
    let here : entry_one e.0 e.1 e ≡ 1 = same_kind_one e.0 _ ∙ one_same e.1 e.1 refl in
    absurd (omega arith)

slot_in_none : (w : ℕ) → slot_in w ≡ None → w ≡ 0
slot_in_none w none = go (w == 0) refl
  where
    go : (b : Bool) → (w == 0) ≡ b → w ≡ 0
    go true is = grind (arith, nat_tests)
    go false is =
        let some : Some (record { 0 = w - 1 }) ≡ None = rw is at none in absurd (cc (some))

-- a strong cell that is null holds the word 0
null_cells : (z : Shape) (c : Core) → HasNullCells (shows z c) → (i : ℕ) → i < z.cells
    → slice_index c.words (cell_at z i) ≡ 0
null_cells z c null i inside =
    let at : 0 + i ≡ i = omega arith in
    let f : ℕ → Option SlotId = λ j. slot_in (slice_index c.words (cell_at z j)) in
    slot_in_none (slice_index c.words (cell_at z i))
    (ap f (sym at) ∙ sym (get_each 0 z.cells i f None inside) ∙ null i)

module _ {P V : Type 0} (d : DomainState P) (old new : SeatState V) (lasts : Lasts d old new)
    (rest : IsAtRest d new) (quiet : IsQuiet new.view.core) where
  abbrev now : Core
  now = known_core new.view

  pub leaves_cycles : LeavesCycles new.view
  leaves_cycles p whole owned snapped null =
      let z = d.shape in
      let all = some_value new.view.whole lasts.known in
      let alone = lasts.says.whole all.0 all.1 in
      let root : new.view.core ≡ view_at now 0 = lasts.says.core ∙ ap (view_at now) alone.1 in
      let is : p ≡ shows z now =
      some_same p _
      (sym whole
      ∙ ap (λ (o : Option Whole).
      option_map (λ (x : Whole). shows new.view.core.shape (core_in x)) o) all.1)
      ∙ (λ i. shows (rest.of_domain.1 i) (alone.0 i)) in
      let retired : new.view.core.retired ≡ [] =
      no_entries new.view.core.retired
      (λ k s.
      let few = quiet.entries k s in
      let e = ap (entry_times k s) snapped in
      let none = entry_none k s in omega arith) in
      let dying : new.view.core.dying ≡ [] =
      nothing_in new.view.core.dying
      (λ s. not_dying s (times s new.view.core.dying) refl snapped) in
      let referred = live_referred z now lasts.sound alone.2
      (ap (λ (v : CoreView). v.phase) (sym root) ∙ rest.idle.0)
      (ap (λ (v : CoreView). v.owned) (sym root) ∙ owned)
      (ap (λ (v : CoreView). v.retired) (sym root) ∙ retired)
      (ap (λ (v : CoreView). v.owed) (sym root) ∙ rest.owes_nothing)
      (ap (λ (v : CoreView). v.dying) (sym root) ∙ dying)
      (null_cells z now (subst HasNullCells is null)) in
      record {
        retired = retired;
        dying = dying;
        referred =
            subst (λ (q : Plain). (s : SlotId) → stage_at q s ≡ Live
            → (x : SlotId) × (stage_at q x ≡ Live) × RefersTo q s x) (sym is) referred;
      }
    where
      not_dying : (s : SlotId) (n : ℕ) → times s new.view.core.dying ≡ n
          → snapshots new.view.core ≡ [] → times s new.view.core.dying ≤ 0
      not_dying s zero is snapped = omega arith
      not_dying s (suc n) is snapped =
          let some = quiet.dying s (omega arith) in
          let e = ap (entry_times Disposal s) snapped in
          let none = entry_none Disposal s in absurd (omega arith)
