-- Two free slots may change their new names.
use Rattle.std.proofs.Common.{◌≡◌, ◌≢◌, ⊎_elim, ℕ, ◌<◌, List, [], ◌∷◌, length, refl, ap, ap₂, sym, ◌∙◌, subst, arith, Option, Some, None}
use Rattle.std.specs.Prelude.{map}
use Rattle.script_desk.specs.plain_state.declared.slot.SlotId.{SlotId}
use Rattle.script_desk.specs.plain_state.declared.slot.Stage.TheVariants.{Free}
use Rattle.script_desk.specs.plain_state.Lists.{cell_times, entry_times, times}
use Rattle.script_desk.specs.plain_state.References.{held_in}
use Rattle.script_desk.specs.plain_state.State.{seat_at, slot_at, stage_at}
use Rattle.script_desk.proofs.Below.plain_state_Kit.{cases_slot, held_self, slot_is}
use Rattle.script_desk.specs.declared.handle.Handle.{Handle}
use Rattle.script_desk.specs.declared.handle.Handle.TheVariants.{Strong, Weak, Snapshot}
use Rattle.script_desk.specs.Desks.{Desk, bound, maker_of}
use Rattle.script_desk.specs.Handles.{slot_of}
use Rattle.script_law.specs.Desks.{DesksAlike, renamed_bound, renamed_handle}
use Rattle.script_law.specs.Orderly.{IsOrderly}
use Rattle.script_law.specs.Renamings.{IsRenaming, renamed}
use Rattle.script_law.specs.States.{SlotsAlike, StatesAlike}
use Rattle.script_law.proofs.Counts.{cells_cons}
use Rattle.script_law.proofs.Places.{handle_taken}
use Rattle.script_law.proofs.Sums.{swapped, swapped_first, swapped_other, swapped_second, swaps, then_renamed}
use Rattle.script_law.proofs.Unheld.{cells_unheld, deferred_none, first_unheld, owned_none, second_unheld, snapshots_none, weak_cells_unheld, weak_unheld, weaks_none}

-- s is named t' now, and what was named t' has the name that s had
module _ (to from : SlotId → SlotId) (n : ℕ) (r : IsRenaming n to from) (s t' : SlotId) (hs : s.0 < n) (ht : t'.0 < n) where
  pub up : SlotId → SlotId
  up = swapped (to s) t'

  pub turned : SlotId → SlotId
  turned u = up (to u)

  pub turned_back : SlotId → SlotId
  turned_back u = from (up u)

  pub turned_renaming : IsRenaming n turned turned_back
  unfolding up turned turned_back
  turned_renaming = then_renamed n to from (swapped (to s) t') (swapped (to s) t') r (swaps n (to s) t' (r.inside s hs) ht)

  pub turned_first : turned s ≡ t'
  unfolding up turned
  turned_first = swapped_first (to s) t'

  turned_second : turned (from t') ≡ to s
  unfolding up turned
  turned_second = ap (swapped (to s) t') (r.forth t') ∙ swapped_second (to s) t'

  turned_other : (u : SlotId) → u ≢ s → u ≢ from t' → turned u ≡ to u
  unfolding up turned
  turned_other u a b =
      swapped_other (to s) t' (to u)
      (λ e. a (sym (r.back u) ∙ ap from (slot_is (to u) (to s) e) ∙ r.back s))
      (λ e. b (sym (r.back u) ∙ ap from (slot_is (to u) t' e)))

  -- what is counted nowhere of these two is counted as before
  counted : (f g : SlotId → ℕ) → ((u : SlotId) → g (to u) ≡ f u) → f s ≡ 0 → f (from t') ≡ 0 → (u : SlotId) → g (turned u) ≡ f u
  counted f g same zero_s zero_t u =
      ⊎_elim
      (λ (e : u ≡ s). ap (λ (x : SlotId). g (turned x)) e ∙ ap g (turned_first ∙ sym (r.forth t')) ∙ same (from t') ∙ zero_t ∙ sym zero_s ∙ ap f (sym e))
      (λ (ne : u.0 ≢ s.0). ⊎_elim
      (λ (e : u ≡ from t'). ap (λ (x : SlotId). g (turned x)) e ∙ ap g turned_second ∙ same s ∙ zero_s ∙ sym zero_t ∙ ap f (sym e))
      (λ (ne' : u.0 ≢ (from t').0).
      ap g (turned_other u (λ e. ne (ap (λ (x : SlotId). x.0) e)) (λ e. ne' (ap (λ (x : SlotId). x.0) e))) ∙ same u)
      (cases_slot u (from t')))
      (cases_slot u s)

  place_turned : (o : Option SlotId) → held_in s o ≡ 0 → held_in (from t') o ≡ 0 → renamed turned o ≡ renamed to o
  place_turned None a b = refl
  place_turned (Some u) a b =
      ap Some (turned_other u
      (λ e. let x = ap (λ (v : SlotId). held_in s (Some v)) e in let y = held_self s in omega arith)
      (λ e. let x = ap (λ (v : SlotId). held_in (from t') (Some v)) e in let y = held_self (from t') in omega arith))

  cells_turned : (cs : List (Option SlotId)) → cell_times s cs ≡ 0 → cell_times (from t') cs ≡ 0
      → map (renamed turned) cs ≡ map (renamed to) cs
  cells_turned [] a b = refl
  cells_turned (c ∷ cs) a b =
      let x = cells_cons s c cs in
      let y = cells_cons (from t') c cs in
      ap₂ (λ (d : Option SlotId) (ds : List (Option SlotId)). d ∷ ds) (place_turned c (omega arith) (omega arith))
      (cells_turned cs (omega arith) (omega arith))

  -- ---- states and desks
  module _ (d e : Desk) (size : n ≡ length d.plain.slots) (alike : DesksAlike to d e) (k : IsOrderly d) (l : IsOrderly e)
      (free : stage_at d.plain s ≡ Free) (free' : stage_at e.plain t' ≡ Free) where
    was_free : stage_at d.plain (from t') ≡ Free
    was_free = sym (alike.plain.slots (from t')).stage ∙ ap (stage_at e.plain) (r.forth t') ∙ free'

    is_free : stage_at e.plain (to s) ≡ Free
    is_free = (alike.plain.slots s).stage ∙ free

    -- two free slots are alike
    frees_alike : (u v : SlotId) → stage_at d.plain u ≡ Free → stage_at e.plain v ≡ Free
        → SlotsAlike turned (slot_at d.plain u) (slot_at e.plain v)
    frees_alike u v fu fv =
        let a = k.sound.lawful.nulls u ((λ x. cc), (λ x. cc)) in
        let b = l.sound.lawful.nulls v ((λ x. cc), (λ x. cc)) in record {
          stage = fv ∙ sym fu;
          marked = l.sound.lawful.marks v (λ x. cc) ∙ sym (k.sound.lawful.marks u (λ x. cc));
          payload = λ taken. absurd (taken fu);
          first = b.0 ∙ sym (ap (renamed turned) a.0);
          second = b.1 ∙ sym (ap (renamed turned) a.1);
          weak_field = b.2 ∙ sym (ap (renamed turned) a.2);
        }

    others_alike : (u : SlotId) → u ≢ s → u ≢ from t' → SlotsAlike turned (slot_at d.plain u) (slot_at e.plain (turned u))
    others_alike u a b =
        let same = alike.plain.slots u in
        subst (λ (v : SlotId). SlotsAlike turned (slot_at d.plain u) (slot_at e.plain v)) (sym (turned_other u a b)) (record {
          stage = same.stage;
          marked = same.marked;
          payload = same.payload;
          first = same.first ∙ sym (place_turned (slot_at d.plain u).first
              (first_unheld d.plain k.sound k.one k.quiet s free u) (first_unheld d.plain k.sound k.one k.quiet (from t') was_free u));
          second = same.second ∙ sym (place_turned (slot_at d.plain u).second
              (second_unheld d.plain k.sound k.one k.quiet s free u) (second_unheld d.plain k.sound k.one k.quiet (from t') was_free u));
          weak_field = same.weak_field ∙ sym (place_turned (slot_at d.plain u).weak_field
              (weak_unheld d.plain k.sound k.one k.quiet s free u) (weak_unheld d.plain k.sound k.one k.quiet (from t') was_free u));
        })

    slots_turned : (u : SlotId) → SlotsAlike turned (slot_at d.plain u) (slot_at e.plain (turned u))
    slots_turned u =
        ⊎_elim
        (λ (x : u ≡ s). frees_alike u (turned u) (ap (stage_at d.plain) x ∙ free) (ap (λ (v : SlotId). stage_at e.plain (turned v)) x ∙ ap (stage_at e.plain) turned_first ∙ free'))
        (λ (ne : u.0 ≢ s.0). ⊎_elim
        (λ (x : u ≡ from t').
        frees_alike u (turned u) (ap (stage_at d.plain) x ∙ was_free) (ap (λ (v : SlotId). stage_at e.plain (turned v)) x ∙ ap (stage_at e.plain) turned_second ∙ is_free))
        (λ (ne' : u.0 ≢ (from t').0). others_alike u (λ x. ne (ap (λ (v : SlotId). v.0) x)) (λ x. ne' (ap (λ (v : SlotId). v.0) x)))
        (cases_slot u (from t')))
        (cases_slot u s)

    states_turned : StatesAlike turned d.plain e.plain
    states_turned = record {
      size = alike.plain.size;
      slots = slots_turned;
      cells = alike.plain.cells ∙ sym (cells_turned d.plain.cells
          (cells_unheld d.plain k.sound k.one k.quiet s free) (cells_unheld d.plain k.sound k.one k.quiet (from t') was_free));
      weak_cells = alike.plain.weak_cells ∙ sym (cells_turned d.plain.weak_cells
          (weak_cells_unheld d.plain k.sound k.one k.quiet s free) (weak_cells_unheld d.plain k.sound k.one k.quiet (from t') was_free));
      seat = record {
        owned = counted (λ u. times u (seat_at d.plain 0).owned) (λ u. times u (seat_at e.plain 0).owned) alike.plain.seat.owned
            (owned_none d.plain k.sound k.one k.quiet s free) (owned_none d.plain k.sound k.one k.quiet (from t') was_free);
        weaks = counted (λ u. times u (seat_at d.plain 0).weaks) (λ u. times u (seat_at e.plain 0).weaks) alike.plain.seat.weaks
            (weaks_none d.plain k.sound k.one k.quiet s free) (weaks_none d.plain k.sound k.one k.quiet (from t') was_free);
        snapshots = λ j. counted (λ u. entry_times j u (seat_at d.plain 0).snapshots) (λ u. entry_times j u (seat_at e.plain 0).snapshots)
            (alike.plain.seat.snapshots j)
            (snapshots_none d.plain k.sound k.one k.quiet s free j) (snapshots_none d.plain k.sound k.one k.quiet (from t') was_free j);
        deferred = λ j. counted (λ u. entry_times j u (seat_at d.plain 0).deferred) (λ u. entry_times j u (seat_at e.plain 0).deferred)
            (alike.plain.seat.deferred j)
            (deferred_none d.plain k.sound k.one k.quiet s free j) (deferred_none d.plain k.sound k.one k.quiet (from t') was_free j);
      };
    }

    taken_turned : (u : SlotId) → stage_at d.plain u ≢ Free → turned u ≡ to u
    taken_turned u taken =
        turned_other u (λ x. taken (ap (stage_at d.plain) x ∙ free)) (λ x. taken (ap (stage_at d.plain) x ∙ was_free))

    handle_turned : (h : Handle) → stage_at d.plain (slot_of h) ≢ Free → renamed_handle to h ≡ renamed_handle turned h
    handle_turned (Strong u) taken = ap Strong (sym (taken_turned u taken))
    handle_turned (Weak u) taken = ap Weak (sym (taken_turned u taken))
    handle_turned (Snapshot u) taken = λ i. Snapshot (sym (taken_turned u.0 taken) i, u.1)

    names_turned : (name : List ℕ) → bound e.names name ≡ renamed_bound turned (bound d.names name)
    names_turned name = alike.names name ∙ of (bound d.names name) refl
      where
        of : (o : Option Handle) → bound d.names name ≡ o → renamed_bound to o ≡ renamed_bound turned o
        of None is = refl
        of (Some h) is = ap Some (handle_turned h (handle_taken d k name h is))

    pub desks_turned : DesksAlike turned d e
    desks_turned = record {
      plain = states_turned;
      names = names_turned;
      makers = λ u taken. ap (maker_of e) (taken_turned u taken) ∙ alike.makers u taken;
      makes = alike.makes;
    }
