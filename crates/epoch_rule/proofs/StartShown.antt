-- Where nothing has happened the core shows the state with nothing in it.
use Rattle.std.proofs.Common.{◌≡◌, ℕ, zero, suc, ◌+◌, ◌<◌, List, [], ◌∷◌, length, map, replicate, refl, ap, ◌∙◌, arith}
use Rattle.std.specs.Prelude.{slice_index}
use Rattle.plain_protocol.specs.plain_state.declared.slot.SlotId.{SlotId}
use Rattle.plain_protocol.specs.plain_state.Lists.{times}
use Rattle.plain_protocol.specs.plain_state.State.{PlainSeat, new_seat, new_slot, empty}
use Rattle.core_law.specs.core_events.declared.shape.Quota.{Quota}
use Rattle.core_law.specs.core_events.Words.{each_from, slot_in}
use Rattle.core_law.proofs.Frames.{plain_eq, slot_eq}
use Rattle.core_law.proofs.Kit.{times_none}
use Rattle.core_law.proofs.Lists.{each_same}
use Rattle.epoch_core.specs.declared.shape.EpochShape.{EpochShape}
use Rattle.epoch_core.specs.declared.view.EpochView.{EpochView}
use Rattle.epoch_core.specs.Runs.{AreQuotas, start, view_at}
use Rattle.epoch_core.specs.Shows.{is_marked, show_seat, show_slot, shows}
use Rattle.epoch_core.specs.Views.{first_view, first_views}
use Rattle.epoch_core.specs.Words.{cell_at, first_words, payload_at, slot_at}
use Rattle.epoch_core.proofs.ShownFills.{free_stage}
use Rattle.epoch_core.proofs.Starts.{count_first, field_first, first_at, low_at, slot_word, total_none, zeros_at}
use Rattle.epoch_rule.specs.Views.{quota_at}

-- the same value for each number
each_const : {A : Type 0} (i n : ℕ) (f : ℕ → A) (a : A) → ((k : ℕ) → k < n → f (i + k) ≡ a)
    → each_from i n f ≡ replicate n a
each_const i zero f a same = refl
each_const i (suc n) f a same =
    let e : i ≡ i + 0 = omega arith in
    let head : f i ≡ a = ap f e ∙ same 0 (omega arith) in
    let tail : each_from (i + 1) n f ≡ replicate n a = each_const (i + 1) n f a
    (λ k h. let g : i + 1 + k ≡ i + suc k = omega arith in ap f g ∙ same (suc k) (omega arith)) in
    cc (head, tail)

module _ (z : EpochShape) (qs : List Quota) where
  -- seat n's view as it begins
  pub first_seen : (n : ℕ) → AreQuotas z qs → n < z.seats
      → view_at (start z qs) n ≡ first_view z n (quota_at qs n)
  first_seen n quotas hn =
      let l = quotas.0 in
      let e : 0 + n ≡ n = omega arith in
      first_at z 0 n qs (record { makes = 0; adds = 0 }) (omega arith)
      ∙ ap (λ (m : ℕ). first_view z m (quota_at qs n)) e

  slot_first : (s : SlotId) → s.0 < z.slots → show_slot z (start z qs) s ≡ new_slot
  slot_first s hs =
      let free = free_stage _ _ _ (count_first z s hs) in
      slot_eq _ _ _ _ _ _ _ _ _ _ _ _ _ _
      free
      (ap is_marked free)
      (total_none (λ (v : EpochView). times s v.made) z 0 qs (λ n q. times_none s))
      (each_same 16 (λ i. 0) (λ i. slice_index (first_words z) (payload_at z s i))
      (λ i h.
      let e : payload_at z s i ≡ slot_at z s.0 + (3 + i) = omega arith in
      ap (slice_index (first_words z)) e
      ∙ (slot_word z s.0 (3 + i) hs (omega arith) ∙ zeros_at (3 + i) (omega arith) (omega arith))))
      (ap slot_in (field_first z s 0 hs (omega arith)))
      (ap slot_in (field_first z s 1 hs (omega arith)))
      refl

  seats_first : (i : ℕ) (ps : List Quota) → map show_seat (first_views z i ps)
      ≡ replicate (length ps) new_seat
  seats_first i [] = refl
  seats_first i (q ∷ ps) = ap (λ (vs : List PlainSeat). new_seat ∷ vs) (seats_first (i + 1) ps)

  pub start_shown : AreQuotas z qs → shows z (start z qs) ≡ empty z.seats z.slots z.cells 0
  start_shown quotas = plain_eq (empty z.seats z.slots z.cells 0) (shows z (start z qs))
      (seats_first 0 qs ∙ ap (λ (n : ℕ). replicate n new_seat) quotas.0)
      (each_const 0 z.cells _ _
      (λ i h. ap slot_in (low_at z (cell_at z (0 + i)) (omega arith))))
      refl
      (each_const 0 z.slots _ _ (λ x h. slot_first (record { 0 = 0 + x }) (omega arith)))
      refl
