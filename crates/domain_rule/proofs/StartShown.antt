-- Where nothing has happened the core shows the state with nothing in it.
use Rattle.std.proofs.Common.{◌≡◌, ℕ, zero, suc, ◌+◌, ◌<◌, List, [], ◌∷◌, length, map, replicate, refl, ap, ◌∙◌, arith}
use Rattle.std.specs.Prelude.{slice_index}
use Rattle.plain_protocol.specs.plain_state.declared.slot.SlotId.{SlotId}
use Rattle.plain_protocol.specs.plain_state.declared.slot.Stage.TheVariants.{Free}
use Rattle.plain_protocol.specs.plain_state.State.{PlainSeat, new_seat, new_slot, empty}
use Rattle.core_law.specs.core_events.declared.shape.Shape.{Shape}
use Rattle.core_law.specs.core_events.declared.shape.Quota.{Quota}
use Rattle.core_law.specs.core_events.declared.view.CoreView.{CoreView}
use Rattle.core_law.specs.core_events.Words.{each_from, slot_in, slot_at, cell_at, weak_cell_at, payload_at, first_words}
use Rattle.core_law.specs.counter_word.Words.{has_zero}
use Rattle.core_law.specs.core_events.Counts.{Signs, stage_of}
use Rattle.core_law.specs.core_events.Views.{Terms, first_view, first_views}
use Rattle.core_law.specs.core_events.Runs.{start, view_at, AreTerms}
use Rattle.core_law.specs.core_events.Shows.{shows, show_seat, show_slot}
use Rattle.plain_protocol.specs.plain_state.Lists.{times}
use Rattle.core_law.proofs.Kit.{times_none}
use Rattle.core_law.proofs.FirstWords.{low_at, strong_first, bit_first, ticket_first, field_first, field0, field1, weak_field}
use Rattle.core_law.proofs.Starts.{first_at, total_none}
use Rattle.core_law.proofs.Frames.{plain_eq, slot_eq}
use Rattle.core_law.proofs.Lists.{each_same}
use Rattle.domain_rule.specs.Views.{quota_at}

-- the same value for each number
each_const : {A : Type 0} (i n : ℕ) (f : ℕ → A) (a : A) → ((k : ℕ) → k < n → f (i + k) ≡ a)
    → each_from i n f ≡ replicate n a
each_const i zero f a same = refl
each_const i (suc n) f a same =
    let e : i ≡ i + 0 = omega arith in
    let head : f i ≡ a = ap f e ∙ same 0 (omega arith) in
    let tail : each_from (i + 1) n f ≡ replicate n a = each_const (i + 1) n f a
    (λ k h. let g : i + 1 + k ≡ i + suc k = omega arith in ap f g ∙ same (suc k) (omega arith)) in
    cc (head, tail)

is_free : (g : Signs) → g.bit ≡ 1 → stage_of g ≡ Free
unfolding stage_of
is_free g e = rw e refl

module _ (z : Shape) (ts : Terms) where
  -- seat n's view as it begins
  pub first_seen : (n : ℕ) → AreTerms z ts → n < z.seats
      → view_at (start z ts) n ≡ first_view z n (quota_at ts.quotas n) ts.grants
  first_seen n terms hn =
      let l = terms.0 in
      let e : 0 + n ≡ n = omega arith in
      first_at z 0 n ts.quotas ts.grants (record { makes = 0; adds = 0 }) (omega arith)
      ∙ ap (λ (m : ℕ). first_view z m (quota_at ts.quotas n) ts.grants) e

  slot_first : (s : SlotId) → s.0 < z.slots → show_slot z (start z ts) s ≡ new_slot
  slot_first s hs = slot_eq _ _ _ _ _ _ _ _ _ _ _ _ _ _
      (is_free _ (bit_first z s hs))
      (ap has_zero (strong_first z s hs))
      (total_none (λ (v : CoreView). times s v.made) z 0 ts.quotas ts.grants
      (λ n q. times_none s))
      (each_same 16 (λ i. 0) (λ i. slice_index (first_words z) (payload_at z s i))
      (λ i h.
      let e : slot_at z s.0 + 5 + i ≡ slot_at z s.0 + (5 + i) = omega arith in
      ap (slice_index (first_words z)) e
      ∙ field_first z s (5 + i) hs (omega arith) (omega arith)))
      (ap slot_in (field0 z s hs)) (ap slot_in (field1 z s hs)) (ap slot_in (weak_field z s hs))

  seats_first : (i : ℕ) (ps : List Quota) → map show_seat (first_views z i ps ts.grants)
      ≡ replicate (length ps) new_seat
  seats_first i [] = refl
  seats_first i (q ∷ ps) = ap (λ (vs : List PlainSeat). new_seat ∷ vs) (seats_first (i + 1) ps)

  pub start_shown : AreTerms z ts
      → shows z (start z ts) ≡ empty z.seats z.slots z.cells z.weak_cells
  start_shown terms = plain_eq (empty z.seats z.slots z.cells z.weak_cells) (shows z (start z ts))
      (seats_first 0 ts.quotas ∙ ap (λ (n : ℕ). replicate n new_seat) terms.0)
      (each_const 0 z.cells _ _ (λ i h. ap slot_in (low_at z (cell_at z (0 + i)) (omega arith))))
      (each_const 0 z.weak_cells _ _
      (λ i h. ap slot_in (low_at z (weak_cell_at z (0 + i)) (omega arith))))
      (each_const 0 z.slots _ _ (λ x h. slot_first (record { 0 = 0 + x }) (omega arith)))
      (ticket_first z)
