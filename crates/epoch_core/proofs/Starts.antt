-- The invariant holds where nothing has happened.
use Rattle.std.proofs.Common.{◌≡◌, ⊎_elim, ℕ, zero, suc, ◌+◌, ◌*◌, ◌^◌, ◌<◌, ◌≤◌, List, [], ◌∷◌, length, get_or, replicate, refl, ap, sym, ◌∙◌, subst, arith, length-append}
use Rattle.std.specs.Prelude.{slice_index}
use Rattle.std.specs.List.{All}
use Rattle.std.proofs.lemmas.List.{length-replicate, get_or-replicate, get_or_append_left, get_or-append-add, get_or_past}
use Rattle.std.proofs.lemmas.List.Elements.{All-append, All-replicate, All-from_get_or}
use Rattle.std.proofs.lemmas.List.Sums.{sum_by-cons}
use Rattle.std.proofs.lemmas.Bool.{cases_lt}
use Rattle.core_law.specs.plain_state.declared.slot.SlotId.{SlotId}
use Rattle.core_law.specs.plain_state.Lists.{times}
use Rattle.core_law.specs.core_events.declared.shape.Quota.{Quota}
use Rattle.core_law.specs.core_events.Counts.{in_word}
use Rattle.core_law.specs.core_events.Runs.{IsQuota}
use Rattle.core_law.proofs.Kit.{below_none, in_word_null}
use Rattle.epoch_core.specs.declared.act.Dated.{Dated}
use Rattle.epoch_core.specs.declared.shape.EpochShape.{EpochShape}
use Rattle.epoch_core.specs.declared.view.EpochView.{EpochView}
use Rattle.epoch_core.specs.Words.{free_word, free_words, all_free, first_words, slot_at, count_at, field_at, cell_at, region_at, word_count}
use Rattle.epoch_core.specs.Views.{first_view, first_views, no_view}
use Rattle.epoch_core.specs.Steps.{dated_times}
use Rattle.epoch_core.specs.Runs.{AreQuotas, IsShape, start, view_at}
use Rattle.epoch_core.specs.Counts.{total, listed, filling, naming, fields_holding, places, pending_times}
use Rattle.epoch_core.specs.Slots.{free}
use Rattle.epoch_core.specs.Sound.{Sound, SeatLaw, RegionLaw}

-- WORDS
length_free : (n : ℕ) → length (all_free n) ≡ 19 * n
length_free zero = refl
length_free (suc n) =
    let l = length-append free_words (all_free n) in
    let r = length_free n in omega arith

-- word k of slot x
free_at : (n x k : ℕ) → x < n → k < 19 → get_or (all_free n) (19 * x + k) 0 ≡ get_or free_words k 0
free_at zero x k hx hk = absurd (omega arith)
free_at (suc n) zero k hx hk =
    let e : 19 * 0 + k ≡ k = omega arith in
    rw e (get_or_append_left free_words (all_free n) 0 k hk)
free_at (suc n) (suc x) k hx hk =
    let e : 19 * suc x + k ≡ 19 + (19 * x + k) = omega arith in
    rw e (get_or-append-add free_words (all_free n) (19 * x + k) 0 ∙ free_at n x k (omega arith) hk)

pub zeros_at : (k : ℕ) → 1 ≤ k → k < 19 → get_or free_words k 0 ≡ 0
zeros_at zero a b = absurd (omega arith)
zeros_at (suc k) a b = get_or-replicate 18 k 0 0 (omega arith)

free_fit : (n : ℕ) → All (λ (w : ℕ). w < 2 ^ 64) (all_free n)
free_fit zero = λ k d h. absurd (omega arith)
free_fit (suc n) = All-append (λ (w : ℕ). w < 2 ^ 64) free_words (all_free n)
    (All-from_get_or (λ (w : ℕ). w < 2 ^ 64) free_words 0 one) (free_fit n)
  where
    one : (i : ℕ) → i < 19 → get_or free_words i 0 < 2 ^ 64
    one zero h = omega arith
    one (suc k) h =
        let e : get_or free_words (suc k) 0 ≡ 0 = get_or-replicate 18 k 0 0 (omega arith) in
        omega arith

module _ (z : EpochShape) where
  abbrev low_words : List ℕ
  low_words = replicate (slot_at z 0) 0

  low_length : length low_words ≡ slot_at z 0
  low_length = length-replicate {A = ℕ} (slot_at z 0) 0

  length_first : length (first_words z) ≡ word_count z
  length_first =
      let a = length-append low_words (all_free z.slots) in
      let b = low_length in
      let d = length_free z.slots in omega arith

  -- below the slots' words all are 0
  pub low_at : (i : ℕ) → i < slot_at z 0 → slice_index (first_words z) i ≡ 0
  low_at i h =
      let b = low_length in
      get_or_append_left low_words (all_free z.slots) 0 i (omega arith)
      ∙ get_or-replicate (slot_at z 0) i 0 0 h

  pub slot_word : (x k : ℕ) → x < z.slots → k < 19
      → slice_index (first_words z) (slot_at z x + k) ≡ get_or free_words k 0
  slot_word x k hx hk =
      let b = low_length in
      let e : slot_at z x + k ≡ length low_words + (19 * x + k) = omega arith in
      ap (λ (m : ℕ). get_or (first_words z) m 0) e
      ∙ (get_or-append-add low_words (all_free z.slots) (19 * x + k) 0
      ∙ free_at z.slots x k hx hk)

  pub count_first : (s : SlotId) → s.0 < z.slots → slice_index (first_words z) (count_at z s) ≡ free_word
  count_first s h =
      let e : count_at z s ≡ slot_at z s.0 + 0 = omega arith in rw e (slot_word s.0 0 h (omega arith))

  pub field_first : (s : SlotId) (i : ℕ) → s.0 < z.slots → i < 2
      → slice_index (first_words z) (field_at z s i) ≡ 0
  field_first s i h hi =
      let e : field_at z s i ≡ slot_at z s.0 + (1 + i) = omega arith in
      rw e (slot_word s.0 (1 + i) h (omega arith) ∙ zeros_at (1 + i) (omega arith) (omega arith))

  words_fit : (i : ℕ) → slice_index (first_words z) i < 2 ^ 64
  words_fit i = ⊎_elim
      (λ lt. all i 0 lt)
      (λ le. let e = get_or_past (first_words z) i 0 le in omega arith)
      (cases_lt i (length (first_words z)))
    where
      all : All (λ (w : ℕ). w < 2 ^ 64) (first_words z)
      all = All-append (λ (w : ℕ). w < 2 ^ 64) low_words (all_free z.slots)
          (All-replicate (λ (w : ℕ). w < 2 ^ 64) (slot_at z 0) 0 (omega arith)) (free_fit z.slots)

  in_null : (s : SlotId) (w : ℕ) → w ≡ 0 → in_word s w ≡ 0
  in_null s w e = ap (in_word s) e ∙ in_word_null s

  -- no place holds anything
  places_first : (s : SlotId) → places z (first_words z) s ≡ 0
  places_first s =
      let a = below_none z.cells (λ i. in_word s (slice_index (first_words z) (cell_at z i)))
      (λ i h. in_null s _ (low_at (cell_at z i) (omega arith))) in
      let b = below_none z.slots (fields_holding z (first_words z) s)
      (λ x h.
      let f = in_null s _ (field_first (record { 0 = x }) 0 h (omega arith)) in
      let g = in_null s _ (field_first (record { 0 = x }) 1 h (omega arith)) in omega arith) in
      omega arith

-- VIEWS
length_views : (z : EpochShape) (i : ℕ) (qs : List Quota) → length (first_views z i qs) ≡ length qs
length_views z i [] = refl
length_views z i (q ∷ qs) = ap suc (length_views z (i + 1) qs)

-- seat n's first view
pub first_at : (z : EpochShape) (i n : ℕ) (qs : List Quota) (d : Quota) → n < length qs
    → get_or (first_views z i qs) n no_view ≡ first_view z (i + n) (get_or qs n d)
first_at z i n [] d h = absurd (omega arith)
first_at z i zero (q ∷ qs) d h =
    let e : i ≡ i + 0 = omega arith in ap (λ (m : ℕ). first_view z m q) e
first_at z i (suc n) (q ∷ qs) d h =
    let e : i + 1 + n ≡ i + suc n = omega arith in
    first_at z (i + 1) n qs d (omega arith)
    ∙ ap (λ (m : ℕ). first_view z m (get_or qs n d)) e

pub total_none : (f : EpochView → ℕ) (z : EpochShape) (i : ℕ) (qs : List Quota)
    → ((n : ℕ) (q : Quota) → f (first_view z n q) ≡ 0) → total f (first_views z i qs) ≡ 0
unfolding total
total_none f z i [] none = refl
total_none f z i (q ∷ qs) none =
    let c = sum_by-cons f (first_view z i q) (first_views z (i + 1) qs) in
    let r = total_none f z (i + 1) qs none in
    let n = none i q in omega arith

first_names : (s : SlotId) (z : EpochShape) (n : ℕ) (q : Quota) → naming s (first_view z n q) ≡ 0
unfolding times pending_times
first_names s z n q = refl

first_listed : (s : SlotId) (z : EpochShape) (n : ℕ) (q : Quota) → listed s (first_view z n q) ≡ 0
first_listed s z n q = let e = first_names s z n q in omega arith

first_dying : (s : SlotId) (z : EpochShape) (n : ℕ) (q : Quota)
    → times s (first_view z n q).dying ≡ 0
first_dying s z n q = let e = first_names s z n q in omega arith

no_dates : (d : Dated) → dated_times d [] ≡ 0
unfolding dated_times
no_dates d = refl

pub first_seat : (z : EpochShape) (n : ℕ) (q : Quota) → IsQuota q → SeatLaw z n (first_view z n q)
first_seat z n q is = record {
  number = refl;
  same_shape = refl;
  quota = is;
  adds = omega arith;
  makes = omega arith;
  can_start = λ s e. absurd cc;
  range = λ s le. first_names s z n q;
  outside = λ e. refl;
  gone = λ e. absurd cc;
}

first_region : (z : EpochShape) (seats e g n : ℕ) (q : Quota) → RegionLaw seats e g (first_view z n q)
first_region z seats e g n q = record {
  read = λ x is. absurd cc;
  stored = λ pos. absurd (omega arith);
  behind = λ w is. absurd cc;
  known = omega arith;
  dates = λ d h. let none = no_dates d in absurd (omega arith);
}

no_quota : Quota
no_quota = record { makes = 0; adds = 0 }

pub start_sound : (z : EpochShape) (qs : List Quota) → IsShape z → AreQuotas z qs → Sound z (start z qs)
start_sound z qs shape quotas = record {
  shape = shape;
  words = length_first z;
  views = length_views z 0 qs ∙ quotas.0;
  opened = length-replicate z.seats 0;
  seats = λ n hn.
      subst (SeatLaw z n) (sym (at n hn))
      (first_seat z n (get_or qs n no_quota) (quotas.1 n no_quota (there n hn)));
  slots = λ s hs.
      let w = count_first z s hs in
      let p = places_first z s in
      let f = field_first z s 0 hs (omega arith) in
      let g = field_first z s 1 hs (omega arith) in
      let l = total_none (listed s) z 0 qs (first_listed s z) in
      let b = total_none (λ (u : EpochView). filling s u.phase) z 0 qs (λ n q. refl) in
      let d = total_none (λ (u : EpochView). times s u.dying) z 0 qs (first_dying s z) in
      free (record { word = w; refs = omega arith; filling = b; dying = d; fields = omega arith });
  limit = let e = low_at z 1 (omega arith) in omega arith;
  stand = λ n hn. low_at z (region_at n) (omega arith)
      ∙ ap (λ (v : EpochView). v.number) (sym (at n hn));
  regions = λ n hn. subst (RegionLaw z.seats _ _) (sym (at n hn)) (first_region z _ _ _ n (get_or qs n no_quota));
  swept = λ m n w hm hn scans.
      let e = ap (λ (v : EpochView). v.phase) (sym (at m hm)) ∙ scans in absurd cc;
  seen = λ n s hn h.
      let e = ap (λ (v : EpochView). times s v.seen) (at n hn) in
      let r = first_names s z n (get_or qs n no_quota) in absurd (omega arith);
  range = λ s le. places_first z s;
  fit = words_fit z;
}
  where
    there : (n : ℕ) → n < z.seats → n < length qs
    there n hn = let e = quotas.0 in omega arith

    at : (n : ℕ) → n < z.seats → view_at (start z qs) n ≡ first_view z n (get_or qs n no_quota)
    at n hn =
        let e : 0 + n ≡ n = omega arith in
        first_at z 0 n qs no_quota (there n hn) ∙ ap (λ (m : ℕ). first_view z m (get_or qs n no_quota)) e
