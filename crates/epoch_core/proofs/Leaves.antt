-- Where seat j leaves to seat 0: what the two have together stays.
use Rattle.std.proofs.Common.{◌≡◌, ◌≢◌, inl, ⊎_elim, ℕ, ◌+◌, ◌<◌, false, true, List, length, get_or, set, refl, ap, sym, ◌∙◌, arith}
use Rattle.std.proofs.lemmas.List.{length-set, get_or-set_same, get_or-set_other}
use Rattle.std.proofs.lemmas.Bool.{cases_eq}
use Rattle.core_law.specs.plain_state.declared.slot.SlotId.{SlotId}
use Rattle.core_law.specs.plain_state.Lists.{times}
use Rattle.core_law.proofs.Kit.{times_none, times_append}
use Rattle.epoch_core.specs.declared.act.EpochAct.TheVariants as act
use Rattle.epoch_core.specs.declared.outcome.EpochOutcome.TheVariants as outcome
use Rattle.epoch_core.specs.declared.shape.EpochShape.{EpochShape}
use Rattle.epoch_core.specs.declared.view.EpochPhase.TheVariants as phase
use Rattle.epoch_core.specs.declared.view.EpochView.{EpochView}
use Rattle.epoch_core.specs.declared.view.Sweep.{Sweep}
use Rattle.epoch_core.specs.Views.{no_view}
use Rattle.epoch_core.specs.Steps.{noted, CanLeave}
use Rattle.epoch_core.specs.Runs.{Core, view_at, opened_at, epoch, taken_over, left_behind}
use Rattle.epoch_core.specs.Counts.{total, listed, filling, guarding, witness, adds_used}
use Rattle.epoch_core.specs.Slots.{numbers, SlotLaw}
use Rattle.epoch_core.specs.Sound.{Sound, SeatLaw, RegionLaw}
use Rattle.epoch_core.proofs.Kit.{total_set, pending_none, pending_append, from_none, from_append, dated_none, dated_joined}
use Rattle.epoch_core.proofs.Put.{at_seat, still_law}

-- two seats' views are given anew
pub total_two : (f : EpochView → ℕ) (vs : List EpochView) (j : ℕ) (v u : EpochView) → 0 < length vs
    → j < length vs → j ≢ 0
    → f v + f u ≡ f (get_or vs 0 no_view) + f (get_or vs j no_view)
    → total f (set (set vs 0 v) j u) ≡ total f vs
total_two f vs j v u hn hj ne e =
    let l = length-set vs 0 v in
    let a = total_set f vs 0 v hn in
    let b = total_set f (set vs 0 v) j u (omega arith) in
    let g = ap f (get_or-set_other vs 0 j v no_view ne) in omega arith

module _ (z : EpochShape) (c : Core) (so : Sound z c) (j : ℕ) (other : j ≢ 0) (hj : j < z.seats)
    (root_can : CanLeave (view_at c 0)) (seat_can : CanLeave (view_at c j)) where
  abbrev root : EpochView
  root = view_at c 0

  abbrev seat : EpochView
  seat = view_at c j

  abbrev joined : EpochView
  joined = noted (act.Leave j) outcome.Plain (taken_over (view_at c 0) (view_at c j))

  abbrev gone : EpochView
  gone = left_behind (view_at c j)

  abbrev new_views : List EpochView
  new_views = set (set c.views 0 joined) j gone

  abbrev left : Core
  left = record { words = c.words; views = new_views; opened = c.opened }

  h0 : 0 < z.seats
  h0 = omega arith

  at0 : 0 < length c.views
  at0 = at_seat z c 0 so h0

  atj : j < length c.views
  atj = at_seat z c j so hj

  -- a seat of the new state is seat j, seat 0, or as before
  by_two : (P : ℕ → EpochView → Type 0) → P 0 joined → P j gone
      → ((m : ℕ) → m ≢ 0 → m ≢ j → P m (view_at c m)) → (m : ℕ) → P m (get_or new_views m no_view)
  by_two P here there rest m = ⊎_elim
      (λ (e : m ≡ j).
      let l = length-set c.views 0 joined in
      let a = atj in
      rw (e, get_or-set_same (set c.views 0 joined) j gone no_view (omega arith)) there)
      (λ (ne : m ≢ j). rw (get_or-set_other (set c.views 0 joined) j m gone no_view ne)
      (⊎_elim
      (λ (e : m ≡ 0). rw (e, get_or-set_same c.views 0 joined no_view at0) here)
      (λ (no : m ≢ 0). rw (get_or-set_other c.views 0 m joined no_view no) (rest m no ne))
      (cases_eq m 0)))
      (cases_eq m j)

  -- what no leave changes of a view
  record SameSeat (m : ℕ) (u : EpochView) : Type 0 where
    phase : u.phase ≡ (view_at c m).phase
    number : u.number ≡ (view_at c m).number
    seen : u.seen ≡ (view_at c m).seen

  same : (m : ℕ) → SameSeat m (get_or new_views m no_view)
  same = by_two SameSeat (record { phase = refl; number = refl; seen = refl })
      (record { phase = refl; number = refl; seen = refl })
      (λ m a b. record { phase = refl; number = refl; seen = refl })

  -- SUMS
  listed_two : (s : SlotId) → listed s joined + listed s gone ≡ listed s root + listed s seat
  listed_two s =
      let a = times_append s root.owned seat.owned in
      let b = pending_append s root.pending seat.pending in
      let e = times_none s in
      let f = pending_none s in omega arith

  guarding_two : (g : ℕ) (s : SlotId) → guarding g s joined + guarding g s gone ≡ guarding g s root + guarding g s seat
  guarding_two g s =
      let b = from_append g s root.pending seat.pending in
      let f = from_none g s in omega arith

  dying_two : (s : SlotId) → times s joined.dying + times s gone.dying ≡ times s root.dying + times s seat.dying
  dying_two s = let a = times_append s root.dying seat.dying in let e = times_none s in omega arith

  slot_law : (s : SlotId) → s.0 < z.slots → SlotLaw (adds_used left) (numbers z left s)
  slot_law s hs =
      let l = total_two (listed s) c.views j joined gone at0 atj other (listed_two s) in
      let f = total_two (λ (u : EpochView). filling s u.phase) c.views j joined gone at0 atj other refl in
      let d = total_two (λ (u : EpochView). times s u.dying) c.views j joined gone at0 atj other (dying_two s) in
      let a = total_two (λ (u : EpochView). u.adds) c.views j joined gone at0 atj other refl in
      still_law (adds_used c) (adds_used left) (numbers z c s) (numbers z left s) (so.slots s hs)
      (omega arith) refl (omega arith) f d (inl refl)

  -- SEATS
  root_law : SeatLaw z 0 joined
  root_law =
      let law = so.seats 0 h0 in
      let other_law = so.seats j hj in
      record {
        number = law.number;
        same_shape = law.same_shape;
        quota = law.quota;
        adds = law.adds;
        makes = law.makes;
        can_start = law.can_start;
        range = λ s le.
            let a = times_append s root.owned seat.owned in
            let b = pending_append s root.pending seat.pending in
            let d = times_append s root.dying seat.dying in
            let e = times_append s root.made seat.made in
            let x = law.range s le in
            let y = other_law.range s le in omega arith;
        outside = law.outside;
        gone = λ e. let no : false ≡ true = sym root_can.0.1 ∙ e in absurd cc;
      }

  gone_law : SeatLaw z j gone
  gone_law =
      let law = so.seats j hj in
      record {
        number = law.number;
        same_shape = law.same_shape;
        quota = law.quota;
        adds = law.adds;
        makes = law.makes;
        can_start = law.can_start;
        range = λ s le.
            let a = times_none s in
            let b = pending_none s in
            let x = law.range s le in omega arith;
        outside = law.outside;
        gone = λ e. (seat_can.0.0, seat_can.1, refl, refl, refl);
      }

  -- REGIONS
  root_region : RegionLaw z.seats (epoch c) (opened_at c 0) joined
  root_region =
      let r = so.regions 0 h0 in
      record {
        read = r.read;
        stored = r.stored;
        behind = r.behind;
        known = r.known;
        dates = λ d h. ⊎_elim (λ mine. r.dates d mine) (λ its. (so.regions j hj).dates d its)
            (dated_joined d root.pending seat.pending h);
      }

  gone_region : RegionLaw z.seats (epoch c) (opened_at c j) gone
  gone_region =
      let r = so.regions j hj in
      record {
        read = r.read;
        stored = r.stored;
        behind = r.behind;
        known = r.known;
        dates = λ d h. let none = dated_none d in absurd (omega arith);
      }

  swept : (m k : ℕ) (w : Sweep) → m < z.seats → k < z.seats → (get_or new_views m no_view).phase ≡ phase.Scan w
      → w.fit ≡ true → w.epoch ≡ epoch c → k < w.passed → 0 < (get_or new_views k no_view).number
      → opened_at c k ≡ epoch c
  swept m k w hm hk scans fit at low pos =
      let e = (same k).number in
      so.swept m k w hm hk (sym (same m).phase ∙ scans) fit at low (omega arith)

  seen_stays : (m : ℕ) (s : SlotId) → m < z.seats → 0 < times s (get_or new_views m no_view).seen
      → 0 < witness z (opened_at c m) left s
  seen_stays m s hm h =
      let e = ap (times s) (same m).seen in
      let w = so.seen m s hm (omega arith) in
      let t = total_two (guarding (opened_at c m) s) c.views j joined gone at0 atj other
      (guarding_two (opened_at c m) s) in omega arith

  pub leave_sound : Sound z left
  leave_sound = record {
    shape = so.shape;
    words = so.words;
    views = length-set (set c.views 0 joined) j gone ∙ (length-set c.views 0 joined ∙ so.views);
    opened = so.opened;
    seats = λ m hm. by_two (λ i u. i < z.seats → SeatLaw z i u) (λ _. root_law) (λ _. gone_law)
        (λ i a b hi. so.seats i hi) m hm;
    slots = slot_law;
    limit = so.limit;
    stand = λ m hm. so.stand m hm ∙ sym (same m).number;
    regions = λ m hm. by_two (λ i u. i < z.seats → RegionLaw z.seats (epoch c) (opened_at c i) u)
        (λ _. root_region) (λ _. gone_region) (λ i a b hi. so.regions i hi) m hm;
    swept = swept;
    seen = seen_stays;
    range = so.range;
    fit = so.fit;
  }
