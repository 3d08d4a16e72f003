-- A whole state in which a seat is alone, and has nothing that waits, is settled; and what an image of a state counts.
use Rattle.std.proofs.Common.{◌≡◌, ◌≢◌, ◌⊎◌, inr, ⊎_elim, ℕ, zero, suc, ◌<◌, ◌≤◌, Bool, true, List, [], ◌∷◌, ◌++◌, length, map, drop, refl, ap, sym, ◌∙◌, subst, arith}
use Rattle.std.specs.Prelude.{if◌then◌else◌, slice_index_or}
use Rattle.std.specs.List.{list_all}
use Rattle.std.proofs.lemmas.Bool.{cases_eq, cases_lt}
use Rattle.std.proofs.lemmas.List.{get_or_past, length-map}
use Rattle.core_law.proofs.Kit.{entry_none, times_none}
use Rattle.epoch_settling.specs.epoch_core.plain_state.counter_word.Words.{ZERO}
use Rattle.epoch_settling.specs.epoch_core.plain_state.declared.image.Heap.{Heap}
use Rattle.epoch_settling.specs.epoch_core.plain_state.declared.image.SlotImage.{SlotImage}
use Rattle.epoch_settling.specs.epoch_core.plain_state.declared.slot.Kind.{Kind}
use Rattle.epoch_settling.specs.epoch_core.plain_state.declared.slot.Kind.TheVariants.{Strong}
use Rattle.epoch_settling.specs.epoch_core.plain_state.declared.slot.PlainSlot.{PlainSlot}
use Rattle.epoch_settling.specs.epoch_core.plain_state.declared.slot.SlotId.{SlotId}
use Rattle.epoch_settling.specs.epoch_core.plain_state.declared.slot.Stage.{Stage}
use Rattle.epoch_settling.specs.epoch_core.plain_state.declared.slot.Stage.TheVariants.{Free, Live}
use Rattle.epoch_settling.specs.epoch_core.plain_state.Images.{IsImage, slot_image}
use Rattle.epoch_settling.specs.epoch_core.plain_state.Lawful.{Lawful}
use Rattle.epoch_settling.specs.epoch_core.plain_state.Lists.{entry_times, times}
use Rattle.epoch_settling.specs.epoch_core.plain_state.References.{deferrals, strong_refs}
use Rattle.epoch_settling.specs.epoch_core.plain_state.State.{Plain, PlainSeat, new_seat, new_slot, seat_at, stage_at}
use Rattle.epoch_settling.specs.epoch_core.declared.act.Dated.{Dated}
use Rattle.epoch_settling.specs.epoch_core.declared.shape.EpochShape.{EpochShape}
use Rattle.epoch_settling.specs.epoch_core.declared.view.EpochPhase.TheVariants as phase
use Rattle.epoch_settling.specs.epoch_core.declared.view.EpochView.{EpochView}
use Rattle.epoch_settling.specs.epoch_core.Alone.{IsOnly}
use Rattle.epoch_settling.specs.epoch_core.Counts.{count, dying_times, fillers, filling}
use Rattle.epoch_settling.specs.epoch_core.Good.{stage_of}
use Rattle.epoch_settling.specs.epoch_core.Runs.{Core, view_at}
use Rattle.epoch_settling.specs.epoch_core.Shows.{filled, show_seat, shows, undated_entry}
use Rattle.epoch_settling.specs.epoch_core.Sound.{SeatLaw, Sound}
use Rattle.epoch_settling.specs.epoch_core.Steps.{CanLeave}
use Rattle.epoch_settling.specs.epoch_core.Views.{no_view}
use Rattle.epoch_settling.proofs.Below.epoch_core_Bridge.{seats_sum, shown_past, shown_seat, shown_stage, shown_strong}
use Rattle.epoch_settling.proofs.Below.epoch_core_Parts.{sound_good, total_zero}
use Rattle.epoch_refs.specs.epoch_domain.Domains.{DomainState}
use Rattle.epoch_refs.specs.epoch_domain.Wholes.{IsWholeImage}
use Rattle.epoch_refs.specs.epoch_rule.declared.view.EpochSeatView.{EpochSeatView}
use Rattle.epoch_refs.specs.epoch_rule.Views.{core_in}
use Rattle.epoch_alone.specs.Lone.{IsLoneState}
use Rattle.epoch_alone.specs.Settled.{HasNothingWaiting, IsSettled}
use Rattle.epoch_alone.proofs.Known.{one_state}

-- THE VIEWS
each_left : (vs : List EpochView) → ((n : ℕ) → n < length vs → (slice_index_or vs n no_view).left ≡ true)
    → list_all (λ (u : PlainSeat). u.left) (map show_seat vs) ≡ true
each_left [] each = refl
each_left (v ∷ vs) each =
    rw (each zero (omega arith)) (each_left vs (λ n h. each (suc n) (omega (arith, h))))

others_left : (vs : List EpochView)
    → ((n : ℕ) → 0 < n → n < length vs → (slice_index_or vs n no_view).left ≡ true)
    → list_all (λ (u : PlainSeat). u.left) (drop 1 (map show_seat vs)) ≡ true
others_left [] each = refl
others_left (v ∷ vs) each =
    each_left vs (λ n h. each (suc n) (omega arith) (omega (arith, h)))

-- a seat outside, in the middle of nothing, with nothing pending or to be destroyed
record IsBare (v : EpochView) : Type 0 where
  idle : v.phase ≡ phase.Idle
  seen : v.seen ≡ []
  pending : v.pending ≡ []
  dying : v.dying ≡ []

bare_waits : (v : EpochView) → IsBare v → HasNothingWaiting (show_seat v)
bare_waits v b = record {
  deferred = λ i. map (λ (d : Dated). (Strong, d.slot)) (b.pending i) ++ undated_entry (b.idle i);
  snapshots = λ i. map (λ (s : SlotId). (Strong, s)) (b.seen i);
  dying = b.dying;
  filling = ap filled b.idle;
  weaks = refl;
}

-- by a count word, where nobody fills the slot and it is in no dying list
live_or_free : (w : ℕ) (f g : ℕ) → f ≡ 0 → g ≡ 0 → (stage_of w f g ≡ Live) ⊎ (stage_of w f g ≡ Free)
unfolding stage_of
live_or_free w f g none none' = rw (none, none') (grind arith)

module _ (z : EpochShape) (c : Core) (so : Sound z c) (only : IsOnly z c 0)
    (root : IsBare (view_at c 0)) where
  abbrev p : Plain
  p = shows z c

  law_at : (n : ℕ) → n < length c.views → SeatLaw z n (view_at c n)
  law_at n there = let views = so.views in so.seats n (omega (arith, there, views))

  left_at : (n : ℕ) → 0 < n → n < length c.views → (view_at c n).left ≡ true
  left_at n other there =
      let views = so.views in only n (omega (arith, there, views)) (omega (arith, other))

  bare_at : (n : ℕ) → n < length c.views → IsBare (view_at c n)
  bare_at n there = ⊎_elim
      (λ (first : n ≡ 0). subst (λ (m : ℕ). IsBare (view_at c m)) (sym first) root)
      (λ (other : n ≢ 0).
      let law = law_at n there in
      let g = law.gone (left_at n (omega (arith, other)) there) in record {
        idle = g.0;
        seen = law.outside g.1;
        pending = g.3;
        dying = g.4;
      })
      (cases_eq n 0)

  past_at : (n : ℕ) → length c.views ≤ n → seat_at (shows z c) n ≡ new_seat
  past_at n past =
      let many = length-map c.views show_seat in
      get_or_past (map show_seat c.views) n new_seat (omega (arith, past, many))

  seats_wait : (n : ℕ) → HasNothingWaiting (seat_at (shows z c) n)
  seats_wait n = ⊎_elim
      (λ (there : n < length c.views).
      subst HasNothingWaiting (sym (shown_seat z c n there))
      (bare_waits (view_at c n) (bare_at n there)))
      (λ (past : length c.views ≤ n).
      subst HasNothingWaiting (sym (past_at n past))
      (record { deferred = refl; snapshots = refl; dying = refl; filling = refl; weaks = refl }))
      (cases_lt n (length c.views))

  others_own : (n : ℕ) → 0 < n → (seat_at (shows z c) n).owned ≡ []
  others_own n other = ⊎_elim
      (λ (there : n < length c.views).
      ap (λ (x : PlainSeat). x.owned) (shown_seat z c n there)
      ∙ ((law_at n there).gone (left_at n other there)).2)
      (λ (past : length c.views ≤ n). ap (λ (x : PlainSeat). x.owned) (past_at n past))
      (cases_lt n (length c.views))

  none_deferred : (k : Kind) (s : SlotId) → deferrals k (shows z c) s ≡ 0
  none_deferred k s =
      seats_sum (λ (v : PlainSeat). entry_times k s v.deferred) c.views
      ∙ total_zero (λ (v : EpochView). entry_times k s (show_seat v).deferred) c.views
      (λ n h. ap (entry_times k s) (bare_waits (view_at c n) (bare_at n h)).deferred ∙ entry_none k s)

  none_fills : (s : SlotId) → fillers c s ≡ 0
  none_fills s = total_zero (λ (v : EpochView). filling s v.phase) c.views
      (λ n h. ap (filling s) (bare_at n h).idle)

  none_dies : (s : SlotId) → dying_times c s ≡ 0
  none_dies s = total_zero (λ (v : EpochView). times s v.dying) c.views
      (λ n h. ap (times s) (bare_at n h).dying ∙ times_none s)

  past_stage : (s : SlotId) → z.slots ≤ s.0 → stage_at (shows z c) s ≡ Free
  past_stage s past = ap (λ (x : PlainSlot). x.stage) (shown_past z c s past)

  stages_are : (s : SlotId) → (stage_at (shows z c) s ≡ Live) ⊎ (stage_at (shows z c) s ≡ Free)
  stages_are s = ⊎_elim
      (λ (there : s.0 < z.slots).
      subst (λ (g : Stage). (g ≡ Live) ⊎ (g ≡ Free)) (sym (shown_stage z c s there))
      (live_or_free (count z c s) (fillers c s) (dying_times c s) (none_fills s) (none_dies s)))
      (λ (past : z.slots ≤ s.0). inr (past_stage s past))
      (cases_lt s.0 z.slots)

  live_has : (s : SlotId) → stage_at (shows z c) s ≡ Live → 0 < strong_refs (shows z c) s
  live_has s live = ⊎_elim
      (λ (there : s.0 < z.slots).
      let some = ((sound_good z c so).counts s there).some (sym (shown_stage z c s there) ∙ live) in
      let shown = shown_strong z c s in omega (arith, some, shown))
      (λ (past : z.slots ≤ s.0).
      let free = past_stage s past in absurd (cc (free, live)))
      (cases_lt s.0 z.slots)

  settled_core : (owned : List SlotId) → (view_at c 0).owned ≡ owned → IsSettled (shows z c) owned
  settled_core owned owns =
      let some = so.shape.0 in
      let views = so.views in
      record {
        alone = others_left c.views left_at;
        seats = seats_wait;
        root = ap (λ (x : PlainSeat). x.owned)
            (shown_seat z c 0 (omega (arith, some, views))) ∙ owns;
        others = others_own;
        deferred = none_deferred;
        stages = stages_are;
        live = live_has;
      }

pub settled : {P V : Type 0} (fits : List ℕ → Type 0) (d : DomainState P) (v : EpochSeatView V)
    (p : Plain) → IsLoneState fits d v p → CanLeave v.core → v.core.pending ≡ [] → v.core.dying ≡ []
    → IsSettled p v.core.owned
settled fits d v p lone can pending dying =
    let so = lone.sound in
    let first = so.shape.0 in
    let bare : IsBare v.core = record {
      idle = can.0.0;
      seen = ap (λ (u : EpochView). u.seen) lone.half
          ∙ (so.seats 0 (omega (arith, first))).outside
          (ap (λ (u : EpochView). u.number) (sym lone.half) ∙ can.1);
      pending = pending;
      dying = dying;
    } in
    subst (λ (q : Plain). IsSettled q v.core.owned) (sym lone.shown)
    (settled_core d.shape (core_in lone.all) so lone.only (subst IsBare lone.half bare) v.core.owned
    (ap (λ (u : EpochView). u.owned) (sym lone.half)))

-- IMAGES
-- an image that the seat takes is one of the state that it knows
pub imaged : {P V : Type 0} (fits : List ℕ → Type 0) (d : DomainState P) (v : EpochSeatView V)
    (p : Plain) (heap : Heap) → IsLoneState fits d v p → IsWholeImage fits v heap → IsImage p heap
imaged fits d v p heap lone whole =
    subst (λ (q : Plain). IsImage q heap) (one_state v whole.state p whole.knows.whole lone.knows.whole)
    whole.image

pub counted : (p : Plain) (heap : Heap) (s : SlotId) → Lawful p → IsImage p heap → 0 < strong_refs p s
    → (slot_image heap.slots.items s).strong ≡ strong_refs p s
counted p heap s lawful image some =
    let alive = lawful.strong s some in ⊎_elim
    (λ (there : s.0 < length p.slots).
    ap (λ (x : SlotImage). x.strong) (image.slots s there)
    ∙ ap (λ (b : Bool). if b then ZERO else strong_refs p s) alive.1)
    (λ (past : length p.slots ≤ s.0).
    let free = ap (λ (x : PlainSlot). x.stage) (get_or_past p.slots s.0 new_slot past) in
    absurd (cc (free, alive.0)))
    (cases_lt s.0 (length p.slots))
