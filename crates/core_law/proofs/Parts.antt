-- The law of a slot by its stage has the parts of the invariant.
use Rattle.std.proofs.Common.{◌≡◌, ◌≢◌, ◌⊎◌, inl, inr, Bool, length, ℕ, ◌+◌, ◌*◌, ◌^◌, ◌<◌, true, false, refl, ◌∙◌, arith}
use Rattle.std.proofs.lemmas.Bool.Decides.{nat_tests}
use Rattle.core_events.specs.plain_state.declared.slot.Kind.{Kind}
use Rattle.core_events.specs.plain_state.declared.slot.Kind.TheVariants.{Strong, Weak, Disposal}
use Rattle.core_events.specs.plain_state.declared.slot.Stage.{Stage}
use Rattle.core_events.specs.plain_state.declared.slot.Stage.TheVariants.{Free, Blank, Live, Ended, Husk}
use Rattle.core_events.specs.plain_state.declared.slot.SlotId.{SlotId}
use Rattle.core_events.specs.declared.shape.Shape.{Shape}
use Rattle.core_events.specs.declared.view.Note.TheVariants as note
use Rattle.core_events.specs.counter_word.Words.{value}
use Rattle.core_events.specs.Views.{note_of}
use Rattle.core_events.specs.Runs.{Core, view_at}
use Rattle.core_events.specs.Counts.{stage, stage_of, adds_used, is_live_word, strong, total, guarding, places}
use Rattle.core_events.specs.Good.{CountLaw, PendingEnd, OneEnder, CountBounds, AreUndisposed, Good}
use Rattle.core_law.specs.Slots.{Numbers, numbers, SlotLaw, free, bare, blank, counted, asked, over, husk}
use Rattle.core_law.specs.Sound.{Sound, covering}
use Rattle.core_law.proofs.Put.{adds_fit}
use Rattle.core_law.proofs.Steady.{noted_in_range}

-- the stage that a law by stage tells
abbrev pub stage_in : {a : ℕ} {m : Numbers} → SlotLaw a m → Stage
stage_in (free h) = Free
stage_in (bare h) = Blank
stage_in (blank h) = Blank
stage_in (counted h) = Live
stage_in (asked h) = Live
stage_in (over h) = Ended
stage_in (husk h) = Husk

pub stage_is : (a : ℕ) (m : Numbers) (law : SlotLaw a m) → a < 2 ^ 60
    → stage_of (record { bit = m.bit; claimers = m.baring + m.filling; dying = m.dying; strong = m.strong })
    ≡ stage_in law
unfolding stage_of
stage_is a m law fit = grind (arith, nat_tests)

pub value_is : (a : ℕ) (m : Numbers) → SlotLaw a m → a < 2 ^ 60 → value m.strong ≡ m.strong_refs
value_is a m law fit = grind (arith, nat_tests)

pub vacant_nulls : (a : ℕ) (m : Numbers) (law : SlotLaw a m) → stage_in law ≢ Live
    → stage_in law ≢ Ended → m.fields ≡ 0
vacant_nulls a m law x y = grind arith

-- where its word says that an object lives, so does its stage
pub live_stage : (a : ℕ) (m : Numbers) (law : SlotLaw a m) → a < 2 ^ 60 → is_live_word m.strong ≡ true
    → stage_in law ≡ Live
live_stage a m law fit live = grind (arith, nat_tests)

module _ (z : Shape) (c : Core) (so : Sound z c) where
  module _ (s : SlotId) (hs : s.0 < z.slots) where
    fit : adds_used c < 2 ^ 60
    fit = adds_fit z c so

    law : SlotLaw (adds_used c) (numbers z c s)
    law = so.slots s hs

    stage_here : stage z c s ≡ stage_in law
    stage_here = stage_is (adds_used c) (numbers z c s) law fit

    count_law : CountLaw z c s
    count_law = let l = law in let f = fit in let is = stage_here in grind (arith, nat_tests)

    pending_end : PendingEnd z c s
    pending_end = let l = law in let f = fit in grind (arith, nat_tests)

    one_ender : OneEnder z c s
    one_ender = let l = law in let f = fit in let is = stage_here in grind (arith, nat_tests)

    count_bounds : CountBounds z c s
    count_bounds = let l = law in let f = fit in grind arith

    lives : is_live_word (strong z c s) ≡ true → stage z c s ≡ Live
    lives live = stage_here ∙ live_stage (adds_used c) (numbers z c s) law fit live

  undisposed : AreUndisposed z c
  undisposed = record {
    stands = λ n j s hn hj valid.
        let views = so.views in
        stands n j s hn (noted_in_range z n (view_at c n) j Disposal s (so.seats n (omega arith)) hj valid) hj valid
        (is_live_word (strong z c s)) refl;
    unripe = so.unripe;
  }
    where
      stands : (n j : ℕ) (s : SlotId) → n < length c.views → s.0 < z.slots → j < 4
          → note_of (view_at c n) j ≡ note.Valid Disposal s
          → (b : Bool) → is_live_word (strong z c s) ≡ b
          → (stage z c s ≡ Live) ⊎ (0 < total (guarding (4 * n + j) Disposal s) c.views)
      stands n j s hn hs hj valid true is = inl (lives s hs is)
      stands n j s hn hs hj valid false is =
          let g = so.guarded n j Disposal s hn hj valid in
          let none : covering Disposal z c.words s ≡ 0 = rw is refl in inr (omega arith)

  pub sound_good : Good z c
  sound_good = record {
    words = so.words;
    views = so.views;
    seats = so.seats;
    counts = count_law;
    pending = pending_end;
    enders = one_ender;
    bounds = count_bounds;
    announced = so.announced;
    protected = λ n j k s ne hn hj valid. by_kind n j k s ne (so.guarded n j k s hn hj valid);
    undisposed = undisposed;
    room = so.room;
    range = so.range;
    tickets = so.tickets;
    fit = so.fit;
  }
    where
      by_kind : (n j : ℕ) (k : Kind) (s : SlotId) → k ≢ Disposal
          → 0 < covering k z c.words s + total (guarding (4 * n + j) k s) c.views
          → 0 < places k z c.words s + total (guarding (4 * n + j) k s) c.views
      by_kind n j Strong s ne h = h
      by_kind n j Weak s ne h = h
      by_kind n j Disposal s ne h = absurd (ne refl)
