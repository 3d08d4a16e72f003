-- The stage of a slot, by its signs, and what the invariant tells of the signs of a slot in each stage.
use Rattle.std.proofs.Common.{◌≡◌, ⊎_elim, ℕ, ◌+◌, ◌<◌, ◌≤◌, true, false, refl, ◌∙◌, arith}
use Rattle.std.proofs.lemmas.Bool.{cases_lt}
use Rattle.std.proofs.lemmas.Bool.Decides.{nat_tests}
use Rattle.core_events.specs.plain_state.declared.slot.Kind.TheVariants.{Weak}
use Rattle.core_events.specs.plain_state.declared.slot.SlotId.{SlotId}
use Rattle.core_events.specs.plain_state.declared.slot.Stage.TheVariants.{Free, Blank, Live, Ended, Husk}
use Rattle.core_events.specs.declared.shape.Shape.{Shape}
use Rattle.core_events.specs.Runs.{Core}
use Rattle.core_events.specs.Counts.{Signs, signs, stage_of, stage, is_live_word, strong, free_bit, barers, fillers, givers, dying_times, refs, adds_used}
use Rattle.core_events.specs.Good.{OneEnder, IsOver}
use Rattle.core_law.specs.Slots.{Numbers, numbers, SlotLaw}
use Rattle.core_law.specs.Sound.{Sound}
use Rattle.core_law.proofs.Flags.{live_taken}
use Rattle.core_law.proofs.Parts.{sound_good, stage_is, live_stage}
use Rattle.core_law.proofs.Put.{adds_fit}

-- the same signs, as far as they tell the stage
pub stage_same : (g h : Signs) → h.bit ≡ g.bit → h.claimers ≡ g.claimers → h.dying ≡ g.dying
    → is_live_word h.strong ≡ is_live_word g.strong → stage_of h ≡ stage_of g
unfolding stage_of
stage_same g h e1 e2 e3 e4 = rw (e1, e2, e3, e4) refl

pub free_stage : (g : Signs) → g.bit ≡ 1 → stage_of g ≡ Free
unfolding stage_of
free_stage g e = grind (arith, nat_tests)

pub blank_stage : (g : Signs) → g.bit ≡ 0 → 0 < g.claimers → stage_of g ≡ Blank
unfolding stage_of
blank_stage g e f = grind (arith, nat_tests)

pub ended_stage : (g : Signs) → g.bit ≡ 0 → g.claimers ≡ 0 → 0 < g.dying → stage_of g ≡ Ended
unfolding stage_of
ended_stage g e f d = grind (arith, nat_tests)

pub alive_stage : (g : Signs) → g.bit ≡ 0 → g.claimers ≡ 0 → g.dying ≡ 0
    → is_live_word g.strong ≡ true → stage_of g ≡ Live
unfolding stage_of
alive_stage g e f d l = grind (arith, nat_tests)

pub husk_stage : (g : Signs) → g.bit ≡ 0 → g.claimers ≡ 0 → g.dying ≡ 0
    → is_live_word g.strong ≡ false → stage_of g ≡ Husk
unfolding stage_of
husk_stage g e f d l = grind (arith, nat_tests)

over_dead : (w : ℕ) → IsOver w → is_live_word w ≡ false
over_dead w h = grind (arith, nat_tests)

-- a slot that is to be given back isn't dying, and nothing refers to it
given_free : (a : ℕ) (m : Numbers) → SlotLaw a m → 0 < m.giving
    → (m.dying ≡ 0) × (m.weak_refs ≡ 0)
given_free a m law p = grind arith

module _ (z : Shape) (c : Core) (so : Sound z c) (s : SlotId) (hs : s.0 < z.slots) where
  ender : OneEnder z c s
  ender = (sound_good z c so).enders s hs

  -- no bit, no claimer, not dying
  pub record IsStarted : Type 0 where
    pub bit : free_bit z c s ≡ 0
    pub claimers : barers c s + fillers c s ≡ 0
    pub dying : dying_times c s ≡ 0

  pub live_started : is_live_word (strong z c s) ≡ true → IsStarted
  live_started live =
      let t = live_taken (adds_used c) (numbers z c s) (so.slots s hs) (adds_fit z c so) live in
      let a = t.0 in let b = t.1 in
      record { bit = omega arith; claimers = omega arith; dying = omega arith }

  pub is_live : is_live_word (strong z c s) ≡ true → stage z c s ≡ Live
  is_live live =
      stage_is (adds_used c) (numbers z c s) (so.slots s hs) (adds_fit z c so)
      ∙ live_stage (adds_used c) (numbers z c s) (so.slots s hs) (adds_fit z c so) live

  -- a slot that waits to be destroyed
  pub record IsDying : Type 0 where
    pub bit : free_bit z c s ≡ 0
    pub claimers : barers c s + fillers c s ≡ 0
    pub once : dying_times c s ≡ 1
    pub dead : is_live_word (strong z c s) ≡ false

  pub dying_is : 0 < dying_times c s → IsDying
  dying_is pos =
      let once' = ender.once in
      let d = ender.dying pos in
      record { bit = d.1; claimers = d.2; once = omega arith; dead = over_dead _ d.0 }

  -- a slot that a seat has claimed
  pub record IsClaimed : Type 0 where
    pub bit : free_bit z c s ≡ 0
    pub claimers : barers c s + fillers c s ≡ 1
    pub dying : dying_times c s ≡ 0

  pub claimed_is : 0 < barers c s + fillers c s → IsClaimed
  claimed_is pos =
      let one = ender.one_keeper in
      let k = ender.kept (omega arith) in
      record { bit = k.1; claimers = omega arith; dying = none }
    where
      none : dying_times c s ≡ 0
      none = ⊎_elim
          (λ (d : 0 < dying_times c s). let e = (ender.dying d).2 in absurd (omega arith))
          (λ (d : dying_times c s ≤ 0). omega arith)
          (cases_lt 0 (dying_times c s))

  pub is_claimed : 0 < barers c s + fillers c s → stage z c s ≡ Blank
  is_claimed pos = blank_stage (signs z c s) (claimed_is pos).bit pos

  -- a slot that a seat is to give back
  pub record IsGiven : Type 0 where
    pub bit : free_bit z c s ≡ 0
    pub claimers : barers c s + fillers c s ≡ 0
    pub dying : dying_times c s ≡ 0
    pub dead : is_live_word (strong z c s) ≡ false
    pub none : refs Weak z c s ≡ 0

  pub given_is : 0 < givers c s → IsGiven
  given_is pos =
      let one = ender.one_keeper in
      let k = ender.kept (omega arith) in
      let f = given_free (adds_used c) (numbers z c s) (so.slots s hs) pos in
      record {
        bit = k.1;
        claimers = omega arith;
        dying = f.0;
        dead = over_dead _ k.0;
        none = f.1;
      }
