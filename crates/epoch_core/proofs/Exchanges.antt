-- Steps on places keep the invariant: an exchange, a lost one, a field that is cleared.
use Rattle.std.proofs.Common.{◌≡◌, ◌≢◌, ◌⊎◌, inl, inr, ⊎_elim, ℕ, ◌+◌, ◌^◌, ◌<◌, List, set, refl, ap, sym, ◌∙◌, arith, Option, Some, None}
use Rattle.std.specs.Prelude.{slice_index, ◌==◌, ◌-◌}
use Rattle.std.proofs.lemmas.List.{length-set, get_or-set_other}
use Rattle.std.proofs.lemmas.Bool.{cases_lt}
use Rattle.std.proofs.lemmas.Bool.Decides.{nat_tests}
use Rattle.core_law.specs.plain_state.declared.act.EventPlace.{EventPlace}
use Rattle.core_law.specs.plain_state.declared.act.EventPlace.TheVariants.{Cell, Field, WeakCell, WeakField}
use Rattle.core_law.specs.plain_state.declared.slot.SlotId.{SlotId}
use Rattle.core_law.specs.plain_state.Lists.{times}
use Rattle.core_law.specs.plain_state.Steps.{word_of}
use Rattle.core_law.specs.core_events.Counts.{one, in_word}
use Rattle.core_law.specs.core_events.Views.{of_slot, without}
use Rattle.core_law.specs.core_events.Words.{slot_in}
use Rattle.core_law.proofs.Kit.{by_test, slot_cases, one_same, times_without, in_word_slot, in_word_null}
use Rattle.epoch_core.specs.declared.act.EpochAct.TheVariants as act
use Rattle.epoch_core.specs.declared.shape.EpochShape.{EpochShape}
use Rattle.epoch_core.specs.declared.view.EpochMove.{EpochMove}
use Rattle.epoch_core.specs.declared.view.EpochPhase.{EpochPhase}
use Rattle.epoch_core.specs.declared.view.EpochPhase.TheVariants as phase
use Rattle.epoch_core.specs.declared.view.EpochView.{EpochView}
use Rattle.epoch_core.specs.Words.{cell_at, count_at, field_at, place_at}
use Rattle.epoch_core.specs.Views.{IsIdle, IsOpen}
use Rattle.epoch_core.specs.Steps.{May, CanGive, took, gave}
use Rattle.epoch_core.specs.Runs.{Core, view_at, after}
use Rattle.epoch_core.specs.Counts.{filling, undated, places, refs, dying_times}
use Rattle.epoch_core.specs.Slots.{fields_sum}
use Rattle.epoch_core.specs.Sound.{Sound}
use Rattle.epoch_core.proofs.Kit.{total_at}
use Rattle.epoch_core.proofs.Writes.{IsPlace, place_high, place_not_count, places_put, places_at, fields_sum_off}
use Rattle.epoch_core.proofs.Put.{stepped, law_alike, at_seat, fit_set}
use Rattle.epoch_core.proofs.Quiet.{IsQuiet, quiet_sound}
use Rattle.epoch_core.proofs.Held.{held_refs, named_in_range}
use Rattle.epoch_core.proofs.Counting.{Having, having, with_having, seat_having}
use Rattle.epoch_core.proofs.Counters.{unchanged}
use Rattle.epoch_core.proofs.Phases.{quiet_idle, quiet_undated, in_idle}

-- CONTENTS
-- 1 where the content is s
abbrev pub holding : SlotId → Option SlotId → ℕ
holding s o = of_slot (one s) o

pub word_holds : (s : SlotId) (o : Option SlotId) → in_word s (word_of o) ≡ holding s o
word_holds s None = in_word_null s
word_holds s (Some x) = in_word_slot s x

pub content_holds : (s : SlotId) (w : ℕ) → in_word s w ≡ holding s (slot_in w)
content_holds s w = by_test (w == 0)
    (λ is. let e : w ≡ 0 = grind (arith, nat_tests) in rw e (in_word_null s))
    (λ not.
    let e : w ≡ w - 1 + 1 = grind (arith, nat_tests) in
    rw not (ap (in_word s) e ∙ in_word_slot s (record { 0 = w - 1 })))

-- what a seat has once a place took this reference of it
abbrev pub owned_after : Option SlotId → EpochView → List SlotId
owned_after None v = v.owned
owned_after (Some s) v = without s v.owned

-- and once it took this content out of the place
abbrev pub phase_after : Option SlotId → EpochView → EpochPhase
phase_after None v = v.phase
phase_after (Some s) v = phase.Undated s

abbrev pub exchanged : Option SlotId → Option SlotId → List EpochMove → EpochView → Having
exchanged o new t v =
    record (having v) { owned = owned_after new v; phase = phase_after o v; trail = t }

pub took_is : (o new : Option SlotId) (t : List EpochMove) (v : EpochView)
    → (record (took o (gave new v)) { trail = t }) ≡ with_having v (exchanged o new t v)
took_is None None t v = refl
took_is None (Some x) t v = refl
took_is (Some s) None t v = refl
took_is (Some s) (Some x) t v = refl

gives_one : (x : SlotId) (new : Option SlotId) (v : EpochView) → CanGive new v
    → times x (owned_after new v) + holding x new ≡ times x v.owned
gives_one x None v can = omega arith
gives_one x (Some s) v can = times_without x s v.owned can

-- the phase after an exchange, of a seat that was idle
pub record TakesOne (x : SlotId) (o : Option SlotId) (v : EpochView) : Type 0 where
  pub takes : undated x (phase_after o v) ≡ holding x o
  pub fills : filling x (phase_after o v) ≡ 0

pub takes_one : (x : SlotId) (o : Option SlotId) (v : EpochView) → v.phase ≡ phase.Idle → TakesOne x o v
takes_one x None v is = let i = in_idle v.phase x is in record { takes = i.0; fills = i.1 }
takes_one x (Some s) v is = record { takes = refl; fills = refl }

quiet_after : (o : Option SlotId) (v : EpochView) → v.phase ≡ phase.Idle → IsQuiet (phase_after o v)
quiet_after None v is = quiet_idle v.phase is
quiet_after (Some s) v is = quiet_undated _ s refl

not_blank_after : (o : Option SlotId) (v : EpochView) → v.phase ≡ phase.Idle → (x : SlotId)
    → phase_after o v ≡ phase.Blank x → ⊥
not_blank_after None v is x e = let no : phase.Blank x ≡ phase.Idle = sym e ∙ is in cc
not_blank_after (Some s) v is x e = cc

module _ (z : EpochShape) (c : Core) (n : ℕ) (so : Sound z c) (hn : n < z.seats) where
  abbrev v : EpochView
  v = view_at c n

  -- a slot that a place holds is there
  pub found_there : (q : EventPlace) (s : SlotId) → IsPlace z q
      → slot_in (slice_index c.words (place_at z q)) ≡ Some s → (s.0 < z.slots) × (0 < places z c.words s)
  found_there q s h is =
      let o = one_same s s refl in
      let e = content_holds s (slice_index c.words (place_at z q)) in
      let held : holding s (slot_in (slice_index c.words (place_at z q))) ≡ 1 = rw is o in
      let at = places_at z c.words q s h in (
        ⊎_elim (λ lt. lt) (λ le. let r = so.range s le in absurd (omega arith)) (cases_lt s.0 z.slots),
        omega arith,
      )

  -- a place that is open is there, and its slot is live
  pub open_there : (q : EventPlace) → IsOpen z v q → IsPlace z q
  open_there (Cell i) h = h
  open_there (Field s i) h = (let g = h.1 in named_in_range z n v s (so.seats n hn) (omega arith), h.0)
  open_there (WeakCell i) h = h
  open_there (WeakField s) h = h

  -- the slot of a field has references, or waits to be destroyed
  abbrev IsKept : EventPlace → Type 0
  IsKept (Cell i) = Unit {0}
  IsKept (Field s i) = 0 < refs z c s + dying_times c s
  IsKept (WeakCell i) = ⊥
  IsKept (WeakField s) = ⊥

  open_kept : (q : EventPlace) → IsOpen z v q → IsKept q
  open_kept (Cell i) h = tt
  open_kept (Field s i) h = let r = held_refs z c n s so hn h.1 in omega arith
  open_kept (WeakCell i) h = h
  open_kept (WeakField s) h = h

  fields_stay : (q : EventPlace) (w : ℕ) (x : SlotId) → IsPlace z q → x.0 < z.slots → IsKept q
      → (fields_sum z (set c.words (place_at z q) w) x ≡ fields_sum z c.words x)
      ⊎ (0 < refs z c x + dying_times c x)
  fields_stay (Cell i) w x h hx kept =
      inl (fields_sum_off z c.words (cell_at z i) w x (λ j l. omega arith))
  fields_stay (Field s i) w x h hx kept = ⊎_elim
      (λ (e : x ≡ s). inr (rw e kept))
      (λ (ne : x.0 ≢ s.0). let l = h.1 in inl (fields_sum_off z c.words (field_at z s i) w x (λ j m. omega arith)))
      (slot_cases x s)
  fields_stay (WeakCell i) w x h hx kept = absurd kept
  fields_stay (WeakField s) w x h hx kept = absurd kept

  -- a new content fits its word
  content_fits : (new : Option SlotId) → CanGive new v → word_of new < 2 ^ 64
  content_fits None can = omega arith
  content_fits (Some s) can =
      let hs = named_in_range z n v s (so.seats n hn) (omega arith) in
      let few = so.shape.3 in omega arith

  -- what goes where: into the place comes what the seat gives, and out of it what it takes
  record Swapped (q : EventPlace) (new : Option SlotId) (x : SlotId) : Type 0 where
    put :
        places z (set c.words (place_at z q) (word_of new)) x
        + in_word x (slice_index c.words (place_at z q))
        ≡ places z c.words x + in_word x (word_of new)
    given : in_word x (word_of new) ≡ holding x new
    taken :
        in_word x (slice_index c.words (place_at z q))
        ≡ holding x (slot_in (slice_index c.words (place_at z q)))
    owned : times x (owned_after new v) + holding x new ≡ times x v.owned

  swapped : (q : EventPlace) (new : Option SlotId) → IsPlace z q → CanGive new v → (x : SlotId) → Swapped q new x
  swapped q new h can x =
      let len = so.words in
      record {
        put = places_put z c.words q (word_of new) x h (omega arith);
        given = word_holds x new;
        taken = content_holds x (slice_index c.words (place_at z q));
        owned = gives_one x new v can;
      }

  -- a place gets a new content, and what it held is to be dated
  pub exchange : (q : EventPlace) (new : Option SlotId) (t : List EpochMove) → IsIdle v → IsPlace z q
      → IsKept q → CanGive new v
      → Sound z (stepped c n
      (with_having v (exchanged (slot_in (slice_index c.words (place_at z q))) new t v))
      (set c.words (place_at z q) (word_of new)) c.opened)
  exchange q new t idle h kept can =
      let w : ℕ = slice_index c.words (place_at z q) in
      let ws : List ℕ = set c.words (place_at z q) (word_of new) in
      let o : Option SlotId = slot_in w in
      let k : Having = exchanged o new t v in
      let law = so.seats n hn in
      let len = so.words in
      let high = place_high z q h in
      let moves = swapped q new h can in
      quiet_sound z c n (with_having v k) ws so hn (record {
        len = length-set c.words (place_at z q) (word_of new);
        low = λ i l. get_or-set_other c.words (place_at z q) i (word_of new) 0 (omega arith);
        fit = fit_set z c (place_at z q) (word_of new) so (content_fits new can);
        same = record {
          number = refl;
          known = refl;
          before = quiet_idle v.phase idle.0;
          after = quiet_after o v idle.0;
        };
        law = seat_having z c n so hn k idle.1 law.adds law.makes
            (λ x e. absurd (not_blank_after o v idle.0 x e))
            (λ x le.
            let m = moves x in
            let a = m.put in
            let b = m.given in
            let d = m.taken in
            let e = m.owned in
            let p = takes_one x o v idle.0 in
            let p0 = p.takes in
            let p1 = p.fills in
            let i = in_idle v.phase x idle.0 in
            let at = places_at z c.words q x h in
            let none = so.range x le in
            let r = law.range x le in omega arith);
        dates = (so.regions n hn).dates;
        guards = λ g x a b hx.
            let m = moves x in
            let m0 = m.put in
            let m1 = m.given in
            let m2 = m.taken in
            let p = (takes_one x o v idle.0).takes in
            let i = in_idle v.phase x idle.0 in omega arith;
        seen = λ x s. inl s;
        range = λ x le.
            let m = moves x in
            let m0 = m.put in
            let m1 = m.given in
            let m3 = m.owned in
            let none = so.range x le in
            let r = law.range x le in omega arith;
        slots = λ x hx. law_alike z c n (with_having v k) ws c.opened x so hn (omega arith)
            (record {
              word = get_or-set_other c.words (place_at z q) (count_at z x) (word_of new) 0
                  (place_not_count z q x h);
              counted =
                  let m = moves x in
                  let m0 = m.put in
                  let m1 = m.given in
                  let m2 = m.taken in
                  let m3 = m.owned in
                  let p = (takes_one x o v idle.0).takes in
                  let i = in_idle v.phase x idle.0 in omega arith;
              fill = let p = (takes_one x o v idle.0).fills in let i = in_idle v.phase x idle.0 in omega arith;
              dyi = refl;
              fields = fields_stay q (word_of new) x h hx kept;
            }) hx;
      })

  pub swap_keeps : (q : EventPlace) (new : Option SlotId) → May z (act.Swap q new) v
      → Sound z (after z c n (act.Swap q new))
  swap_keeps q new may = rw (took_is (slot_in (slice_index c.words (place_at z q))) new _ v)
      (exchange q new _ may.0 (open_there q may.1) (open_kept q may.1) may.2)

  pub cas_keeps : (q : EventPlace) (old new : Option SlotId) → May z (act.Cas q old new) v
      → Sound z (after z c n (act.Cas q old new))
  cas_keeps q old new may = by_test (slice_index c.words (place_at z q) == word_of old)
      (λ is. rw (is, took_is (slot_in (slice_index c.words (place_at z q))) new _ v)
      (exchange q new _ may.0 (open_there q may.1) (open_kept q may.1) may.2))
      (λ not. rw not (unchanged z c n so hn _ (place_at z q) (quiet_idle v.phase may.0.0)))

  pub clear_keeps : (s : SlotId) (i : ℕ) → May z (act.Clear s i) v → Sound z (after z c n (act.Clear s i))
  clear_keeps s i may =
      let mine = may.2 in
      let hs = named_in_range z n v s (so.seats n hn) (omega arith) in
      let d = total_at (λ (u : EpochView). times s u.dying) c.views n (at_seat z c n so hn) in
      rw (took_is (slot_in (slice_index c.words (field_at z s i))) None _ v)
      (exchange (Field s i) None _ may.0 (hs, may.1) (omega arith) tt)
