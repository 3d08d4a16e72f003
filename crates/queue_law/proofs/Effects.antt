-- What each step of the real plain state does to the places and objects that a queue reads.
use Rattle.std.proofs.Common.{◌≡◌, ◌≢◌, ◌⊎◌, inl, inr, ⊎_elim, ℕ, ◌+◌, ◌<◌, length, get_or, set, refl, ap, sym, ◌∙◌, subst, arith, Option, Some, None}
use Rattle.std.proofs.lemmas.List.{get_or-set_same, get_or-set_other, get_or_past}
use Rattle.std.proofs.lemmas.Bool.{cases_eq, cases_lt}
use Rattle.plain_protocol.specs.plain_state.declared.act.EventPlace.TheVariants.{Cell}
use Rattle.plain_protocol.specs.plain_state.declared.act.PlainAct.{PlainAct}
use Rattle.plain_protocol.specs.plain_state.declared.act.PlainAct.TheVariants as act
use Rattle.plain_protocol.specs.plain_state.declared.slot.SlotId.{SlotId}
use Rattle.plain_protocol.specs.plain_state.declared.slot.PlainSlot.{PlainSlot}
use Rattle.plain_protocol.specs.plain_state.declared.slot.Kind.TheVariants.{Strong}
use Rattle.plain_protocol.specs.plain_state.State.{Plain, PlainSeat, seat_at, new_slot, with_slot}
use Rattle.plain_protocol.specs.plain_state.State as state
use Rattle.plain_protocol.specs.plain_state.Lawful.{Lawful}
use Rattle.plain_protocol.specs.plain_state.Steps.{word_of, Does, Replaces, GivesUp}
use Rattle.plain_protocol.proofs.Below.plain_state_Kit.{times_lost}
use Rattle.plain_protocol.specs.Acts.{IsCalm}
use Rattle.plain_protocol.proofs.Calm.{calm_leaves}
use Rattle.queue_law.proofs.Quiet as quiet
use Rattle.queue_law.specs.Words.{slot_at, cell_at, code, read_slot, Live, BLANK, times, held_times, id, first_of, second_of, back_of}
use Rattle.queue_law.specs.Writes.{SameObjects, FirstSet, SecondSet, BackSet, CellSet, Quiet, Makes}
use Rattle.queue_law.proofs.Kit.{word_some, word_none, live_code, blank_code, held_live}

-- CALM
pub calm_quiet : (p q : Plain) (n : ℕ) (step : PlainAct) (found : ℕ) → Lawful p → IsCalm step
    → Does p n step found q → Quiet p q
calm_quiet p q n step found lawful calm d =
    let c = calm_leaves p q n step found lawful calm d in
    record {
      stays = λ s refs. ap code (quiet.stays p q n step found lawful calm d (id s) refs);
      was = λ s live. ap code ((c.slots (id s)).live (live_code _ live));
      life = λ s. (c.slots (id s)).life;
      payload = λ s live. (c.slots (id s)).payload (live_code _ live);
      first = λ s live. ap word_of ((c.slots (id s)).fields ((c.slots (id s)).live (live_code _ live))).0;
      second = λ s live. ap word_of
          ((c.slots (id s)).fields ((c.slots (id s)).live (live_code _ live))).1;
      back = λ s live. ap word_of ((c.slots (id s)).fields ((c.slots (id s)).live (live_code _ live))).2;
      solid = λ s refs not e. quiet.solid p q n step found lawful calm d (id s) refs
          (λ z. not (ap code z)) (blank_code _ e);
      cells = λ i. ap (λ l. word_of (get_or l i None)) c.cells;
    }

pub quiet_same : (p q : Plain) → Lawful p → q ≡ p → Quiet p q
quiet_same p q lawful e = subst (Quiet p) (sym e) (record {
  stays = λ s refs. ap code (lawful.strong (id s) refs).0;
  was = λ s live. live;
  life = λ s. refl;
  payload = λ s live. refl;
  first = λ s live. refl;
  second = λ s live. refl;
  back = λ s live. refl;
  solid = λ s refs not. not;
  cells = λ c. refl;
})

-- a slot that isn't free is in range
pub in_range : (p : Plain) (s : ℕ) → (slot_at p s).stage ≢ 0 → s < length p.slots
in_range p s not = ⊎_elim (λ low. low)
    (λ past. absurd (not (ap (λ (z : PlainSlot). code z.stage) (get_or_past p.slots s new_slot past))))
    (cases_lt s (length p.slots))

pub live_range : (p : Plain) (s : ℕ) → Live p s → s < length p.slots
live_range p s live = in_range p s (λ e. let z = sym live ∙ e in omega arith)

-- one slot is written, and no cell
pub record Wrote (p q : Plain) (t : ℕ) (x : PlainSlot) : Type 0 where
  pub here : state.slot_at q (id t) ≡ x
  pub other : (j : ℕ) → j ≢ t → state.slot_at q (id j) ≡ state.slot_at p (id j)
  pub cells : (c : ℕ) → cell_at q c ≡ cell_at p c

pub wrote : (p q : Plain) (t : ℕ) (x : PlainSlot) → t < length p.slots → q.slots ≡ set p.slots t x
    → q.cells ≡ p.cells → Wrote p q t x
wrote p q t x low slots cells = record {
  here = ap (λ l. get_or l t new_slot) slots ∙ get_or-set_same p.slots t x new_slot low;
  other = λ j ne. ap (λ l. get_or l j new_slot) slots ∙ get_or-set_other p.slots t j x new_slot ne;
  cells = λ c. ap (λ l. word_of (get_or l c None)) cells;
}

-- a number or a word read off each slot, which the write leaves
read_same : {A : Type 0} (f : PlainSlot → A) (p q : Plain) (t : ℕ) (x : PlainSlot) → Wrote p q t x
    → f x ≡ f (state.slot_at p (id t)) → (j : ℕ) → f (state.slot_at q (id j)) ≡ f (state.slot_at p (id j))
read_same f p q t x w e j = ⊎_elim
    (λ is. ap (λ z. f (state.slot_at q (id z))) is
    ∙ (ap f w.here ∙ (e ∙ ap (λ z. f (state.slot_at p (id z))) (sym is))))
    (λ ne. ap f (w.other j ne)) (cases_eq j t)

pub wrote_objects : (p q : Plain) (t : ℕ) (x : PlainSlot) → Wrote p q t x
    → x.stage ≡ (state.slot_at p (id t)).stage → x.life ≡ (state.slot_at p (id t)).life
    → x.payload ≡ (state.slot_at p (id t)).payload → SameObjects p q
wrote_objects p q t x w a b c = record {
  stage = λ j. read_same (λ (z : PlainSlot). code z.stage) p q t x w (ap code a) j;
  life = λ j. read_same (λ (z : PlainSlot). z.life) p q t x w b j;
  payload = λ j. read_same (λ (z : PlainSlot). z.payload) p q t x w c j;
}

pub first_set : (p q : Plain) (t : ℕ) (new : Option SlotId)
    → Wrote p q t (record (state.slot_at p (id t)) { first = new }) → FirstSet p q t (word_of new)
first_set p q t new w = record {
  objects = wrote_objects p q t _ w refl refl refl;
  here = ap (λ (z : PlainSlot). word_of z.first) w.here;
  other = λ j ne. ap (λ (z : PlainSlot). word_of z.first) (w.other j ne);
  second = λ j. read_same (λ (z : PlainSlot). word_of z.second) p q t _ w refl j;
  back = λ j. read_same (λ (z : PlainSlot). word_of z.weak_field) p q t _ w refl j;
  cells = w.cells;
}

pub second_set : (p q : Plain) (t : ℕ) (new : Option SlotId)
    → Wrote p q t (record (state.slot_at p (id t)) { second = new }) → SecondSet p q t (word_of new)
second_set p q t new w = record {
  objects = wrote_objects p q t _ w refl refl refl;
  here = ap (λ (z : PlainSlot). word_of z.second) w.here;
  other = λ j ne. ap (λ (z : PlainSlot). word_of z.second) (w.other j ne);
  first = λ j. read_same (λ (z : PlainSlot). word_of z.first) p q t _ w refl j;
  back = λ j. read_same (λ (z : PlainSlot). word_of z.weak_field) p q t _ w refl j;
  cells = w.cells;
}

pub back_set : (p q : Plain) (t : ℕ) (new : Option SlotId)
    → Wrote p q t (record (state.slot_at p (id t)) { weak_field = new }) → BackSet p q t (word_of new)
back_set p q t new w = record {
  objects = wrote_objects p q t _ w refl refl refl;
  here = ap (λ (z : PlainSlot). word_of z.weak_field) w.here;
  other = λ j ne. ap (λ (z : PlainSlot). word_of z.weak_field) (w.other j ne);
  first = λ j. read_same (λ (z : PlainSlot). word_of z.first) p q t _ w refl j;
  second = λ j. read_same (λ (z : PlainSlot). word_of z.second) p q t _ w refl j;
  cells = w.cells;
}

pub cell_set : (p q : Plain) (c : ℕ) (new : Option SlotId) → c < length p.cells → q.slots ≡ p.slots
    → q.cells ≡ set p.cells c new → CellSet p q c (word_of new)
cell_set p q c new low slots cells =
    let at : (j : ℕ) → state.slot_at q (id j) ≡ state.slot_at p (id j) =
    λ j. ap (λ l. get_or l j new_slot) slots in
    record {
      objects = record {
        stage = λ j. ap (λ (z : PlainSlot). code z.stage) (at j);
        life = λ j. ap (λ (z : PlainSlot). z.life) (at j);
        payload = λ j. ap (λ (z : PlainSlot). z.payload)
            (at j);
      };
      here = ap (λ l. word_of (get_or l c None)) cells
          ∙ ap word_of (get_or-set_same p.cells c new None low);
      other = λ k ne. ap (λ l. word_of (get_or l k None)) cells
          ∙ ap word_of (get_or-set_other p.cells c k new None ne);
      first = λ j. ap (λ (z : PlainSlot). word_of z.first) (at j);
      second = λ j. ap (λ (z : PlainSlot). word_of z.second) (at j);
      back = λ j. ap (λ (z : PlainSlot). word_of z.weak_field) (at j);
    }

-- REPLACES
gives_strong : (s : ℕ) (v w : PlainSeat) → GivesUp Strong (Some (id s)) v w → 0 < times s v.owned
gives_strong s v w g = times_lost (id s) v.owned g.0 g.1

pub slots_of : (p q : Plain) → q ≡ p → q.slots ≡ p.slots
slots_of p q e = ap (λ (z : Plain). z.slots) e

pub cells_of : (p q : Plain) → q ≡ p → q.cells ≡ p.cells
cells_of p q e = ap (λ (z : Plain). z.cells) e

pub replaced_first : (p q : Plain) (n t : ℕ) (new : Option SlotId) → Live p t
    → Replaces p n (first_of t) new q → FirstSet p q t (word_of new)
replaced_first p q n t new live r = first_set p q t new
    (wrote p q t _ (live_range p t live) (slots_of _ q r.2) (cells_of _ q r.2))

pub replaced_second : (p q : Plain) (n t : ℕ) (new : Option SlotId) → Live p t
    → Replaces p n (second_of t) new q → SecondSet p q t (word_of new)
replaced_second p q n t new live r = second_set p q t new
    (wrote p q t _ (live_range p t live) (slots_of _ q r.2) (cells_of _ q r.2))

pub replaced_back : (p q : Plain) (n t : ℕ) (new : Option SlotId) → Live p t
    → Replaces p n (back_of t) new q → BackSet p q t (word_of new)
replaced_back p q n t new live r = back_set p q t new
    (wrote p q t _ (live_range p t live) (slots_of _ q r.2) (cells_of _ q r.2))

pub replaced_cell : (p q : Plain) (n c : ℕ) (new : Option SlotId) → c < length p.cells
    → Replaces p n (Cell c) new q → CellSet p q c (word_of new)
replaced_cell p q n c new low r = cell_set p q c new low (slots_of _ q r.2) (cells_of _ q r.2)

-- the steps of the deeds
pub tried_first : (p q : Plain) (n t new found : ℕ) → Lawful p
    → Does p n (act.TryReplace (first_of t) None (Some (id new))) found q
    → (found ≡ (slot_at p t).first) × (0 < held_times t (seat_at p n))
    × (((found ≡ 0) × (0 < times new (seat_at p n).owned) × FirstSet p q t (new + 1))
    ⊎ ((found ≢ 0) × (q ≡ p)))
tried_first p q n t new found lawful d = (
  d.1.1,
  d.1.0.1,
  ⊎_elim
      (λ hit. inl (
        d.1.1 ∙ ap word_of hit.0,
        gives_strong new _ _ hit.1.1,
        replaced_first p q n t
            (Some (id new)) (held_live p n t lawful d.1.0.1) hit.1,
      ))
      (λ miss. inr (
        (λ e. miss.0 (word_none (state.slot_at p (id t)).first (sym d.1.1 ∙ e))),
        miss.1,
      )) d.1.2,
)

pub tried_cell : (p q : Plain) (n c old new found : ℕ)
    → Does p n (act.TryReplace (Cell c) (Some (id old)) (Some (id new))) found q
    → (found ≡ cell_at p c) × (((found ≡ old + 1) × (0 < times new (seat_at p n).owned) × CellSet p q c
    (new + 1)) ⊎ ((found ≢ old + 1) × (q ≡ p)))
tried_cell p q n c old new found d = (
  d.1.1,
  ⊎_elim
      (λ hit. inl (
        d.1.1 ∙ ap word_of hit.0,
        gives_strong new _ _ hit.1.1,
        replaced_cell p q n c
            (Some (id new)) d.1.0 hit.1,
      ))
      (λ miss. inr ((λ e. miss.0 (word_some (get_or p.cells c None) old (sym d.1.1 ∙ e))), miss.1)) d.1.2,
)

pub put_second : (p q : Plain) (n t found : ℕ) (new : Option SlotId) → Lawful p
    → Does p n (act.Replace (second_of t) new) found q → (0 < held_times t (seat_at p n))
    × SecondSet p q t (word_of new)
put_second p q n t found new lawful d =
    (d.1.0.1, replaced_second p q n t new (held_live p n t lawful d.1.0.1) d.1.2)

pub put_back : (p q : Plain) (n t found : ℕ) (new : Option SlotId) → Lawful p
    → Does p n (act.Replace (back_of t) new) found q → (0 < held_times t (seat_at p n)) × BackSet p q t
    (word_of new)
put_back p q n t found new lawful d =
    (d.1.0, replaced_back p q n t new (held_live p n t lawful d.1.0) d.1.2)

pub put_cell : (p q : Plain) (n c found new : ℕ) → Does p n (act.Replace (Cell c) (Some (id new))) found q
    → (0 < times new (seat_at p n).owned) × CellSet p q c (new + 1)
put_cell p q n c found new d =
    (gives_strong new _ _ d.1.2.1, replaced_cell p q n c (Some (id new)) d.1.0 d.1.2)

pub null_cell : (p q : Plain) (n c found : ℕ) → Does p n (act.Replace (Cell c) None) found q
    → CellSet p q c 0
null_cell p q n c found d = replaced_cell p q n c None d.1.0 d.1.2

-- MAKE
pub makes : (p q : Plain) (n : ℕ) (s : SlotId) (found : ℕ) → Lawful p → Does p n (act.Make s) found q
    → Makes p q s.0
makes p q n s found lawful d =
    let blank : (slot_at p s.0).stage ≡ BLANK = ap code d.1.0 in
    let low = in_range p s.0 (λ e. let z = sym blank ∙ e in omega arith) in
    let null = lawful.nulls s
    ((λ e. let z = sym d.1.0 ∙ e in absurd cc), (λ e. let z = sym d.1.0 ∙ e in absurd cc)) in
    let w = wrote p q s.0 _ low (slots_of _ q d.1.3) (cells_of _ q d.1.3) in
    record {
      blank = blank;
      here = ap (λ (z : PlainSlot). code z.stage) w.here;
      life = ap (λ (z : PlainSlot). z.life) w.here;
      payload = ap (λ (z : PlainSlot). z.payload) w.here;
      first = ap (λ (z : PlainSlot). word_of z.first) w.here ∙ ap word_of null.0;
      back = ap (λ (z : PlainSlot). word_of z.weak_field) w.here ∙ ap word_of null.2;
      other = λ j ne. ap read_slot (w.other j ne);
      cells = w.cells;
    }
