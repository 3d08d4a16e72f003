-- Foreign steps leave what is owned.
use Rattle.std.proofs.Common.{◌≡◌, ◌≢◌, inl, inr, ⊎_elim, ℕ, ◌+◌, ◌<◌, Bool, true, false, List, length, get_or, refl, sym, ap, subst, ◌∙◌, arith, Option, None}
use Rattle.std.specs.Prelude.{slice_set, ◌==◌, if◌then◌else◌}
use Rattle.std.proofs.lemmas.List.{get_or-set_same, get_or-set_other, set_past}
use Rattle.std.proofs.lemmas.Bool.{cases_lt}
use Rattle.plain_protocol.specs.plain_state.declared.act.EventPlace.{EventPlace}
use Rattle.plain_protocol.specs.plain_state.declared.act.EventPlace.TheVariants.{Cell, Field, WeakCell, WeakField}
use Rattle.plain_protocol.specs.plain_state.declared.act.PlainAct.{PlainAct}
use Rattle.plain_protocol.specs.plain_state.declared.act.PlainAct.TheVariants as act
use Rattle.plain_protocol.specs.plain_state.declared.slot.PlainSlot.{PlainSlot}
use Rattle.plain_protocol.specs.plain_state.declared.slot.SlotId.{SlotId}
use Rattle.plain_protocol.specs.plain_state.declared.slot.Stage.TheVariants.{Live}
use Rattle.plain_protocol.specs.plain_state.State.{Plain, new_slot, slot_at}
use Rattle.plain_protocol.specs.plain_state.Lawful.{Lawful}
use Rattle.plain_protocol.specs.plain_state.Places.{with_field}
use Rattle.plain_protocol.specs.plain_state.Steps.{Does, Replaces}
use Rattle.plain_protocol.proofs.Below.plain_state_Kit.{cases_slot}
use Rattle.plain_protocol.specs.Acts.{Owned, OwnsPlace, IsCalm, IsForeign}
use Rattle.plain_protocol.specs.Calm.{IsKeptAs, IsCalmed}
use Rattle.plain_protocol.proofs.Calm.{calm_leaves}
use Rattle.protocol_pairs.specs.Untouched.{IsUntouchedAs, IsUntouched}

-- SLOTS
same_slot : (owned : List ℕ → Type 0) (x : PlainSlot) → IsUntouchedAs owned x x
same_slot owned x = record {
  life = omega arith;
  kept = λ e. (refl, refl);
  fields = λ e own. (refl, refl, refl);
  live = λ e. inl e;
}

calm_slot : (owned : List ℕ → Type 0) (refs : ℕ) (x y : PlainSlot) → IsKeptAs refs x y
    → IsUntouchedAs owned x y
calm_slot owned refs x y kept = record {
  life = let e = kept.life in omega arith;
  kept = λ e. (kept.life, kept.payload e);
  fields = λ e own. kept.fields e;
  live = λ e. inl (kept.live e);
}

-- another object's fields are written
other_slot : (owned : List ℕ → Type 0) (x y : PlainSlot) → ¬ (owned x.payload) → y.stage ≡ x.stage
    → y.life ≡ x.life → y.payload ≡ x.payload → IsUntouchedAs owned x y
other_slot owned x y not stage life payload = record {
  life = omega arith;
  kept = λ e. (life, payload);
  fields = λ e own. absurd (not own);
  live = λ e. inl (sym stage ∙ e);
}

other_field : (owned : List ℕ → Type 0) (x : PlainSlot) (first : Bool) (new : Option SlotId)
    → ¬ (owned x.payload)
    → IsUntouchedAs owned x (if first then record x { first = new } else record x { second = new })
other_field owned x true new not =
    other_slot owned x (record x { first = new }) not refl refl refl
other_field owned x false new not =
    other_slot owned x (record x { second = new }) not refl refl refl

-- another object is made
made_slot : (owned : List ℕ → Type 0) (x : PlainSlot) → ¬ (owned x.payload) → x.stage ≢ Live
    → IsUntouchedAs owned x (record x { stage = Live; marked = false; life = x.life + 1 })
made_slot owned x not blank = record {
  life = omega arith;
  kept = λ e. absurd (blank e);
  fields = λ e own. absurd (blank e);
  live = λ e. inr (omega arith, not);
}

-- STATES
module _ (owned : Owned) (p q : Plain) where
  abbrev Spares : Type 0
  Spares = IsUntouched owned p q

  -- the slots, one of which is written
  one_slot : (x : SlotId) (y : PlainSlot) → IsUntouchedAs owned.payload (slot_at p x) y
      → q.slots ≡ slice_set p.slots x.0 y
      → (s : SlotId) → IsUntouchedAs owned.payload (slot_at p s) (slot_at q s)
  one_slot x y one slots s =
      subst (λ l. IsUntouchedAs owned.payload (slot_at p s) (get_or l s.0 new_slot)) (sym slots)
      written
    where
      written : IsUntouchedAs owned.payload (slot_at p s)
          (get_or (slice_set p.slots x.0 y) s.0 new_slot)
      written = ⊎_elim
          (λ (below : x.0 < length p.slots). ⊎_elim
          (λ (same : s ≡ x).
          subst (λ (z : SlotId).
          IsUntouchedAs owned.payload (slot_at p z) (get_or (slice_set p.slots x.0 y) z.0 new_slot))
          (sym same) (rw (get_or-set_same p.slots x.0 y new_slot below) one))
          (λ (ne : s.0 ≢ x.0). rw (get_or-set_other p.slots x.0 s.0 y new_slot ne)
          (same_slot owned.payload (slot_at p s)))
          (cases_slot s x))
          (λ past. rw (set_past p.slots x.0 y past) (same_slot owned.payload (slot_at p s)))
          (cases_lt x.0 (length p.slots))

  same_slots : q.slots ≡ p.slots → (s : SlotId)
      → IsUntouchedAs owned.payload (slot_at p s) (slot_at q s)
  same_slots slots s =
      subst (λ l. IsUntouchedAs owned.payload (slot_at p s) (get_or l s.0 new_slot)) (sym slots)
      (same_slot owned.payload (slot_at p s))

  -- of a list of cells one is written that isn't owned
  other_cells : (cell : ℕ → Type 0) (before after : List (Option SlotId)) (c : ℕ)
      (new : Option SlotId) → after ≡ slice_set before c new → ¬ (cell c)
      → (i : ℕ) → cell i → get_or after i None ≡ get_or before i None
  other_cells cell before after c new is not i own =
      ap (λ l. get_or l i None) is
      ∙ get_or-set_other before c i new None (λ (e : i ≡ c). not (subst cell e own))

  calm : IsCalmed p q → Spares
  calm c = record {
    cells = λ i own. ap (λ l. get_or l i None) c.cells;
    weak_cells = λ i own. ap (λ l. get_or l i None) c.weak_cells;
    tickets = λ own. c.tickets;
    slots = λ s. calm_slot owned.payload _ (slot_at p s) (slot_at q s) (c.slots s);
  }

  replaces : (n : ℕ) (place : EventPlace) (new : Option SlotId) → ¬ (OwnsPlace owned p place)
      → Replaces p n place new q → Spares
  replaces n (Cell i) new not r = record {
    cells = other_cells owned.cell p.cells q.cells i new (ap (λ (z : Plain). z.cells) r.2) not;
    weak_cells = λ j own. ap (λ (z : Plain). get_or z.weak_cells j None) r.2;
    tickets = λ own. ap (λ (z : Plain). z.tickets) r.2;
    slots = same_slots (ap (λ (z : Plain). z.slots) r.2);
  }
  replaces n (Field s i) new not r = record {
    cells = λ j own. ap (λ (z : Plain). get_or z.cells j None) r.2;
    weak_cells = λ j own. ap (λ (z : Plain). get_or z.weak_cells j None) r.2;
    tickets = λ own. ap (λ (z : Plain). z.tickets) r.2;
    slots = one_slot s (with_field i new (slot_at p s))
        (other_field owned.payload (slot_at p s) (i == 0) new not)
        (ap (λ (z : Plain). z.slots) r.2);
  }
  replaces n (WeakCell i) new not r = record {
    cells = λ j own. ap (λ (z : Plain). get_or z.cells j None) r.2;
    weak_cells = other_cells owned.weak_cell p.weak_cells q.weak_cells i new
        (ap (λ (z : Plain). z.weak_cells) r.2) not;
    tickets = λ own. ap (λ (z : Plain). z.tickets) r.2;
    slots = same_slots (ap (λ (z : Plain). z.slots) r.2);
  }
  replaces n (WeakField s) new not r = record {
    cells = λ j own. ap (λ (z : Plain). get_or z.cells j None) r.2;
    weak_cells = λ j own. ap (λ (z : Plain). get_or z.weak_cells j None) r.2;
    tickets = λ own. ap (λ (z : Plain). z.tickets) r.2;
    slots = one_slot s (record (slot_at p s) { weak_field = new })
        (other_slot owned.payload (slot_at p s) (record (slot_at p s) { weak_field = new }) not
        refl refl refl) (ap (λ (z : Plain). z.slots) r.2);
  }

  nothing : q ≡ p → Spares
  nothing is = record {
    cells = λ j own. ap (λ (z : Plain). get_or z.cells j None) is;
    weak_cells = λ j own. ap (λ (z : Plain). get_or z.weak_cells j None) is;
    tickets = λ own. ap (λ (z : Plain). z.tickets) is;
    slots = same_slots (ap (λ (z : Plain). z.slots) is);
  }

  pub foreign_leaves : (n : ℕ) (step : PlainAct) (found : ℕ) → Lawful p → IsForeign owned p step
      → Does p n step found q → Spares
  foreign_leaves n (act.Make s) found lawful not d = record {
    cells = λ j own. ap (λ (z : Plain). get_or z.cells j None) d.1.3;
    weak_cells = λ j own. ap (λ (z : Plain). get_or z.weak_cells j None) d.1.3;
    tickets = λ own. ap (λ (z : Plain). z.tickets) d.1.3;
    slots = one_slot s _
        (made_slot owned.payload (slot_at p s) not (λ e. let b = sym d.1.0 ∙ e in absurd cc))
        (ap (λ (z : Plain). z.slots) d.1.3);
  }
  foreign_leaves n (act.Replace place new) found lawful not d = replaces n place new not d.1.2
  foreign_leaves n (act.TryReplace place old new) found lawful not d =
      ⊎_elim (λ hit. replaces n place new not hit.1) (λ miss. nothing miss.1) d.1.2
  foreign_leaves n (act.Leave j) found lawful not d = absurd not
  foreign_leaves n act.Ticket found lawful not d = record {
    cells = λ j own. ap (λ (z : Plain). get_or z.cells j None) d.1.1;
    weak_cells = λ j own. ap (λ (z : Plain). get_or z.weak_cells j None) d.1.1;
    tickets = λ own. absurd (not own);
    slots = same_slots (ap (λ (z : Plain). z.slots) d.1.1);
  }
  foreign_leaves n step found lawful not d = calm (calm_leaves p q n step found lawful tt d)

-- a calm step is foreign to whatever is owned
pub calm_is_foreign : (owned : Owned) (p : Plain) (step : PlainAct) → IsCalm step
    → IsForeign owned p step
calm_is_foreign owned p (act.Make s) is = absurd is
calm_is_foreign owned p (act.Replace place new) is = absurd is
calm_is_foreign owned p (act.TryReplace place old new) is = absurd is
calm_is_foreign owned p (act.Leave j) is = absurd is
calm_is_foreign owned p act.Ticket is = absurd is
calm_is_foreign owned p _ is = tt
