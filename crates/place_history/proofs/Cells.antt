-- Where a strong cell holds a slot after a plain step, the step put it there, or the cell held it before.
use Rattle.std.proofs.Common.{◌≡◌, ◌≢◌, ◌⊎◌, inl, inr, ⊎_elim, ℕ, ◌<◌, length, get_or, refl, ap, sym, ◌∙◌, Option, Some, None}
use Rattle.std.proofs.lemmas.Bool.{cases_eq}
use Rattle.std.proofs.lemmas.List.{get_or-set_same}
use Rattle.core_promises.specs.plain_state.declared.act.EventPlace.TheVariants.{Cell, Field, WeakCell, WeakField}
use Rattle.core_promises.specs.plain_state.declared.act.PlainAct.{PlainAct}
use Rattle.core_promises.specs.plain_state.declared.act.PlainAct.TheVariants as plain
use Rattle.core_promises.specs.plain_state.declared.slot.SlotId.{SlotId}
use Rattle.core_promises.specs.plain_state.declared.slot.Stage.TheVariants.{Live}
use Rattle.core_promises.specs.plain_state.Lawful.{Lawful}
use Rattle.core_promises.specs.plain_state.Places.{content}
use Rattle.core_promises.specs.plain_state.State.{Plain, new_slot, slot_at, stage_at}
use Rattle.core_promises.specs.plain_state.Steps.{Does, Replaces}
use Rattle.protocol_pairs.specs.plain_protocol.Acts.{IsForeign, Owned}
use Rattle.protocol_pairs.specs.Untouched.{IsUntouched}
use Rattle.protocol_pairs.proofs.Held.{cell_live}
use Rattle.protocol_pairs.proofs.Leaves.{foreign_leaves}
use Rattle.place_history.specs.Puts.{HoldsAs, Puts}

-- the cell alone
abbrev the_cell : ℕ → Owned
the_cell cell = record {
  cell = λ i. i ≡ cell;
  weak_cell = λ i. ⊥;
  payload = λ words. ⊥;
  tickets = ⊥;
}

module _ (cell : ℕ) (s : SlotId) (p q : Plain) (n found : ℕ) (lawful : Lawful p)
    (holds : content q (Cell cell) ≡ Some s) where
  abbrev Held : Type 0
  Held = HoldsAs cell s (slot_at q s).payload p

  -- what a step comes to
  abbrev pub PutOrHeld : PlainAct → Type 0
  PutOrHeld a = (Puts cell s p a × ((slot_at p s).payload ≡ (slot_at q s).payload)) ⊎ Held

  -- the cell is as it was, and what lives has its payload still
  left : get_or q.cells cell None ≡ get_or p.cells cell None
      → (stage_at p s ≡ Live → (slot_at q s).payload ≡ (slot_at p s).payload) → Held
  left same kept =
      let was = sym same ∙ holds in (was, sym (kept (cell_live p cell s lawful was)))

  foreign : (a : PlainAct) → IsForeign (the_cell cell) p a → Does p n a found q → Held
  foreign a is does =
      let same : IsUntouched (the_cell cell) p q =
      foreign_leaves (the_cell cell) p q n a found lawful is does in
      left (same.cells cell refl) (λ live. ((same.slots s).kept live).1)

  -- the cell has another content
  replaced : (i : ℕ) → i ≡ cell → (new : Option SlotId) → i < length p.cells
      → Replaces p n (Cell i) new q
      → (new ≡ Some s) × ((slot_at p s).payload ≡ (slot_at q s).payload)
  replaced i same new low r =
      let now : get_or q.cells i None ≡ new =
      ap (λ (z : Plain). get_or z.cells i None) r.2 ∙ get_or-set_same p.cells i new None low in (
        sym now ∙ (ap (λ k. get_or q.cells k None) same ∙ holds),
        ap (λ (z : Plain). (get_or z.slots s.0 new_slot).payload) (sym r.2),
      )

  pub put_or_held : (a : PlainAct) → Does p n a found q → PutOrHeld a
  put_or_held (plain.Replace (Cell i) new) does = ⊎_elim
      (λ (same : i ≡ cell).
      let r = replaced i same new does.1.0 does.1.2 in inl ((ap (λ k. Cell k) same, r.0), r.1))
      (λ (other : i ≢ cell). inr (foreign (plain.Replace (Cell i) new) other does))
      (cases_eq i cell)
  put_or_held (plain.Replace (Field x i) new) does =
      inr (foreign (plain.Replace (Field x i) new) (λ own. own) does)
  put_or_held (plain.Replace (WeakCell i) new) does =
      inr (foreign (plain.Replace (WeakCell i) new) (λ own. own) does)
  put_or_held (plain.Replace (WeakField x) new) does =
      inr (foreign (plain.Replace (WeakField x) new) (λ own. own) does)
  put_or_held (plain.TryReplace (Cell i) old new) does = ⊎_elim
      (λ (same : i ≡ cell). ⊎_elim
      (λ hit.
      let r = replaced i same new does.1.0 hit.1 in
      inl ((ap (λ k. Cell k) same, r.0, hit.0), r.1))
      (λ miss. inr (left (ap (λ (z : Plain). get_or z.cells cell None) miss.1)
      (λ live. ap (λ (z : Plain). (slot_at z s).payload) miss.1)))
      does.1.2)
      (λ (other : i ≢ cell). inr (foreign (plain.TryReplace (Cell i) old new) other does))
      (cases_eq i cell)
  put_or_held (plain.TryReplace (Field x i) old new) does =
      inr (foreign (plain.TryReplace (Field x i) old new) (λ own. own) does)
  put_or_held (plain.TryReplace (WeakCell i) old new) does =
      inr (foreign (plain.TryReplace (WeakCell i) old new) (λ own. own) does)
  put_or_held (plain.TryReplace (WeakField x) old new) does =
      inr (foreign (plain.TryReplace (WeakField x) old new) (λ own. own) does)
  put_or_held (plain.Make x) does = inr (foreign (plain.Make x) (λ own. own) does)
  put_or_held (plain.Leave j) does = inr (left
      (ap (λ (z : Plain). get_or z.cells cell None) does.1.8)
      (λ live. ap (λ (z : Plain). (slot_at z s).payload) does.1.8))
  put_or_held plain.Ticket does = inr (foreign plain.Ticket (λ own. own) does)
  put_or_held a does = inr (foreign a tt does)
