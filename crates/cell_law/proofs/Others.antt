-- Calm steps, and steps that leave alone what the protocol owns, keep the law with all views as they were.
use Rattle.std.proofs.Common.{◌≡◌, ◌≢◌, ⊎_elim, ℕ, ◌+◌, ◌<◌, List, length, get_or, set, ap, sym, ◌∙◌, subst, arith}
use Rattle.std.specs.Prelude.{Option, None}
use Rattle.std.proofs.lemmas.List.{get_or-set_other}
use Rattle.plain_protocol.specs.plain_state.declared.act.EventPlace.{EventPlace}
use Rattle.plain_protocol.specs.plain_state.declared.act.EventPlace.TheVariants.{Cell, Field, WeakCell, WeakField}
use Rattle.plain_protocol.specs.plain_state.declared.act.PlainAct.{PlainAct}
use Rattle.plain_protocol.specs.plain_state.declared.act.PlainAct.TheVariants as act
use Rattle.plain_protocol.specs.plain_state.declared.slot.SlotId.{SlotId}
use Rattle.plain_protocol.specs.plain_state.declared.slot.Stage.TheVariants.{Live}
use Rattle.plain_protocol.specs.plain_state.State.{Plain, PlainSeat, slot_at, stage_at}
use Rattle.plain_protocol.specs.plain_state.Places.{with_content}
use Rattle.plain_protocol.specs.plain_state.Steps.{Does}
use Rattle.plain_protocol.specs.Acts.{IsCalm, IsForeign, OwnsPlace}
use Rattle.plain_protocol.specs.Laws.{KeptByCalm, KeptByForeign, Meets}
use Rattle.plain_protocol.proofs.Calm.{calm_leaves}
use Rattle.directory_law.specs.Cells.{Area}
use Rattle.directory_law.specs.Law.{DirectoryLaw}
use Rattle.directory_law.specs.Owned as directory_owned
use Rattle.directory_law.proofs.Foreign.{foreign_keeps as directory_foreign}
use Rattle.directory_law.proofs.Quiet.{calm_keeps as directory_calm}
use Rattle.queue_law.proofs.Left.{does_left}
use Rattle.cell_law.specs.Views.{View, view_at, makers}
use Rattle.cell_law.specs.Cells.{cell, no_cells}
use Rattle.cell_law.specs.Law.{CellLaw}
use Rattle.cell_law.specs.Owned.{owns}
use Rattle.cell_law.proofs.Kit.{set_same, meets_records}
use Rattle.cell_law.proofs.Moves.{Fixed, learns_alike, learnt_on, step_set, law_set}

-- a step that changes no cell of the range, no life that lives and no field 1 of a record, and isn't a leave
module _ (z : Area) (p q : Plain) (views : List View) (n : ℕ) (step : PlainAct) (found : ℕ)
    (meets : Meets (CellLaw z) p views) (does : Does p n step found q)
    (stay : (j : ℕ) → step ≢ act.Leave j)
    (cells : (c : ℕ) → c < z.cells → cell z q c ≡ cell z p c)
    (life : (s : SlotId) → stage_at p s ≡ Live → (slot_at q s).life ≡ (slot_at p s).life)
    (fields : (s : SlotId) → Fixed p views s → (slot_at q s).second ≡ (slot_at p s).second)
    (records : DirectoryLaw no_cells q (makers views)) where
  pub law_rests : CellLaw z q views
  law_rests =
      let here : n < length views = subst (λ (k : ℕ). n < k) (sym meets.count) does.0.0 in
      let same = set_same views n in
      let v = view_at views n in
      let alike = learns_alike v v.noted v.seen v.found in
      let step_is = step_set z p q views n (view_at views n) here meets.lawful meets.law cells life
      fields alike in
      subst (CellLaw z q) same
      (law_set z p q views n (view_at views n) here meets.lawful meets.law cells life fields alike
      (does_left p q n step found stay does) does.0.0 does.0.1
      (subst (λ (vs : List View). DirectoryLaw no_cells q (makers vs)) (sym same) records)
      (learnt_on z p q views (set views n (view_at views n)) meets.lawful meets.law step_is
      (view_at views n) (meets.law.learnt n)))

pub calm_keeps : (z : Area) → KeptByCalm (CellLaw z)
calm_keeps z p q n step found views meets calm does =
    let left = calm_leaves p q n step found meets.lawful calm does in
    law_rests z p q views n step found meets does (λ j e. subst IsCalm e calm)
    (λ c h. ap (λ (xs : List (Option SlotId)). get_or xs (z.first + c) None) left.cells)
    (λ s live. (left.slots s).life)
    (λ s fixed. ((left.slots s).fields fixed.live).1)
    (directory_calm no_cells p q n step found (makers views) (meets_records z p views meets) calm
    does)

-- a write of a place that isn't owned: a cell outside the range, or a weak cell
outside : (z : Area) (p q : Plain) (ss : List PlainSeat) (place : EventPlace)
    (new : Option SlotId) → ¬ (OwnsPlace (owns z) p place)
    → q ≡ with_content (record p { seats = ss }) place new
    → ((c : ℕ) → c < z.cells → cell z q c ≡ cell z p c)
    × ((s : SlotId) → slot_at q s ≡ slot_at p s)
outside z p q ss (Cell i) new other is = (
  λ c h. ap (λ (r : Plain). cell z r c) is
      ∙ get_or-set_other p.cells i (z.first + c) new None
      (λ e. other ((omega arith), (omega arith))),
  λ s. ap (λ (r : Plain). slot_at r s) is,
)
outside z p q ss (Field s i) new other is = absurd (other tt)
outside z p q ss (WeakCell i) new other is = (
  λ c h. ap (λ (r : Plain). cell z r c) is,
  λ s. ap (λ (r : Plain). slot_at r s) is,
)
outside z p q ss (WeakField s) new other is = absurd (other tt)

-- it is foreign to a directory without cells
not_owned : (z : Area) (p : Plain) (place : EventPlace) → ¬ (OwnsPlace (owns z) p place)
    → ¬ (OwnsPlace (directory_owned.owns no_cells) p place)
not_owned z p (Cell i) other owned = owned
not_owned z p (Field s i) other owned = other tt
not_owned z p (WeakCell i) other owned = let a = owned.1 in omega arith
not_owned z p (WeakField s) other owned = other tt

-- a step that leaves the cells and every slot
module _ (z : Area) (p q : Plain) (views : List View) (n : ℕ) (step : PlainAct) (found : ℕ)
    (meets : Meets (CellLaw z) p views) (does : Does p n step found q)
    (stay : (j : ℕ) → step ≢ act.Leave j)
    (other : IsForeign (directory_owned.owns no_cells) p step)
    (same : ((c : ℕ) → c < z.cells → cell z q c ≡ cell z p c)
    × ((s : SlotId) → slot_at q s ≡ slot_at p s)) where
  apart : CellLaw z q views
  apart =
      law_rests z p q views n step found meets does stay same.0
      (λ s live. ap (λ x. x.life) (same.1 s))
      (λ s fixed. ap (λ x. x.second) (same.1 s))
      (directory_foreign no_cells p q n step found (makers views) (meets_records z p views meets)
      other does)

pub foreign_keeps : (z : Area) → KeptByForeign (CellLaw z) (owns z)
foreign_keeps z p q n (act.Make s) found views meets other does = absurd (other tt)
foreign_keeps z p q n (act.Replace place new) found views meets other does =
    apart z p q views n (act.Replace place new) found meets does (λ j e. cc)
    (not_owned z p place other) (outside z p q _ place new other does.1.2.2)
foreign_keeps z p q n (act.TryReplace place old new) found views meets other does =
    apart z p q views n (act.TryReplace place old new) found meets does (λ j e. cc)
    (not_owned z p place other)
    (⊎_elim
    (λ yes. outside z p q _ place new other yes.1.2)
    (λ not. (
      (λ c h. ap (λ (r : Plain). cell z r c) not.1),
      (λ s. ap (λ (r : Plain). slot_at r s) not.1),
    ))
    does.1.2)
foreign_keeps z p q n act.Ticket found views meets other does =
    apart z p q views n act.Ticket found meets does (λ j e. cc) (λ owned. owned)
    ((λ c h. ap (λ (r : Plain). cell z r c) does.1.1), (λ s. ap (λ (r : Plain). slot_at r s) does.1.1))
foreign_keeps z p q n (act.Leave j) found views meets other does = absurd other
foreign_keeps z p q n (act.Claim s) found views meets other does =
    calm_keeps z p q n (act.Claim s) found views meets tt does
foreign_keeps z p q n (act.Fill s i word) found views meets other does =
    calm_keeps z p q n (act.Fill s i word) found views meets tt does
foreign_keeps z p q n (act.Add s) found views meets other does =
    calm_keeps z p q n (act.Add s) found views meets tt does
foreign_keeps z p q n (act.Drop s) found views meets other does =
    calm_keeps z p q n (act.Drop s) found views meets tt does
foreign_keeps z p q n (act.WeakGain s) found views meets other does =
    calm_keeps z p q n (act.WeakGain s) found views meets tt does
foreign_keeps z p q n (act.WeakDrop s) found views meets other does =
    calm_keeps z p q n (act.WeakDrop s) found views meets tt does
foreign_keeps z p q n (act.Look place) found views meets other does =
    calm_keeps z p q n (act.Look place) found views meets tt does
foreign_keeps z p q n (act.Check j place) found views meets other does =
    calm_keeps z p q n (act.Check j place) found views meets tt does
foreign_keeps z p q n (act.Alive j) found views meets other does =
    calm_keeps z p q n (act.Alive j) found views meets tt does
foreign_keeps z p q n (act.EndSnapshot k s) found views meets other does =
    calm_keeps z p q n (act.EndSnapshot k s) found views meets tt does
foreign_keeps z p q n (act.Count s) found views meets other does =
    calm_keeps z p q n (act.Count s) found views meets tt does
foreign_keeps z p q n (act.Mark s) found views meets other does =
    calm_keeps z p q n (act.Mark s) found views meets tt does
foreign_keeps z p q n (act.WeakCount s) found views meets other does =
    calm_keeps z p q n (act.WeakCount s) found views meets tt does
foreign_keeps z p q n (act.See s i) found views meets other does =
    calm_keeps z p q n (act.See s i) found views meets tt does
foreign_keeps z p q n (act.Eject k s) found views meets other does =
    calm_keeps z p q n (act.Eject k s) found views meets tt does
foreign_keeps z p q n (act.End s) found views meets other does =
    calm_keeps z p q n (act.End s) found views meets tt does
foreign_keeps z p q n (act.Clear place) found views meets other does =
    calm_keeps z p q n (act.Clear place) found views meets tt does
foreign_keeps z p q n (act.Destroy s) found views meets other does =
    calm_keeps z p q n (act.Destroy s) found views meets tt does
foreign_keeps z p q n (act.Give s) found views meets other does =
    calm_keeps z p q n (act.Give s) found views meets tt does
foreign_keeps z p q n act.Split found views meets other does =
    calm_keeps z p q n act.Split found views meets tt does
foreign_keeps z p q n act.Still found views meets other does =
    calm_keeps z p q n act.Still found views meets tt does
