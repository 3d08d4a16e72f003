-- What the law says to callers, of cells and of what a seat saw.
use Rattle.std.proofs.Common.{◌≡◌, ◌≢◌, inl, ℕ, ◌<◌, false, List, [], ◌∷◌, ◌++◌, refl, ap, ◌∙◌, subst}
use Rattle.std.specs.Prelude.{Some, None}
use Rattle.plain_protocol.specs.plain_state.declared.slot.SlotId.{SlotId}
use Rattle.plain_protocol.specs.plain_state.Lawful.{Lawful}
use Rattle.plain_protocol.specs.plain_state.State.{Plain, slot_at}
use Rattle.plain_protocol.specs.plain_state.Steps.{IsSeat}
use Rattle.plain_protocol.specs.Laws.{Meets}
use Rattle.plain_protocol.specs.Owns.{own_part}
use Rattle.directory_law.specs.Payloads.{Text, IsText}
use Rattle.directory_law.specs.Views.{In}
use Rattle.directory_law.specs.Cells.{Area, on}
use Rattle.directory_law.proofs.Ends.{append_none, text_ends}
use Rattle.directory_law.proofs.Notes.{each_in}
use Rattle.cell_law.specs.Views.{Sight, View, view_at, BoundIn, IsOpen}
use Rattle.cell_law.specs.Cells.{cell, IsOnWay}
use Rattle.cell_law.specs.Law.{Follows, Saw, CellLaw}
use Rattle.cell_law.specs.Walks.{HasAll, Walked, payloads}
use Rattle.cell_law.specs.Promises.{CellsAreBound, IsAbsent, KeepsText, SeenRecord}
use Rattle.cell_law.proofs.Stands.{bound_built, bound_word, one_text, open_for, record_bound, set_record}
use Rattle.cell_law.proofs.Walks.{listed_record, null_tells, seen_text, walked_passed}

pub keeps_text : (z : Area) (p : Plain) (views : List View) → CellLaw z p views
    → (s : SlotId) (l : ℕ) (text : Text) → BoundIn views s l text → KeepsText p s l text
keeps_text z p views law s l text k =
    let built = bound_built z p views law s l text k in
    record {
      is = bound_word z p views law s l text k;
      began = built.0;
      reads = λ life live. (built.1 life live).1;
    }

pub cells_bound : (z : Area) (p : Plain) (views : List View) → Lawful p → CellLaw z p views
    → IsOpen views → CellsAreBound z p views
cells_bound z p views lawful law opened = record {
  set = λ c s h is.
      let o = law.cells c s h is in
      let r = set_record z p views law lawful c s h is in
      let same = one_text z p views law s o.text r.0 r.2.stage o.bound r.1 in
      (r.0, r.1, r.2, subst (λ (t : Text). IsOnWay z p t c) same (o.way opened));
  stands = λ s l text k.
      let o = law.stands opened s l text k in
      (o.0, o.1, o.2, o.3, listed_record z p views lawful law opened s l text k);
  apart = λ c d s r text hc hd isc isd a b.
      let x = record_bound z p views law text s a in
      let y = record_bound z p views law text r b in
      let same = (law.apart s r (slot_at p s).life (slot_at p r).life text x y).0 in
      law.single c d r hc hd (isc ∙ ap Some same) isd;
}

pub seen_record : (z : Area) (p : Plain) (views : List View) (n : ℕ) (e : Sight)
    → Meets (CellLaw z) p views → IsSeat p n → (view_at views n).cleared ≡ false
    → In e (view_at views n).seen → e.slots ≢ [] → HasAll (own_part p n) e.slots
    → SeenRecord z p n e
seen_record z p views n e meets seat uncleared i some has =
    let law = meets.law in
    let opened = open_for z p views law n seat.0 seat.1 uncleared in
    let saw = each_in (Saw z p views) e (view_at views n).seen i (law.learnt n).seen in
    go e.cell e.slots saw.0 opened (saw.1 opened) some has
  where
    go : (c : ℕ) (ss : List SlotId) → c < z.cells → IsOpen views → Follows p (cell z p c) ss → ss ≢ []
        → HasAll (own_part p n) ss → SeenRecord z p n (record { cell = c; slots = ss })
    go c [] inside opened follows some has = absurd (some refl)
    go c (s ∷ ss) inside opened follows some has =
        let o = seen_text z p views meets.lawful meets.law opened n c s ss inside follows has in
        let ps = payloads (own_part p n) (s ∷ ss) in
        record {
          stands = o.is;
          text = o.text;
          is = o.of;
          rest = o.rest;
          begins = o.begins;
          whole = λ whole.
              o.begins ∙ (ap (λ (t : Text). ps ++ t)
              (text_ends ps o.rest whole (subst IsText o.begins o.of.is)) ∙ append_none ps);
        }

pub absent : (z : Area) (p : Plain) (views : List View) (n : ℕ) (text : Text) (m : ℕ)
    → Meets (CellLaw z) p views → IsSeat p n → (view_at views n).cleared ≡ false
    → Walked z (own_part p n) (view_at views n) text m → cell z p (on z text m) ≡ None
    → IsAbsent z p views text
absent z p views n text m meets seat uncleared walked null =
    let law = meets.law in
    let opened = open_for z p views law n seat.0 seat.1 uncleared in
    let none = null_tells z p views meets.lawful law opened text m
    (walked_passed z p views meets.lawful law opened n text m walked) (inl null) in
    record {
      record_of = none;
      unlisted = λ s l k. none s (listed_record z p views meets.lawful law opened s l text k);
    }
