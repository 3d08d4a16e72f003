-- The deeds that look at cells and fields, and that find records, keep the law.
use Rattle.std.proofs.Common.{◌≡◌, ◌≢◌, inl, inr, ⊎_elim, ℕ, zero, suc, ◌+◌, ◌-◌, ◌<◌, false, List, [], ◌∷◌, ◌++◌, length, get_or, set, refl, ap, sym, ◌∙◌, subst, arith}
use Rattle.std.specs.Prelude.{Option, Some, None}
use Rattle.plain_protocol.specs.plain_state.declared.act.EventPlace.TheVariants.{Cell, Field}
use Rattle.plain_protocol.specs.plain_state.declared.act.PlainAct.{PlainAct}
use Rattle.plain_protocol.specs.plain_state.declared.act.PlainAct.TheVariants as act
use Rattle.plain_protocol.specs.plain_state.declared.slot.PlainSlot.{PlainSlot}
use Rattle.plain_protocol.specs.plain_state.declared.slot.SlotId.{SlotId}
use Rattle.plain_protocol.specs.plain_state.declared.slot.Stage.TheVariants.{Live}
use Rattle.plain_protocol.specs.plain_state.State.{Plain, slot_at, stage_at}
use Rattle.plain_protocol.specs.plain_state.Lawful.{Lawful}
use Rattle.plain_protocol.specs.plain_state.Steps.{Does}
use Rattle.plain_protocol.specs.Acts.{IsCalm}
use Rattle.plain_protocol.specs.Calm.{IsCalmed}
use Rattle.plain_protocol.specs.Laws.{Keeps, Meets}
use Rattle.plain_protocol.specs.Owns.{own_part}
use Rattle.plain_protocol.proofs.Calm.{calm_leaves}
use Rattle.directory_law.specs.declared.view.Rope.{Rope}
use Rattle.directory_law.specs.Payloads.{Text, IsText}
use Rattle.directory_law.specs.Views.{In, Each, rope}
use Rattle.directory_law.specs.Cells.{Area}
use Rattle.directory_law.specs.Law.{DirectoryLaw}
use Rattle.directory_law.specs.Steps.{id, slot_of, LooksAt}
use Rattle.directory_law.proofs.Ends.{append_none, text_ends}
use Rattle.directory_law.proofs.Looks.{Looked, looked, word_slot}
use Rattle.directory_law.proofs.Kit.{none_some}
use Rattle.directory_law.proofs.Notes.{each_in}
use Rattle.directory_law.proofs.Quiet.{calm_keeps as directory_calm}
use Rattle.queue_law.proofs.Left.{does_left}
use Rattle.cell_law.specs.Views.{Sight, View, gone, view_at, BoundIn, IsOpen, makers, sight}
use Rattle.cell_law.specs.Cells.{cell, no_cells, IsRecord}
use Rattle.cell_law.specs.Law.{Follows, Saw, CellLaw}
use Rattle.cell_law.specs.Walks.{HasAll, payloads, WalksTell, last_sight, last_of}
use Rattle.cell_law.specs.Making.{cell_of, sees}
use Rattle.cell_law.specs.Lessons.{LookReady, LookTells, look_next, ReadReady, ReadTells, read_next, sees_part, SightsHold, FindReady, FindTells, Finds, NullsUnseen, find_next, found_rope}
use Rattle.cell_law.proofs.Kit.{maker_at, makers_set, meets_records}
use Rattle.cell_law.proofs.Stands.{open_for}
use Rattle.cell_law.proofs.Moves.{Step, Fixed, learns_alike, own_on, sight_holds, learnt_on, step_set, law_set}
use Rattle.cell_law.proofs.Records.{law_same_notes}
use Rattle.cell_law.proofs.Shares.{alone_bound, has_room}
use Rattle.cell_law.proofs.Walks.{has_life, new_text, seen_text, walked_passed, null_tells, whole_text}

-- a calm step, at which a view learns
module _ (z : Area) (p q : Plain) (views : List View) (n : ℕ) (step : PlainAct) (found : ℕ)
    (meets : Meets (CellLaw z) p views) (here : n < length views) (calm : IsCalm step)
    (does : Does p n step found q) (xs : List Sight) (fs : List Rope) where
  abbrev v : View
  v = view_at views n

  abbrev w : View
  w = record (view_at views n) { seen = xs; found = fs }

  left : IsCalmed p q
  left = calm_leaves p q n step found meets.lawful calm does

  pub cells_same : (c : ℕ) → c < z.cells → cell z q c ≡ cell z p c
  cells_same c h = ap (λ (xs : List (Option SlotId)). get_or xs (z.first + c) None) left.cells

  life : (s : SlotId) → stage_at p s ≡ Live → (slot_at q s).life ≡ (slot_at p s).life
  life s live = (left.slots s).life

  fields : (s : SlotId) → Fixed p views s → (slot_at q s).second ≡ (slot_at p s).second
  fields s fixed = ((left.slots s).fields fixed.live).1

  pub step_learns : Step z p q views (set views n w)
  step_learns = step_set z p q views n w here meets.lawful meets.law cells_same life fields
      (learns_alike v v.noted xs fs)

  records : DirectoryLaw no_cells q (makers (set views n w))
  records =
      subst (DirectoryLaw no_cells q)
      (sym (makers_set views n w ∙ ap (set (makers views) n) (sym (maker_at views n))))
      (law_same_notes no_cells q (makers views) n
      (directory_calm no_cells p q n step found (makers views) (meets_records z p views meets) calm
      does))

  pub law_learns : Each (Saw z q (set views n w)) xs
      → Each (λ (e : Rope). BoundIn (set views n w) e.slot e.life e.text) fs
      → ((e : Sight) → In e v.seen → In e xs) → CellLaw z q (set views n w)
  law_learns seen listed more =
      let l = learnt_on z p q views (set views n w) meets.lawful meets.law step_learns v
      (meets.law.learnt n) in
      law_set z p q views n w here meets.lawful meets.law cells_same life fields
      (learns_alike v v.noted xs fs)
      (does_left p q n step found (λ j e. subst IsCalm e calm) does) does.0.0 does.0.1 records
      (record { texts = l.texts; seen = seen; found = listed; own = own_on v w v.bound more l.own })

-- of a seat that hasn't cleared, what it saw holds
pub sights_hold : (z : Area) (p : Plain) (views : List View) (n : ℕ) (w : View) → Lawful p
    → CellLaw z p views → (w.cleared ≡ false → IsOpen views) → Each (Saw z p views) w.seen
    → SightsHold p w
sights_hold z p views n w lawful law opens saw uncleared e i =
    sight_holds z p views lawful law (opens uncleared) e
    (each_in (Saw z p views) e w.seen i saw)

-- LOOK
looks_cell : (z : Area) (at : ℕ) (step : PlainAct) → LooksAt (Cell (z.first + at)) step
    → cell_of step - z.first ≡ at
looks_cell z at step looks =
    let e : cell_of step ≡ z.first + at =
    ⊎_elim (λ (e : step ≡ act.Look (Cell (z.first + at))). ap cell_of e)
    (λ check. ap cell_of check.1) looks in omega arith

pub walks_tell : (z : Area) (p q : Plain) (views : List View) (n : ℕ) (step : PlainAct) (found : ℕ)
    → Meets (CellLaw z) p views → Does p n step found q → WalksTell z p n (view_at views n)
walks_tell z p q views n step found meets does text m uncleared walked ends =
    let opened = open_for z p views meets.law n does.0.0 does.0.1 uncleared in
    new_text z p views meets.lawful meets.law opened n text
    (null_tells z p views meets.lawful meets.law opened text m
    (walked_passed z p views meets.lawful meets.law opened n text m walked) ends)

-- no slot was seen in a cell that is null
nulls_unseen : (z : Area) (p : Plain) (views : List View) (n : ℕ) → CellLaw z p views
    → ((view_at views n).cleared ≡ false → IsOpen views) → NullsUnseen z p (view_at views n)
nulls_unseen z p views n law opens uncleared e i some null =
    go e.slots some ((each_in (Saw z p views) e (view_at views n).seen i (law.learnt n).seen).1
    (opens uncleared))
  where
    go : (ss : List SlotId) → ss ≢ [] → Follows p (cell z p e.cell) ss → ⊥
    go [] some follows = some refl
    go (s ∷ ss) some follows = none_some s (sym null ∙ follows.0)

module _ (z : Area) (p q : Plain) (views : List View) (n : ℕ) (step : PlainAct) (found : ℕ)
    (meets : Meets (CellLaw z) p views) (here : n < length views)
    (ready : LookReady z (own_part p n) (view_at views n) step) (does : Does p n step found q) where
  look : Looked p q (Cell (z.first + ready.at)) step found
  look = looked p q n (Cell (z.first + ready.at)) step found ready.looks does

  opens : (view_at views n).cleared ≡ false → IsOpen views
  opens = open_for z p views meets.law n does.0.0 does.0.1

  told : (w : View) → w.cleared ≡ (view_at views n).cleared → Each (Saw z p views) w.seen
      → LookTells z p q n (view_at views n) w
  told w same saw = record {
    stays = λ c s h is. cells_same z p q views n step found meets here look.calm does [] [] c h ∙ is;
    walks = walks_tell z p q views n step found meets does;
    holds = sights_hold z p views n w meets.lawful meets.law (λ e. opens (sym same ∙ e)) saw;
    unseen = nulls_unseen z p views n meets.law opens;
    room = has_room z p views meets.law n here;
  }

  law_looks : (k : ℕ) → cell z p ready.at ≡ slot_of k
      → CellLaw z q (set views n (sees ready.at k (view_at views n)))
      × LookTells z p q n (view_at views n) (sees ready.at k (view_at views n))
  law_looks zero is =
      let v = view_at views n in
      let l = meets.law.learnt n in
      let after = set views n v in
      let step_is = step_learns z p q views n step found meets here look.calm does v.seen v.found in
      let on = learnt_on z p q views after meets.lawful meets.law step_is v l in (
        law_learns z p q views n step found meets here look.calm does v.seen v.found on.seen on.found
            (λ x i. i),
        told v refl l.seen,
      )
  law_looks (suc s) is =
      let v = view_at views n in
      let l = meets.law.learnt n in
      let e : Sight = sight ready.at (id s) in
      let after = set views n (record v { seen = e ∷ v.seen }) in
      let step_is = step_learns z p q views n step found meets here look.calm does (e ∷ v.seen)
      v.found in
      let on = learnt_on z p q views after meets.lawful meets.law step_is v l in
      let at_q = cells_same z p q views n step found meets here look.calm does [] [] ready.at
      ready.inside ∙ is in (
        law_learns z p q views n step found meets here look.calm does (e ∷ v.seen) v.found
            ((ready.inside, λ o. (at_q, tt)), on.seen) on.found (λ x i. inr i),
        told (record v { seen = e ∷ v.seen }) refl ((ready.inside, λ o. (is, tt)), l.seen),
      )

pub look_keeps : (z : Area) → Keeps (CellLaw z) gone (LookReady z) (look_next z) (LookTells z)
look_keeps z p q views n step found meets here ready does =
    let o = look z p q views n step found meets here ready does in
    let is = word_slot found (cell z p ready.at) o.found_is in
    subst (λ (c : ℕ). CellLaw z q (set views n (sees c found (view_at views n)))
    × LookTells z p q n (view_at views n) (sees c found (view_at views n)))
    (sym (looks_cell z ready.at step ready.looks))
    (law_looks z p q views n step found meets here ready does found is)

-- READ. One slot more follows
follows_more : (p : Plain) (place : Option SlotId) (ss : List SlotId) (r : SlotId) → ss ≢ []
    → Follows p place ss → (slot_at p (last_of ss)).second ≡ Some r
    → Follows p place (ss ++ r ∷ [])
follows_more p place [] r some follows is = absurd (some refl)
follows_more p place (s ∷ []) r some follows is = (follows.0, (is, tt))
follows_more p place (s ∷ t ∷ ss) r some follows is = (
  follows.0,
  follows_more p (slot_at p s).second (t ∷ ss) r (λ e. cc) follows.1 is,
)

saw_part : (z : Area) (p : Plain) (views : List View) (e : Sight) (k : ℕ) → e.slots ≢ []
    → Saw z p views e → (slot_at p (last_of e.slots)).second ≡ slot_of k
    → Saw z p views (sees_part k e)
saw_part z p views e zero some saw is = saw
saw_part z p views e (suc s) some saw is =
    (saw.0, λ o. follows_more p (cell z p e.cell) e.slots (id s) some (saw.1 o) is)

pub read_keeps : (z : Area) → Keeps (CellLaw z) gone ReadReady read_next (ReadTells z)
read_keeps z p q views n step found meets here ready does =
    let v = view_at views n in
    let e : Sight = last_sight v.seen in
    let s : SlotId = last_of e.slots in
    let o = looked p q n (Field s 1) step found ready.looks does in
    let is : (slot_at p s).second ≡ slot_of found =
    word_slot found (slot_at p s).second o.found_is in
    let is_q = ap (λ (x : PlainSlot). x.second) (o.slots s) ∙ is in
    let new : Sight = sees_part found e in
    let xs : List Sight = new ∷ v.seen in
    let after = set views n (record v { seen = xs }) in
    let l = meets.law.learnt n in
    let step_is = step_learns z p q views n step found meets here o.calm does xs v.found in
    let on = learnt_on z p q views after meets.lawful meets.law step_is v l in
    let in_seen : In e v.seen = subst (In e) (sym ready.seen) (inl refl) in
    let saw = each_in (Saw z p views) e v.seen in_seen l.seen in
    let saw_q = each_in (Saw z q after) e v.seen in_seen on.seen in
    let opened = open_for z p views meets.law n does.0.0 does.0.1 in (
      law_learns z p q views n step found meets here o.calm does xs v.found
          (saw_part z q after e found ready.some_slot saw_q is_q, on.seen) on.found (λ x i. inr i),
      (
        λ c r h at. cells_same z p q views n step found meets here o.calm does [] [] c h ∙ at,
        sights_hold z p views n (record v { seen = xs }) meets.lawful meets.law opened
            (saw_part z p views e found ready.some_slot saw is, l.seen),
        λ has null. whole_text z p views meets.lawful meets.law (opened ready.is_open) n e saw
            ready.some_slot has null,
      ),
    )

-- FIND
pub record Confirms (z : Area) (p : Plain) (n : ℕ) (views : List View) (ss : List SlotId)
    : Type 0 where
  pub bound : BoundIn views (found_rope (own_part p n) ss).slot (found_rope (own_part p n) ss).life
      (payloads (own_part p n) ss)
  pub of : IsRecord z p (payloads (own_part p n) ss) (found_rope (own_part p n) ss).slot
  pub life : (slot_at p (found_rope (own_part p n) ss).slot).life ≡ (found_rope (own_part p n) ss).life

pub finds : (z : Area) (p : Plain) (n : ℕ) (views : List View) (e : Sight) → Lawful p
    → CellLaw z p views → IsOpen views → Saw z p views e → HasAll (own_part p n) e.slots
    → IsText (payloads (own_part p n) e.slots) → Confirms z p n views e.slots
finds z p n views e lawful law opened saw has whole = go e.slots (saw.1 opened) has whole
  where
    go : (ss : List SlotId) → Follows p (cell z p e.cell) ss → HasAll (own_part p n) ss
        → IsText (payloads (own_part p n) ss) → Confirms z p n views ss
    go [] follows has whole = absurd whole
    go (s ∷ ss) follows has whole =
        let o = seen_text z p views lawful law opened n e.cell s ss saw.0 follows has in
        let ps = payloads (own_part p n) (s ∷ ss) in
        let nil = text_ends ps o.rest whole (subst IsText o.begins o.of.is) in
        let same : o.text ≡ ps = o.begins
        ∙ (ap (λ (t : Text). ps ++ t) nil ∙ append_none ps) in
        let life = has_life p n s has.0 in
        record {
          bound = subst (λ (l : ℕ). BoundIn views s l ps) (sym life)
              (subst (BoundIn views s (slot_at p s).life) same o.bound);
          of = subst (λ (t : Text). IsRecord z p t s) same o.of;
          life = sym life;
        }

abbrev head_rope : List Rope → Rope
head_rope [] = rope (id 0) 0 []
head_rope (e ∷ es) = e

pub find_keeps : (z : Area) → Keeps (CellLaw z) gone FindReady find_next (FindTells z)
find_keeps z p q views n step found meets here ready does =
    let v = view_at views n in
    let e : Sight = last_sight v.seen in
    let l = meets.law.learnt n in
    let new : Rope = found_rope (own_part p n) e.slots in
    let fs : List Rope = new ∷ v.found in
    let after = set views n (record v { found = fs }) in
    let step_is = step_learns z p q views n step found meets here ready.calm does v.seen fs in
    let on = learnt_on z p q views after meets.lawful meets.law step_is v l in
    let in_seen : In e v.seen = subst (In e) (sym ready.seen) (inl refl) in
    let saw = each_in (Saw z p views) e v.seen in_seen l.seen in
    let opened = open_for z p views meets.law n does.0.0 does.0.1 ready.is_open in
    let o = finds z p n views e meets.lawful meets.law opened saw ready.has ready.whole in (
      law_learns z p q views n step found meets here ready.calm does v.seen fs on.seen
          (step_is.more new.slot new.life new.text o.bound, on.found) (λ y i. i),
      λ x is.
          let at : new ≡ x = ap head_rope is in
          subst (λ (y : Rope). Finds z p v y) at
          (record {
            is = o.of;
            life = o.life;
            own = λ alone. alone_bound z p views meets.law n here alone new.slot new.life new.text
                o.bound;
          }),
    )
