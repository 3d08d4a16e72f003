-- The deed by which seat 0, when it is alone, clears a cell keeps the law.
use Rattle.std.proofs.Common.{◌≡◌, ◌≢◌, ⊎_elim, ℕ, ◌+◌, ◌<◌, ◌≤◌, true, List, length, get_or, set, refl, ap, sym, ◌∙◌, subst, arith}
use Rattle.std.specs.Prelude.{Option, Some, None}
use Rattle.std.proofs.lemmas.Bool.{cases_eq, cases_lt, false≢true}
use Rattle.std.proofs.lemmas.List.{get_or-set_same, get_or-set_other, set_past}
use Rattle.plain_protocol.specs.plain_state.declared.act.EventPlace.TheVariants.{Cell}
use Rattle.plain_protocol.specs.plain_state.declared.act.PlainAct.{PlainAct}
use Rattle.plain_protocol.specs.plain_state.declared.act.PlainAct.TheVariants as act
use Rattle.plain_protocol.specs.plain_state.declared.slot.SlotId.{SlotId}
use Rattle.plain_protocol.specs.plain_state.State.{Plain, PlainSeat, slot_at}
use Rattle.plain_protocol.specs.plain_state.Steps.{Does}
use Rattle.plain_protocol.specs.Laws.{Keeps, Meets}
use Rattle.plain_protocol.specs.Owns.{own_part}
use Rattle.directory_law.specs.declared.view.Rope.{Rope}
use Rattle.directory_law.specs.Payloads.{Text}
use Rattle.directory_law.specs.Cells.{Area}
use Rattle.directory_law.specs.Law.{DirectoryLaw}
use Rattle.directory_law.proofs.Kit.{none_some}
use Rattle.directory_law.proofs.Notes.{each_map}
use Rattle.directory_law.proofs.Quiet.{law_quiet}
use Rattle.queue_law.proofs.Alone.{alone_at}
use Rattle.queue_law.proofs.Left.{does_left}
use Rattle.cell_law.specs.Views.{View, gone, view_at, BoundIn, IsOpen, makers}
use Rattle.cell_law.specs.Cells.{cell, no_cells}
use Rattle.cell_law.specs.Law.{Saw, Learnt, CellLaw, HasLeft}
use Rattle.cell_law.specs.Lessons.{ClearReady, ClearTells, clear_next}
use Rattle.cell_law.proofs.Binding.{moved, moved_quiet}
use Rattle.cell_law.proofs.Gone.{gone_set, left_on}
use Rattle.cell_law.proofs.Kit.{at_view, view_here, maker_at, makers_set, bound_more, bound_back}
use Rattle.cell_law.proofs.Records.{law_same_notes}
use Rattle.cell_law.proofs.Shares.{shares_set}

-- who has the whole state is seat 0, and all others have left
whole_alone : (p : Plain) (n : ℕ) → (own_part p n).whole ≢ None
    → (n ≡ 0) × ((m : ℕ) → m ≢ 0 → HasLeft p m)
whole_alone p n whole = go ((own_part p n).whole) refl
  where
    go : (x : Option Plain) → (own_part p n).whole ≡ x
        → (n ≡ 0) × ((m : ℕ) → m ≢ 0 → HasLeft p m)
    go None is = absurd (whole is)
    go (Some r) is = let a = alone_at p n r is in (a.0, a.2)

-- a cell that isn't null after a cell was cleared is as it was
put_null : (xs : List (Option SlotId)) (i d : ℕ) → get_or (set xs i None) d None ≢ None
    → get_or (set xs i None) d None ≡ get_or xs d None
put_null xs i d some =
    ⊎_elim
    (λ (e : d ≡ i).
    ⊎_elim
    (λ (low : i < length xs). absurd (some (ap (λ (k : ℕ). get_or (set xs i None) k None) e
    ∙ get_or-set_same xs i None None low)))
    (λ (past : length xs ≤ i). ap (λ (l : List (Option SlotId)). get_or l d None)
    (set_past xs i None past))
    (cases_lt i (length xs)))
    (λ (ne : d ≢ i). get_or-set_other xs i d None None ne)
    (cases_eq d i)

module _ (z : Area) (p q : Plain) (ss : List PlainSeat) (at : ℕ) (views : List View)
    (meets : Meets (CellLaw z) p views) (here : 0 < length views)
    (is : q ≡ moved p ss (set p.cells (z.first + at) None)) where
  abbrev v : View
  v = view_at views 0

  abbrev w : View
  w = record (view_at views 0) { cleared = true }

  abbrev after : List View
  after = set views 0 w

  at_root : view_at after 0 ≡ w
  at_root = view_here views 0 w here

  slots : (s : SlotId) → slot_at q s ≡ slot_at p s
  slots s = ap (λ (x : Plain). slot_at x s) is

  cells : (c : ℕ) → cell z q c ≢ None → cell z q c ≡ cell z p c
  cells c some =
      let e : cell z q c ≡ get_or (set p.cells (z.first + at) None) (z.first + c) None =
      ap (λ (x : Plain). cell z x c) is in
      e ∙ put_null p.cells (z.first + at) (z.first + c) (λ none. some (e ∙ none))

  was : (c : ℕ) (s : SlotId) → cell z q c ≡ Some s → cell z p c ≡ Some s
  was c s held = sym (cells c (λ none. none_some s (sym none ∙ held))) ∙ held

  records : DirectoryLaw no_cells q (makers after)
  records =
      subst (DirectoryLaw no_cells q)
      (sym (makers_set views 0 w ∙ ap (set (makers views) 0) (sym (maker_at views 0))))
      (law_same_notes no_cells q (makers views) 0
      (subst (λ (x : Plain). DirectoryLaw no_cells x (makers views)) (sym is)
      (law_quiet no_cells p (moved p ss (set p.cells (z.first + at) None))
      (moved_quiet p ss (set p.cells (z.first + at) None)) meets.lawful (makers views)
      meets.law.records)))

  more : (s : SlotId) (l : ℕ) (t : Text) → BoundIn views s l t → BoundIn after s l t
  more = bound_more views 0 w here (λ e i. i)

  fewer : (s : SlotId) (l : ℕ) (t : Text) → BoundIn after s l t → BoundIn views s l t
  fewer s l t k = ⊎_elim (λ i. (0, i)) (λ b. b) (bound_back views 0 w here s l t k)

  shut : IsOpen after → ⊥
  shut opened = false≢true (sym opened ∙ ap (λ (x : View). x.cleared) at_root)

  learnt_shut : (x : View) → Learnt z p views x → Learnt z q after x
  learnt_shut x l = record {
    texts = l.texts;
    seen = each_map (Saw z p views) (Saw z q after) (λ e h. (h.0, λ o. absurd (shut o))) x.seen
        l.seen;
    found = each_map (λ (e : Rope). BoundIn views e.slot e.life e.text)
        (λ (e : Rope). BoundIn after e.slot e.life e.text)
        (λ e h. more e.slot e.life e.text h) x.found l.found;
    own = l.own;
  }

  learnt_root : Learnt z q after w
  learnt_root =
      let l = learnt_shut v (meets.law.learnt 0) in
      record { texts = l.texts; seen = l.seen; found = l.found; own = l.own }

  pub law_cleared : ((m : ℕ) → HasLeft p m → HasLeft q m) → ((m : ℕ) → HasLeft q m → view_at after m ≡ gone)
      → ((m : ℕ) → m ≢ 0 → HasLeft p m) → CellLaw z q after
  law_cleared left_then gone_then alone =
      let law = meets.law in
      record {
        records = records;
        cells = λ c s h held.
            let o = law.cells c s h (was c s held) in
            record {
              text = o.text;
              bound = more s (slot_at q s).life o.text
                  (subst (λ (l : ℕ). BoundIn views s l o.text)
                  (sym (ap (λ x. x.life) (slots s))) o.bound);
              way = λ o. absurd (shut o);
            };
        single = λ c d s hc hd isc isd. law.single c d s hc hd (was c s isc) (was d s isd);
        stands = λ o s l t k. absurd (shut o);
        apart = λ s r l k t a b. law.apart s r l k t (fewer s l t a) (fewer r k t b);
        learnt = at_view views 0 w (Learnt z q after) here learnt_root
            (λ m ne. learnt_shut (view_at views m) (law.learnt m));
        granted = at_view views 0 w (λ (x : View). length x.bound ≤ x.grant) here (law.granted 0)
            (λ m ne. law.granted m);
        room = let a = shares_set views 0 w here refl in let b = law.room in omega arith;
        left = gone_then;
        alone = λ is m ne. left_then m (alone m ne);
      }

pub clear_keeps : (z : Area) → Keeps (CellLaw z) gone (ClearReady z) clear_next (ClearTells z)
clear_keeps z p q views n step found meets here ready does =
    let whole = whole_alone p n ready.alone in
    let d = subst (λ (a : PlainAct). Does p n a found q) ready.act_is does in
    let same = does_left p q n step found
    (λ j e. let f : act.Replace (Cell (z.first + ready.at)) None ≡ act.Leave j =
    sym ready.act_is ∙ e in cc) does in
    let ss : List PlainSeat = q.seats in
    let is : q ≡ moved p ss (set p.cells (z.first + ready.at) None) =
    d.1.2.2 ∙ ap (λ (xs : List PlainSeat). moved p xs (set p.cells (z.first + ready.at) None))
    (sym (ap (λ (x : Plain). x.seats) d.1.2.2)) in
    let root : 0 < length views = omega arith in
    let w : View = record (view_at views n) { cleared = true } in
    let gone_then = gone_set p q n views w same does.0.0 does.0.1 meets.law.left in
    let kept = law_cleared z p q ss ready.at views meets root is (λ m h. left_on p q m same h)
    (subst (λ (k : ℕ). (m : ℕ) → HasLeft q m → view_at (set views k
    (record (view_at views k) { cleared = true })) m ≡ gone) whole.0 gone_then) whole.1 in (
      subst (λ (k : ℕ). CellLaw z q (set views k (record (view_at views k) { cleared = true })))
          (sym whole.0) kept,
      record {
        slots = slots z p q ss ready.at views meets root is;
        cells = λ c h. cells z p q ss ready.at views meets root is c;
      },
    )
