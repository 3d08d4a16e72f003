-- What stands in cells, what is listed as bound, and what is noted.
use Rattle.std.proofs.Common.{◌≡◌, ◌≢◌, ⊎_elim, ℕ, ◌+◌, ◌<◌, ◌≤◌, true, false, Bool, List, ◌++◌, length, refl, ap, sym, ◌∙◌, subst, arith}
use Rattle.std.specs.Prelude.{Some}
use Rattle.std.proofs.lemmas.List.{get_or_past}
use Rattle.std.proofs.lemmas.Bool.{cases_eq, cases_lt, false≢true}
use Rattle.plain_protocol.specs.plain_state.declared.slot.SlotId.{SlotId}
use Rattle.plain_protocol.specs.plain_state.declared.slot.Stage.TheVariants.{Live}
use Rattle.plain_protocol.specs.plain_state.State.{Plain, seat_at, slot_at, stage_at}
use Rattle.plain_protocol.specs.plain_state.Lawful.{Lawful}
use Rattle.directory_law.specs.declared.view.Rope.{Rope}
use Rattle.directory_law.specs.declared.view.View.{View as DirectoryView}
use Rattle.directory_law.specs.Payloads.{Text, IsOwn, IsText}
use Rattle.directory_law.specs.Views.{In, Each, rope, times_of, fresh}
use Rattle.directory_law.specs.Views as directory
use Rattle.directory_law.specs.Chains.{Reads}
use Rattle.directory_law.specs.Cells.{Area}
use Rattle.directory_law.specs.Learnt.{Built}
use Rattle.directory_law.proofs.Kit.{total_at, total_both}
use Rattle.directory_law.proofs.Notes.{append_of, none_of, each_in, in_left, in_right, in_times, one_note}
use Rattle.directory_law.proofs.Bytes.{text_is}
use Rattle.directory_law.proofs.Chains.{Pointed, reads_same}
use Rattle.directory_law.proofs.Quiet.{cell_held}
use Rattle.cell_law.specs.Views.{View, gone, view_at, bound_in, BoundIn, IsOpen, IsWord, makers}
use Rattle.cell_law.specs.Cells.{cell, IsRecord}
use Rattle.cell_law.specs.Law.{CellLaw}
use Rattle.cell_law.proofs.Kit.{maker_at, makers_long, listing}

-- what a strong cell holds lives
pub standing_live : (z : Area) (p : Plain) (c : ℕ) (s : SlotId) → Lawful p → cell z p c ≡ Some s
    → (stage_at p s ≡ Live) × ((slot_at p s).marked ≡ false)
standing_live z p c s lawful is =
    lawful.strong s (let a = cell_held p.cells (z.first + c) s is in omega arith)

-- a view that notes something is there
noting : (views : List View) (n : ℕ) (e : Rope) → In e (view_at views n).noted → n < length views
noting views n e i =
    ⊎_elim
    (λ (h : n < length views). h)
    (λ past. absurd (subst (λ (v : View). In e v.noted) (get_or_past views n gone past) i))
    (cases_lt n (length views))

module _ (z : Area) (p : Plain) (views : List View) (law : CellLaw z p views) where
  -- how often one view has a life, in the directory without cells
  abbrev times_in : SlotId → ℕ → ℕ → ℕ
  times_in s l n = times_of s l (directory.view_at (makers views) n).noted

  times_is : (s : SlotId) (l n : ℕ)
      → times_in s l n ≡ times_of s l (view_at views n).noted + times_of s l (bound_in (view_at views n))
  times_is s l n =
      ap (λ (v : DirectoryView). times_of s l v.noted) (maker_at views n)
      ∙ append_of s l (view_at views n).noted (bound_in (view_at views n))

  -- what a view notes it doesn't list as bound
  pub noted_alone : (n : ℕ) (s : SlotId) (l : ℕ) (a : Text) → In (rope s l a) (view_at views n).noted
      → times_of s l (bound_in (view_at views n)) ≡ 0
  noted_alone n s l a noted =
      let long = makers_long views in
      let hn = noting views n (rope s l a) noted in
      let x = in_times s l (rope s l a) (view_at views n).noted refl refl noted in
      let at_n = times_is s l n in
      let once = law.records.once s l in
      let t = total_at (λ (v : DirectoryView). times_of s l v.noted) (makers views) n (omega arith) in
      omega arith

  -- what a view notes is bound by none
  pub noted_unbound : (n : ℕ) (s : SlotId) (l : ℕ) (a b : Text)
      → In (rope s l a) (view_at views n).noted → BoundIn views s l b → ⊥
  noted_unbound n s l a b noted k =
      let long = makers_long views in
      let hn = noting views n (rope s l a) noted in
      let hk = listing views k.0 (rope s l b) k.1 in
      let x = in_times s l (rope s l a) (view_at views n).noted refl refl noted in
      let y = in_times s l (rope s l b) (bound_in (view_at views k.0)) refl refl k.1 in
      let at_n = times_is s l n in
      let at_k = times_is s l k.0 in
      let once = law.records.once s l in
      ⊎_elim
      (λ (e : k.0 ≡ n).
      let same : times_in s l k.0 ≡ times_in s l n = ap (times_in s l) e in
      let other : times_of s l (bound_in (view_at views k.0)) ≡ times_of s l (bound_in (view_at
      views n)) = ap (λ (m : ℕ). times_of s l (bound_in (view_at views m))) e in
      let t = total_at (λ (v : DirectoryView). times_of s l v.noted) (makers views) n (omega arith) in
      omega arith)
      (λ (ne : k.0 ≢ n).
      let t = total_both (λ (v : DirectoryView). times_of s l v.noted) (makers views) n k.0
      (none_of s l) (omega arith) (omega arith) ne in omega arith)
      (cases_eq k.0 n)

  -- nor does any slot lead to it
  pub noted_unled : (n : ℕ) (s : SlotId) (a : Text)
      → In (rope s (slot_at p s).life a) (view_at views n).noted → Pointed p s → ⊥
  noted_unled n s a noted pt =
      let l : ℕ = (slot_at p s).life in
      let long = makers_long views in
      let hn = noting views n (rope s l a) noted in
      let x = in_times s l (rope s l a) (view_at views n).noted refl refl noted in
      let at_n = times_is s l n in
      let none = law.records.loose pt.0 s pt.1 pt.2 in
      let t = total_at (λ (v : DirectoryView). times_of s l v.noted) (makers views) n (omega arith) in
      omega arith

  -- a life is listed with one text
  pub life_text : (s : SlotId) (l : ℕ) (a b : Text) → BoundIn views s l a → BoundIn views s l b
      → a ≡ b
  life_text s l a b x y =
      let long = makers_long views in
      let hx = listing views x.0 (rope s l a) x.1 in
      let hy = listing views y.0 (rope s l b) y.1 in
      let at_x = times_is s l x.0 in
      let at_y = times_is s l y.0 in
      let once = law.records.once s l in
      ⊎_elim
      (λ (e : y.0 ≡ x.0).
      let t = total_at (λ (v : DirectoryView). times_of s l v.noted) (makers views) x.0 (omega arith) in
      one_note s l a b (bound_in (view_at views x.0)) (omega arith) x.1
      (subst (λ (n : ℕ). In (rope s l b) (bound_in (view_at views n))) e y.1))
      (λ (ne : y.0 ≢ x.0).
      let i = in_times s l (rope s l a) (bound_in (view_at views x.0)) refl refl x.1 in
      let j = in_times s l (rope s l b) (bound_in (view_at views y.0)) refl refl y.1 in
      let t = total_both (λ (v : DirectoryView). times_of s l v.noted) (makers views) x.0 y.0
      (none_of s l) (omega arith) (omega arith) ne in absurd (omega arith))
      (cases_eq y.0 x.0)

  built_at : (n : ℕ) → Each (Built p) ((view_at views n).noted ++ bound_in (view_at views n))
  built_at n = subst (λ (v : DirectoryView). Each (Built p) v.noted) (maker_at views n)
      (law.records.learnt n).noted

  pub noted_built : (n : ℕ) (e : Rope) → In e (view_at views n).noted → Built p e
  noted_built n e i =
      let v = view_at views n in
      each_in (Built p) e (v.noted ++ bound_in v) (in_left e v.noted (bound_in v) i) (built_at n)

  pub bound_built : (s : SlotId) (l : ℕ) (t : Text) → BoundIn views s l t → Built p (rope s l t)
  bound_built s l t k =
      let v = view_at views k.0 in
      each_in (Built p) (rope s l t) (v.noted ++ bound_in v)
      (in_right (rope s l t) v.noted (bound_in v) k.1) (built_at k.0)

  pub bound_word : (s : SlotId) (l : ℕ) (t : Text) → BoundIn views s l t → IsWord t
  bound_word s l t k = each_in (λ (e : Rope). IsWord e.text) (rope s l t)
      (bound_in (view_at views k.0)) k.1 (law.learnt k.0).texts

  pub bound_text : (s : SlotId) (l : ℕ) (t : Text) → BoundIn views s l t → IsText t
  bound_text s l t k = let w = bound_word s l t k in text_is w.0 t w.2

  -- the text that is listed for a slot that lives is one
  pub bound_reads : (s : SlotId) (t : Text) → stage_at p s ≡ Live
      → BoundIn views s (slot_at p s).life t → IsOwn (slot_at p s).payload × Reads p s t
  bound_reads s t live k = (bound_built s (slot_at p s).life t k).1 refl live

  pub one_text : (s : SlotId) (a b : Text) → stage_at p s ≡ Live
      → BoundIn views s (slot_at p s).life a → BoundIn views s (slot_at p s).life b → a ≡ b
  one_text s a b live x y = reads_same p s a b (bound_reads s a live x).1 (bound_reads s b live y).1

  -- a record in a cell has the text that is listed for it
  pub record_bound : (text : Text) (s : SlotId) → IsRecord z p text s
      → BoundIn views s (slot_at p s).life text
  record_bound text s r =
      let o = law.cells r.stands.0 s r.stands.1 r.stands.2 in
      subst (BoundIn views s (slot_at p s).life)
      (reads_same p s o.text text (bound_reads s o.text r.stage o.bound).1 r.reads) o.bound

  -- what a set cell holds is the record of a text
  pub set_record : Lawful p → (c : ℕ) (s : SlotId) → c < z.cells → cell z p c ≡ Some s
      → (text : Text) × BoundIn views s (slot_at p s).life text × IsRecord z p text s
  set_record lawful c s inside is =
      let o = law.cells c s inside is in
      let live = (standing_live z p c s lawful is).0 in (
        o.text,
        o.bound,
        record {
          stands = (c, inside, is);
          stage = live;
          is = bound_text s (slot_at p s).life o.text o.bound;
          reads = (bound_reads s o.text live o.bound).1;
        },
      )

  -- a seat that acts and hasn't cleared acts on open cells
  pub open_for : (n : ℕ) → n < length p.seats → (seat_at p n).left ≡ false
      → (view_at views n).cleared ≡ false → IsOpen views
  open_for n there here uncleared =
      ⊎_elim
      (λ (e : n ≡ 0). subst (λ (m : ℕ). (view_at views m).cleared ≡ false) e uncleared)
      (λ (ne : n ≢ 0). still_open n ne there here ((view_at views 0).cleared) refl)
      (cases_eq n 0)
    where
      still_open : (n : ℕ) → n ≢ 0 → n < length p.seats → (seat_at p n).left ≡ false
          → (b : Bool) → (view_at views 0).cleared ≡ b → (view_at views 0).cleared ≡ false
      still_open n ne there here true is = absurd (⊎_elim
          (λ (past : length p.seats ≤ n). omega arith)
          (λ (left : (seat_at p n).left ≡ true). false≢true (sym here ∙ left))
          (law.alone is n ne))
      still_open n ne there here false is = is
