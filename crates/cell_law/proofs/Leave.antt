-- A seat that leaves: its view joins that of seat 0.
use Rattle.std.specs.Prelude.{sum}
use Rattle.std.proofs.Common.{◌≡◌, ◌≢◌, ⊎_elim, ℕ, ◌<◌, ◌≤◌, List, [], ◌++◌, length, set, ap, sym, ◌∙◌, subst, arith, length-append}
use Rattle.std.proofs.lemmas.List.{length-set, get_or-set_same, get_or-set_other, set-set, set_comm}
use Rattle.std.proofs.lemmas.Bool.{cases_eq}
use Rattle.plain_protocol.specs.plain_state.declared.act.PlainAct.TheVariants as act
use Rattle.plain_protocol.specs.plain_state.declared.slot.SlotId.{SlotId}
use Rattle.plain_protocol.specs.plain_state.State.{Plain, slot_at}
use Rattle.plain_protocol.specs.plain_state.Steps.{Does}
use Rattle.plain_protocol.specs.Laws.{KeptByLeave, Meets}
use Rattle.directory_law.specs.declared.view.Rope.{Rope}
use Rattle.directory_law.specs.declared.view.View.{View as DirectoryView}
use Rattle.directory_law.specs.Payloads.{Text}
use Rattle.directory_law.specs.Views.{In, Each, rope, times_of}
use Rattle.directory_law.specs.Views as directory
use Rattle.directory_law.specs.Cells.{Area}
use Rattle.directory_law.specs.Learnt.{Built}
use Rattle.directory_law.specs.Law.{DirectoryLaw}
use Rattle.directory_law.proofs.Leave.{leave_keeps as directory_leave}
use Rattle.directory_law.proofs.Notes.{append_of, each_append, in_left, in_right}
use Rattle.cell_law.specs.Views.{View, gone, joined, view_at, bound_in, BoundIn, made, makers, IsWord, shares}
use Rattle.cell_law.specs.Cells.{cell, no_cells}
use Rattle.cell_law.specs.Law.{Learnt, CellLaw}
use Rattle.cell_law.proofs.Kit.{view_here, view_else, maker_at, makers_set, makers_long, meets_records, in_either, bound_back, each_left, each_right}
use Rattle.cell_law.proofs.Records.{law_reordered}
use Rattle.cell_law.proofs.Moves.{Step, learnt_on, cell_on, stands_on}
use Rattle.cell_law.proofs.Gone.{left_after, gone_leave}
use Rattle.cell_law.proofs.Shares.{shares_join}

-- what holds of each note and each head of two views holds of those of the joined one
each_joined : (P : Rope → Type 0) (v w : View) → Each P (v.noted ++ bound_in v)
    → Each P (w.noted ++ bound_in w)
    → Each P ((v.noted ++ w.noted) ++ (v.bound ++ (v.joined ++ bound_in w)))
each_joined P v w h k =
    let bound = each_right P v.noted (bound_in v) h in
    let more = each_right P w.noted (bound_in w) k in
    each_append P (v.noted ++ w.noted) (v.bound ++ (v.joined ++ bound_in w))
    (each_append P v.noted w.noted (each_left P v.noted (bound_in v) h)
    (each_left P w.noted (bound_in w) k))
    (each_append P v.bound (v.joined ++ bound_in w) (each_left P v.bound v.joined bound)
    (each_append P v.joined (bound_in w) (each_right P v.bound v.joined bound) more))

times_joined : (v w : View) (s : SlotId) (l : ℕ)
    → times_of s l ((v.noted ++ w.noted) ++ (v.bound ++ (v.joined ++ bound_in w)))
    ≡ times_of s l ((v.noted ++ bound_in v) ++ (w.noted ++ bound_in w))
times_joined v w s l =
    let a = append_of s l (v.noted ++ w.noted) (v.bound ++ (v.joined ++ bound_in w)) in
    let b = append_of s l v.noted w.noted in
    let c = append_of s l v.bound (v.joined ++ bound_in w) in
    let d = append_of s l v.joined (bound_in w) in
    let e = append_of s l (v.noted ++ bound_in v) (w.noted ++ bound_in w) in
    let f = append_of s l v.noted (bound_in v) in
    let g = append_of s l v.bound v.joined in
    let h = append_of s l w.noted (bound_in w) in omega arith

module _ (z : Area) (p q : Plain) (j found : ℕ) (views : List View)
    (meets : Meets (CellLaw z) p views) (does : Does p 0 (act.Leave j) found q) where
  abbrev root : View
  root = joined (view_at views 0) (view_at views j)

  abbrev after : List View
  after = set (set views 0 root) j gone

  abbrev other : j ≢ 0
  other = does.1.1

  inside : j < length views
  inside = let c = meets.count in let t = does.1.2 in omega arith

  some_views : 0 < length views
  some_views = let i = inside in omega arith

  at_root : view_at after 0 ≡ root
  at_root = view_else (set views 0 root) j 0 gone (λ e. other (sym e))
      ∙ view_here views 0 root some_views

  at_left : view_at after j ≡ gone
  at_left = let l = length-set views 0 root in let i = inside in
      view_here (set views 0 root) j gone (omega arith)

  at_other : (m : ℕ) → m ≢ j → m ≢ 0 → view_at after m ≡ view_at views m
  at_other m not_j not_0 = view_else (set views 0 root) j m gone not_j
      ∙ view_else views 0 m root not_0

  -- the records, with the notes of the two in the order of the directory, and then in that of the views
  records_joined : DirectoryLaw no_cells q
      (set (set (makers views) 0
      (directory.joined (made (view_at views 0)) (made (view_at views j)))) j directory.gone)
  records_joined =
      subst (λ (v : DirectoryView). DirectoryLaw no_cells q
      (set (set (makers views) 0 (directory.joined (made (view_at views 0)) v)) j directory.gone))
      (maker_at views j)
      (subst (λ (v : DirectoryView). DirectoryLaw no_cells q
      (set (set (makers views) 0
      (directory.joined v (directory.view_at (makers views) j))) j directory.gone))
      (maker_at views 0)
      (directory_leave no_cells p q j found (makers views) (meets_records z p views meets) does))

  records : DirectoryLaw no_cells q (makers after)
  records =
      let x = directory.joined (made (view_at views 0)) (made (view_at views j)) in
      let vs = set (set (makers views) 0 x) j directory.gone in
      let long = makers_long views in
      let l = length-set (makers views) 0 x in
      let l2 = length-set (set (makers views) 0 x) j directory.gone in
      let i = some_views in
      let at : directory.view_at vs 0 ≡ x =
      get_or-set_other (set (makers views) 0 x) j 0 directory.gone directory.gone
      (λ e. other (sym e)) ∙ get_or-set_same (makers views) 0 x directory.gone (omega arith) in
      let es = (made root).noted in
      let built = subst (λ (v : DirectoryView). Each (Built q) v.noted) at
      (records_joined.learnt 0).noted in
      let v = (made (view_at views 0)).noted in
      let w = (made (view_at views j)).noted in
      let law = law_reordered no_cells q vs 0 es (omega arith) records_joined
      (λ s k. times_joined (view_at views 0) (view_at views j) s k
      ∙ sym (ap (λ (v : DirectoryView). times_of s k v.noted) at))
      (each_joined (Built q) (view_at views 0) (view_at views j)
      (each_left (Built q) v w built) (each_right (Built q) v w built)) in
      let same : set vs 0 (record (directory.view_at vs 0) { noted = es }) ≡ makers after =
      ap (λ (v : DirectoryView). set vs 0 (record v { noted = es })) at
      ∙ (sym (set_comm (set (makers views) 0 x) 0 j (made root) directory.gone
      (λ e. other (sym e)))
      ∙ (ap (λ (l : List DirectoryView). set l j directory.gone)
      (set-set (makers views) 0 x (made root) ∙ sym (makers_set views 0 root))
      ∙ sym (makers_set (set views 0 root) j gone))) in
      subst (DirectoryLaw no_cells q) same law

  -- what was listed is listed
  more : (s : SlotId) (l : ℕ) (t : Text) → BoundIn views s l t → BoundIn after s l t
  more s l t k =
      let v = view_at views 0 in
      let w = view_at views j in
      let e : Rope = rope s l t in
      ⊎_elim
      (λ (is : k.0 ≡ j). (
        0,
        subst (λ (x : View). In e (bound_in x)) (sym at_root)
            (in_right e v.bound (v.joined ++ bound_in w) (in_right e v.joined (bound_in w)
            (subst (λ (m : ℕ). In e (bound_in (view_at views m))) is k.1))),
      ))
      (λ (not_j : k.0 ≢ j).
      ⊎_elim
      (λ (is : k.0 ≡ 0). (
        0,
        subst (λ (x : View). In e (bound_in x)) (sym at_root)
            (⊎_elim
            (λ (i : In e v.bound). in_left e v.bound (v.joined ++ bound_in w) i)
            (λ (i : In e v.joined). in_right e v.bound (v.joined ++ bound_in w)
            (in_left e v.joined (bound_in w) i))
            (in_either e v.bound v.joined
            (subst (λ (m : ℕ). In e (bound_in (view_at views m))) is k.1))),
      ))
      (λ (not_0 : k.0 ≢ 0). (
        k.0,
        subst (λ (x : View). In e (bound_in x)) (sym (at_other k.0 not_j not_0)) k.1,
      ))
      (cases_eq k.0 0))
      (cases_eq k.0 j)

  -- and nothing else is
  fewer : (s : SlotId) (l : ℕ) (t : Text) → BoundIn after s l t → BoundIn views s l t
  fewer s l t k =
      let v = view_at views 0 in
      let w = view_at views j in
      let e : Rope = rope s l t in
      let long = length-set views 0 root in
      let i = inside in
      ⊎_elim
      (λ (none : In e (bound_in gone)). absurd none)
      (λ (was : BoundIn (set views 0 root) s l t).
      ⊎_elim
      (λ (i : In e (bound_in root)).
      ⊎_elim
      (λ (a : In e v.bound). (0, in_left e v.bound v.joined a))
      (λ (a : In e (v.joined ++ bound_in w)).
      ⊎_elim
      (λ (b : In e v.joined). (0, in_right e v.bound v.joined b))
      (λ (b : In e (bound_in w)). (j, b))
      (in_either e v.joined (bound_in w) a))
      (in_either e v.bound (v.joined ++ bound_in w) i))
      (λ (b : BoundIn views s l t). b)
      (bound_back views 0 root some_views s l t was))
      (bound_back (set views 0 root) j gone (omega arith) s l t k)

  step : Step z p q views after
  step = record {
    stays = λ c s h is. ap (λ (r : Plain). cell z r c) does.1.8 ∙ is;
    life = λ s live. ap (λ (r : Plain). (slot_at r s).life) does.1.8;
    fields = λ s fixed. ap (λ (r : Plain). (slot_at r s).second) does.1.8;
    more = more;
    opened = λ is. sym (ap (λ (v : View). v.cleared) at_root) ∙ is;
  }

  learnt_root : Learnt z q after root
  learnt_root =
      let l = learnt_on z p q views after meets.lawful meets.law step (view_at views 0)
      (meets.law.learnt 0) in
      let k = learnt_on z p q views after meets.lawful meets.law step (view_at views j)
      (meets.law.learnt j) in
      let v = view_at views 0 in
      let w = view_at views j in
      let P = (λ (e : Rope). IsWord e.text) in
      record {
        texts = each_joined P (record v { noted = [] }) (record w { noted = [] }) l.texts k.texts;
        seen = l.seen;
        found = each_append (λ (e : Rope). BoundIn after e.slot e.life e.text) v.found w.found
            l.found k.found;
        own = l.own;
      }

  learnt_at : (m : ℕ) → Learnt z q after (view_at after m)
  learnt_at m =
      ⊎_elim
      (λ (e : m ≡ j). subst (Learnt z q after)
      (sym (ap (λ (k : ℕ). view_at after k) e ∙ at_left))
      (record { texts = tt; seen = tt; found = tt; own = tt }))
      (λ (not_j : m ≢ j).
      ⊎_elim
      (λ (e : m ≡ 0). subst (Learnt z q after)
      (sym (ap (λ (k : ℕ). view_at after k) e ∙ at_root)) learnt_root)
      (λ (not_0 : m ≢ 0). subst (Learnt z q after) (sym (at_other m not_j not_0))
      (learnt_on z p q views after meets.lawful meets.law step (view_at views m)
      (meets.law.learnt m)))
      (cases_eq m 0))
      (cases_eq m j)

  granted_at : (m : ℕ) → length (view_at after m).bound ≤ (view_at after m).grant
  granted_at m =
      let P = (λ (v : View). length v.bound ≤ v.grant) in
      ⊎_elim
      (λ (e : m ≡ j). subst P (sym (ap (λ (k : ℕ). view_at after k) e ∙ at_left)) (omega arith))
      (λ (not_j : m ≢ j).
      ⊎_elim
      (λ (e : m ≡ 0). subst P (sym (ap (λ (k : ℕ). view_at after k) e ∙ at_root))
      (meets.law.granted 0))
      (λ (not_0 : m ≢ 0). subst P (sym (at_other m not_j not_0)) (meets.law.granted m))
      (cases_eq m 0))
      (cases_eq m j)

  room_left : shares after ≤ sum z.interns
  room_left =
      let v = view_at views 0 in
      let w = view_at views j in
      let a = length-append v.joined (bound_in w) in
      let b = length-append w.bound w.joined in
      let c = meets.law.granted j in
      let d = shares_join views j root some_views inside other (omega arith) in
      let e = meets.law.room in omega arith

  pub law_left : CellLaw z q (set (set views 0 (joined (view_at views 0) (view_at views j))) j gone)
  law_left =
      let law = meets.law in
      let was : (c : ℕ) → cell z p c ≡ cell z q c =
      λ c. sym (ap (λ (r : Plain). cell z r c) does.1.8) in
      record {
        records = records;
        cells = λ c s h is. cell_on z p q views after meets.lawful law step c s h (was c ∙ is);
        single = λ c d s hc hd isc isd. law.single c d s hc hd (was c ∙ isc) (was d ∙ isd);
        stands = λ is s l t k. stands_on z p q views after meets.lawful law step is s l t
            (fewer s l t k);
        apart = λ s r l k t a b. law.apart s r l k t (fewer s l t a) (fewer r k t b);
        learnt = learnt_at;
        granted = granted_at;
        room = room_left;
        left = gone_leave p q j found does views meets.count law.left;
        alone = λ is m ne. left_after p q j found does m
            (law.alone (sym (ap (λ (v : View). v.cleared) at_root) ∙ is) m ne);
      }

pub leave_keeps : (z : Area) → KeptByLeave (CellLaw z) joined gone
leave_keeps z p q j found views meets does = law_left z p q j found views meets does
