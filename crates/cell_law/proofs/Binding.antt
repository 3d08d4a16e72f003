-- The exchange of a null cell for a head that stands nowhere.
use Rattle.std.proofs.Common.{◌≡◌, ◌≢◌, ◌⊎◌, inl, inr, ⊎_elim, ℕ, ◌+◌, ◌-◌, ◌<◌, ◌≤◌, false, List, [], ◌∷◌, ◌++◌, length, set, refl, ap, sym, ◌∙◌, subst, arith}
use Rattle.std.specs.Prelude.{◌%◌, Option, Some, None}
use Rattle.std.proofs.lemmas.Bool.{cases_eq, cases_lt, false≢true}
use Rattle.std.proofs.Math.Nat.{add-mod_right}
use Rattle.plain_protocol.specs.plain_state.declared.slot.SlotId.{SlotId}
use Rattle.plain_protocol.specs.plain_state.declared.slot.Stage.TheVariants.{Live}
use Rattle.plain_protocol.specs.plain_state.Lists.{cell_times}
use Rattle.plain_protocol.specs.plain_state.State.{Plain, PlainSeat, seat_at, slot_at, stage_at}
use Rattle.plain_protocol.specs.plain_state.Lawful.{Lawful}
use Rattle.directory_law.specs.declared.view.Rope.{Rope}
use Rattle.directory_law.specs.declared.view.View.{View as DirectoryView}
use Rattle.directory_law.specs.Payloads.{Text}
use Rattle.directory_law.specs.Places.{text_hash}
use Rattle.directory_law.specs.Views.{In, Each, rope, times_of}
use Rattle.directory_law.specs.Views as directory
use Rattle.directory_law.specs.Cells.{Area, on}
use Rattle.directory_law.specs.Learnt.{Built}
use Rattle.directory_law.specs.Law.{DirectoryLaw}
use Rattle.directory_law.proofs.Bytes.{text_is}
use Rattle.directory_law.proofs.Kit.{none_some, some_same}
use Rattle.directory_law.proofs.Notes.{append_of, cons_of, each_append}
use Rattle.directory_law.proofs.Moves.{on_inside}
use Rattle.directory_law.proofs.Quiet.{Quiet, same_quiet, law_quiet}
use Rattle.queue_law.proofs.Left.{LeftSame}
use Rattle.cell_law.specs.Views.{View, view_at, bound_in, BoundIn, IsOpen, makers, IsWord, MayBind, sight}
use Rattle.cell_law.specs.Cells.{cell, no_cells, IsRecord, NoRecord, SetCell}
use Rattle.cell_law.specs.Law.{Learnt, CellLaw}
use Rattle.cell_law.specs.Making.{Stays}
use Rattle.cell_law.proofs.Gone.{gone_set}
use Rattle.cell_law.proofs.Kit.{at_view, view_here, maker_at, makers_set, makers_long, bound_more, bound_back, cleared_set, each_left, each_right}
use Rattle.cell_law.proofs.Moves.{Step, learnt_on, own_on, cell_on, stands_on}
use Rattle.cell_law.proofs.Records.{law_reordered}
use Rattle.cell_law.proofs.Shares.{shares_set}
use Rattle.cell_law.proofs.Stands.{noted_unbound}
use Rattle.cell_law.proofs.Walks.{Passed, null_tells, listed_record}

-- the state with other seats and cells
abbrev pub moved : Plain → List PlainSeat → List (Option SlotId) → Plain
moved p ss cs = record p { seats = ss; cells = cs }

pub moved_quiet : (p : Plain) (ss : List PlainSeat) (cs : List (Option SlotId))
    → Quiet no_cells p (moved p ss cs)
moved_quiet p ss cs = record {
  cells = λ d h. refl;
  granted = omega arith;
  slots = λ s. same_quiet (cell_times s p.weak_cells) (slot_at p s);
}

-- Seat n noted the head s last, in its life and with its text. Cell m of its text's walk is null, and all before it are
-- passed. Then the head stands there, and the view lists it.
module _ (z : Area) (p : Plain) (ss : List PlainSeat) (cs : List (Option SlotId)) (s : SlotId)
    (m : ℕ) (text : Text) (views : List View) (n : ℕ) (here : n < length views)
    (others : List Rope)
    (noted : (view_at views n).noted ≡ rope s (slot_at p s).life text ∷ others)
    (lawful : Lawful p) (law : CellLaw z p views) (opened : IsOpen views) (some_cells : 0 < z.cells)
    (at : cell z (moved p ss cs) (on z text m) ≡ Some s)
    (elsewhere : (d : ℕ) → d ≢ on z text m → cell z (moved p ss cs) d ≡ cell z p d)
    (null : cell z p (on z text m) ≡ None) (passed : Passed z p text m) (is_word : IsWord text)
    (live : stage_at p s ≡ Live) (may : MayBind (view_at views n)) where
  abbrev v : View
  v = view_at views n

  abbrev e : Rope
  e = rope s (slot_at p s).life text

  abbrev w : View
  w = record (view_at views n) {
    noted = others;
    bound = rope s (slot_at p s).life text ∷ (view_at views n).bound;
    seen = sight (on z text m) s ∷ (view_at views n).seen;
  }

  abbrev q : Plain
  q = moved p ss cs

  abbrev after : List View
  after = set views n w

  in_noted : In e v.noted
  in_noted = subst (In e) (sym noted) (inl refl)

  inside : on z text m < z.cells
  inside = on_inside z text m some_cells

  -- the records, with the head listed in place of noted
  records_before : DirectoryLaw no_cells q (makers views)
  records_before = law_quiet no_cells p q (moved_quiet p ss cs) lawful (makers views) law.records

  built_before : Each (Built q) ((e ∷ others) ++ bound_in v)
  built_before =
      subst (λ (xs : List Rope). Each (Built q) (xs ++ bound_in v)) noted
      (subst (λ (x : DirectoryView). Each (Built q) x.noted) (maker_at views n)
      (records_before.learnt n).noted)

  pub built_new : Built q e
  built_new = built_before.0

  times_kept : (r : SlotId) (l : ℕ) → times_of r l (others ++ (e ∷ bound_in v))
      ≡ times_of r l (directory.view_at (makers views) n).noted
  times_kept r l =
      let a = append_of r l others (e ∷ bound_in v) in
      let b = cons_of r l e (bound_in v) in
      let c = cons_of r l e (others ++ bound_in v) in
      let d = append_of r l others (bound_in v) in
      let f : times_of r l (directory.view_at (makers views) n).noted
      ≡ times_of r l (e ∷ (others ++ bound_in v)) =
      ap (λ (x : DirectoryView). times_of r l x.noted) (maker_at views n)
      ∙ ap (λ (xs : List Rope). times_of r l (xs ++ bound_in v)) noted in omega arith

  records : DirectoryLaw no_cells q (makers after)
  records =
      let es : List Rope = others ++ (e ∷ bound_in v) in
      let long = makers_long views in
      let rest = each_right (Built q) (e ∷ []) (others ++ bound_in v) built_before in
      let built = each_append (Built q) others (e ∷ bound_in v)
      (each_left (Built q) others (bound_in v) rest)
      (built_new, each_right (Built q) others (bound_in v) rest) in
      let law_es = law_reordered no_cells q (makers views) n es (omega arith) records_before
      times_kept built in
      let same : set (makers views) n (record (directory.view_at (makers views) n) { noted = es })
      ≡ makers after =
      ap (λ (x : DirectoryView). set (makers views) n (record x { noted = es })) (maker_at views n)
      ∙ sym (makers_set views n w) in
      subst (DirectoryLaw no_cells q) same law_es

  -- what stands where
  pub stays : Stays z p q
  stays d r h is = elsewhere d (λ f. none_some r
      (sym null ∙ (ap (λ (x : ℕ). cell z p x) (sym f) ∙ is))) ∙ is

  held_after : (d : ℕ) (r : SlotId) → cell z q d ≡ Some r
      → ((d ≡ on z text m) × (r ≡ s)) ⊎ (cell z p d ≡ Some r)
  held_after d r is =
      ⊎_elim
      (λ (f : d ≡ on z text m). inl (
        f,
        some_same r s (sym is ∙ (ap (λ (x : ℕ). cell z (moved p ss cs) x) f ∙ at)),
      ))
      (λ (ne : d ≢ on z text m). inr (sym (elsewhere d ne) ∙ is))
      (cases_eq d (on z text m))

  step : Step z p q views after
  step = record {
    stays = stays;
    life = λ r l. refl;
    fields = λ r fixed. refl;
    more = bound_more views n w here (λ x i. inr i);
    opened = λ o. opened;
  }

  -- the walk is less than one time round
  short : m < z.cells
  short =
      ⊎_elim
      (λ (h : m < z.cells). h)
      (λ (h : z.cells ≤ m).
      let o = passed (m - z.cells) (omega arith) in
      let a : text_hash text + (m - z.cells) + z.cells ≡ text_hash text + m = omega arith in
      let f : on z text m ≡ on z text (m - z.cells) = ap (λ (x : ℕ). x % z.cells) (sym a)
      ∙ add-mod_right (text_hash text + (m - z.cells)) z.cells in
      absurd (none_some o.slot (sym null ∙ (ap (λ (x : ℕ). cell z p x) f ∙ o.is))))
      (cases_lt m z.cells)

  listed : BoundIn after s (slot_at p s).life text
  listed = (n, subst (λ (x : View). In e (bound_in x)) (sym (view_here views n w here)) (inl refl))

  cell_new : SetCell z q after (on z text m) s
  cell_new = record {
    text = text;
    bound = listed;
    way = λ o. (
      m,
      short,
      refl,
      λ j h f.
          let x = passed j h in
          none_some x.slot (sym f ∙ stays (on z text j) x.slot x.inside x.is),
    );
  }

  cell_bind : (c : ℕ) (x : SlotId) → c < z.cells → cell z q c ≡ Some x → SetCell z q after c x
  cell_bind c x h is =
      ⊎_elim
      (λ a. subst (λ (d : ℕ). SetCell z q after d x) (sym a.0)
      (subst (λ (y : SlotId). SetCell z q after (on z text m) y) (sym a.1) cell_new))
      (λ a. cell_on z p q views after lawful law step c x h a)
      (held_after c x is)

  -- the head stood in no cell before
  stood_not : (d : ℕ) → d < z.cells → cell z p d ≡ Some s → ⊥
  stood_not d h is =
      let o = law.cells d s h is in
      noted_unbound z p views law n s (slot_at p s).life text o.text in_noted o.bound

  single_bind : (c d : ℕ) (x : SlotId) → c < z.cells → d < z.cells → cell z q c ≡ Some x
      → cell z q d ≡ Some x → c ≡ d
  single_bind c d x hc hd isc isd =
      ⊎_elim
      (λ a. ⊎_elim (λ b. a.0 ∙ sym b.0)
      (λ b. absurd (stood_not d hd (b ∙ ap Some a.1))) (held_after d x isd))
      (λ a. ⊎_elim (λ b. absurd (stood_not c hc (a ∙ ap Some b.1)))
      (λ b. law.single c d x hc hd a b) (held_after d x isd))
      (held_after c x isc)

  -- what is listed then: the head, or what was listed
  listed_after : (x : SlotId) (l : ℕ) (t : Text) → BoundIn after x l t
      → (rope x l t ≡ e) ⊎ BoundIn views x l t
  listed_after x l t k =
      ⊎_elim
      (λ (i : In (rope x l t) (bound_in w)).
      ⊎_elim (λ (f : rope x l t ≡ e). inl f) (λ (j : In (rope x l t) (bound_in v)). inr (n, j)) i)
      (λ (was : BoundIn views x l t). inr was)
      (bound_back views n w here x l t k)

  stands_bind : (x : SlotId) (l : ℕ) (t : Text) → BoundIn after x l t
      → (c : ℕ) × (c < z.cells) × (cell z q c ≡ Some x) × ((slot_at q x).life ≡ l)
  stands_bind x l t k =
      ⊎_elim
      (λ (f : rope x l t ≡ e).
      let same : x ≡ s = ap (λ (r : Rope). r.slot) f in
      let of_life : l ≡ (slot_at p s).life = ap (λ (r : Rope). r.life) f in (
        on z text m,
        inside,
        at ∙ ap Some (sym same),
        ap (λ (y : SlotId). (slot_at p y).life) same ∙ sym of_life,
      ))
      (λ (was : BoundIn views x l t). stands_on z p q views after lawful law step opened_after x l t was)
      (listed_after x l t k)
    where
      opened_after : IsOpen after
      opened_after = cleared_set views n w here refl ∙ opened

  pub new_text : NoRecord z p text
  new_text = null_tells z p views lawful law opened text m passed (inl null)

  -- the text was listed nowhere
  new_apart : (x : SlotId) (l : ℕ) (t : Text) → t ≡ text → BoundIn views x l t → ⊥
  new_apart x l t same k =
      new_text x (subst (λ (u : Text). IsRecord z p u x) same
      (listed_record z p views lawful law opened x l t k))

  apart_bind : (x y : SlotId) (l k : ℕ) (t : Text) → BoundIn after x l t → BoundIn after y k t
      → (x ≡ y) × (l ≡ k)
  apart_bind x y l k t a b =
      ⊎_elim
      (λ (f : rope x l t ≡ e).
      ⊎_elim
      (λ (g : rope y k t ≡ e). (
        ap (λ (r : Rope). r.slot) f ∙ sym (ap (λ (r : Rope). r.slot) g),
        ap (λ (r : Rope). r.life) f ∙ sym (ap (λ (r : Rope). r.life) g),
      ))
      (λ (was : BoundIn views y k t). absurd (new_apart y k t (ap (λ (r : Rope). r.text) f) was))
      (listed_after y k t b))
      (λ (was : BoundIn views x l t).
      ⊎_elim
      (λ (g : rope y k t ≡ e). absurd (new_apart x l t (ap (λ (r : Rope). r.text) g) was))
      (λ (too : BoundIn views y k t). law.apart x y l k t was too)
      (listed_after y k t b))
      (listed_after x l t a)

  pub law_bound : LeftSame p q → n < length p.seats → (seat_at p n).left ≡ false → CellLaw z q after
  law_bound same there is_here =
      let goes_on = learnt_on z p q views after lawful law step in
      let l = goes_on v (law.learnt n) in
      record {
        records = records;
        cells = cell_bind;
        single = single_bind;
        stands = λ o x l t k. stands_bind x l t k;
        apart = apart_bind;
        learnt = at_view views n w (Learnt z q after) here
            (record {
              texts = (is_word, l.texts);
              seen = ((inside, λ o. (at, tt)), l.seen);
              found = l.found;
              own = ((on z text m, inl refl), own_on v w v.bound (λ x i. inr i) l.own);
            })
            (λ m ne. goes_on (view_at views m) (law.learnt m));
        granted = at_view views n w (λ (x : View). length x.bound ≤ x.grant) here
            (let a : length v.bound < v.grant = may in omega arith)
            (λ m ne. law.granted m);
        room = let a = shares_set views n w here refl in let b = law.room in omega arith;
        left = gone_set p q n views w same there is_here law.left;
        alone = λ is m ne. absurd (false≢true
            (sym opened ∙ (sym (cleared_set views n w here refl) ∙ is)));
      }

  pub record_new : IsRecord z q text s
  record_new = record {
    stands = (on z text m, inside, at);
    stage = live;
    is = text_is is_word.0 text is_word.2;
    reads = (built_new.1 refl live).1;
  }
