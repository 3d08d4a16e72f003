-- The exchange of a null cell for a head that stands nowhere.
use Rattle.std.proofs.Common.{◌≡◌, ◌≢◌, ◌⊎◌, inl, inr, ⊎_elim, ℕ, ◌+◌, ◌-◌, ◌<◌, ◌≤◌, true, List, [], ◌∷◌, refl, ap, sym, ◌∙◌, subst, arith}
use Rattle.std.specs.Prelude.{◌%◌, Option, Some, None}
use Rattle.std.proofs.lemmas.Bool.{cases_eq, cases_lt}
use Rattle.std.proofs.Math.Nat.{add-mod_right}
use Rattle.plain_protocol.specs.plain_state.declared.slot.SlotId.{SlotId}
use Rattle.plain_protocol.specs.plain_state.declared.slot.Stage.TheVariants.{Live}
use Rattle.plain_protocol.specs.plain_state.State.{Plain, PlainSeat, slot_at, stage_at}
use Rattle.plain_protocol.specs.plain_state.Lawful.{Lawful}
use Rattle.directory_law.specs.Payloads.{Text, IsOwn, IsText}
use Rattle.directory_law.specs.Places.{text_hash}
use Rattle.directory_law.specs.Views.{Rope, View, view_at, total, fresh, keeps, KeptIn, Each}
use Rattle.directory_law.specs.Chains.{Along, Reads, OwnSlot}
use Rattle.directory_law.specs.Cells.{Area, cell, on, IsOnWay, SetCell, LiveRecord, Stands}
use Rattle.directory_law.specs.Learnt.{Built, Learnt}
use Rattle.directory_law.specs.Law.{LastOnWalk, DirectoryLaw}
use Rattle.directory_law.proofs.Kit.{cases_id, some_same, none_some, cases_pair}
use Rattle.directory_law.proofs.Notes.{each_map}
use Rattle.directory_law.proofs.Kept.{same_text}
use Rattle.directory_law.proofs.CellCounts.{set_more}
use Rattle.directory_law.proofs.Chains.{live_own}
use Rattle.directory_law.proofs.Moves.{Moves, on_inside, built_moves, learnt_moves, cell_moves, last_moves, stands_moves}
use Rattle.directory_law.proofs.Walks.{on_way, Passed}

-- the state with other seats and weak cells
abbrev pub moved : Plain → List PlainSeat → List (Option SlotId) → Plain
moved p ss cs = record p { seats = ss; weak_cells = cs }

-- cell c holds s now, and every other cell is as it was
pub record Puts (z : Area) (p q : Plain) (c : ℕ) (s : SlotId) : Type 0 where
  pub here : cell z q c ≡ Some s
  pub there : (d : ℕ) → d ≢ c → cell z q d ≡ cell z p d

along_moved : (p : Plain) (ss : List PlainSeat) (cs : List (Option SlotId)) (w : Option SlotId)
    (ts : Text)
    → Along p w ts → Along (moved p ss cs) w ts
along_moved p ss cs w [] h = h
along_moved p ss cs w (t ∷ ts) h =
    (h.0, h.1, h.2, h.3, along_moved p ss cs (slot_at p h.0).second ts h.4)

pub reads_moved : (p : Plain) (ss : List PlainSeat) (cs : List (Option SlotId)) (s : SlotId)
    (t : Text)
    → Reads p s t → Reads (moved p ss cs) s t
reads_moved p ss cs s t r = (r.0, r.1, along_moved p ss cs (slot_at p s).second r.0 r.2)

own_moved : (p : Plain) (ss : List PlainSeat) (cs : List (Option SlotId)) (s : SlotId)
    → OwnSlot (moved p ss cs) s → OwnSlot p s
own_moved p ss cs s o = record { made = o.made; own = o.own }

-- the views after a bind of s: its life is noted no more, and kept with its text; all else is as it was
pub record Rebound (p : Plain) (s : SlotId) (text : Text) (views after : List View) : Type 0 where
  pub fewer : (x : SlotId) (l : ℕ) → fresh after x l ≤ fresh views x l
  pub fresh_other : (x : SlotId) (l : ℕ) → ((x ≡ s) × (l ≡ (slot_at p s).life) → ⊥)
      → fresh after x l ≡ fresh views x l
  pub keeps_other : (x : SlotId) (l : ℕ) → ((x ≡ s) × (l ≡ (slot_at p s).life) → ⊥)
      → keeps after x l ≡ keeps views x l
  pub sums : (x : SlotId) (l : ℕ)
      → fresh after x l + keeps after x l ≤ fresh views x l + keeps views x l
  pub kept : (x : SlotId) (l : ℕ) (t : Text) → KeptIn views x l t → KeptIn after x l t
  pub new : KeptIn after s (slot_at p s).life text
  pub used : total (λ v. v.used) after ≡ total (λ v. v.used) views + 1
  pub quotas : total (λ v. v.quota) after ≡ total (λ v. v.quota) views
  pub quota : (n : ℕ) → (view_at after n).used ≤ (view_at after n).quota

-- s reads its text and stands nowhere, and cell m of the walk is the first null one
module _ (z : Area) (p : Plain) (ss : List PlainSeat) (cs : List (Option SlotId)) (s : SlotId)
    (m : ℕ) (text : Text) (views after : List View) (rebound : Rebound p s text views after)
    (lawful : Lawful p) (law : DirectoryLaw z p views) (some_cells : 0 < z.cells)
    (puts : Puts z p (moved p ss cs) (on z text m) s) (null : cell z p (on z text m) ≡ None)
    (passed : Passed z p views text m) (is_text : IsText text) (live : stage_at p s ≡ Live)
    (built : IsOwn (slot_at p s).payload × Reads p s text) where
  -- a set cell is another one
  stays : (d : ℕ) (r : SlotId) → cell z p d ≡ Some r → cell z (moved p ss cs) d ≡ Some r
  stays d r is = puts.there d (λ e. none_some r
      (sym null ∙ (ap (λ (x : ℕ). cell z p x) (sym e) ∙ is))) ∙ is

  held_after : (d : ℕ) (r : SlotId) → cell z (moved p ss cs) d ≡ Some r
      → ((d ≡ on z text m) × (r ≡ s)) ⊎ (cell z p d ≡ Some r)
  held_after d r is =
      ⊎_elim
      (λ (e : d ≡ on z text m). inl (
        e,
        some_same r s
            (sym is ∙ (ap (λ (x : ℕ). cell z (moved p ss cs) x) e ∙ puts.here)),
      ))
      (λ (ne : d ≢ on z text m). inr (sym (puts.there d ne) ∙ is))
      (cases_eq d (on z text m))

  moves : Moves z p (moved p ss cs) views after (λ x. ⊥)
  moves = record {
    lives = λ x. omega arith;
    live = λ x life now. now;
    payload = λ x now. refl;
    second = λ x now own unchanged. refl;
    mark = λ x life mark. mark;
    cells = λ d x h is. stays d x is;
    held = λ d x h is. ((law.cells d x h is).made, refl, refl);
    still = λ x none changed. changed;
    fewer = λ x l began. rebound.fewer x l;
    kept = rebound.kept;
    once = λ x l. let a = rebound.sums x l in let b = law.once x l in omega arith;
  }

  -- the walk is less than one time round
  short : m < z.cells
  short =
      ⊎_elim
      (λ (h : m < z.cells). h)
      (λ (h : z.cells ≤ m).
      let o = passed (m - z.cells) (omega arith) in
      let a : text_hash text + (m - z.cells) + z.cells ≡ text_hash text + m = omega arith in
      let e : on z text m ≡ on z text (m - z.cells) = ap (λ (x : ℕ). x % z.cells) (sym a)
      ∙ add-mod_right (text_hash text + (m - z.cells)) z.cells in
      absurd (none_some o.slot (sym null ∙ (ap (λ (x : ℕ). cell z p x) e ∙ o.is))))
      (cases_lt m z.cells)

  cell_new : SetCell z (moved p ss cs) after (on z text m) s
  cell_new =
      let b = built in
      record {
        made = (live_own p s live b.0).made;
        text = text;
        kept = rebound.new;
        is = is_text;
        begins = (b.1.0, b.1.1);
        reads = λ l. reads_moved p ss cs s text b.1;
        way = (
          m,
          short,
          refl,
          λ j h e. let o = passed j h in
              none_some o.slot (sym e ∙ stays (on z text j) o.slot o.is),
        );
      }

  cell_bind : (c : ℕ) (x : SlotId) → c < z.cells → cell z (moved p ss cs) c ≡ Some x
      → SetCell z (moved p ss cs) after c x
  cell_bind c x h is =
      ⊎_elim
      (λ a. subst (λ (d : ℕ). SetCell z (moved p ss cs) after d x) (sym a.0)
      (subst (λ (y : SlotId). SetCell z (moved p ss cs) after (on z text m) y) (sym a.1)
      cell_new))
      (λ a. cell_moves z p (moved p ss cs) views after (λ x. ⊥) moves lawful law c x h a)
      (held_after c x is)

  -- which text the new cell has
  one_kept : (x : SlotId) → keeps after x (slot_at p x).life ≤ 1
  one_kept x =
      let a = rebound.sums x (slot_at p x).life in
      let b = law.once x (slot_at p x).life in
      omega arith

  new_text : (x : SlotId) (t : Text) → x ≡ s → KeptIn after x (slot_at p x).life t → t ≡ text
  new_text x t e k =
      same_text after s (slot_at p s).life t text (one_kept s)
      (subst (λ (y : SlotId). KeptIn after y (slot_at p y).life t) e k) rebound.new

  -- a cell of the text on the walk that was set is passed
  old_before : (k : ℕ) (a : SlotId) → k < m → cell z p (on z text k) ≡ Some a
      → KeptIn after a (slot_at p a).life text
      → (slot_at p a).marked ≡ true
  old_before k a h is kept =
      let o = passed k h in
      let g : a ≡ o.slot = some_same a o.slot (sym is ∙ o.is) in
      ⊎_elim
      (λ (dead : (slot_at p o.slot).marked ≡ true).
      ap (λ (x : SlotId). (slot_at p x).marked) g ∙ dead)
      (λ other.
      let of_a = subst (λ (x : SlotId). KeptIn views x (slot_at p x).life other.0) (sym g)
      other.1 in
      absurd (other.2 (same_text after a (slot_at p a).life other.0 text (one_kept a)
      (rebound.kept a (slot_at p a).life other.0 of_a) kept)))
      o.why

  -- and none stands beyond the null cell
  none_beyond : (j : ℕ) (b : SlotId) → m < j → j < z.cells → cell z p (on z text j) ≡ Some b
      → KeptIn after b (slot_at p b).life text → ⊥
  none_beyond j b lt h is kept =
      let o = law.cells (on z text j) b (on_inside z text j some_cells) is in
      let same : o.text ≡ text = same_text after b (slot_at p b).life o.text text (one_kept b)
      (rebound.kept b (slot_at p b).life o.text o.kept) kept in
      let v = subst (λ (t : Text). IsOnWay z p t (on z text j)) same o.way in
      let e : j ≡ v.0 = on_way z text j v.0 h v.1 v.2 in
      v.3 m (omega arith) null

  -- of two cells of one text, the first was set; the second may be the new one
  last_new : (k j : ℕ) (a : SlotId) (t : Text) → k < j → j < z.cells → t ≡ text
      → on z t j ≡ on z text m
      → cell z (moved p ss cs) (on z t k) ≡ Some a → KeptIn after a (slot_at p a).life t
      → (slot_at p a).marked ≡ true
  last_new k j a t lt h same at isk keptk =
      let at_j : on z text j ≡ on z text m = ap (λ (u : Text). on z u j) (sym same) ∙ at in
      let e : j ≡ m = on_way z text j m h short at_j in
      ⊎_elim
      (λ x.
      let at_k : on z text k ≡ on z text m = ap (λ (u : Text). on z u k) (sym same) ∙ x.0 in
      let f : k ≡ m = on_way z text k m (omega arith) short at_k in absurd (omega arith))
      (λ x. old_before k a (omega arith) (ap (λ (u : Text). cell z p (on z u k)) (sym same) ∙ x)
      (subst (KeptIn after a (slot_at p a).life) same keptk))
      (held_after (on z t k) a isk)

  last_bind : LastOnWalk z (moved p ss cs) after
  last_bind k j a b t lt h isk isj keptk keptj =
      ⊎_elim
      (λ y. last_new k j a t lt h (new_text b t y.1 keptj) y.0 isk keptk)
      (λ y.
      ⊎_elim
      (λ x.
      let same : t ≡ text = new_text a t x.1 keptk in
      let at : on z text k ≡ on z text m = ap (λ (u : Text). on z u k) (sym same) ∙ x.0 in
      let e : k ≡ m = on_way z text k m (omega arith) short at in
      absurd (none_beyond j b (omega arith) h
      (ap (λ (u : Text). cell z p (on z u j)) (sym same) ∙ y)
      (subst (KeptIn after b (slot_at p b).life) same keptj)))
      (λ x. last_moves z p (moved p ss cs) views after (λ x. ⊥) moves lawful law k j a b t lt h x y
      keptk keptj)
      (held_after (on z t k) a isk))
      (held_after (on z t j) b isj)

  built_bind : (e : Rope) → Built p e → Built (moved p ss cs) e
  built_bind e h = built_moves z p (moved p ss cs) views after (λ x. ⊥) moves lawful law e
      (λ life changed. changed) h

  pub learnt_bind : (v : View) → Learnt z p views v → (es : List Rope) → Each (Built p) es
      → Learnt z (moved p ss cs) after (record v { noted = es })
  learnt_bind v l es built =
      learnt_moves z p (moved p ss cs) views after (λ x. ⊥) moves lawful law v l es
      (each_map (Built p) (Built (moved p ss cs)) built_bind es built)

  bound_bind : (x : SlotId) → LiveRecord (moved p ss cs) after x → Stands z (moved p ss cs) x
  bound_bind x l =
      ⊎_elim
      (λ (e : x ≡ s). (on z text m, on_inside z text m some_cells, puts.here ∙ ap Some (sym e)))
      (λ (ne : x ≢ s).
      let b = law.bound x (record {
        stage = l.stage;
        mark = l.mark;
        head = l.head;
        bound =
            sym (rebound.fresh_other x (slot_at p x).life (λ b. ne b.0)) ∙ l.bound;
      }) in
      (b.0, b.1, stays b.0 x b.2))
      (cases_id x s)

  stands_bind : (x : SlotId) (l : ℕ) → 0 < keeps after x l
      → (c : ℕ) × (c < z.cells) × (cell z (moved p ss cs) c ≡ Some x) × ((slot_at p x).life ≡ l)
  stands_bind x l h =
      ⊎_elim
      (λ (b : (x ≡ s) × (l ≡ (slot_at p s).life)). (
        on z text m,
        on_inside z text m some_cells,
        puts.here ∙ ap Some (sym b.0),
        ap (λ (y : SlotId). (slot_at p y).life) b.0 ∙ sym b.1,
      ))
      (λ (differs : (x ≡ s) × (l ≡ (slot_at p s).life) → ⊥).
      stands_moves z p (moved p ss cs) views after (λ x. ⊥) moves lawful law x l (let a =
      rebound.keeps_other x l differs in omega arith))
      (cases_pair x s l (slot_at p s).life)

  pub law_bound : ((n : ℕ) → Learnt z (moved p ss cs) after (view_at after n))
      → DirectoryLaw z (moved p ss cs) after
  law_bound learnt = record {
    cells = cell_bind;
    last = last_bind;
    bound = bound_bind;
    few =
        let e = rebound.used in
        let k = set_more z p (moved p ss cs) (on z text m) z.cells puts.there in
        let f = law.few in omega arith;
    quotas = let e = rebound.quotas in let f = law.quotas in omega arith;
    quota = rebound.quota;
    shape = λ x o.
        let b = own_moved p ss cs x o in
        let h = law.shape x b in
        (h.0, (h.1.0, along_moved p ss cs (slot_at p x).second h.1.0 h.1.1));
    single = λ a b x oa ob ata atb.
        law.single a b x (own_moved p ss cs a oa) (own_moved p ss cs b ob) ata atb;
    loose = λ t x o at.
        let a = law.loose t x (own_moved p ss cs t o) at in
        let b = rebound.fewer x (slot_at p x).life in omega arith;
    lives = λ x l h. law.lives x l (let a = rebound.sums x l in omega arith);
    once = moves.once;
    stands = stands_bind;
    learnt = learnt;
  }
