-- The deeds of a make and a link keep the law.
use Rattle.std.proofs.Common.{◌≡◌, ◌≢◌, inl, inr, ⊎_elim, ℕ, ◌<◌, Bool, true, false, List, [], ◌∷◌, ◌++◌, length, set, refl, ap, sym, ◌∙◌, subst, arith}
use Rattle.std.specs.Prelude.{if◌then◌else◌, Option, Some, None}
use Rattle.std.proofs.lemmas.List.{get_or-set_same, get_or-set_other}
use Rattle.plain_protocol.specs.plain_state.declared.act.EventPlace.TheVariants.{Field}
use Rattle.plain_protocol.specs.plain_state.declared.act.PlainAct.{PlainAct}
use Rattle.plain_protocol.specs.plain_state.declared.act.PlainAct.TheVariants as act
use Rattle.plain_protocol.specs.plain_state.declared.slot.PlainSlot.{PlainSlot}
use Rattle.plain_protocol.specs.plain_state.declared.slot.SlotId.{SlotId}
use Rattle.plain_protocol.specs.plain_state.declared.slot.Stage.TheVariants.{Free, Blank, Live}
use Rattle.plain_protocol.specs.plain_state.State.{Plain, new_slot, seat_at, slot_at, stage_at}
use Rattle.plain_protocol.specs.plain_state.Steps.{Does}
use Rattle.plain_protocol.specs.Laws.{Keeps, Meets}
use Rattle.plain_protocol.specs.Owns.{own_part}
use Rattle.directory_law.specs.declared.view.Rope.{Rope}
use Rattle.directory_law.specs.declared.view.View.{View as DirectoryView}
use Rattle.directory_law.specs.Payloads.{Text}
use Rattle.directory_law.specs.Views.{In, rope, times_of, without}
use Rattle.directory_law.specs.Views as directory
use Rattle.directory_law.specs.Chains.{Along}
use Rattle.directory_law.specs.Cells.{Area}
use Rattle.directory_law.specs.Law.{DirectoryLaw}
use Rattle.directory_law.specs.Making.{alone, linked, first_noted}
use Rattle.directory_law.specs.Making as directory_making
use Rattle.directory_law.specs.Steps.{life_in, payload_in, slot_in}
use Rattle.directory_law.proofs.Kit.{cases_id, number_other}
use Rattle.directory_law.proofs.MakingDeeds.{make_keeps as directory_make, link_keeps as directory_link}
use Rattle.directory_law.proofs.Notes.{cons_of, one_is}
use Rattle.directory_law.proofs.Owns.{has_owned, life_at, inside_if, owned_live}
use Rattle.queue_law.proofs.Left.{does_left}
use Rattle.cell_law.specs.Views.{View, gone, view_at, bound_in, made, makers}
use Rattle.cell_law.specs.Cells.{cell, no_cells}
use Rattle.cell_law.specs.Law.{CellLaw}
use Rattle.cell_law.specs.Making.{MakeReady, MakeTells, make_next, LinkReady, LinkTells, Links, link_next}
use Rattle.cell_law.proofs.Kit.{maker_at, makers_set, makers_long, meets_records}
use Rattle.cell_law.proofs.Stands.{noted_built, noted_alone}
use Rattle.cell_law.proofs.Moves.{Fixed, learns_alike, learnt_on, step_set, law_set}

-- a seat's next view, where it lists, has seen and has found what it did, and the records' law holds with it
module _ (z : Area) (p q : Plain) (views : List View) (n : ℕ) (step : PlainAct) (found : ℕ)
    (es : List Rope) (meets : Meets (CellLaw z) p views) (here : n < length views)
    (does : Does p n step found q) (stay : (j : ℕ) → step ≢ act.Leave j)
    (cells : (c : ℕ) → c < z.cells → cell z q c ≡ cell z p c)
    (life : (s : SlotId) → stage_at p s ≡ Live → (slot_at q s).life ≡ (slot_at p s).life)
    (fields : (s : SlotId) → Fixed p views s → (slot_at q s).second ≡ (slot_at p s).second)
    (records : DirectoryLaw no_cells q
    (set (makers views) n (made (record (view_at views n) { noted = es })))) where
  law_renoted : CellLaw z q (set views n (record (view_at views n) { noted = es }))
  law_renoted =
      let w : View = record (view_at views n) { noted = es } in
      let v = view_at views n in
      let alike = learns_alike v es v.seen v.found in
      let step_is = step_set z p q views n w here meets.lawful meets.law cells life fields alike in
      let l = learnt_on z p q views (set views n w) meets.lawful meets.law step_is (view_at views n)
      (meets.law.learnt n) in
      law_set z p q views n w here meets.lawful meets.law cells life fields alike
      (does_left p q n step found stay does) does.0.0 does.0.1
      (subst (DirectoryLaw no_cells q) (sym (makers_set views n w)) records)
      (record { texts = l.texts; seen = l.seen; found = l.found; own = l.own })

-- MAKE
pub make_keeps : (z : Area) → Keeps (CellLaw z) gone MakeReady make_next (MakeTells z)
make_keeps z p q views n step found meets here ready does =
    let s : SlotId = ready.slot in
    let v : View = view_at views n in
    let d = subst (λ (a : PlainAct). Does p n a found q) ready.act_is does in
    let slots : (r : SlotId) → r ≢ s → slot_at q r ≡ slot_at p r =
    λ r ne. ap (λ (x : Plain). slot_at x r) d.1.3
    ∙ get_or-set_other p.slots s.0 r.0 _ new_slot (number_other r s ne) in
    let other : (r : SlotId) → stage_at p r ≡ Live → r ≢ s =
    λ r live e. (let f : Live ≡ Blank = sym live ∙ (ap (λ (x : SlotId). stage_at p x) e ∙ d.1.0) in
    cc) in
    let records = (directory_make no_cells p q (makers views) n step found
    (meets_records z p views meets) (subst (λ (k : ℕ). n < k) (sym (makers_long views)) here)
    (record { slot = s; act_is = ready.act_is; is_own = ready.is_own }) does).0 in
    let es : List Rope = alone (own_part q n) (slot_in step) ∷ v.noted in (
      law_renoted z p q views n step found es meets here does
          (λ j e. let f : act.Make s ≡ act.Leave j = sym ready.act_is ∙ e in cc)
          (λ c h. ap (λ (x : Plain). cell z x c) d.1.3)
          (λ r live. ap (λ (x : PlainSlot). x.life) (slots r (other r live)))
          (λ r fixed. ap (λ (x : PlainSlot). x.second) (slots r (other r fixed.live)))
          (subst (λ (x : DirectoryView). DirectoryLaw no_cells q (set (makers views) n
          (record x { noted = alone (own_part q n) (slot_in step) ∷ x.noted })))
          (maker_at views n) records),
      λ c r h is. ap (λ (x : Plain). cell z x c) d.1.3 ∙ is,
    )

-- LINK. What is left of two lists without the notes of a life
without_append : (s : SlotId) (l : ℕ) (es fs : List Rope)
    → without s l (es ++ fs) ≡ without s l es ++ without s l fs
without_append s l [] fs = refl
without_append s l (e ∷ es) fs = go (directory.is_of s l e) (without_append s l es fs)
  where
    go : (b : Bool) → without s l (es ++ fs) ≡ without s l es ++ without s l fs
        → (if b then without s l (es ++ fs) else e ∷ without s l (es ++ fs))
        ≡ (if b then without s l es else e ∷ without s l es) ++ without s l fs
    go true h = h
    go false h = ap (λ (x : List Rope). e ∷ x) h

without_absent : (s : SlotId) (l : ℕ) (es : List Rope) → times_of s l es ≡ 0
    → without s l es ≡ es
without_absent s l [] none = refl
without_absent s l (e ∷ es) none =
    go (directory.is_of s l e) refl
    (without_absent s l es (let a = cons_of s l e es in omega arith))
  where
    go : (b : Bool) → directory.is_of s l e ≡ b → without s l es ≡ es
        → (if b then without s l es else e ∷ without s l es) ≡ e ∷ es
    go true is rest = absurd (let a = cons_of s l e es in let o = one_is s l e is in omega arith)
    go false is rest = ap (λ (x : List Rope). e ∷ x) rest

linked_append : (e f : Rope) (es bs : List Rope) → times_of f.slot f.life bs ≡ 0
    → linked ((e ∷ f ∷ es) ++ bs) ≡ linked (e ∷ f ∷ es) ++ bs
linked_append e f es bs none =
    ap (λ (x : List Rope). rope e.slot e.life (e.text ++ f.text) ∷ x)
    (without_append f.slot f.life (f ∷ es) bs
    ∙ ap (λ (x : List Rope). without f.slot f.life (f ∷ es) ++ x)
    (without_absent f.slot f.life bs none))

-- a text of one payload leads no further
ends : (p : Plain) (place : Option SlotId) (t u : List ℕ) (tail : Text) → t ∷ [] ≡ u ∷ tail
    → Along p place tail → place ≡ None
ends p place t u [] e h = h
ends p place t u (x ∷ tail) e h = absurd (let a = ap length e in omega arith)

-- the step is a store
stored : (p q : Plain) (n found : ℕ) (s r : SlotId) (step : PlainAct)
    → (slot_at p s).second ≡ None → Links s r step → Does p n step found q
    → Does p n (act.Replace (Field s 1) (Some r)) found q
stored p q n found s r step null links does =
    ⊎_elim
    (λ is. subst (λ (a : PlainAct). Does p n a found q) is does)
    (λ is.
    let d = subst (λ (a : PlainAct). Does p n a found q) is does in
    ⊎_elim (λ yes. (d.0, (d.1.0, d.1.1, yes.1))) (λ not. absurd (not.0 null)) d.1.2)
    links

no_leave : (s r : SlotId) (step : PlainAct) → Links s r step → (j : ℕ) → step ≢ act.Leave j
no_leave s r step links j e =
    ⊎_elim
    (λ is. let f : act.Replace (Field s 1) (Some r) ≡ act.Leave j = sym is ∙ e in cc)
    (λ is. let f : act.TryReplace (Field s 1) None (Some r) ≡ act.Leave j = sym is ∙ e in cc)
    links

pub link_keeps : (z : Area) → Keeps (CellLaw z) gone LinkReady link_next (LinkTells z)
link_keeps z p q views n step found meets here ready does =
    let s : SlotId = ready.slot in
    let r : SlotId = ready.part in
    let v : View = view_at views n in
    let own = own_part p n in
    let first : Rope = alone own s in
    let second : Rope = rope r (life_in own r) ready.text in
    let noted : v.noted ≡ first ∷ second ∷ ready.others = ready.noted in
    let in_first : In first v.noted = subst (In first) (sym noted) (inl refl) in
    let in_second : In second v.noted = subst (In second) (sym noted) (inr (inl refl)) in
    let life_s = life_at p n s (has_owned (seat_at p n) s ready.owned) in
    let live_s = (owned_live p n s meets.lawful does.0.0 ready.owned).0 in
    let reads = ((noted_built z p views meets.law n first in_first).1 (sym life_s) live_s).1 in
    let null = ends p (slot_at p s).second (payload_in own s) (slot_at p s).payload reads.0 reads.1
    reads.2 in
    let d = stored p q n found s r step null ready.links does in
    let inside = inside_if p s (λ free. let e : Live ≡ Free = sym live_s ∙ free in cc) in
    let at_s : slot_at q s ≡ record (slot_at p s) { second = Some r } =
    ap (λ (x : Plain). slot_at x s) d.1.2.2
    ∙ get_or-set_same p.slots s.0 (record (slot_at p s) { second = Some r }) new_slot inside in
    let slots : (x : SlotId) → x ≢ s → slot_at q x ≡ slot_at p x =
    λ x ne. ap (λ (y : Plain). slot_at y x) d.1.2.2
    ∙ get_or-set_other p.slots s.0 x.0 (record (slot_at p s) { second = Some r }) new_slot
    (number_other x s ne) in
    let life : (x : SlotId) → stage_at p x ≡ Live → (slot_at q x).life ≡ (slot_at p x).life =
    λ x live. ⊎_elim
    (λ (e : x ≡ s). ap (λ (k : SlotId). (slot_at q k).life) e
    ∙ (ap (λ (y : PlainSlot). y.life) at_s ∙ ap (λ (k : SlotId). (slot_at p k).life) (sym e)))
    (λ (ne : x ≢ s). ap (λ (y : PlainSlot). y.life) (slots x ne))
    (cases_id x s) in
    let fields : (x : SlotId) → Fixed p views x → (slot_at q x).second ≡ (slot_at p x).second =
    λ x fixed. ap (λ (y : PlainSlot). y.second) (slots x (λ e. fixed.unnoted n
    (payload_in own s ∷ [])
    (subst (λ (k : SlotId). In (rope k (slot_at p k).life (payload_in own s ∷ [])) v.noted)
    (sym e) (subst (λ (l : ℕ). In (rope s l (payload_in own s ∷ [])) v.noted) life_s in_first)))) in
    let ready_at : directory_making.LinkReady own (directory.view_at (makers views) n)
    (act.Replace (Field s 1) (Some r)) = record {
      slot = s;
      part = r;
      act_is = refl;
      owned = ready.owned;
      part_owned = ready.part_owned;
      is_part = ready.is_part;
      text = ready.text;
      others = ready.others ++ bound_in v;
      noted = ap (λ (x : DirectoryView). x.noted) (maker_at views n)
          ∙ ap (λ (es : List Rope). es ++ bound_in v) noted;
    } in
    let records = (directory_link no_cells p q (makers views) n
    (act.Replace (Field s 1) (Some r)) found (meets_records z p views meets)
    (subst (λ (k : ℕ). n < k) (sym (makers_long views)) here) ready_at d).0 in
    let absent = noted_alone z p views meets.law n r (life_in own r) ready.text in_second in
    let same : linked (v.noted ++ bound_in v) ≡ linked v.noted ++ bound_in v =
    ap (λ (es : List Rope). linked (es ++ bound_in v)) noted
    ∙ (linked_append first second ready.others (bound_in v) absent
    ∙ ap (λ (es : List Rope). linked es ++ bound_in v) (sym noted)) in (
      law_renoted z p q views n step found (linked v.noted) meets here does
          (no_leave s r step ready.links)
          (λ c h. ap (λ (x : Plain). cell z x c) d.1.2.2) life fields
          (subst (λ (es : List Rope). DirectoryLaw no_cells q (set (makers views) n
          (record directory.gone { noted = es }))) same
          (subst (λ (x : DirectoryView). DirectoryLaw no_cells q (set (makers views) n
          (record x { noted = linked x.noted }))) (maker_at views n) records)),
      (
        λ c x h is. ap (λ (y : Plain). cell z y c) d.1.2.2 ∙ is,
        λ x ne. slots x (λ e. ne (e ∙ sym (ap (λ (es : List Rope). (first_noted es).slot) noted))),
      ),
    )
