-- What a step owes the law whatever it does, and what then stays.
use Rattle.std.proofs.Common.{◌≡◌, ◌≢◌, ⊎_elim, ℕ, ◌<◌, ◌≤◌, false, List, [], ◌∷◌, ◌++◌, length, set, refl, ap, sym, ◌∙◌, subst, arith}
use Rattle.std.specs.Prelude.{Option, Some, None}
use Rattle.plain_protocol.specs.plain_state.declared.slot.SlotId.{SlotId}
use Rattle.plain_protocol.specs.plain_state.declared.slot.Stage.TheVariants.{Live}
use Rattle.plain_protocol.specs.plain_state.State.{Plain, seat_at, slot_at, stage_at}
use Rattle.plain_protocol.specs.plain_state.Lawful.{Lawful}
use Rattle.directory_law.specs.declared.view.Rope.{Rope}
use Rattle.directory_law.specs.Payloads.{Text, IsPart, IsOwn}
use Rattle.directory_law.specs.Views.{In, Each, rope}
use Rattle.directory_law.specs.Cells.{Area, on}
use Rattle.directory_law.specs.Law.{DirectoryLaw}
use Rattle.directory_law.proofs.Kit.{none_some}
use Rattle.directory_law.proofs.Notes.{each_map}
use Rattle.directory_law.proofs.Chains.{Pointed, live_own, pointed_part, part_own, second_live, begins_head}
use Rattle.directory_law.proofs.Moves.{on_inside}
use Rattle.queue_law.proofs.Left.{LeftSame}
use Rattle.cell_law.specs.Views.{Sight, View, view_at, bound_in, BoundIn, IsOpen, makers, sight}
use Rattle.cell_law.specs.Cells.{cell, no_cells, SetBefore, SetCell}
use Rattle.cell_law.specs.Law.{Follows, Saw, SawBound, Learnt, CellLaw}
use Rattle.cell_law.specs.Making.{Stays}
use Rattle.cell_law.specs.Lessons.{SightHolds}
use Rattle.cell_law.proofs.Kit.{at_view, bound_more, bound_back, cleared_set}
use Rattle.cell_law.proofs.Shares.{shares_set}
use Rattle.cell_law.proofs.Stands.{standing_live, noted_unbound, noted_unled, bound_reads, set_record}
use Rattle.cell_law.proofs.Gone.{left_on, gone_set}

-- a slot whose field 1 no step writes: it lives, it is a head or a part, and no view notes it
pub record Fixed (p : Plain) (views : List View) (s : SlotId) : Type 0 where
  pub live : stage_at p s ≡ Live
  pub own : IsOwn (slot_at p s).payload
  pub unnoted : (n : ℕ) (t : Text) → In (rope s (slot_at p s).life t) (view_at views n).noted → ⊥

module _ (z : Area) (p : Plain) (views : List View) (lawful : Lawful p) (law : CellLaw z p views)
  where
    -- so is what a cell holds, and what such a slot leads to
    pub fixed_head : (c : ℕ) (s : SlotId) → c < z.cells → cell z p c ≡ Some s → Fixed p views s
    fixed_head c s inside is =
        let o = law.cells c s inside is in
        let live = (standing_live z p c s lawful is).0 in
        record {
          live = live;
          own = (bound_reads z p views law s o.text live o.bound).0;
          unnoted = λ n t i. noted_unbound z p views law n s (slot_at p s).life t o.text i o.bound;
        }

    leads : (t s : SlotId) → Fixed p views t → (slot_at p t).second ≡ Some s → Pointed p s
    leads t s fixed at = (t, live_own p t fixed.live fixed.own, at)

    part_after : (t s : SlotId) → Fixed p views t → (slot_at p t).second ≡ Some s
        → (stage_at p s ≡ Live) × IsPart (slot_at p s).payload
    part_after t s fixed at = (
      second_live p t s lawful at,
      pointed_part no_cells p (makers views) s law.records (leads t s fixed at),
    )

    pub fixed_next : (t s : SlotId) → Fixed p views t → (slot_at p t).second ≡ Some s
        → Fixed p views s
    fixed_next t s fixed at =
        let b = part_after t s fixed at in
        record {
          live = b.0;
          own = part_own (slot_at p s).payload b.1;
          unnoted = λ n a i. noted_unled z p views law n s a i (leads t s fixed at);
        }

    parts_follow : (t : SlotId) (ss : List SlotId) → Fixed p views t
        → Follows p (slot_at p t).second ss
        → (r : SlotId) → In r ss → (stage_at p r ≡ Live) × IsPart (slot_at p r).payload
    parts_follow t [] fixed h r i = absurd i
    parts_follow t (s ∷ ss) fixed h r i =
        ⊎_elim
        (λ (e : r ≡ s). subst (λ (x : SlotId). (stage_at p x ≡ Live) × IsPart (slot_at p x).payload)
        (sym e) (part_after t s fixed h.0))
        (λ (j : In r ss). parts_follow s ss (fixed_next t s fixed h.0) h.1 r j)
        i

    -- what was seen in a cell is a head and parts
    pub sight_holds : IsOpen views → (e : Sight) → Saw z p views e → SightHolds p e.slots
    sight_holds opened e saw = go e.slots (saw.1 opened)
      where
        go : (ss : List SlotId) → Follows p (cell z p e.cell) ss → SightHolds p ss
        go [] h = tt
        go (s ∷ ss) h =
            let o = set_record z p views law lawful e.cell s saw.0 h.0 in (
              o.2.stage,
              begins_head p s o.0 o.2.is (o.2.reads.0, o.2.reads.1),
              parts_follow s ss (fixed_head e.cell s saw.0 h.0) h.1,
            )

-- a step from p to q, with the views before and after it
pub record Step (z : Area) (p q : Plain) (views after : List View) : Type 0 where
  pub stays : Stays z p q
  pub life : (s : SlotId) → stage_at p s ≡ Live → (slot_at q s).life ≡ (slot_at p s).life
  pub fields : (s : SlotId) → Fixed p views s → (slot_at q s).second ≡ (slot_at p s).second
  pub more : (s : SlotId) (l : ℕ) (t : Text) → BoundIn views s l t → BoundIn after s l t
  pub opened : IsOpen after → IsOpen views

module _ (z : Area) (p q : Plain) (views after : List View) (lawful : Lawful p)
    (law : CellLaw z p views) (step : Step z p q views after) where
  follows_on : (t : SlotId) (ss : List SlotId) → Fixed p views t
      → Follows p (slot_at p t).second ss → Follows q (slot_at q t).second ss
  follows_on t [] fixed h = tt
  follows_on t (s ∷ ss) fixed h = (
    step.fields t fixed ∙ h.0,
    follows_on s ss (fixed_next z p views lawful law t s fixed h.0) h.1,
  )

  pub saw_on : (e : Sight) → Saw z p views e → Saw z q after e
  saw_on e saw = (saw.0, λ opened. go e.slots (saw.1 (step.opened opened)))
    where
      go : (ss : List SlotId) → Follows p (cell z p e.cell) ss → Follows q (cell z q e.cell) ss
      go [] h = tt
      go (s ∷ ss) h = (
        step.stays e.cell s saw.0 h.0,
        follows_on s ss (fixed_head z p views lawful law e.cell s saw.0 h.0) h.1,
      )

  -- what a view has learnt goes on to hold
  pub learnt_on : (v : View) → Learnt z p views v → Learnt z q after v
  learnt_on v l = record {
    texts = l.texts;
    seen = each_map (Saw z p views) (Saw z q after) saw_on v.seen l.seen;
    found = each_map (λ (e : Rope). BoundIn views e.slot e.life e.text)
        (λ (e : Rope). BoundIn after e.slot e.life e.text)
        (λ e h. step.more e.slot e.life e.text h) v.found l.found;
    own = l.own;
  }

  set_stays : (d : ℕ) → d < z.cells → cell z p d ≢ None → cell z q d ≢ None
  set_stays d h some = go (cell z p d) refl
    where
      go : (w : Option SlotId) → cell z p d ≡ w → cell z q d ≢ None
      go None e = absurd (some e)
      go (Some s) e = λ none. none_some s (sym none ∙ step.stays d s h e)

  pub way_on : (text : Text) (k : ℕ) → 0 < z.cells → SetBefore z p text k → SetBefore z q text k
  way_on text k some h j lt = set_stays (on z text j) (on_inside z text j some) (h j lt)

  -- a cell that was set is well
  pub cell_on : (c : ℕ) (s : SlotId) → c < z.cells → cell z p c ≡ Some s → SetCell z q after c s
  cell_on c s inside is =
      let o = law.cells c s inside is in
      let live = (standing_live z p c s lawful is).0 in
      record {
        text = o.text;
        bound = subst (λ (l : ℕ). BoundIn after s l o.text) (sym (step.life s live))
            (step.more s (slot_at p s).life o.text o.bound);
        way = λ opened.
            let w = o.way (step.opened opened) in (w.0, w.1, w.2, way_on o.text w.0 (omega arith) w.3);
      }

  pub stands_on : IsOpen after → (s : SlotId) (l : ℕ) (text : Text) → BoundIn views s l text
      → (c : ℕ) × (c < z.cells) × (cell z q c ≡ Some s) × ((slot_at q s).life ≡ l)
  stands_on opened s l text k =
      let o = law.stands (step.opened opened) s l text k in
      let live = (standing_live z p o.0 s lawful o.2).0 in
      (o.0, o.1, step.stays o.0 s o.1 o.2, step.life s live ∙ o.3)

-- a view lists what another does, and its seat may bind as many heads
pub record Alike (w v : View) : Type 0 where
  pub bound : w.bound ≡ v.bound
  pub joined : w.joined ≡ v.joined
  pub grant : w.grant ≡ v.grant
  pub cleared : w.cleared ≡ v.cleared

pub learns_alike : (v : View) (es : List Rope) (xs : List Sight) (fs : List Rope)
    → Alike (record v { noted = es; seen = xs; found = fs }) v
learns_alike v es xs fs = record { bound = refl; joined = refl; grant = refl; cleared = refl }

-- what a seat bound it has seen, also where it has seen more
pub own_on : (v w : View) (es : List Rope) → ((e : Sight) → In e v.seen → In e w.seen)
    → Each (SawBound v) es → Each (SawBound w) es
own_on v w es more own =
    each_map (SawBound v) (SawBound w) (λ e h. (h.0, more (sight h.0 e.slot) h.1)) es own

-- where no cell changes, one view does, and this lists what it listed
module _ (z : Area) (p q : Plain) (views : List View) (n : ℕ) (w : View) (here : n < length views)
    (lawful : Lawful p) (law : CellLaw z p views)
    (cells : (c : ℕ) → c < z.cells → cell z q c ≡ cell z p c)
    (life : (s : SlotId) → stage_at p s ≡ Live → (slot_at q s).life ≡ (slot_at p s).life)
    (fields : (s : SlotId) → Fixed p views s → (slot_at q s).second ≡ (slot_at p s).second)
    (alike : Alike w (view_at views n)) where
  listed : bound_in w ≡ bound_in (view_at views n)
  listed = ap (λ (es : List Rope). es ++ w.joined) alike.bound
      ∙ ap (λ (es : List Rope). (view_at views n).bound ++ es) alike.joined

  pub step_set : Step z p q views (set views n w)
  step_set = record {
    stays = λ c s h is. cells c h ∙ is;
    life = life;
    fields = fields;
    more = bound_more views n w here (λ e i. subst (In e) (sym listed) i);
    opened = λ opened. sym (cleared_set views n w here alike.cleared) ∙ opened;
  }

  fewer : (s : SlotId) (l : ℕ) (t : Text) → BoundIn (set views n w) s l t → BoundIn views s l t
  fewer s l t k =
      ⊎_elim
      (λ (i : In (rope s l t) (bound_in w)). (n, subst (In (rope s l t)) listed i))
      (λ (was : BoundIn views s l t). was)
      (bound_back views n w here s l t k)

  pub law_set : LeftSame p q → n < length p.seats → (seat_at p n).left ≡ false
      → DirectoryLaw no_cells q (makers (set views n w)) → Learnt z q (set views n w) w
      → CellLaw z q (set views n w)
  law_set same there is_here records learnt =
      let step = step_set in
      record {
        records = records;
        cells = λ c s h is. cell_on z p q views (set views n w) lawful law step c s h
            (sym (cells c h) ∙ is);
        single = λ c d s hc hd isc isd.
            law.single c d s hc hd (sym (cells c hc) ∙ isc) (sym (cells d hd) ∙ isd);
        stands = λ opened s l t k.
            stands_on z p q views (set views n w) lawful law step opened s l t (fewer s l t k);
        apart = λ s r l k t a b. law.apart s r l k t (fewer s l t a) (fewer r k t b);
        learnt = at_view views n w (Learnt z q (set views n w)) here learnt
            (λ m ne. learnt_on z p q views (set views n w) lawful law step (view_at views m)
            (law.learnt m));
        granted = at_view views n w (λ (v : View). length v.bound ≤ v.grant) here
            (let a = law.granted n in
            let b = ap (λ (es : List Rope). length es) alike.bound in
            let c = alike.grant in omega arith)
            (λ m ne. law.granted m);
        room =
            let a = shares_set views n w here
            (let b = ap (λ (es : List Rope). length es) alike.joined in
            let c = alike.grant in omega arith) in
            let b = law.room in omega arith;
        left = gone_set p q n views w same there is_here law.left;
        alone = λ is m ne. left_on p q m same
            (law.alone (sym (cleared_set views n w here alike.cleared) ∙ is) m ne);
      }
