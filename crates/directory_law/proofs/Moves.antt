-- What a step owes the law whatever it does, and what then stays: cells, chains, and what seats have learnt.
use Rattle.std.proofs.Common.{◌≡◌, ◌≢◌, ℕ, ◌+◌, ◌<◌, ◌≤◌, true, List, ◌∷◌, ◌++◌, refl, ap, sym, ◌∙◌, subst, arith}
use Rattle.std.specs.Prelude.{Option, Some, None}
use Rattle.plain_protocol.specs.plain_state.declared.slot.SlotId.{SlotId}
use Rattle.plain_protocol.specs.plain_state.declared.slot.Stage.TheVariants.{Live}
use Rattle.plain_protocol.specs.plain_state.State.{Plain, slot_at, stage_at}
use Rattle.plain_protocol.specs.plain_state.Lawful.{Lawful}
use Rattle.plain_protocol.specs.Calm.{IsMade}
use Rattle.directory_law.specs.Payloads.{Text, IsOwn}
use Rattle.directory_law.specs.Views.{Note, Rope, Seen, Ran, Led, View, fresh, keeps, KeptIn, Each}
use Rattle.directory_law.specs.Chains.{Along, Reads}
use Rattle.directory_law.specs.Cells.{Area, cell, on, SetBefore, SetCell}
use Rattle.directory_law.specs.Learnt.{Began, While, Built, Saw, Past, Running, Leads, Learnt}
use Rattle.directory_law.specs.Law.{DirectoryLaw}
use Rattle.directory_law.proofs.Kit.{none_some}
use Rattle.directory_law.proofs.Notes.{each_map}
use Rattle.directory_law.proofs.Kept.{kept_counts, same_text}
use Rattle.directory_law.proofs.Chains.{second_live, live_own, pointed_own, Links, along_on, begins_own}

-- a step from p to q, with the views before and after it. `changed` are the slots whose field 1 it may write
pub record Moves (z : Area) (p q : Plain) (views after : List View) (changed : SlotId → Type 0)
    : Type 0 where
  pub lives : (s : SlotId) → (slot_at p s).life ≤ (slot_at q s).life
  pub live : (s : SlotId) → (slot_at q s).life ≡ (slot_at p s).life → stage_at q s ≡ Live
      → stage_at p s ≡ Live
  pub payload : (s : SlotId) → stage_at p s ≡ Live
      → (slot_at q s).payload ≡ (slot_at p s).payload
  pub second : (s : SlotId) → stage_at p s ≡ Live → IsOwn (slot_at p s).payload
      → (changed s → ⊥) → (slot_at q s).second ≡ (slot_at p s).second
  pub mark : (s : SlotId) → (slot_at q s).life ≡ (slot_at p s).life → (slot_at p s).marked ≡ true
      → (slot_at q s).marked ≡ true
  -- a set cell stays, and what it holds stays an object
  pub cells : (d : ℕ) (s : SlotId) → d < z.cells → cell z p d ≡ Some s → cell z q d ≡ Some s
  pub held : (d : ℕ) (s : SlotId) → d < z.cells → cell z p d ≡ Some s
      → IsMade (stage_at q s) × ((slot_at q s).payload ≡ (slot_at p s).payload)
      × ((slot_at q s).life ≡ (slot_at p s).life)
  -- what it may write is noted
  pub still : (s : SlotId) → fresh views s (slot_at p s).life ≡ 0 → changed s → ⊥
  pub fewer : (s : SlotId) (l : ℕ) → Began p s l → fresh after s l ≤ fresh views s l
  pub kept : (s : SlotId) (l : ℕ) (t : Text) → KeptIn views s l t → KeptIn after s l t
  pub once : (s : SlotId) (l : ℕ) → fresh after s l + keeps after s l ≤ 1

pub on_inside : (z : Area) (text : Text) (j : ℕ) → 0 < z.cells → on z text j < z.cells
on_inside z text j some = omega arith

-- what stands in a cell is kept, and so noted by nobody
pub kept_beside : (z : Area) (p : Plain) (views : List View) (c : ℕ) (s : SlotId)
    → DirectoryLaw z p views → c < z.cells → cell z p c ≡ Some s
    → fresh views s (slot_at p s).life ≡ 0
kept_beside z p views c s law h is =
    let o = law.cells c s h is in
    let k = kept_counts views s (slot_at p s).life o.text o.kept in
    let a = law.once s (slot_at p s).life in omega arith

module _ (z : Area) (p q : Plain) (views after : List View) (changed : SlotId → Type 0)
    (moves : Moves z p q views after changed) (lawful : Lawful p) (law : DirectoryLaw z p views)
  where
    pub links : Links p q
    links = record {
      live = λ x pt. second_live p pt.0 x lawful pt.2;
      payload = λ x pt. moves.payload x (second_live p pt.0 x lawful pt.2);
      second = λ x pt. moves.second x (second_live p pt.0 x lawful pt.2)
          (pointed_own z p views x lawful law pt).own (moves.still x (law.loose pt.0 x pt.1 pt.2));
    }

    -- the chain behind a slot that isn't written
    pub along_slot : (s : SlotId) → stage_at p s ≡ Live → IsOwn (slot_at p s).payload
        → (changed s → ⊥) → (ts : Text) → Along p (slot_at p s).second ts
        → Along q (slot_at q s).second ts
    along_slot s live own unchanged ts h =
        subst (λ (w : Option SlotId). Along q w ts) (sym (moves.second s live own unchanged))
        (along_on p q links s (live_own p s live own) ts h)

    pub reads_slot : (s : SlotId) → stage_at p s ≡ Live → IsOwn (slot_at p s).payload
        → (changed s → ⊥) → (text : Text) → Reads p s text → Reads q s text
    reads_slot s live own unchanged text r = (
      r.0,
      r.1 ∙ ap (λ (u : List ℕ). u ∷ r.0) (sym (moves.payload s live)),
      along_slot s live own unchanged r.0 r.2,
    )

    began_moves : (s : SlotId) (l : ℕ) → Began p s l → Began q s l
    began_moves s l h = let a = moves.lives s in omega arith

    -- a life that had begun, and that a slot lives in after the step, is the one it lived in before
    while_moves : (s : SlotId) (l : ℕ) (A B : Type 0) → Began p s l
        → ((slot_at p s).life ≡ l → stage_at p s ≡ Live → IsOwn (slot_at p s).payload → A → B)
        → While p s l A → While q s l B
    while_moves s l A B began f h life live =
        let a = moves.lives s in
        let was : (slot_at p s).life ≡ l = omega arith in
        let lp = moves.live s (life ∙ sym was) live in
        let b = h was lp in
        (subst IsOwn (sym (moves.payload s lp)) b.0, f was lp b.0 b.1)

    pub built_moves : (e : Rope) → ((slot_at p e.slot).life ≡ e.life → changed e.slot → ⊥)
        → Built p e → Built q e
    built_moves e unchanged h = (
      began_moves e.slot e.life h.0,
      while_moves e.slot e.life (Reads p e.slot e.text) (Reads q e.slot e.text) h.0
          (λ was live own r. reads_slot e.slot live own (unchanged was) e.text r) h.1,
    )

    -- a life that nobody notes isn't written
    unwritten : (s : SlotId) (l : ℕ) → fresh views s l ≡ 0 → (slot_at p s).life ≡ l → changed s → ⊥
    unwritten s l none was = moves.still s (ap (λ (k : ℕ). fresh views s k) was ∙ none)

    none_after : (s : SlotId) (l : ℕ) → Began p s l → fresh views s l ≡ 0 → fresh after s l ≡ 0
    none_after s l began none = let a = moves.fewer s l began in omega arith

    saw_moves : (e : Seen) → Saw z p e → Saw z q e
    saw_moves e h =
        let k = moves.held e.cell e.slot h.0 h.1 in
        (h.0, moves.cells e.cell e.slot h.0 h.1, k.2 ∙ h.2, k.1 ∙ h.3)

    past_moves : (e : Note) → Past p e → Past q e
    past_moves e h = (
      began_moves e.slot e.life h.0,
      λ life.
          let a = moves.lives e.slot in let b : e.life ≤ (slot_at p e.slot).life = h.0 in
          let was : (slot_at p e.slot).life ≡ e.life = omega arith in
          moves.mark e.slot (life ∙ sym was) (h.1 was),
    )

    running_moves : (e : Ran) → Running p views e → Running q after e
    running_moves e h = (
      h.0,
      moves.kept e.slot e.life (e.before ++ h.0) h.1,
      began_moves e.now e.now_life h.2,
      none_after e.now e.now_life h.2 h.3,
      while_moves e.now e.now_life (Along p (slot_at p e.now).second h.0)
          (Along q (slot_at q e.now).second h.0) h.2
          (λ was live own a. along_slot e.now live own (unwritten e.now e.now_life h.3 was) h.0 a)
          h.4,
    )

    leads_moves : (e : Led) → Leads p views e → Leads q after e
    leads_moves e h = (
      began_moves e.slot e.life h.0,
      none_after e.slot e.life h.0 h.1,
      while_moves e.slot e.life ((slot_at p e.slot).second ≡ e.next)
          ((slot_at q e.slot).second ≡ e.next) h.0
          (λ was live own a. moves.second e.slot live own (unwritten e.slot e.life h.1 was) ∙ a)
          h.2,
    )

    -- what a view has learnt, with its notes apart
    pub learnt_moves : (v : View) → Learnt z p views v → (es : List Rope) → Each (Built q) es
        → Learnt z q after (record v { noted = es })
    learnt_moves v l es built = record {
      noted = built;
      seen = each_map (Saw z p) (Saw z q) saw_moves v.seen l.seen;
      ended = each_map (Past p) (Past q) past_moves v.ended l.ended;
      ran = each_map (Running p views) (Running q after) running_moves v.ran l.ran;
      led = each_map (Leads p views) (Leads q after) leads_moves v.led l.led;
    }

    -- a set cell stays well
    set_stays : (d : ℕ) → d < z.cells → cell z p d ≢ None → cell z q d ≢ None
    set_stays d h some = go (cell z p d) refl
      where
        go : (w : Option SlotId) → cell z p d ≡ w → cell z q d ≢ None
        go None e = absurd (some e)
        go (Some s) e = λ none. none_some s (sym none ∙ moves.cells d s h e)

    pub set_before : (text : Text) (k : ℕ) → 0 < z.cells → SetBefore z p text k
        → SetBefore z q text k
    set_before text k some h j lt = set_stays (on z text j) (on_inside z text j some) (h j lt)

    pub cell_moves : (c : ℕ) (s : SlotId) → c < z.cells → cell z p c ≡ Some s
        → SetCell z q after c s
    cell_moves c s h is =
        let o = law.cells c s h is in
        let k = moves.held c s h is in
        let unchanged = moves.still s (kept_beside z p views c s law h is) in
        record {
          made = k.0;
          text = o.text;
          kept = subst (λ (l : ℕ). KeptIn after s l o.text) (sym k.2)
              (moves.kept s (slot_at p s).life o.text o.kept);
          is = o.is;
          begins = (o.begins.0, o.begins.1 ∙ ap (λ (u : List ℕ). u ∷ o.begins.0) (sym k.1));
          reads = λ live.
              let lp = moves.live s k.2 live in
              reads_slot s lp (begins_own p s o.text o.is o.begins) unchanged o.text (o.reads lp);
          way = let w = o.way in (w.0, w.1, w.2, set_before o.text w.0 (omega arith) w.3);
        }

    -- a text that is kept afterwards for what a cell held was kept before
    pub kept_back : (c : ℕ) (s : SlotId) (text : Text) → c < z.cells → cell z p c ≡ Some s
        → KeptIn after s (slot_at q s).life text → KeptIn views s (slot_at p s).life text
    kept_back c s text h is kept =
        let o = law.cells c s h is in
        let k = moves.held c s h is in
        let now = subst (λ (l : ℕ). KeptIn after s l text) k.2 kept in
        let was = moves.kept s (slot_at p s).life o.text o.kept in
        let one = moves.once s (slot_at p s).life in
        let e : o.text ≡ text = same_text after s (slot_at p s).life o.text text (omega arith) was
        now in
        subst (KeptIn views s (slot_at p s).life) e o.kept

    -- of two cells that were set before
    pub last_moves : (k j : ℕ) (s r : SlotId) (text : Text) → k < j → j < z.cells
        → cell z p (on z text k) ≡ Some s → cell z p (on z text j) ≡ Some r
        → KeptIn after s (slot_at q s).life text → KeptIn after r (slot_at q r).life text
        → (slot_at q s).marked ≡ true
    last_moves k j s r text lt inside isk isj keptk keptj =
        let hk = on_inside z text k (omega arith) in
        let hj = on_inside z text j (omega arith) in
        moves.mark s (moves.held (on z text k) s hk isk).2
        (law.last k j s r text lt inside isk isj
        (kept_back (on z text k) s text hk isk keptk) (kept_back (on z text j) r text hj isj keptj))

    pub stands_moves : (s : SlotId) (l : ℕ) → 0 < keeps views s l
        → (c : ℕ) × (c < z.cells) × (cell z q c ≡ Some s) × ((slot_at q s).life ≡ l)
    stands_moves s l h =
        let b = law.stands s l h in
        (b.0, b.1, moves.cells b.0 s b.1 b.2, (moves.held b.0 s b.1 b.2).2 ∙ b.3)
