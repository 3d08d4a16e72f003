-- The deed of a bind keeps the law.
use Rattle.std.proofs.Common.{◌≡◌, ◌≢◌, inl, inr, ⊎_elim, ℕ, zero, suc, ◌+◌, ◌-◌, ◌<◌, Bool, true, false, List, ◌∷◌, length, set, refl, ap, sym, ◌∙◌, subst, arith}
use Rattle.std.specs.Prelude.{if◌then◌else◌, ◌==◌, Option, Some, None, sum}
use Rattle.std.proofs.lemmas.Bool.{cases_eq}
use Rattle.std.proofs.lemmas.Bool.Decides.{nat_tests}
use Rattle.std.proofs.lemmas.List.{get_or-set_same, get_or-set_other}
use Rattle.plain_protocol.specs.plain_state.declared.act.EventPlace.TheVariants.{Cell}
use Rattle.plain_protocol.specs.plain_state.declared.act.PlainAct.{PlainAct}
use Rattle.plain_protocol.specs.plain_state.declared.act.PlainAct.TheVariants as act
use Rattle.plain_protocol.specs.plain_state.declared.slot.Kind.TheVariants.{Strong}
use Rattle.plain_protocol.specs.plain_state.declared.slot.SlotId.{SlotId}
use Rattle.plain_protocol.specs.plain_state.declared.slot.Stage.TheVariants.{Live}
use Rattle.plain_protocol.specs.plain_state.State.{Plain, PlainSeat, seat_at, slot_at, stage_at}
use Rattle.plain_protocol.specs.plain_state.Steps.{Does, word_of, joined as defers}
use Rattle.plain_protocol.specs.Laws.{Keeps, Meets}
use Rattle.directory_law.specs.declared.view.Rope.{Rope}
use Rattle.directory_law.specs.Payloads.{Text}
use Rattle.directory_law.specs.Views.{rope}
use Rattle.directory_law.specs.Cells.{Area, on}
use Rattle.directory_law.specs.Law.{DirectoryLaw}
use Rattle.directory_law.specs.Making.{first_noted}
use Rattle.directory_law.specs.Steps.{id, slot_of}
use Rattle.directory_law.proofs.Kit.{none_some}
use Rattle.directory_law.proofs.Looks.{word_slot}
use Rattle.directory_law.proofs.Moves.{on_inside}
use Rattle.directory_law.proofs.Notes.{each_in}
use Rattle.directory_law.proofs.Owns.{has_owned, life_at, owned_live}
use Rattle.queue_law.proofs.Left.{LeftSame, does_left}
use Rattle.cell_law.specs.Views.{Sight, View, gone, view_at, makers, IsOpen, IsWord, MayBind, Unseen, sight}
use Rattle.cell_law.specs.Cells.{cell, no_cells, IsRecord, NoRecord}
use Rattle.cell_law.specs.Law.{Saw, SawBound, CellLaw}
use Rattle.cell_law.specs.Making.{BindReady, BindTells, bind_next, binds, cell_of, other_notes, sees}
use Rattle.cell_law.proofs.Binding.{moved, law_bound, new_text, record_new, stays}
use Rattle.cell_law.proofs.Kit.{maker_at, makers_set}
use Rattle.cell_law.proofs.Moves.{learns_alike, learnt_on, own_on, step_set, law_set}
use Rattle.cell_law.proofs.Records.{law_same_notes}
use Rattle.cell_law.proofs.Shares.{alone_bound, share_at}
use Rattle.cell_law.proofs.Stands.{open_for}
use Rattle.cell_law.proofs.Walks.{Passed, walked_passed}

-- a view has seen more, and nothing else has changed
module _ (z : Area) (p : Plain) (views : List View) (n : ℕ) (here : n < length views)
    (meets : Meets (CellLaw z) p views) (there : n < length p.seats)
    (is_here : (seat_at p n).left ≡ false) (e : Sight) (inside : e.cell < z.cells)
    (saw : Saw z p views e) where
  abbrev v : View
  v = view_at views n

  abbrev w : View
  w = record (view_at views n) { seen = e ∷ (view_at views n).seen }

  law_saw : CellLaw z p (set views n w)
  law_saw =
      let law = meets.law in
      let step = step_set z p p views n w here meets.lawful law (λ c h. refl) (λ s live. refl)
      (λ s fixed. refl) (learns_alike v v.noted (e ∷ v.seen) v.found) in
      let l = learnt_on z p p views (set views n w) meets.lawful law step v (law.learnt n) in
      law_set z p p views n w here meets.lawful law (λ c h. refl) (λ s live. refl)
      (λ s fixed. refl) (learns_alike v v.noted (e ∷ v.seen) v.found)
      (record { seats = refl; left = λ m. refl }) there is_here
      (subst (DirectoryLaw no_cells p)
      (sym (makers_set views n w ∙ ap (set (makers views) n) (sym (maker_at views n))))
      (law_same_notes no_cells p (makers views) n law.records))
      (record {
        texts = l.texts;
        seen = ((inside, λ o. saw.1 (step.opened o)), l.seen);
        found = l.found;
        own = own_on v w v.bound (λ x i. inr i) l.own;
      })

found_some : (found : ℕ) (place : Option SlotId) → found ≡ word_of place → place ≢ None
    → (found == 0) ≡ false
found_some found None e not = absurd (not refl)
found_some found (Some x) e not = grind (arith, nat_tests)

found_none : (found : ℕ) (place : Option SlotId) → found ≡ word_of place → place ≡ None
    → (found == 0) ≡ true
found_none found place e null = let f : found ≡ 0 = e ∙ ap word_of null in rw f refl

-- the law holds with the view w, and the bind tells what it tells
abbrev Told : Area → Plain → Plain → List View → ℕ → View → Type 0
Told z p q views n w = CellLaw z q (set views n w) × BindTells z p q n (view_at views n) w

chosen : (z : Area) (p q : Plain) (views : List View) (n found : ℕ) (a b : View) (null : Bool)
    → (found == 0) ≡ null → Told z p q views n (if null then a else b)
    → Told z p q views n (if found == 0 then a else b)
chosen z p q views n found a b null is h =
    subst (λ (t : Bool). Told z p q views n (if t then a else b)) (sym is) h

-- the step that found null puts the slot there
moved_is : (p q : Plain) (n i : ℕ) (s : SlotId) (seat : PlainSeat) (place : Option SlotId)
    → place ≡ None
    → q ≡ moved p (set p.seats n (record seat { deferred = defers Strong place seat.deferred }))
    (set p.cells i (Some s))
    → q ≡ moved p (set p.seats n seat) (set p.cells i (Some s))
moved_is p q n i s seat None null is = is
moved_is p q n i s seat (Some x) null is = absurd (none_some x (sym null))

-- where the view has seen nothing in a cell that holds a head, not all was granted to its seat
another : (z : Area) (p : Plain) (views : List View) (n c : ℕ) (s : SlotId) → n < length views
    → CellLaw z p views → IsOpen views → c < z.cells → cell z p c ≡ Some s
    → Unseen (view_at views n) c → (view_at views n).grant < sum z.interns
another z p views n c s here law opened inside is unseen =
    ⊎_elim
    (λ (alone : (view_at views n).grant ≡ sum z.interns).
    let v : View = view_at views n in
    let o = law.cells c s inside is in
    let e : Rope = rope s (slot_at p s).life o.text in
    let own = alone_bound z p views law n here alone s (slot_at p s).life o.text o.bound in
    let at = each_in (SawBound v) e v.bound own (law.learnt n).own in
    let x : Sight = sight at.0 s in
    let saw = each_in (Saw z p views) x v.seen at.1 (law.learnt n).seen in
    absurd (unseen x at.1 (λ f. cc)
    (law.single at.0 c s saw.0 inside (saw.1 opened).0 is)))
    (λ (ne : (view_at views n).grant ≢ sum z.interns).
    let a = share_at views n here in
    let b = law.room in omega arith)
    (cases_eq (view_at views n).grant (sum z.interns))

-- a lost bind: the cell shows another head
lost : (z : Area) (p : Plain) (views : List View) (n c found : ℕ) → n < length views → IsOpen views
    → Meets (CellLaw z) p views → n < length p.seats → (seat_at p n).left ≡ false → c < z.cells
    → cell z p c ≡ slot_of found → cell z p c ≢ None
    → Told z p p views n (sees c found (view_at views n))
lost z p views n c zero here opened meets there is_here inside is some = absurd (some is)
lost z p views n c (suc k) here opened meets there is_here inside is some = (
  law_saw z p views n here meets there is_here (sight c (id k)) inside (inside, λ o. (is, tt)),
  (
    λ d r h held. held,
    inr (record {
      at = c;
      inside = inside;
      holder = id k;
      held = is;
      next = refl;
      same = refl;
      other = another z p views n c (id k) here meets.law opened inside is;
    }),
  ),
)

-- a bind that found null
won : (z : Area) (p : Plain) (ss : List PlainSeat) (s : SlotId) (m : ℕ) (text : Text)
    (views : List View) (n : ℕ) (others : List Rope)
    → n < length views → Meets (CellLaw z) p views → n < length p.seats
    → (seat_at p n).left ≡ false
    → (view_at views n).noted ≡ rope s (slot_at p s).life text ∷ others
    → (view_at views n).cleared ≡ false → 0 < z.cells → IsWord text → Passed z p text m
    → stage_at p s ≡ Live → MayBind (view_at views n) → z.first + on z text m < length p.cells
    → cell z p (on z text m) ≡ None
    → LeftSame p (moved p ss (set p.cells (z.first + on z text m) (Some s)))
    → Told z p (moved p ss (set p.cells (z.first + on z text m) (Some s))) views n
    (binds (on z text m) (view_at views n))
won z p ss s m text views n others here meets there is_here noted uncleared some_cells is_word passed
    live may range null same =
    let law = meets.law in
    let v : View = view_at views n in
    let c : ℕ = on z text m in
    let cs : List (Option SlotId) = set p.cells (z.first + c) (Some s) in
    let q : Plain = moved p ss cs in
    let e : Rope = rope s (slot_at p s).life text in
    let opened = open_for z p views law n there is_here uncleared in
    let at : cell z q c ≡ Some s =
    get_or-set_same p.cells (z.first + c) (Some s) None range in
    let elsewhere : (d : ℕ) → d ≢ c → cell z q d ≡ cell z p d =
    λ d ne. get_or-set_other p.cells (z.first + c) (z.first + d) (Some s) None
    (λ f. ne (omega arith)) in
    let kept = law_bound z p ss cs s m text views n here others noted meets.lawful law opened
    some_cells at elsewhere null passed is_word live may same there is_here in
    let new = new_text z p ss cs s m text views n here others noted meets.lawful law opened some_cells
    at elsewhere null passed is_word live may in
    let is = record_new z p ss cs s m text views n here others noted meets.lawful law opened
    some_cells at elsewhere null passed is_word live may in
    let next : record v { noted = others; bound = e ∷ v.bound; seen = sight c s ∷ v.seen }
    ≡ binds c v =
    ap (λ (es : List Rope). record v {
      noted = other_notes es;
      bound = first_noted es ∷ v.bound;
      seen = sight c (first_noted es).slot ∷ v.seen;
    }) (sym noted) in
    let first : e ≡ first_noted v.noted = ap first_noted (sym noted) in (
      subst (λ (w : View). CellLaw z q (set views n w)) next kept,
      (
        stays z p ss cs s m text views n here others noted meets.lawful law opened some_cells at
            elsewhere null passed is_word live may,
        inl (record {
          at = c;
          inside = on_inside z text m some_cells;
          held = at ∙ ap (λ (x : Rope). Some x.slot) first;
          next = refl;
          new = subst (λ (x : Rope). NoRecord z p x.text) first new;
          is = subst (λ (x : Rope). IsRecord z q x.text x.slot) first is;
        }),
      ),
    )

pub bind_keeps : (z : Area) → Keeps (CellLaw z) gone (BindReady z) (bind_next z) (BindTells z)
bind_keeps z p q views n step found meets here ready does =
    let s : SlotId = ready.slot in
    let v : View = view_at views n in
    let text : Text = ready.text in
    let m : ℕ = ready.passed in
    let c : ℕ = on z text m in
    let law = meets.law in
    let d = subst (λ (a : PlainAct). Does p n a found q) ready.act_is does in
    let life = life_at p n s (has_owned (seat_at p n) s ready.owned) in
    let live = (owned_live p n s meets.lawful d.0.0 ready.owned).0 in
    let noted : v.noted ≡ rope s (slot_at p s).life text ∷ ready.others =
    ready.noted ∙ ap (λ (l : ℕ). rope s l text ∷ ready.others) life in
    let opened = open_for z p views law n d.0.0 d.0.1 ready.is_open in
    let passed = walked_passed z p views meets.lawful law opened n text m ready.walked in
    let inside = on_inside z text m ready.some_cells in
    let index : cell_of step - z.first ≡ c =
    ap (λ (a : PlainAct). cell_of a - z.first) ready.act_is
    ∙ (let e : z.first + c - z.first ≡ c = omega arith in e) in
    let same = does_left p q n step found
    (λ j e. let f : act.TryReplace (Cell (z.first + c)) None (Some s) ≡ act.Leave j =
    sym ready.act_is ∙ e in cc) does in
    ⊎_elim
    (λ yes.
    let ss : List PlainSeat = set p.seats n yes.1.0 in
    let after : Plain = moved p ss (set p.cells (z.first + c) (Some s)) in
    let at = moved_is p q n (z.first + c) s yes.1.0 (cell z p c) yes.0 yes.1.2 in
    let told = won z p ss s m text views n ready.others here meets d.0.0 d.0.1 noted ready.is_open
    ready.some_cells ready.is_word passed live ready.granted d.1.0 yes.0
    (subst (LeftSame p) at same) in
    chosen z p q views n found (binds (cell_of step - z.first) v)
    (sees (cell_of step - z.first) found v) true (found_none found (cell z p c) d.1.1 yes.0)
    (subst (λ (i : ℕ). Told z p q views n (binds i v)) (sym index)
    (subst (λ (x : Plain). Told z p x views n (binds c v)) (sym at) told)))
    (λ not.
    let is = word_slot found (cell z p c) d.1.1 in
    let told = lost z p views n c found here opened meets d.0.0 d.0.1 inside is not.0 in
    chosen z p q views n found (binds (cell_of step - z.first) v)
    (sees (cell_of step - z.first) found v) false (found_some found (cell z p c) d.1.1 not.0)
    (subst (λ (i : ℕ). Told z p q views n (sees i found v)) (sym index)
    (subst (λ (x : Plain). Told z p x views n (sees c found v)) (sym not.1) told)))
    d.1.2
