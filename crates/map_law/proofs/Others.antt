-- Calm and foreign steps, and makes, keep the law.
use Rattle.std.proofs.Common.{◌≡◌, ◌≢◌, inr, ⊎_elim, ℕ, ◌<◌, ◌≤◌, Bool, true, false, List, length, get_or, refl, ap, sym, ◌∙◌, subst, arith}
use Rattle.std.specs.Prelude.{Option, Some, None, ◌==◌, if◌then◌else◌}
use Rattle.std.proofs.lemmas.List.{get_or-set_other}
use Rattle.std.proofs.lemmas.Bool.{cases_lt}
use Rattle.plain_protocol.specs.plain_state.declared.act.EventPlace.{EventPlace}
use Rattle.plain_protocol.specs.plain_state.declared.act.EventPlace.TheVariants.{Cell, Field, WeakCell, WeakField}
use Rattle.plain_protocol.specs.plain_state.declared.act.PlainAct.{PlainAct}
use Rattle.plain_protocol.specs.plain_state.declared.act.PlainAct.TheVariants as act
use Rattle.plain_protocol.specs.plain_state.declared.slot.PlainSlot.{PlainSlot}
use Rattle.plain_protocol.specs.plain_state.declared.slot.SlotId.{SlotId}
use Rattle.plain_protocol.specs.plain_state.declared.slot.Stage.TheVariants.{Live}
use Rattle.plain_protocol.specs.plain_state.State.{Plain, PlainSeat, seat_at, slot_at}
use Rattle.plain_protocol.specs.plain_state.Lawful.{Lawful}
use Rattle.plain_protocol.specs.plain_state.Places.{IsOpen, with_field}
use Rattle.plain_protocol.specs.plain_state.Steps.{Replaces}
use Rattle.plain_protocol.proofs.Below.plain_state_Kit.{seats_at}
use Rattle.plain_protocol.specs.plain_state.Lists.{times, entry_times}
use Rattle.plain_protocol.specs.plain_state.Places.{HoldsStrongly}
use Rattle.plain_protocol.specs.plain_state.References.{strong_refs}
use Rattle.plain_protocol.specs.plain_state.declared.slot.Kind.TheVariants.{Strong}
use Rattle.plain_protocol.specs.Acts.{IsCalm, IsForeign}
use Rattle.plain_protocol.specs.Laws.{KeptByCalm, KeptByForeign, Meets}
use Rattle.map_law.specs.Law.{owns}
use Rattle.map_law.specs.Nodes.{KeepsMap}
use Rattle.plain_protocol.specs.plain_state.Steps.{Does}
use Rattle.plain_protocol.proofs.Calm.{calm_leaves}
use Rattle.map_trees.specs.Trees.{Tree, leaf, node}
use Rattle.map_law.specs.Views.{Raw, View, view_at, fresh, In}
use Rattle.map_law.specs.Nodes.{root, TreeAt, LiveNode}
use Rattle.map_law.specs.Law.{MapLaw}
use Rattle.map_law.specs.Learnt.{Built}
use Rattle.map_law.proofs.Kit.{each_in, cases_id, none_some}
use Rattle.map_law.proofs.Frame.{Frame}
use Rattle.map_law.proofs.Left.{LeftSame, does_left}
use Rattle.map_law.proofs.Steps.{Nowhere, Only, frame_calm, frame_same, frame_write, frame_make, Makes, makes, live_inside}
use Rattle.map_law.proofs.Whole.{same_heads, learnt_on, law_on, map_on}

-- a step that changes no node, and not the root cell
abbrev pub Keeps : ℕ → Plain → Plain → List View → Type 0
Keeps c p q views = MapLaw c q views × KeepsMap c p q

pub aside_law : (c : ℕ) (p q : Plain) (views : List View) → Frame Nowhere p q → root q c ≡ root p c → LeftSame p q
    → Lawful p → MapLaw c p views → Keeps c p q views
aside_law c p q views fr cell left lawful law =
    let same : (s : SlotId) (l : ℕ) → l ≤ (slot_at p s).life → fresh views s l ≡ 0 → fresh views s l ≡ 0 =
    λ s l le e. e in (
      law_on c Nowhere p q views views fr lawful law (λ s x le e. x) same
          (λ s. inr (λ x. x)) cell (λ s x is. absurd x) (λ t s x is l. absurd x) law.once
          (λ s l h. let a = law.lives s l h in let b = fr.life s in omega arith)
          (λ m. learnt_on c Nowhere p q views views fr lawful law (λ s x le e. x) same (view_at views m)
          (λ e i life x. x)
          (law.learnt m))
          (same_heads views) left,
      map_on c Nowhere p q views views fr lawful law (λ s x le e. x) same cell,
    )

no_leave : (step : PlainAct) → IsCalm step → (j : ℕ) → step ≢ act.Leave j
no_leave step calm j e = subst IsCalm e calm

pub calm_both : (c : ℕ) (p q : Plain) (n : ℕ) (step : PlainAct) (found : ℕ) (views : List View)
    → Meets (MapLaw c) p views → IsCalm step → Does p n step found q → Keeps c p q views
calm_both c p q n step found views meets calm does =
    let left = calm_leaves p q n step found meets.lawful calm does in
    aside_law c p q views (frame_calm p q left) (ap (λ (l : List (Option SlotId)). get_or l c None) left.cells)
    (does_left p q n step found (no_leave step calm) does) meets.lawful meets.law

pub calm_keeps : (c : ℕ) → KeptByCalm (MapLaw c)
calm_keeps c p q n step found views meets calm does = (calm_both c p q n step found views meets calm does).0

pub calm_map : (c : ℕ) (p q : Plain) (n : ℕ) (step : PlainAct) (found : ℕ) (views : List View)
    → Meets (MapLaw c) p views → IsCalm step → Does p n step found q → KeepsMap c p q
calm_map c p q n step found views meets calm does = (calm_both c p q n step found views meets calm does).1

-- the tree of a node that was just made
pub new_tree : (p q : Plain) (s : SlotId) → Makes p q s → LiveNode q s → (t : Tree) × TreeAt q (Some s) t
new_tree p q s m is = let o = is.1 in (node o.0 o.1 o.2 leaf leaf, (s, refl, o.3, m.first, m.second))

-- a make by another part
make_other : (c : ℕ) (p q : Plain) (s : SlotId) (views : List View) → Makes p q s → LeftSame p q → Lawful p
    → MapLaw c p views → Keeps c p q views
make_other c p q s views m left lawful law =
    let fr = frame_make p q s m in
    let same : (r : SlotId) (l : ℕ) → l ≤ (slot_at p r).life → fresh views r l ≡ 0 → fresh views r l ≡ 0 =
    λ r l le e. e in
    let new : (r : SlotId) → Only s r → (slot_at q r).life ≤ (slot_at p r).life
    → fresh views r (slot_at q r).life ≡ 0 → ⊥ =
    λ r is le e. let a = m.life in let b : (slot_at q s).life ≤ (slot_at p s).life =
    subst (λ (z : SlotId). (slot_at q z).life ≤ (slot_at p z).life) is le in absurd (omega arith) in (
      law_on c (Only s) p q views views fr lawful law new same
          (λ r. cases_id r s) (ap (λ (l : List (Option SlotId)). get_or l c None) m.cells)
          (λ r is nd. subst (λ (z : SlotId). (t : Tree) × TreeAt q (Some z) t) (sym is)
          (new_tree p q s m (subst (LiveNode q) is nd)))
          (λ t r is nd l. absurd (⊎_elim
          (λ e. none_some r (sym m.first ∙ subst (λ (z : SlotId). (slot_at q z).first ≡ Some r) is e))
          (λ e. none_some r (sym m.second ∙ subst (λ (z : SlotId). (slot_at q z).second ≡ Some r) is e)) l))
          law.once
          (λ r l h. let a = law.lives r l h in let b = fr.life r in omega arith)
          (λ k. learnt_on c (Only s) p q views views fr lawful law new same (view_at views k)
          (λ e i life is.
          let a = m.life in
          let b : (slot_at q s).life ≡ e.life = subst (λ (z : SlotId). (slot_at q z).life ≡ e.life) is life in
          let d : e.life ≤ (slot_at p s).life = subst (λ (z : SlotId). e.life ≤ (slot_at p z).life) is
          (begun k e i) in
          absurd (omega arith)) (law.learnt k))
          (same_heads views) left,
      map_on c (Only s) p q views views fr lawful law new same
          (ap (λ (l : List (Option SlotId)). get_or l c None) m.cells),
    )
  where
    begun : (k : ℕ) (e : Raw) → In e (view_at views k).raw → e.life ≤ (slot_at p e.slot).life
    begun k e i = (each_in (Built p) e (view_at views k).raw i (law.learnt k).raw).0

with_field_same : {A : Type 0} (f : PlainSlot → A) (i : ℕ) (new : Option SlotId) (x : PlainSlot)
    → ((y : Option SlotId) → f (record x { first = y }) ≡ f x)
    → ((y : Option SlotId) → f (record x { second = y }) ≡ f x) → f (with_field i new x) ≡ f x
with_field_same {A} f i new x a b = go (i == 0)
  where
    go : (z : Bool) → f (if z then record x { first = new } else record x { second = new }) ≡ f x
    go true = a new
    go false = b new

-- what a seat holds strongly is Live
pub held_live : (p : Plain) (n : ℕ) (s : SlotId) → Lawful p → n < length p.seats → HoldsStrongly (seat_at p n) s
    → (slot_at p s).stage ≡ Live
held_live p n s lawful low held = (lawful.strong s refs).0
  where
    refs : 0 < strong_refs p s
    refs = ⊎_elim
        (λ (owns : 0 < times s (seat_at p n).owned).
        let a = seats_at (λ (v : PlainSeat). times s v.owned) p.seats n low in omega arith)
        (λ none.
        let b = seats_at (λ (v : PlainSeat). entry_times Strong s v.snapshots) p.seats n low in
        let a = lawful.covered Strong s (omega arith) in omega arith)
        (cases_lt 0 (times s (seat_at p n).owned))

slots_of : (p q : Plain) → q ≡ p → q.slots ≡ p.slots
slots_of p q e = ap (λ (z : Plain). z.slots) e

cell_of : (c : ℕ) (p q : Plain) → q ≡ p → root q c ≡ root p c
cell_of c p q e = ap (λ (z : Plain). root z c) e

foreign_write : (c : ℕ) (p q : Plain) (n : ℕ) (at : EventPlace) (new : Option SlotId) (views : List View)
    → n < length p.seats → Lawful p
    → IsForeign (owns c) p (act.Replace at new) → IsOpen p n at → Replaces p n at new q → LeftSame p q
    → MapLaw c p views → Keeps c p q views
foreign_write c p q n (Cell i) new views low lawful f o r left law =
    aside_law c p q views (frame_same p q (slots_of _ q r.2))
    (cell_of c _ q r.2 ∙ get_or-set_other p.cells i c new None (λ e. f (sym e))) left lawful law
foreign_write c p q n (Field s i) new views low lawful f o r left law =
    aside_law c p q views
    (frame_write Nowhere p q s (with_field i new (slot_at p s)) (slots_of _ q r.2)
    (live_inside p s (held_live p n s lawful low o.1))
    (with_field_same (λ z. z.stage) i new (slot_at p s) (λ y. refl) (λ y. refl))
    (with_field_same (λ z. z.life) i new (slot_at p s) (λ y. refl) (λ y. refl))
    (with_field_same (λ z. z.payload) i new (slot_at p s) (λ y. refl) (λ y. refl))
    (λ x is. absurd (f is)))
    (cell_of c _ q r.2) left lawful law
foreign_write c p q n (WeakCell i) new views low lawful f o r left law =
    aside_law c p q views (frame_same p q (slots_of _ q r.2)) (cell_of c _ q r.2) left lawful law
foreign_write c p q n (WeakField s) new views low lawful f o r left law =
    aside_law c p q views
    (frame_write Nowhere p q s (record (slot_at p s) { weak_field = new }) (slots_of _ q r.2)
    (live_inside p s (held_live p n s lawful low o)) refl refl refl (λ x is. absurd (f is)))
    (cell_of c _ q r.2) left lawful law

not_leave : (c : ℕ) (p : Plain) (step : PlainAct) → IsForeign (owns c) p step → (j : ℕ) → step ≢ act.Leave j
not_leave c p step f j e = subst (IsForeign (owns c) p) e f

pub foreign_both : (c : ℕ) (p q : Plain) (n : ℕ) (step : PlainAct) (found : ℕ) (views : List View)
    → Meets (MapLaw c) p views → IsForeign (owns c) p step → Does p n step found q → Keeps c p q views
foreign_both c p q n (act.Make s) found views meets f d =
    make_other c p q s views (makes p q n s found meets.lawful d)
    (does_left p q n (act.Make s) found (not_leave c p (act.Make s) f) d) meets.lawful meets.law
foreign_both c p q n (act.Replace at new) found views meets f d =
    foreign_write c p q n at new views d.0.0 meets.lawful f d.1.0 d.1.2
    (does_left p q n (act.Replace at new) found (not_leave c p (act.Replace at new) f) d) meets.law
foreign_both c p q n (act.TryReplace at old new) found views meets f d = ⊎_elim
    (λ hit. foreign_write c p q n at new views d.0.0 meets.lawful f d.1.0 hit.1
    (does_left p q n (act.TryReplace at old new) found (not_leave c p (act.TryReplace at old new) f) d) meets.law)
    (λ miss. subst (λ (z : Plain). Keeps c p z views) (sym miss.1) (meets.law, (refl, λ t r. r))) d.1.2
foreign_both c p q n (act.Claim s) found views meets f d = calm_both c p q n (act.Claim s) found views meets tt d
foreign_both c p q n (act.Fill s i word) found views meets f d =
    calm_both c p q n (act.Fill s i word) found views meets tt d
foreign_both c p q n (act.Add s) found views meets f d = calm_both c p q n (act.Add s) found views meets tt d
foreign_both c p q n (act.Drop s) found views meets f d = calm_both c p q n (act.Drop s) found views meets tt d
foreign_both c p q n (act.WeakGain s) found views meets f d =
    calm_both c p q n (act.WeakGain s) found views meets tt d
foreign_both c p q n (act.WeakDrop s) found views meets f d =
    calm_both c p q n (act.WeakDrop s) found views meets tt d
foreign_both c p q n (act.Look at) found views meets f d = calm_both c p q n (act.Look at) found views meets tt d
foreign_both c p q n (act.Check j at) found views meets f d =
    calm_both c p q n (act.Check j at) found views meets tt d
foreign_both c p q n (act.Alive j) found views meets f d = calm_both c p q n (act.Alive j) found views meets tt d
foreign_both c p q n (act.EndSnapshot k s) found views meets f d =
    calm_both c p q n (act.EndSnapshot k s) found views meets tt d
foreign_both c p q n (act.Count s) found views meets f d = calm_both c p q n (act.Count s) found views meets tt d
foreign_both c p q n (act.Mark s) found views meets f d = calm_both c p q n (act.Mark s) found views meets tt d
foreign_both c p q n (act.WeakCount s) found views meets f d =
    calm_both c p q n (act.WeakCount s) found views meets tt d
foreign_both c p q n (act.See s i) found views meets f d = calm_both c p q n (act.See s i) found views meets tt d
foreign_both c p q n (act.Eject k s) found views meets f d = calm_both c p q n (act.Eject k s) found views meets tt d
foreign_both c p q n (act.End s) found views meets f d = calm_both c p q n (act.End s) found views meets tt d
foreign_both c p q n (act.Clear at) found views meets f d = calm_both c p q n (act.Clear at) found views meets tt d
foreign_both c p q n (act.Destroy s) found views meets f d = calm_both c p q n (act.Destroy s) found views meets tt d
foreign_both c p q n (act.Give s) found views meets f d = calm_both c p q n (act.Give s) found views meets tt d
foreign_both c p q n (act.Leave j) found views meets f d = absurd f
foreign_both c p q n act.Split found views meets f d = calm_both c p q n act.Split found views meets tt d
foreign_both c p q n act.Ticket found views meets f d =
    aside_law c p q views (frame_same p q (slots_of _ q d.1.1)) (cell_of c _ q d.1.1)
    (does_left p q n act.Ticket found (not_leave c p act.Ticket f) d) meets.lawful meets.law
foreign_both c p q n act.Still found views meets f d = calm_both c p q n act.Still found views meets tt d

pub foreign_keeps : (c : ℕ) → KeptByForeign (MapLaw c) (owns c)
foreign_keeps c p q n step found views meets f d = (foreign_both c p q n step found views meets f d).0

pub foreign_map : (c : ℕ) (p q : Plain) (n : ℕ) (step : PlainAct) (found : ℕ) (views : List View)
    → Meets (MapLaw c) p views → IsForeign (owns c) p step → Does p n step found q → KeepsMap c p q
foreign_map c p q n step found views meets f d = (foreign_both c p q n step found views meets f d).1
