-- Steps that change nothing which the law reads keep it.
use Rattle.std.proofs.Common.{◌≡◌, inl, ⊎_elim, ℕ, ◌+◌, ◌<◌, ◌≤◌, true, false, List, [], length, get_or, take, sum, refl, ap, sym, ◌∙◌, subst, arith}
use Rattle.std.specs.Prelude.{Option, Some, None}
use Rattle.std.proofs.lemmas.List.{get_or_past}
use Rattle.std.proofs.lemmas.Bool.{cases_lt}
use Rattle.plain_protocol.specs.plain_state.declared.slot.PlainSlot.{PlainSlot}
use Rattle.plain_protocol.specs.plain_state.declared.slot.SlotId.{SlotId}
use Rattle.plain_protocol.specs.plain_state.declared.slot.Stage.TheVariants.{Live}
use Rattle.plain_protocol.specs.plain_state.Lists.{cell_times}
use Rattle.plain_protocol.specs.plain_state.State.{Plain, slot_at}
use Rattle.plain_protocol.specs.plain_state.References.{held_in}
use Rattle.plain_protocol.specs.plain_state.Lawful.{Lawful}
use Rattle.plain_protocol.proofs.Below.plain_state_Kit.{cells_at, held_self}
use Rattle.plain_protocol.specs.Calm.{IsMade, StaysOrNull, IsCalmed}
use Rattle.plain_protocol.specs.Laws.{KeptByCalm}
use Rattle.plain_protocol.proofs.Calm.{calm_leaves}
use Rattle.directory_law.specs.Payloads.{IsHead, IsOwn}
use Rattle.directory_law.specs.Views.{View, view_at, fresh}
use Rattle.directory_law.specs.Chains.{Along, OwnSlot}
use Rattle.directory_law.specs.Cells.{Area, cell, on, LiveRecord, Stands}
use Rattle.directory_law.specs.Learnt.{Built}
use Rattle.directory_law.specs.Law.{granted, IsChain, DirectoryLaw}
use Rattle.directory_law.proofs.Kit.{none_some, false≢true, not_false}
use Rattle.directory_law.proofs.Notes.{each_map}
use Rattle.directory_law.proofs.CellCounts.{same_set}
use Rattle.directory_law.proofs.Chains.{along_on}
use Rattle.directory_law.proofs.Moves.{Moves, on_inside, links, built_moves, learnt_moves, cell_moves, last_moves, stands_moves}

-- a slot before and after, which so many weak cells hold; nothing is said of the fields of slots that aren't the
-- directory's
pub record SlotQuiet (refs : ℕ) (x y : PlainSlot) : Type 0 where
  pub life : y.life ≡ x.life
  pub mark : x.marked ≡ true → y.marked ≡ true
  pub live : y.stage ≡ Live → x.stage ≡ Live
  pub payload : x.stage ≡ Live → y.payload ≡ x.payload
  pub second : x.stage ≡ Live → IsOwn x.payload → y.second ≡ x.second
  pub held : 0 < refs → IsMade x.stage → IsMade y.stage × (y.payload ≡ x.payload)
  pub made : IsMade y.stage → IsOwn y.payload
      → IsMade x.stage × (y.payload ≡ x.payload) × StaysOrNull x.first y.first
      × StaysOrNull x.second y.second

pub record Quiet (z : Area) (p q : Plain) : Type 0 where
  pub cells : (d : ℕ) → d < z.cells → cell z q d ≡ cell z p d
  pub granted : granted z p ≤ granted z q
  pub slots : (s : SlotId) → SlotQuiet (cell_times s p.weak_cells) (slot_at p s) (slot_at q s)

pub same_quiet : (refs : ℕ) (x : PlainSlot) → SlotQuiet refs x x
same_quiet refs x = record {
  life = refl;
  mark = λ h. h;
  live = λ h. h;
  payload = λ h. refl;
  second = λ h own. refl;
  held = λ h made. (made, refl);
  made = λ made own. (made, refl, inl refl, inl refl);
}

pub calmed_quiet : (z : Area) (p q : Plain) → IsCalmed p q → Quiet z p q
calmed_quiet z p q f = record {
  cells = λ d h. ap (λ (xs : List (Option SlotId)). get_or xs (z.first + d) None) f.weak_cells;
  granted = let e = ap (λ (n : ℕ). sum (take n z.grants)) f.tickets in omega arith;
  slots = λ s.
      let c = f.slots s in
      record {
        life = c.life;
        mark = c.mark;
        live = c.live;
        payload = c.payload;
        second = λ h own. (c.fields h).1;
        held = c.held;
        made = λ made own. let m = c.made made in (m.0, m.1, m.2, m.3);
      };
}

pub cell_held : (xs : List (Option SlotId)) (i : ℕ) (s : SlotId) → get_or xs i None ≡ Some s
    → 0 < cell_times s xs
cell_held xs i s h =
    ⊎_elim
    (λ (inside : i < length xs).
    let e = cells_at s xs i inside in
    let f : held_in s (get_or xs i None) ≡ 1 = ap (held_in s) h ∙ held_self s in omega arith)
    (λ (past : length xs ≤ i). absurd (none_some s (sym (get_or_past xs i None past) ∙ h)))
    (cases_lt i (length xs))

module _ (z : Area) (p q : Plain) (quiet : Quiet z p q) (lawful : Lawful p) (views : List View)
    (law : DirectoryLaw z p views) where
  moves : Moves z p q views views (λ s. ⊥)
  moves = record {
    lives = λ s. let e = (quiet.slots s).life in omega arith;
    live = λ s same. (quiet.slots s).live;
    payload = λ s. (quiet.slots s).payload;
    second = λ s live own unchanged. (quiet.slots s).second live own;
    mark = λ s same. (quiet.slots s).mark;
    cells = λ d s h is. quiet.cells d h ∙ is;
    held = λ d s h is.
        let c = quiet.slots s in
        let k = c.held (cell_held p.weak_cells (z.first + d) s is) (law.cells d s h is).made in
        (k.0, k.1, c.life);
    still = λ s none changed. changed;
    fewer = λ s l began. omega arith;
    kept = λ s l t k. k;
    once = law.once;
  }

  was : (d : ℕ) (s : SlotId) → d < z.cells → cell z q d ≡ Some s → cell z p d ≡ Some s
  was d s h is = sym (quiet.cells d h) ∙ is

  own_back : (s : SlotId) → OwnSlot q s → OwnSlot p s
  own_back s o = let c = (quiet.slots s).made o.made o.own in
      record { made = c.0; own = subst IsOwn c.1 o.own }

  unmarked : (s : SlotId) → (slot_at q s).marked ≡ false → (slot_at p s).marked ≡ false
  unmarked s m = not_false (slot_at p s).marked (λ t. false≢true (sym m ∙ (quiet.slots s).mark t))

  shape_quiet : (s : SlotId) → OwnSlot q s → IsChain q (slot_at q s)
  shape_quiet s o =
      let c = (quiet.slots s).made o.made o.own in
      let b = own_back s o in
      let h = law.shape s b in
      let chain = along_on p q (links z p q views views (λ s. ⊥) moves lawful law) s b h.1.0
      h.1.1 in (
        ⊎_elim (λ (e : (slot_at q s).first ≡ (slot_at p s).first). e ∙ h.0)
            (λ (e : (slot_at q s).first ≡ None). e) c.2,
        ⊎_elim
            (λ (e : (slot_at q s).second ≡ (slot_at p s).second).
            (h.1.0, subst (λ (w : Option SlotId). Along q w h.1.0) (sym e) chain))
            (λ (e : (slot_at q s).second ≡ None). ([], e))
            c.3,
      )

  second_back : (s r : SlotId) → OwnSlot q s → (slot_at q s).second ≡ Some r
      → (slot_at p s).second ≡ Some r
  second_back s r o at =
      ⊎_elim
      (λ (e : (slot_at q s).second ≡ (slot_at p s).second). sym e ∙ at)
      (λ (e : (slot_at q s).second ≡ None). absurd (none_some r (sym e ∙ at)))
      ((quiet.slots s).made o.made o.own).3

  bound_quiet : (s : SlotId) → LiveRecord q views s → Stands z q s
  bound_quiet s live =
      let c = quiet.slots s in
      let l = c.live live.stage in
      let b = law.bound s (record {
        stage = l;
        mark = unmarked s live.mark;
        head = subst IsHead (c.payload l) live.head;
        bound = ap (λ (x : ℕ). fresh views s x) (sym c.life) ∙ live.bound;
      }) in
      (b.0, b.1, quiet.cells b.0 b.1 ∙ b.2)

  pub law_quiet : DirectoryLaw z q views
  law_quiet = record {
    cells = λ c s h is. cell_moves z p q views views (λ s. ⊥) moves lawful law c s h (was c s h is);
    last = λ k j s r text lt inside isk isj.
        last_moves z p q views views (λ s. ⊥) moves lawful law k j s r text lt inside
        (was (on z text k) s (on_inside z text k (omega arith)) isk)
        (was (on z text j) r (on_inside z text j (omega arith)) isj);
    bound = bound_quiet;
    few = let e = same_set z p q z.cells quiet.cells in let f = law.few in omega arith;
    quotas = let e = law.quotas in let f = quiet.granted in omega arith;
    quota = law.quota;
    shape = shape_quiet;
    single = λ s t r os ot ats att.
        law.single s t r (own_back s os) (own_back t ot) (second_back s r os ats)
        (second_back t r ot att);
    loose = λ t s o at. ap (λ (l : ℕ). fresh views s l) (quiet.slots s).life
        ∙ law.loose t s (own_back t o) (second_back t s o at);
    lives = λ s l h. let c = (quiet.slots s).life in let g = law.lives s l h in omega arith;
    once = law.once;
    stands = stands_moves z p q views views (λ s. ⊥) moves lawful law;
    learnt = λ n.
        let v = view_at views n in let l = law.learnt n in
        learnt_moves z p q views views (λ s. ⊥) moves lawful law v l v.noted
        (each_map (Built p) (Built q) (λ e h. built_moves z p q views views (λ s. ⊥) moves lawful
        law e (λ life changed. changed) h) v.noted l.noted);
  }

pub calm_keeps : (z : Area) → KeptByCalm (DirectoryLaw z)
calm_keeps z p q n step found views meets calm does =
    law_quiet z p q (calmed_quiet z p q (calm_leaves p q n step found meets.lawful calm does))
    meets.lawful views meets.law
