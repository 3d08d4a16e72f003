-- The slots of a record, along field 1: what they weigh, and how often a slot stands among them.
use Rattle.std.specs.Prelude.{sum_by, Option, Some, None}
use Rattle.std.proofs.Common.{◌≡◌, ◌≢◌, ⊎_elim, ℕ, List, [], ◌∷◌, refl, ap, sym, subst, ◌∙◌, arith}
use Rattle.std.proofs.lemmas.List.Sums.{sum_by-cons}
use Rattle.plain_audit.specs.plain_state.declared.slot.SlotId.{SlotId}
use Rattle.plain_audit.specs.plain_state.declared.slot.Stage.{Stage}
use Rattle.plain_audit.specs.plain_state.declared.slot.Stage.TheVariants.{Live}
use Rattle.plain_audit.specs.plain_state.Lawful.{Lawful}
use Rattle.plain_audit.specs.plain_state.Lists.{times}
use Rattle.plain_audit.specs.plain_state.References.{held_in}
use Rattle.plain_audit.specs.plain_state.State.{Plain, slot_at, stage_at}
use Rattle.plain_audit.proofs.Below.plain_state_Kit.{cases_slot, held_other, held_same, slot_is, times_cons, times_none}
use Rattle.directory_law.specs.declared.view.View.{View as DirectoryView}
use Rattle.directory_law.specs.Cells.{Area}
use Rattle.directory_law.specs.Chains.{Along, OwnSlot}
use Rattle.directory_law.specs.Law.{DirectoryLaw}
use Rattle.directory_law.specs.Payloads.{IsPart, Text}
use Rattle.directory_law.proofs.Chains.{pointed_own, second_live}
use Rattle.directory_law.proofs.Kit.{none_some, some_same}
use Rattle.plain_audit.specs.Audits.{if_live}

-- from a place on, along field 1, as many slots as a text has
abbrev pub chain : Plain → Text → Option SlotId → List SlotId
chain p [] place = []
chain p (t ∷ ts) None = []
chain p (t ∷ ts) (Some s) = s ∷ chain p ts (slot_at p s).second

-- what a slot weighs that lives
abbrev pub weighed : (List ℕ → ℕ) → Plain → SlotId → ℕ
weighed weight p s = if_live (weight (slot_at p s).payload) (stage_at p s)

pub live_weighs : (weight : List ℕ → ℕ) (p : Plain) (s : SlotId) (t : List ℕ) → stage_at p s ≡ Live
    → (slot_at p s).payload ≡ t → weighed weight p s ≡ weight t
live_weighs weight p s t live is =
    ap (λ (g : Stage). if_live (weight (slot_at p s).payload) g) live ∙ ap weight is

module _ (p : Plain) where
  chain_on : (t : List ℕ) (ts : Text) (place : Option SlotId) (s : SlotId) → place ≡ Some s
      → chain p (t ∷ ts) place ≡ s ∷ chain p ts (slot_at p s).second
  chain_on t ts place s at = ap (λ (o : Option SlotId). chain p (t ∷ ts) o) at

  -- they weigh what the payloads of the text weigh
  pub chain_weighs : (weight : List ℕ → ℕ) → Lawful p → (x : SlotId) (ts : Text)
      → Along p (slot_at p x).second ts
      → sum_by (weighed weight p) (chain p ts (slot_at p x).second) ≡ sum_by weight ts
  chain_weighs weight lawful x [] along = refl
  chain_weighs weight lawful x (t ∷ ts) along =
      let s = along.0 in
      let live = second_live p x s lawful along.1 in
      let here = live_weighs weight p s t live along.2 in
      let rest = chain_weighs weight lawful s ts along.4 in
      let is = ap (λ (xs : List SlotId). sum_by (weighed weight p) xs)
      (chain_on t ts (slot_at p x).second s along.1) in
      let one = sum_by-cons (weighed weight p) s (chain p ts (slot_at p s).second) in
      let two = sum_by-cons weight t ts in omega arith

  -- what is no part stands in none
  pub chain_of_parts : (k : SlotId) → ¬ (IsPart (slot_at p k).payload) → (place : Option SlotId)
      → (ts : Text) → Along p place ts → times k (chain p ts place) ≡ 0
  chain_of_parts k not place [] along = times_none k
  chain_of_parts k not place (t ∷ ts) along =
      let s = along.0 in
      let other : s.0 ≢ k.0 = λ e. not (subst IsPart
      (sym along.2 ∙ ap (λ (y : SlotId). (slot_at p y).payload) (slot_is s k e)) along.3) in
      let here = held_other k s other in
      let rest = chain_of_parts k not (slot_at p s).second ts along.4 in
      let is = ap (times k) (chain_on t ts place s along.1) in
      let all = times_cons k s (chain p ts (slot_at p s).second) in omega arith

-- to k leads just t of the directory's slots: so a chain passes k as often as t
module _ (z : Area) (p : Plain) (views : List DirectoryView) (lawful : Lawful p)
    (law : DirectoryLaw z p views) (t k : SlotId) (own : OwnSlot p t)
    (leads : (slot_at p t).second ≡ Some k) where
  same_steps : (x y : SlotId) → OwnSlot p x → (slot_at p x).second ≡ Some y
      → held_in k (Some y) ≡ held_in t (Some x)
  same_steps x y own_x at = ⊎_elim
      (λ (e : x ≡ t).
      let to : y ≡ k = some_same y k
      (sym at ∙ (ap (λ (s : SlotId). (slot_at p s).second) e ∙ leads)) in
      held_same k y (ap (λ (s : SlotId). s.0) to)
      ∙ sym (held_same t x (ap (λ (s : SlotId). s.0) e)))
      (λ (ne : x.0 ≢ t.0). held_other k y (λ to. ne (ap (λ (s : SlotId). s.0)
      (law.single x t k own_x own (at ∙ ap (λ (s : SlotId). Some s) (slot_is y k to)) leads)))
      ∙ sym (held_other t x ne))
      (cases_slot x t)

  last_step : (x : SlotId) → (slot_at p x).second ≡ None → held_in t (Some x) ≡ 0
  last_step x none = held_other t x (λ e. none_some k
      (sym none ∙ (ap (λ (s : SlotId). (slot_at p s).second) (slot_is x t e) ∙ leads)))

  pub chain_passes : (x : SlotId) (ts : Text) → OwnSlot p x → Along p (slot_at p x).second ts
      → times k (chain p ts (slot_at p x).second)
      ≡ times t (x ∷ chain p ts (slot_at p x).second)
  chain_passes x [] own_x along =
      let none = last_step x along in
      let all = times_cons t x [] in
      let nil = times_none t in
      let nil_too = times_none k in omega arith
  chain_passes x (u ∷ us) own_x along =
      let y = along.0 in
      let own_y = pointed_own z p views y lawful law (x, own_x, along.1) in
      let rest = chain_passes y us own_y along.4 in
      let step = same_steps x y own_x along.1 in
      let is = ap (times k) (chain_on p u us (slot_at p x).second y along.1) in
      let is_too = ap (times t) (chain_on p u us (slot_at p x).second y along.1) in
      let first = times_cons k y (chain p us (slot_at p y).second) in
      let all = times_cons t x (chain p (u ∷ us) (slot_at p x).second) in omega arith
