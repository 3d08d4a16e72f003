-- Chains along field 1, and what keeps them.
use Rattle.std.proofs.Common.{◌≡◌, ⊎_elim, ℕ, ◌<◌, ◌≤◌, List, [], ◌∷◌, length, refl, ap, sym, ◌∙◌, subst, arith}
use Rattle.std.specs.Prelude.{Option, Some, None}
use Rattle.std.proofs.lemmas.List.{get_or_past}
use Rattle.std.proofs.lemmas.List.Sums.{get_or-le-sum_by}
use Rattle.std.proofs.lemmas.Bool.{cases_lt}
use Rattle.plain_protocol.specs.plain_state.declared.slot.PlainSlot.{PlainSlot}
use Rattle.plain_protocol.specs.plain_state.declared.slot.SlotId.{SlotId}
use Rattle.plain_protocol.specs.plain_state.declared.slot.Stage.TheVariants.{Free, Blank, Live}
use Rattle.plain_protocol.specs.plain_state.State.{Plain, new_slot, slot_at, stage_at}
use Rattle.plain_protocol.specs.plain_state.References.{held_in, over_slots, strong_fields, strong_refs}
use Rattle.plain_protocol.specs.plain_state.Lawful.{Lawful}
use Rattle.plain_protocol.proofs.Below.plain_state_Kit.{held_self}
use Rattle.directory_law.specs.Payloads.{Text, IsHead, IsPart, IsOwn, IsText}
use Rattle.directory_law.specs.Views.{View}
use Rattle.directory_law.specs.Chains.{Along, Begins, Reads, OwnSlot}
use Rattle.directory_law.specs.Cells.{Area}
use Rattle.directory_law.specs.Law.{DirectoryLaw}
use Rattle.directory_law.proofs.Kit.{some_same, none_some}

-- some slot of the directory leads to x along field 1
abbrev pub Pointed : Plain → SlotId → Type 0
Pointed p x = (t : SlotId) × OwnSlot p t × ((slot_at p t).second ≡ Some x)

pub second_refs : (p : Plain) (t x : SlotId) → (slot_at p t).second ≡ Some x → 0 < strong_refs p x
unfolding over_slots
second_refs p t x at =
    ⊎_elim
    (λ (inside : t.0 < length p.slots).
    let e = get_or-le-sum_by (strong_fields x) p.slots t.0 new_slot inside in
    let f : held_in x (slot_at p t).second ≡ 1 = ap (held_in x) at ∙ held_self x in omega arith)
    (λ (past : length p.slots ≤ t.0).
    let y = get_or_past p.slots t.0 new_slot past in
    let e : (slot_at p t).second ≡ None = ap (λ (y : PlainSlot). y.second) y in
    absurd (none_some x (sym e ∙ at)))
    (cases_lt t.0 (length p.slots))

-- it lives then
pub second_live : (p : Plain) (t x : SlotId) → Lawful p → (slot_at p t).second ≡ Some x
    → stage_at p x ≡ Live
second_live p t x lawful at = (lawful.strong x (second_refs p t x at)).0

pub live_own : (p : Plain) (s : SlotId) → stage_at p s ≡ Live → IsOwn (slot_at p s).payload
    → OwnSlot p s
live_own p s live own = record {
  made = (
    (λ e. let f : Live ≡ Free = sym live ∙ e in cc),
    (λ e. let f : Live ≡ Blank = sym live ∙ e in cc),
  );
  own = own;
}

pub part_own : (t : List ℕ) → IsPart t → IsOwn t
part_own t h = omega arith

-- the first slot of a chain
along_first : (p : Plain) (w : Option SlotId) (x : SlotId) (ts : Text) → w ≡ Some x → Along p w ts
    → IsPart (slot_at p x).payload
along_first p w x [] at h = absurd (none_some x (sym h ∙ at))
along_first p w x (t ∷ ts) at h =
    let e : h.0 ≡ x = some_same h.0 x (sym h.1 ∙ at) in
    subst IsPart (sym h.2 ∙ ap (λ (y : SlotId). (slot_at p y).payload) e) h.3

-- what one of the directory's slots leads to is a part, and the directory's
pub pointed_part : (z : Area) (p : Plain) (views : List View) (x : SlotId) → DirectoryLaw z p views
    → Pointed p x → IsPart (slot_at p x).payload
pointed_part z p views x law pt =
    let s = law.shape pt.0 pt.1 in along_first p (slot_at p pt.0).second x s.1.0 pt.2 s.1.1

pub pointed_own : (z : Area) (p : Plain) (views : List View) (x : SlotId) → Lawful p
    → DirectoryLaw z p views → Pointed p x → OwnSlot p x
pointed_own z p views x lawful law pt =
    live_own p x (second_live p pt.0 x lawful pt.2)
    (part_own (slot_at p x).payload (pointed_part z p views x law pt))

-- what a step leaves of each slot that one of the directory leads to
pub record Links (p q : Plain) : Type 0 where
  pub live : (x : SlotId) → Pointed p x → stage_at p x ≡ Live
  pub payload : (x : SlotId) → Pointed p x → (slot_at q x).payload ≡ (slot_at p x).payload
  pub second : (x : SlotId) → Pointed p x → (slot_at q x).second ≡ (slot_at p x).second

-- so chains that begin at a slot of the directory stay
pub along_on : (p q : Plain) → Links p q → (t : SlotId) → OwnSlot p t → (ts : Text)
    → Along p (slot_at p t).second ts → Along q (slot_at p t).second ts
along_on p q links t own [] h = h
along_on p q links t own (u ∷ us) h =
    let pt : Pointed p h.0 = (t, own, h.1) in
    let part : IsPart (slot_at p h.0).payload = subst IsPart (sym h.2) h.3 in
    let o = live_own p h.0 (links.live h.0 pt) (part_own (slot_at p h.0).payload part) in
    let rest = along_on p q links h.0 o us h.4 in (
      h.0,
      h.1,
      links.payload h.0 pt ∙ h.2,
      h.3,
      subst (λ (w : Option SlotId). Along q w us) (sym (links.second h.0 pt)) rest,
    )

-- what is read from a place is one text
pub along_same : (p : Plain) (w : Option SlotId) (ts us : Text) → Along p w ts → Along p w us
    → ts ≡ us
along_same p w [] [] h k = refl
along_same p w [] (u ∷ us) h k = absurd (none_some k.0 (sym h ∙ k.1))
along_same p w (t ∷ ts) [] h k = absurd (none_some h.0 (sym k ∙ h.1))
along_same p w (t ∷ ts) (u ∷ us) h k =
    let e : h.0 ≡ k.0 = some_same h.0 k.0 (sym h.1 ∙ k.1) in
    let f : t ≡ u = sym h.2 ∙ (ap (λ (y : SlotId). (slot_at p y).payload) e ∙ k.2) in
    let rest = subst (λ (y : SlotId). Along p (slot_at p y).second ts) e h.4 in
    let g : ts ≡ us = along_same p (slot_at p k.0).second ts us rest k.4 in
    ap (λ (x : List ℕ). x ∷ ts) f ∙ ap (λ (x : Text). u ∷ x) g

pub reads_same : (p : Plain) (s : SlotId) (a b : Text) → Reads p s a → Reads p s b → a ≡ b
reads_same p s a b x y =
    let e = along_same p (slot_at p s).second x.0 y.0 x.2 y.2 in
    x.1 ∙ (ap (λ (t : Text). (slot_at p s).payload ∷ t) e ∙ sym y.1)

abbrev first_of : Text → List ℕ
first_of [] = []
first_of (t ∷ ts) = t

abbrev pub rest_of : Text → Text
rest_of [] = []
rest_of (t ∷ ts) = ts

pub begins_head : (p : Plain) (s : SlotId) (text : Text) → IsText text → Begins p s text
    → IsHead (slot_at p s).payload
begins_head p s [] is b = absurd is
begins_head p s (t ∷ ts) is b = subst IsHead (ap first_of b.1) is.0

pub begins_own : (p : Plain) (s : SlotId) (text : Text) → IsText text → Begins p s text
    → IsOwn (slot_at p s).payload
begins_own p s text is b = let h = begins_head p s text is b in let a = h.0 in omega arith
