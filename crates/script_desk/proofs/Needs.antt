-- What it means that names are bound to what they must be.
use Rattle.std.proofs.Common.{◌≡◌, inl, ℕ, Bool, true, false, List, [], ◌∷◌, ◌++◌, refl, sym, ◌∙◌, subst, arith, Option, Some, None, IsSomeAnd}
use Rattle.std.proofs.lemmas.List.Elements.{All-nil, All-head, All-tail, All-cons}
use Rattle.std.specs.List.{Any}
use Rattle.plain_audit.specs.plain_state.declared.slot.SlotId.{SlotId}
use Rattle.plain_audit.specs.plain_state.Places.{HoldsStrongly}
use Rattle.plain_audit.specs.plain_state.State.{Plain, seat_at}
use Rattle.script_lines.specs.declared.command.Command.{Command}
use Rattle.script_desk.proofs.Anys.{any_head, any_tail}
use Rattle.script_desk.specs.declared.handle.Handle.{Handle}
use Rattle.script_desk.specs.declared.handle.Handle.TheVariants.{Strong, Weak, Snapshot}
use Rattle.plain_audit.specs.plain_state.declared.act.EventPlace.{EventPlace}
use Rattle.plain_audit.specs.plain_state.Places.{IsOpen}
use Rattle.script_lines.specs.declared.command.TextPlace.{TextPlace}
use Rattle.script_lines.specs.declared.command.TextPlace.TheVariants as text
use Rattle.script_desk.specs.Desks.{Desk, Names, Scope, bound, scope_of}
use Rattle.script_desk.specs.Effects.{IsPlace}
use Rattle.script_desk.specs.Faults.{Need, needs, IsMissing, IsOther, IsFaultless, IsPlaceInRange, place_needs}
use Rattle.script_desk.specs.Handles.{slot_of, is_firm, is_any}
use Rattle.script_desk.specs.Holding.{HasHandle}
use Rattle.script_desk.specs.Places.{AreMet, IsBoundTo}

-- a handle of some kind is a handle
pub any_of : (o : Option Handle) (kind : Handle → Bool) → IsSomeAnd o (λ h. kind h ≡ true) → IsSomeAnd o (λ h. is_any h ≡ true)
any_of None kind b = b
any_of (Some h) kind b = refl

-- and it is the one that is there
pub kind_of : (o : Option Handle) (kind : Handle → Bool) (h : Handle) → IsSomeAnd o (λ h. kind h ≡ true) → o ≡ Some h → kind h ≡ true
kind_of o kind h b e = let P : Option Handle → Type 0 = λ p. IsSomeAnd p (λ x. kind x ≡ true) in subst P e b

-- kinds that say the same
pub bound_so : (o : Option Handle) (kind other : Handle → Bool) → ((h : Handle) → kind h ≡ other h) → IsSomeAnd o (λ h. kind h ≡ true) → IsSomeAnd o (λ h. other h ≡ true)
bound_so None kind other same b = b
bound_so (Some h) kind other same b = sym (same h) ∙ b

pub first_met : (names : Names) (name : List ℕ) (kind : Handle → Bool) (rest : List Need) → AreMet names ((name, kind) ∷ rest) → IsBoundTo names name kind
first_met names name kind rest met = All-head (λ (need : Need). IsBoundTo names need.0 need.1) (name, kind) rest met

pub first_any : (names : Names) (name : List ℕ) (kind : Handle → Bool) (rest : List Need) → AreMet names ((name, kind) ∷ rest) → IsBoundTo names name is_any
first_any names name kind rest met = any_of (bound names name) kind (first_met names name kind rest met)

-- what keeps its object alive holds it strongly
pub holds_firmly : (p : Plain) (h : Handle) → is_firm h ≡ true → HasHandle p h → HoldsStrongly (seat_at p 0) (slot_of h)
holds_firmly p (Strong s) firm has = omega arith
holds_firmly p (Weak s) firm has = cc
holds_firmly p (Snapshot (s, true)) firm has = omega arith
holds_firmly p (Snapshot (s, false)) firm has = omega arith

-- the slot of a field's object, which is found by its name
pub owner_holds : (d : Desk) (name : List ℕ) (s : SlotId) → AreMet d.names ((name, is_firm) ∷ [])
    → (h : Handle) × (bound d.names name ≡ Some h) × (s ≡ slot_of h) × HasHandle d.plain h → HoldsStrongly (seat_at d.plain 0) s
owner_holds d name s met (h, e, f, has) =
    subst (HoldsStrongly (seat_at d.plain 0)) (sym f)
    (holds_firmly d.plain h (kind_of (bound d.names name) is_firm h (first_met d.names name is_firm [] met) e) has)

-- the needs of one part of a command, and of another
pub met_left : (names : Names) (xs ys : List Need) → AreMet names (xs ++ ys) → AreMet names xs
met_left names [] ys met = All-nil (λ (need : Need). IsBoundTo names need.0 need.1)
met_left names (x ∷ xs) ys met =
    let P : Need → Type 0 = λ need. IsBoundTo names need.0 need.1 in
    All-cons P x xs (All-head P x (xs ++ ys) met) (met_left names xs ys (All-tail P x (xs ++ ys) met))

pub met_right : (names : Names) (xs ys : List Need) → AreMet names (xs ++ ys) → AreMet names ys
met_right names [] ys met = met
met_right names (x ∷ xs) ys met = met_right names xs ys (All-tail (λ (need : Need). IsBoundTo names need.0 need.1) x (xs ++ ys) met)

-- neither missing nor of another kind
bound_to : (o : Option Handle) (kind : Handle → Bool) → (o ≡ None → ⊥) → (IsSomeAnd o (λ h. kind h ≡ false) → ⊥) → IsSomeAnd o (λ h. kind h ≡ true)
bound_to None kind there same = there refl
bound_to (Some h) kind there same = of (kind h) refl
  where
    of : (b : Bool) → kind h ≡ b → kind h ≡ true
    of true e = e
    of false e = absurd (same e)

met_all : (names : Names) (needs : List Need) → (Any (IsMissing names) needs → ⊥) → (Any (IsOther names) needs → ⊥) → AreMet names needs
met_all names [] there kinds = All-nil (λ (need : Need). IsBoundTo names need.0 need.1)
met_all names (x ∷ xs) there kinds =
    All-cons (λ (need : Need). IsBoundTo names need.0 need.1) x xs
    (bound_to (bound names x.0) x.1 (λ e. there (any_head (IsMissing names) x xs e)) (λ e. kinds (any_head (IsOther names) x xs e)))
    (met_all names xs (λ a. there (any_tail (IsMissing names) x xs a)) (λ a. kinds (any_tail (IsOther names) x xs a)))

-- the needs of a command with which nothing is wrong
pub faultless_met : (x : Scope) (c : Command) → IsFaultless x c → AreMet x.names (needs c)
faultless_met x c f = met_all x.names (needs c) (λ a. f.names (inl a)) (λ a. f.kinds (inl a))

-- the places of the words are open to the seat that has what the names are bound to
pub open_place : (d : Desk) (place : TextPlace) (at : EventPlace)
    → ((name : List ℕ) (h : Handle) → bound d.names name ≡ Some h → HasHandle d.plain h)
    → IsPlaceInRange (scope_of d).sizes place → AreMet d.names (place_needs place)
    → IsPlace d.names place at → IsOpen d.plain 0 at
open_place d (text.Cell i) at has range met is = subst (IsOpen d.plain 0) (sym is) range
open_place d (text.WeakCell i) at has range met is = subst (IsOpen d.plain 0) (sym is) range
open_place d (text.Field name i) at has range met (h, e, is) =
    subst (IsOpen d.plain 0) (sym is) (
      range,
      holds_firmly d.plain h
          (kind_of (bound d.names name) is_firm h (first_met d.names name is_firm [] met) e)
          (has name h e),
    )
open_place d (text.WeakField name) at has range met (h, e, is) =
    subst (IsOpen d.plain 0) (sym is)
    (holds_firmly d.plain h
    (kind_of (bound d.names name) is_firm h (first_met d.names name is_firm [] met) e) (has name h e))
