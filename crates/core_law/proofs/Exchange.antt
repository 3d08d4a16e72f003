-- What an exchange of a place changes in the lists of its seat.
use Rattle.std.proofs.Common.{◌≡◌, ◌≢◌, ℕ, ◌+◌, ◌-◌, ◌≤◌, Bool, true, false, List, [], ◌∷◌, length, refl, ap, sym, ◌∙◌, arith, length-append}
use Rattle.std.specs.Prelude.{◌==◌, if◌then◌else◌, Option, Some, None}
use Rattle.std.proofs.lemmas.Bool.Decides.{nat_tests}
use Rattle.core_events.specs.plain_state.declared.slot.Kind.{Kind}
use Rattle.core_events.specs.plain_state.declared.slot.Kind.TheVariants.{Strong, Weak, Disposal}
use Rattle.core_events.specs.plain_state.declared.slot.SlotId.{SlotId}
use Rattle.core_events.specs.plain_state.Lists.{Entry, entry_times}
use Rattle.core_events.specs.plain_state.Steps.{word_of, joined}
use Rattle.core_events.specs.declared.view.CoreView.{CoreView}
use Rattle.core_events.specs.declared.view.Move.{Move}
use Rattle.core_events.specs.Words.{slot_in}
use Rattle.core_events.specs.Steps.{CanGive, without_given, exchanged}
use Rattle.core_events.specs.Counts.{one, in_word, listed}
use Rattle.core_law.proofs.Kit.{kind_one, times_without, entry_push, in_word_slot, in_word_null}
use Rattle.core_law.proofs.Counters.{kind_none}

pub in_word_other : (s : SlotId) (w : ℕ) → w ≢ s.0 + 1 → in_word s w ≡ 0
unfolding in_word
in_word_other s w ne = grind (arith, nat_tests)

-- what was in the place joins the retired entries
pub joined_times : (k kind : Kind) (x : SlotId) (w : ℕ) (es : List Entry)
    → entry_times k x (joined kind (slot_in w) es) ≡ entry_times k x es
    + kind_one k kind (in_word x w)
joined_times k kind x w es = go (w == 0) refl
  where
    go : (b : Bool) → (w == 0) ≡ b
        → entry_times k x (joined kind (if b then None else Some (record { 0 = w - 1 })) es)
        ≡ entry_times k x es + kind_one k kind (in_word x w)
    go true is =
        let null : w ≡ 0 = grind (arith, nat_tests) in
        let i : in_word x w ≡ 0 = ap (in_word x) null ∙ in_word_null x in
        let j = ap (kind_one k kind) i in
        let m = kind_none k kind in omega arith
    go false is =
        let some' : w ≢ 0 = grind (arith, nat_tests) in
        let s : SlotId = record { 0 = w - 1 } in
        let e = entry_push k x es (kind, s) in
        let same : w - 1 + 1 ≡ w = omega arith in
        let i : in_word x w ≡ one x s = ap (in_word x) (sym same) ∙ in_word_slot x s in
        let j = ap (kind_one k kind) i in omega arith

pub joined_length : (kind : Kind) (old : Option SlotId) (es : List Entry)
    → length (joined kind old es) ≤ length es + 1
joined_length kind None es = omega arith
joined_length kind (Some s) es = let l = length-append es ((kind, s) ∷ []) in omega arith

-- what the seat gives it has no more
pub given_listed : (k kind : Kind) (new : Option SlotId) (x : SlotId) (v : CoreView)
    → CanGive kind new v
    → listed k x (without_given kind new v) + kind_one k kind (in_word x (word_of new))
    ≡ listed k x v
given_listed k kind new x v can = grind (arith, times_without, in_word_slot, in_word_null)

-- what an exchange leaves of a view
pub record SameBut (v u : CoreView) : Type 0 where
  pub seat : u.seat ≡ v.seat
  pub shape : u.shape ≡ v.shape
  pub quota : u.quota ≡ v.quota
  pub grants : u.grants ≡ v.grants
  pub tickets : u.tickets ≡ v.tickets
  pub left_seats : u.left_seats ≡ v.left_seats
  pub ripe : u.ripe ≡ v.ripe
  pub made : u.made ≡ v.made
  pub notes : u.notes ≡ v.notes
  pub owed : u.owed ≡ v.owed
  pub dying : u.dying ≡ v.dying
  pub phase : u.phase ≡ v.phase
  pub seen : u.seen ≡ v.seen
  pub adds : u.adds ≡ v.adds
  pub makes : u.makes ≡ v.makes
  pub room : u.room ≡ v.room
  pub left : u.left ≡ v.left

pub same_but : (kind : Kind) (new : Option SlotId) (w : ℕ) (v : CoreView) (t : List Move)
    → SameBut v (record (exchanged kind new w v) { trail = t })
same_but kind None w v t = assumption
same_but Strong (Some s) w v t = assumption
same_but Weak (Some s) w v t = assumption
same_but Disposal (Some s) w v t = assumption

-- what an exchange does to the references that the seat has listed
pub exchanged_listed : (k kind : Kind) (new : Option SlotId) (w : ℕ) (x : SlotId) (v : CoreView)
    (t : List Move)
    → CanGive kind new v
    → listed k x (record (exchanged kind new w v) { trail = t })
    + kind_one k kind (in_word x (word_of new))
    ≡ listed k x v + kind_one k kind (in_word x w)
exchanged_listed k kind new w x v t can =
    let g = given_listed k kind new x v can in
    let j = joined_times k kind x w v.retired in grind arith

pub exchanged_retired : (kind : Kind) (new : Option SlotId) (w : ℕ) (v : CoreView) (t : List Move)
    → (record (exchanged kind new w v) { trail = t }).retired ≡ joined kind (slot_in w) v.retired
exchanged_retired kind None w v t = refl
exchanged_retired Strong (Some s) w v t = refl
exchanged_retired Weak (Some s) w v t = refl
exchanged_retired Disposal (Some s) w v t = refl
