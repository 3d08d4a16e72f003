-- What a refusal tells of an earlier state, or after more was given up, or of the node over a subtree.
use Rattle.std.proofs.Common.{◌≡◌, ℕ, suc, ◌≤◌, refl, arith}
use Rattle.std.specs.Prelude.{Option, Some, None}
use Rattle.map_law.specs.plain_state.declared.slot.SlotId.{SlotId}
use Rattle.map_law.specs.declared.view.View.{View}
use Rattle.map_law.specs.Patterns.{Pattern, Spells, branch, hole, null}
use Rattle.map_law.proofs.Kit.{none_some}
use Rattle.slot_store.specs.counted_handles.Handles.{Handle}
use Rattle.slot_store.specs.acquire_retire.Domains.{DomainState}
use Rattle.slot_store.specs.acquire_retire.Seats.{SeatState}
use Rattle.slot_store.specs.declared.making.MakeError.{MakeError}
use Rattle.version_making.specs.Building.{IsWhy}
use Rattle.version_making.specs.Keeping.{GoesOn, Grows, Keeps, none}
use Rattle.version_making.specs.Opening.{IsTaken}
use Rattle.version_making.specs.Standing.{IsTree, kid_by}
use Rattle.version_making.proofs.Dropped.{why_on}
use Rattle.version_making.proofs.Keeping.{goes_none, keeps_none}
use Rattle.version_making.proofs.Standing.{spells_on}
use Rattle.version_making.proofs.Subtrees.{rough, rough_stands}
use Rattle.version_changes.specs.Changing.{IsRefusal}
use Rattle.version_changes.specs.Showing.{IsLonger, most_nodes}
use Rattle.version_changes.specs.declared.outcome.ChangeError.{ChangeError}
use Rattle.version_changes.specs.declared.outcome.ChangeError.TheVariants as error

pub why_before : {P : Type 0} (d : DomainState P) (why : MakeError) (a b c : SeatState View)
    → GoesOn a.view.core b.view.core → IsWhy d why b c → IsWhy d why a c
why_before d why a b c goes = why_on d why none none a b c c goes (keeps_none c)

pub refusal_on : {P : Type 0} (d : DomainState P) (why : ChangeError) (tree : Option Handle)
    (levels : ℕ) (given gained : SlotId → ℕ) (a b c : SeatState View) → Keeps 0 0 given gained b c
    → IsRefusal d why tree levels a b → IsRefusal d why tree levels a c
refusal_on d (error.Refused why) tree levels given gained a b c keeps is =
    why_on d why given gained a a b c (goes_none a.view.core a.view.core refl) keeps is
refusal_on d error.TooLong tree levels given gained a b c keeps is = record {
  pattern = is.pattern;
  spells = spells_on b.view.client c.view.client keeps.grows (kid_by tree a) is.pattern is.spells;
  longer = is.longer;
}

-- of null the notes spell no node
null_nodes : (v : View) (p : Pattern) → Spells v None p → most_nodes p ≡ 0
null_nodes v null spells = refl
null_nodes v (hole s h) spells = absurd (none_some spells.0 spells.1)
null_nodes v (branch k d h l r) spells = absurd (none_some spells.0 spells.1)

pub null_refused : {P : Type 0} (d : DomainState P) (why : ChangeError) (levels : ℕ)
    (a b : SeatState View) → IsRefusal d why None 0 a b → IsRefusal d why None levels a b
null_refused d (error.Refused why) levels a b is = is
null_refused d error.TooLong levels a b is =
    let none' = null_nodes b.view.client is.pattern is.spells in
    let more = is.longer in absurd (omega (arith, none', more))

-- no level is left
pub too_long : (node : Handle) (s0 s1 : SeatState View) (given gained : SlotId → ℕ)
    → Keeps 0 0 given gained s0 s1 → IsTree (Some node) s0 → IsLonger (Some node) 0 s0 s1
too_long node s0 s1 given gained keeps tree = record {
  pattern = rough (Some node) s0;
  spells = spells_on s0.view.client s1.view.client keeps.grows (kid_by (Some node) s0)
      (rough (Some node) s0) (rough_stands (Some node) s0 tree).spells;
  longer = omega arith;
}

-- A NODE was opened, and the change of one of its subtrees refused
module _ (node : Handle) (key value height : ℕ) (left right : Option Handle) (s0 s1 s2 : SeatState View)
    (taken : IsTaken node key value height left right s0 s1)
    (goes : GoesOn s0.view.core s1.view.core) (grows : Grows s1.view.client s2.view.client)
    (levels below : ℕ) (is : levels ≤ suc below) where
  longer_left : IsLonger left below s1 s2 → IsLonger (Some node) levels s0 s2
  longer_left l = let more = l.longer in record {
    pattern = branch key value height l.pattern (rough right s1);
    spells = taken.over s2.view.client grows l.pattern (rough right s1) l.spells
        (spells_on s1.view.client s2.view.client grows (kid_by right s1) (rough right s1)
        (rough_stands right s1 taken.right_tree).spells);
    longer = omega (arith, more, is);
  }

  longer_right : IsLonger right below s1 s2 → IsLonger (Some node) levels s0 s2
  longer_right l = let more = l.longer in record {
    pattern = branch key value height (rough left s1) l.pattern;
    spells = taken.over s2.view.client grows (rough left s1) l.pattern
        (spells_on s1.view.client s2.view.client grows (kid_by left s1) (rough left s1)
        (rough_stands left s1 taken.left_tree).spells) l.spells;
    longer = omega (arith, more, is);
  }

  pub left_refused : {P : Type 0} (d : DomainState P) (why : ChangeError)
      → IsRefusal d why left below s1 s2 → IsRefusal d why (Some node) levels s0 s2
  left_refused d (error.Refused why) w = why_before d why s0 s1 s2 goes w
  left_refused d error.TooLong l = longer_left l

  pub right_refused : {P : Type 0} (d : DomainState P) (why : ChangeError)
      → IsRefusal d why right below s1 s2 → IsRefusal d why (Some node) levels s0 s2
  right_refused d (error.Refused why) w = why_before d why s0 s1 s2 goes w
  right_refused d error.TooLong l = longer_right l
