-- How the walk of a text goes on.
use Rattle.std.proofs.Common.{◌≡◌, ◌≢◌, ⊎_elim, ℕ, ◌+◌, ◌-◌, ◌*◌, ◌<◌, ◌≤◌, false, List, sym, ap, subst, ◌∙◌, arith}
use Rattle.std.specs.Prelude.{◌%◌}
use Rattle.std.proofs.Math.Nat.{mul-le-mul_right}
use Rattle.std.proofs.lemmas.Bool.{cases_eq}
use Rattle.cell_calls.specs.Cells.{IsOver, area_of}
use Rattle.cell_calls.specs.Keeping.{Keeps}
use Rattle.cell_calls.specs.cell_law.Cells.{NoRecord}
use Rattle.cell_calls.specs.cell_law.Walks.{SawAll}
use Rattle.cell_calls.specs.cell_law.directory_law.Cells.{on}
use Rattle.cell_calls.specs.cell_law.directory_law.Payloads.{Text}
use Rattle.cell_calls.specs.cell_protocol.declared.law.CellLaw.{CellLaw}
use Rattle.cell_law.specs.declared.view.View.{View}
use Rattle.epoch_domain.specs.plain_protocol.plain_state.declared.slot.SlotId.{SlotId}
use Rattle.epoch_domain.specs.epoch_rule.Views.{object_in}
use Rattle.epoch_domain.specs.Domains.{DomainState}
use Rattle.epoch_domain.specs.Seats.{SeatState}
use Rattle.epoch_refs.specs.Walks.{IsAtRest}
use Rattle.record_texts.specs.Texts.{text_of}
use Rattle.cell_finding.specs.Finding.{ComesToNull, GoesAround, IsFound, IsNullOn, IsOnWalk, IsPast, IsRecordIn}
use Rattle.cell_finding.specs.Looking.{IsFew, OnlyLooks}
use Rattle.cell_finding.specs.Sought.{IsSought}
use Rattle.cell_finding.proofs.Looks.{later_step, looks_none, looks_open, looks_seat, looks_then, looks_wider}
use Rattle.cell_finding.proofs.Past.{past_still}

-- the cell that comes after so many others on the walk of the text
pub cell_is : (d : DomainState CellLaw) (bytes head : List ℕ) (hash passed cell : ℕ) → IsOver d
    → IsSought bytes head hash → cell ≡ (hash + passed) % d.shape.cells
    → cell ≡ on (area_of d.protocol) (text_of bytes) passed
cell_is d bytes head hash passed cell over sought is =
    is
    ∙ (ap (λ (n : ℕ). (hash + passed) % n) (sym over.cells)
    ∙ ap (λ (h : ℕ). (h + passed) % d.protocol.cells) (sym sought.place))

pub walk_begins : (d : DomainState CellLaw) (text : Text) (a : SeatState View)
    → a.view.client.cleared ≡ false → IsOnWalk d text 0 a
walk_begins d text a opened = record {
  is_open = opened;
  few = omega arith;
  walked = λ j low. absurd (omega (arith, low));
}

module _ (d : DomainState CellLaw) (text : Text) (m : ℕ) where
  -- what was passed stays passed
  pub walk_kept : (makes adds : ℕ) (owned : List SlotId) (a b : SeatState View)
      → IsOnWalk d text m a → Keeps makes adds owned a b → SawAll a.view.client b.view.client
      → b.view.client.cleared ≡ false → IsOnWalk d text m b
  walk_kept makes adds owned a b walk keeps saw opened = record {
    is_open = opened;
    few = walk.few;
    walked = λ j low.
        past_still makes adds owned a b text (on (area_of d.protocol) text j) keeps saw
        (walk.walked j low);
  }

  pub walk_still : (n : ℕ) (a b : SeatState View) → OnlyLooks n a b → IsOnWalk d text m a
      → IsOnWalk d text m b
  walk_still n a b looks walk =
      walk_kept 0 0 a.view.core.owned a b walk looks.keeps looks.learns.saw
      (looks_open n a b looks walk.is_open)

  -- one cell more is passed
  pub walk_on : (a : SeatState View) (c : ℕ) → IsOnWalk d text m a → m < d.shape.cells
      → c ≡ on (area_of d.protocol) text m → IsPast a text c → IsOnWalk d text (m + 1) a
  walk_on a c walk more at past = record {
    is_open = walk.is_open;
    few = omega (arith, more);
    walked = λ j low. ⊎_elim
        (λ (e : j ≡ m). subst (IsPast a text) (at ∙ ap (on (area_of d.protocol) text) (sym e)) past)
        (λ (ne : j ≢ m). walk.walked j (omega (arith, low, ne)))
        (cases_eq j m);
  }

  pub null_later : (n : ℕ) (a b c : SeatState View) → OnlyLooks n a b
      → ComesToNull d text m b c → ComesToNull d text m a c
  null_later n a b c looks null = record {
    walk = null.walk;
    null = later_step d (IsNullOn (area_of d.protocol) text m) a b c (looks_seat n a b looks)
        looks.keeps.goes null.null;
    untold = null.untold;
    unseen = null.unseen;
  }

-- what is so where a walk has passed all cells in the last part of a call is so in the call
pub around_later : (d : DomainState CellLaw) (text : Text) (n : ℕ) (a b c : SeatState View)
    → OnlyLooks n a b → GoesAround d text b c → GoesAround d text a c
around_later d text n a b c looks around = record {
  walk = around.walk;
  none = later_step d (λ p. NoRecord (area_of d.protocol) p text) a b c (looks_seat n a b looks)
      looks.keeps.goes around.none;
  untold = around.untold;
  spent = around.spent;
}

-- what is found in the last part of a call is found in the call
pub found_later : (d : DomainState CellLaw) (text : Text) (s : SlotId) (n : ℕ) (a b c : SeatState View)
    → OnlyLooks n a b → IsFound d text s b c → IsFound d text s a c
found_later d text s n a b c looks found = record {
  noted = found.noted;
  seen = found.seen;
  stood = later_step d (IsRecordIn (area_of d.protocol) text s (object_in c.view s).life) a b c
      (looks_seat n a b looks) looks.keeps.goes found.stood;
}

-- THE LOOP. So far the walk has passed these cells, and the seat has only looked: for each cell at most so often
pub record OnTheWay (d : DomainState CellLaw) (text : Text) (most from passed : ℕ)
    (old now : SeatState View) : Type 0 where
  pub walk : IsOnWalk d text passed now
  pub looks : OnlyLooks ((passed - from) * most) old now
  pub rest : IsAtRest d now
  pub behind : from ≤ passed

one_more : (j most : ℕ) → (j + 1) * most ≡ j * most + most
one_more j most = omega arith

no_less : (j k most : ℕ) → j ≤ k → j * most ≤ k * most
no_less j k most le = mul-le-mul_right most le

pub way_begins : (d : DomainState CellLaw) (text : Text) (most from : ℕ) (old : SeatState View)
    → IsOnWalk d text from old → IsAtRest d old → OnTheWay d text most from from old old
way_begins d text most from old walk rest = record {
  walk = walk;
  looks = looks_wider 0 old old (looks_none old) ((from - from) * most) (omega arith);
  rest = rest;
  behind = omega arith;
}

-- one look more, once the walk has come around
pub around_looks : (d : DomainState CellLaw) (text : Text) (most from passed : ℕ)
    (old now new : SeatState View) → OnTheWay d text most from passed old now → OnlyLooks 1 now new
    → OnlyLooks ((d.shape.cells - from) * most + 1) old new
around_looks d text most from passed old now new way looks =
    let few = way.walk.few in
    let less = no_less (passed - from) (d.shape.cells - from) most (omega (arith, few)) in
    looks_then ((passed - from) * most) old now way.looks 1 ((d.shape.cells - from) * most + 1) new
    (omega (arith, less)) looks

module _ (d : DomainState CellLaw) (text : Text) (most from passed : ℕ)
    (old now new : SeatState View) (way : OnTheWay d text most from passed old now)
    (looks : OnlyLooks most now new) where
  pub way_looks : OnlyLooks ((passed + 1 - from) * most) old new
  way_looks =
      let b = way.behind in
      let one' = one_more (passed - from) most in
      let e : passed - from + 1 ≡ passed + 1 - from = omega (arith, b) in
      let f = ap (λ (j : ℕ). j * most) e in
      looks_then ((passed - from) * most) old now way.looks most ((passed + 1 - from) * most) new
      (omega (arith, one', f)) looks

  pub way_goes_on : IsAtRest d new → IsOnWalk d text (passed + 1) new
      → OnTheWay d text most from (passed + 1) old new
  way_goes_on rest walk =
      let b = way.behind in record {
        walk = walk;
        looks = way_looks;
        rest = rest;
        behind = omega (arith, b);
      }

  pub way_few : (cells : ℕ) → passed < cells → IsFew ((cells - from) * most) old new
  way_few cells low =
      let f = way_looks.few in
      let m = no_less (passed + 1 - from) (cells - from) most (omega (arith, low)) in
      omega (arith, f, m)
