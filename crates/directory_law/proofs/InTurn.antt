-- The deeds that make a record follow one another.
use Rattle.std.proofs.Common.{◌≡◌, ℕ, ◌+◌, ◌<◌, List, [], ◌∷◌, refl, ap, sym, ◌∙◌, arith}
use Rattle.std.specs.Prelude.{Some, None}
use Rattle.plain_protocol.specs.plain_state.declared.act.EventPlace.TheVariants.{Field, WeakCell}
use Rattle.plain_protocol.specs.plain_state.declared.act.PlainAct.{PlainAct}
use Rattle.plain_protocol.specs.plain_state.declared.act.PlainAct.TheVariants as act
use Rattle.plain_protocol.specs.plain_state.declared.slot.SlotId.{SlotId}
use Rattle.plain_protocol.specs.plain_state.Lists.{times}
use Rattle.plain_protocol.specs.Owns.{OwnPart}
use Rattle.directory_law.specs.Payloads.{IsPart, IsText}
use Rattle.directory_law.specs.Views.{Rope, View, rope, without}
use Rattle.directory_law.specs.Cells.{Area, on}
use Rattle.directory_law.specs.Steps.{life_in, payload_in}
use Rattle.directory_law.specs.Making.{alone, make_next, LinkReady, linked, link_next, BindReady}

-- r is made, then s, and the seat still has what it then had of them
module _ (v : View) (r s : SlotId) (first second third fourth own : OwnPart)
    (same_r : alone second r ≡ alone own r)
    (same_s : alone fourth s ≡ alone own s) where
  both : View
  both = make_next third fourth (make_next first second v (act.Make r) 0) (act.Make s) 0

  both_noted : both.noted ≡ alone own s ∷ alone own r ∷ v.noted
  unfolding both
  both_noted = ap (λ (e : Rope). e ∷ alone second r ∷ v.noted) same_s
      ∙ ap (λ (e : Rope). alone own s ∷ e ∷ v.noted) same_r

  pub link_follows : 0 < times s own.seat.owned → 0 < times r own.seat.owned
      → IsPart (payload_in own r)
      → LinkReady own (make_next third fourth (make_next first second v (act.Make r) 0) (act.Make s)
      0) (act.Replace (Field s 1) (Some r))
  unfolding both
  link_follows owned part_owned is_part = record {
    slot = s;
    part = r;
    act_is = refl;
    owned = owned;
    part_owned = part_owned;
    is_part = is_part;
    text = payload_in own r ∷ [];
    others = v.noted;
    noted = both_noted;
  }

-- then s has the text of both, and can be bound in a cell at its text's place
pub bind_follows : (z : Area) (v : View) (r s : SlotId) (own after later : OwnPart)
    (step : PlainAct) (es : List Rope)
    → v.noted ≡ alone own s ∷ alone own r ∷ es → life_in later s ≡ life_in own s
    → 0 < times s later.seat.owned
    → 0 < z.cells → v.used < v.quota → IsText (payload_in own s ∷ payload_in own r ∷ [])
    → BindReady z later (link_next own after v step 0)
    (act.TryReplace (WeakCell (z.first + on z (payload_in own s ∷ payload_in own r ∷ []) 0)) None
    (Some s))
bind_follows z v r s own after later step es noted life owned some_cells spare is = record {
  slot = s;
  text = payload_in own s ∷ payload_in own r ∷ [];
  passed = 0;
  act_is = refl;
  some_cells = some_cells;
  owned = owned;
  is_text = is;
  walked = λ j h. absurd (omega arith);
  spare = spare;
  others = without r (life_in own r) (alone own r ∷ es);
  noted = ap linked noted ∙ ap (λ (l : ℕ).
      rope s l (payload_in own s ∷ payload_in own r ∷ []) ∷ without r (life_in own r)
      (alone own r ∷ es)) (sym life);
}
