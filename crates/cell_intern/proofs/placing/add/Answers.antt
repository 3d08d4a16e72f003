use Rattle.std.proofs.Common.{◌+◌, ◌<◌, inr, List, [], ◌∷◌, ◌++◌, ◌∙◌, ap, length, refl, sym, subst, arith}
use Rattle.std.specs.Int.{div_ceil}
use Rattle.std.specs.Prelude.{Option}
use Rattle.cell_intern.specs.Placing.{IsPlaced, found_then}
use Rattle.cell_making.specs.counted_handles.Handles.{Handle}
use Rattle.cell_making.specs.Making.{candidate_in}
use Rattle.cell_calls.specs.cell_law.directory_law.declared.view.Rope.{Rope}
use Rattle.cell_calls.specs.Keeping.{Keeps}
use Rattle.cell_calls.specs.cell_law.plain_state.declared.slot.SlotId.{SlotId}
use Rattle.cell_calls.specs.cell_law.plain_state.Lists.{times}
use Rattle.cell_making.proofs.Heads.{head_made, made_notes}
use Rattle.epoch_domain.proofs.Below.core_law_Kit.{one_same, times_push}
use Rattle.epoch_refs.specs.epoch_core.core_events.Counts.{one}
use Rattle.epoch_refs.specs.epoch_core.core_events.Views.{without}
use Rattle.epoch_refs.specs.epoch_core.declared.act.EpochAct.TheVariants as act
use Rattle.epoch_refs.specs.epoch_domain.Calls.{IsSameView, Steps, same_view}
use Rattle.epoch_refs.specs.epoch_domain.Seats.{SeatState}
use Rattle.record_texts.specs.Texts.{text_of}
use Rattle.cell_intern.specs.Interning.{Has}
use Rattle.cell_intern.proofs.Added.{copy_owned, found_has, head_copied, left_keeps, placed_has, placed_keeps, placed_why, pushed_more, quiet_copied, unmade_keeps, walk_copied}
use Rattle.cell_intern.proofs.Quiet.{grows_after, grows_before, quiet_notes, quiet_same}
use Rattle.cell_intern.proofs.Untold.{makes_uncopied, makes_unmade, may_on, none_placed, untold_notes, untold_view}
use Rattle.cell_intern.proofs.placing.add.Goals as goal

pub returns-in_default-clause-keeps : goal.returns-in_default-clause-keeps
returns-in_default-clause-keeps g c =
    let d = c.args.domain.now in
    let h = c.in_ok-head.head.slot in
    unmade_keeps d _ (text_of c.args.sought.now.text.now) h _ c.args.seat.now
    c.make_record.new.seat c.in_ok-head.ensures.keeps c.e_drop.ensures.dropped.0 c.e_drop.new.seat
    (subst (λ (x : SeatState _). Steps _ d same_view IsSameView (act.Drop h) x c.e_drop.new.seat
    c.e_drop.ensures.dropped.0) (c.in_default.ensures.refused refl) c.e_drop.ensures.dropped.1)

pub place-requires-clause-walk : goal.place-requires-clause-walk
place-requires-clause-walk g c =
    let text = text_of c.args.sought.now.text.now in
    let d = c.args.domain.now in
    let h = c.in_ok-head.head.slot in
    let n = div_ceil (length c.args.sought.now.text.now) 120 in
    walk_copied d _ text h n c.args.seat.now c.make_record.new.seat c.in_ok-head.ensures.keeps
    c.e_copy.new.seat c.in-Ok.ensures.copied.1 c.args.passed c.requires.walk
    (quiet_notes c.args.seat.now.view.client c.make_record.new.seat.view.client
    (made_notes text n h c.args.seat.now c.make_record.new.seat c.in_ok-head.ensures.made))

pub place-requires-clause-head : goal.place-requires-clause-head
place-requires-clause-head g c =
    let text = text_of c.args.sought.now.text.now in
    let d = c.args.domain.now in
    let h = c.in_ok-head.head.slot in
    let n = div_ceil (length c.args.sought.now.text.now) 120 in
    head_copied d _ text h n c.args.seat.now c.make_record.new.seat c.in_ok-head.ensures.keeps
    c.e_copy.new.seat c.in-Ok.ensures.copied.1
    (head_made text n h c.args.seat.now c.make_record.new.seat c.in_ok-head.ensures.made
    c.in_ok-head.ensures.word)

pub returns-in-Ok-None-clause-keeps : goal.returns-in-Ok-None-clause-keeps
returns-in-Ok-None-clause-keeps g c =
    let text = text_of c.args.sought.now.text.now in
    let d = c.args.domain.now in
    let h = c.in_ok-head.head.slot in
    let n = div_ceil (length c.args.sought.now.text.now) 120 in
    subst (λ (x : SlotId). Keeps n (n + 2) (c.args.seat.now.view.core.owned ++ x ∷ []) c.args.seat.now
    c.place.new.seat) (sym c.in-Ok.ensures.copied.0)
    (placed_keeps d _ text h n c.args.seat.now c.make_record.new.seat c.in_ok-head.ensures.keeps
    c.e_copy.new.seat c.in-Ok.ensures.copied.1 c.place.new.seat (subst (λ (o : Option Handle). Keeps 0 1
    (found_then o (without h c.e_copy.new.seat.view.core.owned)) c.e_copy.new.seat c.place.new.seat)
    c.in-Ok-None.field-0-is c.in-Ok-None.ensures.keeps))

pub returns-in-Ok-None-clause-grows : goal.returns-in-Ok-None-clause-grows
returns-in-Ok-None-clause-grows g c =
    let text = text_of c.args.sought.now.text.now in
    let h = c.in_ok-head.head.slot in
    grows_after text c.args.seat.now.view.client c.e_copy.new.seat.view.client
    c.place.new.seat.view.client
    (quiet_copied c.args.domain.now _ text h _ c.args.seat.now c.make_record.new.seat c.e_copy.new.seat
    c.in_ok-head.ensures.made c.in-Ok.ensures.copied.1) c.in-Ok-None.ensures.grows

pub returns-in-Ok-None-clause-has : goal.returns-in-Ok-None-clause-has
returns-in-Ok-None-clause-has g c =
    let text = text_of c.args.sought.now.text.now in
    let d = c.args.domain.now in
    let h = c.in_ok-head.head.slot in
    subst (λ (x : SlotId). Has text x c.place.new.seat) (sym c.in-Ok.ensures.copied.0)
    (placed_has d _ text h _ c.args.seat.now c.make_record.new.seat c.in_ok-head.ensures.keeps
    c.e_copy.new.seat c.in-Ok.ensures.copied.1 c.place.new.seat (subst (λ (o : Option Handle). Keeps 0 1
    (found_then o (without h c.e_copy.new.seat.view.core.owned)) c.e_copy.new.seat c.place.new.seat)
    c.in-Ok-None.field-0-is c.in-Ok-None.ensures.keeps)
    (subst (λ (o : Option Handle). IsPlaced d text h o c.e_copy.new.seat c.place.new.seat)
    c.in-Ok-None.field-0-is c.in-Ok-None.ensures.placed))

pub e_drop-requires-in-Ok-Some-clause-owned : goal.e_drop-requires-in-Ok-Some-clause-owned
e_drop-requires-in-Ok-Some-clause-owned g c =
    let text = text_of c.args.sought.now.text.now in
    let d = c.args.domain.now in
    let h = c.in_ok-head.head.slot in
    let second : Keeps 0 1 (without h c.e_copy.new.seat.view.core.owned ++ c.in-Ok-Some.found.slot ∷ [])
    c.e_copy.new.seat c.place.new.seat = subst (λ (o : Option Handle). Keeps 0 1
    (found_then o (without h c.e_copy.new.seat.view.core.owned)) c.e_copy.new.seat c.place.new.seat)
    c.in-Ok-Some.field-0-is c.in-Ok-Some.ensures.keeps in
    subst (λ (x : SlotId). 0 < times x c.place.new.seat.view.core.owned) (sym c.in-Ok.ensures.copied.0)
    (copy_owned d _ text h _ c.args.seat.now c.make_record.new.seat c.in_ok-head.ensures.keeps
    c.e_copy.new.seat c.in-Ok.ensures.copied.1 c.place.new.seat
    (without h c.e_copy.new.seat.view.core.owned ++ c.in-Ok-Some.found.slot ∷ []) second
    (pushed_more c.in-Ok-Some.found.slot (without h c.e_copy.new.seat.view.core.owned)))

pub returns-in-Ok-Some-clause-keeps : goal.returns-in-Ok-Some-clause-keeps
returns-in-Ok-Some-clause-keeps g c =
    let text = text_of c.args.sought.now.text.now in
    let d = c.args.domain.now in
    let h = c.in_ok-head.head.slot in
    let second : Keeps 0 1 (without h c.e_copy.new.seat.view.core.owned ++ c.in-Ok-Some.found.slot ∷ [])
    c.e_copy.new.seat c.place.new.seat = subst (λ (o : Option Handle). Keeps 0 1
    (found_then o (without h c.e_copy.new.seat.view.core.owned)) c.e_copy.new.seat c.place.new.seat)
    c.in-Ok-Some.field-0-is c.in-Ok-Some.ensures.keeps in
    let drop = subst (λ (x : SlotId). Steps _ d same_view IsSameView (act.Drop x) c.place.new.seat
    c.e_drop-in-Ok-Some.new.seat c.e_drop-in-Ok-Some.ensures.dropped.0) c.in-Ok.ensures.copied.0
    c.e_drop-in-Ok-Some.ensures.dropped.1 in
    left_keeps d _ text h _ c.args.seat.now c.make_record.new.seat c.in_ok-head.ensures.keeps
    c.e_copy.new.seat c.in-Ok.ensures.copied.1 c.place.new.seat
    (without h c.e_copy.new.seat.view.core.owned ++ c.in-Ok-Some.found.slot ∷ []) second
    (pushed_more c.in-Ok-Some.found.slot (without h c.e_copy.new.seat.view.core.owned))
    _ c.e_drop-in-Ok-Some.new.seat drop
    (λ x. one x c.in-Ok-Some.found.slot)
    (λ x. times_push x c.in-Ok-Some.found.slot (without h c.e_copy.new.seat.view.core.owned))
    (c.args.seat.now.view.core.owned ++ c.in-Ok-Some.found.slot ∷ [])
    (λ x. times_push x c.in-Ok-Some.found.slot c.args.seat.now.view.core.owned)

pub returns-in-Ok-Some-clause-grows : goal.returns-in-Ok-Some-clause-grows
returns-in-Ok-Some-clause-grows g c =
    let text = text_of c.args.sought.now.text.now in
    let d = c.args.domain.now in
    let h = c.in_ok-head.head.slot in
    let quiet = quiet_copied d _ text h _ c.args.seat.now c.make_record.new.seat c.e_copy.new.seat
    c.in_ok-head.ensures.made c.in-Ok.ensures.copied.1 in
    let drop = subst (λ (x : SlotId). Steps _ d same_view IsSameView (act.Drop x) c.place.new.seat
    c.e_drop-in-Ok-Some.new.seat c.e_drop-in-Ok-Some.ensures.dropped.0) c.in-Ok.ensures.copied.0
    c.e_drop-in-Ok-Some.ensures.dropped.1 in
    grows_before text c.args.seat.now.view.client c.place.new.seat.view.client
    c.e_drop-in-Ok-Some.new.seat.view.client
    (grows_after text c.args.seat.now.view.client c.e_copy.new.seat.view.client
    c.place.new.seat.view.client quiet c.in-Ok-Some.ensures.grows)
    (quiet_same c.place.new.seat.view.client c.e_drop-in-Ok-Some.new.seat.view.client drop.told.client)

pub returns-in-Ok-Some-clause-has : goal.returns-in-Ok-Some-clause-has
returns-in-Ok-Some-clause-has g c =
    let text = text_of c.args.sought.now.text.now in
    let d = c.args.domain.now in
    let h = c.in_ok-head.head.slot in
    let second : Keeps 0 1 (without h c.e_copy.new.seat.view.core.owned ++ c.in-Ok-Some.found.slot ∷ [])
    c.e_copy.new.seat c.place.new.seat = subst (λ (o : Option Handle). Keeps 0 1
    (found_then o (without h c.e_copy.new.seat.view.core.owned)) c.e_copy.new.seat c.place.new.seat)
    c.in-Ok-Some.field-0-is c.in-Ok-Some.ensures.keeps in
    let drop = subst (λ (x : SlotId). Steps _ d same_view IsSameView (act.Drop x) c.place.new.seat
    c.e_drop-in-Ok-Some.new.seat c.e_drop-in-Ok-Some.ensures.dropped.0) c.in-Ok.ensures.copied.0
    c.e_drop-in-Ok-Some.ensures.dropped.1 in
    let keeps = returns-in-Ok-Some-clause-keeps g c in
    found_has d _ text h _ c.args.seat.now c.make_record.new.seat c.in_ok-head.ensures.keeps
    c.e_copy.new.seat c.in-Ok.ensures.copied.1 c.place.new.seat
    (without h c.e_copy.new.seat.view.core.owned ++ c.in-Ok-Some.found.slot ∷ []) second
    (pushed_more c.in-Ok-Some.found.slot (without h c.e_copy.new.seat.view.core.owned))
    _ c.e_drop-in-Ok-Some.new.seat drop c.in-Ok-Some.found.slot
    (subst (λ (o : Option Handle). IsPlaced d text h o c.e_copy.new.seat c.place.new.seat)
    c.in-Ok-Some.field-0-is c.in-Ok-Some.ensures.placed).0
    (let k = keeps.owns c.in-Ok-Some.found.slot in
    let p = times_push c.in-Ok-Some.found.slot c.in-Ok-Some.found.slot c.args.seat.now.view.core.owned in
    let o = one_same c.in-Ok-Some.found.slot c.in-Ok-Some.found.slot refl in omega (arith, k, p, o))

pub e_drop-requires-in-Err-clause-owned : goal.e_drop-requires-in-Err-clause-owned
e_drop-requires-in-Err-clause-owned g c =
    let text = text_of c.args.sought.now.text.now in
    let d = c.args.domain.now in
    let h = c.in_ok-head.head.slot in
    let second : Keeps 0 1 (without h c.e_copy.new.seat.view.core.owned)
    c.e_copy.new.seat c.place.new.seat = c.in-Err.ensures.keeps in
    subst (λ (x : SlotId). 0 < times x c.place.new.seat.view.core.owned) (sym c.in-Ok.ensures.copied.0)
    (copy_owned d _ text h _ c.args.seat.now c.make_record.new.seat c.in_ok-head.ensures.keeps
    c.e_copy.new.seat c.in-Ok.ensures.copied.1 c.place.new.seat
    (without h c.e_copy.new.seat.view.core.owned) second (λ x. omega arith))

pub returns-in-Err-clause-keeps : goal.returns-in-Err-clause-keeps
returns-in-Err-clause-keeps g c =
    let text = text_of c.args.sought.now.text.now in
    let d = c.args.domain.now in
    let h = c.in_ok-head.head.slot in
    let second : Keeps 0 1 (without h c.e_copy.new.seat.view.core.owned)
    c.e_copy.new.seat c.place.new.seat = c.in-Err.ensures.keeps in
    let drop = subst (λ (x : SlotId). Steps _ d same_view IsSameView (act.Drop x) c.place.new.seat
    c.e_drop-in-Err.new.seat c.e_drop-in-Err.ensures.dropped.0) c.in-Ok.ensures.copied.0
    c.e_drop-in-Err.ensures.dropped.1 in
    left_keeps d _ text h _ c.args.seat.now c.make_record.new.seat c.in_ok-head.ensures.keeps
    c.e_copy.new.seat c.in-Ok.ensures.copied.1 c.place.new.seat
    (without h c.e_copy.new.seat.view.core.owned) second (λ x. omega arith) _ c.e_drop-in-Err.new.seat drop
    (λ x. 0) (λ x. omega arith) c.args.seat.now.view.core.owned (λ x. omega arith)

pub returns-in-Err-clause-grows : goal.returns-in-Err-clause-grows
returns-in-Err-clause-grows g c =
    let text = text_of c.args.sought.now.text.now in
    let d = c.args.domain.now in
    let h = c.in_ok-head.head.slot in
    let quiet = quiet_copied d _ text h _ c.args.seat.now c.make_record.new.seat c.e_copy.new.seat
    c.in_ok-head.ensures.made c.in-Ok.ensures.copied.1 in
    let drop = subst (λ (x : SlotId). Steps _ d same_view IsSameView (act.Drop x) c.place.new.seat
    c.e_drop-in-Err.new.seat c.e_drop-in-Err.ensures.dropped.0) c.in-Ok.ensures.copied.0
    c.e_drop-in-Err.ensures.dropped.1 in
    grows_before text c.args.seat.now.view.client c.place.new.seat.view.client
    c.e_drop-in-Err.new.seat.view.client
    (grows_after text c.args.seat.now.view.client c.e_copy.new.seat.view.client
    c.place.new.seat.view.client quiet c.in-Err.ensures.grows)
    (quiet_same c.place.new.seat.view.client c.e_drop-in-Err.new.seat.view.client drop.told.client)

pub returns-in-Err-clause-refused : goal.returns-in-Err-clause-refused
returns-in-Err-clause-refused g c =
    let text = text_of c.args.sought.now.text.now in
    let d = c.args.domain.now in
    let h = c.in_ok-head.head.slot in
    let second : Keeps 0 1 (without h c.e_copy.new.seat.view.core.owned)
    c.e_copy.new.seat c.place.new.seat = c.in-Err.ensures.keeps in
    let drop = subst (λ (x : SlotId). Steps _ d same_view IsSameView (act.Drop x) c.place.new.seat
    c.e_drop-in-Err.new.seat c.e_drop-in-Err.ensures.dropped.0) c.in-Ok.ensures.copied.0
    c.e_drop-in-Err.ensures.dropped.1 in
    placed_why d _ text h _ c.args.seat.now c.make_record.new.seat c.in_ok-head.ensures.keeps
    c.e_copy.new.seat c.in-Ok.ensures.copied.1 c.place.new.seat
    (without h c.e_copy.new.seat.view.core.owned) second (λ x. omega arith) _
    c.e_drop-in-Err.new.seat drop c.in-Err.error
    c.in-Err.ensures.refused

-- MAKES
pub returns-in_err-head-clause-makes : goal.returns-in_err-head-clause-makes
returns-in_err-head-clause-makes g c =
    makes_unmade c.args.domain.now (text_of c.args.sought.now.text.now)
    (div_ceil (length c.args.sought.now.text.now) 120) _ c.from_residual.result c.args.seat.now
    c.make_record.new.seat c.from_residual.ensures.1 c.requires.untold
    c.in_err-head.ensures.refused.client c.in_err-head.ensures.fewer

pub place-requires-clause-untold : goal.place-requires-clause-untold
place-requires-clause-untold g c =
    let text = text_of c.args.sought.now.text.now in
    let h = c.in_ok-head.head.slot in
    untold_view text c.make_record.new.seat.view.client c.e_copy.new.seat.view.client
    c.in-Ok.ensures.copied.1.told.client
    (untold_notes text c.args.seat.now.view.client c.make_record.new.seat.view.client
    (made_notes text _ h c.args.seat.now c.make_record.new.seat c.in_ok-head.ensures.made)
    c.requires.untold)

pub place-requires-clause-granted : goal.place-requires-clause-granted
place-requires-clause-granted g c =
    let text = text_of c.args.sought.now.text.now in
    let d = c.args.domain.now in
    let h = c.in_ok-head.head.slot in
    let quiet = quiet_copied d _ text h _ c.args.seat.now c.make_record.new.seat c.e_copy.new.seat
    c.in_ok-head.ensures.made c.in-Ok.ensures.copied.1 in
    may_on c.args.seat.now.view.client c.e_copy.new.seat.view.client quiet c.requires.granted

pub returns-in_default-clause-makes : goal.returns-in_default-clause-makes
returns-in_default-clause-makes g c =
    let text = text_of c.args.sought.now.text.now in
    let n = div_ceil (length c.args.sought.now.text.now) 120 in
    makes_uncopied c.args.domain.now text n c.args.seat.now c.make_record.new.seat c.e_drop.new.seat
    (made_notes text n c.in_ok-head.head.slot c.args.seat.now c.make_record.new.seat
    c.in_ok-head.ensures.made) (c.e_drop.ensures.dropped.1.told.client
    ∙ ap (λ s. s.view.client) (c.in_default.ensures.refused refl)) c.requires.untold

pub returns-in-Ok-None-clause-makes : goal.returns-in-Ok-None-clause-makes
returns-in-Ok-None-clause-makes g c alone =
    let text = text_of c.args.sought.now.text.now in
    let d = c.args.domain.now in
    let h = c.in_ok-head.head.slot in
    let quiet = quiet_copied d _ text h _ c.args.seat.now c.make_record.new.seat c.e_copy.new.seat
    c.in_ok-head.ensures.made c.in-Ok.ensures.copied.1 in
    let placed = subst (λ (o : Option Handle). IsPlaced d text h o c.e_copy.new.seat c.place.new.seat)
    c.in-Ok-None.field-0-is c.in-Ok-None.ensures.placed in
    inr (
      candidate_in h text c.e_copy.new.seat,
      refl,
      placed
          ∙ ap (λ (es : List Rope). candidate_in h text c.e_copy.new.seat ∷ es) quiet.bound,
    )

pub returns-in-Ok-Some-clause-makes : goal.returns-in-Ok-Some-clause-makes
returns-in-Ok-Some-clause-makes g c alone =
    let text = text_of c.args.sought.now.text.now in
    let d = c.args.domain.now in
    let h = c.in_ok-head.head.slot in
    let quiet = quiet_copied d _ text h _ c.args.seat.now c.make_record.new.seat c.e_copy.new.seat
    c.in_ok-head.ensures.made c.in-Ok.ensures.copied.1 in
    absurd ((subst (λ (o : Option Handle). IsPlaced d text h o c.e_copy.new.seat c.place.new.seat)
    c.in-Ok-Some.field-0-is c.in-Ok-Some.ensures.placed).1 (quiet.grant ∙ alone))

pub returns-in-Err-clause-makes : goal.returns-in-Err-clause-makes
returns-in-Err-clause-makes g c =
    let text = text_of c.args.sought.now.text.now in
    let d = c.args.domain.now in
    let h = c.in_ok-head.head.slot in
    let n = div_ceil (length c.args.sought.now.text.now) 120 in
    let quiet = quiet_copied d _ text h n c.args.seat.now c.make_record.new.seat c.e_copy.new.seat
    c.in_ok-head.ensures.made c.in-Ok.ensures.copied.1 in
    none_placed d text n c.in-Err.error c.args.seat.now c.e_copy.new.seat c.place.new.seat
    c.e_drop-in-Err.new.seat quiet c.e_drop-in-Err.ensures.dropped.1.told.client
    c.in-Err.ensures.unplaced
