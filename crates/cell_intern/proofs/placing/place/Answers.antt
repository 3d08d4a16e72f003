use Rattle.std.proofs.Common.{◌+◌, ◌%◌, [], ◌∷◌, ◌++◌, refl, ap, sym, ◌∙◌, subst}
use Rattle.cell_making.specs.counted_handles.Handles.{Handle}
use Rattle.cell_calls.specs.cell_law.declared.view.View.{View}
use Rattle.cell_calls.specs.cell_law.plain_state.declared.slot.SlotId.{SlotId}
use Rattle.cell_calls.specs.Keeping.{Keeps}
use Rattle.epoch_refs.specs.epoch_core.core_events.Views.{without}
use Rattle.cell_intern.specs.Interning.{Has}
use Rattle.cell_finding.proofs.Walking.{cell_is}
use Rattle.cell_making.specs.Bindings.{IsAnothers, IsBack}
use Rattle.cell_calls.specs.cell_law.Views.{Unseen}
use Rattle.cell_making.specs.declared.refusals.BindError.{BindError}
use Rattle.epoch_refs.specs.epoch_core.declared.act.EpochAct.TheVariants as act
use Rattle.epoch_refs.specs.epoch_core.declared.shape.EpochShape.{EpochShape}
use Rattle.epoch_refs.specs.epoch_domain.Calls.{IsSameView, Steps, same_view}
use Rattle.epoch_refs.specs.epoch_domain.Seats.{SeatState}
use Rattle.record_texts.specs.Texts.{text_of}
use Rattle.cell_intern.proofs.Handed.{bind_by, dropped_by, kept_by, owned_either}
use Rattle.cell_intern.proofs.Placed.{found_on, grows_found, grows_given, grows_ok, has_found, keeps_found, keeps_given, keeps_ok, lost_on, not_around, not_own, null_on, placed_ok, same_on}
use Rattle.cell_intern.proofs.Untold.{untold_view}
use Rattle.cell_intern.proofs.placing.place.Goals as goal

pub bind-requires-clause-can : goal.bind-requires-clause-can
bind-requires-clause-can g c =
    let text = text_of c.args.sought.now.text.now in
    let d = c.args.domain.now in
    let s = c.args.candidate.slot in
    let same = ap (λ (h : Handle). h.slot) c.loop-try.invariant.1 in
    let so = null_on d text s c.loop-try.passed c.in-Null.further c.args.seat.now c.loop-try.seat
    c.seek.new.seat c.loop-try.invariant.0 c.in-Null.ensures.keeps c.in-Null.ensures.learns
    c.in-Null.ensures.rest c.in-Null.ensures.ends.2 in
    bind_by d text c.loop-try.head.slot s same c.in-Null.further c.args.seat.now c.seek.new.seat
    c.cell_on-cell.result so
    (cell_is d c.args.sought.now.text.now c.args.sought.now.head c.args.sought.now.hash
    c.in-Null.further c.cell_on-cell.result c.requires.region.over c.requires.sought
    (c.cell_on-cell.ensures.cell
    ∙ ap (λ (z : EpochShape). (c.args.sought.now.hash + c.in-Null.further) % z.cells) c.shape.ensures))

pub bind-requires-clause-granted : goal.bind-requires-clause-granted
bind-requires-clause-granted g c =
    (null_on c.args.domain.now (text_of c.args.sought.now.text.now) c.args.candidate.slot
    c.loop-try.passed c.in-Null.further c.args.seat.now c.loop-try.seat c.seek.new.seat
    c.loop-try.invariant.0 c.in-Null.ensures.keeps c.in-Null.ensures.learns c.in-Null.ensures.rest
    c.in-Null.ensures.ends.2).may

pub returns-in-Ok-clause-placed : goal.returns-in-Ok-clause-placed
returns-in-Ok-clause-placed g c =
    let text = text_of c.args.sought.now.text.now in
    let d = c.args.domain.now in
    let s = c.args.candidate.slot in
    let same = ap (λ (h : Handle). h.slot) c.loop-try.invariant.1 in
    let so = null_on d text s c.loop-try.passed c.in-Null.further c.args.seat.now c.loop-try.seat
    c.seek.new.seat c.loop-try.invariant.0 c.in-Null.ensures.keeps c.in-Null.ensures.learns
    c.in-Null.ensures.rest c.in-Null.ensures.ends.2 in
    placed_ok d text s c.in-Null.further c.args.seat.now c.seek.new.seat c.bind.new.seat so
    c.requires.head.owned c.cell_on-cell.result c.in-Ok.ensures.bound
    (kept_by d text c.loop-try.head.slot s same c.seek.new.seat c.bind.new.seat c.in-Ok.ensures.keeps)
    c.in-Ok.ensures.rest

pub returns-in-Ok-clause-grows : goal.returns-in-Ok-clause-grows
returns-in-Ok-clause-grows g c =
    let text = text_of c.args.sought.now.text.now in
    let d = c.args.domain.now in
    let s = c.args.candidate.slot in
    let same = ap (λ (h : Handle). h.slot) c.loop-try.invariant.1 in
    let so = null_on d text s c.loop-try.passed c.in-Null.further c.args.seat.now c.loop-try.seat
    c.seek.new.seat c.loop-try.invariant.0 c.in-Null.ensures.keeps c.in-Null.ensures.learns
    c.in-Null.ensures.rest c.in-Null.ensures.ends.2 in
    grows_ok d text s c.in-Null.further c.args.seat.now c.seek.new.seat c.bind.new.seat so
    c.requires.head.owned c.cell_on-cell.result c.in-Ok.ensures.bound
    (kept_by d text c.loop-try.head.slot s same c.seek.new.seat c.bind.new.seat c.in-Ok.ensures.keeps)
    c.in-Ok.ensures.rest

pub returns-in-Ok-clause-keeps : goal.returns-in-Ok-clause-keeps
returns-in-Ok-clause-keeps g c =
    let text = text_of c.args.sought.now.text.now in
    let d = c.args.domain.now in
    let s = c.args.candidate.slot in
    let same = ap (λ (h : Handle). h.slot) c.loop-try.invariant.1 in
    let so = null_on d text s c.loop-try.passed c.in-Null.further c.args.seat.now c.loop-try.seat
    c.seek.new.seat c.loop-try.invariant.0 c.in-Null.ensures.keeps c.in-Null.ensures.learns
    c.in-Null.ensures.rest c.in-Null.ensures.ends.2 in
    keeps_ok d text s c.in-Null.further c.args.seat.now c.seek.new.seat c.bind.new.seat so
    c.requires.head.owned c.cell_on-cell.result c.in-Ok.ensures.bound
    (kept_by d text c.loop-try.head.slot s same c.seek.new.seat c.bind.new.seat c.in-Ok.ensures.keeps)
    c.in-Ok.ensures.rest

pub loop-try-preserved : goal.loop-try-preserved
loop-try-preserved g c =
    let text = text_of c.args.sought.now.text.now in
    let d = c.args.domain.now in
    let s = c.args.candidate.slot in
    let same = ap (λ (h : Handle). h.slot) c.loop-try.invariant.1 in
    let so = null_on d text s c.loop-try.passed c.in-Null.further c.args.seat.now c.loop-try.seat
    c.seek.new.seat c.loop-try.invariant.0 c.in-Null.ensures.keeps c.in-Null.ensures.learns
    c.in-Null.ensures.rest c.in-Null.ensures.ends.2 in
    let lost = subst (λ (e : BindError). IsBack c.cell_on-cell.result c.loop-try.head e
    c.seek.new.seat.view.client c.bind.new.seat.view.client) c.in-Err-Lost.field-0-is
    c.in-Err-Lost.ensures.back in
    let others = subst (λ (e : BindError). IsAnothers d c.cell_on-cell.result e c.seek.new.seat)
    c.in-Err-Lost.field-0-is c.in-Err-Lost.ensures.lost in
    let at = cell_is d c.args.sought.now.text.now c.args.sought.now.head c.args.sought.now.hash
    c.in-Null.further c.cell_on-cell.result c.requires.region.over c.requires.sought
    (c.cell_on-cell.ensures.cell
    ∙ ap (λ (z : EpochShape). (c.args.sought.now.hash + c.in-Null.further) % z.cells) c.shape.ensures) in
    let unseen : Unseen c.seek.new.seat.view.client c.cell_on-cell.result =
    λ e i some there. c.in-Null.ensures.ends.2.unseen e i some (there ∙ at) in (
      lost_on d text s c.in-Null.further c.args.seat.now c.seek.new.seat c.bind.new.seat so
          c.in-Err-Lost.ensures.keeps lost.1.learns c.in-Err-Lost.ensures.rest
          (λ alone. absurd (others unseen (so.quiet.grant ∙ alone))),
      lost.0 ∙ c.loop-try.invariant.1,
      tt,
    )

pub returns-in-Err-OutOfMemory-clause-grows : goal.returns-in-Err-OutOfMemory-clause-grows
returns-in-Err-OutOfMemory-clause-grows g c =
    let text = text_of c.args.sought.now.text.now in
    let d = c.args.domain.now in
    let s = c.args.candidate.slot in
    let same = ap (λ (h : Handle). h.slot) c.loop-try.invariant.1 in
    let so = null_on d text s c.loop-try.passed c.in-Null.further c.args.seat.now c.loop-try.seat
    c.seek.new.seat c.loop-try.invariant.0 c.in-Null.ensures.keeps c.in-Null.ensures.learns
    c.in-Null.ensures.rest c.in-Null.ensures.ends.2 in
    let refused = subst (λ (e : BindError). IsBack c.cell_on-cell.result c.loop-try.head e
    c.seek.new.seat.view.client c.bind.new.seat.view.client) c.in-Err-OutOfMemory.field-0-is
    c.in-Err-OutOfMemory.ensures.back in
    let there = same_on d text s c.in-Null.further c.args.seat.now c.seek.new.seat c.bind.new.seat so
    c.in-Err-OutOfMemory.ensures.keeps refused.1 c.in-Err-OutOfMemory.ensures.rest in
    let back = ap (λ (h : Handle). h.slot) (refused.0 ∙ c.loop-try.invariant.1) in
    grows_given d text s c.in-Null.further c.args.seat.now c.bind.new.seat c.e_drop.new.seat there
    c.requires.head.owned _ _
    (dropped_by d text c.in-Err-OutOfMemory.back.slot s back _ _ c.bind.new.seat c.e_drop.new.seat
    c.e_drop.ensures.dropped.1) c.e_drop.ensures.rest

pub returns-in-Err-OutOfMemory-clause-keeps : goal.returns-in-Err-OutOfMemory-clause-keeps
returns-in-Err-OutOfMemory-clause-keeps g c =
    let text = text_of c.args.sought.now.text.now in
    let d = c.args.domain.now in
    let s = c.args.candidate.slot in
    let same = ap (λ (h : Handle). h.slot) c.loop-try.invariant.1 in
    let so = null_on d text s c.loop-try.passed c.in-Null.further c.args.seat.now c.loop-try.seat
    c.seek.new.seat c.loop-try.invariant.0 c.in-Null.ensures.keeps c.in-Null.ensures.learns
    c.in-Null.ensures.rest c.in-Null.ensures.ends.2 in
    let refused = subst (λ (e : BindError). IsBack c.cell_on-cell.result c.loop-try.head e
    c.seek.new.seat.view.client c.bind.new.seat.view.client) c.in-Err-OutOfMemory.field-0-is
    c.in-Err-OutOfMemory.ensures.back in
    let there = same_on d text s c.in-Null.further c.args.seat.now c.seek.new.seat c.bind.new.seat so
    c.in-Err-OutOfMemory.ensures.keeps refused.1 c.in-Err-OutOfMemory.ensures.rest in
    let back = ap (λ (h : Handle). h.slot) (refused.0 ∙ c.loop-try.invariant.1) in
    keeps_given d text s c.in-Null.further c.args.seat.now c.bind.new.seat c.e_drop.new.seat there
    c.requires.head.owned _ _
    (dropped_by d text c.in-Err-OutOfMemory.back.slot s back _ _ c.bind.new.seat c.e_drop.new.seat
    c.e_drop.ensures.dropped.1) c.e_drop.ensures.rest

pub returns-in-Err-OutOfMemory-clause-unplaced : goal.returns-in-Err-OutOfMemory-clause-unplaced
returns-in-Err-OutOfMemory-clause-unplaced g c =
    let text = text_of c.args.sought.now.text.now in
    let d = c.args.domain.now in
    let s = c.args.candidate.slot in
    let so = null_on d text s c.loop-try.passed c.in-Null.further c.args.seat.now c.loop-try.seat
    c.seek.new.seat c.loop-try.invariant.0 c.in-Null.ensures.keeps c.in-Null.ensures.learns
    c.in-Null.ensures.rest c.in-Null.ensures.ends.2 in
    let refused = subst (λ (e : BindError). IsBack c.cell_on-cell.result c.loop-try.head e
    c.seek.new.seat.view.client c.bind.new.seat.view.client) c.in-Err-OutOfMemory.field-0-is
    c.in-Err-OutOfMemory.ensures.back in
    let same = c.e_drop.ensures.dropped.1.told.client ∙ refused.1 in (
      ap (λ (v : View). v.bound) same ∙ so.quiet.bound,
      untold_view text c.seek.new.seat.view.client c.e_drop.new.seat.view.client same
          c.in-Null.ensures.ends.2.untold,
    )

pub e_drop-requires-in-Record-clause-owned : goal.e_drop-requires-in-Record-clause-owned
e_drop-requires-in-Record-clause-owned g c =
    let text = text_of c.args.sought.now.text.now in
    let d = c.args.domain.now in
    let s = c.args.candidate.slot in
    let same = ap (λ (h : Handle). h.slot) c.loop-try.invariant.1 in
    let so = found_on d text s c.loop-try.passed c.args.seat.now c.loop-try.seat
    c.seek.new.seat c.loop-try.invariant.0 c.in-Record.ensures.keeps c.in-Record.ensures.learns
    c.in-Record.ensures.rest c.in-Record.ensures.walked c.in-Record.found
    c.in-Record.ensures.ends.1 in
    owned_either d text c.loop-try.head.slot s same _ c.in-Record.found c.loop-try.passed
    c.args.seat.now c.seek.new.seat c.e_keep-kept.new.seat c.e_keep-kept.result so
    c.e_keep-kept.ensures.refused c.e_keep-kept.ensures.kept

pub unreachable-requires : goal.unreachable-requires
unreachable-requires g c =
    not_around c.args.domain.now (text_of c.args.sought.now.text.now) c.args.candidate.slot
    c.loop-try.passed c.args.seat.now c.loop-try.seat c.seek.new.seat c.loop-try.invariant.0
    c.in-Around.ensures.learns c.in-Around.ensures.ends

pub returns-in_default-clause-grows : goal.returns-in_default-clause-grows
returns-in_default-clause-grows g c =
    let text = text_of c.args.sought.now.text.now in
    let d = c.args.domain.now in
    let s = c.args.candidate.slot in
    let same = ap (λ (h : Handle). h.slot) c.loop-try.invariant.1 in
    let so = found_on d text s c.loop-try.passed c.args.seat.now c.loop-try.seat
    c.seek.new.seat c.loop-try.invariant.0 c.in-Record.ensures.keeps c.in-Record.ensures.learns
    c.in-Record.ensures.rest c.in-Record.ensures.walked c.in-Record.found
    c.in-Record.ensures.ends.1 in
    let drop = dropped_by d text c.loop-try.head.slot s same _ _ c.e_keep-kept.new.seat
    c.e_drop-in-Record.new.seat c.e_drop-in-Record.ensures.dropped.1 in
    let stayed = c.in_default.ensures.refused refl in
    grows_given d text s c.loop-try.passed c.args.seat.now c.seek.new.seat c.e_drop-in-Record.new.seat so
    c.requires.head.owned _ _
    (subst (λ (x : SeatState View). Steps _ d same_view IsSameView (act.Drop s) x
    c.e_drop-in-Record.new.seat c.e_drop-in-Record.ensures.dropped.0) stayed drop) c.e_drop-in-Record.ensures.rest

pub returns-in_default-clause-keeps : goal.returns-in_default-clause-keeps
returns-in_default-clause-keeps g c =
    let text = text_of c.args.sought.now.text.now in
    let d = c.args.domain.now in
    let s = c.args.candidate.slot in
    let same = ap (λ (h : Handle). h.slot) c.loop-try.invariant.1 in
    let so = found_on d text s c.loop-try.passed c.args.seat.now c.loop-try.seat
    c.seek.new.seat c.loop-try.invariant.0 c.in-Record.ensures.keeps c.in-Record.ensures.learns
    c.in-Record.ensures.rest c.in-Record.ensures.walked c.in-Record.found
    c.in-Record.ensures.ends.1 in
    let drop = dropped_by d text c.loop-try.head.slot s same _ _ c.e_keep-kept.new.seat
    c.e_drop-in-Record.new.seat c.e_drop-in-Record.ensures.dropped.1 in
    let stayed = c.in_default.ensures.refused refl in
    keeps_given d text s c.loop-try.passed c.args.seat.now c.seek.new.seat c.e_drop-in-Record.new.seat so
    c.requires.head.owned _ _
    (subst (λ (x : SeatState View). Steps _ d same_view IsSameView (act.Drop s) x
    c.e_drop-in-Record.new.seat c.e_drop-in-Record.ensures.dropped.0) stayed drop) c.e_drop-in-Record.ensures.rest

pub returns-in_default-clause-unplaced : goal.returns-in_default-clause-unplaced
returns-in_default-clause-unplaced g c =
    let text = text_of c.args.sought.now.text.now in
    let d = c.args.domain.now in
    let s = c.args.candidate.slot in
    let so = found_on d text s c.loop-try.passed c.args.seat.now c.loop-try.seat
    c.seek.new.seat c.loop-try.invariant.0 c.in-Record.ensures.keeps c.in-Record.ensures.learns
    c.in-Record.ensures.rest c.in-Record.ensures.walked c.in-Record.found
    c.in-Record.ensures.ends.1 in
    let stayed = ap (λ (x : SeatState View). x.view.client) (c.in_default.ensures.refused refl) in (
      ap (λ (v : View). v.bound) (c.e_drop-in-Record.ensures.dropped.1.told.client ∙ stayed)
          ∙ so.quiet.bound,
      not_own d text s c.loop-try.passed c.args.seat.now c.loop-try.seat c.seek.new.seat
          c.loop-try.invariant.0 c.in-Record.ensures.learns c.in-Record.found
          c.in-Record.ensures.ends.1,
    )

pub returns-in-Record-clause-placed : goal.returns-in-Record-clause-placed
returns-in-Record-clause-placed g c =
    let text = text_of c.args.sought.now.text.now in
    let d = c.args.domain.now in
    let s = c.args.candidate.slot in
    let same = ap (λ (h : Handle). h.slot) c.loop-try.invariant.1 in
    let so = found_on d text s c.loop-try.passed c.args.seat.now c.loop-try.seat
    c.seek.new.seat c.loop-try.invariant.0 c.in-Record.ensures.keeps c.in-Record.ensures.learns
    c.in-Record.ensures.rest c.in-Record.ensures.walked c.in-Record.found
    c.in-Record.ensures.ends.1 in
    let drop = dropped_by d text c.loop-try.head.slot s same _ _ c.e_keep-kept.new.seat
    c.e_drop-in-Record.new.seat c.e_drop-in-Record.ensures.dropped.1 in (
      subst (λ (x : SlotId). Has text x c.e_drop-in-Record.new.seat)
          (sym c.in-Ok-kept.ensures.kept.0)
          (has_found d text s c.loop-try.passed c.args.seat.now c.seek.new.seat c.e_keep-kept.new.seat
          c.e_drop-in-Record.new.seat so _ c.in-Record.found c.loop-try.seat c.in-Record.ensures.ends.0
          c.in-Ok-kept.ensures.kept.1 _ drop c.e_drop-in-Record.ensures.rest),
      not_own d text s c.loop-try.passed c.args.seat.now c.loop-try.seat c.seek.new.seat
          c.loop-try.invariant.0 c.in-Record.ensures.learns c.in-Record.found c.in-Record.ensures.ends.1,
    )

pub returns-in-Record-clause-grows : goal.returns-in-Record-clause-grows
returns-in-Record-clause-grows g c =
    let text = text_of c.args.sought.now.text.now in
    let d = c.args.domain.now in
    let s = c.args.candidate.slot in
    let same = ap (λ (h : Handle). h.slot) c.loop-try.invariant.1 in
    let so = found_on d text s c.loop-try.passed c.args.seat.now c.loop-try.seat
    c.seek.new.seat c.loop-try.invariant.0 c.in-Record.ensures.keeps c.in-Record.ensures.learns
    c.in-Record.ensures.rest c.in-Record.ensures.walked c.in-Record.found
    c.in-Record.ensures.ends.1 in
    let drop = dropped_by d text c.loop-try.head.slot s same _ _ c.e_keep-kept.new.seat
    c.e_drop-in-Record.new.seat c.e_drop-in-Record.ensures.dropped.1 in
    grows_found d text s c.loop-try.passed c.args.seat.now c.seek.new.seat c.e_keep-kept.new.seat
    c.e_drop-in-Record.new.seat so _ c.in-Record.found c.loop-try.seat c.in-Record.ensures.ends.0
    c.in-Ok-kept.ensures.kept.1 _ drop c.e_drop-in-Record.ensures.rest

pub returns-in-Record-clause-keeps : goal.returns-in-Record-clause-keeps
returns-in-Record-clause-keeps g c =
    let text = text_of c.args.sought.now.text.now in
    let d = c.args.domain.now in
    let s = c.args.candidate.slot in
    let same = ap (λ (h : Handle). h.slot) c.loop-try.invariant.1 in
    let so = found_on d text s c.loop-try.passed c.args.seat.now c.loop-try.seat
    c.seek.new.seat c.loop-try.invariant.0 c.in-Record.ensures.keeps c.in-Record.ensures.learns
    c.in-Record.ensures.rest c.in-Record.ensures.walked c.in-Record.found
    c.in-Record.ensures.ends.1 in
    let drop = dropped_by d text c.loop-try.head.slot s same _ _ c.e_keep-kept.new.seat
    c.e_drop-in-Record.new.seat c.e_drop-in-Record.ensures.dropped.1 in
    subst (λ (x : SlotId). Keeps 0 1 (without s c.args.seat.now.view.core.owned ++ x ∷ [])
    c.args.seat.now c.e_drop-in-Record.new.seat)
    (sym c.in-Ok-kept.ensures.kept.0)
    (keeps_found d text s c.loop-try.passed c.args.seat.now c.seek.new.seat c.e_keep-kept.new.seat
    c.e_drop-in-Record.new.seat so _ c.in-Record.found c.loop-try.seat c.in-Record.ensures.ends.0
    c.in-Ok-kept.ensures.kept.1 _ drop c.e_drop-in-Record.ensures.rest)
