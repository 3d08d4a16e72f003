use Rattle.std.proofs.Common.{inl, arith, ◌∙◌, ◌+◌, [], ◌∷◌, ◌++◌, length, refl, ap, sym, subst}
use Rattle.std.specs.Int.{div_ceil}
use Rattle.cell_calls.specs.Keeping.{Keeps}
use Rattle.cell_calls.specs.cell_law.declared.view.View.{View}
use Rattle.cell_calls.specs.cell_law.plain_state.declared.slot.SlotId.{SlotId}
use Rattle.epoch_refs.specs.epoch_domain.Seats.{SeatState}
use Rattle.record_texts.specs.Texts.{text_of}
use Rattle.cell_intern.specs.Interning.{Has}
use Rattle.cell_intern.proofs.Causes.{why_from_if}
use Rattle.cell_intern.proofs.Inside.{kept_grows, kept_has, kept_keeps, with_on}
use Rattle.cell_intern.proofs.Quiet.{grows_after, grows_quiet, quiet_learns, quiet_same, quiet_then}
use Rattle.cell_intern.proofs.Kept.{add_keeps}
use Rattle.cell_intern.proofs.Untold.{makes_refused, makes_within, may_on}
use Rattle.cell_intern.proofs.interning.intern_inside.Goals as goal

pub returns-in_err-e_keep-in-Record-clause-grows : goal.returns-in_err-e_keep-in-Record-clause-grows
returns-in_err-e_keep-in-Record-clause-grows g c =
    grows_quiet (text_of c.args.sought.now.text.now) c.args.seat.now.view.client
    c.e_keep.new.seat.view.client
    (quiet_then c.args.seat.now.view.client c.seek.new.seat.view.client c.e_keep.new.seat.view.client
    (quiet_learns c.args.seat.now.view.client c.seek.new.seat.view.client c.in-Record.ensures.learns)
    (quiet_same c.seek.new.seat.view.client c.e_keep.new.seat.view.client
    (ap (λ s. s.view.client) (c.in_err-e_keep-in-Record.ensures.refused refl))))

pub returns-in_ok-e_keep-in-Record-clause-has : goal.returns-in_ok-e_keep-in-Record-clause-has
returns-in_ok-e_keep-in-Record-clause-has g c =
    let kept = c.in_ok-e_keep-in-Record.ensures.kept in
    subst (λ (x : SlotId). Has (text_of c.args.sought.now.text.now) x c.e_keep.new.seat) (sym kept.0)
    (kept_has c.args.domain.now _ (text_of c.args.sought.now.text.now) c.in-Record.head
    c.args.seat.now c.seek.new.seat c.e_keep.new.seat c.in-Record.ensures.keeps
    c.in-Record.ensures.learns c.in-Record.ensures.ends.0 kept.1)

pub returns-in_ok-e_keep-in-Record-clause-grows : goal.returns-in_ok-e_keep-in-Record-clause-grows
returns-in_ok-e_keep-in-Record-clause-grows g c =
    let kept = c.in_ok-e_keep-in-Record.ensures.kept in
    kept_grows c.args.domain.now _ (text_of c.args.sought.now.text.now) c.in-Record.head
    c.args.seat.now c.seek.new.seat c.e_keep.new.seat c.in-Record.ensures.keeps
    c.in-Record.ensures.learns c.in-Record.ensures.ends.0 kept.1

pub returns-in_ok-e_keep-in-Record-clause-keeps : goal.returns-in_ok-e_keep-in-Record-clause-keeps
returns-in_ok-e_keep-in-Record-clause-keeps g c =
    let kept = c.in_ok-e_keep-in-Record.ensures.kept in
    let n = div_ceil (length c.args.sought.now.text.now) 120 in
    subst (λ (x : SlotId). Keeps n (n + 2) (c.args.seat.now.view.core.owned ++ x ∷ []) c.args.seat.now
    c.e_keep.new.seat) (sym kept.0)
    (kept_keeps c.args.domain.now _ (text_of c.args.sought.now.text.now) c.in-Record.head
    c.args.seat.now c.seek.new.seat c.e_keep.new.seat c.in-Record.ensures.keeps
    c.in-Record.ensures.learns c.in-Record.ensures.ends.0 kept.1 n)

pub returns-in-Null-clause-refused : goal.returns-in-Null-clause-refused
returns-in-Null-clause-refused g c =
    why_from_if c.args.domain.now c.add.result c.args.seat.now
    c.seek.new.seat c.add.new.seat c.in-Null.ensures.keeps.goes c.add.ensures.refused

pub returns-in-Null-clause-grows : goal.returns-in-Null-clause-grows
returns-in-Null-clause-grows g c =
    grows_after (text_of c.args.sought.now.text.now) c.args.seat.now.view.client
    c.seek.new.seat.view.client c.add.new.seat.view.client
    (quiet_learns c.args.seat.now.view.client c.seek.new.seat.view.client c.in-Null.ensures.learns)
    c.add.ensures.grows

pub returns-in-Null-clause-keeps : goal.returns-in-Null-clause-keeps
returns-in-Null-clause-keeps g c =
    let n = div_ceil (length c.args.sought.now.text.now) 120 in
    with_on c.add.result n (n + 2) c.args.seat.now c.seek.new.seat c.add.new.seat
    c.in-Null.ensures.keeps c.add.ensures.keeps

-- MAKES
pub returns-in_ok-e_keep-in-Record-clause-makes : goal.returns-in_ok-e_keep-in-Record-clause-makes
returns-in_ok-e_keep-in-Record-clause-makes g c alone =
    let seek = c.in-Record.ensures.keeps.makes_used in
    let keep = (add_keeps _ c.args.domain.now c.in-Record.head c.seek.new.seat c.e_keep.new.seat
    c.in_ok-e_keep-in-Record.ensures.kept.1).makes_used in
    inl (omega (arith, seek.0, seek.1, keep.0, keep.1))

pub add-requires-clause-granted : goal.add-requires-clause-granted
add-requires-clause-granted g c =
    may_on c.args.seat.now.view.client c.seek.new.seat.view.client
    (quiet_learns c.args.seat.now.view.client c.seek.new.seat.view.client c.in-Null.ensures.learns)
    c.requires.granted

pub returns-in-Null-clause-makes : goal.returns-in-Null-clause-makes
returns-in-Null-clause-makes g c =
    let quiet = quiet_learns c.args.seat.now.view.client c.seek.new.seat.view.client
    c.in-Null.ensures.learns in
    let used = c.in-Null.ensures.keeps.makes_used in
    makes_within c.args.domain.now (text_of c.args.sought.now.text.now)
    (div_ceil (length c.args.sought.now.text.now) 120) c.args.seat.now c.seek.new.seat
    c.add.new.seat c.add.new.seat (omega (arith, used.0, used.1)) quiet.bound quiet.grant refl refl
    c.add.result c.add.ensures.makes

pub unreachable-requires : goal.unreachable-requires
unreachable-requires g c =
    c.in-Around.ensures.ends.spent
    (may_on c.args.seat.now.view.client c.seek.new.seat.view.client
    (quiet_learns c.args.seat.now.view.client c.seek.new.seat.view.client
    c.in-Around.ensures.learns) c.requires.granted)

pub returns-in_err-e_keep-in-Record-clause-makes : goal.returns-in_err-e_keep-in-Record-clause-makes
returns-in_err-e_keep-in-Record-clause-makes g c =
    let stayed = c.in_err-e_keep-in-Record.ensures.refused refl in
    let used = c.in-Record.ensures.keeps.makes_used in
    makes_refused c.args.domain.now (text_of c.args.sought.now.text.now)
    (div_ceil (length c.args.sought.now.text.now) 120) c.from_residual.result c.args.seat.now
    c.e_keep.new.seat c.from_residual.ensures.1
    (ap (λ (x : SeatState View). x.view.client.bound) stayed
    ∙ ap (λ (v : View). v.bound) c.in-Record.ensures.learns.rest)
    (ap (λ (x : SeatState View). x.view.core.makes) stayed ∙ (omega (arith, used.0, used.1)))
