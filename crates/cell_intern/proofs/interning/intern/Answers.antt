use Rattle.std.proofs.Common.{ℕ, ◌+◌, List, length, ap, subst}
use Rattle.cell_calls.specs.Keeping.{Keeps}
use Rattle.cell_making.specs.Making.{owned_with}
use Rattle.std.specs.Int.{div_ceil}
use Rattle.epoch_refs.specs.epoch_core.declared.view.EpochView.{EpochView}
use Rattle.record_texts.specs.Texts.{text_of}
use Rattle.cell_intern.proofs.Around.{around_with, goes_in, goes_out, same_client}
use Rattle.cell_intern.proofs.Causes.{why_by_if, why_from_if}
use Rattle.cell_calls.specs.cell_law.declared.view.View.{View}
use Rattle.cell_intern.specs.Interning.{MakesForBinds}
use Rattle.cell_intern.proofs.Untold.{makes_within}
use Rattle.cell_intern.proofs.interning.intern.Goals as goal

pub returns-clause-refused : goal.returns-clause-refused
returns-clause-refused g c =
    let core = c.exit.ensures.exited.told.core in
    why_by_if c.args.domain.now c.intern_inside-record.result c.args.seat.now
    c.intern_inside-record.new.seat c.exit.new.seat
    (why_from_if c.args.domain.now c.intern_inside-record.result c.args.seat.now c.enter.new.seat
    c.intern_inside-record.new.seat
    (goes_in _ c.args.domain.now c.args.seat.now c.enter.new.seat c.enter.ensures.entered
    c.requires.free.outside)
    c.intern_inside-record.ensures.refused)
    (ap (λ (v : EpochView). v.makes) core) (ap (λ (v : EpochView). v.adds) core)
    (ap (λ (v : EpochView). v.quota) core)
    (goes_out _ c.args.domain.now c.args.seat.now c.enter.new.seat c.enter.ensures.entered
    c.requires.free.outside c.intern_inside-record.new.seat c.exit.new.seat c.exit.ensures.exited)

pub returns-clause-keeps : goal.returns-clause-keeps
returns-clause-keeps g c =
    let n = div_ceil (length c.args.text.now) 120 in
    around_with _ c.args.domain.now c.args.seat.now c.enter.new.seat c.enter.ensures.entered
    c.requires.free.outside c.intern_inside-record.new.seat c.exit.new.seat c.exit.ensures.exited
    c.intern_inside-record.result n (n + 2)
    (subst (λ (t : List ℕ). Keeps (div_ceil (length t) 120) (div_ceil (length t) 120 + 2)
    (owned_with c.intern_inside-record.result c.enter.new.seat.view.core.owned) c.enter.new.seat
    c.intern_inside-record.new.seat) c.sought_text-sought.ensures.same
    c.intern_inside-record.ensures.keeps)

pub returns-clause-makes : goal.returns-clause-makes
returns-clause-makes g c =
    let first = c.enter.ensures.entered.core in
    let last = c.exit.ensures.exited.told in
    let same = same_client _ c.args.domain.now c.args.seat.now c.enter.new.seat
    c.enter.ensures.entered c.requires.free.outside in
    makes_within c.args.domain.now (text_of c.args.text.now) (div_ceil (length c.args.text.now) 120)
    c.args.seat.now c.enter.new.seat c.intern_inside-record.new.seat c.exit.new.seat
    (ap (λ (v : EpochView). v.makes) first) (ap (λ (v : View). v.bound) same)
    (ap (λ (v : View). v.grant) same) (ap (λ (v : EpochView). v.makes) last.core) last.client
    c.intern_inside-record.result
    (subst (λ (t : List ℕ). MakesForBinds c.args.domain.now (text_of t) (div_ceil (length t) 120)
    c.intern_inside-record.result c.enter.new.seat c.intern_inside-record.new.seat)
    c.sought_text-sought.ensures.same c.intern_inside-record.ensures.makes)
