use Rattle.std.proofs.Common.{ℕ, List, subst}
use Rattle.cell_intern.specs.cell_calls.cell_law.Views.{TellsNone}
use Rattle.cell_intern.specs.cell_calls.cell_law.directory_law.Views.{In, rope}
use Rattle.cell_intern.specs.epoch_refs.epoch_rule.Views.{object_in}
use Rattle.cell_intern.specs.record_texts.Texts.{text_of}
use Rattle.cell_intern.proofs.Below.record_texts_Packed.{is_text_of}
use Rattle.cell_records.proofs.Telling.{found_tells, never_untold}
use Rattle.cell_records.proofs.records.find_record.Goals as goal

pub unreachable-requires : goal.unreachable-requires
unreachable-requires c =
    let word = c.args.word.now in
    never_untold c.args.root.now.view.client c.seek.new.seat.view.client c.seek.ensures.learns word
    (is_text_of word c.requires.word.0 c.requires.word.1) c.requires.told
    (subst (λ (t : List ℕ). TellsNone c.seek.new.seat.view.client (text_of t))
    c.sought_text-sought.ensures.same c.in-Null.ensures.ends.2.untold)

pub unreachable-requires-in-Around : goal.unreachable-requires-in-Around
unreachable-requires-in-Around c =
    let word = c.args.word.now in
    never_untold c.args.root.now.view.client c.seek.new.seat.view.client c.seek.ensures.learns word
    (is_text_of word c.requires.word.0 c.requires.word.1) c.requires.told
    (subst (λ (t : List ℕ). TellsNone c.seek.new.seat.view.client (text_of t))
    c.sought_text-sought.ensures.same c.in-Around.ensures.ends.untold)

pub returns-clause-tells : goal.returns-clause-tells
returns-clause-tells c =
    let word = c.args.word.now in
    let v = c.seek.new.seat.view in
    found_tells v.client word c.in-Record.slot (object_in v c.in-Record.slot).life
    (is_text_of word c.requires.word.0 c.requires.word.1)
    (subst (λ (t : List ℕ).
    In (rope c.in-Record.slot (object_in v c.in-Record.slot).life (text_of t)) v.client.found)
    c.sought_text-sought.ensures.same c.in-Record.ensures.ends.0.noted)
