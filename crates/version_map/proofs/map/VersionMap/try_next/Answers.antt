use Rattle.std.proofs.Common.{ap, sym, ◌∙◌, subst}
use Rattle.std.specs.Prelude.{IfSome, Ok}
use Rattle.snapshot_ptr.proofs.Under.{least_is_free}
use Rattle.version_reading.specs.Reading.{HoldsRoot}
use Rattle.version_map.proofs.Versions.{all_from_start, from_null, whole_knows, whole_reads}
use Rattle.version_map.proofs.map.VersionMap.try_next.Goals as goal

pub search_version-requires-clause-held : goal.search_version-requires-clause-held
search_version-requires-clause-held c =
    let free = least_is_free c.args.seat.now.view.core c.in-Some.word
    (sym c.free_note.ensures ∙ c.in-Some.is) in
    let holds = subst (λ x. IfSome x (λ slot. HoldsRoot c.args.self.now.cell c.in-Some.word slot
    c.args.seat.now c.hold_root.new.seat)) c.in-Ok-Some.field-0-is c.in-Ok-Some.ensures.held in
    (free.0, free.1, holds.held)

pub returns-in-Ok-None-clause-answer : goal.returns-in-Ok-None-clause-answer
returns-in-Ok-None-clause-answer c =
    from_null c.args.domain.now c.args.self.now.cell c.args.seat.now c.hold_root.new.seat c.args.key
    (c.hold_root.ensures.null (c.in-Ok-None.is ∙ ap Ok c.in-Ok-None.field-0-is))

pub returns-in-Ok-Some-clause-answer : goal.returns-in-Ok-Some-clause-answer
returns-in-Ok-Some-clause-answer c =
    all_from_start c.args.domain.now c.args.self.now.cell c.in-Ok-Some.root c.in-Some.word c.args.seat.now
    c.hold_root.new.seat c.search_version.new.seat
    (least_is_free c.args.seat.now.view.core c.in-Some.word (sym c.free_note.ensures ∙ c.in-Some.is))
    c.hold_root.result (c.in-Ok-Some.is ∙ ap Ok c.in-Ok-Some.field-0-is)
    c.hold_root.ensures.reads c.hold_root.ensures.knows
    c.search_version.ensures.reads c.search_version.ensures.knows c.args.key c.search_version.result
    c.search_version.ensures.answer

pub returns-in-Ok-Some-clause-reads : goal.returns-in-Ok-Some-clause-reads
returns-in-Ok-Some-clause-reads c =
    whole_reads c.args.domain.now c.args.self.now.cell c.in-Ok-Some.root c.in-Some.word c.args.seat.now
    c.hold_root.new.seat c.search_version.new.seat
    (least_is_free c.args.seat.now.view.core c.in-Some.word (sym c.free_note.ensures ∙ c.in-Some.is))
    c.hold_root.result (c.in-Ok-Some.is ∙ ap Ok c.in-Ok-Some.field-0-is)
    c.hold_root.ensures.reads c.hold_root.ensures.knows
    c.search_version.ensures.reads c.search_version.ensures.knows

pub returns-in-Ok-Some-clause-knows : goal.returns-in-Ok-Some-clause-knows
returns-in-Ok-Some-clause-knows c =
    whole_knows c.args.domain.now c.args.self.now.cell c.in-Ok-Some.root c.in-Some.word c.args.seat.now
    c.hold_root.new.seat c.search_version.new.seat
    (least_is_free c.args.seat.now.view.core c.in-Some.word (sym c.free_note.ensures ∙ c.in-Some.is))
    c.hold_root.result (c.in-Ok-Some.is ∙ ap Ok c.in-Ok-Some.field-0-is)
    c.hold_root.ensures.reads c.hold_root.ensures.knows
    c.search_version.ensures.reads c.search_version.ensures.knows
