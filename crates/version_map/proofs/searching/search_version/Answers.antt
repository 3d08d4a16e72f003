use Rattle.std.proofs.Common.{sym, ◌∙◌}
use Rattle.version_reading.specs.Reading.{pair_by}
use Rattle.version_map.proofs.Versions.{all_knows, all_reads, has_next, no_longer, sees_another}
use Rattle.version_map.proofs.searching.search_version.Goals as goal

pub returns-then-now-seen-clause-moved : goal.returns-then-now-seen-clause-moved
returns-then-now-seen-clause-moved c =
    sees_another c.args.domain.now c.args.cell c.args.root c.args.word c.args.seat.now c.seek-found.new.seat
    c.look_at_root.new.seat c.release.new.seat c.requires.node c.requires.held
    c.seek-found.ensures.reads c.seek-found.ensures.knows c.look_at_root.result
    c.look_at_root.ensures.map c.look_at_root.ensures.saw c.look_at_root.ensures.reads
    c.look_at_root.ensures.knows c.release.result c.release.ensures
    c.held_as-seen.result c.held_as-now.result c.held_as-seen.ensures c.held_as-now.ensures
    c.if-now-seen.true

pub returns-then-now-seen-clause-reads : goal.returns-then-now-seen-clause-reads
returns-then-now-seen-clause-reads c =
    all_reads c.args.domain.now c.args.cell c.args.root c.args.word c.args.seat.now c.seek-found.new.seat
    c.look_at_root.new.seat c.release.new.seat c.requires.node c.requires.held
    c.seek-found.ensures.reads c.seek-found.ensures.knows c.look_at_root.result
    c.look_at_root.ensures.map c.look_at_root.ensures.saw c.look_at_root.ensures.reads
    c.look_at_root.ensures.knows c.release.result c.release.ensures

pub returns-then-now-seen-clause-knows : goal.returns-then-now-seen-clause-knows
returns-then-now-seen-clause-knows c =
    all_knows c.args.domain.now c.args.cell c.args.root c.args.word c.args.seat.now c.seek-found.new.seat
    c.look_at_root.new.seat c.release.new.seat c.requires.node c.requires.held
    c.seek-found.ensures.reads c.seek-found.ensures.knows c.look_at_root.result
    c.look_at_root.ensures.map c.look_at_root.ensures.saw c.look_at_root.ensures.reads
    c.look_at_root.ensures.knows c.release.result c.release.ensures

pub unreachable-requires-in_default-found : goal.unreachable-requires-in_default-found
unreachable-requires-in_default-found c =
    no_longer c.args.domain.now c.args.cell c.args.root c.args.word c.args.seat.now c.seek-found.new.seat
    c.look_at_root.new.seat c.release.new.seat c.requires.node c.requires.held
    c.seek-found.ensures.reads c.seek-found.ensures.knows c.look_at_root.result
    c.look_at_root.ensures.map c.look_at_root.ensures.saw c.look_at_root.ensures.reads
    c.look_at_root.ensures.knows c.release.result c.release.ensures
    (sym c.held_as-now.ensures ∙ (c.if-now-seen.false ∙ c.held_as-seen.ensures))
    (c.seek-found.ensures.longer c.in_default-found.is)

pub returns-clause-answer : goal.returns-clause-answer
returns-clause-answer c =
    has_next c.args.domain.now c.args.cell c.args.root c.args.word c.args.seat.now c.seek-found.new.seat
    c.look_at_root.new.seat c.release.new.seat c.requires.node c.requires.held
    c.seek-found.ensures.reads c.seek-found.ensures.knows c.look_at_root.result
    c.look_at_root.ensures.map c.look_at_root.ensures.saw c.look_at_root.ensures.reads
    c.look_at_root.ensures.knows c.release.result c.release.ensures
    (sym c.held_as-now.ensures ∙ (c.if-now-seen.false ∙ c.held_as-seen.ensures))
    c.args.key (pair_by c.in-Some-found.answer) c.in-Some-found.ensures.sought

pub returns-clause-reads : goal.returns-clause-reads
returns-clause-reads c =
    all_reads c.args.domain.now c.args.cell c.args.root c.args.word c.args.seat.now c.seek-found.new.seat
    c.look_at_root.new.seat c.release.new.seat c.requires.node c.requires.held
    c.seek-found.ensures.reads c.seek-found.ensures.knows c.look_at_root.result
    c.look_at_root.ensures.map c.look_at_root.ensures.saw c.look_at_root.ensures.reads
    c.look_at_root.ensures.knows c.release.result c.release.ensures

pub returns-clause-knows : goal.returns-clause-knows
returns-clause-knows c =
    all_knows c.args.domain.now c.args.cell c.args.root c.args.word c.args.seat.now c.seek-found.new.seat
    c.look_at_root.new.seat c.release.new.seat c.requires.node c.requires.held
    c.seek-found.ensures.reads c.seek-found.ensures.knows c.look_at_root.result
    c.look_at_root.ensures.map c.look_at_root.ensures.saw c.look_at_root.ensures.reads
    c.look_at_root.ensures.knows c.release.result c.release.ensures
