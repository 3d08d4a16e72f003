use Rattle.std.proofs.Common.{length, sym, ◌∙◌}
use Rattle.version_map.proofs.Versions.{all_knows, all_reads, has_range, no_longer, sees_another}
use Rattle.version_map.proofs.scanning.range_of_version.Goals as goal

pub returns-then-now-seen-clause-moved : goal.returns-then-now-seen-clause-moved
returns-then-now-seen-clause-moved c =
    sees_another c.args.domain.now c.args.cell c.args.root c.args.word c.args.seat.now c.scan_version-found.new.seat
    c.look_at_root.new.seat c.release.new.seat c.requires.node c.requires.held
    c.scan_version-found.ensures.reads c.scan_version-found.ensures.knows c.look_at_root.result
    c.look_at_root.ensures.map c.look_at_root.ensures.saw c.look_at_root.ensures.reads
    c.look_at_root.ensures.knows c.release.result c.release.ensures
    c.held_as-seen.result c.held_as-now.result c.held_as-seen.ensures c.held_as-now.ensures
    c.if-now-seen.true

pub returns-then-now-seen-clause-reads : goal.returns-then-now-seen-clause-reads
returns-then-now-seen-clause-reads c =
    all_reads c.args.domain.now c.args.cell c.args.root c.args.word c.args.seat.now c.scan_version-found.new.seat
    c.look_at_root.new.seat c.release.new.seat c.requires.node c.requires.held
    c.scan_version-found.ensures.reads c.scan_version-found.ensures.knows c.look_at_root.result
    c.look_at_root.ensures.map c.look_at_root.ensures.saw c.look_at_root.ensures.reads
    c.look_at_root.ensures.knows c.release.result c.release.ensures

pub returns-then-now-seen-clause-knows : goal.returns-then-now-seen-clause-knows
returns-then-now-seen-clause-knows c =
    all_knows c.args.domain.now c.args.cell c.args.root c.args.word c.args.seat.now c.scan_version-found.new.seat
    c.look_at_root.new.seat c.release.new.seat c.requires.node c.requires.held
    c.scan_version-found.ensures.reads c.scan_version-found.ensures.knows c.look_at_root.result
    c.look_at_root.ensures.map c.look_at_root.ensures.saw c.look_at_root.ensures.reads
    c.look_at_root.ensures.knows c.release.result c.release.ensures

pub unreachable-requires-in_default-found : goal.unreachable-requires-in_default-found
unreachable-requires-in_default-found c =
    no_longer c.args.domain.now c.args.cell c.args.root c.args.word c.args.seat.now c.scan_version-found.new.seat
    c.look_at_root.new.seat c.release.new.seat c.requires.node c.requires.held
    c.scan_version-found.ensures.reads c.scan_version-found.ensures.knows c.look_at_root.result
    c.look_at_root.ensures.map c.look_at_root.ensures.saw c.look_at_root.ensures.reads
    c.look_at_root.ensures.knows c.release.result c.release.ensures
    (sym c.held_as-now.ensures ∙ (c.if-now-seen.false ∙ c.held_as-seen.ensures))
    (c.scan_version-found.ensures.longer c.in_default-found.is)

pub returns-clause-answer : goal.returns-clause-answer
returns-clause-answer c =
    has_range c.args.domain.now c.args.cell c.args.root c.args.word c.args.seat.now c.scan_version-found.new.seat
    c.look_at_root.new.seat c.release.new.seat c.requires.node c.requires.held
    c.scan_version-found.ensures.reads c.scan_version-found.ensures.knows c.look_at_root.result
    c.look_at_root.ensures.map c.look_at_root.ensures.saw c.look_at_root.ensures.reads
    c.look_at_root.ensures.knows c.release.result c.release.ensures
    (sym c.held_as-now.ensures ∙ (c.if-now-seen.false ∙ c.held_as-seen.ensures))
    c.args.range.0 c.args.range.1 (length c.args.out.now) c.in-Some-found.count
    c.scan_version-found.new.out c.in-Some-found.ensures.scanned

pub returns-clause-reads : goal.returns-clause-reads
returns-clause-reads c =
    all_reads c.args.domain.now c.args.cell c.args.root c.args.word c.args.seat.now c.scan_version-found.new.seat
    c.look_at_root.new.seat c.release.new.seat c.requires.node c.requires.held
    c.scan_version-found.ensures.reads c.scan_version-found.ensures.knows c.look_at_root.result
    c.look_at_root.ensures.map c.look_at_root.ensures.saw c.look_at_root.ensures.reads
    c.look_at_root.ensures.knows c.release.result c.release.ensures

pub returns-clause-knows : goal.returns-clause-knows
returns-clause-knows c =
    all_knows c.args.domain.now c.args.cell c.args.root c.args.word c.args.seat.now c.scan_version-found.new.seat
    c.look_at_root.new.seat c.release.new.seat c.requires.node c.requires.held
    c.scan_version-found.ensures.reads c.scan_version-found.ensures.knows c.look_at_root.result
    c.look_at_root.ensures.map c.look_at_root.ensures.saw c.look_at_root.ensures.reads
    c.look_at_root.ensures.knows c.release.result c.release.ensures
