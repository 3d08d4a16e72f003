use Rattle.std.proofs.Common.{◌≡◌, Err, Ok, None, Some, [], refl, rules}
use Rattle.line_machine.specs.line_words.Words.{texts_of}
use Rattle.script_law.specs.script_lines.Spelling.{Spells}
use Rattle.script_law.specs.script_lines.declared.command.ScriptLine.TheVariants.{Heap}
use Rattle.script_law.specs.script_lines.declared.refused.CommandRefused.TheVariants.{Syntax}
use Rattle.domain_desk.specs.lone_heap.Lone.{IsForOne}
use Rattle.domain_desk.specs.Desks.{core_of, desk_of}
use Rattle.cdrc_scripts.specs.Domains.{IsSettledDesk}
use Rattle.cdrc_scripts.specs.Meaning.{IsHeapInRange, IsOpened}
use Rattle.cdrc_scripts.proofs.machine.begin.Goals as goal

pub returns-in-Err-Syntax-clause-refused : goal.returns-in-Err-Syntax-clause-refused
returns-in-Err-Syntax-clause-refused c =
    let refused : c.heap_numbers.result ≡ Err Syntax = cc in
    c.heap_numbers.ensures.syntax refused

pub returns-in-Some-clause-taken : goal.returns-in-Some-clause-taken
returns-in-Some-clause-taken c =
    let n = c.in-Ok.numbers in
    let spells : Spells (Heap n.slots n.cells n.weak_cells) (texts_of c.args.words.now) = search rules in
    let opened : IsHeapInRange n.slots n.cells n.weak_cells
    × IsOpened n.slots n.cells n.weak_cells (desk_of c.in-Some.desk) = search rules in
    let one : IsForOne n.slots n.cells n.weak_cells c.in-Some.desk.domain = search rules in
    let trail : (core_of c.in-Some.desk).trail ≡ [] = search rules in
    let settled : IsSettledDesk (Some c.in-Some.desk) = search rules in (
      (
        n.slots,
        n.cells,
        n.weak_cells,
        c.in-Some.desk,
        spells,
        opened.0,
        opened.1,
        one,
        settled.0.ready.rest.of_domain,
        trail,
        refl,
        refl,
      ),
      settled,
    )

pub returns-in-None-clause-refused : goal.returns-in-None-clause-refused
returns-in-None-clause-refused c =
    let n = c.in-Ok.numbers in
    let spells : Spells (Heap n.slots n.cells n.weak_cells) (texts_of c.args.words.now) = search rules in
    let none : c.open.result ≡ Ok None = cc in
    (n.slots, n.cells, n.weak_cells, spells, c.open.ensures.refused none)
