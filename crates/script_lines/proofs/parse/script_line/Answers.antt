use Rattle.std.proofs.Common.{◌≡◌, ◌∷◌, refl, ap, subst, ◌∙◌}
use Rattle.line_words.specs.Words.{texts_of}
use Rattle.script_lines.specs.Spelling.{Spells}
use Rattle.script_lines.specs.Verbs.{spelling}
use Rattle.script_lines.proofs.Commands.{no-heap, no-verb}
use Rattle.script_lines.proofs.Refusals.{same-refusal}
use Rattle.script_lines.proofs.Shapes.{shape}
use Rattle.script_lines.proofs.parse.script_line.Goals as goal

-- the first word is no verb
pub returns-in_default-find_verb-clause-syntax : goal.returns-in_default-find_verb-clause-syntax
returns-in_default-find_verb-clause-syntax c told line spells =
    no-verb c.in-Some.word.now.now (texts_of c.in-Some.arguments.now) (λ verb. c.in_default-find_verb.ensures.none refl verb) line
    (subst (Spells line) (ap texts_of c.in-Some.ensures.cases.0) spells)

-- the words after `heap` are no three numbers
pub returns-in_err-slots-clause-syntax : goal.returns-in_err-slots-clause-syntax
returns-in_err-slots-clause-syntax c told line spells =
    let verb = c.in-Some-find_verb.verb in
    let words : texts_of c.args.words.now ≡ spelling verb ∷ texts_of c.in-Some.arguments.now
    = ap texts_of c.in-Some.ensures.cases.0
    ∙ ap (λ word. word ∷ texts_of c.in-Some.arguments.now) c.in-Some-find_verb.ensures.some in
    no-heap verb (texts_of c.in-Some.arguments.now) (ap shape c.in-Heap.is)
    (c.in_err-slots.ensures.syntax (same-refusal _ _ c.from_residual.ensures.1 told)) line (subst (Spells line) words spells)
