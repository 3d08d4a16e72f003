use Rattle.std.proofs.Common.{◌∷◌, ap, sym, ◌∙◌, arith}
use Rattle.tally_sums.proofs.Steps.{first_joined, last_stands, next_joins, next_stands, sum_fits}
use Rattle.tally_sums.proofs.adding.add_up.Goals as goal

pub loop-word-init : goal.loop-word-init
loop-word-init c =
    first_joined c.in_ok-words.words.items c.args.entries.items
    c.into_iter-word-iterator.result.rest.items c.in-Some.last c.in_ok-words.ensures.items
    (sym c.into_iter-left.ensures.rest ∙ c.in-Some.ensures.items
    ∙ ap (λ left. c.in-Some.last ∷ left.rest.items) (sym c.into_iter-word-iterator.ensures.into_iter_gives))

pub overflow_add-last : goal.overflow_add-last
overflow_add-last c =
    let small = sum_fits c.loop-word.words.items c.args.entries.items
    c.loop-word.word-iterator.rest.items c.next-in-loop-word.new.self.rest.items c.loop-word.last
    (c.in-Some-2.word, c.in-Some-2.count) c.in-Some-2.ensures.steps.0 c.loop-word.invariant
    (sym c.eq.ensures ∙ c.if-eq.true) c.requires.few in
    omega (arith, small)

pub loop-word-preserved-then-eq : goal.loop-word-preserved-then-eq
loop-word-preserved-then-eq c =
    next_joins c.loop-word.words.items c.args.entries.items
    c.loop-word.word-iterator.rest.items c.next-in-loop-word.new.self.rest.items c.loop-word.last
    (c.in-Some-2.word, c.in-Some-2.count) c.in-Some-2.ensures.steps.0 c.loop-word.invariant
    (sym c.eq.ensures ∙ c.if-eq.true)

pub loop-word-preserved : goal.loop-word-preserved
loop-word-preserved c =
    next_stands c.loop-word.words.items c.args.entries.items
    c.loop-word.word-iterator.rest.items c.next-in-loop-word.new.self.rest.items c.loop-word.last
    (c.in-Some-2.word, c.in-Some-2.count) c.in-Some-2.ensures.steps.0 c.loop-word.invariant
    c.push.new.self.items (sym c.eq.ensures ∙ c.if-eq.false) c.in_ok-push.ensures.items

pub returns : goal.returns
returns c =
    last_stands c.loop-word.words.items c.args.entries.items c.loop-word.word-iterator.rest.items
    c.push-2.new.self.items c.loop-word.last c.loop-word.invariant
    (sym c.loop-word.word-iterator.rest.ok.0 ∙ c.in-None.ensures.steps.0)
    c.in_ok-push-2.ensures.items
