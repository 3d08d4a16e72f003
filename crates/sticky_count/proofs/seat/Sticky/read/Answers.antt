use Rattle.std.proofs.Common.{◌≡◌, ◌≢◌, [], ◌∷◌, rules, sym, ◌∙◌, refl, inl, inr, arith}
use Rattle.std.proofs.lemmas.Bool.Decides.{nat_tests}
use Rattle.sticky_count.specs.declared.view.Act.TheVariants as act
use Rattle.sticky_count.specs.Calls.{move}
use Rattle.sticky_count.proofs.Atomic.{allows}
use Rattle.sticky_count.proofs.Ending.{over_by_load, over_by_mark}
use Rattle.sticky_count.proofs.Walks.{found_as, makes, one_more, one_step}
use Rattle.sticky_count.proofs.seat.Sticky.read.Goals as goal

pub load-found-requires : goal.load-found-requires
load-found-requires c = (search rules, search rules, allows _ _ _ act.Load _ _ c.seat.invariant.idle tt)

pub compare_exchange-requires : goal.compare_exchange-requires
compare_exchange-requires c = (search rules, search rules, allows _ _ _ act.Mark _ _ (grind (arith, nat_tests)) tt)

pub returns-then-found-ne0-clause-made : goal.returns-then-found-ne0-clause-made
returns-then-found-ne0-clause-made c =
    let w = c.load-found.result in
    let e = c.load-found.ensures in
    let some_word : w ≢ 0 = grind (arith, nat_tests) in
    let ms = move act.Load w ∷ [] in
    (ms, inl (w, some_word, refl, c.value.ensures), makes ms _ _ _ _ _ _ c.seat.view_is e.0 (one_step _ _ _ _ e.2))

pub returns-clause-made : goal.returns-clause-made
returns-clause-made c =
    let w = c.compare_exchange.result in
    let e = c.load-found.ensures in
    let f = c.compare_exchange.ensures in
    let zero_word : c.load-found.result ≡ 0 = grind (arith, nat_tests) in
    let ms = move act.Load 0 ∷ move act.Mark w ∷ [] in (
      ms,
      inr (w, refl, c.value-2.ensures),
      makes ms _ _ _ _ _ _ c.seat.view_is (f.0 ∙ e.0) (one_more _ _ _ _ _ _ (found_as _ _ _ _ _ zero_word e.2) (one_step _ _ _ _ f.2)),
    )

pub returns-then-found-ne0-clause-over : goal.returns-then-found-ne0-clause-over
returns-then-found-ne0-clause-over c none =
    let w = c.load-found.result in
    let some_word : w ≢ 0 = grind (arith, nat_tests) in
    over_by_load c.seat.inside.seat.table_id c.seat.inside.quota _ _ _ c.load-found.ensures.2 some_word (sym c.value.ensures ∙ none)

pub returns-clause-over : goal.returns-clause-over
returns-clause-over c none = over_by_mark c.seat.inside.seat.table_id c.seat.inside.quota _ _ _ c.compare_exchange.ensures.2 (sym c.value-2.ensures ∙ none)
