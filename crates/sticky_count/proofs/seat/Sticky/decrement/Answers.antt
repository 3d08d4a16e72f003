use Rattle.std.proofs.Common.{◌≡◌, ◌≢◌, [], ◌∷◌, true, false, rules, sym, ap, ◌∙◌, refl, inl, inr, arith}
use Rattle.std.proofs.lemmas.Bool.Decides.{nat_tests}
use Rattle.sticky_count.specs.declared.view.Act.TheVariants as act
use Rattle.counter_word.specs.Words.{has_help}
use Rattle.sticky_count.specs.Calls.{move, Loses, TakesHelp}
use Rattle.sticky_count.specs.Seats.{SeatState}
use Rattle.sticky_count.proofs.Atomic.{allows}
use Rattle.sticky_count.proofs.Ending.{ends_by_finish, ends_by_take}
use Rattle.sticky_count.proofs.Walks.{found_as, makes, one_more, one_step}
use Rattle.sticky_count.proofs.seat.Sticky.decrement.Goals as goal

pub fetch_sub-requires : goal.fetch_sub-requires
fetch_sub-requires c =
    let h = ap (λ (s : SeatState). s.view.held) c.seat.view_is in
    (search rules, search rules, allows _ _ _ act.Sub _ _ (c.seat.invariant.idle, omega (arith, c.requires.holds)) tt)

pub compare_exchange-requires : goal.compare_exchange-requires
compare_exchange-requires c = (search rules, search rules, allows _ _ _ act.Finish _ _ (grind (arith, nat_tests)) tt)

pub fetch_and-requires : goal.fetch_and-requires
fetch_and-requires c = (search rules, search rules, allows _ _ _ act.Take _ _ (grind (arith, nat_tests)) tt)

pub returns-in-Lost-clause-made : goal.returns-in-Lost-clause-made
returns-in-Lost-clause-made c =
    let w = c.compare_exchange.result in
    let e = c.fetch_sub.ensures in
    let f = c.compare_exchange.ensures in
    let last : c.fetch_sub.result ≡ 1 = grind (arith, nat_tests) in
    let ms = move act.Sub 1 ∷ move act.Finish w ∷ [] in
    let some_word : w ≢ 0 = grind (arith, nat_tests) in
    let help : has_help w ≡ false = grind (arith, nat_tests) in
    let lost : Loses ms false = (w, some_word, help, refl, refl) in (
      ms,
      inr (inr (inl lost)),
      makes ms _ _ _ _ _ _ c.seat.view_is (f.0 ∙ e.0)
          (one_more _ _ _ _ _ _ (found_as _ _ _ _ _ last e.2) (one_step _ _ _ _ f.2)),
    )

pub returns-in-Help-clause-made : goal.returns-in-Help-clause-made
returns-in-Help-clause-made c =
    let w = c.compare_exchange.result in
    let x = c.fetch_and.result in
    let e = c.fetch_sub.ensures in
    let f = c.compare_exchange.ensures in
    let g = c.fetch_and.ensures in
    let last : c.fetch_sub.result ≡ 1 = grind (arith, nat_tests) in
    let ms = move act.Sub 1 ∷ move act.Finish w ∷ move act.Take x ∷ [] in
    let some_word : w ≢ 0 = grind (arith, nat_tests) in
    let help : has_help w ≡ true = grind (arith, nat_tests) in
    let b : c.take_help.result.1 ≡ has_help x = ap (λ r. r.1) c.take_help.ensures in
    let taken : TakesHelp ms c.take_help.result.1 = (w, x, some_word, help, refl, b) in (
      ms,
      inr (inr (inr taken)),
      makes ms _ _ _ _ _ _ c.seat.view_is (g.0 ∙ f.0 ∙ e.0)
          (one_more _ _ _ _ _ _ (found_as _ _ _ _ _ last e.2) (one_more _ _ _ _ _ _ f.2 (one_step _ _ _ _ g.2))),
    )

pub returns-in-Ended-clause-ended_it : goal.returns-in-Ended-clause-ended_it
returns-in-Ended-clause-ended_it c _ =
    let zero_word : c.compare_exchange.result ≡ 0 = grind (arith, nat_tests) in
    ends_by_finish c.compare_exchange.new.seat.table_id c.seat.inside.quota _ _ _ c.compare_exchange.ensures.2 zero_word

pub returns-in-Help-clause-ended_it : goal.returns-in-Help-clause-ended_it
returns-in-Help-clause-ended_it c is =
    let b : c.take_help.result.1 ≡ has_help c.fetch_and.result = ap (λ r. r.1) c.take_help.ensures in
    ends_by_take c.fetch_and.new.seat.table_id c.seat.inside.quota _ _ _ c.fetch_and.ensures.2 (sym b ∙ is)
