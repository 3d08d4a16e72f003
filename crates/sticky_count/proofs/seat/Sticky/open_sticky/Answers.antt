use Rattle.std.proofs.Common.{◌≡◌, ℕ, suc, List, [], ◌∷◌, ◌++◌, vec_len, rules, sym, ap, ◌∙◌, arith}
use Rattle.sticky_count.specs.Seats.{SeatState}
use Rattle.sticky_count.proofs.Atomic.{splits, starts}
use Rattle.sticky_count.proofs.Opening.{front, front_all, front_push, seat_at}
use Rattle.sticky_count.proofs.seat.Sticky.open_sticky.Goals as goal

pub of_words-requires : goal.of_words-requires
of_words-requires c = starts c.args.seats c.requires.seats.0 c.requires.seats.1

pub split_seat-next-requires : goal.split_seat-next-requires
split_seat-next-requires c = let inv = c.loop-opened.invariant in (search rules, search rules, splits _ _ _ (omega arith))

pub loop-opened-preserved : goal.loop-opened-preserved
loop-opened-preserved c =
    let inv = c.loop-opened.invariant in
    let n : ℕ = vec_len c.loop-opened.list in
    let one_more : vec_len c.push_reserved.new.self ≡ suc n = search rules in
    let counter = c.in_ok-table.table.shared.table_id in
    let last = c.loop-opened.last in
    let seat : SeatState = record {
      counter = last.table_id;
      quota = c.args.adds;
      seat = last.me.0.seat;
      seats = last.me.0.seats;
      past = last.me.0.past;
      view = last.me.0.view;
    } in
    let is : seat ≡ seat_at counter c.args.seats c.args.adds n = λ i. record {
      counter = inv.table i;
      quota = c.args.adds;
      seat = inv.seat i;
      seats = inv.seats i;
      past = inv.past i;
      view = inv.view i;
    } in
    let pushed : c.push_reserved.new.self.items ≡ c.loop-opened.list.items ++ seat ∷ [] = search rules in
    record {
      capacity = search rules;
      len = search rules;
      items = pushed
          ∙ ap (λ (l : List SeatState). l ++ seat ∷ []) inv.items
          ∙ front_push counter c.args.seats c.args.adds n seat is
          ∙ ap (front counter c.args.seats c.args.adds) (sym one_more);
      table = search rules;
      view = search rules;
      seat = search rules;
      seats = search rules;
      past = search rules;
      to_open = search rules;
    }

pub returns : goal.returns
returns c =
    let inv = c.loop-opened.invariant in
    let n : ℕ = vec_len c.loop-opened.list in
    let all : suc n ≡ c.args.seats = omega arith in
    let counter = c.in_ok-table.table.shared.table_id in
    let last = c.loop-opened.last in
    let seat : SeatState = record {
      counter = last.table_id;
      quota = c.args.adds;
      seat = last.me.0.seat;
      seats = last.me.0.seats;
      past = last.me.0.past;
      view = last.me.0.view;
    } in
    let is : seat ≡ seat_at counter c.args.seats c.args.adds n = λ i. record {
      counter = inv.table i;
      quota = c.args.adds;
      seat = inv.seat i;
      seats = inv.seats i;
      past = inv.past i;
      view = inv.view i;
    } in
    let pushed : c.push_reserved-2.new.self.items ≡ c.loop-opened.list.items ++ seat ∷ [] = search rules in
    pushed
    ∙ ap (λ (l : List SeatState). l ++ seat ∷ []) inv.items
    ∙ front_push counter c.args.seats c.args.adds n seat is
    ∙ front_all counter c.args.seats c.args.adds n all
