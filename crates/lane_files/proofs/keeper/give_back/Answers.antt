use Rattle.std.proofs.Common.{◌∷◌, ◌++◌, [], refl, sym, ap, ◌∙◌, arith, append-nil, append_assoc}
use Rattle.lane_files.proofs.Copied.{copy_ready}
use Rattle.lane_files.proofs.SeatsKept.{drop_counts, owns_drop}
use Rattle.lane_files.proofs.Giving.{gives_next, gives_none, owned_next}
use Rattle.lane_files.proofs.keeper.give_back.Goals as goal

pub loop-keeper-init : goal.loop-keeper-init
loop-keeper-init c = record {
  ready = c.requires.ready;
  client = refl;
  makes = refl;
  first = c.requires.first;
  gone = ([], sym (append-nil c.args.keeper.now.kept.items), gives_none c.args.seat.now);
}

pub drop_strong-requires-clause-owned : goal.drop_strong-requires-clause-owned
drop_strong-requires-clause-owned c =
    let gone = c.loop-keeper.invariant.gone in
    owned_next c.args.first c.args.keeper.now.kept.items c.pop.new.self.items c.in-Some.handle
    gone.0
    (gone.1 ∙ ap (λ hs. hs ++ gone.0) c.in-Some.ensures.items
    ∙ append_assoc c.pop.new.self.items (c.in-Some.handle ∷ []) gone.0)
    (let t = c.loop-keeper-test.true in let e = c.len.ensures in let l = c.in-Some.ensures.len in
    omega (arith, t))
    c.args.seat.now c.loop-keeper.seat gone.2 (c.requires.owned c.in-Some.handle.slot)

pub loop-keeper-preserved : goal.loop-keeper-preserved
loop-keeper-preserved c =
    let gone = c.loop-keeper.invariant.gone in
    let drops = owns_drop _ c.args.domain.now c.in-Some.handle.slot c.loop-keeper.seat
    c.drop_strong.new.seat c.drop_strong.ensures.dropped c.drop_strong.ensures.objects in
    record {
      ready = copy_ready c.loop-keeper.seat c.drop_strong.new.seat c.loop-keeper.invariant.ready drops
          c.drop_strong.ensures.client
          (c.drop_strong.ensures.room c.loop-keeper.invariant.ready.room)
          c.drop_strong.ensures.rest;
      client = c.drop_strong.ensures.client ∙ c.loop-keeper.invariant.client;
      makes = (drop_counts _ c.args.domain.now c.in-Some.handle.slot c.loop-keeper.seat
          c.drop_strong.new.seat c.drop_strong.ensures.dropped).1 ∙ c.loop-keeper.invariant.makes;
      first = let t = c.loop-keeper-test.true in let e = c.len.ensures in
          let l = c.in-Some.ensures.len in omega (arith, t);
      gone = (
        c.in-Some.handle ∷ gone.0,
        gone.1 ∙ ap (λ hs. hs ++ gone.0) c.in-Some.ensures.items
            ∙ append_assoc c.pop.new.self.items (c.in-Some.handle ∷ []) gone.0,
        gives_next c.in-Some.handle gone.0 c.args.seat.now c.loop-keeper.seat
            c.drop_strong.new.seat gone.2 (drop_strong-requires-clause-owned c.before) drops,
      );
    }
