use Rattle.std.proofs.Common.{◌∷◌, ◌++◌, [], refl, sym, ap, ◌∙◌, arith, append-nil, append_assoc}
use Rattle.lane_work.specs.Keeping.{slots_of}
use Rattle.cell_lanes.proofs.Owning.{gives_none, gives_then, owned_next}
use Rattle.cell_lanes.proofs.keeping.give_back.Goals as goal

pub loop-keeper-init : goal.loop-keeper-init
loop-keeper-init c = record {
  ready = c.requires.ready;
  client = refl;
  first = c.requires.first;
  gone = ([], sym (append-nil c.args.keeper.now.kept.items), gives_none c.args.seat.now);
}

pub give_up-requires-clause-owned : goal.give_up-requires-clause-owned
give_up-requires-clause-owned c =
    let gone = c.loop-keeper.invariant.gone in
    owned_next c.args.first c.args.keeper.now.kept.items c.pop.new.self.items c.in-Some.handle
    gone.0 c.args.seat.now c.loop-keeper.seat
    (gone.1 ∙ ap (λ hs. hs ++ gone.0) c.in-Some.ensures.items
    ∙ append_assoc c.pop.new.self.items (c.in-Some.handle ∷ []) gone.0)
    (let t = c.loop-keeper-test.true in let e = c.len.ensures in let l = c.in-Some.ensures.len in
    omega (arith, t))
    gone.2 (c.requires.owned c.in-Some.handle.slot)

pub loop-keeper-preserved : goal.loop-keeper-preserved
loop-keeper-preserved c =
    let gone = c.loop-keeper.invariant.gone in record {
      ready = c.give_up.ensures.ready;
      client = c.give_up.ensures.client ∙ c.loop-keeper.invariant.client;
      first = let t = c.loop-keeper-test.true in let e = c.len.ensures in
          let l = c.in-Some.ensures.len in omega (arith, t);
      gone = (
        c.in-Some.handle ∷ gone.0,
        gone.1 ∙ ap (λ hs. hs ++ gone.0) c.in-Some.ensures.items
            ∙ append_assoc c.pop.new.self.items (c.in-Some.handle ∷ []) gone.0,
        gives_then (slots_of gone.0) (c.in-Some.handle.slot ∷ []) c.args.seat.now
            c.loop-keeper.seat c.give_up.new.seat gone.2 c.give_up.ensures.gives,
      );
    }
