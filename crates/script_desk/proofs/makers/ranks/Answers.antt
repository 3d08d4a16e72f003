use Rattle.std.proofs.Common.{rules}
use Rattle.script_desk.proofs.Ranking.{mapped_all, mapped_more, number_of}
use Rattle.script_desk.proofs.makers.ranks.Goals as goal

pub loop-maker-preserved : goal.loop-maker-preserved
loop-maker-preserved c = record {
  so_far =
      mapped_more number_of c.args.makers.now c.loop-maker.maker-index c.maker-item.result
      c.maker-item.result c.number.result c.loop-maker.ranks.items c.push_reserved.new.self.items
      c.loop-maker-test.true c.maker-item.is c.number.ensures c.loop-maker.invariant.so_far
      c.push_reserved.ensures.items;
  room = search rules;
}

pub returns : goal.returns
returns c =
    mapped_all number_of c.args.makers.now c.loop-maker.maker-index c.loop-maker.ranks.items
    c.loop-maker-test.false c.loop-maker.invariant.so_far
