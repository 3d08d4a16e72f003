use Rattle.std.proofs.Common.{⊎_elim, arith, length, ◌∙◌}
use Rattle.std.proofs.lemmas.Bool.{cases_lt}
use Rattle.plain_store.specs.Stores.{plain_of}
use Rattle.plain_store.proofs.Settlings.{freely_then}
use Rattle.plain_store.proofs.SettlingStores.{past_calm, calm_next}
use Rattle.plain_store.proofs.store.Store.sweep.Goals as goal

pub loop-i-preserved : goal.loop-i-preserved
loop-i-preserved c = record {
  settles = freely_then (plain_of c.args.self.now) (plain_of c.loop-i.self) (plain_of c.end_or_give.new.self) c.loop-i.invariant.settles c.end_or_give.ensures.settles;
  kept = c.end_or_give.ensures.kept;
  room = c.end_or_give.ensures.room;
  calm = λ s lt. calm_next (plain_of c.loop-i.self) (plain_of c.end_or_give.new.self) c.loop-i.i s c.loop-i.invariant.calm c.end_or_give.ensures.calm lt;
  slots = c.end_or_give.ensures.slots ∙ c.loop-i.invariant.slots;
}

pub returns-clause-calm : goal.returns-clause-calm
returns-clause-calm c s =
    ⊎_elim
    (λ below. c.loop-i.invariant.calm s (omega arith))
    (λ past. past_calm (plain_of c.loop-i.self) s past)
    (cases_lt s.0 (length c.loop-i.self.slots.items))
