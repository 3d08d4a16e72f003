use Rattle.std.proofs.Common.{◌∙◌, refl, ap, map, string_bytes, rules}
use Rattle.std.proofs.lemmas.List.{map_push}
use Rattle.plain_audit.specs.plain_state.declared.slot.SlotId.{SlotId}
use Rattle.script_desk.specs.Desks.{maker_at}
use Rattle.script_desk.proofs.Ranking.{mapped_all, mapped_more}
use Rattle.script_desk.proofs.makers.makers_of.Goals as goal

pub loop-slot-preserved : goal.loop-slot-preserved
loop-slot-preserved c = record {
  so_far =
      mapped_more (λ (s : SlotId). (maker_at c.args.makers.now s).name) c.args.slots.now
      c.loop-slot.slot-index _ _ (string_bytes c.in_ok-from_str.field-0)
      (map string_bytes c.loop-slot.names.items)
      (map string_bytes c.push_reserved.new.self.items) c.loop-slot-test.true refl
      (c.in_ok-from_str.ensures.ok ∙ c.maker_name.ensures) c.loop-slot.invariant.so_far
      (ap (λ l. map string_bytes l) c.push_reserved.ensures.items
      ∙ map_push string_bytes c.loop-slot.names.items c.in_ok-from_str.field-0);
  room = search rules;
}

pub returns : goal.returns
returns c =
    mapped_all (λ (s : SlotId). (maker_at c.args.makers.now s).name) c.args.slots.now
    c.loop-slot.slot-index (map string_bytes c.loop-slot.names.items) c.loop-slot-test.false
    c.loop-slot.invariant.so_far
