use Rattle.std.proofs.Common.{◌≡◌, true, ◌++◌, ◌∷◌, [], List, Bool, refl, sym, ap, ◌∙◌}
use Rattle.std.specs.Prelude.{◌==◌, cond}
use Rattle.std.specs.HashSet.{contains_by}
use Rattle.plain_state.specs.declared.slot.SlotId.{SlotId}
use Rattle.counted_handles.specs.Handles.{Handle}
use Rattle.lane_work.specs.Keeping.{has}
use Rattle.lane_work.proofs.Admitting.{comes_back, is_kept}
use Rattle.lane_work.proofs.keeper.Keeper.admit.Goals as goal

pub returns-then-contains-clause-admits : goal.returns-then-contains-clause-admits
unfolding has
returns-then-contains-clause-admits c =
    comes_back c.args.handle c.args.self.now c.args.self.now
    (ap (λ (s : SlotId). contains_by (λ n. s.0 == n) c.args.self.now.in_file)
    (sym c.slot-slot.ensures) ∙ sym c.contains.ensures ∙ c.if-contains.true)
    refl

pub returns-clause-admits : goal.returns-clause-admits
unfolding has
returns-clause-admits c =
    is_kept c.args.handle c.args.self.now _
    (ap (λ (s : SlotId). contains_by (λ n. s.0 == n) c.args.self.now.in_file)
    (sym c.slot-slot.ensures) ∙ sym c.contains.ensures ∙ c.if-contains.false)
    (c.push_reserved.ensures.items
    ∙ ap (λ (hs : List Handle). hs ++ c.args.handle ∷ []) c.mark.ensures.kept)
    (λ s. c.in_default.ensures.marks s
    ∙ ap (λ (t : SlotId). cond (t.0 == s.0) true (has c.args.self.now s)) c.slot-slot.ensures)
