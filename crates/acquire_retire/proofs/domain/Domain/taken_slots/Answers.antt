use Rattle.std.proofs.Common.{◌≡◌, true, false, [], ◌∷◌, ◌++◌, ap, ◌∙◌, rules, Vec, Global}
use Rattle.plain_state.specs.declared.slot.SlotId.{SlotId}
use Rattle.plain_state.specs.State.{Plain, stage_at}
use Rattle.acquire_retire.specs.Taken.{is_taken}
use Rattle.acquire_retire.specs.Wholes.{known_state}
use Rattle.acquire_retire.proofs.Images.{same_state}
use Rattle.acquire_retire.proofs.TakenSlots.{taken_more, taken_same}
use Rattle.acquire_retire.proofs.domain.Domain.taken_slots.Goals as goal
use Rattle.acquire_retire.proofs.domain.Domain.taken_slots.Goals.{then-is_taken+in_ok-push, else-is_taken}

pub loop-slot-preserved : goal.loop-slot-preserved
loop-slot-preserved g c =
    let p : Plain = known_state c.args.self.now c.args.seat.now in
    let test : c.is_taken.result ≡ is_taken (stage_at p (record { 0 = c.loop-slot.slot })) =
    c.is_taken.ensures.taken
    ∙ ap (λ (q : Plain). is_taken (stage_at q (record { 0 = c.loop-slot.slot })))
    (same_state c.args.seat.now c.loop-slot.seat c.loop-slot.invariant.same c.args.self.now) in
    record {
      same = search rules;
      taken = elim c.if-is_taken.branch [
        | then-is_taken+in_ok-push w ↦
            let is : c.is_taken.result ≡ true = cc in
            let more : c.if-is_taken.taken.items
            ≡ c.loop-slot.taken.items ++ (record { 0 = c.loop-slot.slot }) ∷ [] =
            ap (λ (v : Vec SlotId Global). v.items) w.taken-is ∙ w.in_ok-push.ensures.items in
            taken_more p c.loop-slot.slot c.loop-slot.taken.items c.if-is_taken.taken.items
            c.is_taken.result test c.loop-slot.invariant.taken is more
        | else-is_taken w ↦
            let is : c.is_taken.result ≡ false = cc in
            let same : c.if-is_taken.taken.items ≡ c.loop-slot.taken.items =
            ap (λ (v : Vec SlotId Global). v.items) w.taken-is in
            taken_same p c.loop-slot.slot c.loop-slot.taken.items c.if-is_taken.taken.items
            c.is_taken.result test c.loop-slot.invariant.taken is same
      ];
    }
