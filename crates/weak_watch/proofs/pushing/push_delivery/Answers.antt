use Rattle.std.proofs.Common.{ap, refl, subst}
use Rattle.control_word.specs.plain_state.declared.slot.SlotId.{SlotId}
use Rattle.control_word.specs.counted_handles.Handles.{Handle}
use Rattle.control_word.specs.core_events.Views.{without}
use Rattle.weak_watch.specs.Keeping.{Keeps}
use Rattle.weak_watch.specs.Subjects.{news_fits, seen, watch_in}
use Rattle.weak_watch.proofs.Keeping.{keeps_drop}
use Rattle.weak_watch.proofs.Pushed.{keeps_gives, push_keeps}
use Rattle.weak_watch.proofs.pushing.push_delivery.Goals as goal

pub returns-in-Ok-clause-keeps : goal.returns-in-Ok-clause-keeps
returns-in-Ok-clause-keeps g c =
    push_keeps _ _ c.args.seat.now c.push.new.seat c.in-Ok.ensures.pushed.leaves
    c.push.ensures.makes_kept c.push.ensures.makes

pub returns-in-Err-clause-keeps : goal.returns-in-Err-clause-keeps
returns-in-Err-clause-keeps g c =
    let old = c.args.seat.now in
    let late = c.push.new.seat in
    let new = c.drop_strong.new.seat in
    let s = c.in-Err.refused.back.slot in
    let first = push_keeps _ _ old late c.in-Err.ensures.refused.leaves
    c.push.ensures.makes_kept c.push.ensures.makes in (
      _,
      keeps_gives 1 first.0 c.args.delivery.slot old late new c.requires.owned first.1
          (subst (λ (x : SlotId). Keeps 0 0 (without x late.view.core.owned) late.view.core.weaks
          late new) (ap (λ (h : Handle). h.slot) c.in-Err.ensures.back)
          (keeps_drop news_fits (watch_in c.args.domain.now) s (seen late) (seen new) late new refl
          refl c.drop_strong.ensures.dropped c.drop_strong.ensures.objects)),
    )
