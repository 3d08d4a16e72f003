use Rattle.std.proofs.Common.{◌∙◌, sym, rules}
use Rattle.std.proofs.lemmas.List.{with_items_is}
use Rattle.cdrc_core.proofs.Leaving.{front_room, left_state, same_length}
use Rattle.cdrc_core.proofs.table.Table.leave.Goals as goal

pub take_over-requires : goal.take_over-requires
take_over-requires c =
    let kept = rw (← c.self.view_is) at c.requires.kept in
    let so = kept.sound in
    let on = rw (← c.self.view_is) at c.requires.enabled in
    front_room _ _ _ so on _ _
    (sym c.deref_mut.ensures.value ∙ c.split_at_mut-front.ensures.value)
    c.split_at_mut-front.ensures.front_len _

pub returns-clause-ok : goal.returns-clause-ok
returns-clause-ok c =
    let kept = rw (← c.self.view_is) at c.requires.kept in
    let so = kept.sound in
    let on = rw (← c.self.view_is) at c.requires.enabled in
    let whole = sym c.deref_mut.ensures.value ∙ c.split_at_mut-front.ensures.value in
    left_state _ _ _ _ c.self.view_is so on _ _ whole c.split_at_mut-front.ensures.front_len
    _ _ _ _ _
    (with_items_is c.self.inside.seats _
    (same_length _ _ _ _ whole (search rules) c.take_over.new.self c.take_over.new.leaver))
    _ c.take_over.ensures.ok c.take_over.ensures.left
