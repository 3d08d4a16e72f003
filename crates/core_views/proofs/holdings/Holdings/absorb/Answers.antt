use Rattle.core_views.proofs.holdings.Holdings.absorb.Goals as goal

pub returns-clause-ok : goal.returns-clause-ok
returns-clause-ok c =
    rw (
      ← c.self.view_is,
      ← c.leaver.view_is,
      c.room_for.ensures,
      c.move_all.ensures.taken,
      c.reserve.ensures.items,
      c.move_all-2.ensures.taken,
      c.reserve-2.ensures.items,
      c.move_all-3.ensures.taken,
      c.reserve-3.ensures.items,
      c.move_all-4.ensures.taken,
      c.reserve-4.ensures.items,
      c.move_all-5.ensures.taken,
      c.reserve-5.ensures.items,
      c.move_all-6.ensures.taken,
      c.reserve-6.ensures.items,
      c.push_reserved.ensures.items,
      c.reserve-7.ensures.items,
      c.replace.ensures.value,
      c.replace-2.ensures.value,
    )
