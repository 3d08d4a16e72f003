use Rattle.std.proofs.Common.{◌∙◌, refl, ap, map}
use Rattle.script_desk.specs.Desks.{Desk}
use Rattle.script_desk.proofs.Auditing.{audit_told, walk_made, walk_named}
use Rattle.script_desk.proofs.Ranking.{are_ranks, number_of}
use Rattle.script_desk.proofs.desk.Desk.audit.Goals as goal

pub makers_of-requires : goal.makers_of-requires
makers_of-requires c =
    walk_made c.self.inside.heap c.self.inside.makers.items c.deref-3.result.now
    c.self.invariant.makers c.deref-3.ensures.value c.deref-2.result.now c.in_ok-found.found
    c.deref-4.result.now c.in_ok-found.ensures c.deref-4.ensures.value

pub returns : goal.returns
returns c =
    audit_told _ _ _ _ _ c.self.view_is c.in_ok-found.found c.in_ok-ranks.ranks.items
    c.deref-2.result.now _
    (are_ranks _ _ _ _ _ _ c.self.invariant _ c.self.view_is c.in_ok-ranks.ranks.items
    (c.in_ok-ranks.ensures ∙ ap (map number_of) c.deref.ensures.value))
    c.deref-2.ensures.value c.in_ok-found.ensures
    (record {
      live = refl;
      deferred = refl;
      cyclic = refl;
      bytes = refl;
      walk =
          walk_named c.args.self.now c.self.inside.makers.items c.deref-3.result.now
          c.deref-4.result.now c.in_ok-found.found.walk.items _
          (ap (λ (d : Desk). d.makers) c.self.view_is) c.deref-3.ensures.value
          c.deref-4.ensures.value c.in_ok-makers_of.ensures;
    })
