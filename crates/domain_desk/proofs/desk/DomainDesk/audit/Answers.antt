use Rattle.std.proofs.Common.{refl}
use Rattle.domain_desk.proofs.Audited.{audit_acts, ranked_here, ranks_here, walk_here}
use Rattle.domain_desk.proofs.desk.DomainDesk.audit.Goals as goal

pub audit_lone-requires-clause-ranked : goal.audit_lone-requires-clause-ranked
audit_lone-requires-clause-ranked g c =
    ranked_here _ _ c.self.view_is c.requires.kept c.deref.result.now c.deref.ensures.value
    c.in_ok-ranks.ranks.items c.in_ok-ranks.ensures c.deref-2.result.now c.deref-2.ensures.value

pub makers_of-requires : goal.makers_of-requires
makers_of-requires g c =
    walk_here _ _ c.self.view_is c.requires.kept c.audit_lone.new.seat
    (c.audit_lone.ensures.ready, c.audit_lone.ensures.notes) c.audit_lone.ensures.same
    c.deref-2.result.now c.in_ok-found.found c.in_ok-found.ensures.found c.deref-3.result.now
    c.deref-3.ensures.value c.deref-4.result.now c.deref-4.ensures.value

pub returns-clause-acts : goal.returns-clause-acts
returns-clause-acts g c =
    audit_acts _ _ c.self.view_is c.requires.kept c.audit_lone.new.seat
    (c.audit_lone.ensures.ready, c.audit_lone.ensures.notes) c.audit_lone.ensures.same
    c.deref-2.result.now c.in_ok-found.found c.in_ok-found.ensures.found c.deref-3.result.now
    c.deref-3.ensures.value c.deref-4.result.now c.deref-4.ensures.value
    c.in_ok-ranks.ranks.items _
    (ranks_here _ _ c.self.view_is c.requires.kept c.deref.result.now c.deref.ensures.value
    c.in_ok-ranks.ranks.items c.in_ok-ranks.ensures)
    c.deref-2.ensures.value refl refl refl refl c.in_ok-makers_of.ensures
