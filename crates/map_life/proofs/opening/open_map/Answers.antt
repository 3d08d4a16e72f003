use Rattle.std.proofs.Common.{◌+◌, ◌<◌, ◌∙◌, ap, arith, subst, sym}
use Rattle.version_map.proofs.Playing.{begins}
use Rattle.map_life.proofs.opening.open_map.Goals as goal

pub returns-clause-over : goal.returns-clause-over
returns-clause-over c =
    let known = c.in_ok-opened.ensures in (
      record {
        law = sym (ap (λ x. x.protocol.cell) known.domain ∙ c.over.ensures);
        there = subst (λ z. 0 < z) (sym (ap (λ x. x.shape.cells) known.domain)) (omega arith);
      },
      ap (λ x. x.shape.cells) known.domain,
    )

pub returns-clause-root : goal.returns-clause-root
returns-clause-root c =
    let fresh = c.in_ok-opened.ensures.first in (
      begins c.in_ok-opened.opened.domain c.in_ok-opened.opened.root 0 fresh.free.rest
          fresh.free.room fresh.free.notes fresh.owns.0 fresh.owns.1 fresh.client,
      c.in_ok-opened.ensures.root,
    )

pub returns-clause-others : goal.returns-clause-others
returns-clause-others c k other low =
    let fresh = c.in_ok-opened.ensures.others k other low in
    begins c.in_ok-opened.opened.domain _ (k + 1) fresh.free.rest fresh.free.room fresh.free.notes
    fresh.owns.0 fresh.owns.1 fresh.client
