use Rattle.domain_rule.proofs.StepKeeps as lemma
use Rattle.domain_rule.proofs.laws.step_keeps.Goals as goal

pub returns : goal.returns
returns g c = λ it deed. lemma.step_allowed (g.P.Protocol.law it) (g.P.Protocol.first it)
    g.P.Protocol.gone g.P.Kind.PayloadKind.fits (g.D.Deed.ready deed it) (g.D.Deed.next deed it)
    (g.D.Deed.allows deed it) (g.met.D.Deed.keeps deed it)
