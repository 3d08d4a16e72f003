use Rattle.epoch_rule.proofs.StepKeeps as lemma
use Rattle.epoch_rule.proofs.laws.epoch_step_keeps_rule.Goals as goal

pub returns : goal.returns
returns g c = λ it deed. lemma.step_allowed (g.P.Protocol.law it) (g.P.Protocol.first it)
    g.P.Protocol.gone g.P.Kind.PayloadKind.fits (g.D.Deed.ready deed it) (g.D.Deed.next deed it)
    (g.D.Deed.allows deed it) (g.met.D.Deed.keeps deed it) (g.P.Protocol.calm it)
