use Rattle.std.proofs.Common.{◌≡◌, rules}
use Rattle.epoch_rule.specs.epoch_core.Words.{first_words}
use Rattle.epoch_domain.proofs.Openings.{begun_domain, begun_kept}
use Rattle.epoch_domain.proofs.domain.EpochDomain.begin.Goals as goal

pub of_words-requires : goal.of_words-requires
of_words-requires g c =
    let quotas : c.in_ok-to_vec.field-0.items ≡ c.args.quotas.now = search rules in
    let are : c.as_slice.result.now ≡ first_words c.args.shape = search rules in
    begun_kept (g.P.Protocol.law c.args.protocol) (g.P.Protocol.first c.args.protocol) g.P.Protocol.gone
    g.P.Kind.PayloadKind.fits c.args.shape c.args.quotas.now _ _ c.requires.shape
    c.requires.quotas quotas are (g.P.Protocol.start c.args.protocol)

pub invariant_of-result : goal.invariant_of-result
invariant_of-result g c =
    let are : c.as_slice.result.now ≡ first_words c.args.shape = search rules in
    let told = c.in_ok-table.ensures in
    begun_domain c.args.shape _ c.args.quotas.now _ _ _ _ c.requires.shape
    c.requires.quotas (search rules) (search rules)
    (search rules) are told.0 told.1
