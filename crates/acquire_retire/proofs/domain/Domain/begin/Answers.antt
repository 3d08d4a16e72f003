use Rattle.std.proofs.Common.{◌≡◌, rules}
use Rattle.core_promises.specs.core_events.Words.{first_words}
use Rattle.acquire_retire.proofs.Openings.{begun_domain, begun_kept, same_terms}
use Rattle.acquire_retire.proofs.domain.Domain.begin.Goals as goal

pub of_words-requires : goal.of_words-requires
of_words-requires g c =
    let quotas : c.in_ok-to_vec.field-0.items ≡ c.args.quotas.now = search rules in
    let grants : c.in_ok-to_vec-2.field-0.items ≡ c.args.grants.now = search rules in
    let are : c.as_slice.result.now ≡ first_words c.args.shape = search rules in
    begun_kept (g.P.Protocol.law c.args.protocol) (g.P.Protocol.first c.args.protocol) g.P.Protocol.gone
    g.P.Kind.PayloadKind.fits c.args.shape
    (record { quotas = c.args.quotas.now; grants = c.args.grants.now }) _ _ c.requires.shape
    c.requires.terms (same_terms _ _ _ _ quotas grants) are (g.P.Protocol.start c.args.protocol)

pub invariant_of-result : goal.invariant_of-result
invariant_of-result g c =
    let are : c.as_slice.result.now ≡ first_words c.args.shape = search rules in
    let told = c.in_ok-table.ensures in
    begun_domain c.args.shape
    (record { quotas = c.args.quotas.now; grants = c.args.grants.now }) _ _ _ _ _ _ c.requires.shape
    c.requires.terms (search rules)
    (same_terms _ c.args.quotas.now _ c.args.grants.now (search rules) (search rules))
    (search rules) c.slot_index-first_slot.ensures.at are told.0
    told.1
