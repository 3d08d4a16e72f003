use Rattle.std.proofs.Common.{arith, ap, ℕ, ◌+◌}
use Rattle.plain_store.specs.Stores.{plain_of}
use Rattle.plain_store.proofs.Settlings.{then_settles}
use Rattle.plain_store.proofs.SettlingRounds.{drained_none, drained_more, drained_on, object_fits, total_fits, less_destroyed, less_looked, same_deferred, same_needed, all_settled}
use Rattle.cdrc_plain.proofs.heap_settle.drain.Goals as goal

pub loop-payload-init : goal.loop-payload-init
loop-payload-init g c =
    let W = g.W.PayloadKind in
    drained_none W.fits W.weight c.args.store.now c.requires.kept c.requires.room c.requires.calm

pub weigh-total-requires : goal.weigh-total-requires
weigh-total-requires g c =
    let W = g.W.PayloadKind in
    object_fits W.fits W.weight g.met.W.PayloadKind.bounded c.args.store.now c.loop-payload.store c.loop-payload.total c.in-Some.payload
    c.requires.kept c.requires.fit c.loop-payload.invariant.settles c.in-Some.ensures.object

pub overflow_add-total : goal.overflow_add-total
overflow_add-total g c =
    let W = g.W.PayloadKind in
    let t = c.loop-payload.total + c.weigh-total.result in
    let fits =
    total_fits W.fits W.weight g.met.W.PayloadKind.bounded c.args.store.now c.destroy_next.new.self t c.requires.kept c.requires.fit
    (then_settles W.weight (plain_of c.args.store.now) (plain_of c.loop-payload.store) (plain_of c.destroy_next.new.self)
    c.loop-payload.total (W.weight c.in-Some.payload) t c.loop-payload.invariant.settles (c.in-Some.ensures.some W.weight)
    (ap (λ (n : ℕ). c.loop-payload.total + n) c.weigh-total.ensures)) in
    omega (arith, fits)

pub loop-payload-smaller-in-Some : goal.loop-payload-smaller-in-Some
loop-payload-smaller-in-Some g c =
    less_destroyed c.loop-payload.store c.destroy_next.new.self c.in-Some.payload c.loop-payload.stays c.loop-payload.invariant.kept
    c.loop-payload.invariant.looked c.in-Some.ensures.some c.destroy_next.ensures.deferred

pub loop-payload-preserved-in-Some : goal.loop-payload-preserved-in-Some
loop-payload-preserved-in-Some g c =
    let W = g.W.PayloadKind in
    drained_more W.fits W.weight c.args.store.now c.loop-payload.store c.destroy_next.new.self c.loop-payload.total
    (c.loop-payload.total + c.weigh-total.result) c.loop-payload.stays c.in-Some.payload c.loop-payload.invariant c.in-Some.ensures.some
    (ap (λ (n : ℕ). c.loop-payload.total + n) c.weigh-total.ensures)
    c.destroy_next.ensures.kept c.destroy_next.ensures.room c.destroy_next.ensures.calm c.destroy_next.ensures.deferred c.destroy_next.ensures.snapshots

pub loop-payload-smaller : goal.loop-payload-smaller
loop-payload-smaller g c =
    less_looked c.loop-payload.store c.destroy_next.new.self c.eject_or_keep-stays.new.self c.loop-payload.stays c.eject_or_keep-stays.result
    c.in_default.ensures.none.0 c.destroy_next.ensures.kept c.eject_or_keep-stays.ensures.settles c.eject_or_keep-stays.ensures.stays
    c.loop-payload.invariant.looked c.eject_or_keep-stays.ensures.fewer

pub loop-payload-preserved : goal.loop-payload-preserved
loop-payload-preserved g c =
    let W = g.W.PayloadKind in
    drained_on W.fits W.weight c.args.store.now c.loop-payload.store c.destroy_next.new.self c.eject_or_keep-stays.new.self
    c.loop-payload.total c.loop-payload.stays c.eject_or_keep-stays.result c.loop-payload.invariant c.in_default.ensures.none.0
    c.eject_or_keep-stays.ensures.settles c.eject_or_keep-stays.ensures.kept c.eject_or_keep-stays.ensures.room
    c.eject_or_keep-stays.ensures.calm c.eject_or_keep-stays.ensures.stays c.eject_or_keep-stays.ensures.needed

pub returns-else-stays-len-clause-settled : goal.returns-else-stays-len-clause-settled
returns-else-stays-len-clause-settled g c =
    let e = c.in_default.ensures.none in
    let same = same_deferred c.loop-payload.store c.destroy_next.new.self e.0 in
    all_settled c.destroy_next.new.self c.loop-payload.stays c.destroy_next.ensures.calm
    (same_needed c.loop-payload.store c.destroy_next.new.self c.loop-payload.stays e.0 c.loop-payload.invariant.needed)
    (omega (arith, same, c.loop-payload.invariant.looked, c.if-stays-len.false, c.len.ensures)) e.1
