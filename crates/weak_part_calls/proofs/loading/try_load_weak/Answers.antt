use Rattle.std.proofs.Common.{◌≡◌, ℕ, sym, subst}
use Rattle.part_calls.specs.protocol_pairs.Parts.{Accepts}
use Rattle.part_calls.specs.protocol_pairs.Shares.{owned_of}
use Rattle.part_calls.specs.Parts.{as_part, seen_by}
use Rattle.part_calls.proofs.Seen.{lifted_allows, part_seen}
use Rattle.std.specs.Prelude.{Err, IfOk}
use Rattle.control_word.proofs.Below.acquire_retire_Wholes.{then_ok}
use Rattle.control_word.specs.core_events.Words.{slot_in}
use Rattle.control_word.specs.counted_handles.declared.refusal.LoadError.TheVariants as refused
use Rattle.atomic_weak.specs.Places.{named, weak_place}
use Rattle.atomic_weak.specs.protected_loads.Loads.{Misses}
use Rattle.atomic_weak.specs.protected_loads.References.{IsReadyToLoad, Loads}
use Rattle.weak_part_calls.proofs.WeakCalls.{weak_load_beside}
use Rattle.part_calls.proofs.Readiness.{load_ready}
use Rattle.part_calls.proofs.SeenCalls.{loads_seen, misses_seen}
use Rattle.weak_part_calls.proofs.loading.try_load_weak.Goals as goal

pub try_load_weak-requires-clause-deed : goal.try_load_weak-requires-clause-deed
try_load_weak-requires-clause-deed g c =
    subst (λ e. IsReadyToLoad g.P.Kind.PayloadKind.fits c.args.domain.now
    (weak_place c.args.place)
    (λ own v step. (g.D.Deed.ready e (g.P.Part.part c.args.domain.now.protocol)) own
    (g.P.Part.seen v) step × g.P.Part.free c.args.domain.now.protocol own step
    × Accepts (g.P.Part.suits c.args.domain.now.protocol)
    (g.D.Deed.next e (g.P.Part.part c.args.domain.now.protocol)) g.P.Part.seen own v step)
    c.args.seat.now) (sym c.new.ensures)
    (load_ready g.P.Kind.PayloadKind.fits g.P.Part.part g.P.Part.seen c.args.domain.now
    (owned_of (g.Q.Protocol.owns_cell (g.P.Part.part c.args.domain.now.protocol))
    (g.Q.Protocol.owns_weak_cell (g.P.Part.part c.args.domain.now.protocol))
    (g.Q.Protocol.owns_payload (g.P.Part.part c.args.domain.now.protocol))
    (g.Q.Protocol.owns_tickets (g.P.Part.part c.args.domain.now.protocol)))
    (g.P.Part.free c.args.domain.now.protocol) (g.met.P.Part.frees c.args.domain.now.protocol)
    (g.P.Part.suits c.args.domain.now.protocol)
    (g.D.Deed.ready c.args.deed (g.P.Part.part c.args.domain.now.protocol))
    (g.D.Deed.next c.args.deed (g.P.Part.part c.args.domain.now.protocol))
    (weak_place c.args.place) c.args.seat.now
    c.requires.accepted c.requires.deed)

pub returns-clause-loaded : goal.returns-clause-loaded
returns-clause-loaded g c =
    subst (λ e. IfOk c.try_load_weak.result
    (λ found. Loads g.P.Kind.PayloadKind.fits (as_part g.P.Part.part c.args.domain.now)
    (weak_place c.args.place) (g.D.Deed.next e (g.P.Part.part c.args.domain.now.protocol))
    (g.D.Deed.allows e (g.P.Part.part c.args.domain.now.protocol)) (named found)
    (seen_by g.P.Part.seen c.args.seat.now) (seen_by g.P.Part.seen c.try_load_weak.new.seat)))
    c.new.ensures
    (then_ok _ _ c.try_load_weak.result
    (λ found l. loads_seen g.P.Kind.PayloadKind.fits g.P.Part.part g.P.Part.seen c.args.domain.now
    (part_seen g.P.Part.seen g.P.Part.with_seen g.P.Part.reads
    (g.D.Deed.next c.new.result.deed (g.P.Part.part c.args.domain.now.protocol))
    (g.D.Deed.allows c.new.result.deed (g.P.Part.part c.args.domain.now.protocol)))
    (weak_place c.args.place) (named found) c.args.seat.now c.try_load_weak.new.seat l)
    c.try_load_weak.ensures.loaded)

pub returns-clause-moved : goal.returns-clause-moved
returns-clause-moved g c =
    subst (λ e. (was now : ℕ) → c.try_load_weak.result ≡ Err (refused.Moved was now)
    → Misses g.P.Kind.PayloadKind.fits (as_part g.P.Part.part c.args.domain.now) 0
    (weak_place c.args.place) (g.D.Deed.next e (g.P.Part.part c.args.domain.now.protocol))
    (g.D.Deed.allows e (g.P.Part.part c.args.domain.now.protocol))
    (slot_in was) (slot_in now) (seen_by g.P.Part.seen c.args.seat.now)
    (seen_by g.P.Part.seen c.try_load_weak.new.seat)) c.new.ensures
    (λ was now is. misses_seen g.P.Kind.PayloadKind.fits g.P.Part.part g.P.Part.seen
    c.args.domain.now
    (part_seen g.P.Part.seen g.P.Part.with_seen g.P.Part.reads
    (g.D.Deed.next c.new.result.deed (g.P.Part.part c.args.domain.now.protocol))
    (g.D.Deed.allows c.new.result.deed (g.P.Part.part c.args.domain.now.protocol))) 0
    (weak_place c.args.place) (slot_in was) (slot_in now) c.args.seat.now
    c.try_load_weak.new.seat (c.try_load_weak.ensures.moved was now is))

pub returns-clause-beside : goal.returns-clause-beside
returns-clause-beside g c =
    let fits = g.P.Kind.PayloadKind.fits in
    weak_load_beside g.P.Part.seen g.P.Part.with_seen g.Q.Protocol.gone g.P.Part.puts_over
    fits c.args.domain.now
    (g.D.Deed.next c.new.result.deed (g.P.Part.part c.args.domain.now.protocol))
    (lifted_allows g.P.Part.seen
    (g.D.Deed.allows c.new.result.deed (g.P.Part.part c.args.domain.now.protocol)))
    c.args.seat.now c.try_load_weak.new.seat (weak_place c.args.place) c.try_load_weak.result
    c.requires.rest c.try_load_weak.ensures.refused c.try_load_weak.ensures.loaded
    c.try_load_weak.ensures.moved
