use Rattle.std.proofs.Common.{◌≡◌, ℕ, ◌≤◌, List, length, refl, ap, sym, ◌∙◌, subst, arith}
use Rattle.std.specs.Vec.{with_items}
use Rattle.std.proofs.lemmas.List.{length-map, with_items_is}
use Rattle.plain_audit.specs.plain_state.declared.slot.SlotId.{SlotId}
use Rattle.taken_audit.specs.Parts.{AreRanks, named_slots}
use Rattle.taken_audit.specs.Placed.{at}
use Rattle.taken_audit.proofs.PartAudits.{audit_is}
use Rattle.taken_audit.proofs.PartLaws.{part_fits, part_in_range, part_lawful}
use Rattle.taken_audit.proofs.Whole.{few, is_part, part_size, rises_all}
use Rattle.taken_audit.proofs.auditing.audit_taken.Goals as goal

pub place_heap-requires : goal.place_heap-requires
place_heap-requires g c =
    let p = c.requires.taken.0 in
    let has = c.requires.taken.1 in
    record {
      rises = (
        length p.slots,
        rises_all g.W.PayloadKind.fits p c.args.taken.now c.args.heap.now
            c.args.heap.now has,
      );
      few = few g.W.PayloadKind.fits p c.args.taken.now c.args.heap.now c.args.heap.now has;
    }

pub audit-requires-clause-few : goal.audit-requires-clause-few
audit-requires-clause-few g c =
    let p = c.requires.taken.0 in
    let has = c.requires.taken.1 in
    let part = c.place_heap.new.heap in
    let size = part_size g.W.PayloadKind.fits p c.args.taken.now c.args.heap.now part has
    c.place_heap.ensures in
    let most = few g.W.PayloadKind.fits p c.args.taken.now c.args.heap.now part has in
    omega (arith, size, most)

pub audit-requires-clause-ranked : goal.audit-requires-clause-ranked
audit-requires-clause-ranked g c =
    let p = c.requires.taken.0 in
    let has = c.requires.taken.1 in
    let part = c.place_heap.new.heap in
    c.requires.ranked
    ∙ sym (part_size g.W.PayloadKind.fits p c.args.taken.now c.args.heap.now part has
    c.place_heap.ensures)

pub audit-requires-clause-range : goal.audit-requires-clause-range
audit-requires-clause-range g c =
    let p = c.requires.taken.0 in
    let has = c.requires.taken.1 in
    let part = c.place_heap.new.heap in
    part_in_range p g.W.PayloadKind.fits has.state part
    (is_part g.W.PayloadKind.fits p c.args.taken.now c.args.heap.now part has c.place_heap.ensures)

pub audit-requires-clause-lawful : goal.audit-requires-clause-lawful
audit-requires-clause-lawful g c =
    let p = c.requires.taken.0 in
    let has = c.requires.taken.1 in
    let part = c.place_heap.new.heap in
    part_lawful p g.W.PayloadKind.fits has.state part
    (is_part g.W.PayloadKind.fits p c.args.taken.now c.args.heap.now part has c.place_heap.ensures)
    has.settled

pub audit-requires-clause-fits : goal.audit-requires-clause-fits
audit-requires-clause-fits g c =
    let p = c.requires.taken.0 in
    let has = c.requires.taken.1 in
    let part = c.place_heap.new.heap in
    part_fits p g.W.PayloadKind.fits has.state part
    (is_part g.W.PayloadKind.fits p c.args.taken.now c.args.heap.now part has c.place_heap.ensures)

pub returns : goal.returns
returns g c = λ p has ranks are.
    let fits = g.W.PayloadKind.fits in
    let part = c.place_heap.new.heap in
    let e = c.in_ok-found.ensures in
    let same_size = ap length c.name_slots.ensures
    ∙ (length-map c.deref_mut.result.now (λ (s : SlotId). at c.args.taken.now s.0)
    ∙ c.deref_mut.ensures.len) in
    audit_is p fits has.state has.settled part
    (is_part fits p c.args.taken.now c.args.heap.now part has c.place_heap.ensures)
    g.W.PayloadKind.weight c.args.rank.now ranks
    (subst (λ (ts : List SlotId). AreRanks ts c.args.rank.now ranks) has.all are)
    c.in_ok-found.found (record {
      live = c.in_ok-found.found.live;
      deferred = c.in_ok-found.found.deferred;
      cyclic = c.in_ok-found.found.cyclic;
      bytes = c.in_ok-found.found.bytes;
      walk = with_items c.in_ok-found.found.walk c.name_slots.new.walk;
    }) refl refl refl refl
    (with_items_is c.in_ok-found.found.walk c.name_slots.new.walk same_size
    ∙ (c.name_slots.ensures
    ∙ (ap (named_slots c.args.taken.now) c.deref_mut.ensures.value
    ∙ ap (λ (ts : List SlotId). named_slots ts c.in_ok-found.found.walk.items) has.all)))
    e.live e.deferred e.bytes e.cyclic e.none e.walk e.round
