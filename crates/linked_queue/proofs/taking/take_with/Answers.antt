use Rattle.std.proofs.Common.{◌≡◌, ◌∙◌, inl, inr, ap, sym, subst, arith, ◌+◌, ℕ}
use Rattle.part_calls.specs.atomic_shared.Places.{named}
use Rattle.part_calls.specs.Parts.{as_part, seen_by}
use Rattle.queue_protocol.specs.queue_law.declared.view.Item.{Item}
use Rattle.queue_protocol.specs.queue_law.declared.view.View.{View}
use Rattle.linked_queue.specs.declared.queue.PopError.{PopError}
use Rattle.linked_queue.specs.Losses.{LosesHead, LosesWith, MissesContent}
use Rattle.linked_queue.specs.Pops.{IsWhyLost, adds_of, item_in, popped_too}
use Rattle.linked_queue.specs.Queues.{deeds_in}
use Rattle.linked_queue.proofs.Attached.{content_owned}
use Rattle.linked_queue.proofs.Contents.{given_up, known_still, sees_on}
use Rattle.linked_queue.proofs.Losings.{few_up, spent_by, why_of, why_up}
use Rattle.linked_queue.proofs.Owning.{found_more}
use Rattle.linked_queue.proofs.Poppings.{item_still, leaves_on}
use Rattle.linked_queue.proofs.Readings.{beside_then, knows_both, owned_content, refused, taken, untaken}
use Rattle.linked_queue.proofs.taking.take_with.Goals as goal

pub returns-in-Err-clause-why : goal.returns-in-Err-clause-why
returns-in-Err-clause-why g c =
    let d = as_part g.P.Part.part c.args.domain.now in
    let fits = g.P.Kind.PayloadKind.fits in
    let before = seen_by g.P.Part.seen c.args.seat.now in
    let after = seen_by g.P.Part.seen c.see_content.new.seat in
    let n = adds_of c.args.field in
    let sight = c.args.sight in
    let loses = λ (seen : ℕ) (now : ℕ).
    LosesWith fits d c.args.field sight.front sight.next sight.item seen now before after in
    subst (λ (e : PopError). IsWhyLost loses n e before) (sym c.refusal_of.ensures)
    (why_of (λ seen now. MissesContent fits d c.args.field sight.item seen now before after) loses n
    c.in-Err.error before (λ seen now m. inl m) c.in-Err.ensures.why)

pub returns-in-Err-clause-spent : goal.returns-in-Err-clause-spent
returns-in-Err-clause-spent g c = λ is.
    c.in-Err.ensures.spent (spent_by c.in-Err.error (sym c.refusal_of.ensures ∙ is))

pub take-requires-clause-sees : goal.take-requires-clause-sees
take-requires-clause-sees g c =
    sees_on (named c.in-Ok.content) (seen_by g.P.Part.seen c.args.seat.now)
    (seen_by g.P.Part.seen c.see_content.new.seat) c.in-Ok.ensures.leaves
    c.see_content.ensures.client c.args.sight.front c.args.sight.next c.args.sight.item
    c.requires.sees

pub drop_found-requires-clause-found : goal.drop_found-requires-clause-found
drop_found-requires-clause-found g c =
    content_owned c.in-Ok.content c.args.seat.now.view.core.owned
    c.take.new.seat.view.core.owned
    (λ x. c.take.ensures.leaves.owns x ∙ c.in-Ok.ensures.leaves.owns x)

pub returns-in-Err-take-clause-leaves : goal.returns-in-Err-take-clause-leaves
returns-in-Err-take-clause-leaves g c =
    given_up (named c.in-Ok.content) (seen_by g.P.Part.seen c.args.seat.now)
    (seen_by g.P.Part.seen c.see_content.new.seat) (seen_by g.P.Part.seen c.take.new.seat)
    (seen_by g.P.Part.seen c.drop_found.new.seat) c.in-Ok.ensures.leaves c.take.ensures.leaves
    c.drop_found.ensures.leaves

pub returns-in-Err-take-clause-refused : goal.returns-in-Err-take-clause-refused
returns-in-Err-take-clause-refused g c =
    ap deeds_in c.drop_found.ensures.client ∙ c.in-Err-take.ensures.refused
    ∙ ap deeds_in c.see_content.ensures.client

pub returns-in-Err-take-clause-why : goal.returns-in-Err-take-clause-why
returns-in-Err-take-clause-why g c =
    let d = as_part g.P.Part.part c.args.domain.now in
    let fits = g.P.Kind.PayloadKind.fits in
    let before = seen_by g.P.Part.seen c.args.seat.now in
    let read = seen_by g.P.Part.seen c.see_content.new.seat in
    let lost = seen_by g.P.Part.seen c.take.new.seat in
    let after = seen_by g.P.Part.seen c.drop_found.new.seat in
    let n = adds_of c.args.field in
    let sight = c.args.sight in
    why_up (λ was now. (was ≡ sight.front.0 + 1)
    × LosesHead fits d sight.front sight.next now read lost)
    (λ was now. LosesWith fits d c.args.field sight.front sight.next sight.item was now before after)
    0 n c.in-Err-take.error before read
    (λ was now loses. inr (record {
      content = named c.in-Ok.content;
      read = read;
      lost = lost;
      reads = c.in-Ok.ensures.reads;
      expected = loses.0;
      loses = loses.1;
      drops = c.drop_found.ensures.drops;
    }))
    (few_up 0 n n before read c.see_content.ensures.adds c.in-Ok.ensures.leaves.same (omega arith))
    c.in-Err-take.ensures.why

pub returns-in-Err-take-clause-spent : goal.returns-in-Err-take-clause-spent
returns-in-Err-take-clause-spent g c = λ is.
    c.drop_found.ensures.spent (c.in-Err-take.ensures.spent is)

pub returns-clause-takes : goal.returns-clause-takes
returns-clause-takes g c = record {
  read = seen_by g.P.Part.seen c.see_content.new.seat;
  taken = seen_by g.P.Part.seen c.take.new.seat;
  reads = c.in-Ok.ensures.reads;
  takes = c.in_default.ensures.takes;
  empties = c.empty.ensures.stores;
}

pub returns-clause-popped : goal.returns-clause-popped
returns-clause-popped g c =
    let before = seen_by g.P.Part.seen c.args.seat.now in
    let read = seen_by g.P.Part.seen c.see_content.new.seat in
    let item = c.args.sight.item in
    let same = item_still item before read
    (known_still (named c.in-Ok.content) before read c.in-Ok.ensures.leaves
    c.see_content.ensures.client item c.requires.sees.owns) in
    ap deeds_in c.empty.ensures.client ∙ c.in_default.ensures.popped
    ∙ ap (λ (v : View). popped_too (item_in read item) (deeds_in v)) c.see_content.ensures.client
    ∙ ap (λ (i : Item). popped_too i (deeds_in before.view.client)) same

pub returns-clause-leaves : goal.returns-clause-leaves
returns-clause-leaves g c =
    let before = seen_by g.P.Part.seen c.args.seat.now in
    let read = seen_by g.P.Part.seen c.see_content.new.seat in
    let taken = seen_by g.P.Part.seen c.take.new.seat in
    let after = seen_by g.P.Part.seen c.empty.new.seat in
    leaves_on _ before taken after
    (leaves_on _ before read taken c.in-Ok.ensures.leaves c.take.ensures.leaves)
    c.empty.ensures.leaves

pub returns-in-Err-clause-beside : goal.returns-in-Err-clause-beside
returns-in-Err-clause-beside g c =
    refused g.P.Kind.PayloadKind.fits c.args.domain.now g.P.Part.seen g.P.Part.with_seen
    (g.D.Deed.next c.args.deed c.args.domain.now.protocol)
    (g.D.Deed.allows c.args.deed c.args.domain.now.protocol)
    c.args.field c.args.sight.item c.in-Err.error c.args.seat.now c.see_content.new.seat
    c.in-Err.ensures.beside

pub returns-in-Err-take-clause-beside : goal.returns-in-Err-take-clause-beside
returns-in-Err-take-clause-beside g c =
    untaken g.P.Kind.PayloadKind.fits c.args.domain.now g.P.Part.seen g.P.Part.with_seen
    (g.D.Deed.next c.args.deed c.args.domain.now.protocol)
    (g.D.Deed.allows c.args.deed c.args.domain.now.protocol)
    c.args.field c.args.sight.item c.in-Ok.content c.args.seat.now c.see_content.new.seat
    c.drop_found.new.seat c.in-Ok.ensures.beside
    (beside_then g.P.Part.with_seen c.see_content.new.seat c.take.new.seat c.drop_found.new.seat
    (record { same = c.take.ensures.beside_part; trail = c.take.ensures.leaves.trail })
    (record { same = c.drop_found.ensures.beside_part; trail = c.drop_found.ensures.leaves.trail }))

pub returns-clause-beside : goal.returns-clause-beside
returns-clause-beside g c =
    let item = c.args.sight.item in
    let before = seen_by g.P.Part.seen c.args.seat.now in
    let read = seen_by g.P.Part.seen c.see_content.new.seat in
    let took = seen_by g.P.Part.seen c.take.new.seat in
    let after = seen_by g.P.Part.seen c.empty.new.seat in
    let last = leaves_on read.view.core.owned read took after c.take.ensures.leaves
    c.empty.ensures.leaves in
    let at_read = c.in-Ok.ensures.leaves.owns item in
    let at_last = last.owns item in
    let more = found_more (named c.in-Ok.content) item before.view.core.owned c.requires.sees.owns in
    taken g.P.Kind.PayloadKind.fits c.args.domain.now g.P.Part.seen g.P.Part.with_seen
    (g.D.Deed.next c.args.deed c.args.domain.now.protocol)
    (g.D.Deed.allows c.args.deed c.args.domain.now.protocol)
    c.args.field item c.in-Ok.content c.args.seat.now c.see_content.new.seat c.empty.new.seat
    c.in-Ok.ensures.beside
    (record {
      same = c.empty.ensures.beside_part ∙ c.take.ensures.beside_part;
      trail = last.trail;
    })
    (knows_both g.P.Part.seen item (named c.in-Ok.content) read.view.core.owned
    c.see_content.new.seat c.empty.new.seat last (omega arith) (omega arith)
    (owned_content (named c.in-Ok.content) before.view.core.owned read.view.core.owned
    c.in-Ok.ensures.leaves.owns)
    (owned_content (named c.in-Ok.content) before.view.core.owned after.view.core.owned
    (λ x. last.owns x ∙ c.in-Ok.ensures.leaves.owns x)))
