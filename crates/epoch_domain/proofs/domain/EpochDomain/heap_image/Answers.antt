use Rattle.std.proofs.Common.{◌≡◌, ◌+◌, ◌++◌, List, map, ap, ◌∙◌}
use Rattle.epoch_parts.specs.plain_state.declared.image.Heap.{Heap}
use Rattle.epoch_parts.specs.plain_state.Images.{IsImage, image_at}
use Rattle.epoch_parts.specs.plain_state.Lists.{Entry}
use Rattle.epoch_parts.specs.plain_state.State.{Plain}
use Rattle.epoch_rule.specs.epoch_core.core_events.Words.{each_from}
use Rattle.epoch_rule.specs.epoch_core.declared.shape.EpochShape.{EpochShape}
use Rattle.epoch_parts.specs.Pending.{deferred_of, entries}
use Rattle.epoch_domain.specs.Domains.{DomainState}
use Rattle.epoch_domain.specs.Wholes.{known_core, known_state, known_word}
use Rattle.epoch_domain.proofs.Images.{heap_words, same_state}
use Rattle.epoch_domain.proofs.Wholes.{then_ok}
use Rattle.epoch_domain.proofs.domain.EpochDomain.heap_image.Goals as goal

pub returns-clause-image : goal.returns-clause-image
returns-clause-image g c =
    let d = c.args.self.now in
    let seat = c.args.seat.now in
    let pending = entries c.args.pending.now.queues in
    let kept = c.self.invariant.same ∙ ap (λ (d : DomainState _). d.shape) c.self.view_is in
    let before = c.known_cells.new.seat in
    let heap : Heap = record {
      slots = c.slot_images.new.images;
      cells = c.known_cells.new.words;
      weak_cells = c.clear.new.self;
      deferred = c.push_deferred.new.deferred;
    } in
    then_ok (λ _. heap.deferred.items ≡ c.clear-2.new.self.items ++ map deferred_of pending)
    (λ _. IsImage (known_state d seat) heap) _
    (λ _ joined. heap_words d.shape (known_core seat.me.0) seat.me.0.core heap
    c.place_word-first.result pending c.requires.knows.sound c.requires.knows.half c.requires.first
    c.requires.idle c.requires.pending
    (c.in_ok-slot_images.ensures.images
    ∙ ap (λ (p : Plain). each_from 0 d.shape.slots (λ x. image_at p (record { 0 = x })))
    (same_state seat before c.known_cells.ensures.stays d))
    (c.in_ok-known_cells.ensures.words
    ∙ ap (λ (z : EpochShape). each_from 0 z.cells
    (λ i. known_word seat (c.place_word-first.result + i))) kept)
    c.place_word-first.ensures c.clear.ensures.items
    (joined ∙ ap (λ (es : List Entry). es ++ map deferred_of pending) c.clear-2.ensures.items))
    c.push_deferred.ensures
