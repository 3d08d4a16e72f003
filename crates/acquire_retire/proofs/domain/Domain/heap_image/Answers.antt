use Rattle.std.proofs.Common.{◌+◌, ◌++◌, List, ap, ◌∙◌}
use Rattle.plain_state.specs.declared.act.EventPlace.TheVariants.{Cell, WeakCell}
use Rattle.plain_state.specs.declared.slot.Kind.{Kind}
use Rattle.plain_state.specs.declared.slot.SlotId.{SlotId}
use Rattle.plain_state.specs.declared.image.Heap.{Heap}
use Rattle.plain_state.specs.Images.{image_at}
use Rattle.plain_state.specs.State.{Plain}
use Rattle.core_promises.specs.core_events.declared.shape.Shape.{Shape}
use Rattle.core_promises.specs.core_events.Words.{each_from}
use Rattle.core_promises.specs.core_events.Words.{place_at}
use Rattle.acquire_retire.specs.Domains.{DomainState}
use Rattle.acquire_retire.specs.Wholes.{IsSame, known_core, known_word}
use Rattle.acquire_retire.proofs.Images.{heap_words, same_state, same_words}
use Rattle.acquire_retire.proofs.domain.Domain.heap_image.Goals as goal

pub returns-clause-image : goal.returns-clause-image
returns-clause-image g c =
    let seat = c.args.seat.now in
    let z = c.args.self.now.shape in
    let kept = c.self.invariant.same ∙ ap (λ (d : DomainState _). d.shape) c.self.view_is in
    let second = c.known_words.new.seat in
    let third = c.known_words-2.new.seat in
    let before : IsSame seat second = c.known_words.ensures.stays in
    let later : IsSame second third = c.known_words-2.ensures.stays in
    let then : IsSame seat third = (later.0 ∙ before.0, later.1 ∙ before.1) in
    let heap : Heap = record {
      slots = c.slot_images.new.images;
      cells = c.known_words.new.words;
      weak_cells = c.known_words-2.new.words;
      deferred = c.extend_from_slice.new.self;
    } in
    heap_words z (known_core seat.me.0) heap c.place_index-first.result c.place_index-first-2.result
    (c.in_ok-slot_images.ensures.images
    ∙ ap (λ (p : Plain). each_from 0 z.slots (λ x. image_at p (record { 0 = x })))
    (same_state seat third then c.args.self.now))
    (c.in_ok-known_words.ensures.words
    ∙ ap (λ (y : Shape). each_from 0 y.cells
    (λ i. known_word seat (c.place_index-first.result + i))) kept)
    (c.place_index-first.ensures ∙ ap (λ (y : Shape). place_at y (Cell 0)) kept)
    (c.in_ok-known_words-2.ensures.words
    ∙ (same_words seat second before c.place_index-first-2.result c.self.inside.shape.weak_cells
    ∙ ap (λ (y : Shape). each_from 0 y.weak_cells
    (λ i. known_word seat (c.place_index-first-2.result + i))) kept))
    (c.place_index-first-2.ensures ∙ ap (λ (y : Shape). place_at y (WeakCell 0)) kept)
    (c.in_ok-extend_from_slice.ensures.items
    ∙ (ap (λ (entries : List (Kind × SlotId)). entries ++ c.args.deferred.now) c.clear.ensures.items
    ∙ c.requires.deferred))
