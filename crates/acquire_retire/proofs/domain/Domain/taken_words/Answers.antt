use Rattle.std.proofs.Common.{◌+◌, ◌<◌, ◌++◌, List, map, ap, sym, ◌∙◌}
use Rattle.std.proofs.lemmas.List.Elements.{All-same}
use Rattle.plain_state.specs.declared.act.EventPlace.TheVariants.{Cell, WeakCell}
use Rattle.plain_state.specs.declared.slot.Kind.{Kind}
use Rattle.plain_state.specs.declared.slot.SlotId.{SlotId}
use Rattle.plain_state.specs.Images.{image_at}
use Rattle.plain_state.specs.State.{Plain}
use Rattle.core_promises.specs.core_events.declared.shape.Shape.{Shape}
use Rattle.core_promises.specs.core_events.Words.{each_from, place_at}
use Rattle.acquire_retire.specs.Domains.{DomainState}
use Rattle.acquire_retire.specs.Taken.{taken_below}
use Rattle.acquire_retire.specs.Wholes.{IsSame, known_core, known_state, known_word}
use Rattle.acquire_retire.proofs.Images.{cell_words, same_state, same_words, slots_shown, weak_cell_words}
use Rattle.acquire_retire.proofs.TakenSlots.{taken_within}
use Rattle.acquire_retire.proofs.domain.Domain.taken_words.Goals as goal

pub images_of-requires-clause-slots : goal.images_of-requires-clause-slots
images_of-requires-clause-slots g c =
    let z = c.args.self.now.shape in
    All-same (λ (s : SlotId). s.0 < z.slots) c.deref.result.now c.taken_slots.new.taken.items
    c.deref.ensures.value
    (All-same (λ (s : SlotId). s.0 < z.slots) c.taken_slots.new.taken.items
    (taken_below (known_state c.args.self.now c.known_words-2.new.seat) z.slots)
    c.in_ok-taken_slots.ensures.taken
    (taken_within (known_state c.args.self.now c.known_words-2.new.seat) z.slots))

pub returns-clause-taken : goal.returns-clause-taken
returns-clause-taken g c =
    let z = c.args.self.now.shape in
    let p : Plain = known_state c.args.self.now c.args.seat.now in
    let seat = c.args.seat.now in
    let second = c.known_words.new.seat in
    let third = c.known_words-2.new.seat in
    let before : IsSame seat second = c.known_words.ensures.stays in
    let later : IsSame second third = c.known_words-2.ensures.stays in
    let then : IsSame seat third = (later.0 ∙ before.0, later.1 ∙ before.1) in
    c.in_ok-taken_slots.ensures.taken
    ∙ (ap (λ (q : Plain). taken_below q z.slots) (same_state seat third then c.args.self.now)
    ∙ ap (taken_below p) (sym (slots_shown z (known_core seat.me.0))))

pub returns-clause-words : goal.returns-clause-words
returns-clause-words g c =
    let seat = c.args.seat.now in
    let z = c.args.self.now.shape in
    let kept = c.self.invariant.same ∙ ap (λ (d : DomainState _). d.shape) c.self.view_is in
    let second = c.known_words.new.seat in
    let third = c.known_words-2.new.seat in
    let fourth = c.taken_slots.new.seat in
    let before : IsSame seat second = c.known_words.ensures.stays in
    let later : IsSame second third = c.known_words-2.ensures.stays in
    let last : IsSame third fourth = c.taken_slots.ensures.stays in
    let then : IsSame seat fourth = (last.0 ∙ (later.0 ∙ before.0), last.1 ∙ (later.1 ∙ before.1)) in
    record {
      slots = c.in_ok-images_of.ensures.images
          ∙ (ap (λ (p : Plain). map (image_at p) c.deref.result.now)
          (same_state seat fourth then c.args.self.now)
          ∙ ap (map (image_at (known_state c.args.self.now seat))) c.deref.ensures.value);
      cells = cell_words z (known_core seat.me.0) c.known_words.new.words.items
          c.place_index-first.result
          (c.in_ok-known_words.ensures.words
          ∙ ap (λ (y : Shape). each_from 0 y.cells
          (λ i. known_word seat (c.place_index-first.result + i))) kept)
          (c.place_index-first.ensures ∙ ap (λ (y : Shape). place_at y (Cell 0)) kept);
      weak_cells = weak_cell_words z (known_core seat.me.0) c.known_words-2.new.words.items
          c.place_index-first-2.result
          (c.in_ok-known_words-2.ensures.words
          ∙ (same_words seat second before c.place_index-first-2.result
          c.self.inside.shape.weak_cells
          ∙ ap (λ (y : Shape). each_from 0 y.weak_cells
          (λ i. known_word seat (c.place_index-first-2.result + i))) kept))
          (c.place_index-first-2.ensures ∙ ap (λ (y : Shape). place_at y (WeakCell 0)) kept);
      deferred = c.in_ok-extend_from_slice.ensures.items
          ∙ (ap (λ (entries : List (Kind × SlotId)). entries ++ c.args.deferred.now)
          c.clear.ensures.items
          ∙ c.requires.deferred);
    }
