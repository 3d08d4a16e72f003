use Rattle.std.proofs.Common.{◌≡◌, ◌+◌, ap, ◌∙◌}
use Rattle.core_promises.specs.core_events.declared.shape.Shape.{Shape}
use Rattle.core_promises.specs.core_events.Words.{slot_at}
use Rattle.acquire_retire.specs.Domains.{DomainState}
use Rattle.acquire_retire.specs.Wholes.{IsSame, known_core, known_word, strong_image}
use Rattle.acquire_retire.proofs.Images.{read_image, same_words}
use Rattle.acquire_retire.proofs.domain.Domain.slot_image.Goals as goal

pub returns-clause-image : goal.returns-clause-image
returns-clause-image g c =
    let seat = c.args.seat.now in
    let at = c.slot_index-at.result in
    let kept = c.self.invariant.same ∙ ap (λ (d : DomainState _). d.shape) c.self.view_is in
    let strong : c.strong_image.result ≡ strong_image (known_word seat at) = cc in
    let weak : c.known_word-2.result ≡ known_word seat (at + 1) = cc in
    let first : c.known_word-3.result ≡ known_word seat (at + 2) = cc in
    let second : c.known_word-4.result ≡ known_word seat (at + 3) = cc in
    let weak_field : c.known_word-5.result ≡ known_word seat (at + 4) = cc in
    let same : IsSame seat c.known_word-5.new.seat = (cc, cc) in
    read_image c.args.self.now.shape (known_core seat.me.0) c.requires.knows.sound c.args.slot
    c.requires.slot (c.requires.knows.armed c.args.slot) at _ _ _ _ _ _
    (c.slot_index-at.ensures.at ∙ ap (λ (z : Shape). slot_at z c.args.slot.0) kept) strong weak
    first second weak_field (c.known_payload.ensures.words
    ∙ same_words seat c.known_word-5.new.seat same (at + 5) 16)
