use Rattle.std.proofs.Common.{◌≡◌, ◌+◌, ◌∙◌}
use Rattle.epoch_domain.specs.Wholes.{IsSame, known_core, known_word, strong_image, weak_image}
use Rattle.epoch_domain.proofs.Images.{read_image, same_words}
use Rattle.epoch_domain.proofs.domain.EpochDomain.slot_image.Goals as goal

pub returns-clause-image : goal.returns-clause-image
returns-clause-image g c =
    let seat = c.args.seat.now in
    let at = c.slot_word-at.result in
    let strong : c.strong_image.result ≡ strong_image (known_word seat at) = cc in
    let weak : c.weak_image.result ≡ weak_image (known_word seat at) = cc in
    let first : c.known_word.result ≡ known_word seat (at + 1) = cc in
    let second : c.known_word-2.result ≡ known_word seat (at + 2) = cc in
    let same : IsSame seat c.known_word-2.new.seat = (cc, cc) in
    read_image c.args.self.now.shape (known_core seat.me.0) c.requires.knows.sound c.args.slot
    c.requires.slot at _ _ _ _ _ c.slot_word-at.ensures.at strong weak first second
    (c.known_payload.ensures.words ∙ same_words seat c.known_word-2.new.seat same (at + 3) 16)
