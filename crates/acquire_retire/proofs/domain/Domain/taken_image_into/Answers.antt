use Rattle.std.proofs.Common.{◌≡◌, ◌∙◌, ap, subst}
use Rattle.plain_state.specs.State.{Plain}
use Rattle.acquire_retire.specs.Taken.{HasWords, IsTakenImage, taken_slots}
use Rattle.acquire_retire.specs.Wholes.{known_state}
use Rattle.acquire_retire.proofs.Images.{same_state}
use Rattle.acquire_retire.proofs.Wholes.{both_ok, whole_taken}
use Rattle.acquire_retire.proofs.domain.Domain.taken_image_into.Goals as goal

pub returns-clause-image : goal.returns-clause-image
returns-clause-image g c =
    let d = c.args.self.now in
    let fits = g.P.Kind.PayloadKind.fits in
    let seat = c.seat.inside.seat in
    let taken = c.taken_words.new.taken.items in
    let heap = c.taken_words.new.heap in
    let same = same_state seat c.learn.new.seat c.learn.ensures.stays d in
    both_ok (λ _. taken ≡ taken_slots (known_state d c.learn.new.seat))
    (λ _. HasWords (known_state d c.learn.new.seat) taken heap)
    (λ _. IsTakenImage fits c.args.seat.now.view taken heap) _
    (λ _ all words. whole_taken d fits seat c.args.seat.now c.seat.view_is c.requires.seat.1
    c.learn.ensures.knows taken heap (all ∙ ap taken_slots same)
    (subst (λ (p : Plain). HasWords p taken heap) same words))
    c.taken_words.ensures.taken c.taken_words.ensures.words
