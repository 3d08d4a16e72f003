use Rattle.std.proofs.Common.{◌≡◌, ℕ, ◌∙◌, ap}
use Rattle.std.specs.Prelude.{◌==◌, not}
use Rattle.core_promises.specs.core_events.Words.{bit_in, bits_at}
use Rattle.acquire_retire.specs.Wholes.{known_core, known_word}
use Rattle.acquire_retire.proofs.TakenSlots.{bit_tells}
use Rattle.acquire_retire.proofs.domain.Domain.is_taken.Goals as goal

pub returns-clause-taken : goal.returns-clause-taken
returns-clause-taken g c =
    let seat = c.args.seat.now in
    let word : c.known_word-bits.result ≡ known_word seat (bits_at c.args.self.now.shape c.args.slot) = cc in
    let bit : c.has_bit.result ≡ (bit_in c.args.slot c.known_word-bits.result == 1) = c.has_bit.ensures in
    ap (λ b. not b) (bit ∙ ap (λ (w : ℕ). bit_in c.args.slot w == 1) word)
    ∙ bit_tells c.args.self.now.shape (known_core seat.me.0) c.args.slot c.requires.slot
