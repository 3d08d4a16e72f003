use Rattle.std.specs.Prelude.{◌≡◌, ◌≤◌, ◌+◌, ◌*◌, ◌-◌, ◌++◌, drop, take}
use Rattle.directory_calls.specs.directory_law.Bytes.{bytes_of_words, piece_bytes}
use Rattle.text_reading.proofs.copying.put_payload.Given as goal

abbrev pub invariant-loop-word : goal.invariant-loop-word
invariant-loop-word l =
    (l.at + l.left ≡ l.from + l.count) × (l.left ≤ 8 * (16 - l.word))
    × (take l.at l.out ++ bytes_of_words l.left (drop l.word l.payload)
    ≡ take l.from l.fn.out ++ piece_bytes l.count l.payload)
