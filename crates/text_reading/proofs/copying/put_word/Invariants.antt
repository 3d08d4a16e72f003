use Rattle.std.specs.Prelude.{◌≡◌, ◌+◌, ◌-◌, ◌++◌, take}
use Rattle.directory_calls.specs.directory_law.Bytes.{low_bytes}
use Rattle.text_reading.proofs.copying.put_word.Given as goal

abbrev pub invariant-loop-index : goal.invariant-loop-index
invariant-loop-index l =
    take (l.from + l.index) l.out ++ low_bytes (l.count - l.index) l.rest
    ≡ take l.from l.fn.out ++ low_bytes l.count l.word
