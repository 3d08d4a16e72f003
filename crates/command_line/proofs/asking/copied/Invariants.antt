use Rattle.std.proofs.Common.{◌≡◌, ℕ, List, map, string_bytes, take, Bor}
use Rattle.command_line.proofs.asking.copied.Given as goal

-- the texts so far
abbrev pub invariant-loop-text : goal.invariant-loop-text
invariant-loop-text l = map string_bytes l.names.items ≡ map (λ (v : Bor (List ℕ)). v.now) (take l.text-index l.fn.texts)
