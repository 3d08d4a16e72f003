-- The words that begin a line.
use Rattle.std.specs.Prelude.{ℕ, List, codes}
use Rattle.script_lines.specs.declared.verb.Verb.{Verb}
use Rattle.script_lines.specs.declared.verb.Verb.TheVariants.{Heap, Make, Copy, Drop, Weaken, CopyWeak, DropWeak, Upgrade, Put, Clear, Load, Replace, Snap, EndSnapshot, Keep, Read, Counts, Audit}

-- the word
abbrev pub spelling : Verb → List ℕ
spelling Heap = codes "heap"
spelling Make = codes "make"
spelling Copy = codes "copy"
spelling Drop = codes "drop"
spelling Weaken = codes "weaken"
spelling CopyWeak = codes "wcopy"
spelling DropWeak = codes "unweak"
spelling Upgrade = codes "up"
spelling Put = codes "put"
spelling Clear = codes "clear"
spelling Load = codes "load"
spelling Replace = codes "cas"
spelling Snap = codes "snap"
spelling EndSnapshot = codes "unsnap"
spelling Keep = codes "keep"
spelling Read = codes "read"
spelling Counts = codes "counts"
spelling Audit = codes "audit"
