-- How the refusal of a line is told.
use Rattle.std.specs.Prelude.{ℕ, List, ◌++◌, codes}
use Rattle.std.specs.Fmt.{decimal}
use Rattle.line_words.specs.declared.reason.Reason.{Reason}
use Rattle.line_words.specs.declared.reason.Reason.TheVariants.{Syntax, Range, Name, Kind, NotEnabled}

-- the reason, spelled
abbrev pub reason_text : Reason → List ℕ
reason_text Syntax = codes "syntax"
reason_text Range = codes "range"
reason_text Name = codes "name"
reason_text Kind = codes "kind"
reason_text NotEnabled = codes "not enabled"

-- `line N refused: REASON` and a line feed
abbrev pub refused_line : ℕ → Reason → List ℕ
refused_line number reason =
    codes "line " ++ decimal number ++ codes " refused: " ++ reason_text reason ++ codes "\n"
