-- How words are read.
use Rattle.std.specs.Prelude.{Result, Ok, Err}
use Rattle.step_lines.specs.declared.refused.EventRefused.{EventRefused}
use Rattle.step_lines.specs.declared.refused.EventRefused.TheVariants.{Syntax, Range}

-- what is spelled is given; it is refused as syntax where nothing is spelled, and as a range where what is spelled is
-- beyond what can be held
abbrev pub Reads : {T : Type 0} → (T → Type 0) → (T → Type 0) → Result T EventRefused → Type 0
Reads {T} IsSpelled IsBeyond (Ok x) = IsSpelled x
Reads {T} IsSpelled IsBeyond (Err Syntax) = (x : T) → IsSpelled x → ⊥
Reads {T} IsSpelled IsBeyond (Err Range) = (x : T) × IsSpelled x × IsBeyond x
