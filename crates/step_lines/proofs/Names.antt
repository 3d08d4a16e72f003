-- The name of the act that some words spell.
use Rattle.std.proofs.Common.{◌≡◌, ℕ, false, List, ◌∷◌, true≢false, sym, ◌∙◌}
use Rattle.std.specs.Cmp.Lexicographic.{bytes_decides}
use Rattle.std.specs.Str.{bytes_eq}
use Rattle.core_events.specs.declared.act.Act.{Act}
use Rattle.core_events.specs.declared.act.Act.TheVariants as act
use Rattle.step_lines.specs.Spelling.{SpellsAct}
use Rattle.step_lines.specs.Texts.{event_name}

-- an act's words begin with its name
pub named : (a : Act) (name : List ℕ) (words : List (List ℕ)) → SpellsAct (name ∷ words) a → name ≡ event_name a
named (act.Add s) name words spells = spells.0
named (act.Drop s) name words spells = spells.0
named act.Pay name words spells = spells.0
named act.Finish name words spells = spells.0
named act.Take name words spells = spells.0
named (act.Count s) name words spells = spells.0
named act.Mark name words spells = spells.0
named (act.Announce j k s) name words spells = spells.0
named (act.Release j) name words spells = spells.0
named (act.Look p) name words spells = spells.0
named (act.Check j p) name words spells = spells.0
named (act.Alive j) name words spells = spells.0
named act.Scan name words spells = spells.0
named (act.Swap p new) name words spells = spells.0
named (act.Cas p old new) name words spells = spells.0
named (act.Claim s) name words spells = spells.0
named act.Arm name words spells = spells.0
named (act.Fill i value) name words spells = spells.0
named act.Start name words spells = spells.0
named (act.See s i) name words spells = spells.0
named act.Free name words spells = spells.0
named act.Ticket name words spells = spells.0
named (act.Wadd s) name words spells = spells.0
named (act.Wdrop s) name words spells = spells.0
named (act.Destroy s) name words spells = spells.0
named (act.Wcount s) name words spells = spells.0
named (act.Leave j) name words spells = spells.0

-- two names that are not the same
pub other : (name name' : List ℕ) → name ≡ name' → bytes_eq name name' ≡ false → ⊥
other name name' is differ = true≢false (sym ((bytes_decides name name').1 is) ∙ differ)
