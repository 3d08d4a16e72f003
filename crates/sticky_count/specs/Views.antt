-- What one step does to the word and to the view of the seat that makes it.
use Rattle.std.specs.Prelude.{ℕ, ◌+◌, ◌-◌, ◌^◌, ◌<◌, ◌≡◌, List, [], ◌∷◌, ◌++◌, ◌==◌, if◌then◌else◌}
use Rattle.sticky_count.specs.declared.view.Phase.TheVariants as phase
use Rattle.sticky_count.specs.declared.view.Act.{Act}
use Rattle.sticky_count.specs.declared.view.Act.TheVariants as act
use Rattle.sticky_count.specs.declared.view.Move.{Move}
use Rattle.sticky_count.specs.declared.view.View.{View}
use Rattle.counter_word.specs.Words.{low, lives, has_help, added, subbed, finished, helped, marked}

-- the seat is in no call
abbrev pub IsIdle : View → Type 0
IsIdle v = v.phase ≡ phase.Idle

-- it took the last count, and its finish step is to come
abbrev pub IsToFinish : View → Type 0
IsToFinish v = v.phase ≡ phase.Finish

-- its finish found the help flag, which it is to take
abbrev pub IsToHelp : View → Type 0
IsToHelp v = v.phase ≡ phase.Help

-- a seat that holds n counts and has made no step
abbrev pub fresh : ℕ → View
fresh n = record { held = n; adds = 0; phase = phase.Idle; ended = 0; trail = [] }

-- the word after a step, from the word that it found
abbrev pub next : Act → ℕ → ℕ
next act.Add w = (added w).0
next act.Sub w = (subbed w).0
next act.Finish w = (finished w).0
next act.Take w = (helped w).0
next act.Load w = w
next act.Mark w = marked w

-- the trail with one step more
abbrev pub noted : Act → ℕ → List Move → List Move
noted a w trail = trail ++ (record { act = a; found = w }) ∷ []

-- the view after a step that found w
abbrev pub moved : Act → ℕ → View → View
moved act.Add w v = record v {
  held = if lives w then v.held + 1 else v.held;
  adds = v.adds + 1;
  trail = noted act.Add w v.trail;
}
moved act.Sub w v = record v {
  held = v.held - 1;
  phase = if w == 1 then phase.Finish else phase.Idle;
  trail = noted act.Sub w v.trail;
}
moved act.Finish w v = record v {
  phase = if w == 0 then phase.Idle else if has_help w then phase.Help else phase.Idle;
  ended = if w == 0 then v.ended + 1 else v.ended;
  trail = noted act.Finish w v.trail;
}
moved act.Take w v = record v {
  phase = phase.Idle;
  ended = if has_help w then v.ended + 1 else v.ended;
  trail = noted act.Take w v.trail;
}
moved act.Load w v =
    record v { phase = if w == 0 then phase.Zero else phase.Idle; trail = noted act.Load w v.trail }
moved act.Mark w v = record v { phase = phase.Idle; trail = noted act.Mark w v.trail }

-- what a seat must know of itself to make a step
abbrev pub May : Act → View → Type 0
May act.Add v = IsIdle v
May act.Sub v = IsIdle v × (0 < v.held)
May act.Finish v = IsToFinish v
May act.Take v = IsToHelp v
May act.Load v = IsIdle v
May act.Mark v = v.phase ≡ phase.Zero

-- an add must not overflow into the flags; no other step asks anything of the word
abbrev pub HasRoom : Act → ℕ → Type 0
HasRoom act.Add w = low w < 2 ^ 62 - 1
HasRoom act.Sub w = Unit {0}
HasRoom act.Finish w = Unit {0}
HasRoom act.Take w = Unit {0}
HasRoom act.Load w = Unit {0}
HasRoom act.Mark w = Unit {0}
