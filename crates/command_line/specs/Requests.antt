-- What the words of a command line ask for.
use Rattle.std.specs.Prelude.{ℕ, ◌-◌, ◌^◌, ◌≡◌, ◌<◌, List, [], ◌∷◌, length, map, codes, string_bytes}
use Rattle.std.specs.declared.option.Option.{Option}
use Rattle.command_line.specs.Parts.{Part, Text, IsLine, operands_of, values_of}
use Rattle.command_line.specs.Values.{IsLanes, IsNumberWithin, IsProtect, IsQueue, IsRounds, IsSlots, SuitsQueue}
use Rattle.run_requests.specs.declared.asked.Request.{Request}
use Rattle.run_requests.specs.declared.asked.Request.TheVariants as request
use Rattle.run_requests.specs.declared.asked.WordsArgs.{WordsArgs}
use Rattle.run_requests.specs.declared.asked.Draws.{Draws}
use Rattle.run_requests.specs.declared.asked.Bulk.{Bulk as Drawn}
use Rattle.command_line.specs.declared.settings.Settings.{Settings}
use Rattle.clap.specs.declared.parser.matches.ArgMatches.{ArgMatches}
use Rattle.command_line.specs.Found.{found_under, operands_name}

abbrev pub words_options : List Text
words_options =
    codes "lanes" ∷ codes "rounds" ∷ codes "slots" ∷ codes "queue" ∷ codes "protect" ∷ []

abbrev pub bulk_options : List Text
bulk_options = codes "lanes" ∷ []

-- the words of these options have this meaning, which is one of parts and later operands
abbrev pub Reads : List Text → List Text → (List Part → Option (List Text) → Type 0) → Type 0
Reads options words Means =
    (parts : List Part) × (later : Option (List Text))
    × IsLine options words parts later × Means parts later

-- one or more files, and the options of `words`
pub record AreWords (args : WordsArgs) (parts : List Part)
    (later : Option (List Text)) : Type 0 where
  pub names : map string_bytes args.names.items ≡ operands_of parts later
  pub some : 0 < length (operands_of parts later)
  pub lanes : IsLanes (values_of (codes "lanes") parts) args.lanes
  pub rounds : IsRounds (values_of (codes "rounds") parts) args.rounds
  pub slots : IsSlots (values_of (codes "slots") parts) args.slots
  pub queue : IsQueue (values_of (codes "queue") parts) args.double
  pub protect : IsProtect (values_of (codes "protect") parts) args.protect
  pub suits : SuitsQueue (values_of (codes "queue") parts) args.protect

-- one file
abbrev pub IsFile : Text → List Part → Option (List Text) → Type 0
IsFile file parts later = operands_of parts later ≡ file ∷ []

-- a seed, how many words, up to so many, and how many words the vocabulary has
abbrev pub AreDraws : ℕ → Draws → List Text → Type 0
AreDraws most draws operands =
    (seed words vocabulary : Text) × (operands ≡ seed ∷ words ∷ vocabulary ∷ [])
    × IsNumberWithin 0 (2 ^ 64 - 1) seed draws.seed
    × IsNumberWithin 0 most words draws.words
    × IsNumberWithin 1 1000000 vocabulary draws.vocabulary

abbrev pub IsGen : Draws → List Part → Option (List Text) → Type 0
IsGen draws parts later = AreDraws 1000000 draws (operands_of parts later)

abbrev pub IsBulk : Drawn → List Part → Option (List Text) → Type 0
IsBulk bulk parts later = AreDraws 500000 bulk.draws (operands_of parts later)
    × IsLanes (values_of (codes "lanes") parts) bulk.lanes

-- the line is this command, and the words after it have this meaning
abbrev pub Commands : Text → List Text → List Text → (List Part → Option (List Text) → Type 0)
    → Type 0
Commands command options line Means =
    (words : List Text) × (line ≡ command ∷ words) × Reads options words Means

-- the line asks for this
abbrev pub Asks : List Text → Request → Type 0
Asks line (request.Words args) = Commands (codes "words") words_options line (AreWords args)
Asks line (request.Script file) = Commands (codes "script") [] line (IsFile (string_bytes file))
Asks line (request.Steps file) = Commands (codes "steps") [] line (IsFile (string_bytes file))
Asks line (request.Generate draws) = Commands (codes "gen") [] line (IsGen draws)
Asks line (request.Bulk bulk) = Commands (codes "bulk") bulk_options line (IsBulk bulk)

-- ---- the same, of the matches that clap has

pub record AreSettings (matches : ArgMatches) (settings : Settings) : Type 0 where
  pub lanes : IsLanes (found_under (codes "lanes") matches) settings.lanes
  pub rounds : IsRounds (found_under (codes "rounds") matches) settings.rounds
  pub slots : IsSlots (found_under (codes "slots") matches) settings.slots
  pub queue : IsQueue (found_under (codes "queue") matches) settings.double
  pub protect : IsProtect (found_under (codes "protect") matches) settings.protect
  pub suits : SuitsQueue (found_under (codes "queue") matches) settings.protect

abbrev pub IsDrawn : ArgMatches → Drawn → Type 0
IsDrawn matches bulk = AreDraws 500000 bulk.draws (found_under operands_name matches)
    × IsLanes (found_under (codes "lanes") matches) bulk.lanes

-- the two requests are one, text by text
abbrev pub IsSame : Request → Request → Type 0
IsSame (request.Words a) (request.Words b) =
    (map string_bytes a.names.items ≡ map string_bytes b.names.items)
    × (a.lanes ≡ b.lanes) × (a.rounds ≡ b.rounds) × (a.slots ≡ b.slots) × (a.double ≡ b.double)
    × (a.protect ≡ b.protect)
IsSame (request.Script a) (request.Script b) = string_bytes a ≡ string_bytes b
IsSame (request.Steps a) (request.Steps b) = string_bytes a ≡ string_bytes b
IsSame (request.Generate a) (request.Generate b) = a ≡ b
IsSame (request.Bulk a) (request.Bulk b) = a ≡ b
IsSame _ _ = ⊥
