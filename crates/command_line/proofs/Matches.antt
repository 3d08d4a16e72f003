-- The matches that clap has of the words, and its refusal of them.
use Rattle.std.proofs.Common.{◌≡◌, ◌∙◌, ◌&&◌, ◌||◌, Bool, cond, true, false, inl, inr, refl, sym, ap, subst, List, [], ◌∷◌, ◌++◌, drop, map, Option, Some, None, append-nil, true≢false}
use Rattle.std.specs.Prelude.{is_some, option_and_then, unwrap_or, string_bytes, find}
use Rattle.std.specs.List.{flat_map, fold, list_any}
use Rattle.std.specs.Option.{option_map_or}
use Rattle.std.specs.Str.{bytes_eq}
use Rattle.std.specs.declared.string.String.{String}
use Rattle.std.proofs.Common.{Global}
use Rattle.std.proofs.lemmas.Str.{IsUtf8-string_bytes}
use Rattle.std.proofs.lemmas.Slice.Eq.{bytes_eq-Decides}
use Rattle.clap.specs.Faults.{built_fault, default_fault, defaults_fault, entered_fault, fault_of, is_simple_and_free, level_fault, settle_fault, walk_fault, check_fault}
use Rattle.clap.specs.Kinds.{HasKind, IsAmong, Kinds, or_else}
use Rattle.clap.specs.Matches.{found_of}
use Rattle.clap.specs.Simple.{App, HasMatchesOf, Shape, built, entered, is_simple, matches_of}
use Rattle.clap.specs.Takes.{is_given}
use Rattle.clap.specs.Walk.{Row, Rule, Walk, finished, has_row, is_empty, nothing_held, rows_of, settled, walk, walk_from, with_default}
use Rattle.clap.specs.Values.{kind_of}
use Rattle.clap.specs.declared.error.Error.{Error}
use Rattle.clap.specs.declared.error.kind.ErrorKind.TheVariants.{OutOfMemory}
use Rattle.clap.specs.declared.parser.matches.ArgMatches.{ArgMatches}
use Rattle.command_line.specs.Parts.{Part, Text, IsLine, IsOneOf, apart, joined, operand, operand_in, value_in, values_of}
use Rattle.command_line.specs.Found.{ArePlain, Shows, app_with, are_names, operands_name, values_in}
use Rattle.command_line.proofs.Lines.{no_line, read_is_line}
use Rattle.command_line.proofs.Reading.{Agree, Read, agree-same, all_values, part_value, read}
use Rattle.command_line.proofs.Rules.{built_is, is_known, one_of_named, other_name, ready, ready_app, ready_option, ready_operands, ready_shape}
use Rattle.command_line.proofs.Rows.{of_name, refuted}
use Rattle.command_line.proofs.Spelling.{one_of-to}
use Rattle.command_line.proofs.Walks.{calm, ends, held_with, total, walk_at}
use Rattle.command_line.proofs.WalkReads.{AreUtf8, walk_reads}

-- ---- after the walk

or_true : (b : Bool) → (b || true) ≡ true
or_true true = refl
or_true false = refl

no_default : (rows : List Row) (name : Text) → cond (has_row name rows || true) [] (Rattle.clap.specs.Faults.given_default_fault ready_operands []) ≡ []
no_default rows name = ap (λ (b : Bool). cond b [] (Rattle.clap.specs.Faults.given_default_fault ready_operands [])) (or_true (has_row name rows))

option_default : (rows : List Row) (name : Text) → default_fault rows (ready_option name) ≡ []
option_default rows name =
    ap (λ (b : Bool). cond b [] (Rattle.clap.specs.Faults.given_default_fault (ready_option name) [])) (or_true (has_row name rows))

operands_default : (rows : List Row) → default_fault rows ready_operands ≡ []
operands_default rows =
    ap (λ (b : Bool). cond b [] (Rattle.clap.specs.Faults.given_default_fault ready_operands [])) (or_true (has_row operands_name rows))

defaults_pass : (options : List Text) (rows : List Row) → defaults_fault rows (ready options) ≡ []
unfolding defaults_fault
defaults_pass [] rows = ap (λ (ks : Kinds). or_else ks []) (operands_default rows)
defaults_pass (x ∷ xs) rows =
    ap (λ (ks : Kinds). or_else ks (defaults_fault (with_default rows (ready_option x)) (ready xs))) (option_default rows x)
    ∙ defaults_pass xs (with_default rows (ready_option x))

same_either : (b : Bool) (rows : List Row) → cond b rows rows ≡ rows
same_either true rows = refl
same_either false rows = refl

no_defaults : (options : List Text) (rows : List Row) → fold with_default rows (ready options) ≡ rows
no_defaults [] rows = same_either (has_row operands_name rows) rows
no_defaults (x ∷ xs) rows =
    ap (λ (rs : List Row). fold with_default rs (ready xs)) (same_either (has_row x rows) rows) ∙ no_defaults xs rows

none_wanted : (options : List Text) (rows : List Row) → list_any (λ (a : Rule). a.required && Rattle.std.specs.Prelude.not (is_given a.id rows)) (ready options) ≡ false
none_wanted [] rows = refl
none_wanted (x ∷ xs) rows = none_wanted xs rows

nothing_wanted : (options : List Text) (rows : List Row) → check_fault (ready_shape options) rows false ≡ []
nothing_wanted options rows = ap (λ (b : Bool). Rattle.clap.specs.Kinds.check_kinds false false b) (none_wanted options rows)

or_none : (ks : Kinds) → or_else ks [] ≡ ks
or_none [] = refl
or_none (k ∷ ks) = refl

not_entered : (options : List Text) (stop : Option (Text × List Text)) → is_some (entered (ready_app options) stop) ≡ false
not_entered options None = refl
not_entered options (Some p) = refl

none_below : (options : List Text) (stop : Option (Text × List Text)) → entered_fault (ready_app options) stop ≡ []
none_below options None = refl
none_below options (Some p) = refl

module _ (options : List Text) (named : are_names options ≡ true) where
  abbrev start : Walk
  start = walk_at Rattle.clap.specs.Walk.idle false (held_with [] calm)

  level_is : (words : List Text) → level_fault (ready_shape options) [] nothing_held words false [] ≡ total options named start words
  level_is words =
      let end = (walk (ready options) [] nothing_held words).held in
      let rows = (settled (ready options) end).rows in
      let last : or_else (defaults_fault rows (ready options)) (check_fault (ready_shape options) (finished (ready options) end) false) ≡ [] =
      (λ i. or_else (defaults_pass options rows i) (check_fault (ready_shape options) (finished (ready options) end) false))
      ∙ nothing_wanted options (finished (ready options) end) in
      ap (λ (ks : Kinds). or_else (walk_fault (ready_shape options) [] start words) (or_else (settle_fault (ready options) false end) ks)) last
      ∙ ap (λ (ks : Kinds). or_else (walk_fault (ready_shape options) [] start words) ks) (or_none (settle_fault (ready options) false end))

  fault_is : (words : List Text) → fault_of (app_with options) words ≡ total options named start (drop 1 words)
  fault_is words =
      let ws = drop 1 words in
      let stop = (walk (ready options) [] nothing_held ws).stopped in
      ap (λ (a : App). built_fault a nothing_held ws) (built_is options)
      ∙ (λ i. level_fault (ready_shape options) [] nothing_held ws (not_entered options stop i) (none_below options stop i))
      ∙ level_is ws

  matches_is : (words : List Text) → matches_of (app_with options) words ≡ ends options named start (drop 1 words)
  matches_is words =
      let ws = drop 1 words in
      ap (λ (a : App). Rattle.clap.specs.Walk.rows_after a.top.rules (Rattle.clap.specs.Simple.names_of a) ws) (built_is options)
      ∙ no_defaults options (settled (ready options) (walk (ready options) [] nothing_held ws).held).rows

  -- clap refuses the words exactly where they aren't read, and finds what is read
  pub clap_reads : (words : List Text) → AreUtf8 (drop 1 words)
      → Agree (fault_of (app_with options) words) (matches_of (app_with options) words) (λ id. []) (read options None (drop 1 words))
  clap_reads words utf =
      agree-same _ _ _ _ (λ id. []) (read options None (drop 1 words)) (fault_is words) (matches_is words)
      ((walk_reads options named (drop 1 words) utf).0 false [] calm tt)

  -- ---- what is found under a name

  operands_same : (words : List Text) (parts : List Part) (later : Option (List Text)) → IsLine options words parts later
      → flat_map (part_value operands_name) parts ≡ flat_map operand_in parts
  operands_same words [] later is = refl
  operands_same words (apart name value ∷ parts) later is =
      let other = other_name name (one_of_named options name named (one_of-to name options is.1)) in
      λ i. cond (other i) (value ∷ []) [] ++ operands_same is.0 parts later is.3 i
  operands_same words (joined name value ∷ parts) later is =
      let other = other_name name (one_of_named options name named (one_of-to name options is.1)) in
      λ i. cond (other i) (value ∷ []) [] ++ operands_same is.0 parts later is.3 i
  operands_same words (operand word ∷ parts) later is = ap (λ (ws : List Text). word ∷ ws) (operands_same is.0 parts later is.3)

  values_same : (option : Text) → bytes_eq operands_name option ≡ false → (parts : List Part)
      → flat_map (part_value option) parts ≡ flat_map (value_in option) parts
  values_same option other [] = refl
  values_same option other (apart name value ∷ parts) = ap (λ (ws : List Text). of_name name option value ++ ws) (values_same option other parts)
  values_same option other (joined name value ∷ parts) = ap (λ (ws : List Text). of_name name option value ++ ws) (values_same option other parts)
  values_same option other (operand word ∷ parts) = λ i. cond (other i) (word ∷ []) [] ++ values_same option other parts i

  option_all : (option : Text) → IsOneOf option options → (r : Read) → all_values option r ≡ values_of option r.parts
  option_all option one r =
      let differs = other_name option (one_of_named options option named (one_of-to option options one)) in
      let other : bytes_eq operands_name option ≡ false = refuted operands_name option (λ e.
      true≢false (sym ((bytes_eq-Decides option operands_name).1 (sym e)) ∙ differs)) in
      (λ i. values_same option other r.parts i ++ cond (other i) (unwrap_or r.later []) [])
      ∙ append-nil (values_of option r.parts)

  -- ---- of a parse

  first_true : (a b : Bool) → (a && b) ≡ true → a ≡ true
  first_true true b e = refl
  first_true false b e = e

  pub shows_is : (words : List Text) (app : App) (m : ArgMatches) → AreUtf8 (drop 1 words) → app ≡ app_with options
      → (is_simple_and_free app ≡ true → fault_of app words ≡ []) → HasMatchesOf app words m → Shows options (drop 1 words) m
  shows_is words app m utf same faults has = go (read options None (drop 1 words)) refl (clap_reads words utf)
    where
      go : (q : Option Read) → read options None (drop 1 words) ≡ q
          → Agree (fault_of (app_with options) words) (matches_of (app_with options) words) (λ id. []) q → Shows options (drop 1 words) m
      go None e h =
          let known : is_simple_and_free app ≡ true = ap is_simple_and_free same ∙ is_known options in
          absurd (h (ap (λ (a : App). fault_of a words) (sym same) ∙ faults known))
      go (Some r) e h =
          let known : is_simple_and_free app ≡ true = ap is_simple_and_free same ∙ is_known options in
          let rows : rows_of (found_of m) ≡ matches_of (app_with options) words =
          (has (first_true _ _ known)).0 ∙ ap (λ (a : App). matches_of a words) same in
          let line = read_is_line options (drop 1 words) r e in
          record {
            parts = r.parts;
            later = r.later;
            line = line;
            operands = ap (values_in operands_name) rows ∙ h.1 operands_name
                ∙ ap (λ (ws : List Text). ws ++ unwrap_or r.later []) (operands_same (drop 1 words) r.parts r.later line);
            values = λ option one. ap (values_in option) rows ∙ h.1 option ∙ option_all option one r;
          }

  pub none_is : (words : List Text) (app : App) (e : Error) → AreUtf8 (drop 1 words) → app ≡ app_with options
      → (kind_of e ≡ OutOfMemory → ⊥) → (is_simple_and_free app ≡ true → HasKind (fault_of app words) e)
      → (parts : List Part) (later : Option (List Text)) → IsLine options (drop 1 words) parts later → ArePlain parts → ⊥
  none_is words app err utf same other has parts later line plain = go (read options None (drop 1 words)) refl (clap_reads words utf)
    where
      none_among : HasKind [] err → ⊥
      none_among (inl memory) = other memory
      none_among (inr among) = among

      go : (q : Option Read) → read options None (drop 1 words) ≡ q
          → Agree (fault_of (app_with options) words) (matches_of (app_with options) words) (λ id. []) q → ⊥
      go None e h = no_line options named (drop 1 words) parts later e line plain
      go (Some r) e h =
          let known : is_simple_and_free app ≡ true = ap is_simple_and_free same ∙ is_known options in
          let none : fault_of app words ≡ [] = ap (λ (a : App). fault_of a words) same ∙ h.0 in
          none_among (subst (λ (ks : Kinds). HasKind ks err) none (has known))

pub utf_of : (words : List (String Global)) → AreUtf8 (map string_bytes words)
utf_of [] = tt
utf_of (w ∷ ws) = (IsUtf8-string_bytes w, utf_of ws)

pub utf_after : (words : List (String Global)) → AreUtf8 (drop 1 (map string_bytes words))
utf_after [] = tt
utf_after (w ∷ ws) = utf_of ws
