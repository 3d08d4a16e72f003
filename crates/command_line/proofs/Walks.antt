-- What clap's walk over the words comes to, word by word.
use Rattle.std.proofs.Common.{◌≡◌, ◌∙◌, ◌&&◌, ◌||◌, ◌⊎◌, Bool, cond, true, false, inl, inr, refl, ap, List, [], ◌∷◌, codes, Option, Some, None}
use Rattle.std.specs.Prelude.{⊤}
use Rattle.std.specs.List.{fold}
use Rattle.std.specs.Option.{option_map_or}
use Rattle.std.specs.Str.{bytes_eq}
use Rattle.clap.specs.Faults.{flag_word_fault, positional_fault, settle_fault, step_fault, stray_fault, turn_fault, walk_fault, word_fault, other_fault}
use Rattle.clap.specs.Kinds.{Kinds, or_else}
use Rattle.clap.specs.Lexer.{long_of}
use Rattle.clap.specs.Simple.{Shape}
use Rattle.clap.specs.Walk.{Held, Row, Rule, Step, Waiting, Walk, after_step, idle, is_pending, long_or_other, next, option, plain_word, positional, positional_held, pushed, reading_by, settled, subcommand_met, subcommand_or_other, to_positional, trailing, value, walked, word_met}
use Rattle.clap.specs.declared.builder.value_parser.Reading.{Reading}
use Rattle.clap.specs.declared.error.kind.ErrorKind.TheVariants as kind
use Rattle.clap.specs.declared.error.kind.ErrorKind.{ErrorKind}
use Rattle.command_line.specs.Parts.{Text}
use Rattle.command_line.specs.Found.{are_names, operands_name}
use Rattle.command_line.proofs.Rules.{by_index, is_one_of, operands_by_id, option_by_id, ready, ready_operands, ready_shape}
use Rattle.command_line.proofs.Rows.{with_use}

-- the value that a name was used with last, which is still to be noted
pub data Due : Type 0 where
  calm : Due
  due : Text → Text → Due

abbrev pub pending_with : Due → Option (Text × List Text)
pending_with calm = None
pending_with (due name word) = Some (name, word ∷ [])

abbrev pub held_with : List Row → Due → Held
held_with rows d = record { rows = rows; pending = pending_with d; skip = 0 }

-- values are read as they are written
abbrev pub as_written : Reading
as_written = reading_by ready_operands

abbrev pub rows_with : List Row → Due → List Row
rows_with rows calm = rows
rows_with rows (due name word) = with_use name as_written word rows

-- an option waits for its value
abbrev pub held_for : Text → List Row → Held
held_for name rows = record { rows = rows; pending = Some (name, []); skip = 0 }

abbrev pub walk_at : Waiting → Bool → Held → Walk
walk_at waiting ended h =
    record { held = h; waiting = waiting; position = 1; is_trailing = ended; stopped = None }

-- no option waits for a value
abbrev pub resting : Bool → Waiting
resting true = positional
resting false = idle

and_false : (b : Bool) → (b && false) ≡ false
and_false true = refl
and_false false = refl

no_command : (waiting : Waiting) (word : Text) → subcommand_met [] waiting word ≡ None
no_command idle word = refl
no_command (option id) word = refl
no_command positional word = refl

pub resting_plain : (c : List Rule) (b : Bool) (word : Text) (h : Held) → plain_word c (resting b) word h ≡ (h, value)
resting_plain c true word h = refl
resting_plain c false word h = refl

module _ (options : List Text) (named : are_names options ≡ true) where
  abbrev c : List Rule
  c = ready options

  abbrev s : Shape
  s = ready_shape options

  abbrev pub IsKnown : Due → Type 0
  IsKnown calm = ⊤
  IsKnown (due name word) = (is_one_of name options ≡ true) ⊎ (name ≡ operands_name)

  -- what is due is noted, without a fault
  pub settle_is : (rows : List Row) (d : Due) → IsKnown d → settled c (held_with rows d) ≡ held_with (rows_with rows d) calm
  settle_is rows calm known = refl
  settle_is rows (due name word) (inl known) = rw (option_by_id options name known) refl
  settle_is rows (due name word) (inr is) = rw (is, operands_by_id options named) refl

  pub settle_passes : (rows : List Row) (d : Due) → IsKnown d → settle_fault c false (held_with rows d) ≡ []
  settle_passes rows calm known = refl
  settle_passes rows (due name word) (inl known) = rw (option_by_id options name known) refl
  settle_passes rows (due name word) (inr is) = rw (is, operands_by_id options named) refl

  -- an option without its value is a fault
  pub settle_fails : (name : Text) (rows : List Row) → is_one_of name options ≡ true
      → settle_fault c false (held_for name rows) ≡ kind.InvalidValue ∷ []
  settle_fails name rows known = rw (option_by_id options name known) refl

  pub settle_for : (name : Text) (rows : List Row) → is_one_of name options ≡ true → (settled c (held_for name rows)).skip ≡ 0
  settle_for name rows known = refl

  -- ---- one turn

  abbrev pub total : Walk → List Text → Kinds
  total w words = or_else (walk_fault s [] w words) (settle_fault c false (fold (walked c []) w words).held)

  abbrev pub ends : Walk → List Text → List Row
  ends w words = (settled c (fold (walked c []) w words).held).rows

  -- a turn without a fault
  pub total_next : (w v : Walk) (word : Text) (rest : List Text) → turn_fault s [] w word ≡ [] → walked c [] w word ≡ v
      → total w (word ∷ rest) ≡ total v rest
  unfolding walk_fault
  total_next w v word rest turn step =
      λ i. or_else (or_else (turn i) (walk_fault s [] (step i) rest)) (settle_fault c false (fold (walked c []) (step i) rest).held)

  pub ends_next : (w v : Walk) (word : Text) (rest : List Text) → walked c [] w word ≡ v → ends w (word ∷ rest) ≡ ends v rest
  ends_next w v word rest step = ap (λ (u : Walk). ends u rest) step

  -- a turn with a fault
  pub total_fails : (w : Walk) (word : Text) (rest : List Text) (k : ErrorKind) (ks : Kinds) → turn_fault s [] w word ≡ k ∷ ks
      → total w (word ∷ rest) ≡ [] → ⊥
  unfolding walk_fault
  total_fails w word rest k ks turn none =
      let some : total w (word ∷ rest) ≡ k ∷ ks =
      λ i. or_else (or_else (turn i) (walk_fault s [] (walked c [] w word) rest)) (settle_fault c false (fold (walked c []) (walked c [] w word) rest).held) in
      absurd (cc (some, none))

  pub total_nil : (w : Walk) → total w [] ≡ settle_fault c false w.held
  unfolding walk_fault
  total_nil w = refl

  -- ---- a word that is no `--`

  pub fault_is : (waiting : Waiting) (word : Text) (h : Held) → bytes_eq word (codes "--") ≡ false
      → word_fault s [] false waiting word h ≡ flag_word_fault c false (long_of word) word h
  fault_is waiting word h other =
      ap (λ (o : Option Text). other_fault s o word h) (no_command waiting word)
      ∙ ap (λ (b : Bool). cond b [] (flag_word_fault c false (long_of word) word h)) other

  pub met_is : (waiting : Waiting) (word : Text) (h : Held) → bytes_eq word (codes "--") ≡ false
      → word_met c [] false waiting 1 word h ≡ long_or_other c waiting word (long_of word) h
  met_is waiting word h other =
      ap (λ (o : Option Text). subcommand_or_other c o waiting 1 word h) (no_command waiting word)
      ∙ ap (λ (b : Bool). cond b (h, trailing 1) (long_or_other c waiting word (long_of word) h)) other

  -- the word is an option or a value of one
  pub turn_goes : (waiting then : Waiting) (word : Text) (h after : Held) → bytes_eq word (codes "--") ≡ false
      → flag_word_fault c false (long_of word) word h ≡ [] → long_or_other c waiting word (long_of word) h ≡ (after, next then)
      → turn_fault s [] (walk_at waiting false h) word ≡ []
  turn_goes waiting then word h after other passes step =
      let fault : word_fault s [] false waiting word h ≡ [] = fault_is waiting word h other ∙ passes in
      let met : word_met c [] false waiting 1 word h ≡ (after, next then) = met_is waiting word h other ∙ step in
      λ i. or_else (fault i) (step_fault s 1 (met i).0 (met i).1)

  pub walk_goes : (waiting then : Waiting) (word : Text) (h after : Held) → bytes_eq word (codes "--") ≡ false
      → long_or_other c waiting word (long_of word) h ≡ (after, next then)
      → walked c [] (walk_at waiting false h) word ≡ walk_at then false after
  unfolding walked
  walk_goes waiting then word h after other step =
      let met : word_met c [] false waiting 1 word h ≡ (after, next then) = met_is waiting word h other ∙ step in
      λ i. after_step c word (walk_at waiting false h) (met i).0 (met i).1

  pub turn_fails : (waiting : Waiting) (word : Text) (h : Held) (k : ErrorKind) (ks : Kinds) → bytes_eq word (codes "--") ≡ false
      → flag_word_fault c false (long_of word) word h ≡ k ∷ ks → turn_fault s [] (walk_at waiting false h) word ≡ k ∷ ks
  turn_fails waiting word h k ks other fails =
      let fault : word_fault s [] false waiting word h ≡ k ∷ ks = fault_is waiting word h other ∙ fails in
      let met : Held × Step = word_met c [] false waiting 1 word h in
      λ i. or_else (fault i) (step_fault s 1 met.0 met.1)

  -- ---- a word that goes to the operands

  operands_fault : (h : Held) → step_fault s 1 h value ≡ settle_fault c false h
  operands_fault h =
      ap (λ (o : Option Rule). option_map_or (λ a. positional_fault c false a h) o (stray_fault s)) (by_index options)
      ∙ ap (λ (b : Bool). cond b [] (settle_fault c false h)) (and_false (is_pending ready_operands h.pending))

  operands_held : (word : Text) (rows : List Row) (d : Due) → IsKnown d
      → positional_held c ready_operands word (held_with rows d) ≡ held_with (rows_with rows d) (due operands_name word)
  operands_held word rows d known =
      let h = held_with rows d in
      ap (λ (b : Bool). pushed operands_name word (cond b h (settled c h))) (and_false (is_pending ready_operands h.pending))
      ∙ ap (pushed operands_name word) (settle_is rows d known)

  operands_walk : (waiting : Waiting) (ended : Bool) (word : Text) (rows : List Row) (d : Due) → IsKnown d
      → after_step c word (walk_at waiting ended (held_with rows d)) (held_with rows d) value
      ≡ walk_at positional (ended || false) (held_with (rows_with rows d) (due operands_name word))
  operands_walk waiting ended word rows d known =
      ap (λ (o : Option Rule). to_positional c o word (walk_at waiting ended (held_with rows d)) (held_with rows d)) (by_index options)
      ∙ ap (λ (h : Held). walk_at positional (ended || false) h) (operands_held word rows d known)

  pub turn_operand : (waiting : Waiting) (word : Text) (rows : List Row) (d : Due) → IsKnown d → bytes_eq word (codes "--") ≡ false
      → flag_word_fault c false (long_of word) word (held_with rows d) ≡ []
      → long_or_other c waiting word (long_of word) (held_with rows d) ≡ (held_with rows d, value)
      → turn_fault s [] (walk_at waiting false (held_with rows d)) word ≡ []
  turn_operand waiting word rows d known other passes step =
      let h = held_with rows d in
      let fault : word_fault s [] false waiting word h ≡ [] = fault_is waiting word h other ∙ passes in
      let met : word_met c [] false waiting 1 word h ≡ (h, value) = met_is waiting word h other ∙ step in
      let turn : turn_fault s [] (walk_at waiting false h) word ≡ step_fault s 1 h value =
      λ i. or_else (fault i) (step_fault s 1 (met i).0 (met i).1) in
      turn ∙ operands_fault h ∙ settle_passes rows d known

  pub walk_operand : (waiting : Waiting) (word : Text) (rows : List Row) (d : Due) → IsKnown d → bytes_eq word (codes "--") ≡ false
      → long_or_other c waiting word (long_of word) (held_with rows d) ≡ (held_with rows d, value)
      → walked c [] (walk_at waiting false (held_with rows d)) word ≡ walk_at positional false (held_with (rows_with rows d) (due operands_name word))
  unfolding walked
  walk_operand waiting word rows d known other step =
      let h = held_with rows d in
      let met : word_met c [] false waiting 1 word h ≡ (h, value) = met_is waiting word h other ∙ step in
      let goes : walked c [] (walk_at waiting false h) word ≡ after_step c word (walk_at waiting false h) h value =
      λ i. after_step c word (walk_at waiting false h) (met i).0 (met i).1 in
      goes ∙ operands_walk waiting false word rows d known

  -- ---- a word after `--`, and `--` itself

  pub turn_dashes : (waiting : Waiting) (word : Text) (h : Held) → bytes_eq word (codes "--") ≡ true
      → turn_fault s [] (walk_at waiting false h) word ≡ []
  turn_dashes waiting word h is =
      let fault : word_fault s [] false waiting word h ≡ [] =
      ap (λ (o : Option Text). other_fault s o word h) (no_command waiting word)
      ∙ ap (λ (b : Bool). cond b [] (flag_word_fault c false (long_of word) word h)) is in
      let met : word_met c [] false waiting 1 word h ≡ (h, trailing 1) =
      ap (λ (o : Option Text). subcommand_or_other c o waiting 1 word h) (no_command waiting word)
      ∙ ap (λ (b : Bool). cond b (h, trailing 1) (long_or_other c waiting word (long_of word) h)) is in
      λ i. or_else (fault i) (step_fault s 1 (met i).0 (met i).1)

  pub walk_dashes : (waiting : Waiting) (word : Text) (h : Held) → bytes_eq word (codes "--") ≡ true
      → walked c [] (walk_at waiting false h) word ≡ walk_at waiting true h
  unfolding walked
  walk_dashes waiting word h is =
      let met : word_met c [] false waiting 1 word h ≡ (h, trailing 1) =
      ap (λ (o : Option Text). subcommand_or_other c o waiting 1 word h) (no_command waiting word)
      ∙ ap (λ (b : Bool). cond b (h, trailing 1) (long_or_other c waiting word (long_of word) h)) is in
      λ i. after_step c word (walk_at waiting false h) (met i).0 (met i).1

  pub turn_later : (waiting : Waiting) (word : Text) (h : Held) → turn_fault s [] (walk_at waiting true h) word ≡ settle_fault c false h
  turn_later waiting word h = operands_fault h

  pub walk_later : (waiting : Waiting) (word : Text) (rows : List Row) (d : Due) → IsKnown d
      → walked c [] (walk_at waiting true (held_with rows d)) word ≡ walk_at positional true (held_with (rows_with rows d) (due operands_name word))
  unfolding walked
  walk_later waiting word rows d known = operands_walk waiting true word rows d known
