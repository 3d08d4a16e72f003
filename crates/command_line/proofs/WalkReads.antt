-- Clap's walk refuses the words exactly where they aren't read, and finds what is read.
use Rattle.std.proofs.Common.{◌≡◌, ◌∙◌, Bool, cond, true, false, inl, inr, refl, sym, ap, List, [], ◌∷◌, ◌++◌, codes, Option, Some, None, append-nil, append_assoc}
use Rattle.std.specs.Prelude.{⊤}
use Rattle.std.specs.Str.{IsUtf8, bytes_eq}
use Rattle.clap.specs.Faults.{settle_fault}
use Rattle.clap.specs.Kinds.{Kinds}
use Rattle.clap.specs.Lexer.{long_of, short_of}
use Rattle.clap.specs.Walk.{Held, Row, Waiting, Walk, idle, option, positional, settled}
use Rattle.clap.specs.declared.error.kind.ErrorKind.TheVariants as kind
use Rattle.command_line.specs.Parts.{Text, apart, joined, operand}
use Rattle.command_line.specs.Found.{are_names, operands_name, values_in}
use Rattle.command_line.proofs.Reading.{Agree, Read, agree-before, agree-same, before, read, read_by, read_value}
use Rattle.command_line.proofs.Rules.{is_one_of, ready}
use Rattle.command_line.proofs.Rows.{values_after, with_use}
use Rattle.command_line.proofs.Walks.{Due, IsKnown, as_written, calm, due, ends, ends_next, held_for, held_with, resting, rows_with, settle_fails, settle_is, settle_passes, total, total_fails, total_next, total_nil, turn_dashes, turn_fails, turn_goes, turn_later, turn_operand, walk_at, walk_dashes, walk_goes, walk_later, walk_operand}
use Rattle.command_line.proofs.Turns.{joined_passes, joined_steps, operand_steps, option_passes, option_steps, plain_passes, short_fails, unknown_fails, value_steps, waiting_fails}

abbrev pub AreUtf8 : List Text → Type 0
AreUtf8 [] = ⊤
AreUtf8 (word ∷ words) = IsUtf8 word × AreUtf8 words

-- what the rows have, with what is due
abbrev pub so_far : List Row → Due → Text → List Text
so_far rows d id = values_in id (rows_with rows d)

later_joins : (t : Bool) (xs : List Text) (word : Text) (rest : List Text)
    → (xs ++ cond t (word ∷ []) []) ++ cond t rest [] ≡ xs ++ cond t (word ∷ rest) []
later_joins true xs word rest = append_assoc xs (word ∷ []) rest
later_joins false xs word rest = append-nil (xs ++ [])

later_none : (t : Bool) (xs : List Text) → xs ≡ xs ++ cond t [] []
later_none true xs = sym (append-nil xs)
later_none false xs = sym (append-nil xs)

module _ (options : List Text) (named : are_names options ≡ true) where
  -- the walk agrees with what is read
  abbrev pub Agrees : Walk → List Text → (Text → List Text) → Option Read → Type 0
  Agrees w words found q = Agree (total options named w words) (ends options named w words) found q

  agrees_next : (w v : Walk) (word : Text) (rest : List Text) (found : Text → List Text) (q : Option Read)
      → Rattle.clap.specs.Faults.turn_fault (Rattle.command_line.proofs.Rules.ready_shape options) [] w word ≡ []
      → Rattle.clap.specs.Walk.walked (ready options) [] w word ≡ v → Agrees v rest found q → Agrees w (word ∷ rest) found q
  agrees_next w v word rest found q turn step h =
      agree-same _ _ _ _ found q (total_next options named w v word rest turn step) (ends_next options named w v word rest step) h

  -- ---- after `--`

  later_reads : (words : List Text) (waiting : Waiting) (rows : List Row) (d : Due) → IsKnown options named d
      → Agrees (walk_at waiting true (held_with rows d)) words (so_far rows d) (Some (record { parts = []; later = Some words }))
  later_reads [] waiting rows d known =
      let w = walk_at waiting true (held_with rows d) in (
        total_nil options named w ∙ settle_passes options named rows d known,
        λ id. ap (λ (h : Held). values_in id h.rows) (settle_is options named rows d known)
            ∙ later_none (bytes_eq operands_name id) (so_far rows d id),
      )
  later_reads (word ∷ rest) waiting rows d known =
      let w = walk_at waiting true (held_with rows d) in
      let after = rows_with rows d in
      let v = walk_at positional true (held_with after (due operands_name word)) in
      let tail = later_reads rest positional after (due operands_name word) (inr refl) in
      let turn = turn_later options named waiting word (held_with rows d) ∙ settle_passes options named rows d known in
      let step = walk_later options named waiting word rows d known in (
        total_next options named w v word rest turn step ∙ tail.0,
        λ id. ap (λ (t : List Row). values_in id t) (ends_next options named w v word rest step) ∙ tail.1 id
            ∙ ap (λ (t : List Text). t ++ cond (bytes_eq operands_name id) rest []) (values_after operands_name as_written word after id)
            ∙ later_joins (bytes_eq operands_name id) (so_far rows d id) word rest,
      )

  stuck_fails : (words : List Text) (waiting : Waiting) (name : Text) (rows : List Row) → is_one_of name options ≡ true
      → total options named (walk_at waiting true (held_for name rows)) words ≡ [] → ⊥
  stuck_fails [] waiting name rows known none =
      let fault = sym (settle_fails options named name rows known) ∙ sym (total_nil options named (walk_at waiting true (held_for name rows))) ∙ none in
      absurd (cc fault)
  stuck_fails (word ∷ rest) waiting name rows known none =
      total_fails options named (walk_at waiting true (held_for name rows)) word rest kind.InvalidValue []
      (turn_later options named waiting word (held_for name rows) ∙ settle_fails options named name rows known) none

  -- ---- one word before `--`

  abbrev AtRest : List Text → Type 0
  AtRest words = (b : Bool) (rows : List Row) (d : Due) → IsKnown options named d
      → Agrees (walk_at (resting b) false (held_with rows d)) words (so_far rows d) (read options None words)

  abbrev AtValue : List Text → Type 0
  AtValue words = (name : Text) (rows : List Row) → is_one_of name options ≡ true
      → Agrees (walk_at (option name) false (held_for name rows)) words (λ id. values_in id rows) (read options (Some name) words)

  fails : (w : Walk) (word : Text) (rest : List Text) → (k : Rattle.clap.specs.declared.error.kind.ErrorKind.ErrorKind) (ks : Kinds)
      → Rattle.clap.specs.Faults.turn_fault (Rattle.command_line.proofs.Rules.ready_shape options) [] w word ≡ k ∷ ks
      → (found : Text → List Text) → Agrees w (word ∷ rest) found None
  fails w word rest k ks turn found = total_fails options named w word rest k ks turn

  joined_word : (word : Text) (rest : List Text) (name text : Text) (t : Bool) → AtRest rest → (b : Bool) (rows : List Row) (d : Due) → IsKnown options named d
      → bytes_eq word (codes "--") ≡ false → long_of word ≡ Some (name, Some text) → is_one_of name options ≡ t
      → Agrees (walk_at (resting b) false (held_with rows d)) (word ∷ rest) (so_far rows d) (cond t (before (joined name text) (read options None rest)) None)
  joined_word word rest name text true tail b rows d known other is one =
      let h = held_with rows d in
      let after = with_use name as_written text (rows_with rows d) in
      let step = joined_steps options named (resting b) word name text rows d known is one in
      agrees_next (walk_at (resting b) false h) (walk_at idle false (held_with after calm)) word rest (so_far rows d) _
      (turn_goes options named (resting b) idle word h (held_with after calm) other (joined_passes options named word name text rows d known is one) step)
      (walk_goes options named (resting b) idle word h (held_with after calm) other step)
      (agree-before _ _ (so_far rows d) (so_far after calm) (joined name text) (read options None rest)
      (λ id. values_after name as_written text (rows_with rows d) id) (tail false after calm tt))
  joined_word word rest name text false tail b rows d known other is one =
      fails _ word rest kind.UnknownArgument []
      (turn_fails options named (resting b) word (held_with rows d) kind.UnknownArgument [] other
      (unknown_fails options named word name (Some text) (held_with rows d) is one)) (so_far rows d)

  option_word : (word : Text) (rest : List Text) (name : Text) (t : Bool) → AtValue rest → (b : Bool) (rows : List Row) (d : Due) → IsKnown options named d
      → bytes_eq word (codes "--") ≡ false → long_of word ≡ Some (name, None) → is_one_of name options ≡ t
      → Agrees (walk_at (resting b) false (held_with rows d)) (word ∷ rest) (so_far rows d) (cond t (read options (Some name) rest) None)
  option_word word rest name true tail b rows d known other is one =
      let h = held_with rows d in
      let after = held_for name (rows_with rows d) in
      let step = option_steps options named (resting b) word name rows d known is one in
      agrees_next (walk_at (resting b) false h) (walk_at (option name) false after) word rest (so_far rows d) _
      (turn_goes options named (resting b) (option name) word h after other (option_passes options named word name rows d known is one) step)
      (walk_goes options named (resting b) (option name) word h after other step)
      (tail name (rows_with rows d) one)
  option_word word rest name false tail b rows d known other is one =
      fails _ word rest kind.UnknownArgument []
      (turn_fails options named (resting b) word (held_with rows d) kind.UnknownArgument [] other
      (unknown_fails options named word name None (held_with rows d) is one)) (so_far rows d)

  operand_word : (word : Text) (rest : List Text) → AtRest rest → (b : Bool) (rows : List Row) (d : Due) → IsKnown options named d
      → bytes_eq word (codes "--") ≡ false → long_of word ≡ None → short_of word ≡ None
      → Agrees (walk_at (resting b) false (held_with rows d)) (word ∷ rest) (so_far rows d) (before (operand word) (read options None rest))
  operand_word word rest tail b rows d known other is short =
      let h = held_with rows d in
      let after = rows_with rows d in
      let step = operand_steps options named b word h is short in
      agrees_next (walk_at (resting b) false h) (walk_at positional false (held_with after (due operands_name word))) word rest (so_far rows d) _
      (turn_operand options named (resting b) word rows d known other (plain_passes options named word h is short) step)
      (walk_operand options named (resting b) word rows d known other step)
      (agree-before _ _ (so_far rows d) (so_far after (due operands_name word)) (operand word) (read options None rest)
      (λ id. values_after operands_name as_written word after id) (tail true after (due operands_name word) (inr refl)))

  rest_word : (word : Text) (rest : List Text) → IsUtf8 word → AtRest rest → AtValue rest → (b : Bool) (rows : List Row) (d : Due) → IsKnown options named d
      → (t : Bool) (l : Option (Text × Option Text)) (sh : Option Text) → bytes_eq word (codes "--") ≡ t → long_of word ≡ l → short_of word ≡ sh
      → Agrees (walk_at (resting b) false (held_with rows d)) (word ∷ rest) (so_far rows d)
      (read_by options word rest t l sh)
  rest_word word rest utf tail values b rows d known true l sh dashes is short =
      let h = held_with rows d in
      agrees_next (walk_at (resting b) false h) (walk_at (resting b) true h) word rest (so_far rows d) (Some (record { parts = []; later = Some rest }))
      (turn_dashes options named (resting b) word h dashes) (walk_dashes options named (resting b) word h dashes)
      (later_reads rest (resting b) rows d known)
  rest_word word rest utf tail values b rows d known false (Some (name, Some text)) sh other is short =
      joined_word word rest name text (is_one_of name options) tail b rows d known other is refl
  rest_word word rest utf tail values b rows d known false (Some (name, None)) sh other is short =
      option_word word rest name (is_one_of name options) values b rows d known other is refl
  rest_word word rest utf tail values b rows d known false None (Some flags) other is short =
      fails _ word rest kind.UnknownArgument []
      (turn_fails options named (resting b) word (held_with rows d) kind.UnknownArgument [] other
      (short_fails options named word flags (held_with rows d) refl is short utf)) (so_far rows d)
  rest_word word rest utf tail values b rows d known false None None other is short =
      operand_word word rest tail b rows d known other is short

  -- ---- one word that follows an option

  value_word : (word : Text) (rest : List Text) → AtRest rest → (name : Text) (rows : List Row) → is_one_of name options ≡ true
      → bytes_eq word (codes "--") ≡ false → long_of word ≡ None → short_of word ≡ None
      → Agrees (walk_at (option name) false (held_for name rows)) (word ∷ rest) (λ id. values_in id rows) (before (apart name word) (read options None rest))
  value_word word rest tail name rows known other is short =
      let h = held_for name rows in
      let after = held_with rows (due name word) in
      let step = value_steps options named word name rows known is short in
      agrees_next (walk_at (option name) false h) (walk_at idle false after) word rest (λ id. values_in id rows) _
      (turn_goes options named (option name) idle word h after other (plain_passes options named word h is short) step)
      (walk_goes options named (option name) idle word h after other step)
      (agree-before _ _ (λ id. values_in id rows) (so_far rows (due name word)) (apart name word) (read options None rest)
      (λ id. values_after name as_written word rows id) (tail false rows (due name word) (inl known)))

  long_value : (word : Text) (rest : List Text) (other : Text) (v : Option Text) (t : Bool) (name : Text) (rows : List Row) → is_one_of name options ≡ true
      → bytes_eq word (codes "--") ≡ false → long_of word ≡ Some (other, v) → is_one_of other options ≡ t
      → Agrees (walk_at (option name) false (held_for name rows)) (word ∷ rest) (λ id. values_in id rows) None
  long_value word rest other v true name rows known differs is one =
      fails _ word rest kind.InvalidValue []
      (turn_fails options named (option name) word (held_for name rows) kind.InvalidValue [] differs
      (waiting_fails options named word name other v rows known is one)) (λ id. values_in id rows)
  long_value word rest other v false name rows known differs is one =
      fails _ word rest kind.UnknownArgument []
      (turn_fails options named (option name) word (held_for name rows) kind.UnknownArgument [] differs
      (unknown_fails options named word other v (held_for name rows) is one)) (λ id. values_in id rows)

  wait_word : (word : Text) (rest : List Text) → IsUtf8 word → AtRest rest → (name : Text) (rows : List Row) → is_one_of name options ≡ true
      → (t : Bool) (l : Option (Text × Option Text)) (sh : Option Text) → bytes_eq word (codes "--") ≡ t → long_of word ≡ l → short_of word ≡ sh
      → Agrees (walk_at (option name) false (held_for name rows)) (word ∷ rest) (λ id. values_in id rows)
      (cond t None (read_value name word l sh (read options None rest)))
  wait_word word rest utf tail name rows known true l sh dashes is short =
      let h = held_for name rows in
      agrees_next (walk_at (option name) false h) (walk_at (option name) true h) word rest (λ id. values_in id rows) None
      (turn_dashes options named (option name) word h dashes) (walk_dashes options named (option name) word h dashes)
      (stuck_fails rest (option name) name rows known)
  wait_word word rest utf tail name rows known false (Some (other, v)) sh differs is short =
      long_value word rest other v (is_one_of other options) name rows known differs is refl
  wait_word word rest utf tail name rows known false None (Some flags) differs is short =
      fails _ word rest kind.UnknownArgument []
      (turn_fails options named (option name) word (held_for name rows) kind.UnknownArgument [] differs
      (short_fails options named word flags (held_for name rows) refl is short utf)) (λ id. values_in id rows)
  wait_word word rest utf tail name rows known false None None differs is short =
      value_word word rest tail name rows known differs is short

  -- ---- all words

  pub walk_reads : (words : List Text) → AreUtf8 words → AtRest words × AtValue words
  walk_reads [] utf = (
    λ b rows d known. (
      total_nil options named (walk_at (resting b) false (held_with rows d)) ∙ settle_passes options named rows d known,
      λ id. ap (λ (h : Held). values_in id h.rows) (settle_is options named rows d known)
          ∙ later_none (bytes_eq operands_name id) (so_far rows d id),
    ),
    λ name rows known none.
        let fault = sym (settle_fails options named name rows known) ∙ sym (total_nil options named (walk_at (option name) false (held_for name rows))) ∙ none in
        absurd (cc fault),
  )
  walk_reads (word ∷ rest) utf =
      let tail = walk_reads rest utf.1 in (
        λ b rows d known. rest_word word rest utf.0 tail.0 tail.1 b rows d known (bytes_eq word (codes "--")) (long_of word) (short_of word) refl refl refl,
        λ name rows known. wait_word word rest utf.0 tail.0 name rows known (bytes_eq word (codes "--")) (long_of word) (short_of word) refl refl refl,
      )
