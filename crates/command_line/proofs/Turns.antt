-- What each kind of word is for clap's walk.
use Rattle.std.proofs.Common.{◌≡◌, ◌∙◌, ◌<◌, ℕ, Bool, cond, true, false, refl, sym, ap, subst, arith, List, [], ◌∷◌, ◌++◌, length, Option, Some, None}
use Rattle.std.specs.Prelude.{◌==◌, drop, encode_utf8, option_and_then, slice_get, unwrap_or}
use Rattle.std.specs.Option.{option_map_or}
use Rattle.std.specs.Str.{IsUtf8, bytes_eq, chars, encode_utf8_all}
use Rattle.std.proofs.lemmas.Str.{encode_ascii, encodes-chars}
use Rattle.std.proofs.lemmas.Slice.Eq.{bytes_eq-Decides}
use Rattle.std.proofs.lemmas.Bool.{eqb-true}
use Rattle.clap.specs.Faults.{bundle_fault, bundle_step_fault, flag_word_fault, flags_fault, long_fault, short_fault, use_fault}
use Rattle.clap.specs.Kinds.{Kinds, or_else}
use Rattle.clap.specs.Lexer.{long_of, short_of, short_of_rest}
use Rattle.clap.specs.Walk.{Held, Row, Rule, Waiting, after_flag, arg_by_long, arg_by_short, idle, long_met, long_or_other, next, option, option_word, plain_word, settled, short_or_plain, value}
use Rattle.clap.specs.declared.error.kind.ErrorKind.TheVariants as kind
use Rattle.command_line.specs.Parts.{Text}
use Rattle.command_line.specs.Found.{are_names}
use Rattle.command_line.proofs.Rules.{by_long, by_short, is_one_of, option_by_id, ready, ready_option}
use Rattle.command_line.proofs.Rows.{with_use}
use Rattle.command_line.proofs.Walks.{Due, IsKnown, as_written, calm, due, held_for, held_with, resting, resting_plain, rows_with, settle_fails, settle_is, settle_passes}

-- ---- flags have a first character

chars_dash : (y : ℕ) (ys : Text) → chars (45 ∷ y ∷ ys) ≡ 45 ∷ chars (y ∷ ys)
unfolding chars
chars_dash y ys = refl

one_dash : encode_utf8_all (45 ∷ []) ≡ 45 ∷ []
one_dash = ap (λ (t : Text). t ++ []) (encode_ascii 45 (omega arith))

first_of : (y : ℕ) (ys cs : Text) → IsUtf8 (45 ∷ y ∷ ys) → chars (y ∷ ys) ≡ cs → (x : ℕ) × (slice_get cs 0 ≡ Some x)
first_of y ys (x ∷ xs) utf is = (x, refl)
first_of y ys [] utf is =
    let dash : chars (45 ∷ y ∷ ys) ≡ 45 ∷ [] = chars_dash y ys ∙ ap (λ (cs : Text). 45 ∷ cs) is in
    let all : 45 ∷ [] ≡ 45 ∷ y ∷ ys = sym one_dash ∙ ap encode_utf8_all (sym dash) ∙ encodes-chars (45 ∷ y ∷ ys) utf in
    absurd (cc all)

first_char : (flags : Text) → IsUtf8 (45 ∷ flags) → 0 < length flags → (x : ℕ) × (slice_get (chars flags) 0 ≡ Some x)
first_char [] utf some = absurd (omega arith)
first_char (y ∷ ys) utf some = first_of y ys (chars (y ∷ ys)) utf refl

none_is : (flags : Text) → None ≡ Some flags → ⊥
none_is flags e = cc e

flags_go : (x : ℕ) (xs flags : Text) (a : Bool) → (x == 45) ≡ a → option_and_then short_of_rest (cond a (Some xs) None) ≡ Some flags
    → (x ≡ 45) × (short_of_rest xs ≡ Some flags)
flags_go x xs flags true e is = (eqb-true x 45 e, is)
flags_go x xs flags false e is = absurd (none_is flags is)

rest_go : (y : ℕ) (ys flags : Text) (b : Bool) → (y == 45) ≡ b → cond b None (Some (y ∷ ys)) ≡ Some flags → y ∷ ys ≡ flags
rest_go y ys flags true e is = absurd (none_is flags is)
rest_go y ys flags false e is = ap (λ (o : Option Text). unwrap_or o flags) is

rest_of : (xs flags : Text) → short_of_rest xs ≡ Some flags → (xs ≡ flags) × (0 < length flags)
rest_of [] flags is = absurd (none_is flags is)
rest_of (y ∷ ys) flags is =
    let same = rest_go y ys flags (y == 45) refl is in
    (same, subst (λ (t : Text). 0 < length t) same (omega arith))

flags_of : (word flags : Text) → short_of word ≡ Some flags → (word ≡ 45 ∷ flags) × (0 < length flags)
flags_of [] flags is = absurd (none_is flags is)
flags_of (x ∷ xs) flags is =
    let dash = flags_go x xs flags (x == 45) refl is in
    let rest = rest_of xs flags dash.1 in
    ((λ i. dash.0 i ∷ rest.0 i), rest.1)

module _ (options : List Text) (named : are_names options ≡ true) where
  abbrev c : List Rule
  c = ready options

  named_option : (name : Text) → is_one_of name options ≡ true → arg_by_long c name ≡ Some (ready_option name)
  named_option name known = by_long options name ∙ ap (λ (b : Bool). cond b (Some (ready_option name)) None) known

  no_option : (name : Text) → is_one_of name options ≡ false → arg_by_long c name ≡ None
  no_option name other = by_long options name ∙ ap (λ (b : Bool). cond b (Some (ready_option name)) None) other

  -- ---- `--x=v` and `--x`

  pub joined_passes : (word name text : Text) (rows : List Row) (d : Due) → IsKnown options named d → long_of word ≡ Some (name, Some text)
      → is_one_of name options ≡ true → flag_word_fault c false (long_of word) word (held_with rows d) ≡ []
  joined_passes word name text rows d known is one =
      let h = held_with rows d in
      let a = ready_option name in
      ap (λ (o : Option (Text × Option Text)). flag_word_fault c false o word h) is
      ∙ ap (λ (o : Option Rule). long_fault c false o (Some text) h) (named_option name one)
      ∙ ap (λ (ks : Kinds). or_else ks (use_fault false a (text ∷ []) (settled c h).rows)) (settle_passes options named rows d known)

  pub joined_steps : (waiting : Waiting) (word name text : Text) (rows : List Row) (d : Due) → IsKnown options named d → long_of word ≡ Some (name, Some text)
      → is_one_of name options ≡ true
      → long_or_other c waiting word (long_of word) (held_with rows d) ≡ (held_with (with_use name as_written text (rows_with rows d)) calm, next idle)
  joined_steps waiting word name text rows d known is one =
      let h = held_with rows d in
      ap (λ (o : Option (Text × Option Text)). long_or_other c waiting word o h) is
      ∙ ap (λ (o : Option Rule). after_flag c waiting word (long_met c o (Some text) h).0 (long_met c o (Some text) h).1) (named_option name one)
      ∙ ap (λ (k : Held). (held_with (with_use name as_written text k.rows) calm, next idle)) (settle_is options named rows d known)

  pub option_passes : (word name : Text) (rows : List Row) (d : Due) → IsKnown options named d → long_of word ≡ Some (name, None)
      → is_one_of name options ≡ true → flag_word_fault c false (long_of word) word (held_with rows d) ≡ []
  option_passes word name rows d known is one =
      let h = held_with rows d in
      ap (λ (o : Option (Text × Option Text)). flag_word_fault c false o word h) is
      ∙ ap (λ (o : Option Rule). long_fault c false o None h) (named_option name one)
      ∙ settle_passes options named rows d known

  pub option_steps : (waiting : Waiting) (word name : Text) (rows : List Row) (d : Due) → IsKnown options named d → long_of word ≡ Some (name, None)
      → is_one_of name options ≡ true
      → long_or_other c waiting word (long_of word) (held_with rows d) ≡ (held_for name (rows_with rows d), next (option name))
  option_steps waiting word name rows d known is one =
      let h = held_with rows d in
      ap (λ (o : Option (Text × Option Text)). long_or_other c waiting word o h) is
      ∙ ap (λ (o : Option Rule). after_flag c waiting word (long_met c o None h).0 (long_met c o None h).1) (named_option name one)
      ∙ ap (λ (k : Held). (record k { pending = Some (name, []) }, next (option name))) (settle_is options named rows d known)

  -- ---- faults

  pub unknown_fails : (word name : Text) (v : Option Text) (h : Held) → long_of word ≡ Some (name, v) → is_one_of name options ≡ false
      → flag_word_fault c false (long_of word) word h ≡ kind.UnknownArgument ∷ []
  unknown_fails word name v h is other =
      ap (λ (o : Option (Text × Option Text)). flag_word_fault c false o word h) is
      ∙ ap (λ (o : Option Rule). long_fault c false o v h) (no_option name other)

  bundle_fails : (flags : Text) (skip : ℕ) (h : Held) (x : ℕ) → 0 < length flags → skip ≡ 0 → slice_get (chars flags) 0 ≡ Some x
      → flags_fault c false (length flags) flags skip h ≡ kind.UnknownArgument ∷ []
  unfolding flags_fault
  bundle_fails [] skip h x some none first = absurd (omega arith)
  bundle_fails (y ∷ ys) skip h x some none first =
      let rest = drop (length (encode_utf8 x)) (y ∷ ys) in
      let read : flags_fault c false (length (y ∷ ys)) (y ∷ ys) skip h
      ≡ short_fault c false (arg_by_short c x) rest h (flags_fault c false (length ys) rest 0) =
      λ i. bundle_step_fault c false (first i) (y ∷ ys) (none i) h (flags_fault c false (length ys)) in
      read ∙ ap (λ (o : Option Rule). short_fault c false o rest h (flags_fault c false (length ys) rest 0)) (by_short options x)

  pub short_fails : (word flags : Text) (h : Held) → h.skip ≡ 0 → long_of word ≡ None → short_of word ≡ Some flags → IsUtf8 word
      → flag_word_fault c false (long_of word) word h ≡ kind.UnknownArgument ∷ []
  short_fails word flags h skip none short utf =
      let parts = flags_of word flags short in
      let first = first_char flags (subst IsUtf8 parts.0 utf) parts.1 in
      ap (λ (o : Option (Text × Option Text)). flag_word_fault c false o word h) none
      ∙ ap (λ (o : Option Text). option_map_or (λ (t : Text). bundle_fault c false t h) o []) short
      ∙ bundle_fails flags h.skip (record h { skip = 0 }) first.0 parts.1 skip first.1

  -- an option that waits for its value gets none
  pub waiting_fails : (word name other : Text) (v : Option Text) (rows : List Row) → is_one_of name options ≡ true
      → long_of word ≡ Some (other, v) → is_one_of other options ≡ true
      → flag_word_fault c false (long_of word) word (held_for name rows) ≡ kind.InvalidValue ∷ []
  waiting_fails word name other v rows known is one =
      let h = held_for name rows in
      ap (λ (o : Option (Text × Option Text)). flag_word_fault c false o word h) is
      ∙ ap (λ (o : Option Rule). long_fault c false o v h) (named_option other one)
      ∙ go v
    where
      go : (v : Option Text) → long_fault c false (Some (ready_option other)) v (held_for name rows) ≡ kind.InvalidValue ∷ []
      go None = settle_fails options named name rows known
      go (Some text) = ap (λ (ks : Kinds). or_else ks (use_fault false (ready_option other) (text ∷ []) (settled c (held_for name rows)).rows))
          (settle_fails options named name rows known)

  -- ---- a word that is no flag

  pub plain_passes : (word : Text) (h : Held) → long_of word ≡ None → short_of word ≡ None → flag_word_fault c false (long_of word) word h ≡ []
  plain_passes word h none short =
      ap (λ (o : Option (Text × Option Text)). flag_word_fault c false o word h) none
      ∙ ap (λ (o : Option Text). option_map_or (λ flags. bundle_fault c false flags h) o []) short

  plain_is : (waiting : Waiting) (word : Text) (h : Held) → long_of word ≡ None → short_of word ≡ None
      → long_or_other c waiting word (long_of word) h ≡ plain_word c waiting word h
  plain_is waiting word h none short =
      ap (λ (o : Option (Text × Option Text)). long_or_other c waiting word o h) none
      ∙ ap (λ (o : Option Text). short_or_plain c waiting word o h) short

  pub operand_steps : (b : Bool) (word : Text) (h : Held) → long_of word ≡ None → short_of word ≡ None
      → long_or_other c (resting b) word (long_of word) h ≡ (h, value)
  operand_steps b word h none short = plain_is (resting b) word h none short ∙ resting_plain c b word h

  pub value_steps : (word name : Text) (rows : List Row) → is_one_of name options ≡ true → long_of word ≡ None → short_of word ≡ None
      → long_or_other c (option name) word (long_of word) (held_for name rows) ≡ (held_with rows (due name word), next idle)
  value_steps word name rows known none short =
      let same : bytes_eq name name ≡ true = (bytes_eq-Decides name name).1 refl in
      let h = held_for name rows in
      plain_is (option name) word h none short
      ∙ ap (λ (o : Option Rule). ((option_word o name word h).0, next (option_word o name word h).1)) (option_by_id options name known)
      ∙ rw same refl
