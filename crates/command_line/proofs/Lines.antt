-- What is read is the line of the words, and every line whose values could be operands is read.
use Rattle.std.proofs.Common.{◌≡◌, ◌∙◌, Bool, cond, true, false, refl, sym, ap, subst, List, [], ◌∷◌, ◌++◌, codes, Option, Some, None, append-nil, true≢false}
use Rattle.std.specs.Prelude.{unwrap_or}
use Rattle.std.specs.Str.{bytes_eq}
use Rattle.std.proofs.lemmas.Slice.Eq.{bytes_eq-Decides}
use Rattle.clap.specs.Lexer.{long_of, short_of}
use Rattle.command_line.specs.Parts.{Part, Text, IsLine, IsOneOf, IsPart, apart, joined, operand, spelled}
use Rattle.command_line.specs.Found.{ArePlain, are_names}
use Rattle.command_line.proofs.Reading.{Read, before, read, read_by, read_option, read_value}
use Rattle.command_line.proofs.Rules.{is_one_of, one_of_named}
use Rattle.command_line.proofs.Spelling.{alone_is, alone_reads, joined_is, joined_reads, no_dashes, one_of-from, one_of-to, operand_is, operand_reads}

none_read : (r : Read) → None ≡ Some r → ⊥
none_read r e = true≢false (sym (ap (λ (o : Option Read). Rattle.std.specs.Option.is_some o) e))

some_read : (a b : Read) → Some a ≡ Some b → a ≡ b
some_read a b e = ap (λ (o : Option Read). unwrap_or o a) e

before_is : (part : Part) (q : Option Read) (r : Read) → before part q ≡ Some r
    → (rest : Read) × (q ≡ Some rest) × (◌≡◌ {A = Read} (record { parts = part ∷ rest.parts; later = rest.later }) r)
before_is part None r e = absurd (none_read r e)
before_is part (Some rest) r e = (rest, refl, some_read _ r e)

module _ (options : List Text) where
  abbrev pub LineOf : List Text → Read → Type 0
  LineOf words r = IsLine options words r.parts r.later

  abbrev FromRead : List Text → Type 0
  FromRead words = (r : Read) → read options None words ≡ Some r → LineOf words r

  abbrev FromValue : List Text → Type 0
  FromValue words = (name : Text) → IsOneOf name options → (r : Read) → read options (Some name) words ≡ Some r
      → LineOf ((codes "--" ++ name) ∷ words) r

  -- one part more
  more : (part : Part) (words rest : List Text) (q : Option Read) (r : Read) → IsPart options part → words ≡ spelled part rest
      → ((b : Read) → q ≡ Some b → LineOf rest b) → before part q ≡ Some r → LineOf words r
  more part words rest q r is spells tail e =
      let parts = before_is part q r e in
      subst (LineOf words) parts.2 (rest, is, spells, tail parts.0 parts.1)

  option_line : (word : Text) (rest : List Text) → FromRead rest → FromValue rest → (r : Read) (name : Text) (v : Option Text) → long_of word ≡ Some (name, v)
      → (t : Bool) → is_one_of name options ≡ t → (u : Option Text) → v ≡ u
      → read_option options name u (read options None rest) (λ n. read options (Some n) rest) ≡ Some r → LineOf (word ∷ rest) r
  option_line word rest tail values r name v long false one None same e =
      let none : None ≡ Some r = rw one at e in
      absurd (none_read r none)
  option_line word rest tail values r name v long false one (Some text) same e =
      let none : None ≡ Some r = rw one at e in
      absurd (none_read r none)
  option_line word rest tail values r name v long true one None same e =
      let now : read options (Some name) rest ≡ Some r = rw one at e in
      let spells = alone_is word name (long ∙ ap (λ (o : Option Text). Some (name, o)) same) in
      subst (λ (w : Text). LineOf (w ∷ rest) r) (sym spells) (values name (one_of-from name options one) r now)
  option_line word rest tail values r name v long true one (Some text) same e =
      let now : before (joined name text) (read options None rest) ≡ Some r = rw one at e in
      let spells = joined_is word name text (long ∙ ap (λ (o : Option Text). Some (name, o)) same) in
      more (joined name text) (word ∷ rest) rest (read options None rest) r (one_of-from name options one) (ap (λ (w : Text). w ∷ rest) spells) tail now

  word_line : (word : Text) (rest : List Text) → FromRead rest → FromValue rest → (r : Read) (t : Bool) (l : Option (Text × Option Text)) (sh : Option Text)
      → bytes_eq word (codes "--") ≡ t → long_of word ≡ l → short_of word ≡ sh
      → read_by options word rest t l sh ≡ Some r
      → LineOf (word ∷ rest) r
  word_line word rest tail values r true l sh dashes long short e =
      subst (LineOf (word ∷ rest)) (some_read _ r e) (ap (λ (w : Text). w ∷ rest) ((bytes_eq-Decides word (codes "--")).0 dashes))
  word_line word rest tail values r false (Some p) sh other long short e =
      option_line word rest tail values r p.0 p.1 long (is_one_of p.0 options) refl p.1 refl e
  word_line word rest tail values r false None (Some flags) other long short e = absurd (none_read r e)
  word_line word rest tail values r false None None other long short e =
      more (operand word) (word ∷ rest) rest (read options None rest) r (operand_is word other long short) refl tail e

  value_line : (word : Text) (rest : List Text) → FromRead rest → (name : Text) → IsOneOf name options → (r : Read) (t : Bool) (l : Option (Text × Option Text)) (sh : Option Text)
      → cond t None (read_value name word l sh (read options None rest)) ≡ Some r → LineOf ((codes "--" ++ name) ∷ word ∷ rest) r
  value_line word rest tail name one r true l sh e = absurd (none_read r e)
  value_line word rest tail name one r false (Some p) sh e = absurd (none_read r e)
  value_line word rest tail name one r false None (Some flags) e = absurd (none_read r e)
  value_line word rest tail name one r false None None e =
      more (apart name word) ((codes "--" ++ name) ∷ word ∷ rest) rest (read options None rest) r one refl tail e

  lines : (words : List Text) → FromRead words × FromValue words
  lines [] = (
    λ r e. subst (LineOf []) (some_read _ r e) refl,
    λ name one r e. absurd (none_read r e),
  )
  lines (word ∷ rest) =
      let tail = lines rest in (
        λ r e. word_line word rest tail.0 tail.1 r (bytes_eq word (codes "--")) (long_of word) (short_of word) refl refl refl e,
        λ name one r e. value_line word rest tail.0 name one r (bytes_eq word (codes "--")) (long_of word) (short_of word) e,
      )

  pub read_is_line : (words : List Text) (r : Read) → read options None words ≡ Some r → LineOf words r
  read_is_line words = (lines words).0

  -- ---- every such line is read

  module _ (named : are_names options ≡ true) where
    pub line_is_read : (words : List Text) (parts : List Part) (later : Option (List Text)) → IsLine options words parts later → ArePlain parts
        → read options None words ≡ Some (record { parts = parts; later = later })
    line_is_read words [] None is plain = ap (read options None) is
    line_is_read words [] (Some later) is plain = ap (read options None) is
    line_is_read words (apart name value ∷ parts) later is plain =
        let rest = is.0 in
        let word = codes "--" ++ name in
        let one = one_of-to name options is.1 in
        let good = one_of_named options name named one in
        let other : bytes_eq word (codes "--") ≡ false =
        ap (λ (t : Text). bytes_eq (codes "--" ++ t) (codes "--")) (sym (append-nil name)) ∙ no_dashes name [] good in
        let value_is = operand_reads value plain.0 in
        let tail = line_is_read rest parts later is.3 plain.1 in
        ap (read options None) is.2
        ∙ ap (λ (b : Bool). read_by options word (value ∷ rest) b (long_of word) (short_of word)) other
        ∙ ap (λ (l : Option (Text × Option Text)). read_by options word (value ∷ rest) false l (short_of word)) (alone_reads name good)
        ∙ ap (λ (b : Bool). cond b (read options (Some name) (value ∷ rest)) None) one
        ∙ (λ i. cond (value_is.0 i) None (read_value name value (value_is.1 i) (value_is.2 i) (read options None rest)))
        ∙ ap (before (apart name value)) tail
    line_is_read words (joined name value ∷ parts) later is plain =
        let rest = is.0 in
        let word = codes "--" ++ (name ++ (codes "=" ++ value)) in
        let one = one_of-to name options is.1 in
        let good = one_of_named options name named one in
        let other = no_dashes name (codes "=" ++ value) good in
        let tail = line_is_read rest parts later is.3 plain.1 in
        ap (read options None) is.2
        ∙ ap (λ (b : Bool). read_by options word rest b (long_of word) (short_of word)) other
        ∙ ap (λ (l : Option (Text × Option Text)). read_by options word rest false l (short_of word)) (joined_reads name value good)
        ∙ ap (λ (b : Bool). cond b (before (joined name value) (read options None rest)) None) one
        ∙ ap (before (joined name value)) tail
    line_is_read words (operand word ∷ parts) later is plain =
        let rest = is.0 in
        let word_is = operand_reads word is.1 in
        let tail = line_is_read rest parts later is.3 plain.1 in
        ap (read options None) is.2
        ∙ (λ i. read_by options word rest (word_is.0 i) (word_is.1 i) (word_is.2 i))
        ∙ ap (before (operand word)) tail

    pub no_line : (words : List Text) (parts : List Part) (later : Option (List Text)) → read options None words ≡ None → IsLine options words parts later → ArePlain parts → ⊥
    no_line words parts later e is plain = none_read _ (sym e ∙ line_is_read words parts later is plain)
