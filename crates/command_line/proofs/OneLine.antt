-- Words are one line at most.
use Rattle.std.proofs.Common.{◌≡◌, ◌∙◌, Bool, true, false, refl, sym, ap, subst, List, [], ◌∷◌, ◌++◌, codes, drop, get_or, Option, Some, None, append-nil, true≢false}
use Rattle.std.specs.Prelude.{is_some, unwrap_or}
use Rattle.std.specs.Str.{bytes_eq}
use Rattle.std.proofs.lemmas.Slice.Eq.{bytes_eq-Decides}
use Rattle.clap.specs.Lexer.{long_of}
use Rattle.command_line.specs.Parts.{Part, Text, IsLine, IsOneOf, IsPart, apart, ending, joined, operand, spelled}
use Rattle.command_line.specs.Found.{are_names, is_name}
use Rattle.command_line.proofs.Rules.{one_of_named}
use Rattle.command_line.proofs.Spelling.{alone_reads, joined_reads, no_dashes, one_of-to, operand_reads}

-- the first word of a part, and what it is by itself
abbrev first_word : Part → Text
first_word (apart name value) = codes "--" ++ name
first_word (joined name value) = codes "--" ++ (name ++ (codes "=" ++ value))
first_word (operand word) = word

abbrev lead : Part → Option (Text × Option Text)
lead (apart name value) = Some (name, None)
lead (joined name value) = Some (name, Some value)
lead (operand word) = None

abbrev head : List Text → Text
head words = get_or words 0 []

abbrev has_value : Option (Text × Option Text) → Bool
has_value None = false
has_value (Some p) = is_some p.1

head_is : (part : Part) (rest : List Text) → head (spelled part rest) ≡ first_word part
head_is (apart name value) rest = refl
head_is (joined name value) rest = refl
head_is (operand word) rest = refl

never_empty : (part : Part) (rest : List Text) → [] ≡ spelled part rest → ⊥
never_empty (apart name value) rest e = absurd (cc e)
never_empty (joined name value) rest e = absurd (cc e)
never_empty (operand word) rest e = absurd (cc e)

some_pair : (a b : Text × Option Text) → Some a ≡ Some b → a ≡ b
some_pair a b e = ap (λ (o : Option (Text × Option Text)). unwrap_or o a) e

some_text : (a b : Text) → Some a ≡ Some b → a ≡ b
some_text a b e = ap (λ (o : Option Text). unwrap_or o a) e

one_ending : (a b : Option (List Text)) → ending a ≡ ending b → a ≡ b
one_ending None None e = refl
one_ending None (Some b) e = absurd (cc e)
one_ending (Some a) None e = absurd (cc e)
one_ending (Some a) (Some b) e = ap (λ (ws : List Text). Some (drop 1 ws)) e

module _ (options : List Text) (named : are_names options ≡ true) where
  good : (name : Text) → IsOneOf name options → is_name name ≡ true
  good name one = one_of_named options name named (one_of-to name options one)

  not_dashes : (part : Part) → IsPart options part → bytes_eq (first_word part) (codes "--") ≡ false
  not_dashes (apart name value) is =
      ap (λ (t : Text). bytes_eq (codes "--" ++ t) (codes "--")) (sym (append-nil name)) ∙ no_dashes name [] (good name is)
  not_dashes (joined name value) is = no_dashes name (codes "=" ++ value) (good name is)
  not_dashes (operand word) is = (operand_reads word is).0

  lead_is : (part : Part) → IsPart options part → long_of (first_word part) ≡ lead part
  lead_is (apart name value) is = alone_reads name (good name is)
  lead_is (joined name value) is = joined_reads name value (good name is)
  lead_is (operand word) is = (operand_reads word is).1

  no_ending : (part : Part) (rest : List Text) (later : Option (List Text)) → IsPart options part → ending later ≡ spelled part rest → ⊥
  no_ending part rest None is e = never_empty part rest e
  no_ending part rest (Some later) is e =
      let same : first_word part ≡ codes "--" = sym (head_is part rest) ∙ ap head (sym e) in
      true≢false (sym ((bytes_eq-Decides (first_word part) (codes "--")).1 same) ∙ not_dashes part is)

  same_lead : (p q : Part) (r s : List Text) → IsPart options p → IsPart options q → spelled p r ≡ spelled q s → lead p ≡ lead q
  same_lead p q r s one other e =
      sym (lead_is p one) ∙ ap long_of (sym (head_is p r) ∙ ap head e ∙ head_is q s) ∙ lead_is q other

  pub one_line : (words : List Text) (parts others : List Part) (later last : Option (List Text)) → IsLine options words parts later
      → IsLine options words others last → (parts ≡ others) × (later ≡ last)
  one_line words [] [] later last a b = (refl, one_ending later last (sym a ∙ b))
  one_line words [] (q ∷ qs) later last a b = absurd (no_ending q b.0 later b.1 (sym a ∙ b.2))
  one_line words (p ∷ ps) [] later last a b = absurd (no_ending p a.0 last a.1 (sym b ∙ a.2))
  one_line words (apart x v ∷ ps) (apart y w ∷ qs) later last a b =
      let e = sym a.2 ∙ b.2 in
      let rest : a.0 ≡ b.0 = ap (drop 2) e in
      let tail = one_line a.0 ps qs later last a.3 (subst (λ (ws : List Text). IsLine options ws qs last) (sym rest) b.3) in
      let name : x ≡ y = ap (λ (ws : List Text). drop 2 (get_or ws 0 [])) e in
      let value : v ≡ w = ap (λ (ws : List Text). get_or ws 1 []) e in
      ((λ i. apart (name i) (value i) ∷ tail.0 i), tail.1)
  one_line words (joined x v ∷ ps) (joined y w ∷ qs) later last a b =
      let e = sym a.2 ∙ b.2 in
      let rest : a.0 ≡ b.0 = ap (drop 1) e in
      let tail = one_line a.0 ps qs later last a.3 (subst (λ (ws : List Text). IsLine options ws qs last) (sym rest) b.3) in
      let pair = some_pair (x, Some v) (y, Some w) (same_lead (joined x v) (joined y w) a.0 b.0 a.1 b.1 e) in
      let name : x ≡ y = ap (λ (p : Text × Option Text). p.0) pair in
      let value : v ≡ w = some_text v w (ap (λ (p : Text × Option Text). p.1) pair) in
      ((λ i. joined (name i) (value i) ∷ tail.0 i), tail.1)
  one_line words (operand v ∷ ps) (operand w ∷ qs) later last a b =
      let e = sym a.2 ∙ b.2 in
      let rest : a.0 ≡ b.0 = ap (drop 1) e in
      let tail = one_line a.0 ps qs later last a.3 (subst (λ (ws : List Text). IsLine options ws qs last) (sym rest) b.3) in
      let word : v ≡ w = ap head e in
      ((λ i. operand (word i) ∷ tail.0 i), tail.1)
  one_line words (apart x v ∷ ps) (joined y w ∷ qs) later last a b =
      absurd (true≢false (sym (ap has_value (same_lead (apart x v) (joined y w) a.0 b.0 a.1 b.1 (sym a.2 ∙ b.2)))))
  one_line words (joined x v ∷ ps) (apart y w ∷ qs) later last a b =
      absurd (true≢false (ap has_value (same_lead (joined x v) (apart y w) a.0 b.0 a.1 b.1 (sym a.2 ∙ b.2))))
  one_line words (apart x v ∷ ps) (operand w ∷ qs) later last a b =
      absurd (true≢false (ap (λ (o : Option (Text × Option Text)). is_some o) (same_lead (apart x v) (operand w) a.0 b.0 a.1 b.1 (sym a.2 ∙ b.2))))
  one_line words (joined x v ∷ ps) (operand w ∷ qs) later last a b =
      absurd (true≢false (ap (λ (o : Option (Text × Option Text)). is_some o) (same_lead (joined x v) (operand w) a.0 b.0 a.1 b.1 (sym a.2 ∙ b.2))))
  one_line words (operand v ∷ ps) (apart y w ∷ qs) later last a b =
      absurd (true≢false (sym (ap (λ (o : Option (Text × Option Text)). is_some o) (same_lead (operand v) (apart y w) a.0 b.0 a.1 b.1 (sym a.2 ∙ b.2)))))
  one_line words (operand v ∷ ps) (joined y w ∷ qs) later last a b =
      absurd (true≢false (sym (ap (λ (o : Option (Text × Option Text)). is_some o) (same_lead (operand v) (joined y w) a.0 b.0 a.1 b.1 (sym a.2 ∙ b.2)))))
