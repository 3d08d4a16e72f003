-- What the words mean, by what was found, and that they mean nothing else.
use Rattle.std.proofs.Common.{◌≡◌, ◌∙◌, ◌<◌, ◌≤◌, ◌-◌, ◌^◌, ℕ, Bool, true, inl, inr, refl, sym, ap, subst, arith, List, [], ◌∷◌, codes, get_or, length, map, string_bytes, Option, Bor}
use Rattle.clap.specs.declared.parser.matches.ArgMatches.{ArgMatches}
use Rattle.run_requests.specs.declared.asked.Bulk.{Bulk}
use Rattle.run_requests.specs.declared.asked.Draws.{Draws}
use Rattle.run_requests.specs.declared.asked.Protect.{Protect}
use Rattle.run_requests.specs.declared.asked.WordsArgs.{WordsArgs}
use Rattle.command_line.specs.declared.settings.Settings.{Settings}
use Rattle.command_line.specs.Parts.{Part, Text, IsLine, IsOneOf, operands_of, values_of}
use Rattle.command_line.specs.Found.{ArePlain, Shows, are_names, found_under, operands_name}
use Rattle.command_line.specs.Requests.{bulk_options, words_options, AreDraws, AreSettings, AreWords, IsBulk, IsDrawn, IsFile, IsGen, Reads}
use Rattle.command_line.specs.Values.{IsLanes, IsNumberWithin, IsProtect, IsQueue, IsRounds, IsSlots, SuitsQueue}
use Rattle.command_line.proofs.Given.{texts}
use Rattle.command_line.proofs.OneLine.{one_line}
use Rattle.command_line.proofs.Plain.{AreOperands, numbers_plain, parts_plain, protect_plain, queue_plain, slots_plain}

-- clap refused the words
abbrev pub NoLine : List Text → List Text → Type 0
NoLine options words = (parts : List Part) (later : Option (List Text)) → IsLine options words parts later → ArePlain parts → ⊥

-- ---- values that mean something are plain

none_plain : (words : List Text) (parts : List Part) (later : Option (List Text)) → IsLine [] words parts later → ArePlain parts
none_plain words parts later line = parts_plain [] words parts later line (λ option one. absurd one)

bulk_plain : (words : List Text) (parts : List Part) (later : Option (List Text)) (bulk : Bulk) → IsLine bulk_options words parts later
    → IsBulk bulk parts later → ArePlain parts
bulk_plain words parts later bulk line means = parts_plain bulk_options words parts later line all
  where
    all : (option : Text) → IsOneOf option bulk_options → AreOperands (values_of option parts)
    all option (inl is) = subst (λ (o : Text). AreOperands (values_of o parts)) (sym is) (numbers_plain 2 1 31 (values_of (codes "lanes") parts) bulk.lanes means.1)
    all option (inr refused) = absurd refused

words_plain : (words : List Text) (parts : List Part) (later : Option (List Text)) (args : WordsArgs) → IsLine words_options words parts later
    → AreWords args parts later → ArePlain parts
words_plain words parts later args line means = parts_plain words_options words parts later line all
  where
    all : (option : Text) → IsOneOf option words_options → AreOperands (values_of option parts)
    all option (inl is) = subst (λ (o : Text). AreOperands (values_of o parts)) (sym is) (numbers_plain 2 1 31 (values_of (codes "lanes") parts) args.lanes means.lanes)
    all option (inr (inl is)) = subst (λ (o : Text). AreOperands (values_of o parts)) (sym is) (numbers_plain 1 1 1000 (values_of (codes "rounds") parts) args.rounds means.rounds)
    all option (inr (inr (inl is))) = subst (λ (o : Text). AreOperands (values_of o parts)) (sym is) (slots_plain (values_of (codes "slots") parts) args.slots means.slots)
    all option (inr (inr (inr (inl is)))) = subst (λ (o : Text). AreOperands (values_of o parts)) (sym is) (queue_plain (values_of (codes "queue") parts) args.double means.queue)
    all option (inr (inr (inr (inr (inl is))))) = subst (λ (o : Text). AreOperands (values_of o parts)) (sym is) (protect_plain (values_of (codes "protect") parts) args.protect means.protect)
    all option (inr (inr (inr (inr (inr refused))))) = absurd refused

-- ---- a line that means something has the operands and the values that were found

module _ (options words : List Text) (named : are_names options ≡ true) (m : ArgMatches) (s : Shows options words m) where
  same_operands : (parts : List Part) (later : Option (List Text)) → IsLine options words parts later
      → operands_of parts later ≡ found_under operands_name m
  same_operands parts later line =
      let same = one_line options named words parts s.parts later s.later line s.line in
      (λ i. operands_of (same.0 i) (same.1 i)) ∙ sym s.operands

  same_values : (parts : List Part) (later : Option (List Text)) → IsLine options words parts later
      → (option : Text) → IsOneOf option options → values_of option parts ≡ found_under option m
  same_values parts later line option one =
      let same = one_line options named words parts s.parts later s.later line s.line in
      ap (values_of option) same.0 ∙ sym (s.values option one)

-- ---- one file

pub file_found : (words : List Text) (m : ArgMatches) (file : Text) → Shows [] words m → found_under operands_name m ≡ file ∷ [] → Reads [] words (IsFile file)
file_found words m file s is = (s.parts, s.later, s.line, sym s.operands ∙ is)

pub file_refused : (words : List Text) → NoLine [] words → (file : Text) → Reads [] words (IsFile file) → ⊥
file_refused words refused file means = refused means.0 means.1 means.2 (none_plain words means.0 means.1 means.2)

pub file_none : (words : List Text) (m : ArgMatches) → Shows [] words m → ((file : Text) → found_under operands_name m ≡ file ∷ [] → ⊥)
    → (file : Text) → Reads [] words (IsFile file) → ⊥
file_none words m s refused file means =
    refused file (sym (same_operands [] words refl m s means.0 means.1 means.2) ∙ means.3)

-- ---- draws

pub gen_found : (words : List Text) (m : ArgMatches) (draws : Draws) → Shows [] words m → AreDraws 1000000 draws (found_under operands_name m)
    → Reads [] words (IsGen draws)
gen_found words m draws s is = (s.parts, s.later, s.line, subst (AreDraws 1000000 draws) s.operands is)

pub gen_refused : (words : List Text) → NoLine [] words → (draws : Draws) → Reads [] words (IsGen draws) → ⊥
gen_refused words refused draws means = refused means.0 means.1 means.2 (none_plain words means.0 means.1 means.2)

pub gen_none : (words : List Text) (m : ArgMatches) → Shows [] words m → ((draws : Draws) → AreDraws 1000000 draws (found_under operands_name m) → ⊥)
    → (draws : Draws) → Reads [] words (IsGen draws) → ⊥
gen_none words m s refused draws means =
    refused draws (subst (AreDraws 1000000 draws) (same_operands [] words refl m s means.0 means.1 means.2) means.3)

-- ---- draws that lanes count

pub bulk_found : (words : List Text) (m : ArgMatches) (bulk : Bulk) → Shows bulk_options words m → IsDrawn m bulk → Reads bulk_options words (IsBulk bulk)
bulk_found words m bulk s is = (
  s.parts,
  s.later,
  s.line,
  (subst (AreDraws 500000 bulk.draws) s.operands is.0, subst (λ (vs : List Text). IsLanes vs bulk.lanes) (s.values (codes "lanes") (inl refl)) is.1),
)

pub bulk_refused : (words : List Text) → NoLine bulk_options words → (bulk : Bulk) → Reads bulk_options words (IsBulk bulk) → ⊥
bulk_refused words refused bulk means = refused means.0 means.1 means.2 (bulk_plain words means.0 means.1 bulk means.2 means.3)

pub bulk_none : (words : List Text) (m : ArgMatches) → Shows bulk_options words m → ((bulk : Bulk) → IsDrawn m bulk → ⊥)
    → (bulk : Bulk) → Reads bulk_options words (IsBulk bulk) → ⊥
bulk_none words m s refused bulk means =
    refused bulk (
      subst (AreDraws 500000 bulk.draws) (same_operands bulk_options words refl m s means.0 means.1 means.2) means.3.0,
      subst (λ (vs : List Text). IsLanes vs bulk.lanes) (same_values bulk_options words refl m s means.0 means.1 means.2 (codes "lanes") (inl refl)) means.3.1,
    )

-- ---- files whose words are counted

pub words_found : (words : List Text) (m : ArgMatches) (settings : Settings) (args : WordsArgs) → Shows words_options words m → AreSettings m settings
    → map string_bytes args.names.items ≡ found_under operands_name m → 0 < length (found_under operands_name m)
    → args.lanes ≡ settings.lanes → args.rounds ≡ settings.rounds → args.slots ≡ settings.slots → args.double ≡ settings.double → args.protect ≡ settings.protect
    → Reads words_options words (AreWords args)
words_found words m settings args s is names some lanes rounds slots double protect = (
  s.parts,
  s.later,
  s.line,
  record {
    names = names ∙ s.operands;
    some = subst (λ (ws : List Text). 0 < length ws) s.operands some;
    lanes = subst (λ (n : ℕ). IsLanes (values_of (codes "lanes") s.parts) n) (sym lanes)
        (subst (λ (vs : List Text). IsLanes vs settings.lanes) (s.values (codes "lanes") (inl refl)) is.lanes);
    rounds = subst (λ (n : ℕ). IsRounds (values_of (codes "rounds") s.parts) n) (sym rounds)
        (subst (λ (vs : List Text). IsRounds vs settings.rounds) (s.values (codes "rounds") (inr (inl refl))) is.rounds);
    slots = subst (λ (n : Option ℕ). IsSlots (values_of (codes "slots") s.parts) n) (sym slots)
        (subst (λ (vs : List Text). IsSlots vs settings.slots) (s.values (codes "slots") (inr (inr (inl refl)))) is.slots);
    queue = subst (λ (b : Bool). IsQueue (values_of (codes "queue") s.parts) b) (sym double)
        (subst (λ (vs : List Text). IsQueue vs settings.double) (s.values (codes "queue") (inr (inr (inr (inl refl))))) is.queue);
    protect = subst (λ (p : Protect). IsProtect (values_of (codes "protect") s.parts) p) (sym protect)
        (subst (λ (vs : List Text). IsProtect vs settings.protect) (s.values (codes "protect") (inr (inr (inr (inr (inl refl)))))) is.protect);
    suits = subst (λ (p : Protect). SuitsQueue (values_of (codes "queue") s.parts) p) (sym protect)
        (subst (λ (vs : List Text). SuitsQueue vs settings.protect) (s.values (codes "queue") (inr (inr (inr (inl refl))))) is.suits);
  },
)

pub words_refused : (words : List Text) → NoLine words_options words → (args : WordsArgs) → Reads words_options words (AreWords args) → ⊥
words_refused words refused args means = refused means.0 means.1 means.2 (words_plain words means.0 means.1 args means.2 means.3)

pub words_unset : (words : List Text) (m : ArgMatches) → Shows words_options words m → ((settings : Settings) → AreSettings m settings → ⊥)
    → (args : WordsArgs) → Reads words_options words (AreWords args) → ⊥
words_unset words m s refused args means =
    let same = same_values words_options words refl m s means.0 means.1 means.2 in
    refused (record { lanes = args.lanes; rounds = args.rounds; slots = args.slots; double = args.double; protect = args.protect }) (record {
      lanes = subst (λ (vs : List Text). IsLanes vs args.lanes) (same (codes "lanes") (inl refl)) means.3.lanes;
      rounds = subst (λ (vs : List Text). IsRounds vs args.rounds) (same (codes "rounds") (inr (inl refl))) means.3.rounds;
      slots = subst (λ (vs : List Text). IsSlots vs args.slots) (same (codes "slots") (inr (inr (inl refl)))) means.3.slots;
      queue = subst (λ (vs : List Text). IsQueue vs args.double) (same (codes "queue") (inr (inr (inr (inl refl))))) means.3.queue;
      protect = subst (λ (vs : List Text). IsProtect vs args.protect) (same (codes "protect") (inr (inr (inr (inr (inl refl)))))) means.3.protect;
      suits = subst (λ (vs : List Text). SuitsQueue vs args.protect) (same (codes "queue") (inr (inr (inr (inl refl))))) means.3.suits;
    })

pub words_none : (words : List Text) (m : ArgMatches) → Shows words_options words m → length (found_under operands_name m) ≡ 0
    → (args : WordsArgs) → Reads words_options words (AreWords args) → ⊥
words_none words m s none args means =
    let same = same_operands words_options words refl m s means.0 means.1 means.2 in
    let some : 0 < length (found_under operands_name m) = subst (λ (ws : List Text). 0 < length ws) same means.3.some in
    absurd (omega (arith, some, none))

-- ---- three operands

three_texts : (xs : List (Bor Text)) (d : Bor Text) → 3 ≤ length xs → length xs < 4
    → texts xs ≡ (get_or xs 0 d).now ∷ (get_or xs 1 d).now ∷ (get_or xs 2 d).now ∷ []
three_texts [] d least most = absurd (omega arith)
three_texts (x ∷ []) d least most = absurd (omega arith)
three_texts (x ∷ y ∷ []) d least most = absurd (omega arith)
three_texts (x ∷ y ∷ z ∷ []) d least most = refl
three_texts (x ∷ y ∷ z ∷ u ∷ xs) d least most = absurd (omega arith)

pub three_draws : (most : ℕ) (draws : Draws) (xs : List (Bor Text)) (d : Bor Text) → 3 ≤ length xs → length xs < 4 → AreDraws most draws (texts xs)
    → IsNumberWithin 0 (2 ^ 64 - 1) (get_or xs 0 d).now draws.seed × IsNumberWithin 0 most (get_or xs 1 d).now draws.words
    × IsNumberWithin 1 1000000 (get_or xs 2 d).now draws.vocabulary
three_draws many draws xs d least most is =
    let same = sym is.3 ∙ three_texts xs d least most in
    let at : ℕ → List Text → Text = λ i ts. get_or ts i [] in (
      subst (λ (w : Text). IsNumberWithin 0 (2 ^ 64 - 1) w draws.seed) (ap (at 0) same) is.4,
      subst (λ (w : Text). IsNumberWithin 0 many w draws.words) (ap (at 1) same) is.5,
      subst (λ (w : Text). IsNumberWithin 1 1000000 w draws.vocabulary) (ap (at 2) same) is.6,
    )
