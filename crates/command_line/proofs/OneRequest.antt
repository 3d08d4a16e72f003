-- A line asks for one request at most.
use Rattle.std.proofs.Common.{◌≡◌, ◌∙◌, ℕ, Bool, true, inl, inr, refl, sym, ap, subst, List, [], ◌∷◌, codes, get_or, string_bytes, Option, Some, true≢false}
use Rattle.std.proofs.lemmas.Slice.Eq.{bytes_eq-Decides}
use Rattle.line_words.specs.Number.{IsNumber}
use Rattle.line_words.proofs.Decimal.{one-number_of}
use Rattle.run_requests.specs.declared.asked.Bulk.{Bulk}
use Rattle.run_requests.specs.declared.asked.Draws.{Draws}
use Rattle.run_requests.specs.declared.asked.Protect.{Protect}
use Rattle.run_requests.specs.declared.asked.Request.{Request}
use Rattle.run_requests.specs.declared.asked.Request.TheVariants as request
use Rattle.run_requests.specs.declared.asked.WordsArgs.{WordsArgs}
use Rattle.command_line.specs.Parts.{Part, Text, IsLine, operands_of, values_of}
use Rattle.command_line.specs.Found.{are_names}
use Rattle.command_line.specs.Requests.{bulk_options, words_options, AreDraws, AreWords, Asks, IsBulk, IsFile, IsGen, IsSame, Reads}
use Rattle.command_line.specs.Values.{IsLanes, IsNumberOr, IsNumberWithin, IsProtect, IsQueue, IsRounds, IsSlots}
use Rattle.command_line.proofs.Commands.{differs, rest_is}
use Rattle.command_line.proofs.OneLine.{one_line}

-- ---- values have one meaning

one_numbers : (default least most : ℕ) (values : List Text) (n m : ℕ) → IsNumberOr default least most values n → IsNumberOr default least most values m → n ≡ m
one_numbers default least most [] n m a b = a ∙ sym b
one_numbers default least most (word ∷ []) n m a b = one-number_of word n m a.0 b.0
one_numbers default least most (word ∷ more ∷ words) n m a b = absurd a

one_slots : (values : List Text) (s t : Option ℕ) → IsSlots values s → IsSlots values t → s ≡ t
one_slots [] s t a b = a ∙ sym b
one_slots (word ∷ []) s t a b = a.1 ∙ ap (λ (n : ℕ). Some n) (one-number_of word a.0 b.0 a.2.0 b.2.0) ∙ sym b.1
one_slots (word ∷ more ∷ words) s t a b = absurd a

linked_or_double : (word : Text) → word ≡ codes "linked" → word ≡ codes "double" → ⊥
linked_or_double word a b = true≢false (sym ((bytes_eq-Decides (codes "linked") (codes "double")).1 (sym a ∙ b)))

one_queue : (values : List Text) (c d : Bool) → IsQueue values c → IsQueue values d → c ≡ d
one_queue [] c d a b = a ∙ sym b
one_queue (word ∷ []) c d (inl a) (inl b) = a.1 ∙ sym b.1
one_queue (word ∷ []) c d (inl a) (inr b) = absurd (linked_or_double word a.0 b.0)
one_queue (word ∷ []) c d (inr a) (inl b) = absurd (linked_or_double word b.0 a.0)
one_queue (word ∷ []) c d (inr a) (inr b) = a.1 ∙ sym b.1
one_queue (word ∷ more ∷ words) c d a b = absurd a

announce_or_epoch : (word : Text) → word ≡ codes "announce" → word ≡ codes "epoch" → ⊥
announce_or_epoch word a b = true≢false (sym ((bytes_eq-Decides (codes "announce") (codes "epoch")).1 (sym a ∙ b)))

one_protect : (values : List Text) (p q : Protect) → IsProtect values p → IsProtect values q → p ≡ q
one_protect [] p q a b = a ∙ sym b
one_protect (word ∷ []) p q (inl a) (inl b) = a.1 ∙ sym b.1
one_protect (word ∷ []) p q (inl a) (inr b) = absurd (announce_or_epoch word a.0 b.0)
one_protect (word ∷ []) p q (inr a) (inl b) = absurd (announce_or_epoch word b.0 a.0)
one_protect (word ∷ []) p q (inr a) (inr b) = a.1 ∙ sym b.1
one_protect (word ∷ more ∷ words) p q a b = absurd a

one_within : (word other : Text) (n m least most : ℕ) → word ≡ other → IsNumberWithin least most word n → IsNumberWithin least most other m → n ≡ m
one_within word other n m least most same a b = one-number_of other n m (subst (λ (w : Text). IsNumber w n) same a.0) b.0

one_draws : (most : ℕ) (operands : List Text) (d e : Draws) → AreDraws most d operands → AreDraws most e operands → d ≡ e
one_draws many operands d e a b =
    let same = sym a.3 ∙ b.3 in
    let seed = one_within a.0 b.0 d.seed e.seed _ _ (ap (λ (ws : List Text). get_or ws 0 []) same) a.4 b.4 in
    let words = one_within a.1 b.1 d.words e.words _ _ (ap (λ (ws : List Text). get_or ws 1 []) same) a.5 b.5 in
    let vocabulary = one_within a.2 b.2 d.vocabulary e.vocabulary _ _ (ap (λ (ws : List Text). get_or ws 2 []) same) a.6 b.6 in
    λ i. record { seed = seed i; words = words i; vocabulary = vocabulary i }

-- ---- words have one meaning

module _ (options words others : List Text) (same : words ≡ others) (named : are_names options ≡ true) (p q : List Part) (l k : Option (List Text))
    (a : IsLine options words p l) (b : IsLine options others q k) where
  one : (p ≡ q) × (l ≡ k)
  one = one_line options named words p q l k a (subst (λ (ws : List Text). IsLine options ws q k) (sym same) b)

  pub one_operands : operands_of p l ≡ operands_of q k
  one_operands = λ i. operands_of (one.0 i) (one.1 i)

  pub one_values : (option : Text) → values_of option p ≡ values_of option q
  one_values option = ap (values_of option) one.0

one_file : (words others : List Text) (f g : Text) → words ≡ others → Reads [] words (IsFile f) → Reads [] others (IsFile g) → f ≡ g
one_file words others f g same a b =
    ap (λ (ws : List Text). get_or ws 0 []) (sym a.3 ∙ one_operands [] words others same refl a.0 b.0 a.1 b.1 a.2 b.2 ∙ b.3)

one_gen : (words others : List Text) (d e : Draws) → words ≡ others → Reads [] words (IsGen d) → Reads [] others (IsGen e) → d ≡ e
one_gen words others d e same a b =
    one_draws 1000000 (operands_of b.0 b.1) d e (subst (AreDraws 1000000 d) (one_operands [] words others same refl a.0 b.0 a.1 b.1 a.2 b.2) a.3) b.3

one_bulk : (words others : List Text) (d e : Bulk) → words ≡ others → Reads bulk_options words (IsBulk d) → Reads bulk_options others (IsBulk e) → d ≡ e
one_bulk words others d e same a b =
    let draws = one_draws 500000 (operands_of b.0 b.1) d.draws e.draws
    (subst (AreDraws 500000 d.draws) (one_operands bulk_options words others same refl a.0 b.0 a.1 b.1 a.2 b.2) a.3.0) b.3.0 in
    let values = one_values bulk_options words others same refl a.0 b.0 a.1 b.1 a.2 b.2 (codes "lanes") in
    let lanes = one_numbers 2 1 31 (values_of (codes "lanes") b.0) d.lanes e.lanes (subst (λ (vs : List Text). IsLanes vs d.lanes) values a.3.1) b.3.1 in
    λ i. record { draws = draws i; lanes = lanes i }

one_words : (words others : List Text) (a b : WordsArgs) → words ≡ others → Reads words_options words (AreWords a) → Reads words_options others (AreWords b)
    → IsSame (request.Words a) (request.Words b)
one_words words others a b same x y =
    let operands = one_operands words_options words others same refl x.0 y.0 x.1 y.1 x.2 y.2 in
    let values = one_values words_options words others same refl x.0 y.0 x.1 y.1 x.2 y.2 in (
      x.3.names ∙ operands ∙ sym y.3.names,
      one_numbers 2 1 31 (values_of (codes "lanes") y.0) a.lanes b.lanes (subst (λ (vs : List Text). IsLanes vs a.lanes) (values (codes "lanes")) x.3.lanes) y.3.lanes,
      one_numbers 1 1 1000 (values_of (codes "rounds") y.0) a.rounds b.rounds (subst (λ (vs : List Text). IsRounds vs a.rounds) (values (codes "rounds")) x.3.rounds) y.3.rounds,
      one_slots (values_of (codes "slots") y.0) a.slots b.slots (subst (λ (vs : List Text). IsSlots vs a.slots) (values (codes "slots")) x.3.slots) y.3.slots,
      one_queue (values_of (codes "queue") y.0) a.double b.double (subst (λ (vs : List Text). IsQueue vs a.double) (values (codes "queue")) x.3.queue) y.3.queue,
      one_protect (values_of (codes "protect") y.0) a.protect b.protect (subst (λ (vs : List Text). IsProtect vs a.protect) (values (codes "protect")) x.3.protect) y.3.protect,
    )

pub one_request : (line : List Text) (asked other : Request) → Asks line asked → Asks line other → IsSame asked other
one_request line (request.Words a) (request.Words b) x y = one_words x.0 y.0 a b (rest_is (codes "words") line x.0 y.0 x.1 y.1) x.2 y.2
one_request line (request.Words a) (request.Script b) x y = differs (codes "words") (codes "script") line x.0 y.0 refl x.1 y.1
one_request line (request.Words a) (request.Steps b) x y = differs (codes "words") (codes "steps") line x.0 y.0 refl x.1 y.1
one_request line (request.Words a) (request.Generate b) x y = differs (codes "words") (codes "gen") line x.0 y.0 refl x.1 y.1
one_request line (request.Words a) (request.Bulk b) x y = differs (codes "words") (codes "bulk") line x.0 y.0 refl x.1 y.1
one_request line (request.Script a) (request.Words b) x y = differs (codes "script") (codes "words") line x.0 y.0 refl x.1 y.1
one_request line (request.Script a) (request.Script b) x y = one_file x.0 y.0 (string_bytes a) (string_bytes b) (rest_is (codes "script") line x.0 y.0 x.1 y.1) x.2 y.2
one_request line (request.Script a) (request.Steps b) x y = differs (codes "script") (codes "steps") line x.0 y.0 refl x.1 y.1
one_request line (request.Script a) (request.Generate b) x y = differs (codes "script") (codes "gen") line x.0 y.0 refl x.1 y.1
one_request line (request.Script a) (request.Bulk b) x y = differs (codes "script") (codes "bulk") line x.0 y.0 refl x.1 y.1
one_request line (request.Steps a) (request.Words b) x y = differs (codes "steps") (codes "words") line x.0 y.0 refl x.1 y.1
one_request line (request.Steps a) (request.Script b) x y = differs (codes "steps") (codes "script") line x.0 y.0 refl x.1 y.1
one_request line (request.Steps a) (request.Steps b) x y = one_file x.0 y.0 (string_bytes a) (string_bytes b) (rest_is (codes "steps") line x.0 y.0 x.1 y.1) x.2 y.2
one_request line (request.Steps a) (request.Generate b) x y = differs (codes "steps") (codes "gen") line x.0 y.0 refl x.1 y.1
one_request line (request.Steps a) (request.Bulk b) x y = differs (codes "steps") (codes "bulk") line x.0 y.0 refl x.1 y.1
one_request line (request.Generate a) (request.Words b) x y = differs (codes "gen") (codes "words") line x.0 y.0 refl x.1 y.1
one_request line (request.Generate a) (request.Script b) x y = differs (codes "gen") (codes "script") line x.0 y.0 refl x.1 y.1
one_request line (request.Generate a) (request.Steps b) x y = differs (codes "gen") (codes "steps") line x.0 y.0 refl x.1 y.1
one_request line (request.Generate a) (request.Generate b) x y = one_gen x.0 y.0 a b (rest_is (codes "gen") line x.0 y.0 x.1 y.1) x.2 y.2
one_request line (request.Generate a) (request.Bulk b) x y = differs (codes "gen") (codes "bulk") line x.0 y.0 refl x.1 y.1
one_request line (request.Bulk a) (request.Words b) x y = differs (codes "bulk") (codes "words") line x.0 y.0 refl x.1 y.1
one_request line (request.Bulk a) (request.Script b) x y = differs (codes "bulk") (codes "script") line x.0 y.0 refl x.1 y.1
one_request line (request.Bulk a) (request.Steps b) x y = differs (codes "bulk") (codes "steps") line x.0 y.0 refl x.1 y.1
one_request line (request.Bulk a) (request.Generate b) x y = differs (codes "bulk") (codes "gen") line x.0 y.0 refl x.1 y.1
one_request line (request.Bulk a) (request.Bulk b) x y = one_bulk x.0 y.0 a b (rest_is (codes "bulk") line x.0 y.0 x.1 y.1) x.2 y.2
