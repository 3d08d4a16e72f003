-- What is known on the way through the fields of a text.
use Rattle.std.proofs.Common.{◌≡◌, ◌≢◌, ℕ, ◌+◌, ◌<◌, ◌≤◌, Bool, cond, List, [], ◌∷◌, ◌++◌, Option, Some, None, length, sym, ap, ◌∙◌, arith, append_assoc, append-nil, length-append}
use Rattle.std.proofs.lemmas.List.Sums.{count_by-le-length, sum_by-cons}
use Rattle.std.specs.List.{cons_option, count_by, filter_map}
use Rattle.std.specs.Option.{is_none}
use Rattle.cdrc_text.specs.Pieces.{fields_of}
use Rattle.number_text.specs.Numbers.{number_of, numbers_of, skipped_of}

-- the field is skipped
abbrev pub is_skipped : List ℕ → Bool
is_skipped field = is_none (number_of field)

-- the numbers so far and those of the fields that are left are the text's, and so are the skipped fields
pub record IsReading (bytes : List ℕ) (limit : ℕ) (numbers : List ℕ) (skipped : ℕ) (left : List (List ℕ)) : Type 0 where
  pub found : numbers ++ filter_map number_of left ≡ numbers_of bytes
  pub passed : skipped + count_by is_skipped left ≡ skipped_of bytes
  pub room : length numbers ≤ limit

module _ (bytes : List ℕ) (limit : ℕ) where
  pub reading-start : (numbers : List ℕ) (left : List (List ℕ)) → numbers ≡ [] → left ≡ fields_of bytes → IsReading bytes limit numbers 0 left
  reading-start numbers left none all =
      let found = ap (λ (xs : List ℕ). xs ++ filter_map number_of left) none in
      record {
        found = found ∙ ap (filter_map number_of) all;
        passed = omega (arith, ap (count_by is_skipped) all);
        room = omega (arith, ap length none);
      }

  module _ (numbers : List ℕ) (skipped : ℕ) (left : List (List ℕ)) (reading : IsReading bytes limit numbers skipped left) where
    pub reading-end : left ≡ [] → (numbers ≡ numbers_of bytes) × (skipped ≡ skipped_of bytes)
    reading-end none =
        let passed = ap (count_by is_skipped) none in (
          sym (append-nil numbers) ∙ ap (λ fields. numbers ++ filter_map number_of fields) (sym none) ∙ reading.found,
          omega (arith, passed, reading.passed),
        )

    module _ (field : List ℕ) (rest : List (List ℕ)) (next : left ≡ field ∷ rest) where
      -- the numbers of the fields left, by what the first one is
      left-numbers : (o : Option ℕ) → number_of field ≡ o → numbers ++ cons_option o (filter_map number_of rest) ≡ numbers_of bytes
      left-numbers o is =
          ap (λ p. numbers ++ cons_option p (filter_map number_of rest)) (sym is)
          ∙ ap (λ fields. numbers ++ filter_map number_of fields) (sym next) ∙ reading.found

      left-skipped : (o : Option ℕ) → number_of field ≡ o → skipped + (cond (is_none o) 1 0 + count_by is_skipped rest) ≡ skipped_of bytes
      left-skipped o is =
          ap (λ p. skipped + (cond (is_none p) 1 0 + count_by is_skipped rest)) (sym is)
          ∙ ap (λ n. skipped + n) (sym (sum_by-cons (λ f. cond (is_skipped f) 1 0) field rest))
          ∙ ap (λ fields. skipped + count_by is_skipped fields) (sym next) ∙ reading.passed

      pub reading-skip : number_of field ≡ None → IsReading bytes limit numbers (skipped + 1) rest
      reading-skip is = record {
        found = left-numbers None is;
        passed = omega (arith, left-skipped None is);
        room = reading.room;
      }

      pub skipped-fits : number_of field ≡ None → skipped + 1 ≤ length (fields_of bytes)
      skipped-fits is = omega (arith, left-skipped None is, count_by-le-length is_skipped (fields_of bytes))

      pub reading-push : (n : ℕ) (after : List ℕ) → number_of field ≡ Some n → length numbers ≢ limit → after ≡ numbers ++ n ∷ []
          → IsReading bytes limit after skipped rest
      reading-push n after is room pushed = record {
        found = ap (λ xs. xs ++ filter_map number_of rest) pushed ∙ append_assoc numbers (n ∷ []) (filter_map number_of rest) ∙ left-numbers (Some n) is;
        passed = omega (arith, left-skipped (Some n) is);
        room = omega (arith, ap length pushed, length-append numbers (n ∷ []), reading.room);
      }

      pub reading-full : (n : ℕ) → number_of field ≡ Some n → length numbers ≡ limit → limit < length (numbers_of bytes)
      reading-full n is full =
          omega (arith, full, ap length (left-numbers (Some n) is), length-append numbers (n ∷ filter_map number_of rest))
