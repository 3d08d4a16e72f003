-- What is known on the way through the characters of a text, and what follows at its end.
use Rattle.std.proofs.Common.{◌≡◌, ℕ, ◌≤◌, Bool, true, false, cond, List, [], ◌∷◌, ◌++◌, Option, Some, None, length, map, get_or, refl, sym, ap, subst, ◌∙◌, arith, append_assoc, append-nil, length-append}
use Rattle.std.proofs.lemmas.Bool.{cond-true, cond-false}
use Rattle.std.proofs.lemmas.List.{map-append, get_or_append_left, length-map}
use Rattle.std.proofs.lemmas.List.Elements.{All-append, All-cons, All-nil, All-head, All-tail}
use Rattle.std.proofs.lemmas.List.Folds.{flat_map-map}
use Rattle.std.specs.Char.{is_whitespace}
use Rattle.std.specs.List.{All, flat_map}
use Rattle.std.specs.Option.{IfSome}
use Rattle.bstr.proofs.lemmas.FieldLemmas.{chain-step, chain-le, chain-whole}
use Rattle.bstr.specs.Fields.{SpanChain}
use Rattle.bstr.specs.Text.{part}
use Rattle.cdrc_text.proofs.Cutting.{All-cut_places, texts-cut_places}
use Rattle.cdrc_text.proofs.Fields.{parts-field_ends}
use Rattle.cdrc_text.specs.declared.error.PiecesError.{PiecesError}
use Rattle.cdrc_text.specs.declared.error.PiecesError.TheVariants.{TooMany, OutOfMemory}
use Rattle.cdrc_text.specs.Pieces.{bytes_at, cut, cut_places, field_ends, fields_of, pieces_of, places_of, spans_of, IsPlace}
use Rattle.cdrc_text.specs.Refused.{IsCauseOf, IsOver}

-- ---- flat_map

map-flat_map : {X Y Z : Type 0} (g : Y → Z) (f : X → List Y) (xs : List X) → map g (flat_map f xs) ≡ flat_map (λ x. map g (f x)) xs
map-flat_map g f [] = refl
map-flat_map g f (x ∷ xs) = map-append g (f x) (flat_map f xs) ∙ ap (λ ys. map g (f x) ++ ys) (map-flat_map g f xs)

flat_map-same : {X Y : Type 0} (f g : X → List Y) (P : X → Type 0) → ((x : X) → P x → f x ≡ g x) → (xs : List X) → All P xs
    → flat_map f xs ≡ flat_map g xs
flat_map-same f g P same [] all = refl
flat_map-same f g P same (x ∷ xs) all =
    let first = same x (All-head P x xs all) in
    let rest = flat_map-same f g P same xs (All-tail P x xs all) in
    cc

All-flat_map : {X Y : Type 0} (Q : Y → Type 0) (P : X → Type 0) (f : X → List Y) → ((x : X) → P x → All Q (f x)) → (xs : List X) → All P xs
    → All Q (flat_map f xs)
All-flat_map Q P f each [] all = All-nil Q
All-flat_map Q P f each (x ∷ xs) all =
    All-append Q (f x) (flat_map f xs) (each x (All-head P x xs all)) (All-flat_map Q P f each xs (All-tail P x xs all))

-- ---- one character more

module _ (c : ℕ × ℕ × ℕ) (rest : List (ℕ × ℕ × ℕ)) where
  pub field_ends-skip : is_whitespace c.2 ≡ true → field_ends None (c ∷ rest) ≡ field_ends None rest
  unfolding field_ends
  field_ends-skip is = cond-true _ _ _ is

  pub field_ends-begin : is_whitespace c.2 ≡ false → field_ends None (c ∷ rest) ≡ field_ends (Some (c.0, c.1)) rest
  unfolding field_ends
  field_ends-begin is = cond-false _ _ _ is

  pub field_ends-stop : (f : ℕ × ℕ) → is_whitespace c.2 ≡ true → field_ends (Some f) (c ∷ rest) ≡ f ∷ field_ends None rest
  unfolding field_ends
  field_ends-stop f is = cond-true _ _ _ is

  pub field_ends-more : (f : ℕ × ℕ) → is_whitespace c.2 ≡ false → field_ends (Some f) (c ∷ rest) ≡ field_ends (Some (f.0, c.1)) rest
  unfolding field_ends
  field_ends-more f is = cond-false _ _ _ is

pub field_ends-none : field_ends None [] ≡ []
unfolding field_ends
field_ends-none = refl

pub field_ends-last : (f : ℕ × ℕ) → field_ends (Some f) [] ≡ f ∷ []
unfolding field_ends
field_ends-last f = refl

-- a field lies within n bytes
abbrev pub EndsWithin : ℕ → ℕ × ℕ → Type 0
EndsWithin n f = f.1 ≤ n

All-cond : {X : Type 0} (P : X → Type 0) (b : Bool) (xs ys : List X) → All P xs → All P ys → All P (cond b xs ys)
All-cond P b xs ys first second = elim b as (λ v. All P (cond v xs ys)) [ true ↦ first | false ↦ second ]

-- the fields of characters that follow each other lie within the bytes
All-field_ends : (n : ℕ) (spans : List (ℕ × ℕ × ℕ)) (off : ℕ) (field : Option (ℕ × ℕ)) → SpanChain off n spans → IfSome field (EndsWithin off)
    → All (EndsWithin n) (field_ends field spans)
unfolding field_ends
All-field_ends n [] off None chain begun = All-nil (EndsWithin n)
All-field_ends n [] off (Some f) chain begun =
    let end = chain-le [] off n chain in
    All-cons (EndsWithin n) f [] (omega (arith, begun, end)) (All-nil (EndsWithin n))
All-field_ends n (c ∷ rest) off None chain begun =
    let step = chain-step off n c rest chain in
    let here : c.1 ≤ c.1 = omega arith in
    All-cond (EndsWithin n) (is_whitespace c.2) (field_ends None rest) (field_ends (Some (c.0, c.1)) rest)
    (All-field_ends n rest c.1 None step.2 tt) (All-field_ends n rest c.1 (Some (c.0, c.1)) step.2 here)
All-field_ends n (c ∷ rest) off (Some f) chain begun =
    let step = chain-step off n c rest chain in
    let here : c.1 ≤ c.1 = omega arith in
    let fits : f.1 ≤ n = omega (arith, begun, chain-le (c ∷ rest) off n chain) in
    All-cond (EndsWithin n) (is_whitespace c.2) (f ∷ field_ends None rest) (field_ends (Some (f.0, c.1)) rest)
    (All-cons (EndsWithin n) f (field_ends None rest) fits (All-field_ends n rest c.1 None step.2 tt))
    (All-field_ends n rest c.1 (Some (f.0, c.1)) step.2 here)

-- ---- the places and the pieces

All-ends : (bytes : List ℕ) → All (EndsWithin (length bytes)) (field_ends None (spans_of bytes))
All-ends bytes = All-field_ends (length bytes) (spans_of bytes) 0 None (chain-whole bytes) tt

-- the bytes at the places are the pieces
pub texts-places_of : (bytes : List ℕ) → map (bytes_at bytes) (places_of bytes) ≡ pieces_of bytes
unfolding places_of pieces_of fields_of
texts-places_of bytes =
    let ends = field_ends None (spans_of bytes) in
    map-flat_map (bytes_at bytes) cut_places ends
    ∙ flat_map-same (λ f. map (bytes_at bytes) (cut_places f)) (λ f. cut (part f.0 f.1 bytes)) (EndsWithin (length bytes))
    (λ f fits. texts-cut_places bytes f.0 f.1 fits) ends (All-ends bytes)
    ∙ sym (flat_map-map cut (λ (f : ℕ × ℕ). part f.0 f.1 bytes) ends)
    ∙ ap (flat_map cut) (parts-field_ends bytes None (spans_of bytes))

pub length-places_of : (bytes : List ℕ) → length (places_of bytes) ≡ length (pieces_of bytes)
length-places_of bytes = sym (length-map (places_of bytes) (bytes_at bytes)) ∙ ap length (texts-places_of bytes)

-- each place has 1 to 4,096 bytes, and lies within the text
pub All-places_of : (bytes : List ℕ) → All (IsPlace (length bytes)) (places_of bytes)
unfolding places_of
All-places_of bytes =
    All-flat_map (IsPlace (length bytes)) (EndsWithin (length bytes)) cut_places (λ f fits. All-cut_places f.0 f.1 (length bytes) fits)
    (field_ends None (spans_of bytes)) (All-ends bytes)

-- ---- the way through the characters

-- the open field ends where the characters that are left begin, or before
abbrev pub IsOpen : ℕ → ℕ × ℕ → Type 0
IsOpen off f = (f.0 ≤ f.1) × (f.1 ≤ off)

-- the places so far, the field that is open and the characters left give the places of the text
pub record IsReading (bytes : List ℕ) (limit : ℕ) (places : List (ℕ × ℕ)) (field : Option (ℕ × ℕ)) (rest : List (ℕ × ℕ × ℕ)) : Type 0 where
  pub left : places_of bytes ≡ places ++ flat_map cut_places (field_ends field rest)
  pub room : length places ≤ limit
  pub off : ℕ
  pub chain : SpanChain off (length bytes) rest
  pub open_field : IfSome field (IsOpen off)

module _ (bytes : List ℕ) (limit : ℕ) where
  -- the same, where the field and the characters left are known
  pub reading-at : (places : List (ℕ × ℕ)) (f g : Option (ℕ × ℕ)) (r s : List (ℕ × ℕ × ℕ)) → IsReading bytes limit places f r
      → f ≡ g → r ≡ s → IsReading bytes limit places g s
  reading-at places f g r s reading field rest = subst (λ x. IsReading bytes limit places x s) field (subst (IsReading bytes limit places f) rest reading)

  pub reading-start : IsReading bytes limit [] None (spans_of bytes)
  unfolding places_of
  reading-start = record { left = refl; room = omega arith; off = 0; chain = chain-whole bytes; open_field = tt }

  -- the places found, and more, are those of the text, so a list that is over the limit shows that the text is
  pub cause-from_over : (places more : List (ℕ × ℕ)) (e : PiecesError) → places_of bytes ≡ places ++ more → IsOver places limit e
      → IsCauseOf bytes limit e
  cause-from_over places more OutOfMemory all over = tt
  cause-from_over places more (TooMany n) all over =
      let at = ap (λ (xs : List (ℕ × ℕ)). (get_or xs limit (0, 0)).0) all in
      let first = ap (λ (p : ℕ × ℕ). p.0) (get_or_append_left places more (0, 0) limit over.0) in
      (omega (arith, over.0, length-places_of bytes, ap length all, length-append places more), over.1 ∙ sym (at ∙ first))

  module _ (places : List (ℕ × ℕ)) (c : ℕ × ℕ × ℕ) (rest : List (ℕ × ℕ × ℕ)) where
    pub reading-skip : IsReading bytes limit places None (c ∷ rest) → is_whitespace c.2 ≡ true → IsReading bytes limit places None rest
    reading-skip reading is =
        let step = chain-step reading.off (length bytes) c rest reading.chain in
        record {
          left = reading.left ∙ ap (λ ends. places ++ flat_map cut_places ends) (field_ends-skip c rest is);
          room = reading.room;
          off = c.1;
          chain = step.2;
          open_field = tt;
        }

    pub reading-begin : IsReading bytes limit places None (c ∷ rest) → is_whitespace c.2 ≡ false
        → IsReading bytes limit places (Some (c.0, c.1)) rest
    reading-begin reading is =
        let step = chain-step reading.off (length bytes) c rest reading.chain in
        record {
          left = reading.left ∙ ap (λ ends. places ++ flat_map cut_places ends) (field_ends-begin c rest is);
          room = reading.room;
          off = c.1;
          chain = step.2;
          open_field = (step.1, omega arith);
        }

    pub reading-more : (f : ℕ × ℕ) → IsReading bytes limit places (Some f) (c ∷ rest) → is_whitespace c.2 ≡ false
        → IsReading bytes limit places (Some (f.0, c.1)) rest
    reading-more f reading is =
        let step = chain-step reading.off (length bytes) c rest reading.chain in
        record {
          left = reading.left ∙ ap (λ ends. places ++ flat_map cut_places ends) (field_ends-more c rest f is);
          room = reading.room;
          off = c.1;
          chain = step.2;
          open_field = (omega (arith, step.0, step.1, reading.open_field.0, reading.open_field.1), omega arith);
        }

    -- at the end of a field, its places and those of the characters left are all that is missing
    pub left-stop : (f : ℕ × ℕ) → IsReading bytes limit places (Some f) (c ∷ rest) → is_whitespace c.2 ≡ true
        → places_of bytes ≡ (places ++ cut_places f) ++ flat_map cut_places (field_ends None rest)
    left-stop f reading is =
        reading.left ∙ ap (λ ends. places ++ flat_map cut_places ends) (field_ends-stop c rest f is)
        ∙ sym (append_assoc places (cut_places f) (flat_map cut_places (field_ends None rest)))

    pub reading-stop : (f : ℕ × ℕ) (after : List (ℕ × ℕ)) → IsReading bytes limit places (Some f) (c ∷ rest) → is_whitespace c.2 ≡ true
        → after ≡ places ++ cut_places f → length after ≤ limit → IsReading bytes limit after None rest
    reading-stop f after reading is pushed room =
        let step = chain-step reading.off (length bytes) c rest reading.chain in
        record {
          left = left-stop f reading is ∙ ap (λ xs. xs ++ flat_map cut_places (field_ends None rest)) (sym pushed);
          room = room;
          off = c.1;
          chain = step.2;
          open_field = tt;
        }

  module _ (places : List (ℕ × ℕ)) where
    pub left-last : (f : ℕ × ℕ) → IsReading bytes limit places (Some f) [] → places_of bytes ≡ (places ++ cut_places f) ++ []
    left-last f reading =
        reading.left ∙ ap (λ ends. places ++ flat_map cut_places ends) (field_ends-last f)
        ∙ sym (append_assoc places (cut_places f) [])

    pub left-none : IsReading bytes limit places None [] → places_of bytes ≡ places
    left-none reading =
        reading.left ∙ ap (λ ends. places ++ flat_map cut_places ends) field_ends-none ∙ append-nil places
