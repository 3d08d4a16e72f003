-- The places of fields are those of the fields that `bstr` gives.
use Rattle.std.proofs.Common.{◌≡◌, ℕ, Bool, true, false, cond, List, [], ◌∷◌, Option, Some, None, map, refl, ap}
use Rattle.std.specs.Char.{is_whitespace}
use Rattle.bstr.specs.Fields.{fields_acc}
use Rattle.bstr.specs.Text.{part}
use Rattle.cdrc_text.specs.Pieces.{field_ends}

-- the bytes between the ends are the fields
pub parts-field_ends : (bytes : List ℕ) (field : Option (ℕ × ℕ)) (spans : List (ℕ × ℕ × ℕ))
    → map (λ f. part f.0 f.1 bytes) (field_ends field spans) ≡ fields_acc is_whitespace bytes field spans
unfolding field_ends fields_acc
parts-field_ends bytes None [] = refl
parts-field_ends bytes (Some f) [] = refl
parts-field_ends bytes None (c ∷ rest) =
    let both : (b : Bool) → map (λ f. part f.0 f.1 bytes) (cond b (field_ends None rest) (field_ends (Some (c.0, c.1)) rest))
    ≡ cond b (fields_acc is_whitespace bytes None rest) (fields_acc is_whitespace bytes (Some (c.0, c.1)) rest)
    = λ b. elim b as (λ v. map (λ f. part f.0 f.1 bytes) (cond v (field_ends None rest) (field_ends (Some (c.0, c.1)) rest))
    ≡ cond v (fields_acc is_whitespace bytes None rest) (fields_acc is_whitespace bytes (Some (c.0, c.1)) rest))
    [ true ↦ parts-field_ends bytes None rest | false ↦ parts-field_ends bytes (Some (c.0, c.1)) rest ] in
    both (is_whitespace c.2)
parts-field_ends bytes (Some f) (c ∷ rest) =
    let both : (b : Bool) → map (λ g. part g.0 g.1 bytes) (cond b (f ∷ field_ends None rest) (field_ends (Some (f.0, c.1)) rest))
    ≡ cond b (part f.0 f.1 bytes ∷ fields_acc is_whitespace bytes None rest) (fields_acc is_whitespace bytes (Some (f.0, c.1)) rest)
    = λ b. elim b as (λ v. map (λ g. part g.0 g.1 bytes) (cond v (f ∷ field_ends None rest) (field_ends (Some (f.0, c.1)) rest))
    ≡ cond v (part f.0 f.1 bytes ∷ fields_acc is_whitespace bytes None rest) (fields_acc is_whitespace bytes (Some (f.0, c.1)) rest))
    [ true ↦ ap (λ xs. part f.0 f.1 bytes ∷ xs) (parts-field_ends bytes None rest) | false ↦ parts-field_ends bytes (Some (f.0, c.1)) rest ] in
    both (is_whitespace c.2)
