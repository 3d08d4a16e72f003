-- The pieces of a text, and where they lie in it.
use Rattle.std.specs.Prelude.{ℕ, ◌+◌, ◌-◌, ◌*◌, ◌<◌, ◌≤◌, min, cond, List, [], ◌∷◌, map, length, take, drop, slice_index_or, Option, None, Some}
use Rattle.std.specs.Char.{is_whitespace}
use Rattle.std.specs.Fork.{slice_chunk}
use Rattle.std.specs.Int.{div_ceil}
use Rattle.std.specs.List.{flat_map, range_with_len}
use Rattle.bstr.specs.Fields.{fields_acc}
use Rattle.bstr.specs.Utf8.{pieces as characters_of, spans_from}

-- each character with its first byte and its end, where bytes that aren't UTF-8 read as U+FFFD
abbrev pub spans_of : List ℕ → List (ℕ × ℕ × ℕ)
spans_of bytes = spans_from 0 (characters_of bytes)

-- the fields: the maximal runs of bytes without white space
unfoldable pub fields_of : List ℕ → List (List ℕ)
fields_of bytes = fields_acc is_whitespace bytes None (spans_of bytes)

-- a field cut into consecutive runs of 4,096 bytes, the last of which is the rest
unfoldable pub cut : List ℕ → List (List ℕ)
cut field = map (slice_chunk field 4096) (range_with_len 0 (div_ceil (length field) 4096))

-- the pieces: every field, cut
unfoldable pub pieces_of : List ℕ → List (List ℕ)
pieces_of bytes = flat_map cut (fields_of bytes)

-- the first byte and the end of each field of some characters, after what is read of a field
unfoldable pub field_ends : Option (ℕ × ℕ) → List (ℕ × ℕ × ℕ) → List (ℕ × ℕ)
field_ends None [] = []
field_ends (Some field) [] = field ∷ []
field_ends None (c ∷ rest) =
    cond (is_whitespace c.2) (field_ends None rest) (field_ends (Some (c.0, c.1)) rest)
field_ends (Some field) (c ∷ rest) =
    cond (is_whitespace c.2) (field ∷ field_ends None rest) (field_ends (Some (field.0, c.1)) rest)

-- the first byte and the length of run k of a field, from the field's first byte and its end
abbrev pub run_place : ℕ × ℕ → ℕ → ℕ × ℕ
run_place field k = (field.0 + k * 4096, min 4096 (field.1 - (field.0 + k * 4096)))

-- the first byte and the length of each run of 4,096 bytes of a field
unfoldable pub cut_places : ℕ × ℕ → List (ℕ × ℕ)
cut_places field = map (run_place field) (range_with_len 0 (div_ceil (field.1 - field.0) 4096))

-- the places of the pieces: the first byte and the length of each, in the pieces' order
unfoldable pub places_of : List ℕ → List (ℕ × ℕ)
places_of bytes = flat_map cut_places (field_ends None (spans_of bytes))

-- the bytes at a place
abbrev pub bytes_at : List ℕ → ℕ × ℕ → List ℕ
bytes_at bytes place = take place.1 (drop place.0 bytes)

-- a place of 1 to 4,096 bytes that lies within n bytes
abbrev pub IsPlace : ℕ → ℕ × ℕ → Type 0
IsPlace n place = (0 < place.1) × (place.1 ≤ 4096) × (place.0 + place.1 ≤ n)

-- the first byte of the piece after the first `limit` pieces
abbrev pub place_over : List ℕ → ℕ → ℕ
place_over bytes limit = (slice_index_or (places_of bytes) limit (0, 0)).0
