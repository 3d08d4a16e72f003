use Rattle.std.proofs.Common.{◌≡◌, ℕ, Vec, Global, ◌++◌, ◌≤◌, [], ◌∷◌, Some, None, length, refl, sym, ap, ◌∙◌, subst, arith, append-nil}
use Rattle.std.proofs.lemmas.Result.{err_from_is_err_and}
use Rattle.std.specs.List.{All, flat_map}
use Rattle.cdrc_text.specs.Pieces.{cut_places, field_ends, places_of, IsPlace}
use Rattle.cdrc_text.proofs.Scan.{All-places_of, cause-from_over, left-last, left-none, left-stop, length-places_of, reading-at, reading-begin, reading-more, reading-skip, reading-start, reading-stop, texts-places_of, IsReading}
use Rattle.cdrc_text.proofs.cut.pieces.Goals as goal
use Rattle.cdrc_text.proofs.cut.pieces.Goals.{in-Some-field-3+in_ok-push_field-2, in_default-field}

pub loop-start-init : goal.loop-start-init
loop-start-init c =
    let rest = sym (c.into_iter-start-iterator.ensures.into_iter_gives ∙ c.char_indices-start-items.ensures.value) in
    subst (λ places. IsReading c.args.bytes.now c.args.limit places None c.into_iter-start-iterator.result) (sym c.new-places.ensures.items)
    (reading-at c.args.bytes.now c.args.limit [] None None _ _ (reading-start c.args.bytes.now c.args.limit) refl rest)

pub push_field-requires-clause-rises : goal.push_field-requires-clause-rises
push_field-requires-clause-rises c =
    let f : ℕ × ℕ = (c.in-Some-field.first, c.in-Some-field.last) in
    let reading = reading-at c.args.bytes.now c.args.limit _ _ (Some f) _ c.loop-start.start-iterator c.loop-start.invariant c.in-Some-field.is refl in
    reading.open_field.0

-- the field that didn't fit is followed by those of the characters left
pub returns-in_err-push_field-clause-refused : goal.returns-in_err-push_field-clause-refused
returns-in_err-push_field-clause-refused c =
    let f : ℕ × ℕ = (c.in-Some-field.first, c.in-Some-field.last) in
    let character : ℕ × ℕ × ℕ = (c.in-Some.start, c.in-Some.end, c.in-Some.character) in
    let places = c.loop-start.places.items in
    let reading = reading-at c.args.bytes.now c.args.limit places _ (Some f) _ (character ∷ c.next.new.self) c.loop-start.invariant c.in-Some-field.is c.in-Some.ensures.steps in
    let all = left-stop c.args.bytes.now c.args.limit places character c.next.new.self f reading (sym c.if-is_whitespace.ensures) in
    let p = err_from_is_err_and c.from_residual.result c.from_residual.ensures.1 in
    rw (p.1, p.2) (cause-from_over c.args.bytes.now c.args.limit (places ++ cut_places f) (flat_map cut_places (field_ends None c.next.new.self)) _ all c.in_err-push_field.ensures.refused)

pub loop-start-preserved-in-Some-field : goal.loop-start-preserved-in-Some-field
loop-start-preserved-in-Some-field c =
    let f : ℕ × ℕ = (c.in-Some-field.first, c.in-Some-field.last) in
    let character : ℕ × ℕ × ℕ = (c.in-Some.start, c.in-Some.end, c.in-Some.character) in
    let places = c.loop-start.places.items in
    let reading = reading-at c.args.bytes.now c.args.limit places _ (Some f) _ (character ∷ c.next.new.self) c.loop-start.invariant c.in-Some-field.is c.in-Some.ensures.steps in
    reading-stop c.args.bytes.now c.args.limit places character c.next.new.self f c.push_field.new.places.items reading (sym c.if-is_whitespace.ensures) c.in_ok-push_field.ensures.ok c.in_ok-push_field.ensures.within

pub loop-start-preserved-in_default : goal.loop-start-preserved-in_default
loop-start-preserved-in_default c =
    let character : ℕ × ℕ × ℕ = (c.in-Some.start, c.in-Some.end, c.in-Some.character) in
    let places = c.loop-start.places.items in
    let reading = reading-at c.args.bytes.now c.args.limit places _ None _ (character ∷ c.next.new.self) c.loop-start.invariant c.in_default.is c.in-Some.ensures.steps in
    rw c.in_default.is (reading-skip c.args.bytes.now c.args.limit places character c.next.new.self reading (sym c.if-is_whitespace.ensures))

pub loop-start-preserved-in-None-field : goal.loop-start-preserved-in-None-field
loop-start-preserved-in-None-field c =
    let character : ℕ × ℕ × ℕ = (c.in-Some.start, c.in-Some.end, c.in-Some.character) in
    let places = c.loop-start.places.items in
    let reading = reading-at c.args.bytes.now c.args.limit places _ None _ (character ∷ c.next.new.self) c.loop-start.invariant c.in-None-field.is c.in-Some.ensures.steps in
    reading-begin c.args.bytes.now c.args.limit places character c.next.new.self reading (sym c.if-is_whitespace.ensures)

pub loop-start-preserved : goal.loop-start-preserved
loop-start-preserved c =
    let f : ℕ × ℕ = (c.in-Some-field-2.first, c.in-Some-field-2.field-0-1) in
    let character : ℕ × ℕ × ℕ = (c.in-Some.start, c.in-Some.end, c.in-Some.character) in
    let places = c.loop-start.places.items in
    let reading = reading-at c.args.bytes.now c.args.limit places _ (Some f) _ (character ∷ c.next.new.self) c.loop-start.invariant c.in-Some-field-2.is c.in-Some.ensures.steps in
    reading-more c.args.bytes.now c.args.limit places character c.next.new.self f reading (sym c.if-is_whitespace.ensures)

pub push_field-requires-in-Some-field-3-clause-rises : goal.push_field-requires-in-Some-field-3-clause-rises
push_field-requires-in-Some-field-3-clause-rises c =
    let f : ℕ × ℕ = (c.in-Some-field-3.first, c.in-Some-field-3.last) in
    let reading = reading-at c.args.bytes.now c.args.limit _ _ (Some f) _ c.loop-start.start-iterator c.loop-start.invariant c.in-Some-field-3.is refl in
    reading.open_field.0

pub returns-in_err-push_field-2-clause-refused : goal.returns-in_err-push_field-2-clause-refused
returns-in_err-push_field-2-clause-refused c =
    let f : ℕ × ℕ = (c.in-Some-field-3.first, c.in-Some-field-3.last) in
    let places = c.loop-start.places.items in
    let reading = reading-at c.args.bytes.now c.args.limit places _ (Some f) _ [] c.loop-start.invariant c.in-Some-field-3.is c.in-None.ensures.steps.0 in
    let all = left-last c.args.bytes.now c.args.limit places f reading in
    let p = err_from_is_err_and c.from_residual-in_err-push_field-2.result c.from_residual-in_err-push_field-2.ensures.1 in
    rw (p.1, p.2) (cause-from_over c.args.bytes.now c.args.limit (places ++ cut_places f) [] _ all c.in_err-push_field-2.ensures.refused)

-- all characters are read, so the places are those of the text
done : (c : goal.Joined-field-3) → (c.match-field-3.places.items ≡ places_of c.args.bytes.now) × (length c.match-field-3.places.items ≤ c.args.limit)
done c = elim c.match-field-3.branch [
  | in-Some-field-3+in_ok-push_field-2 w ↦
      let f : ℕ × ℕ = (w.in-Some-field-3.first, w.in-Some-field-3.last) in
      let places = c.loop-start.places.items in
      let reading = reading-at c.args.bytes.now c.args.limit places _ (Some f) _ [] c.loop-start.invariant w.in-Some-field-3.is c.in-None.ensures.steps.0 in
      let items = ap (λ (v : Vec (ℕ × ℕ) Global). v.items) w.places-is in
      let all = left-last c.args.bytes.now c.args.limit places f reading in (
        items ∙ w.in_ok-push_field-2.ensures.ok ∙ sym (append-nil (places ++ cut_places f)) ∙ sym all,
        omega (arith, ap length items, w.in_ok-push_field-2.ensures.within),
      )
  | in_default-field w ↦
      let places = c.loop-start.places.items in
      let reading = reading-at c.args.bytes.now c.args.limit places _ None _ [] c.loop-start.invariant w.in_default-field.is c.in-None.ensures.steps.0 in
      let items = ap (λ (v : Vec (ℕ × ℕ) Global). v.items) w.places-is in
      (items ∙ sym (left-none c.args.bytes.now c.args.limit places reading), omega (arith, ap length items, reading.room))
]

pub returns-clause-places : goal.returns-clause-places
returns-clause-places c = (done c).0

pub returns-clause-texts : goal.returns-clause-texts
returns-clause-texts c = rw (done c).0 (texts-places_of c.args.bytes.now)

pub returns-clause-sizes : goal.returns-clause-sizes
returns-clause-sizes c = subst (All (IsPlace (length c.args.bytes.now))) (sym (done c).0) (All-places_of c.args.bytes.now)

pub returns-clause-within : goal.returns-clause-within
returns-clause-within c = omega (arith, (done c).1, ap length (done c).0, length-places_of c.args.bytes.now)
