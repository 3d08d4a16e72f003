-- The values that are found, as one more use of a name joins them.
use Rattle.std.proofs.Common.{◌≡◌, ◌∙◌, Bool, cond, true, false, refl, sym, ap, List, [], ◌∷◌, ◌++◌, append-nil}
use Rattle.std.specs.Str.{bytes_eq}
use Rattle.std.proofs.lemmas.Slice.Eq.{bytes_eq-Decides}
use Rattle.clap.specs.Walk.{Row, with_values}
use Rattle.clap.specs.declared.builder.value_parser.Reading.{Reading}
use Rattle.clap.specs.declared.parser.matches.ValueSource.TheVariants.{CommandLine}
use Rattle.command_line.specs.Parts.{Text}
use Rattle.command_line.specs.Found.{values_in}

-- the value, where it is of this name
abbrev pub of_name : Text → Text → Text → List Text
of_name name other value = cond (bytes_eq name other) (value ∷ []) []

-- the rows after a use of the name with this value
abbrev pub with_use : Text → Reading → Text → List Row → List Row
with_use name how value rows = with_values name how CommandLine (value ∷ []) rows

same_test : (a b other : Text) → bytes_eq a b ≡ true → bytes_eq a other ≡ bytes_eq b other
same_test a b other same = ap (λ (x : Text). bytes_eq x other) ((bytes_eq-Decides a b).0 same)

pub refuted : (a b : Text) → (a ≡ b → ⊥) → bytes_eq a b ≡ false
refuted a b differ = go (bytes_eq a b) refl
  where
    go : (t : Bool) → bytes_eq a b ≡ t → bytes_eq a b ≡ false
    go true e = absurd (differ ((bytes_eq-Decides a b).0 e))
    go false e = e

other_test : (a b other : Text) → bytes_eq a b ≡ false → bytes_eq a other ≡ true → bytes_eq b other ≡ false
other_test a b other differ same = refuted b other (λ e.
    let is : a ≡ b = (bytes_eq-Decides a other).0 same ∙ sym e in
    let yes : bytes_eq a b ≡ true = (bytes_eq-Decides a b).1 is in
    cc)

pub values_after : (name : Text) (how : Reading) (value : Text) (rows : List Row) (other : Text)
    → values_in other (with_use name how value rows) ≡ values_in other rows ++ of_name name other value
values_after name how value [] other = go (bytes_eq name other) refl
  where
    go : (t : Bool) → bytes_eq name other ≡ t
        → values_in other (with_use name how value []) ≡ of_name name other value
    go true e = rw e refl
    go false e = rw e refl
values_after name how value (r ∷ rs) other = go (bytes_eq r.id name) (bytes_eq r.id other) refl refl (values_after name how value rs other)
  where
    go : (here t : Bool) → bytes_eq r.id name ≡ here → bytes_eq r.id other ≡ t
        → values_in other (with_use name how value rs) ≡ values_in other rs ++ of_name name other value
        → values_in other (with_use name how value (r ∷ rs)) ≡ values_in other (r ∷ rs) ++ of_name name other value
    go true true h e rest =
        let same : bytes_eq name other ≡ true = sym (same_test r.id name other h) ∙ e in
        rw (h, e, same) refl
    go true false h e rest =
        let differ : bytes_eq name other ≡ false = sym (same_test r.id name other h) ∙ e in
        rw (h, e, differ) (sym (append-nil (values_in other rs)))
    go false true h e rest =
        let differ : bytes_eq name other ≡ false = other_test r.id name other h e in
        rw (h, e, differ) (sym (append-nil r.values))
    go false false h e rest = rw (h, e) rest
