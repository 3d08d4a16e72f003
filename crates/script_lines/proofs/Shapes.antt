-- The words that begin a line tell its shape.
use Rattle.std.proofs.Common.{◌≡◌, ℕ, cond, List, codes, refl, sym, ap, ◌∙◌}
use Rattle.std.specs.Str.{bytes_eq}
use Rattle.script_lines.specs.Verbs.{spelling}
use Rattle.script_lines.specs.declared.verb.Verb.{Verb}
use Rattle.script_lines.specs.declared.verb.Verb.TheVariants.{Heap, Make, Copy, Drop, Weaken, CopyWeak, DropWeak, Upgrade, Put, Clear, Load, Replace, Snap, EndSnapshot, Keep, Read, Counts, Audit}

-- what follows the first word
pub data Shape : Type 0 where
  OneName : Shape
  TwoNames : Shape
  NameAndNumber : Shape
  OnePlace : Shape
  PlaceAndName : Shape
  PlaceAndTwo : Shape
  ThreeNumbers : Shape
  Nothing : Shape

abbrev pub shape : Verb → Shape
shape Heap = ThreeNumbers
shape Make = NameAndNumber
shape Copy = TwoNames
shape Drop = OneName
shape Weaken = TwoNames
shape CopyWeak = TwoNames
shape DropWeak = OneName
shape Upgrade = TwoNames
shape Put = PlaceAndName
shape Clear = OnePlace
shape Load = PlaceAndName
shape Replace = PlaceAndTwo
shape Snap = PlaceAndName
shape EndSnapshot = OneName
shape Keep = TwoNames
shape Read = NameAndNumber
shape Counts = OneName
shape Audit = Nothing

-- the verb that a word spells, if it spells one
abbrev pub verb_at : List ℕ → Verb
verb_at word =
    cond (bytes_eq word (codes "heap")) Heap (
    cond (bytes_eq word (codes "make")) Make (
    cond (bytes_eq word (codes "copy")) Copy (
    cond (bytes_eq word (codes "drop")) Drop (
    cond (bytes_eq word (codes "weaken")) Weaken (
    cond (bytes_eq word (codes "wcopy")) CopyWeak (
    cond (bytes_eq word (codes "unweak")) DropWeak (
    cond (bytes_eq word (codes "up")) Upgrade (
    cond (bytes_eq word (codes "put")) Put (
    cond (bytes_eq word (codes "clear")) Clear (
    cond (bytes_eq word (codes "load")) Load (
    cond (bytes_eq word (codes "cas")) Replace (
    cond (bytes_eq word (codes "snap")) Snap (
    cond (bytes_eq word (codes "unsnap")) EndSnapshot (
    cond (bytes_eq word (codes "keep")) Keep (
    cond (bytes_eq word (codes "read")) Read (
    cond (bytes_eq word (codes "counts")) Counts (
    Audit)))))))))))))))))

verb_at-spelling : (verb : Verb) → verb_at (spelling verb) ≡ verb
verb_at-spelling Heap = refl
verb_at-spelling Make = refl
verb_at-spelling Copy = refl
verb_at-spelling Drop = refl
verb_at-spelling Weaken = refl
verb_at-spelling CopyWeak = refl
verb_at-spelling DropWeak = refl
verb_at-spelling Upgrade = refl
verb_at-spelling Put = refl
verb_at-spelling Clear = refl
verb_at-spelling Load = refl
verb_at-spelling Replace = refl
verb_at-spelling Snap = refl
verb_at-spelling EndSnapshot = refl
verb_at-spelling Keep = refl
verb_at-spelling Read = refl
verb_at-spelling Counts = refl
verb_at-spelling Audit = refl

-- the shape of a verb that this word spells
pub shape-spelling : (verb : Verb) (word : List ℕ) → spelling verb ≡ word → shape verb ≡ shape (verb_at word)
shape-spelling verb word is = ap shape (sym (verb_at-spelling verb) ∙ ap verb_at is)
