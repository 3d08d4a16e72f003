-- The contents of named files, by what their source tells.
use Rattle.std.specs.Prelude.{ℕ, ◌≡◌, ◌+◌, ◌<◌, List, [], ◌∷◌, ◌++◌, length, map, Some, IfSome}
use Rattle.std.specs.Global.{Vec}
use Rattle.std.specs.List.{sum_by}
use Rattle.std.specs.declared.option.Option.{Option}
use Rattle.lane_gate.specs.Causes.{Rose}

-- the contents of some texts
abbrev pub bytes_of : List (Vec ℕ) → List (List ℕ)
bytes_of texts = map (λ (text : Vec ℕ). text.items) texts

-- a source's counts of faults and of files that were found too long, before a call and after it
pub record Counts : Type 0 where
  pub faults : ℕ
  pub faults_now : ℕ
  pub overlong : ℕ
  pub overlong_now : ℕ

-- the content of each name, where a source tells it
abbrev pub Told : Type 0
Told = List ℕ → Option (List ℕ)

-- a content of a file: the told one, where it is told
abbrev pub IsContent : Option (List ℕ) → List ℕ → Type 0
IsContent told content = IfSome told (λ known. content ≡ known)

-- the contents are those of files with these names, in order
abbrev pub AreContents : Told → List (List ℕ) → List (List ℕ) → Type 0
AreContents told [] [] = Unit {0}
AreContents told [] (content ∷ contents) = ⊥
AreContents told (name ∷ names) [] = ⊥
AreContents told (name ∷ names) (content ∷ contents) =
    IsContent (told name) content × AreContents told names contents

-- the source tells all of them
abbrev pub AreTold : Told → List (List ℕ) → List (List ℕ) → Type 0
AreTold told [] [] = Unit {0}
AreTold told [] (content ∷ contents) = ⊥
AreTold told (name ∷ names) [] = ⊥
AreTold told (name ∷ names) (content ∷ contents) =
    (told name ≡ Some content) × AreTold told names contents

-- how many bytes they have together
abbrev pub bytes_in : List (List ℕ) → ℕ
bytes_in contents = sum_by (λ (content : List ℕ). length content) contents

-- a file was found to be too long, together with contents of those before it; a told content of it is
pub record IsTooLong (told : Told) (most : ℕ) (names : List (List ℕ)) (before now : ℕ)
    : Type 0 where
  pub front : List (List ℕ)
  pub name : List ℕ
  pub back : List (List ℕ)
  pub names_are : names ≡ front ++ name ∷ back
  pub contents : List (List ℕ)
  pub are : AreContents told front contents
  pub found : Rose before now
  pub longer : IfSome (told name) (λ content. most < bytes_in contents + length content)
