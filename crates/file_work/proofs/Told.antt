-- Contents of named files: one more of them, and those that their source tells.
use Rattle.std.proofs.Common.{◌≡◌, ℕ, ◌+◌, ◌≤◌, List, [], ◌∷◌, ◌++◌, length, Some, refl, ap, subst, arith}
use Rattle.std.specs.declared.option.Option.{Option}
use Rattle.std.proofs.lemmas.List.Sums.{sum_by-append, sum_by-cons}
use Rattle.file_work.specs.Contents.{AreContents, AreTold, IsContent, Told, bytes_in}

pub contents_push : (told : Told) (names contents : List (List ℕ)) (name content : List ℕ)
    → AreContents told names contents → IsContent (told name) content
    → AreContents told (names ++ name ∷ []) (contents ++ content ∷ [])
contents_push told [] [] name content are is = (is, tt)
contents_push told [] (c ∷ cs) name content are is = absurd are
contents_push told (n ∷ ns) [] name content are is = absurd are
contents_push told (n ∷ ns) (c ∷ cs) name content are is =
    (are.0, contents_push told ns cs name content are.1 is)

pub contents_many : (told : Told) (names contents : List (List ℕ))
    → AreContents told names contents → length contents ≡ length names
contents_many told [] [] are = refl
contents_many told [] (c ∷ cs) are = absurd are
contents_many told (n ∷ ns) [] are = absurd are
contents_many told (n ∷ ns) (c ∷ cs) are =
    let rest = contents_many told ns cs are.1 in omega arith

pub bytes_push : (contents : List (List ℕ)) (content : List ℕ)
    → bytes_in (contents ++ content ∷ []) ≡ bytes_in contents + length content
bytes_push contents content =
    let a = sum_by-append (λ (c : List ℕ). length c) contents (content ∷ []) in
    let b = sum_by-cons (λ (c : List ℕ). length c) content [] in omega arith

-- where a content is told, it is that one
is_told : (told : Option (List ℕ)) (content other : List ℕ) → told ≡ Some content
    → IsContent told other → other ≡ content
is_told told content other tells is = subst (λ (o : Option (List ℕ)). IsContent o other) tells is

pub told_same : (told : Told) (names contents others : List (List ℕ))
    → AreTold told names contents → AreContents told names others → others ≡ contents
told_same told [] [] [] tells are = refl
told_same told [] [] (d ∷ ds) tells are = absurd are
told_same told [] (c ∷ cs) ds tells are = absurd tells
told_same told (n ∷ ns) [] ds tells are = absurd tells
told_same told (n ∷ ns) (c ∷ cs) [] tells are = absurd are
told_same told (n ∷ ns) (c ∷ cs) (d ∷ ds) tells are =
    let first = is_told (told n) c d tells.0 are.0 in
    let rest = told_same told ns cs ds tells.1 are.1 in cc

-- the first contents, and the next one, are within all that are told
pub told_within : (told : Told) (front : List (List ℕ)) (name : List ℕ)
    (back contents others : List (List ℕ))
    → AreTold told (front ++ name ∷ back) contents → AreContents told front others
    → (content : List ℕ) × (told name ≡ Some content)
    × (bytes_in others + length content ≤ bytes_in contents)
told_within told [] name back [] others tells are = absurd tells
told_within told [] name back (c ∷ cs) (d ∷ ds) tells are = absurd are
told_within told [] name back (c ∷ cs) [] tells are =
    let a = sum_by-cons (λ (c : List ℕ). length c) c cs in (c, tells.0, omega arith)
told_within told (n ∷ ns) name back [] ds tells are = absurd tells
told_within told (n ∷ ns) name back (c ∷ cs) [] tells are = absurd are
told_within told (n ∷ ns) name back (c ∷ cs) (d ∷ ds) tells are =
    let first = ap length (is_told (told n) c d tells.0 are.0) in
    let rest = told_within told ns name back cs ds tells.1 are.1 in
    let a = sum_by-cons (λ (c : List ℕ). length c) c cs in
    let b = sum_by-cons (λ (c : List ℕ). length c) d ds in
    let r = rest.2 in (rest.0, rest.1, omega arith)

pub told_many : (told : Told) (names contents : List (List ℕ))
    → AreTold told names contents → length contents ≡ length names
told_many told [] [] tells = refl
told_many told [] (c ∷ cs) tells = absurd tells
told_many told (n ∷ ns) [] tells = absurd tells
told_many told (n ∷ ns) (c ∷ cs) tells =
    let rest = told_many told ns cs tells.1 in omega arith
