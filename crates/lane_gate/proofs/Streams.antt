-- Bytes that are read block by block.
use Rattle.std.proofs.Common.{ℕ, ◌+◌, List, [], ◌++◌, length, Some, None, refl, ap, append_assoc, ◌∙◌, sym, length-append}
use Rattle.std.proofs.lemmas.List.{append-nil}
use Rattle.std.specs.declared.option.Option.{Option}
use Rattle.std.specs.Io.KnownBytes.{Consumes}
use Rattle.lane_gate.specs.Streams.{Moved}

Consumes-none : (left : Option (List ℕ)) → Consumes left left []
Consumes-none None = tt
Consumes-none (Some xs) = refl

Consumes-on : (before middle left : Option (List ℕ)) (xs ys : List ℕ) →
    Consumes before middle xs → Consumes middle left ys → Consumes before left (xs ++ ys)
Consumes-on None middle left xs ys p q = tt
Consumes-on (Some ps) None left xs ys p q = absurd p
Consumes-on (Some ps) (Some qs) None xs ys p q = absurd q
Consumes-on (Some ps) (Some qs) (Some rs) xs ys p q =
    p ∙ ap (λ rest. xs ++ rest) q ∙ sym (append_assoc xs ys rs)

pub Moved-none : (left : Option (List ℕ)) (old : List ℕ) → Moved 0 left left old old
Moved-none left old = ([], refl, sym (append-nil old), Consumes-none left)

pub Moved-on : (count more : ℕ) (before middle left : Option (List ℕ)) (old half new : List ℕ) →
    Moved count before middle old half → Moved more middle left half new →
    Moved (count + more) before left old new
Moved-on count more before middle left old half new (xs, n, grew, took) (ys, m, grew', took') = (
  xs ++ ys,
  length-append xs ys ∙ ap (λ k. k + length ys) n ∙ ap (λ k. count + k) m,
  grew' ∙ ap (λ front. front ++ ys) grew ∙ append_assoc old xs ys,
  Consumes-on before middle left xs ys took took',
)
