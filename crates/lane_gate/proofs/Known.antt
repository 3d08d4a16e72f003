-- Known bytes that grow piece by piece: what a caller that writes in a loop needs.
use Rattle.std.proofs.Common.{◌≡◌, ℕ, ◌+◌, ◌-◌, List, length, [], ◌++◌, take, drop, Some, None, refl, ap, append_assoc, ◌∙◌, sym}
use Rattle.std.proofs.lemmas.List.{append-nil, take_rest}
use Rattle.std.proofs.Math.Seq.{take-add}
use Rattle.std.specs.declared.option.Option.{Option}
use Rattle.std.specs.Io.KnownBytes.{append_known}

pub append_known-nil : (known : Option (List ℕ)) → append_known known [] ≡ known
append_known-nil None = refl
append_known-nil (Some xs) = ap Some (append-nil xs)

pub append_known-append : (known : Option (List ℕ)) (xs ys : List ℕ) →
    append_known (append_known known xs) ys ≡ append_known known (xs ++ ys)
append_known-append None xs ys = refl
append_known-append (Some zs) xs ys = ap Some (append_assoc zs xs ys)

-- after the first n bytes of an output, a write of `&output[n..]` took the first m of that rest
pub takes_on : (first before now : Option (List ℕ)) (output : List ℕ) (n m : ℕ) →
    before ≡ append_known first (take n output) →
    now ≡ append_known before (take m (take (length output - n) (drop n output))) →
    now ≡ append_known first (take (n + m) output)
takes_on first before now output n m was took =
    took
    ∙ ap (λ rest. append_known before (take m rest)) (take_rest output n)
    ∙ ap (λ known. append_known known (take m (drop n output))) was
    ∙ append_known-append first (take n output) (take m (drop n output))
    ∙ ap (append_known first) (sym (take-add n m output))
