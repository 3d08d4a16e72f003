-- One refusal, in place of different answers.
use Rattle.std.proofs.Common.{◌≡◌, ap}
use Rattle.std.specs.Prelude.{Err, Result}

pub same_refusal : {A B E : Type 0} (e f : E) → ◌≡◌ {A = Result A E} (Err e) (Err f)
    → ◌≡◌ {A = Result B E} (Err e) (Err f)
same_refusal e f is = let same : e ≡ f = cc (is) in ap (λ x. Err x) same
