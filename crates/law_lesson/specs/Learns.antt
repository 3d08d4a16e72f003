-- A calm step keeps the law, and whoever makes it may be told that it held before.
use Rattle.std.proofs.Common.{◌≡◌, List, refl, sym, subst}
use Rattle.std.proofs.lemmas.List.{set-get_or}
use Rattle.plain_protocol.specs.plain_state.State.{Plain}
use Rattle.plain_protocol.specs.Acts.{IsCalm}
use Rattle.plain_protocol.specs.Laws.{KeptByCalm, Keeps}
use Rattle.law_lesson.specs.Lessons.{HoldsOf}

pub learn_keeps : {V : Type 0} (law : Plain → List V → Type 0) (gone : V) → KeptByCalm law
    → Keeps law gone (λ own v act. IsCalm act) (λ own after v act found. v)
    (λ p q n v w. (w ≡ v) × HoldsOf law gone p n v)
learn_keeps law gone calm p q views n act found meets at ready does =
    let same = set-get_or views n gone in (
      subst (law q) (sym same) (calm p q n act found views meets ready does),
      (refl, record { views = views; meets = meets; there = at; own = refl }),
    )
