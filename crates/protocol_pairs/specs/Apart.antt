-- A step that leaves what a protocol owns keeps its law, with the view as it was.
use Rattle.std.proofs.Common.{◌≡◌, List, refl, sym, subst}
use Rattle.std.proofs.lemmas.List.{set-get_or}
use Rattle.plain_protocol.specs.plain_state.State.{Plain}
use Rattle.plain_protocol.specs.Acts.{Owned}
use Rattle.plain_protocol.specs.Laws.{KeptByForeign, Keeps}
use Rattle.protocol_pairs.specs.Foreign.{spared_is_foreign}
use Rattle.protocol_pairs.specs.Spared.{IsSpared}

pub spares_keep : {V : Type 0} (law : Plain → List V → Type 0) (gone : V) (owned : Owned)
    → KeptByForeign law owned
    → Keeps law gone (λ own v act. IsSpared owned own act) (λ own after v act found. v)
    (λ p q n v w. w ≡ v)
spares_keep law gone owned foreign p q views n act found meets at ready does =
    let same = set-get_or views n gone in (
      subst (law q) (sym same)
          (foreign p q n act found views meets (spared_is_foreign owned p n act ready) does),
      refl,
    )
