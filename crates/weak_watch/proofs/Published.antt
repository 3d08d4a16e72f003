-- What is told of the ids so far, and of one more.
use Rattle.std.proofs.Common.{◌≡◌, ℕ, zero, suc, ◌<◌, List, length, sym, subst, arith}
use Rattle.std.specs.Prelude.{slice_index_or, slice_set}
use Rattle.std.proofs.lemmas.List.{get_or-set_same, get_or-set_other}
use Rattle.control_word.specs.acquire_retire.Domains.{DomainState}
use Rattle.control_word.specs.acquire_retire.Seats.{SeatState}
use Rattle.watch_protocol.specs.declared.news.NewsLaw.{NewsLaw}
use Rattle.watch_protocol.specs.watch_law.News.{NewsView}
use Rattle.weak_watch.specs.Finding.{adds_by, more_by}
use Rattle.weak_watch.specs.Keeping.{Keeps}
use Rattle.weak_watch.specs.declared.reached.Reached.{Reached}
use Rattle.weak_watch.specs.Fates.{Fate, HasFate, Publishes}
use Rattle.weak_watch.specs.declared.fates.Fate.TheVariants as fate

pub reached_keeps_as : {V : Type 0} (r s : Reached) → r ≡ s → (old new : SeatState V)
    → Keeps 0 (adds_by r) (more_by r old.view.core.owned) old.view.core.weaks old new
    → Keeps 0 (adds_by s) (more_by s old.view.core.owned) old.view.core.weaks old new
reached_keeps_as r s is old new keeps =
    subst (λ (t : Reached). Keeps 0 (adds_by t) (more_by t old.view.core.owned)
    old.view.core.weaks old new) is keeps

-- the fate that stands for id i
abbrev pub fate_at : List Fate → ℕ → Fate
fate_at fates i = slice_index_or fates i fate.Absent

module _ (d : DomainState NewsLaw) (event : ℕ) where
  pub publishes_same : (n : ℕ) (fs gs : List Fate) (old new : SeatState NewsView)
      → ((i : ℕ) → i < n → fate_at fs i ≡ fate_at gs i) → Publishes d event n fs old new
      → Publishes d event n gs old new
  publishes_same zero fs gs old new same published = published
  publishes_same (suc n) fs gs old new same (mid, before, last) = (
    mid,
    publishes_same n fs gs old mid (λ i low. same i (omega (arith, low))) before,
    subst (λ (f : Fate). HasFate d event n f mid new) (same n (omega arith)) last,
  )

  -- one id more
  pub publishes_one : (n : ℕ) (fs : List Fate) (f : Fate) (old mid new : SeatState NewsView)
      → n < length fs → Publishes d event n fs old mid → HasFate d event n f mid new
      → Publishes d event (suc n) (slice_set fs n f) old new
  publishes_one n fs f old mid new inside before last = (
    mid,
    publishes_same n fs (slice_set fs n f) old mid
        (λ i low. sym (get_or-set_other fs n i f fate.Absent (λ e. omega (arith, e, low)))) before,
    subst (λ (g : Fate). HasFate d event n g mid new)
        (sym (get_or-set_same fs n f fate.Absent inside)) last,
  )
