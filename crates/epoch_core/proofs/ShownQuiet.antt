-- Events that show no step: the epoch and region words, a date, and a claim that found its slot taken.
use Rattle.std.proofs.Common.{◌≡◌, ℕ, ◌+◌, ◌*◌, ◌<◌, List, [], ◌∷◌, ◌++◌, set, map, refl, ◌∙◌, arith, append-nil}
use Rattle.std.specs.Prelude.{slice_index}
use Rattle.std.proofs.lemmas.List.{get_or-set_other, map-append, set-get_or}
use Rattle.core_law.specs.plain_state.declared.slot.Kind.TheVariants.{Strong}
use Rattle.core_law.specs.plain_state.declared.slot.SlotId.{SlotId}
use Rattle.core_law.specs.plain_state.Lists.{Entry}
use Rattle.epoch_core.specs.declared.act.Dated.{Dated}
use Rattle.epoch_core.specs.declared.shape.EpochShape.{EpochShape}
use Rattle.epoch_core.specs.declared.view.EpochView.{EpochView}
use Rattle.epoch_core.specs.Words.{cell_at}
use Rattle.epoch_core.specs.Runs.{Core, view_at}
use Rattle.epoch_core.specs.Shows.{shows, show_seat}
use Rattle.epoch_core.specs.Sound.{Sound}
use Rattle.epoch_core.proofs.Put.{stepped}
use Rattle.epoch_core.proofs.ShownFrames.{SameSlot, nothing_shown, words_off, words_same}

module _ (z : EpochShape) (c : Core) (n : ℕ) (u : EpochView) (os : List ℕ) (so : Sound z c)
    (hn : n < z.seats) (same : (x : SlotId) → SameSlot x (view_at c n) u)
    (is : show_seat u ≡ show_seat (view_at c n)) where
  -- a word below those of the cells is written
  pub low_shown : (p w : ℕ) → p < 8 + 8 * z.seats
      → shows z (stepped c n u (set c.words p w) os) ≡ shows z c
  low_shown p w low = nothing_shown z c n u (set c.words p w) os so hn
      (λ i h. get_or-set_other c.words p (cell_at z i) w 0 (omega arith))
      (λ x h. words_off z c.words p w x (λ k l. omega arith)) (λ x h. same x) is

  -- no word is written
  pub still_shown : (p : ℕ)
      → shows z (stepped c n u (set c.words p (slice_index c.words p)) os) ≡ shows z c
  still_shown p = rw (set-get_or c.words p 0)
      (nothing_shown z c n u c.words os so hn (λ i h. refl) (λ x h. words_same z c.words x)
      (λ x h. same x) is)

-- an entry as it is shown
abbrev pub strong_of : SlotId → Entry
strong_of s = (Strong, s)

-- an entry that gets its date is deferred as before
pub dated_shown : (ds : List Dated) (s : SlotId) (e : ℕ)
    → let deferred = λ (xs : List Dated). map (λ (d : Dated). strong_of d.slot) xs in
    deferred (ds ++ record { slot = s; date = e } ∷ []) ++ [] ≡ deferred ds ++ strong_of s ∷ []
dated_shown ds s e =
    append-nil (map (λ (d : Dated). strong_of d.slot) (ds ++ record { slot = s; date = e } ∷ []))
    ∙ map-append (λ (d : Dated). strong_of d.slot) ds (record { slot = s; date = e } ∷ [])
