-- What a lane has done that stopped.
use Rattle.std.proofs.Common.{◌≡◌, ℕ, ◌+◌, ◌<◌, List, [], ◌∷◌, ◌++◌, sym, ap, subst, ◌∙◌, append_assoc, arith}
use Rattle.std.proofs.lemmas.List.{length-append}
use Rattle.cell_intern.specs.cell_calls.Cells.{BindsAlone}
use Rattle.cell_intern.specs.cell_calls.Keeping.{Keeps}
use Rattle.cell_intern.proofs.Below.cell_calls_Keeping.{goes_then, keeps_wider}
use Rattle.cell_intern.specs.cell_calls.cell_law.declared.view.View.{View}
use Rattle.cell_intern.specs.cell_calls.cell_protocol.declared.law.CellLaw.{CellLaw}
use Rattle.cell_intern.specs.cell_making.Making.{MissesWithin}
use Rattle.directory_law.proofs.Notes.{in_left}
use Rattle.cell_intern.specs.epoch_refs.epoch_domain.Domains.{DomainState}
use Rattle.cell_intern.specs.epoch_refs.epoch_domain.Seats.{SeatState}
use Rattle.lane_work.specs.Keeping.{slots_of}
use Rattle.lane_work.specs.Sizes.{slots_of_words}
use Rattle.lane_work.specs.cdrc_text.Text.{slots_of_word}
use Rattle.lane_work.specs.declared.lane.Lane.{Lane}
use Rattle.cell_lanes.specs.Counting.{GrowsBy, adds_for}
use Rattle.cell_lanes.specs.Stopping.{IsOfMakes, IsUnmade, IsWhyStopped, Stops}
use Rattle.cell_lanes.specs.declared.refusal.LaneStop.{LaneStop}
use Rattle.cell_lanes.specs.declared.refusal.LaneStop.TheVariants as stopped
use Rattle.cell_lanes.proofs.Counted.{keeps_words, slots_both}
use Rattle.cell_lanes.proofs.Owning.{keeps_grown}
use Rattle.cell_lanes.proofs.Tallied.{times_append}
use Rattle.cell_lanes.proofs.Viewed.{grows_then}

-- of more words
pub grows_wider : (us ws : List (List ℕ)) (v w : View) → GrowsBy us v w → GrowsBy (us ++ ws) v w
grows_wider us ws v w grows = record {
  saw = grows.saw;
  found = grows.found;
  heads = grows.heads;
  bound = grows.bound;
  made = grows.made;
  texts = grows.texts;
  few = let l = length-append us ws in let f = grows.few in omega arith;
  once = λ x. let p = times_append x us ws in let m = grows.once x in omega arith;
  among = λ x is. in_left x us ws (grows.among x is);
  joined = grows.joined;
  grant = grows.grant;
  cleared = grows.cleared;
}

unmade_word : (d : DomainState CellLaw) (word : List ℕ) (stop : LaneStop) (a b : SeatState View)
    → IsOfMakes stop → IsWhyStopped d word stop a b → IsUnmade word a b
unmade_word d word stopped.MakesSpent a b is why = why.1
unmade_word d word stopped.Full a b is why = why.1
unmade_word d word stopped.AddsSpent a b is why = absurd is
unmade_word d word stopped.OutOfMemory a b is why = absurd is

module _ (d : DomainState CellLaw) (words : List (List ℕ)) (stop : LaneStop)
    (old new : SeatState View) (before after : Lane)
    (stops : Stops d words stop old new before after) where
  -- the words with that at which it stopped, and the others
  abbrev done : List (List ℕ)
  done = stops.front ++ stops.word ∷ []

  all : words ≡ done ++ stops.others
  all = stops.are ∙ sym (append_assoc stops.front (stops.word ∷ []) stops.others)

  pub stopped_keeps : Keeps (slots_of_words words) (adds_for words)
      (old.view.core.owned ++ slots_of stops.counts.more) old new
  stopped_keeps =
      let so_far = keeps_words stops.front (stops.word ∷ []) stops.last.view.core.owned old new
      (keeps_grown old stops.last new (slots_of_words stops.front) (slots_of_words (stops.word ∷ []))
      (adds_for stops.front) (adds_for (stops.word ∷ [])) (slots_of stops.counts.more)
      stops.last.view.core.owned stops.counts.keeps stops.stops.keeps) in
      let s = ap slots_of_words all in let b = slots_both done stops.others in
      keeps_wider (slots_of_words done) (slots_of_words words) (adds_for done) (adds_for words)
      stops.last.view.core.owned (old.view.core.owned ++ slots_of stops.counts.more) old new so_far
      (omega arith) (omega arith) (λ x. stops.counts.keeps.owns x)

  pub stopped_kept : after.keeper.kept.items ≡ before.keeper.kept.items ++ stops.counts.more
  stopped_kept = stops.stops.keeper.kept ∙ stops.counts.kept

  pub stopped_grows : GrowsBy words old.view.client new.view.client
  stopped_grows = subst (λ ws. GrowsBy ws old.view.client new.view.client) (sym all)
      (grows_wider done stops.others old.view.client new.view.client
      (grows_then stops.front (stops.word ∷ []) old.view.client stops.last.view.client
      new.view.client stops.counts.grows stops.stops.grows))

  pub stopped_alone : IsOfMakes stop → BindsAlone d old
      → new.view.core.makes < old.view.core.makes + slots_of_words stops.counts.grows.made
      + slots_of_word stops.word
  stopped_alone is alone =
      let m = stops.counts.alone alone in
      let u = (unmade_word d stops.word stop stops.last new is stops.stops.why).1 in
      omega (arith, m, u)

pub stopped_misses : (d : DomainState CellLaw) (words : List (List ℕ)) (old new : SeatState View)
    (before after : Lane) → Stops d words stopped.Full old new before after → MissesWithin d old new
stopped_misses d words old new before after stops =
    let misses = stops.stops.why.0 in
    record {
      mid = misses.mid;
      late = misses.late;
      misses = misses.misses;
      since = goes_then old.view.core stops.last.view.core misses.mid.view.core
          stops.counts.keeps.goes misses.since;
      till = misses.till;
      fit = misses.fit;
    }
