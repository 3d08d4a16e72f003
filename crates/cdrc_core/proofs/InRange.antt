-- The word that an event is on is there, and a place holds null or a slot that is there.
use Rattle.std.proofs.Common.{inr, ◌<◌, ℕ, length, arith}
use Rattle.std.specs.Prelude.{slice_index}
use Rattle.core_law.specs.plain_state.declared.slot.SlotId.{SlotId}
use Rattle.core_law.specs.core_events.declared.act.Act.{Act}
use Rattle.core_law.specs.core_events.declared.act.Act.TheVariants as act
use Rattle.core_law.specs.core_events.declared.shape.Shape.{Shape}
use Rattle.core_law.specs.core_events.declared.view.CoreView.{CoreView}
use Rattle.core_law.specs.core_events.Words.{word_count}
use Rattle.core_law.specs.core_events.Views.{no_view}
use Rattle.core_law.specs.core_events.Steps.{May, place}
use Rattle.core_law.specs.core_events.Runs.{Core, view_at}
use Rattle.core_law.specs.Sound.{Sound}
use Rattle.core_law.proofs.InRange.{content_in, open_in_range, place_in, put_in_range, readable_in_range}
use Rattle.core_law.proofs.Steady.{named_in_range}
use Rattle.cdrc_core.specs.Kept.{Kept}
use Rattle.core_promises.proofs.Granted.{seat_granted}
use Rattle.core_views.specs.Fits.{IsFit, IsWordFor}

module _ (z : Shape) (c : Core) (n : ℕ) (k : Kept z c) (there : n < length c.views) where
  so : Sound z c
  so = k.sound

  hn : n < z.seats
  hn = let views = so.views in omega arith

  abbrev v : CoreView
  v = view_at c n

  -- the word that an act is on, where the seat may make the act
  pub place_there : (a : Act) → May z a v → place z a v < word_count z
  place_there = place_in z n v (so.seats n hn) hn

  -- the numbers of a seat are in their ranges
  pub seat_fit : IsFit v
  seat_fit = record {
    room = so.room.each n no_view there;
    makes = let few = (so.seats n hn).quota.0 in
        let own = seat_granted z c n so.tickets there in let most = k.grants n in omega arith;
    reads = let r = (so.seats n hn).reads in let few = so.shape in omega arith;
    can_start = λ s e. (so.seats n hn).can_start s (inr e);
  }

  -- what an act finds in a place
  pub word_for : (a : Act) → May z a v → IsWordFor z a (slice_index c.words (place z a v))
  word_for (act.Look q) may = content_in z c so q (readable_in_range z n v (so.seats n hn) q may.1)
  word_for (act.Check j q) may = content_in z c so q (readable_in_range z n v (so.seats n hn) q may.3)
  word_for (act.Swap q new) may =
      content_in z c so q (put_in_range z n v (so.seats n hn) q new may)
  word_for (act.Cas q old new) may =
      content_in z c so q (open_in_range z n v (so.seats n hn) q may.2)
  word_for (act.Add s) may = tt
  word_for (act.Drop s) may = tt
  word_for act.Pay may = tt
  word_for act.Finish may = tt
  word_for act.Take may = tt
  word_for (act.Count s) may = tt
  word_for act.Mark may = tt
  word_for (act.Announce j k s) may = tt
  word_for (act.Release j) may = tt
  word_for (act.Alive j) may = tt
  word_for act.Scan may = tt
  word_for (act.Claim s) may = tt
  word_for act.Arm may = tt
  word_for (act.Fill i x) may = tt
  word_for act.Start may = tt
  word_for (act.See s i) may = tt
  word_for act.Free may = tt
  word_for act.Ticket may = tt
  word_for (act.Wadd s) may = tt
  word_for (act.Wdrop s) may = tt
  word_for (act.Destroy s) may = tt
  word_for (act.Wcount s) may = tt
  word_for (act.Leave j) may = tt

-- what a seat destroys is there
pub destroy_there : (z : Shape) (c : Core) (n : ℕ) (s : SlotId) → Kept z c → n < length c.views
    → May z (act.Destroy s) (view_at c n) → s.0 < z.slots
destroy_there z c n s k there may =
    let law = k.sound in
    let views = law.views in
    let p = may.1 in named_in_range z n (view_at c n) s (law.seats n (omega arith)) (omega arith)

-- what the event of a seat needs of the numbers
pub ruleset in_range = (place_there, word_for, seat_fit)
