-- What a lane does for one piece.
use Rattle.std.specs.Prelude.{ℕ, ◌==◌, ◌++◌, ◌+◌, ◌≤◌, Bool, true, cond, List, [], ◌∷◌, ◌≡◌}
use Rattle.control_word.specs.plain_state.declared.slot.SlotId.{SlotId}
use Rattle.control_word.specs.counted_handles.Handles.{Handle}
use Rattle.control_word.specs.acquire_retire.Seats.{SeatState}
use Rattle.weak_intern.specs.Knowing.{KnowsRecord}
use Rattle.words_protocol.specs.cdrc_text.Text.{slots_of_word}
use Rattle.words_protocol.specs.words_law.Views.{View}
use Rattle.lane_files.specs.Passed.{Takes, UsesInterns}
use Rattle.lane_files.specs.Ready.{Owns}
use Rattle.lane_files.specs.Scans.{scans_of}
use Rattle.lane_files.specs.lane_work.declared.lane.Lane.{Lane}
use Rattle.lane_files.specs.Keeping.{has, slots_of}

-- It pushed an item of the word and popped one, or none. Where no reference to the slot of the word's record was kept
-- for the file, one is kept now. It made a node, and at most the slots of one record, and a whole scan or more.
pub record CountsNext (word : List ℕ) (old new : SeatState View) (before after : Lane) : Type 0 where
  pub one : Bool
  pub takes :
      Takes (word ∷ []) (cond one 1 0) old.view.client new.view.client before.tally
      after.tally
  pub handle : Handle
  pub knows : KnowsRecord (λ (v : View). v.1) word handle.slot new
  pub more : List Handle
  pub is : more ≡ cond (has before.keeper handle.slot) [] (handle ∷ [])
  pub kept : after.keeper.kept.items ≡ before.keeper.kept.items ++ more
  pub marks :
      (s : SlotId) → has after.keeper s
      ≡ cond (handle.slot.0 == s.0) true (has before.keeper s)
  pub owns : Owns (old.view.core.owned ++ slots_of more) old new
  pub interns : UsesInterns 1 old.view.client new.view.client
  pub makes : new.view.core.makes ≤ old.view.core.makes + slots_of_word word + 1
  pub scans : scans_of old + 1 ≤ scans_of new
