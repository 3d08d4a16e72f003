-- One piece that was counted, whose record was kept or given up, and then what ended was destroyed.
use Rattle.std.proofs.Common.{◌≡◌, ℕ, ◌+◌, ◌<◌, ◌≤◌, Bool, true, List, [], ◌∷◌, ◌++◌, refl, sym, subst, ◌∙◌, arith}
use Rattle.std.specs.Prelude.{cond}
use Rattle.control_word.specs.plain_state.declared.slot.SlotId.{SlotId}
use Rattle.control_word.specs.plain_state.Lists.{times}
use Rattle.control_word.specs.counted_handles.Handles.{Handle}
use Rattle.control_word.specs.acquire_retire.Seats.{SeatState}
use Rattle.weak_intern.specs.Knowing.{KnowsRecord}
use Rattle.words_protocol.specs.cdrc_text.Text.{slots_of_word}
use Rattle.words_protocol.specs.words_law.Views.{View}
use Rattle.lane_files.specs.Passed.{Takes, UsesInterns}
use Rattle.lane_files.specs.Ready.{Owns}
use Rattle.lane_files.specs.Scans.{scans_of}
use Rattle.lane_files.proofs.Offered.{texts}
use Rattle.lane_files.specs.lane_work.declared.lane.Lane.{Lane}
use Rattle.lane_files.specs.Keeping.{KeepsOne, has}
use Rattle.lane_files.specs.Next.{CountsNext}
use Rattle.lane_files.proofs.Kept.{owns_next, still_known}

module _ (w : List ℕ) (h : Handle) (b m k c : SeatState View) (before after : Lane)
    (counts : (one : Bool) × Takes (w ∷ []) (cond one 1 0) b.view.client m.view.client
    before.tally after.tally)
    (knows : KnowsRecord texts w h.slot m)
    (first : Owns (b.view.core.owned ++ h.slot ∷ []) b m)
    (interns : UsesInterns 1 b.view.client m.view.client)
    (keeps : KeepsOne h before.keeper after.keeper m k)
    (same_keep : k.view.client ≡ m.view.client)
    (tidies : Owns k.view.core.owned k c)
    (same_tidy : c.view.client ≡ k.view.client)
    (held : (s : SlotId) → has before.keeper s ≡ true → 0 < times s b.view.core.owned)
    (makes : c.view.core.makes ≤ b.view.core.makes + slots_of_word w + 1)
    (scans : scans_of k + 1 ≤ scans_of c) where
  same_view : c.view.client ≡ m.view.client
  same_view = same_tidy ∙ same_keep

  pub counts_next : CountsNext w b c before after
  counts_next = record {
    one = counts.0;
    takes = subst (λ (v : View). Takes (w ∷ []) (cond counts.0 1 0) b.view.client v before.tally
        after.tally) (sym same_view) counts.1;
    handle = h;
    knows = still_known h b.view.core.owned keeps.more b m k c first (λ x. refl) keeps.owns tidies
        (has before.keeper h.slot) keeps.is (held h.slot) w same_keep same_tidy knows;
    more = keeps.more;
    is = keeps.is;
    kept = keeps.kept;
    marks = keeps.marks;
    owns = owns_next h b.view.core.owned keeps.more b m k c first (λ x. refl) keeps.owns tidies;
    interns = subst (λ (v : View). UsesInterns 1 b.view.client v) (sym same_view) interns;
    makes = makes;
    scans = let p = first.scans in let q = keeps.owns.scans in omega (arith, scans);
  }
