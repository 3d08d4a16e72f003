-- Where an entry stands first in a list of entries.
use Rattle.std.proofs.Common.{◌≡◌, ◌+◌, ◌<◌, ℕ, List, false, length, get_or, take, ap, sym, ◌∙◌, arith}
use Rattle.std.proofs.lemmas.List.{take_all}
use Rattle.std.proofs.lemmas.List.Sums.{count_by_more_no}
use Rattle.plain_state.specs.declared.slot.Kind.{Kind}
use Rattle.plain_state.specs.declared.slot.SlotId.{SlotId}
use Rattle.plain_state.specs.Lists.{Entry, is_entry, entry_times}

pub no_entry_more : (k : Kind) (s : SlotId) (d : Entry) (es : List Entry) (i : ℕ) → entry_times k s (take i es) ≡ 0 → i < length es → is_entry k s (get_or es i d) ≡ false
    → entry_times k s (take (i + 1) es) ≡ 0
unfolding entry_times
no_entry_more k s d es i e lt f = count_by_more_no (is_entry k s) es i d lt f ∙ e

pub no_entry_at_all : (k : Kind) (s : SlotId) (es : List Entry) (i : ℕ) → entry_times k s (take i es) ≡ 0 → i ≡ length es → entry_times k s es ≡ 0
no_entry_at_all k s es i e f = ap (entry_times k s) (sym (take_all i es (omega (arith, f)))) ∙ e
