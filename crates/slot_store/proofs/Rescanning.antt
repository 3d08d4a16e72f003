-- A seat that is alone and collects twice: where the first collect ejects nothing and leaves
-- nothing ripe, so does the second.
use Rattle.std.proofs.Common.{◌≡◌, ⊎_elim, ℕ, ◌+◌, ◌<◌, ◌≤◌, List, [], ◌∷◌, length, refl, ap, sym, ◌∙◌, arith, length-append}
use Rattle.std.specs.Prelude.{IsSome}
use Rattle.protocol_pairs.specs.plain_state.declared.slot.Kind.{Kind}
use Rattle.protocol_pairs.specs.plain_state.declared.slot.Kind.TheVariants.{Strong, Weak, Disposal}
use Rattle.protocol_pairs.specs.plain_state.declared.slot.SlotId.{SlotId}
use Rattle.protocol_pairs.specs.plain_state.Ejection.{Announcements, ejected, kept, ripened}
use Rattle.protocol_pairs.specs.plain_state.Lists.{Entry, entry_times}
use Rattle.deleter.proofs.Below.plain_state_Ejections.{kept_times, split_times}
use Rattle.claim_law.specs.announce_slots.Seen.{announced_in}
use Rattle.claim_law.specs.core_events.declared.view.CoreView.{CoreView}
use Rattle.claim_law.proofs.Below.core_law_Kit.{entry_cons, kind_one, one_same}
use Rattle.retiring_stores.specs.acquire_retire.Domains.{DomainState}
use Rattle.retiring_stores.specs.acquire_retire.Seats.{SeatState}
use Rattle.retiring_stores.specs.control_word.Resting.{IsAtRest}
use Rattle.retiring_stores.specs.Scanning.{Collected}
use Rattle.slot_store.specs.Settling.{GoesOn}
use Rattle.slot_store.proofs.Lasting.{collect_lasts}
use Rattle.slot_store.proofs.OwnNotes.{AreOwn, same_own}
use Rattle.slot_store.proofs.Quieting.{no_items}
use Rattle.slot_store.proofs.Scans.{Scanned, ejects, own_words, unpaid, words_of}

-- words that stand where a seat's notes stand are told by the notes
one_reading : (v : CoreView) (i : ℕ) (ws us : List ℕ) → AreOwn v i ws → AreOwn v i us
    → length ws ≡ length us → ws ≡ us
one_reading v i [] [] first second same = refl
one_reading v i [] (u ∷ us) first second same = absurd (omega arith)
one_reading v i (w ∷ ws) [] first second same = absurd (omega arith)
one_reading v i (w ∷ ws) (u ∷ us) first second same =
    let word : w ≡ u = first.0 ∙ sym second.0 in
    let rest = one_reading v (i + 1) ws us first.1 second.1 (omega arith) in
    λ k. word k ∷ rest k

-- a split of what a split kept ejects nothing
kind_same : (k : Kind) (n : ℕ) → kind_one k k n ≡ n
kind_same Strong n = refl
kind_same Weak n = refl
kind_same Disposal n = refl

no_entries : (es : List Entry) → ((k : Kind) (s : SlotId) → entry_times k s es ≡ 0) → length es ≡ 0
no_entries [] none = refl
no_entries (e ∷ es) none =
    let first = none e.0 e.1 in
    let more = entry_cons e.0 e.1 e es in
    let one = one_same e.1 e.1 refl in
    let kind = kind_same e.0 1 in absurd (grind arith)

none_ejected : (es : List Entry) (seen : Announcements) → length (ejected (kept es seen) seen) ≡ 0
none_ejected es seen = no_entries (ejected (kept es seen) seen) (λ k s.
    let first = kept_times k s es seen in
    let again = kept_times k s (kept es seen) seen in
    let both = split_times k s (kept es seen) seen in omega arith)

module _ {P V : Type 0} {fits : List ℕ → Type 0} (d : DomainState P) where
  module _ (old mid new : SeatState V) (rest : IsAtRest d old) (known : IsSome old.view.whole)
      (first : Collected fits d old mid)
      (same : length old.view.core.retired ≤ length mid.view.core.retired)
      (was : old.view.core.ripe ≡ []) (is : mid.view.core.ripe ≡ []) where
    unpaid_first : Scanned (words_of d old mid first) 0 old.view.core mid.view.core
    unpaid_first =
        let fewer = first.collects.retired in
        unpaid d old mid rest first (no_items first.collects.payments (omega arith))

    -- both read the same words
    read_again : (second : Collected fits d mid new)
        → words_of d mid new second ≡ words_of d old mid first
    read_again second =
        let notes = ap (λ (v : CoreView). v.notes) first.collects.goes.rest in
        let all = first.collects.all in
        let again = second.collects.all in
        let one = length-append first.collects.seen (first.collects.last ∷ []) in
        let two = length-append second.collects.seen (second.collects.last ∷ []) in
        one_reading old.view.core 0 (words_of d mid new second) (words_of d old mid first)
        (same_own old.view.core mid.view.core 0 (words_of d mid new second) notes
        (own_words d mid new first.rest second (collect_lasts d old mid known first).known))
        (own_words d old mid rest first known) (omega arith)

    -- so the second doesn't go on
    pub quiet_again : GoesOn fits d mid new → ⊥
    quiet_again goes =
        let second = goes.collected in
        let words = read_again second in
        let one = unpaid_first in
        let seen = announced_in (words_of d old mid first) in
        let none : length second.collects.payments ≡ 0 =
        ejects d mid new first.rest second
        ∙ (λ i. length (ejected (one.retired i) (announced_in (words i))))
        ∙ none_ejected old.view.core.retired (announced_in (words_of d old mid first)) in
        let two = unpaid d mid new first.rest second (no_items second.collects.payments none) in
        let ripe : new.view.core.ripe ≡ [] =
        two.ripe
        ∙ (λ i. ripened ((is ∙ sym was) i) (one.dying i) (announced_in (words i)))
        ∙ sym one.ripe ∙ is in
        let fewer = second.collects.retired in
        ⊎_elim
        (λ (less : length new.view.core.retired < length mid.view.core.retired).
        absurd (omega arith))
        (λ more. more ripe)
        goes.more
