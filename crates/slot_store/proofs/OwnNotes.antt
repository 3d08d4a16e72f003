-- What a scan reads while its seat is alone: the words of its own notes, and else nothing.
use Rattle.std.proofs.Common.{◌≡◌, ◌≢◌, ⊎_elim, ℕ, suc, ◌+◌, ◌*◌, ◌/◌, ◌%◌, ◌<◌, ◌≤◌, Bool, true, false, List, [], ◌∷◌, ◌++◌, length, get_or, refl, ap, sym, ◌∙◌, subst, arith}
use Rattle.std.specs.Prelude.{IsSome, slice_index}
use Rattle.std.proofs.lemmas.Bool.{cases_eq, cases_lt}
use Rattle.std.proofs.lemmas.List.{get_or_past, length-append}
use Rattle.protocol_pairs.specs.plain_state.declared.slot.Kind.{Kind}
use Rattle.protocol_pairs.specs.plain_state.declared.slot.Kind.TheVariants.{Strong, Weak, Disposal}
use Rattle.protocol_pairs.specs.plain_state.declared.slot.SlotId.{SlotId}
use Rattle.protocol_pairs.specs.plain_state.Lists.{entry_times}
use Rattle.claim_law.specs.announce_slots.Seen.{announced_in}
use Rattle.claim_law.specs.announce_slots.Words.{code}
use Rattle.claim_law.proofs.Below.announce_slots_Counting.{seen_cons, seen_none, word_one, word_other, word_same}
use Rattle.claim_law.specs.core_events.declared.act.Act.TheVariants as act
use Rattle.claim_law.specs.core_events.declared.outcome.Outcome.{Outcome}
use Rattle.claim_law.specs.core_events.declared.shape.Shape.{Shape}
use Rattle.claim_law.specs.core_events.declared.view.CoreView.{CoreView}
use Rattle.claim_law.specs.core_events.declared.view.Move.{Move}
use Rattle.claim_law.specs.core_events.declared.view.Note.{Note}
use Rattle.claim_law.specs.core_events.declared.view.Note.TheVariants as note
use Rattle.claim_law.specs.core_events.Good.{SeatLaw, word_of_note}
use Rattle.claim_law.specs.core_events.Runs.{view_at}
use Rattle.claim_law.specs.core_events.Steps.{is_last, scanned}
use Rattle.claim_law.specs.core_events.Views.{note_of, valid_of}
use Rattle.claim_law.proofs.Below.core_law_Kit.{entry_cons, entry_one, one_same}
use Rattle.retiring_stores.specs.acquire_retire.Calls.{IsSameView, Steps, same_view}
use Rattle.retiring_stores.specs.acquire_retire.Collecting.{Walks, scanned_by}
use Rattle.retiring_stores.specs.acquire_retire.Domains.{DomainState}
use Rattle.retiring_stores.specs.acquire_retire.Seats.{SeatState}
use Rattle.retiring_stores.specs.control_word.Resting.{IsSettled}
use Rattle.retiring_stores.proofs.Below.control_word_Finding.{seat_there, sound_before}
use Rattle.slot_store.proofs.Objects.{known_still, some_value}
use Rattle.slot_store.proofs.Ripening.{split_read, word_read}

-- these words stand from word i on where the seat's notes stand, and 0 where it has none
abbrev pub AreOwn : CoreView → ℕ → List ℕ → Type 0
AreOwn v i [] = Unit {0}
AreOwn v i (w ∷ ws) = (w ≡ word_of_note (note_of v i)) × AreOwn v (i + 1) ws

-- the same, of a list of notes
abbrev AreOf : List Note → List ℕ → Type 0
AreOf ns [] = Unit {0}
AreOf [] (w ∷ ws) = (w ≡ 0) × AreOf [] ws
AreOf (n ∷ ns) (w ∷ ws) = (w ≡ word_of_note n) × AreOf ns ws

are_of : (v : CoreView) (i : ℕ) (ns : List Note) (ws : List ℕ)
    → ((j : ℕ) → note_of v (i + j) ≡ get_or ns j note.Idle) → AreOwn v i ws → AreOf ns ws
are_of v i ns [] from own = tt
are_of v i [] (w ∷ ws) from own =
    let at : i + 0 ≡ i = omega arith in (
      own.0 ∙ ap word_of_note (ap (note_of v) (sym at) ∙ from 0),
      are_of v (i + 1) [] ws
          (λ j. let k : i + 1 + j ≡ i + suc j = omega arith in ap (note_of v) k ∙ from (suc j)) own.1,
    )
are_of v i (n ∷ ns) (w ∷ ws) from own =
    let at : i + 0 ≡ i = omega arith in (
      own.0 ∙ ap word_of_note (ap (note_of v) (sym at) ∙ from 0),
      are_of v (i + 1) ns ws
          (λ j. let k : i + 1 + j ≡ i + suc j = omega arith in ap (note_of v) k ∙ from (suc j)) own.1,
    )

-- a word announces at most one entry, and 0 none
code_some : (k : Kind) (s : SlotId) → 0 < code k s
code_some Strong s = omega arith
code_some Weak s = omega arith
code_some Disposal s = omega arith

same_code : (k j : Kind) (s x : SlotId) → code j x ≡ code k s → entry_one k s (j, x) ≡ 1
same_code Strong Strong s x is = one_same s x (omega arith)
same_code Strong Weak s x is = absurd (omega arith)
same_code Strong Disposal s x is = absurd (omega arith)
same_code Weak Strong s x is = absurd (omega arith)
same_code Weak Weak s x is = one_same s x (omega arith)
same_code Weak Disposal s x is = absurd (omega arith)
same_code Disposal Strong s x is = absurd (omega arith)
same_code Disposal Weak s x is = absurd (omega arith)
same_code Disposal Disposal s x is = one_same s x (omega arith)

no_word : (k : Kind) (s : SlotId) (w : ℕ) → w ≡ 0 → word_one (code k s) w ≡ 0
no_word k s w none =
    let some = code_some k s in word_other (code k s) w (λ is. absurd (omega arith))

one_word : (k j : Kind) (s x : SlotId) (w : ℕ) → w ≡ code j x
    → word_one (code k s) w ≤ entry_one k s (j, x)
one_word k j s x w is = ⊎_elim
    (λ (same : w ≡ code k s).
    let one = word_same (code k s) w same in
    let entry = same_code k j s x (sym is ∙ same) in omega arith)
    (λ (other : w ≢ code k s). let none = word_other (code k s) w other in omega arith)
    (cases_eq w (code k s))

module _ (k : Kind) (s : SlotId) where
  none_of : (ws : List ℕ) → AreOf [] ws → announced_in ws k s ≡ 0
  none_of [] of = seen_none (code k s)
  none_of (w ∷ ws) of =
      let more = seen_cons (code k s) w ws in
      let none = no_word k s w of.0 in
      let rest = none_of ws of.1 in omega arith

  -- what words of notes announce, of which each stands for nothing or for a snapshot, is under one
  times_of : (ns : List Note) (ws : List ℕ) → ((j : ℕ) → IsSettled (get_or ns j note.Idle))
      → AreOf ns ws → announced_in ws k s ≤ entry_times k s (valid_of ns)
  times_of ns [] settled of = let none = seen_none (code k s) in omega arith
  times_of [] (w ∷ ws) settled of = let none = none_of (w ∷ ws) of in omega arith
  times_of (note.Idle ∷ ns) (w ∷ ws) settled of =
      let more = seen_cons (code k s) w ws in
      let none = no_word k s w of.0 in
      let rest = times_of ns ws (λ j. settled (suc j)) of.1 in omega arith
  times_of (note.Announced j x ∷ ns) (w ∷ ws) settled of = absurd (settled 0)
  times_of (note.Valid j x ∷ ns) (w ∷ ws) settled of =
      let more = seen_cons (code k s) w ws in
      let entry = entry_cons k s (j, x) (valid_of ns) in
      let one = one_word k j s x w of.0 in
      let rest = times_of ns ws (λ j. settled (suc j)) of.1 in omega arith

-- so it is of all words that a scan reads
pub own_times : (v : CoreView) (ws : List ℕ) → ((j : ℕ) → IsSettled (note_of v j)) → AreOwn v 0 ws
    → (k : Kind) (s : SlotId) → announced_in ws k s ≤ entry_times k s (valid_of v.notes)
own_times v ws settled own k s =
    times_of k s v.notes ws settled
    (are_of v 0 v.notes ws
    (λ j. let at : 0 + j ≡ j = omega arith in ap (λ (i : ℕ). get_or v.notes i note.Idle) at) own)

pub same_own : (v u : CoreView) (i : ℕ) (ws : List ℕ) → u.notes ≡ v.notes → AreOwn u i ws → AreOwn v i ws
same_own v u i [] same own = tt
same_own v u i (w ∷ ws) same own = (
  own.0 ∙ ap (λ (ns : List Note). word_of_note (get_or ns i note.Idle)) same,
  same_own v u (i + 1) ws same own.1,
)

scanned_notes : (z : Shape) (w : ℕ) (v : CoreView) → (scanned z w v).notes ≡ v.notes
scanned_notes z w v = go (is_last z v) refl
  where
    go : (b : Bool) → is_last z v ≡ b → (scanned z w v).notes ≡ v.notes
    go true is = rw is refl
    go false is = rw is refl

module _ {P V : Type 0} (fits : List ℕ → Type 0) (d : DomainState P) where
  -- a seat that is alone reads its own notes, and those of seats that have left
  own_word : (a b : SeatState V) (o : Outcome) → IsSome a.view.whole
      → (step : Steps fits d same_view IsSameView act.Scan a b o)
      → step.word ≡ word_of_note (note_of a.view.core (length a.view.core.seen))
  own_word a b o known step =
      let told = step.told in
      let c = told.happened.before in
      let v = a.view.core in
      let i = length v.seen in
      let all = some_value a.view.whole known in
      let alone = told.said.whole all.0 all.1 in
      let so = sound_before told in
      let law = subst (λ (u : CoreView). SeatLaw d.shape v.seat u) (sym told.happened.view)
      (so.seats v.seat (seat_there told)) in
      let found : step.word ≡ slice_index c.words (1 + i) =
      told.happened.found
      ∙ ap (λ (u : CoreView). slice_index c.words (1 + length u.seen)) (sym told.happened.view) in
      let reads = law.reads in
      let views = so.views in
      let place : 1 + i ≡ 1 + 4 * (i / 4) + i % 4 = omega arith in
      let noted = so.announced (i / 4) (i % 4) (omega arith) (omega arith) in
      found ∙ ap (slice_index c.words) place ∙ noted ∙ ⊎_elim
      (λ (mine : i < 4).
      let n : i / 4 ≡ v.seat = (let z = alone.1 in omega arith) in
      let j : i % 4 ≡ i = omega arith in
      ap (λ (x : ℕ × ℕ). word_of_note (note_of (view_at c x.0) x.1)) (λ k. (n k, j k))
      ∙ ap (λ (u : CoreView). word_of_note (note_of u i)) (sym told.happened.view))
      (λ (other : 4 ≤ i).
      let left = alone.2 (i / 4) (omega arith) (omega arith) in
      let gone = (so.seats (i / 4) (omega arith)).gone left in
      let four = law.four in
      ap word_of_note (gone.6 (i % 4))
      ∙ sym (ap word_of_note (get_or_past v.notes i note.Idle (omega arith))))
      (cases_lt i 4)

  -- all words that a whole scan reads
  pub own_scan : (ws : List ℕ) (last stay go : ℕ) (ms : List Move) (a b : SeatState V)
      → IsSome a.view.whole → Walks fits d (scanned_by ws last stay go ++ ms) a b
      → AreOwn a.view.core (length a.view.core.seen) (ws ++ last ∷ [])
  own_scan [] last stay go ms a b known walks =
      let step = walks.1 in
      let v = a.view.core in
      let is = split_read (is_last d.shape v) last stay go step.word _ _ step.answers in
      (is.1 ∙ own_word a walks.0 _ known step, tt)
  own_scan (w ∷ ws) last stay go ms a b known walks =
      let step = walks.1 in
      let v = a.view.core in
      let u = walks.0.view.core in
      let is = word_read (is_last d.shape v) w step.word _ step.answers (λ e. absurd (cc (e))) in
      let notes : u.notes ≡ v.notes =
      ap (λ (x : CoreView). x.notes) step.told.core ∙ scanned_notes d.shape step.word v in
      let seen : u.seen ≡ v.seen ++ step.word ∷ [] =
      ap (λ (x : CoreView). x.seen) step.told.core ∙ rw is.0 refl in
      let longer : length u.seen ≡ length v.seen + 1 =
      (let e = ap length seen in let f = length-append v.seen (step.word ∷ []) in omega arith) in
      let rest = own_scan ws last stay go ms walks.0 b (known_still step.told known) walks.2 in (
        is.1 ∙ own_word a walks.0 _ known step,
        subst (λ (n : ℕ). AreOwn v n (ws ++ last ∷ [])) longer
            (same_own v u (length u.seen) (ws ++ last ∷ []) notes rest),
      )
