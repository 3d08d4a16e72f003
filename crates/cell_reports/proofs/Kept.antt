-- What seat 0 knows of the records that it keeps, once cells are cleared and all has settled.
use Rattle.std.proofs.Common.{◌≡◌, ⊎_elim, inl, inr, ℕ, ◌+◌, ◌<◌, All, true, refl, List, [], ◌∷◌, ◌++◌, sym, ap, subst, ◌∙◌, arith}
use Rattle.std.specs.Prelude.{◌↔◌}
use Rattle.cell_records.specs.cell_calls.Cells.{area_of}
use Rattle.cell_records.specs.cell_calls.Keeping.{Keeps, Learns}
use Rattle.cell_domain.specs.cell_lanes.cell_calls.cell_protocol.declared.law.CellLaw.{CellLaw}
use Rattle.cell_gathering.specs.Shares.{gathered_files, tickets_of}
use Rattle.cell_gathering.specs.cdrc_text.Fold.{File, holders_in}
use Rattle.cell_gathering.proofs.Bytes.{no_bytes}
use Rattle.cell_gathering.proofs.Files.{each_kept, same_holders}
use Rattle.cell_gathering.proofs.Shares.{each_ticket}
use Rattle.cell_gathering.proofs.Told.{word_is_told}
use Rattle.cell_records.specs.cell_law.Views.{AreDistinct, bound_in, view_at, words_of}
use Rattle.cell_records.specs.cell_law.declared.view.View.{View}
use Rattle.cell_records.specs.cell_law.directory_law.Bytes.{text_bytes}
use Rattle.cell_records.specs.cell_law.directory_law.Views.{In, rope}
use Rattle.cell_records.specs.cell_law.directory_law.declared.view.Rope.{Rope}
use Rattle.cell_records.specs.cell_law.plain_state.Lists.{times}
use Rattle.cell_records.specs.cell_law.plain_state.References.{strong_refs}
use Rattle.cell_records.specs.cell_law.plain_state.State.{Plain}
use Rattle.cell_records.specs.cell_law.plain_state.declared.slot.SlotId.{SlotId}
use Rattle.cell_records.proofs.Below.cell_law_Distinct.{one_head}
use Rattle.cell_records.proofs.Below.cell_law_Kit.{in_either}
use Rattle.cell_records.specs.Audits.{IsAudited}
use Rattle.cell_records.specs.Clearing.{ClearsCells}
use Rattle.cell_records.specs.Lives.{KnowsLives}
use Rattle.cell_records.proofs.Alive.{lives_on}
use Rattle.cell_records.proofs.Telling.{told_on}
use Rattle.cell_records.specs.cell_rest.Kept.{KeepsRecordsOf, TellsFiles, TellsOfNow, TellsWord, told_by}
use Rattle.cell_records.proofs.Below.cell_rest_Joining.{tells_more}
use Rattle.cell_records.proofs.Below.cell_rest_KeptWords.{told_refs, words_told}
use Rattle.cell_records.specs.cell_rest.plain_audit.heap_audit.declared.finding.Audit.{Audit}
use Rattle.cell_records.specs.cell_rest.plain_audit.plain_state.declared.image.Heap.{Heap}
use Rattle.cell_records.proofs.Below.slot_store_Turning.{nothing_in}
use Rattle.cell_records.specs.directory_law.Bytes.{AreBytes}
use Rattle.cell_records.proofs.Below.directory_law_Bytes.{text_tells}
use Rattle.cell_records.specs.epoch_alone.Lone.{StaysAll}
use Rattle.cell_records.proofs.Below.epoch_alone_Objects.{own_has}
use Rattle.cell_records.specs.epoch_refs.epoch_core.declared.view.EpochView.{EpochView}
use Rattle.cell_records.specs.epoch_refs.epoch_domain.Domains.{DomainState}
use Rattle.cell_records.specs.epoch_refs.epoch_domain.Seats.{SeatState}
use Rattle.cell_records.specs.epoch_refs.plain_protocol.Owns.{Object}
use Rattle.cell_records.specs.epoch_alone.epoch_settling.Settling.{StaysBut}
use Rattle.cell_records.specs.lane_work.Keeping.{slots_of}
use Rattle.cell_records.specs.lane_work.Sizes.{texts_in}
use Rattle.cell_records.specs.lane_work.Work.{IsWork}
use Rattle.cell_records.specs.lane_work.counted_handles.Handles.{Handle}
use Rattle.cell_records.specs.lane_work.declared.work.Work.{Work}
use Rattle.cell_records.proofs.Below.record_texts_Packed.{is_text_of}
use Rattle.cell_records.specs.tally_sums.Sums.{Tallies}
use Rattle.cell_reports.specs.Counted.{HasCounted}
use Rattle.cell_reports.specs.Last.{ListsWords}
use Rattle.cell_reports.proofs.AtRest.{at_rest, lists_all, root_is}
use Rattle.cell_reports.proofs.Words.{word_sized}

-- THE STATES OF THE SEAT, from the first one to that in which the records are found, their lives known, the cells
-- cleared, and the state audited.
pub record Reaches (a b c e f : SeatState View) : Type 0 where
  pub finds : Keeps 0 0 a.view.core.owned a b
  pub learns : Learns a.view.client b.view.client
  pub lives : KnowsLives c
  pub stays : StaysAll b c
  pub clears : ClearsCells c e
  pub settles : StaysBut e f

pub reaches : (a b c e f : SeatState View) → Keeps 0 0 a.view.core.owned a b
    → Learns a.view.client b.view.client → KnowsLives c → StaysAll b c → ClearsCells c e
    → StaysBut e f → Reaches a b c e f
reaches a b c e f finds learns lives stays clears settles = record {
  finds = finds;
  learns = learns;
  lives = lives;
  stays = stays;
  clears = clears;
  settles = settles;
}

-- what is given up of what is kept leaves nothing
pub given_up : (kept : List Handle) (f g h : SeatState View)
    → ((s : SlotId) → times s f.view.core.owned ≡ times s (slots_of kept))
    → ((s : SlotId) → times s g.view.core.owned + times s (slots_of kept)
    ≡ times s f.view.core.owned) → StaysBut g h → h.view.core.owned ≡ []
given_up kept f g h owns gives settles =
    ap (λ (v : EpochView). v.owned) settles.core
    ∙ nothing_in g.view.core.owned
    (λ s. let all = owns s in let given = gives s in omega (arith, all, given))

module _ (a b c e f : SeatState View) (so : Reaches a b c e f) where
  pub owned_as : f.view.core.owned ≡ b.view.core.owned
  owned_as =
      ap (λ (v : EpochView). v.owned) so.settles.core ∙ ap (λ (v : EpochView). v.owned) so.clears.core
      ∙ ap (λ (v : EpochView). v.owned) so.stays.core

  pub owns_as : (s : SlotId) → times s f.view.core.owned ≡ times s a.view.core.owned
  owns_as s = ap (times s) owned_as ∙ so.finds.owns s

  pub client_as : f.view.client ≡ record b.view.client { cleared = true }
  client_as = so.settles.client ∙ so.clears.client
      ∙ ap (λ (v : View). record v { cleared = true }) so.stays.client

  pub told_as : (x : Rope) → In x (told_by b.view.client) → In x (told_by f.view.client)
  told_as x told = subst (λ (v : View). In x (told_by v)) (sym client_as) told

  pub lives_then : KnowsLives f
  lives_then =
      lives_on e f (λ s has. subst (λ (ss : List SlotId). 0 < times s ss)
      (ap (λ (v : EpochView). v.owned) so.settles.core) has)
      so.settles.knows
      (λ x told. subst (λ (v : View). In x (told_by v)) so.settles.client told)
      (lives_on c e (λ s has. subst (λ (ss : List SlotId). 0 < times s ss)
      (ap (λ (v : EpochView). v.owned) so.clears.core) has)
      so.clears.objects
      (λ x told. subst (λ (v : View). In x (told_by v)) so.clears.client told) so.lives)

  pub kept_owned : (work : Work) (kept : List Handle) (tallies : Tallies)
      → HasCounted work kept tallies a → (s : SlotId)
      → times s f.view.core.owned ≡ times s (slots_of kept)
  kept_owned work kept tallies counted s = owns_as s ∙ counted.owns s

  module _ (d : DomainState CellLaw) (work : Work) (is : IsWork work)
      (small : All (λ (words : File). All AreBytes words) (texts_in work)) (kept : List Handle)
      (tallies : Tallies) (counted : HasCounted work kept tallies a) (ranks : List ℕ) (image : Heap)
      (found : Audit) (audited : IsAudited d ranks f image found) where
    abbrev p : Plain
    p = audited.law.state

    abbrev views : List View
    views = audited.law.holds.views

    abbrev files : List File
    files = gathered_files work counted.lanes

    own : view_at views 0 ≡ f.view.client
    own = root_is d ranks f image found audited

    pub tells_files : TellsFiles files (slots_of kept) f.view.client
    tells_files =
        tells_more a.view.client f.view.client
        (λ x told. told_as x (told_on a.view.client b.view.client so.learns x told)) files
        (slots_of kept) counted.tells

    now : (s : SlotId) → 0 < times s (slots_of kept) → TellsOfNow p f.view.client s
    now s some life text told =
        let same = kept_owned work kept tallies counted s in
        let has : 0 < times s f.view.core.owned = omega (arith, some, same) in
        sym (ap (λ (o : Object). o.life)
        (audited.law.lone.objects s (own_has s f.view.core (omega (arith, has)))))
        ∙ lives_then s has life text told

    pub keeps_records : KeepsRecordsOf (area_of d.protocol) p views files (slots_of kept)
    keeps_records = record {
      meets = audited.law.holds.meets;
      fit = audited.law.lone.knows.fit;
      owned = λ s. ap (times s) audited.settled.root
          ∙ kept_owned work kept tallies counted s;
      others = audited.settled.others;
      now = λ s some. subst (λ (v : View). TellsOfNow p v s) (sym own) (now s some);
      tells = subst (TellsFiles files (slots_of kept)) (sym own) tells_files;
      bytes = each_kept work (tickets_of work counted.lanes)
          (λ (words : File). All AreBytes words) no_bytes small;
    }

    pub same_files : (w : List ℕ) → holders_in w files ≡ holders_in w (texts_in work)
    same_files =
        same_holders work (tickets_of work counted.lanes) is.once
        (each_ticket work counted.lanes counted.some)

    pub word_told : (w : List ℕ) → 0 < holders_in w (texts_in work)
        → (s : SlotId) × (0 < times s (slots_of kept)) × TellsWord f.view.client w s
    word_told =
        word_is_told work counted.lanes is.once counted.some (slots_of kept) f.view.client tells_files

    word_small : (w : List ℕ) → 0 < holders_in w (texts_in work) → AreBytes w
    word_small w held =
        let same = same_files w in
        ((words_told (area_of d.protocol) p views files (slots_of kept) keeps_records w).0
        (omega (arith, held, same))).2

    -- what the view tells is listed
    listed : (x : Rope) → In x (told_by f.view.client) → In x (bound_in f.view.client)
    listed x told = ⊎_elim
        (λ (i : In x f.view.client.found). (lists_all d ranks f image found audited).found x i)
        (λ (i : In x (bound_in f.view.client)). i)
        (in_either x f.view.client.found (bound_in f.view.client) told)

    -- so two slots of which it tells one word of the work are one
    one_slot : (w : List ℕ) → AreBytes w → (s r : SlotId) → TellsWord f.view.client w s
        → TellsWord f.view.client w r → s ≡ r
    one_slot w bytes s r first second =
        let here : (x : Rope) → In x (told_by f.view.client) → In x (bound_in (view_at views 0)) =
        λ x told. subst (λ (v : View). In x (bound_in v)) (sym own) (listed x told) in
        (one_head (area_of d.protocol) p views audited.law.holds.meets.law s r first.0 second.0
        first.1 second.1 (0, here (rope s first.0 first.1) first.3)
        (0, here (rope r second.0 second.1) second.3)
        (text_tells w first.1 bytes first.2 ∙ sym (text_tells w second.1 bytes second.2))).0

    pub is_kept : (w : List ℕ) → 0 < holders_in w (texts_in work) → (s : SlotId)
        → TellsWord f.view.client w s → 0 < times s (slots_of kept)
    is_kept w held s told =
        let one = word_told w held in
        subst (λ (x : SlotId). 0 < times x (slots_of kept))
        (one_slot w (word_small w held) one.0 s one.2 told) one.1

    -- references are there to each kept slot
    pub has_refs : (w : List ℕ) → 0 < holders_in w (texts_in work) → (s : SlotId)
        → TellsWord f.view.client w s → 0 < strong_refs p s
    has_refs w held s told =
        let some = is_kept w held s told in
        let root = subst (λ (v : View). TellsWord v w s) (sym own) told in
        let refs = told_refs (area_of d.protocol) p views files (slots_of kept) keeps_records
        (at_rest d ranks f image found audited) s some w (word_small w held) root in
        let same = same_files w in omega (arith, refs, same, held)

    -- THE HEADS that it lists
    none_bound : f.view.client.bound ≡ []
    none_bound =
        ap (λ (v : View). v.bound) client_as ∙ ap (λ (v : View). v.bound) so.learns.rest
        ∙ counted.bound

    joined_as : f.view.client.joined ≡ a.view.client.joined
    joined_as = ap (λ (v : View). v.joined) client_as ∙ ap (λ (v : View). v.joined) so.learns.rest

    in_joined : (x : Rope) → In x (bound_in f.view.client) → In x f.view.client.joined
    in_joined x there =
        subst (λ (xs : List Rope). In x (xs ++ f.view.client.joined)) none_bound there

    word_in : (x : Rope) (xs : List Rope) → In x xs → In (text_bytes x.text) (words_of xs)
    word_in x [] i = absurd i
    word_in x (y ∷ xs) i = ⊎_elim
        (λ (same : x ≡ y). inl (ap (λ (r : Rope). text_bytes r.text) same))
        (λ (j : In x xs). inr (word_in x xs j))
        i

    head_of : (w : List ℕ) (xs : List Rope) → In w (words_of xs)
        → (x : Rope) × In x xs × (w ≡ text_bytes x.text)
    head_of w [] i = absurd i
    head_of w (x ∷ xs) i = ⊎_elim
        (λ (same : w ≡ text_bytes x.text). (x, inl refl, same))
        (λ (j : In w (words_of xs)). let o = head_of w xs j in (o.0, inr o.1, o.2))
        i

    all_listed : (w : List ℕ)
        → In w (words_of f.view.client.joined) ↔ (0 < holders_in w (texts_in work))
    all_listed w = (
      λ i.
          let head = head_of w f.view.client.joined i in
          let text = counted.texts head.0
          (subst (λ (xs : List Rope). In head.0 xs) joined_as head.1) in
          let size = word_sized work is text.0 text.1 in
          let same = head.2 ∙ ap text_bytes text.2
          ∙ text_tells text.0 _ (word_small text.0 text.1) (is_text_of text.0 size.0 size.1) in
          subst (λ (x : List ℕ). 0 < holders_in x (texts_in work)) (sym same) text.1,
      λ held.
          let one = word_told w held in
          let told = one.2 in
          subst (λ (x : List ℕ). In x (words_of f.view.client.joined))
          (text_tells w told.1 (word_small w held) told.2)
          (word_in (rope one.0 told.0 told.1) f.view.client.joined
          (in_joined (rope one.0 told.0 told.1)
          (listed (rope one.0 told.0 told.1) told.3))),
    )

    pub lists_words : ListsWords (texts_in work) f.view.client
    lists_words = record {
      none = none_bound;
      once = subst (λ (xs : List Rope). AreDistinct (words_of (xs ++ f.view.client.joined)))
          none_bound (lists_all d ranks f image found audited).words;
      all = all_listed;
    }
