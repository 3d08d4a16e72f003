-- How far the slots of a record were compared with a text.
use Rattle.std.proofs.Common.{◌≡◌, ◌≢◌, ℕ, suc, ◌+◌, ◌-◌, ◌*◌, ◌<◌, ◌≤◌, List, [], ◌∷◌, ◌++◌, append_assoc, length, drop, take, sym, ap, subst, ◌∙◌, arith}
use Rattle.std.specs.Prelude.{◌/◌}
use Rattle.std.proofs.lemmas.List.{drop-drop}
use Rattle.cell_law.specs.declared.view.Sight.{Sight}
use Rattle.cell_law.specs.declared.view.View.{View}
use Rattle.cell_calls.specs.cell_law.Walks.{payloads}
use Rattle.cell_calls.specs.cell_law.directory_law.Payloads.{IsText, Text}
use Rattle.cell_calls.specs.cell_law.directory_law.Steps.{payload_in}
use Rattle.directory_law.proofs.Bytes.{text_is}
use Rattle.directory_law.proofs.Ends.{append_none, text_ends}
use Rattle.epoch_domain.specs.plain_protocol.plain_state.declared.slot.SlotId.{SlotId}
use Rattle.epoch_domain.specs.plain_protocol.Owns.{Object}
use Rattle.epoch_domain.specs.epoch_core.declared.view.EpochMove.{EpochMove}
use Rattle.epoch_domain.specs.epoch_rule.Views.{object_in, own_of}
use Rattle.epoch_domain.specs.Domains.{DomainState}
use Rattle.epoch_domain.specs.Seats.{SeatState}
use Rattle.epoch_domain.proofs.Below.epoch_rule_Others.{held_has}
use Rattle.epoch_refs.specs.Searching.{Goes}
use Rattle.epoch_refs.specs.Walks.{IsAtRest}
use Rattle.record_texts.specs.Texts.{part_of, parts_after, parts_of, payload_of, text_of}
use Rattle.record_texts.proofs.Packed.{begins_so, is_text_of}
use Rattle.cell_finding.specs.Comparing.{GoesOnTo, IsAlong, IsWhole, rest_of, sighted, sighted_text}
use Rattle.cell_finding.specs.Finding.{IsPast}
use Rattle.cell_finding.specs.Looking.{OnlyLooks}
use Rattle.cell_finding.specs.Sought.{IsSought}
use Rattle.cell_finding.proofs.Along.{along_still, holds_last, in_seen, payloads_added, seen_payload, sees_last, sighted_still, text_kept, text_still}
use Rattle.cell_finding.proofs.Looks.{goes_looks, looks_then, looks_wider}
use Rattle.cell_finding.proofs.Past.{past_by}

-- WHAT IS LEFT OF A TEXT
pub rest_first : (bytes head : List ℕ) → head ≡ payload_of (length bytes) (take 120 bytes)
    → text_of bytes ≡ head ∷ rest_of bytes 0
rest_first bytes head is =
    let e : parts_after (length bytes) ≡ parts_after (length bytes) - 0 = omega arith in
    begins_so bytes head is
    ∙ ap (λ (n : ℕ). head ∷ parts_of n (drop 120 bytes)) e

pub rest_next : (bytes : List ℕ) (k : ℕ) → k < parts_after (length bytes)
    → rest_of bytes k ≡ part_of (drop (120 * (k + 1)) bytes) ∷ rest_of bytes (k + 1)
unfolding parts_of
rest_next bytes k more =
    let n : parts_after (length bytes) - k ≡ suc (parts_after (length bytes) - (k + 1)) =
    omega (arith, more) in
    let at : 120 * (k + 1) + 120 ≡ 120 * (k + 1 + 1) = omega arith in
    ap (λ (m : ℕ). parts_of m (drop (120 * (k + 1)) bytes)) n
    ∙ ap (λ (ts : List ℕ). part_of (drop (120 * (k + 1)) bytes)
    ∷ parts_of (parts_after (length bytes) - (k + 1)) ts)
    (drop-drop 120 (120 * (k + 1)) bytes ∙ ap (λ (m : ℕ). drop m bytes) at)

pub rest_last : (bytes : List ℕ) (k : ℕ) → k ≡ parts_after (length bytes) → rest_of bytes k ≡ []
unfolding parts_of
rest_last bytes k all =
    let n : parts_after (length bytes) - k ≡ 0 = omega (arith, all) in
    ap (λ (m : ℕ). parts_of m (drop (120 * (k + 1)) bytes)) n

-- The head and k parts of a record were seen, and their payloads begin the text of these bytes.
pub record ComparedSoFar {P : Type 0} (d : DomainState P) (bytes : List ℕ) (k : ℕ)
    (head last : SlotId) (old now : SeatState View) : Type 0 where
  pub along : IsAlong head last now
  pub cell : (sighted now).cell ≡ (sighted old).cell
  pub begins : text_of bytes ≡ sighted_text now ++ rest_of bytes k
  pub looks : OnlyLooks (16 + 17 * k) old now
  pub rest : IsAtRest d now

-- ONE PAYLOAD was compared
module _ {P : Type 0} (fits : List ℕ → Type 0) (d : DomainState P) (ms : List EpochMove)
    (head last : SlotId) (mid new : SeatState View) (along : IsAlong head last mid)
    (goes : (length ms ≤ 16) × Goes fits d ms mid.view.core mid new) where
  pub read_looks : OnlyLooks 16 mid new
  read_looks = goes_looks fits d ms 16 mid new goes.0 goes.1

  pub read_along : IsAlong head last new
  read_along = along_still head last mid along 16 new read_looks goes.1.client

  pub read_text : sighted_text new ≡ sighted_text mid
  read_text = text_still head last mid along 16 new read_looks goes.1.client

  pub read_cell : (sighted new).cell ≡ (sighted mid).cell
  read_cell =
      ap (λ (e : Sight). e.cell) (sighted_still head last mid along 16 new read_looks goes.1.client)

  pub read_object : object_in new.view last ≡ object_in mid.view last
  read_object = goes.1.knows last (held_has last mid.view.core (holds_last head last mid along))

-- THE HEAD
module _ {P : Type 0} (fits : List ℕ → Type 0) (d : DomainState P) (ms : List EpochMove)
    (bytes payload : List ℕ) (hash : ℕ) (sought : IsSought bytes payload hash) (head : SlotId)
    (old new : SeatState View) (along : IsAlong head head old)
    (one : (sighted old).slots ≡ head ∷ [])
    (goes : (length ms ≤ 16) × Goes fits d ms old.view.core old new)
    (rest : IsAtRest d new) where
  head_text : sighted_text new ≡ (object_in new.view head).payload ∷ []
  head_text =
      read_text fits d ms head head old new along goes
      ∙ (ap (payloads (own_of old.view)) one
      ∙ (ap (λ (t : List ℕ). t ∷ [])
      (seen_payload old.view head (sees_last head head old along))
      ∙ ap (λ (o : Object). o.payload ∷ []) (sym (read_object fits d ms head head old new along goes))))

  begins : text_of bytes ≡ payload ∷ rest_of bytes 0
  begins = rest_first bytes payload sought.head_is

  known : (object_in new.view head).payload ≡ (object_in old.view head).payload
  known = ap (λ (o : Object). o.payload) (read_object fits d ms head head old new along goes)

  pub head_same : (object_in old.view head).payload ≡ payload
      → ComparedSoFar d bytes 0 head head old new
  head_same is = record {
    along = read_along fits d ms head head old new along goes;
    cell = read_cell fits d ms head head old new along goes;
    begins = begins ∙ ap (λ (ts : Text). ts ++ rest_of bytes 0)
        (sym (head_text ∙ ap (λ (t : List ℕ). t ∷ []) (known ∙ is)));
    looks = looks_wider 16 old new (read_looks fits d ms head head old new along goes) (16 + 17 * 0)
        (omega arith);
    rest = rest;
  }

  pub head_differs : (object_in old.view head).payload ≢ payload
      → IsPast new (text_of bytes) (sighted old).cell
  head_differs differs =
      let along_new = read_along fits d ms head head old new along goes in
      past_by new (sighted new) [] (rest_of bytes 0) (text_of bytes) payload
      (object_in new.view head).payload (sighted old).cell (in_seen head head new along_new)
      (read_cell fits d ms head head old new along goes) along_new.region head_text
      (λ is. differs (sym known ∙ is)) begins

-- A PART
module _ {P : Type 0} (d : DomainState P) (bytes : List ℕ) (k : ℕ) (head last : SlotId)
    (old now : SeatState View) (so : ComparedSoFar d bytes k head last old now)
    (more : k < parts_after (length bytes)) where
  -- the payloads so far aren't a whole text
  pub more_follows : 1 ≤ length bytes → length bytes ≤ 4096 → IsText (sighted_text now) → ⊥
  more_follows some most whole =
      let is = text_is bytes (text_of bytes) (is_text_of bytes some most) in
      let nil = text_ends (sighted_text now) (rest_of bytes k) whole (subst IsText so.begins is) in
      never (sym (rest_next bytes k more) ∙ nil)
    where
      never : part_of (drop (120 * (k + 1)) bytes) ∷ rest_of bytes (k + 1) ≡ [] → ⊥
      never e = cc

  module _ (fits : List ℕ → Type 0) (ms : List EpochMove) (part : SlotId) (mid new : SeatState View)
      (on : GoesOnTo head part now mid)
      (goes : (length ms ≤ 16) × Goes fits d ms mid.view.core mid new) (rest : IsAtRest d new) where
    abbrev payload : List ℕ
    payload = part_of (drop (120 * (k + 1)) bytes)

    part_known : (object_in new.view part).payload ≡ (object_in mid.view part).payload
    part_known = ap (λ (o : Object). o.payload) (read_object fits d ms head part mid new on.along goes)

    part_text : sighted_text new ≡ sighted_text now ++ (object_in new.view part).payload ∷ []
    part_text =
        read_text fits d ms head part mid new on.along goes
        ∙ (ap (payloads (own_of mid.view)) on.slots
        ∙ (payloads_added (own_of mid.view) (sighted now).slots part
        ∙ (ap (λ (ts : Text). ts ++ payload_in (own_of mid.view) part ∷ [])
        (text_kept head last now so.along 1 mid on.looks)
        ∙ ap (λ (t : List ℕ). sighted_text now ++ t ∷ [])
        (seen_payload mid.view part (sees_last head part mid on.along) ∙ sym part_known))))

    part_looks : OnlyLooks (16 + 17 * (k + 1)) old new
    part_looks =
        looks_then (16 + 17 * k) old now so.looks 17 (16 + 17 * (k + 1)) new (omega arith)
        (looks_then 1 now mid on.looks 16 17 new (omega arith)
        (read_looks fits d ms head part mid new on.along goes))

    part_cell : (sighted new).cell ≡ (sighted old).cell
    part_cell = read_cell fits d ms head part mid new on.along goes ∙ (on.cell ∙ so.cell)

    goes_so : text_of bytes ≡ sighted_text now ++ payload ∷ rest_of bytes (k + 1)
    goes_so = so.begins ∙ ap (λ (ts : Text). sighted_text now ++ ts) (rest_next bytes k more)

    pub part_same : (object_in mid.view part).payload ≡ payload
        → ComparedSoFar d bytes (k + 1) head part old new
    part_same is = record {
      along = read_along fits d ms head part mid new on.along goes;
      cell = part_cell;
      begins = goes_so
          ∙ (sym (append_assoc (sighted_text now) (payload ∷ []) (rest_of bytes (k + 1)))
          ∙ ap (λ (ts : Text). ts ++ rest_of bytes (k + 1))
          (sym (part_text ∙ ap (λ (t : List ℕ). sighted_text now ++ t ∷ []) (part_known ∙ is))));
      looks = part_looks;
      rest = rest;
    }

    pub part_differs : (object_in mid.view part).payload ≢ payload
        → IsPast new (text_of bytes) (sighted old).cell
    part_differs differs =
        let along_new = read_along fits d ms head part mid new on.along goes in
        past_by new (sighted new) (sighted_text now) (rest_of bytes (k + 1)) (text_of bytes)
        payload (object_in new.view part).payload (sighted old).cell
        (in_seen head part new along_new) part_cell along_new.region part_text
        (λ is. differs (sym part_known ∙ is)) goes_so

    pub part_read_looks : OnlyLooks (16 + 17 * parts_after (length bytes)) old new
    part_read_looks = looks_wider (16 + 17 * (k + 1)) old new part_looks
        (16 + 17 * parts_after (length bytes)) (omega (arith, more))

-- ALL OF THEM
pub all_matched : {P : Type 0} (d : DomainState P) (bytes : List ℕ) (k : ℕ) (head last : SlotId)
    (old now : SeatState View) → ComparedSoFar d bytes k head last old now
    → k ≡ parts_after (length bytes) → IsWhole (text_of bytes) head now
all_matched d bytes k head last old now so all = record {
  last = last;
  along = so.along;
  is = so.begins ∙ (ap (λ (ts : Text). sighted_text now ++ ts) (rest_last bytes k all)
      ∙ append_none (sighted_text now));
}

-- how many parts there are
pub parts_are : (n k : ℕ) → 1 ≤ n → k ≡ (n - 1) / 120 → k ≡ parts_after n
parts_are n k some is = omega (arith, some, is)
