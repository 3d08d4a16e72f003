-- What a seat knows of cells that a walk has passed.
use Rattle.std.proofs.Common.{◌≡◌, ◌≢◌, inl, inr, ℕ, ◌<◌, List, [], ◌∷◌, ◌++◌, refl, sym, ap, subst, ◌∙◌, arith}
use Rattle.std.specs.Prelude.{Some, None}
use Rattle.cell_law.specs.declared.view.Sight.{Sight}
use Rattle.cell_law.specs.declared.view.View.{View}
use Rattle.cell_calls.specs.Cells.{area_of}
use Rattle.cell_calls.specs.Keeping.{Keeps}
use Rattle.cell_calls.specs.cell_law.Walks.{HasAll, SawAll, Walked, payloads}
use Rattle.cell_calls.specs.cell_law.directory_law.Cells.{on}
use Rattle.cell_calls.specs.cell_law.directory_law.Payloads.{Text}
use Rattle.cell_calls.specs.cell_law.directory_law.Steps.{payload_in, payload_of}
use Rattle.cell_calls.specs.cell_law.directory_law.Views.{Each, In}
use Rattle.cell_calls.specs.cell_law.directory_law.Walks.{NotPrefix}
use Rattle.cell_calls.specs.cell_protocol.declared.law.CellLaw.{CellLaw}
use Rattle.directory_law.proofs.Notes.{each_in, each_known}
use Rattle.epoch_domain.specs.plain_protocol.plain_state.declared.slot.SlotId.{SlotId}
use Rattle.epoch_domain.specs.plain_protocol.Owns.{OwnPart}
use Rattle.epoch_domain.specs.epoch_rule.declared.view.EpochSeatView.{EpochSeatView}
use Rattle.epoch_domain.specs.epoch_rule.Views.{own_of}
use Rattle.epoch_domain.specs.Domains.{DomainState}
use Rattle.epoch_domain.specs.Seats.{SeatState}
use Rattle.cell_finding.specs.Finding.{IsPast}
use Rattle.cell_finding.specs.Looking.{HasSeen}
use Rattle.cell_finding.proofs.Looks.{seen_holds, seen_object, seen_some}

-- PAYLOADS
pub payloads_same : (own after : OwnPart) (ss : List SlotId)
    → ((s : SlotId) → In s ss → after.objects s ≡ own.objects s)
    → payloads after ss ≡ payloads own ss
payloads_same own after [] same = refl
payloads_same own after (s ∷ ss) same =
    ap (λ (t : List ℕ). t ∷ payloads after ss) (ap payload_of (same s (inl refl)))
    ∙ ap (λ (ts : Text). payload_in own s ∷ ts) (payloads_same own after ss (λ r i. same r (inr i)))

-- it has what its region has seen
pub seen_all : {V : Type 0} (v : EpochSeatView V) (ss : List SlotId) → Each (HasSeen v.core) ss
    → HasAll (own_of v) ss
seen_all v ss seen =
    each_known (HasSeen v.core) (λ (s : SlotId). (own_of v).objects s ≢ None) ss
    (λ s i h. seen_some v s h) seen

-- a call that keeps what the region has seen keeps its payloads
module _ {V : Type 0} (makes adds : ℕ) (owned : List SlotId) (old new : SeatState V)
    (keeps : Keeps makes adds owned old new) (ss : List SlotId) (seen : Each (HasSeen old.view.core) ss) where
  pub seen_still : Each (HasSeen new.view.core) ss
  seen_still =
      each_known (HasSeen old.view.core) (HasSeen new.view.core) ss
      (λ s i h. let m = keeps.sees s in omega (arith, m, h)) seen

  pub payloads_still : payloads (own_of new.view) ss ≡ payloads (own_of old.view) ss
  payloads_still =
      payloads_same (own_of old.view) (own_of new.view) ss
      (λ s i.
      let before = each_in (HasSeen old.view.core) s ss i seen in
      let after = each_in (HasSeen new.view.core) s ss i seen_still in
      seen_object new.view s after
      ∙ (ap Some (keeps.knows s (seen_holds old.view.core s before)
      (seen_holds new.view.core s after))
      ∙ sym (seen_object old.view s before)))

-- WALKS. What was passed stays passed
pub past_still : (makes adds : ℕ) (owned : List SlotId) (old new : SeatState View) (text : Text)
    (c : ℕ) → Keeps makes adds owned old new → SawAll old.view.client new.view.client
    → IsPast old text c → IsPast new text c
past_still makes adds owned old new text c keeps saw past = (
  past.0,
  saw past.0 past.1,
  past.2,
  seen_still makes adds owned old new keeps past.0.slots past.3,
  subst (λ (ts : Text). NotPrefix ts text)
      (sym (payloads_still makes adds owned old new keeps past.0.slots past.3)) past.4,
)

pub past_walked : (d : DomainState CellLaw) (text : Text) (m : ℕ) (a : SeatState View)
    → ((j : ℕ) → j < m → IsPast a text (on (area_of d.protocol) text j))
    → Walked (area_of d.protocol) (own_of a.view) a.view.client text m
past_walked d text m a past j low =
    let p = past j low in
    (p.0, p.1, p.2, seen_all a.view p.0.slots p.3, p.4)

-- where one payload isn't the next one of the text
abbrev head_of : Text → List ℕ
head_of [] = []
head_of (t ∷ ts) = t

abbrev tail_of : Text → Text
tail_of [] = []
tail_of (t ∷ ts) = ts

not_prefix : (front rest more : Text) (payload other : List ℕ) → other ≢ payload
    → front ++ payload ∷ rest ≡ (front ++ other ∷ []) ++ more → ⊥
not_prefix [] rest more payload other ne e = ne (sym (ap head_of e))
not_prefix (t ∷ front) rest more payload other ne e =
    not_prefix front rest more payload other ne (ap tail_of e)

pub past_by : (a : SeatState View) (e : Sight) (front rest text : Text) (payload other : List ℕ)
    (c : ℕ) → In e a.view.client.seen → e.cell ≡ c → Each (HasSeen a.view.core) e.slots
    → payloads (own_of a.view) e.slots ≡ front ++ other ∷ [] → other ≢ payload
    → text ≡ front ++ payload ∷ rest → IsPast a text c
past_by a e front rest text payload other c inside at seen are ne begins = (
  e,
  inside,
  at,
  seen,
  λ more same. not_prefix front rest more payload other ne
      (sym begins ∙ (same ∙ ap (λ (ts : Text). ts ++ more) are)),
)
