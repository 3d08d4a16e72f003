-- A reference that is copied before it is pushed.
use Rattle.std.proofs.Common.{◌≡◌, ◌⊎◌, inl, inr, ⊎_elim, ℕ, ◌<◌, List, [], ◌∷◌, ◌++◌, refl, sym, ap, subst, ◌∙◌, arith, ◌≤◌, ◌+◌}
use Rattle.std.specs.Prelude.{Err, Ok, OnErr, OnOk, Result}
use Rattle.std.specs.List.{flat_map}
use Rattle.std.proofs.lemmas.List.{append-nil, flat_map_more}
use Rattle.control_word.specs.plain_state.Lists.{times}
use Rattle.control_word.specs.core_events.Views.{without}
use Rattle.hand_queues.proofs.Below.protected_loads_Telling.{holds_has}
use Rattle.words_protocol.specs.directory_law.Bytes.{text_bytes}
use Rattle.weak_intern.specs.directory_calls.Directories.{HasQuota}
use Rattle.hand_queues.specs.linked_queue.Queues.{IsAttached}
use Rattle.hand_queues.specs.slot_store.declared.making.MakeError.{MakeError}
use Rattle.words_protocol.specs.words_law.Known.{ForgetsNothing}
use Rattle.lane_files.specs.Passed.{Counts, UsesInterns}
use Rattle.lane_files.specs.Whys.{IsWhyCopyStays, IsWhyNotOffered, OnlyDrops}
use Rattle.control_word.specs.plain_state.declared.slot.SlotId.{SlotId}
use Rattle.control_word.specs.acquire_retire.Calls.{IsSameView, same_view}
use Rattle.control_word.specs.acquire_retire.Domains.{DomainState}
use Rattle.control_word.specs.acquire_retire.Seats.{SeatState}
use Rattle.control_word.specs.Calls.{DropsStrong, GainsStrong, dropped_by, with_strong, without_strong}
use Rattle.control_word.specs.Moves.{KnowsStill}
use Rattle.control_word.specs.core_events.Steps.{HasRoom}
use Rattle.control_word.specs.Resting.{IsAtRest, IsSpent}
use Rattle.weak_intern.proofs.Below.directory_calls_Going.{leaves_core}
use Rattle.words_protocol.specs.directory_law.declared.view.Ran.{Ran}
use Rattle.words_protocol.specs.directory_law.Payloads.{IsText, Text}
use Rattle.words_protocol.specs.directory_law.Views.{In, rope}
use Rattle.control_word.specs.domain_rule.Views.{object_in}
use Rattle.weak_intern.specs.Knowing.{Knows}
use Rattle.words_protocol.specs.words_law.Views.{View}
use Rattle.words_protocol.specs.declared.law.WordsLaw.{WordsLaw}
use Rattle.lane_files.specs.Ready.{IsReady, Owns, Shared}
use Rattle.lane_files.proofs.SeatsKept.{gave_item, owns_back, owns_by, ready_by, uses_none, uses_then}
use Rattle.control_word.specs.core_events.declared.view.CoreView.{CoreView}
use Rattle.control_word.specs.core_events.declared.view.Move.{Move}
use Rattle.lane_files.proofs.Offered.{texts}

-- what a seat knows of the text of s, by its view and by the life and the payload of s
abbrev pub KnowsAs : SlotId → Text → View → ℕ → List ℕ → Type 0
KnowsAs s text v life payload =
    In (rope s life text) v.1.kept
    ⊎ (((c : ℕ) × In (record { cell = c; slot = s; life = life; head = payload }) v.1.seen)
    × (e : Ran) × In e v.1.ran × (e.slot ≡ s) × (e.life ≡ life) × (e.before ≡ text) × IsText text)

pub knows_on : (s : SlotId) (text : Text) (a b : SeatState View)
    → b.view.client ≡ a.view.client → object_in b.view s ≡ object_in a.view s
    → Knows texts s text a → Knows texts s text b
knows_on s text a b same object known =
    subst (λ (v : View). KnowsAs s text v (object_in b.view s).life (object_in b.view s).payload)
    (sym same)
    (subst (λ o. KnowsAs s text a.view.client o.life o.payload) (sym object) known)

-- and so after calls that forgot nothing, where it still has the same object in s
pub knows_still : (s : SlotId) (text : Text) (a b : SeatState View)
    → ForgetsNothing a.view.client.1 b.view.client.1 → object_in b.view s ≡ object_in a.view s
    → Knows texts s text a → Knows texts s text b
knows_still s text a b more object known =
    subst (λ o. KnowsAs s text b.view.client o.life o.payload) (sym object)
    (⊎_elim
    (λ bound. inl (more.knows.kept _ bound))
    (λ saw. inr (
      (saw.0.0, more.saw _ saw.0.1),
      saw.1,
      more.knows.ran _ saw.2,
      saw.3,
      saw.4,
      saw.5,
      saw.6,
    ))
    known)

pub owns_copy : (fits : List ℕ → Type 0) (d : DomainState WordsLaw) (s t : SlotId) → t ≡ s
    → (a b : SeatState View)
    → GainsStrong fits d same_view IsSameView s a b → KnowsStill a.view.core a b
    → Owns (a.view.core.owned ++ t ∷ []) a b
owns_copy fits d s t is a b gains knows =
    subst (λ x. Owns (a.view.core.owned ++ x ∷ []) a b) (sym is)
    (owns_by a b (leaves_core a b (with_strong s a.view.core) _ gains.core refl knows))

pub copy_ready : {d : DomainState WordsLaw} {on : Shared} {os : List SlotId} (a b : SeatState View)
    → IsReady d on a → Owns os a b → b.view.client ≡ a.view.client → HasRoom b.view.core
    → IsAtRest d b → IsReady d on b
copy_ready a b ready owns same room rest =
    ready_by a b ready owns room rest
    (subst (λ (v : View). IsAttached v.0) (sym same) ready.attached)
    (subst (λ (v : View). HasQuota v.1) (sym same) ready.quota)

-- a seat that owns s knows of it what it knew
pub owned_same : (s : SlotId) (a b : SeatState View) → 0 < times s a.view.core.owned
    → KnowsStill a.view.core a b → object_in b.view s ≡ object_in a.view s
owned_same s a b own knows = knows s (holds_has a.view.core s (omega (arith, own)))

-- the text that it knows of s it knows of the copy
pub copy_known : (s t : SlotId) → t ≡ s → (text : Text) (a b : SeatState View)
    → 0 < times s a.view.core.owned → b.view.client ≡ a.view.client → KnowsStill a.view.core a b
    → Knows texts s text a → Knows texts t text b
copy_known s t is text a b own same knows known =
    subst (λ (x : SlotId). Knows texts x text b) (sym is)
    (knows_on s text a b same (owned_same s a b own knows) known)

-- it was pushed
pub copy_counts : {T E : Type 0} (s t : SlotId) → t ≡ s → (a b c : SeatState View) (r : Result T E)
    (done : T) → r ≡ Ok done → 0 < times s a.view.core.owned → b.view.client ≡ a.view.client
    → KnowsStill a.view.core a b
    → OnOk r ((text : Text) → Knows texts t text b
    → Counts (text_bytes text ∷ []) [] b.view.client c.view.client)
    → (text : Text) → Knows texts s text a
    → Counts (text_bytes text ∷ []) [] a.view.client c.view.client
copy_counts s t is a b c r done ok own same knows counts text known =
    let got = subst (λ x. OnOk x ((u : Text) → Knows texts t u b
    → Counts (text_bytes u ∷ []) [] b.view.client c.view.client)) ok counts in
    subst (λ (v : View). Counts (text_bytes text ∷ []) [] v c.view.client) same
    (got text (copy_known s t is text a b own same knows known))

pub copy_owns : {T E : Type 0} (t : SlotId) (a b c : SeatState View) (r : Result T E) (done : T)
    → r ≡ Ok done → Owns (a.view.core.owned ++ t ∷ []) a b
    → OnOk r (Owns (without t b.view.core.owned) b c) → Owns a.view.core.owned a c
copy_owns t a b c r done ok first second =
    owns_back t a.view.core.owned a b c first
    (subst (λ x. OnOk x (Owns (without t b.view.core.owned) b c)) ok second) (λ x. refl)

-- it was handed back and given up
pub back_owns : {T E : Type 0} (fits : List ℕ → Type 0) (d : DomainState WordsLaw) (t u : SlotId)
    (a b c e : SeatState View) (r : Result T E) (error : E) → r ≡ Err error → u ≡ t
    → 0 < times t b.view.core.owned → Owns (a.view.core.owned ++ t ∷ []) a b
    → OnErr r (Owns b.view.core.owned b c) → DropsStrong fits d u c e
    → KnowsStill (without_strong u c.view.core) c e → Owns a.view.core.owned a e
back_owns fits d t u a b c e r error bad is own first kept drops knows =
    let mid = subst (λ x. OnErr x (Owns b.view.core.owned b c)) bad kept in
    let last = gave_item fits d u u refl b c e mid drops knows
    (subst (λ (x : SlotId). 0 < times x b.view.core.owned) (sym is) own) in
    owns_back t a.view.core.owned a b e first
    (subst (λ (x : SlotId). Owns (without x b.view.core.owned) b e) is last) (λ x. refl)

-- DROPS of references to one slot, one after the other
pub no_drop : (s : SlotId) (a : SeatState View) → OnlyDrops s a a
no_drop s a = ([], sym (append-nil a.view.core.trail))

pub drop_then : (fits : List ℕ → Type 0) (d : DomainState WordsLaw) (s t : SlotId) → t ≡ s
    → (a b c : SeatState View) → OnlyDrops s a b → DropsStrong fits d t b c → OnlyDrops s a c
drop_then fits d s t is a b c first drops =
    let how = drops.0 in
    let more = ap (λ (v : CoreView). v.trail) drops.1.core in
    let all = ap (λ (ms : List Move). ms ++ dropped_by t how) first.1 in
    let same = ap (λ (x : SlotId). (a.view.core.trail ++ flat_map (dropped_by s) first.0) ++ dropped_by x how)
    is in (
      first.0 ++ how ∷ [],
      more ∙ all ∙ same ∙ flat_map_more (dropped_by s) a.view.core.trail first.0 how,
    )

pub copy_stays : (fits : List ℕ → Type 0) (d : DomainState WordsLaw) (s : SlotId)
    (a b c e : SeatState View) → GainsStrong fits d same_view IsSameView s a b → (why : MakeError)
    → IsWhyNotOffered fits d why b c → OnlyDrops s c e → (IsSpent c.view.core → IsSpent e.view.core)
    → IsWhyCopyStays fits d s why a e
copy_stays fits d s a b c e gains why not ends spent = record {
  copied = b;
  refused = c;
  copies = gains;
  not_offered = not;
  ends = ends;
  spent = spent;
}

-- MAKES AND ADDS of a copy, a push and a drop
copied_adds : (fits : List ℕ → Type 0) (d : DomainState WordsLaw) (s : SlotId) (a b : SeatState View)
    → GainsStrong fits d same_view IsSameView s a b
    → (b.view.core.adds ≡ a.view.core.adds + 1) × (b.view.core.makes ≡ a.view.core.makes)
copied_adds fits d s a b gains =
    (ap (λ (v : CoreView). v.adds) gains.core, ap (λ (v : CoreView). v.makes) gains.core)

module _ (fits : List ℕ → Type 0) (d : DomainState WordsLaw) (s : SlotId) (a b c : SeatState View)
    (gains : GainsStrong fits d same_view IsSameView s a b) where
  pub copy_adds : b.view.core.adds ≤ c.view.core.adds → a.view.core.adds ≤ c.view.core.adds
  copy_adds more = let one = (copied_adds fits d s a b gains).0 in omega arith

  pub copy_makes : c.view.core.makes ≤ b.view.core.makes + 1
      → c.view.core.makes ≤ a.view.core.makes + 1
  copy_makes few = let none = (copied_adds fits d s a b gains).1 in omega arith

-- no intern is used between a copy and a drop
pub copy_interns : (a b c e : SeatState View) → b.view.client ≡ a.view.client
    → UsesInterns 0 b.view.client c.view.client → e.view.client ≡ c.view.client
    → UsesInterns 0 a.view.client e.view.client
copy_interns a b c e first uses last =
    uses_then 0 0 a.view.client c.view.client e.view.client
    (uses_then 0 0 a.view.client b.view.client c.view.client
    (uses_none a.view.client b.view.client (ap texts first)) uses)
    (uses_none c.view.client e.view.client (ap texts last))
