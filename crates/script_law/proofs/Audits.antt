-- Audits of desks that are alike are written alike.
use Rattle.std.proofs.Common.{◌≡◌, ◌≢◌, inr, ⊎_elim, ℕ, ◌<◌, List, [], ◌∷◌, length, All, refl, ap, sym, ◌∙◌, subst, arith}
use Rattle.std.specs.Prelude.{map}
use Rattle.std.proofs.lemmas.List.Elements.{All-cons, All-head, All-nil, All-tail}
use Rattle.script_desk.specs.plain_state.declared.slot.PlainSlot.{PlainSlot}
use Rattle.script_desk.specs.plain_state.declared.slot.SlotId.{SlotId}
use Rattle.script_desk.specs.plain_state.declared.slot.Stage.{Stage}
use Rattle.script_desk.specs.plain_state.declared.slot.Stage.TheVariants.{Free, Blank, Live, Ended, Husk}
use Rattle.script_desk.specs.plain_state.State.{Plain, seat_at, slot_at, stage_at}
use Rattle.script_desk.proofs.Below.plain_state_Kit.{none_or_some}
use Rattle.script_desk.proofs.Below.plain_state_SeatRows.{is_there}
use Rattle.script_desk.specs.heap_audit.declared.finding.Audit.{Audit}
use Rattle.script_desk.specs.heap_audit.Heaps.{slot}
use Rattle.script_desk.specs.heap_audit.Paths.{Path}
use Rattle.script_desk.specs.heap_audit.Reached.{HowMany}
use Rattle.script_desk.specs.heap_audit.Walks.{GoesRound, IsFoundAmong, rank_of}
use Rattle.script_desk.proofs.Below.heap_audit_Alone.{one_walk_among}
use Rattle.script_desk.specs.plain_audit.Audits.{IsAudit, deferred_entries, if_live, live_bytes, live_slots}
use Rattle.script_desk.specs.plain_audit.Reached.{HasField, IsUnreached}
use Rattle.script_desk.specs.declared.said.Said.{Said}
use Rattle.script_desk.specs.declared.said.Shown.{Shown}
use Rattle.script_desk.specs.Audits.{AnswersAudit, AreRanks, Shows}
use Rattle.script_desk.specs.Desks.{Desk, Maker, maker_of}
use Rattle.script_desk.specs.Kinds.{script_weight}
use Rattle.script_law.specs.Desks.{DesksAlike}
use Rattle.script_law.specs.Orderly.{IsOrderly}
use Rattle.script_law.specs.Renamings.{IsRenaming}
use Rattle.script_law.specs.SaidAlike.{SaidAlike, ShownAlike}
use Rattle.script_law.specs.States.{SlotsAlike}
use Rattle.script_law.proofs.Counting.{as_many}
use Rattle.script_law.proofs.Counts.{entries_length}
use Rattle.script_law.proofs.Reaching.{field_back, field_renamed, unreached_back, unreached_renamed}
use Rattle.script_law.proofs.States.{seats_alike, slots_alike}
use Rattle.script_law.proofs.Walking.{found_renamed}

-- what is alive counts alike
weighs_alike : (to : SlotId → SlotId) (f : PlainSlot → ℕ) (x y : PlainSlot) → SlotsAlike to x y
    → (x.stage ≢ Free → f y ≡ f x) → if_live (f y) y.stage ≡ if_live (f x) x.stage
weighs_alike to f x y same weighs = of x.stage refl
  where
    of : (stage : Stage) → x.stage ≡ stage → if_live (f y) y.stage ≡ if_live (f x) x.stage
    of Live e =
        ap (λ (s : Stage). if_live (f y) s) (same.stage ∙ e) ∙ weighs (λ free. cc) ∙ sym (ap (λ (s : Stage). if_live (f x) s) e)
    of Free e = ap (λ (s : Stage). if_live (f y) s) (same.stage ∙ e) ∙ sym (ap (λ (s : Stage). if_live (f x) s) e)
    of Blank e = ap (λ (s : Stage). if_live (f y) s) (same.stage ∙ e) ∙ sym (ap (λ (s : Stage). if_live (f x) s) e)
    of Ended e = ap (λ (s : Stage). if_live (f y) s) (same.stage ∙ e) ∙ sym (ap (λ (s : Stage). if_live (f x) s) e)
    of Husk e = ap (λ (s : Stage). if_live (f y) s) (same.stage ∙ e) ∙ sym (ap (λ (s : Stage). if_live (f x) s) e)

abbrev IsAlive : Plain → SlotId → Type 0
IsAlive p s = stage_at p s ≡ Live

-- all of a walk are alive
path_alive : (p : Plain) (x : SlotId) (xs : List SlotId) (z : SlotId) → Path (HasField p) x xs z → All (IsAlive p) (x ∷ xs)
path_alive p x [] z holds = All-cons (IsAlive p) x [] holds.0 (All-nil (IsAlive p))
path_alive p x (y ∷ ys) z (holds, path) = All-cons (IsAlive p) x (y ∷ ys) holds.0 (path_alive p y ys z path)

round_alive : (p : Plain) (walk : List SlotId) → GoesRound (HasField p) walk → All (IsAlive p) walk
round_alive p [] round = absurd round
round_alive p (x ∷ xs) round = path_alive p x xs x round

module _ (to from : SlotId → SlotId) (d e : Desk) (r : IsRenaming (length d.plain.slots) to from) (alike : DesksAlike to d e)
    (k : IsOrderly d) (l : IsOrderly e) where
  live_alike : live_slots e.plain ≡ live_slots d.plain
  live_alike =
      slots_alike to from (length d.plain.slots) r d.plain e.plain refl alike.plain.size (λ x. if_live 1 x.stage) (λ x. if_live 1 x.stage)
      (λ s h. ap (if_live 1) (alike.plain.slots s).stage)

  bytes_alike : live_bytes script_weight e.plain ≡ live_bytes script_weight d.plain
  bytes_alike =
      slots_alike to from (length d.plain.slots) r d.plain e.plain refl alike.plain.size
      (λ x. if_live (script_weight x.payload) x.stage) (λ x. if_live (script_weight x.payload) x.stage)
      (λ s h. weighs_alike to (λ x. script_weight x.payload) (slot_at d.plain s) (slot_at e.plain (to s)) (alike.plain.slots s)
      (λ taken. ap script_weight ((alike.plain.slots s).payload taken)))

  waiting_alike : deferred_entries e.plain ≡ deferred_entries d.plain
  waiting_alike =
      seats_alike to from (length d.plain.slots) r d.plain e.plain refl alike.plain k.one l.one (λ v. length v.deferred) (λ v. length v.deferred)
      (entries_length to from r.back r.forth (seat_at d.plain 0).deferred (seat_at e.plain 0).deferred alike.plain.seat.deferred)

  -- the ranks of what is alive
  rank_alike : (ranks ranks' : List ℕ) → AreRanks d ranks → AreRanks e ranks' → (s : SlotId) → IsAlive d.plain s
      → rank_of ranks' (to s) ≡ rank_of ranks s
  rank_alike ranks ranks' are are' s live =
      let here : s.0 < length d.plain.slots = is_there d.plain s (λ f. cc) in
      let there : (to s).0 < length e.plain.slots = is_there e.plain (to s) (λ f. let g = (alike.plain.slots s).stage in cc) in
      are'.1 (to s) there ∙ ap (λ (m : Maker). m.number) (alike.makers s (λ f. cc)) ∙ sym (are.1 s here)

  distinct : (ranks : List ℕ) → AreRanks e ranks → (s t : SlotId) → IsUnreached e.plain s → IsUnreached e.plain t
      → rank_of ranks s ≡ rank_of ranks t → s ≡ t
  distinct ranks are s t un other same =
      let live = un.0 in
      let live' = other.0 in
      l.own s t (λ f. cc) (λ f. cc)
      (sym (are.1 s (is_there e.plain s (λ f. cc))) ∙ same ∙ are.1 t (is_there e.plain t (λ f. cc)))

  -- the names of a walk
  names_alike : (walk : List SlotId) → All (IsAlive d.plain) walk
      → map (λ s. (maker_of e s).name) (map to walk) ≡ map (λ s. (maker_of d s).name) walk
  names_alike [] all = refl
  names_alike (x ∷ xs) all =
      let live = All-head (IsAlive d.plain) x xs all in
      λ i. (ap (λ (m : Maker). m.name) (alike.makers x (λ f. cc)) i) ∷ (names_alike xs (All-tail (IsAlive d.plain) x xs all) i)

  module _ (found found' : Audit) (ranks ranks' : List ℕ) (are : AreRanks d ranks) (are' : AreRanks e ranks')
      (audit : IsAudit script_weight ranks d.plain found) (audit' : IsAudit script_weight ranks' e.plain found') where
    cyclic_alike : found'.cyclic ≡ found.cyclic
    cyclic_alike =
        as_many (length d.plain.slots) to from (IsUnreached d.plain) (IsUnreached e.plain) r
        (unreached_renamed to from d.plain e.plain r k.one l.one alike.plain)
        (unreached_back to from d.plain e.plain r k.one l.one alike.plain) found.cyclic found'.cyclic audit.cyclic
        (subst (λ (n : ℕ). HowMany (λ i. IsUnreached e.plain (slot i)) n found'.cyclic) alike.plain.size audit'.cyclic)

    walk_alike : map (λ s. (maker_of e s).name) found'.walk.items ≡ map (λ s. (maker_of d s).name) found.walk.items
    walk_alike =
        ⊎_elim
        (λ (none : found.cyclic ≡ 0).
        let a = audit.none none in
        let b = audit'.none (cyclic_alike ∙ none) in
        ap (map (λ s. (maker_of e s).name)) b ∙ sym (ap (map (λ s. (maker_of d s).name)) a))
        (λ (some : 0 < found.cyclic).
        let alive = round_alive d.plain found.walk.items (audit.round some) in
        let there : 0 < found'.cyclic = let c = cyclic_alike in omega arith in
        let moved : IsFoundAmong (IsUnreached e.plain) (HasField e.plain) ranks' (map to found.walk.items)
        = found_renamed to from r.back r.forth (IsUnreached d.plain) (IsUnreached e.plain) (IsAlive d.plain) (HasField d.plain) (HasField e.plain)
        ranks ranks' (unreached_renamed to from d.plain e.plain r k.one l.one alike.plain)
        (unreached_back to from d.plain e.plain r k.one l.one alike.plain)
        (field_renamed to from d.plain e.plain r k.one l.one alike.plain) (field_back to from d.plain e.plain r k.one l.one alike.plain)
        (λ s un. un.0) (rank_alike ranks ranks' are are') found.walk.items alive (audit.walk some) in
        let one = one_walk_among (IsUnreached e.plain) (HasField e.plain) ranks' (distinct ranks' are') found'.walk.items (map to found.walk.items)
        (audit'.walk there) moved in
        ap (map (λ s. (maker_of e s).name)) one ∙ names_alike found.walk.items alive)
        (none_or_some found.cyclic)

    shown_alike : (shown shown' : Shown) → Shows d found shown → Shows e found' shown' → ShownAlike shown shown'
    shown_alike shown shown' shows shows' = record {
      live = shows.live ∙ audit.live ∙ sym live_alike ∙ sym audit'.live ∙ sym shows'.live;
      deferred = shows.deferred ∙ audit.deferred ∙ sym waiting_alike ∙ sym audit'.deferred ∙ sym shows'.deferred;
      cyclic = shows.cyclic ∙ sym cyclic_alike ∙ sym shows'.cyclic;
      bytes = shows.bytes ∙ audit.bytes ∙ sym bytes_alike ∙ sym audit'.bytes ∙ sym shows'.bytes;
      walk = shows.walk ∙ sym walk_alike ∙ sym shows'.walk;
    }

  pub audits_alike : (a b : Said) → AnswersAudit d a → AnswersAudit e b → SaidAlike a b
  audits_alike a b (found, ranks, shown, are, audit, shows, is) (found', ranks', shown', are', audit', shows', is') =
      inr (shown, shown', is, is', shown_alike found found' ranks ranks' are are' audit audit' shown shown' shows shows')
