-- What an audit of the heap tells of the desk.
use Rattle.std.proofs.Common.{◌≡◌, ⊎_elim, ℕ, ◌<◌, List, [], ◌∷◌, length, map, refl, ap, sym, ◌∙◌, subst, arith, All}
use Rattle.std.proofs.lemmas.Bool.{cases_lt}
use Rattle.std.proofs.lemmas.List.{get_or_past}
use Rattle.std.proofs.lemmas.List.Elements.{All-cons}
use Rattle.plain_audit.specs.heap_audit.declared.finding.Audit.{Audit}
use Rattle.plain_audit.specs.heap_audit.Paths.{Path}
use Rattle.plain_audit.specs.heap_audit.Walks.{GoesRound}
use Rattle.plain_audit.specs.Audits.{IsAudit}
use Rattle.plain_audit.specs.Reached.{HasField}
use Rattle.plain_audit.specs.plain_state.declared.slot.SlotId.{SlotId}
use Rattle.plain_audit.specs.plain_state.declared.slot.PlainSlot.{PlainSlot}
use Rattle.plain_audit.specs.plain_state.declared.slot.Stage.TheVariants.{Free, Live}
use Rattle.plain_audit.specs.plain_state.State.{Plain, new_slot, stage_at}
use Rattle.plain_audit.proofs.Below.plain_state_Kit.{none_or_some}
use Rattle.script_desk.specs.declared.said.Said.TheVariants.{Audited}
use Rattle.script_desk.specs.declared.said.Shown.{Shown}
use Rattle.script_desk.specs.Audits.{AreRanks, Shows, AnswersAudit}
use Rattle.script_desk.specs.Desks.{Desk, Names, Maker, maker_at, maker_of}
use Rattle.script_desk.specs.Kinds.{script_weight}
use Rattle.script_desk.proofs.Naming.{desk_of}

abbrev pub IsThere : Plain → SlotId → Type 0
IsThere p s = s.0 < length p.slots

-- what is alive is there
live_there : (p : Plain) (s : SlotId) → stage_at p s ≡ Live → IsThere p s
live_there p s live =
    ⊎_elim
    (λ lt. lt)
    (λ le. let free : stage_at p s ≡ Free = ap (λ (x : PlainSlot). x.stage) (get_or_past p.slots s.0 new_slot le) in cc)
    (cases_lt s.0 (length p.slots))

path_there : (p : Plain) (x : SlotId) (xs : List SlotId) (z : SlotId) → Path (HasField p) x xs z → All (IsThere p) (x ∷ xs)
path_there p x [] z holds = All-cons (IsThere p) x [] (live_there p x holds.0) (λ k d lt. absurd (omega arith))
path_there p x (y ∷ ys) z (holds, path) = All-cons (IsThere p) x (y ∷ ys) (live_there p x holds.0) (path_there p y ys z path)

round_there : (p : Plain) (walk : List SlotId) → GoesRound (HasField p) walk → All (IsThere p) walk
round_there p [] round = absurd round
round_there p (x ∷ xs) round = path_there p x xs x round

-- the slots of the walk are there
pub walk_there : (p : Plain) (ranks : List ℕ) (found : Audit) → IsAudit script_weight ranks p found → All (IsThere p) found.walk.items
walk_there p ranks found audit =
    ⊎_elim
    (λ (z : found.cyclic ≡ 0). subst (All (IsThere p)) (sym (audit.none z)) (λ k d lt. absurd (omega arith)))
    (λ (some : 0 < found.cyclic). round_there p found.walk.items (audit.round some))
    (none_or_some found.cyclic)

-- they have makers, where each slot has one
pub walk_made : (p : Plain) (made read : List Maker) → length made ≡ length p.slots → read ≡ made
    → (ranks : List ℕ) (found : Audit) (walk : List SlotId) → IsAudit script_weight ranks p found
    → walk ≡ found.walk.items → All (λ s. s.0 < length read) walk
walk_made p made read size same ranks found walk audit items =
    subst (λ (x : ℕ × List SlotId). All (λ s. s.0 < x.0) x.1)
    (λ j. (sym (ap length same ∙ size) j, sym items j)) (walk_there p ranks found audit)

-- which are those of the desk
pub walk_named : (d : Desk) (made read : List Maker) (walk found : List SlotId)
    (names : List (List ℕ)) → made ≡ d.makers → read ≡ made → walk ≡ found
    → names ≡ map (λ s. (maker_at read s).name) walk
    → names ≡ map (λ s. (maker_of d s).name) found
walk_named d made read walk found names own same items are =
    are ∙ (λ j. map (λ (s : SlotId). (maker_at ((same ∙ own) j) s).name) (items j))

module _ (p : Plain) (names : Names) (made : List Maker) (makes : ℕ) (d : Desk) (is : desk_of p names made makes ≡ d) where
  pub audit_told : (found : Audit) (ranks read : List ℕ) (shown : Shown) → AreRanks d ranks → read ≡ ranks → IsAudit script_weight read p found
      → Shows d found shown → AnswersAudit d (Audited shown)
  audit_told found ranks read shown are same audit shows =
      let known : IsAudit script_weight ranks d.plain found
      = subst (λ (x : Desk). IsAudit script_weight ranks x.plain found) is (subst (λ (rs : List ℕ). IsAudit script_weight rs p found) same audit) in
      (found, ranks, shown, are, known, shows, refl)
