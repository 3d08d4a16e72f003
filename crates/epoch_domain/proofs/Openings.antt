-- How a domain under epochs is opened: its table, and each of its seats.
use Rattle.std.proofs.Common.{◌≡◌, ℕ, suc, ◌+◌, ◌<◌, false, List, [], ◌∷◌, ◌++◌, length, map, refl, ap, sym, ◌∙◌, subst, arith}
use Rattle.std.specs.Prelude.{◌==◌, Option, Some, None, IsSome, if◌then◌else◌}
use Rattle.std.proofs.lemmas.List.{map-append}
use Rattle.std.proofs.lemmas.Bool.Decides.{nat_tests}
use Rattle.atomic_table.specs.Seated.{TableId}
use Rattle.atomic_table.specs.Table.{Me, Splits, opening}
use Rattle.atomic_table.specs.declared.shared.Seat.{Seat as TableSeat}
use Rattle.core_law.proofs.Lists.{each_push}
use Rattle.epoch_rule.specs.plain_protocol.plain_state.State.{Plain}
use Rattle.epoch_rule.specs.plain_protocol.Laws.{Starts}
use Rattle.epoch_rule.specs.epoch_core.core_events.declared.shape.Quota.{Quota}
use Rattle.epoch_rule.specs.epoch_core.core_events.Words.{each_from}
use Rattle.epoch_rule.specs.epoch_core.declared.shape.EpochShape.{EpochShape}
use Rattle.epoch_rule.specs.epoch_core.Runs.{AreQuotas, IsShape}
use Rattle.epoch_rule.specs.epoch_core.Words.{first_words, slot_at, word_count}
use Rattle.epoch_rule.specs.declared.view.EpochSeatView.{EpochSeatView}
use Rattle.epoch_rule.specs.declared.view.EpochWhole.{EpochWhole}
use Rattle.epoch_rule.specs.Opening.{first_of, opened_more, opened_view}
use Rattle.epoch_rule.specs.Rule.{Kept}
use Rattle.epoch_core.proofs.Starts.{start_sound}
use Rattle.epoch_rule.proofs.Opens.{opens}
use Rattle.epoch_rule.proofs.SeatLaws.{opened_law}
use Rattle.epoch_rule.proofs.Splits.{splits}
use Rattle.epoch_domain.specs.Domains.{DomainState, IsDomain, StoredDomain}
use Rattle.epoch_domain.specs.Openings.{IsFirst, IsNew, begun_seat, newcomer, without_room}
use Rattle.epoch_domain.specs.Seats.{IsSeated, SeatState}

-- a table with the first words is one of a domain
pub begun_domain : (z key : EpochShape) (qs kept : List Quota) (table : TableId) (words : List ℕ)
    (first : ℕ) → IsShape z → AreQuotas z qs → key ≡ z → kept ≡ qs → first ≡ slot_at z 0
    → words ≡ first_words z → table.words ≡ length words → table.slots ≡ 0
    → IsDomain table key kept (record { shape = z; first_slot = first })
begun_domain z key qs kept table words first shape quotas same same_quotas at are count none = record {
  shape = subst IsShape (sym same) shape;
  quotas = subst (λ (t : EpochShape × List Quota). AreQuotas t.0 t.1)
      (λ i. (sym same i, sym same_quotas i)) quotas;
  same = sym same;
  first = at ∙ ap (λ (y : EpochShape). slot_at y 0) (sym same);
  words = subst (λ (y : EpochShape). table.words ≡ word_count y) (sym same)
      (count ∙ (ap length are ∙ (start_sound z qs shape quotas).words));
  slots = none;
}

-- and the rule holds of it
pub begun_kept : {V : Type 0} (law : Plain → List V → Type 0) (first : ℕ → V) (gone : V)
    (fits : List ℕ → Type 0) (z : EpochShape) (qs kept : List Quota) (words : List ℕ) → IsShape z
    → AreQuotas z qs → kept ≡ qs → words ≡ first_words z → Starts law first
    → Kept law first gone fits z kept (opening words [] (first_of first z kept))
begun_kept law first gone fits z qs kept words shape quotas same are starts =
    subst
    (λ (t : List Quota × List ℕ). Kept law first gone fits z t.0 (opening t.1 [] (first_of first z t.0)))
    (λ i. (sym same i, sym are i)) (opens law first gone fits z qs shape quotas starts)

-- a domain of one seat begins with one that knows the whole core
knows_one : (n : ℕ) (all : EpochWhole) → n ≡ 1 → IsSome (if n == 1 then Some all else None)
knows_one n all one = rw one refl

-- a seat that was just opened is one
pub opened_seated : {V : Type 0} (first : ℕ → V) (z : EpochShape) (qs : List Quota) (n opened : ℕ)
    → IsShape z → AreQuotas z qs → n < z.seats
    → IsSeated (record (opened_view first z qs n) { opened = opened }, [])
opened_seated first z qs n opened shape quotas there = record {
  carries = refl;
  here = refl;
  shape = shape;
  there = there;
  law = opened_law z qs n shape quotas there;
  root = λ _. refl;
  knows = λ alone. knows_one z.seats _ (let a = alone.1 in omega arith);
}

-- the sizes of a domain are in their ranges
pub in_ranges : {P : Type 0} (d e : DomainState P) (kept : StoredDomain) → e ≡ d
    → IsDomain e.table e.shape e.quotas kept → IsShape d.shape × AreQuotas d.shape d.quotas
in_ranges {P = P} d e kept same in_domain =
    subst (λ (x : DomainState P). IsShape x.shape × AreQuotas x.shape x.quotas) same
    (in_domain.shape, in_domain.quotas)

module _ {P V : Type 0} where
  module _ (first : ℕ → V) (d : DomainState P)
      (ranges : IsShape d.shape × AreQuotas d.shape d.quotas) (n : ℕ)
      (s : TableSeat (Unit {0}) (EpochSeatView V)) where
    pub first_seated : IsFirst first d n s → IsSeated s.me
    first_seated is = subst IsSeated (sym is.1)
        (opened_seated first d.shape d.quotas 0 n ranges.0 ranges.1
        (let h = ranges.0.0 in omega arith))

    pub new_seated : n < d.shape.seats → IsNew first d n s → IsSeated s.me
    new_seated there is = subst IsSeated (sym is.1)
        (opened_seated first d.shape d.quotas n 1 ranges.0 ranges.1 there)

  -- a seat other than seat 0 has counted none
  begun_later : (first : ℕ → V) (d : DomainState P) (n : ℕ) → 0 < n
      → begun_seat first d n
      ≡ record { table = d.table; view = opened_view first d.shape d.quotas n; room = 0 }
  begun_later first d n later =
      let test : (n == 0) ≡ false = grind (arith, nat_tests) in rw test refl

  -- one more seat comes last
  pub one_more : (first : ℕ → V) (d : DomainState P) (n m k : ℕ)
      (s : TableSeat (Unit {0}) (EpochSeatView V)) (x : SeatState V) (old new : List (SeatState V))
      → m ≡ 1 + n → k ≡ n + 1 → IsNew first d m s
      → without_room x ≡ record { table = s.table_id; view = s.me.0; room = 0 }
      → new ≡ old ++ x ∷ [] → map without_room old ≡ each_from 1 n (begun_seat first d)
      → map without_room new ≡ each_from 1 k (begun_seat first d)
  one_more first d n m k s x old new at count is seen pushed before =
      let begun : without_room x ≡ begun_seat first d m =
      seen ∙ ((λ i. record { table = is.0 i; view = (is.1 i).0; room = 0 })
      ∙ sym (begun_later first d m (omega arith))) in
      ap (map without_room) pushed
      ∙ (map-append without_room old (x ∷ [])
      ∙ ((λ i. before i ++ (begun ∙ ap (begun_seat first d) at) i ∷ [])
      ∙ (sym (each_push 1 n (begun_seat first d))
      ∙ ap (λ (j : ℕ). each_from 1 j (begun_seat first d)) (let e : suc n ≡ k = omega arith in e))))

module _ {P V : Type 0} (law : P → Plain → List V → Type 0) (first : P → ℕ → V) (gone : V)
    (fits : List ℕ → Type 0) (d : DomainState P) (site : Option (DomainState P))
    (is : site ≡ Some d) (root : TableSeat (Unit {0}) (EpochSeatView V))
    (begun : IsFirst (first d.protocol) d root.me.0.opened root) where
  -- what the table requires where seat 0 opens one more seat
  pub another_requires : root.me.0.opened < d.shape.seats → (e : DomainState P) → e ≡ d
      → (kept : StoredDomain) → IsDomain e.table e.shape e.quotas kept
      → (root.table_id ≡ e.table) × (0 < e.table.words)
      × Splits (Kept (law e.protocol) (first e.protocol) gone fits e.shape e.quotas) root.id root.me.0
      (opened_more root.me.0) (newcomer first site root.me.0)
  another_requires more e same kept in_domain =
      let T : DomainState P × Option (DomainState P) → Type 0 = λ x.
      Splits (Kept (law x.0.protocol) (first x.0.protocol) gone fits x.0.shape x.0.quotas) root.id
      root.me.0 (opened_more root.me.0) (newcomer first x.1 root.me.0) in
      let count = in_domain.words in (
        begun.0 ∙ sym (ap (λ (x : DomainState P). x.table) same),
        omega arith,
        subst T (λ i. (sym same i, sym is i))
            (splits (law d.protocol) (first d.protocol) gone fits d.shape d.quotas root.id root.me.0
            (ap (λ (m : Me (Unit {0}) (EpochSeatView V)). m.0.gone) begun.1)
            (ap (λ (m : Me (Unit {0}) (EpochSeatView V)). m.0.core.seat) begun.1) more),
      )
