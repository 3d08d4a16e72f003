-- A domain as it is opened, and its seats.
use Rattle.std.proofs.Common.{◌≡◌, ℕ, suc, ◌+◌, ◌<◌, false, List, [], ◌∷◌, ◌++◌, length, refl, ap, sym, ◌∙◌, subst, arith}
use Rattle.std.specs.Prelude.{◌==◌, Option, Some, None, IsSome, if◌then◌else◌}
use Rattle.std.proofs.lemmas.Bool.Decides.{nat_tests}
use Rattle.atomic_table.specs.Seated.{TableId}
use Rattle.atomic_table.specs.Table.{Me, Splits, opening}
use Rattle.atomic_table.specs.declared.shared.Seat.{Seat as TableSeat}
use Rattle.plain_state.specs.State.{Plain}
use Rattle.domain_rule.specs.plain_protocol.Laws.{Starts}
use Rattle.core_promises.specs.core_events.declared.shape.Shape.{Shape}
use Rattle.core_promises.specs.core_events.Views.{Terms}
use Rattle.core_promises.specs.core_events.declared.shape.Quota.{Quota}
use Rattle.core_promises.specs.core_events.Runs.{AreTerms, IsShape}
use Rattle.core_promises.specs.core_events.Words.{each_from}
use Rattle.core_promises.specs.core_events.Words.{first_words, slot_at, word_count}
use Rattle.core_promises.proofs.Below.core_law_Starts.{start_sound}
use Rattle.core_promises.proofs.Below.core_law_Lists.{each_push}
use Rattle.domain_rule.specs.declared.view.SeatView.{SeatView}
use Rattle.domain_rule.specs.declared.view.Whole.{Whole}
use Rattle.domain_rule.specs.Opening.{first_of, opened_more, opened_view}
use Rattle.domain_rule.specs.Rule.{Kept}
use Rattle.domain_rule.proofs.Opens.{opens}
use Rattle.domain_rule.proofs.SeatLaws.{opened_law}
use Rattle.domain_rule.proofs.Splits.{splits}
use Rattle.acquire_retire.specs.Domains.{DomainState, IsDomain, StoredDomain}
use Rattle.acquire_retire.specs.Openings.{IsFirst, IsNew, begun_seat, newcomer}
use Rattle.acquire_retire.specs.Seats.{IsSeated, SeatState}

pub same_terms : (a b : List Quota) (g h : List ℕ) → a ≡ b → g ≡ h
    → ◌≡◌ {A = Terms} (record { quotas = a; grants = g }) (record { quotas = b; grants = h })
same_terms a b g h quotas grants = λ i. record { quotas = quotas i; grants = grants i }

-- a table with the first words is one of a domain
pub begun_domain : (z : Shape) (ts kept : Terms) (table : TableId) (key : Shape)
    (words grants : List ℕ) (first : ℕ) → IsShape z → AreTerms z ts → key ≡ z → kept ≡ ts
    → grants ≡ ts.grants → first ≡ slot_at z 0 → words ≡ first_words z
    → table.words ≡ length words → table.slots ≡ 0
    → IsDomain table key kept (record { shape = z; first_slot = first; grants = grants })
begun_domain z ts kept table key words grants first shape terms same same_terms own at are count
    none = record {
      shape = subst IsShape (sym same) shape;
      terms = subst (λ (t : Shape × Terms). AreTerms t.0 t.1)
          (λ i. (sym same i, sym same_terms i)) terms;
      same = sym same;
      first = at ∙ ap (λ (y : Shape). slot_at y 0) (sym same);
      grants = own ∙ sym (ap (λ (t : Terms). t.grants) same_terms);
      words = subst (λ (y : Shape). table.words ≡ word_count y) (sym same)
          (count ∙ (ap length are ∙ (start_sound z ts shape terms).words));
      slots = none;
    }

-- and the rule holds of it
pub begun_kept : {V : Type 0} (law : Plain → List V → Type 0) (first : ℕ → V) (gone : V)
    (fits : List ℕ → Type 0) (z : Shape) (ts kept : Terms) (words : List ℕ) → IsShape z
    → AreTerms z ts → kept ≡ ts → words ≡ first_words z → Starts law first
    → Kept law first gone fits z kept (opening words [] (first_of first z kept))
begun_kept law first gone fits z ts kept words shape terms same are starts =
    subst
    (λ (t : Terms × List ℕ). Kept law first gone fits z t.0 (opening t.1 [] (first_of first z t.0)))
    (λ i. (sym same i, sym are i)) (opens law first gone fits z ts shape terms starts)

-- a domain of one seat begins with one that knows the whole core
knows_one : (n : ℕ) (all : Whole) → n ≡ 1 → IsSome (if n == 1 then Some all else None)
knows_one n all one = rw one refl

-- a seat that was just opened is one
pub opened_seated : {V : Type 0} (first : ℕ → V) (z : Shape) (ts : Terms) (n opened : ℕ)
    → IsShape z → AreTerms z ts → n < z.seats
    → IsSeated (record (opened_view first z ts n) { opened = opened }, [])
opened_seated first z ts n opened shape terms there = record {
  carries = refl;
  here = refl;
  shape = shape;
  there = there;
  law = opened_law z ts n shape terms there;
  room = λ here. omega arith;
  granted = omega arith;
  knows = λ alone. knows_one z.seats _ (let a = alone.1 in omega arith);
}

-- the sizes of a domain are in their ranges
pub in_ranges : {P : Type 0} (d e : DomainState P) (kept : StoredDomain) → e ≡ d
    → IsDomain e.table e.shape e.terms kept → IsShape d.shape × AreTerms d.shape d.terms
in_ranges {P = P} d e kept same in_domain =
    subst (λ (x : DomainState P). IsShape x.shape × AreTerms x.shape x.terms) same
    (in_domain.shape, in_domain.terms)

module _ {P V : Type 0} where
  module _ (first : ℕ → V) (d : DomainState P)
      (ranges : IsShape d.shape × AreTerms d.shape d.terms) (n : ℕ) (s : TableSeat (Unit {0}) (SeatView V)) where
    pub first_seated : IsFirst first d n s → IsSeated s.me
    first_seated is = subst IsSeated (sym is.1)
        (opened_seated first d.shape d.terms 0 n ranges.0 ranges.1
        (let h = ranges.0.0 in omega arith))

    pub new_seated : n < d.shape.seats → IsNew first d n s → IsSeated s.me
    new_seated there is = subst IsSeated (sym is.1)
        (opened_seated first d.shape d.terms n 1 ranges.0 ranges.1 there)

  -- a seat other than seat 0 has counted none
  begun_later : (first : ℕ → V) (d : DomainState P) (n : ℕ) → 0 < n
      → begun_seat first d n
      ≡ record { table = d.table; view = opened_view first d.shape d.terms n }
  begun_later first d n later =
      let test : (n == 0) ≡ false = grind (arith, nat_tests) in rw test refl

  -- one more seat comes last
  pub one_more : (first : ℕ → V) (d : DomainState P) (n m k : ℕ)
      (s : TableSeat (Unit {0}) (SeatView V)) (x : SeatState V) (old new : List (SeatState V))
      → m ≡ 1 + n → k ≡ n + 1 → IsNew first d m s
      → x ≡ record { table = s.table_id; view = s.me.0 } → new ≡ old ++ x ∷ []
      → old ≡ each_from 1 n (begun_seat first d) → new ≡ each_from 1 k (begun_seat first d)
  one_more first d n m k s x old new at count is seen pushed before =
      let begun : x ≡ begun_seat first d m =
      seen ∙ ((λ i. record { table = is.0 i; view = (is.1 i).0 })
      ∙ sym (begun_later first d m (omega arith))) in
      pushed
      ∙ ((λ i. before i ++ (begun ∙ ap (begun_seat first d) at) i ∷ [])
      ∙ (sym (each_push 1 n (begun_seat first d))
      ∙ ap (λ (j : ℕ). each_from 1 j (begun_seat first d)) (let e : suc n ≡ k = omega arith in e)))

module _ {P V : Type 0} (law : P → Plain → List V → Type 0) (first : P → ℕ → V) (gone : V)
    (fits : List ℕ → Type 0) (d : DomainState P) (site : Option (DomainState P))
    (is : site ≡ Some d) (root : TableSeat (Unit {0}) (SeatView V))
    (begun : IsFirst (first d.protocol) d root.me.0.opened root) where
  -- what the table requires where seat 0 opens one more seat
  pub another_requires : root.me.0.opened < d.shape.seats → (e : DomainState P) → e ≡ d
      → (kept : StoredDomain) → IsDomain e.table e.shape e.terms kept
      → (root.table_id ≡ e.table) × (0 < e.table.words)
      × Splits (Kept (law e.protocol) (first e.protocol) gone fits e.shape e.terms) root.id root.me.0
      (opened_more root.me.0) (newcomer first site root.me.0)
  another_requires more e same kept in_domain =
      let T : DomainState P × Option (DomainState P) → Type 0 = λ x.
      Splits (Kept (law x.0.protocol) (first x.0.protocol) gone fits x.0.shape x.0.terms) root.id
      root.me.0 (opened_more root.me.0) (newcomer first x.1 root.me.0) in
      let count = in_domain.words in (
        begun.0 ∙ sym (ap (λ (x : DomainState P). x.table) same),
        omega arith,
        subst T (λ i. (sym same i, sym is i))
            (splits (law d.protocol) (first d.protocol) gone fits d.shape d.terms root.id root.me.0
            (ap (λ (m : Me (Unit {0}) (SeatView V)). m.0.gone) begun.1)
            (ap (λ (m : Me (Unit {0}) (SeatView V)). m.0.core.seat) begun.1) more),
      )
