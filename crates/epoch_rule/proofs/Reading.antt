-- A seat keeps the rule where it reads a word, and may come to know the whole core.
use Rattle.std.proofs.Common.{◌≡◌, ◌⊎◌, inl, inr, ⊎_elim, ℕ, ◌+◌, false, List, length, set, refl, ap, sym, ◌∙◌, subst, arith}
use Rattle.std.specs.Prelude.{◌↔◌, slice_index, Option, Some, None, IsSome}
use Rattle.std.proofs.lemmas.List.{length-set, set-get_or}
use Rattle.std.proofs.lemmas.Bool.{cases_eq}
use mathlib.Core.Option.{some}
use lib.ListN.{get_elem?}
use Rattle.atomic_table.specs.Table.{Act, State, Me, Allows, Valid, carried_after, keeps, stepped}
use Rattle.plain_protocol.specs.plain_state.State.{Plain}
use Rattle.epoch_core.specs.declared.shape.EpochShape.{EpochShape}
use Rattle.core_law.specs.core_events.declared.shape.Quota.{Quota}
use Rattle.epoch_core.specs.declared.view.EpochView.{EpochView}
use Rattle.epoch_core.specs.Runs.{Core, view_at}
use Rattle.epoch_core.specs.Shows.{shows}
use Rattle.epoch_rule.specs.declared.view.EpochWhole.{EpochWhole}
use Rattle.epoch_rule.specs.declared.view.EpochSeatView.{EpochSeatView}
use Rattle.epoch_rule.specs.Reading.{FoundIn, HasRead}
use Rattle.epoch_rule.specs.Rule.{IsTrueOf, Kept, OthersLeft}
use Rattle.epoch_rule.specs.Views.{core_in, whole_of, IsAlone}
use Rattle.domain_rule.proofs.Telling.{set_all}
use Rattle.epoch_rule.proofs.Counting.{others_left}
use Rattle.epoch_rule.proofs.Padding.{clients_same}
use Rattle.epoch_rule.proofs.Telling.{kept_sound, in_seats, number_of, true_of, tells_here, set_left, set_pasts, set_tells}

alone_cases : {V : Type 0} (v : EpochSeatView V) → IsAlone v ⊎ (IsAlone v → ⊥)
alone_cases v = ⊎_elim
    (λ first. ⊎_elim (λ all. inl (first, all)) (λ some. inr (λ alone. some alone.1))
    (cases_eq (length v.core.left_seats + 1) v.core.shape.seats))
    (λ other. inr (λ alone. other alone.0))
    (cases_eq v.core.seat 0)

-- what is known is that
pub known_is : (known : Option EpochWhole) (Fact : Type 0) → ((all : EpochWhole) → known ≡ Some all → Fact)
    → IsSome known → Fact
known_is None Fact then is = absurd (cc (is))
known_is (Some all) Fact then is = then all refl

module _ {V : Type 0} (law : Plain → List V → Type 0) (first : ℕ → V) (gone : V)
    (fits : List ℕ → Type 0) (z : EpochShape) (qs : List Quota) (slots id word : ℕ)
    (me : Me (Unit {0}) (EpochSeatView V))
    (here : me.0.gone ≡ false) where
  -- what the load tells
  abbrev Then : ℕ → Me (Unit {0}) (EpochSeatView V) → Type 0
  Then w m = HasRead fits z qs word w me.0 m.0 × (m.1 ≡ me.1)

  module _ (s : State (Unit {0}) (EpochSeatView V)) (k : Kept law first gone fits z qs s)
      (at : get_elem? s.views id ≡ some me.0) where
    before : IsTrueOf z k.core id me.0
    before = true_of z qs s k id me.0 at here

    number : me.0.core.seat ≡ id
    number = number_of z qs s k id me.0 at here

    seats : me.0.core.shape.seats ≡ z.seats
    seats =
        let shape = ((kept_sound z qs s k).seats id (in_seats z qs s k id me.0 at)).same_shape in
        ap (λ (u : EpochView). u.shape.seats) before.core ∙ ap (λ (y : EpochShape). y.seats) shape

    -- what the history says of seat 0's trails, it says of a seat that is seat 0
    trails : id ≡ 0 → length me.0.core.left_seats ≡ length (view_at k.core 0).left_seats
    trails root = ap (λ (u : EpochView). length u.left_seats) before.core
        ∙ ap (λ (n : ℕ). length (view_at k.core n).left_seats) root

    history_tells : OthersLeft k.core ↔ (length (view_at k.core 0).left_seats + 1 ≡ z.seats)
    history_tells = others_left z qs k.events k.core k.shape k.quotas k.history

    others : IsAlone me.0 → OthersLeft k.core
    others alone =
        let root : id ≡ 0 = sym number ∙ alone.0 in
        let t = trails root in
        let e = seats in
        let a = alone.1 in
        history_tells.1 (omega arith)

    alone_if : id ≡ 0 → OthersLeft k.core → IsAlone me.0
    alone_if root left =
        let t = trails root in
        let e = seats in
        let h = history_tells.0 left in
        let n = number in (omega arith, omega arith)

    -- what the table asks of a load
    abbrev Reads : Type 0
    Reads = (v : EpochSeatView V) × (a : Act (Unit {0})) × Valid s.homes me.1 a
        × Kept law first gone fits z qs (stepped s word (slice_index s.words word) id me.1 v a)
        × Then (slice_index s.words word) (v, carried_after me.1 a)

    -- the seat knows so much of the whole core from here on
    module _ (whole : Option EpochWhole)
        (is_so : (all : EpochWhole) → whole ≡ Some all → (core_in all ≡ k.core) × (id ≡ 0)
        × OthersLeft k.core) where
      abbrev told : EpochSeatView V
      told = record me.0 { whole = whole }

      told_true : IsTrueOf z k.core id told
      told_true = record { core = before.core; objects = before.objects; cleared = before.cleared; whole = is_so }

      abbrev after : State (Unit {0}) (EpochSeatView V)
      after = stepped s word (slice_index s.words word) id me.1 told keeps

      root_stays : (u : EpochSeatView V) → get_elem? (set s.views id told) 0 ≡ some u
          → (u.gone ≡ false) × (u.opened ≡ length (set s.views id told))
      root_stays u e =
          let l = length-set s.views id told in
          set_all (λ n t. n ≡ 0 → (t.gone ≡ false) × (t.opened ≡ length (set s.views id told)))
          s.views id told
          (λ root. (
            here,
            (k.root me.0
                (subst (λ (n : ℕ). get_elem? s.views n ≡ some me.0) root at)).1 ∙ sym l,
          ))
          (λ n t ne found root. let old = k.root t
          (subst (λ (n : ℕ). get_elem? s.views n ≡ some t) root found) in
          (old.0, old.1 ∙ sym l)) 0 u e refl

      kept : Kept law first gone fits z qs after
      kept =
          let l = length-set s.views id told in
          let f = k.few in record {
            shape = k.shape;
            quotas = k.quotas;
            events = k.events;
            core = k.core;
            history = k.history;
            words = set-get_or s.words word 0 ∙ k.words;
            few = (omega arith, omega arith);
            tells = set_tells z k.core s.views id told
                (tells_here z k.core id told here told_true) (λ n u ne. k.tells n u);
            pasts = set_pasts s.views id told k.events k.events (k.pasts id me.0 at)
                (λ past goes. goes) k.pasts;
            left = set_left s.views id told gone (k.left id me.0 at) k.left;
            root = root_stays;
            unopened = λ n le h. k.unopened n (omega arith) h;
            fit = k.fit;
            client = subst (law (shows z k.core))
                (sym (clients_same first z.seats s.views id me.0 told at refl)) k.client;
          }

      found : FoundIn fits z qs told word (slice_index s.words word)
      found = record {
        shape = k.shape;
        quotas = k.quotas;
        events = k.events;
        core = k.core;
        history = k.history;
        since = k.pasts id me.0 at;
        fit = k.fit;
        says = subst (λ (n : ℕ). IsTrueOf z k.core n told) (sym number) told_true;
        word = ap (λ (ws : List ℕ). slice_index ws word) k.words;
      }

      known_alone : IsSome whole → IsAlone me.0
      known_alone = known_is whole (IsAlone me.0)
          (λ all e. let so = is_so all e in alone_if so.1 so.2)

      answer : (IsSome me.0.whole → whole ≡ me.0.whole) → (IsAlone me.0 → IsSome whole) → Reads
      answer stays all =
          let read : HasRead fits z qs word (slice_index s.words word) me.0 told = record {
            same = refl;
            stays = stays;
            knows = (known_alone, all);
            found = found;
          } in
          (told, keeps, tt, kept, (read, refl))

    -- a seat that is alone knows the whole core from here on, and another knows what it knew
    allowed : IsAlone me.0 ⊎ (IsAlone me.0 → ⊥) → Reads
    allowed (inl alone) = answer (Some (whole_of k.core))
        (λ all e. let same : all ≡ whole_of k.core = cc in
        (ap core_in same, sym number ∙ alone.0, others alone))
        (known_is me.0.whole (Some (whole_of k.core) ≡ me.0.whole)
        (λ all e. let same = (before.whole all e).0 in
        ap (λ (c : Core). Some (whole_of c)) (sym same) ∙ sym e))
        (λ _. refl)
    allowed (inr others_here) = answer me.0.whole before.whole (λ _. refl)
        (λ alone. absurd (others_here alone))

  pub reads : Allows (Kept law first gone fits z qs) slots id me word (λ w. w) Then
  reads s k homes at small = allowed s k at (alone_cases me.0)
