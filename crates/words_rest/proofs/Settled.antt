-- A state that has settled rests.
use Rattle.std.proofs.Common.{◌≡◌, ℕ, zero, suc, ◌<◌, List, [], ◌∷◌, refl, ap, arith, None}
use Rattle.plain_audit.specs.plain_state.declared.slot.Kind.{Kind}
use Rattle.plain_audit.specs.plain_state.declared.slot.SlotId.{SlotId}
use Rattle.plain_audit.specs.plain_state.Lists.{Entry, entry_times}
use Rattle.plain_audit.specs.plain_state.State.{Plain, seat_at}
use Rattle.plain_audit.proofs.Below.plain_state_Kit.{entry_cons, entry_none, entry_self}
use Rattle.plain_audit.specs.plain_store.Settling.{IsSettled}
use Rattle.words_rest.specs.Rest.{IsQuiet, Rests}

-- a list in which nothing stands has nothing
no_entries : (es : List Entry) → ((k : Kind) (s : SlotId) → entry_times k s es ≡ 0) → es ≡ []
no_entries [] none = refl
no_entries (e ∷ es) none =
    let no = none e.0 e.1 in
    let all = entry_cons e.0 e.1 e es in
    let one = entry_self e.0 e.1 in absurd (omega arith)

pub settled_rests : (p : Plain) → IsSettled p → (seat_at p 0).snapshots ≡ []
    → (seat_at p 0).filling ≡ None → (seat_at p 0).weaks ≡ []
    → ((n : ℕ) → 0 < n → IsQuiet (seat_at p n)) → Rests p
settled_rests p settled snapshots filling weaks others =
    record { seats = each; live = settled.ended }
  where
    root : IsQuiet (seat_at p 0)
    root = record {
      deferred = no_entries (seat_at p 0).deferred (λ k s.
          let few = settled.ejected k s in
          let none = ap (entry_times k s) snapshots in
          let nil = entry_none k s in omega arith);
      snapshots = snapshots;
      dying = settled.destroyed;
      filling = filling;
      weaks = weaks;
    }

    each : (n : ℕ) → IsQuiet (seat_at p n)
    each zero = root
    each (suc n) = others (suc n) (omega arith)
