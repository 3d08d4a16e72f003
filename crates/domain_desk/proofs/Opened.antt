-- A desk that has just been opened.
use Rattle.std.proofs.Common.{◌≡◌, ⊎_elim, ℕ, ◌<◌, ◌≤◌, List, [], All, length, refl, ap, sym, subst, arith}
use Rattle.std.specs.Prelude.{replicate, slice_index_or}
use Rattle.std.proofs.lemmas.Bool.{cases_lt}
use Rattle.std.proofs.lemmas.List.{get_or-replicate, get_or_past, length-replicate}
use Rattle.std.proofs.lemmas.List.Elements.{All-get_or}
use Rattle.script_desk.specs.plain_state.declared.slot.PlainSlot.{PlainSlot}
use Rattle.script_desk.specs.plain_state.declared.slot.SlotId.{SlotId}
use Rattle.script_desk.specs.plain_state.State.{Plain, empty, new_slot}
use Rattle.script_desk.specs.plain_store.Settling.{IsSettled}
use Rattle.script_desk.specs.Desks.{Maker, Names, nobody}
use Rattle.script_desk.specs.Holding.{Kept}
use Rattle.script_desk.proofs.Closing.{kept_open}

all_free : (n : ℕ) (s : SlotId) → slice_index_or (replicate n new_slot) s.0 new_slot ≡ new_slot
all_free n s = ⊎_elim
    (λ (inside : s.0 < n). get_or-replicate n s.0 new_slot new_slot inside)
    (λ (past : n ≤ s.0).
    let size = length-replicate n new_slot in
    get_or_past (replicate n new_slot) s.0 new_slot (omega arith))
    (cases_lt s.0 n)

-- in an empty heap nothing may go
empty_settled : (slots cells weak_cells : ℕ) → IsSettled (empty 1 slots cells weak_cells)
empty_settled slots cells weak_cells = record {
  ejected = λ k s. omega arith;
  destroyed = refl;
  ended = λ s live.
      let free = ap (λ (x : PlainSlot). x.stage) (all_free slots s) in absurd (cc (free, live));
  given = λ s husk.
      let free = ap (λ (x : PlainSlot). x.stage) (all_free slots s) in absurd (cc (free, husk));
}

module _ (slots cells weak_cells : ℕ) (p : Plain) (is : p ≡ empty 1 slots cells weak_cells) where
  pub opened_settled : IsSettled p
  opened_settled = subst IsSettled (sym is) (empty_settled slots cells weak_cells)

  pub opened_kept : (names : Names) (made : List Maker) → names ≡ [] → length made ≡ slots
      → Kept p names made cells weak_cells
  opened_kept names made none size = kept_open slots cells weak_cells p names made is none size

-- no slot was made
pub all_nobody : (made : List Maker) → All (λ maker. maker ≡ nobody) made → (s : SlotId)
    → slice_index_or made s.0 nobody ≡ nobody
all_nobody made each s = ⊎_elim
    (λ (inside : s.0 < length made).
    All-get_or (λ (m : Maker). m ≡ nobody) made s.0 nobody inside each)
    (λ (past : length made ≤ s.0). get_or_past made s.0 nobody past)
    (cases_lt s.0 (length made))
