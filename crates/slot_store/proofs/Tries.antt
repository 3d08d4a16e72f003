-- Tries one after another: what they have shown.
use Rattle.std.proofs.Common.{◌≡◌, inl, inr, ◌%◌, Bool, true, false, List, [], ◌∷◌, ◌++◌, refl, ap, arith}
use Rattle.std.specs.Prelude.{◌==◌}
use Rattle.std.proofs.lemmas.Bool.Decides.{nat_tests}
use Rattle.std.proofs.lemmas.Nat.Bits.{bit_at_ones}
use Rattle.protocol_pairs.specs.plain_state.declared.slot.SlotId.{SlotId}
use Rattle.claim_law.specs.core_events.Words.{bit_in}
use Rattle.slot_store.specs.Searching.{IsShownTaken, Try, bits_of, latest}

-- where the newest word has the bit clear, it was shown clear
pub shown_by_latest : (s : SlotId) (ts : List Try) → bit_in s (latest (bits_of s) ts) ≡ 0
    → IsShownTaken s ts
shown_by_latest s [] clear =
    let set = bit_at_ones 64 (s.0 % 64) (omega arith) in absurd (omega arith)
shown_by_latest s (t ∷ ts) clear =
    go (bits_of t.slot == bits_of s) refl (shown_by_latest s ts)
  where
    go : (b : Bool) → (bits_of t.slot == bits_of s) ≡ b
        → (bit_in s (latest (bits_of s) ts) ≡ 0 → IsShownTaken s ts) → IsShownTaken s (t ∷ ts)
    go true same earlier =
        let here : bit_in s t.word ≡ 0 = rw same at clear in
        let one : bits_of t.slot ≡ bits_of s = grind (arith, nat_tests) in inl (one, here)
    go false other earlier =
        let there : bit_in s (latest (bits_of s) ts) ≡ 0 = rw other at clear in inr (earlier there)

pub append_nil : {A : Type 0} (xs : List A) → xs ++ [] ≡ xs
append_nil [] = refl
append_nil (x ∷ xs) = ap (λ ys. x ∷ ys) (append_nil xs)
