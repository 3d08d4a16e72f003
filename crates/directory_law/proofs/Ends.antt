-- Texts that are kept, and how far a text goes.
use Rattle.std.proofs.Common.{◌≡◌, ℕ, ◌-◌, ◌≤◌, List, [], ◌∷◌, ◌++◌, refl, ap, subst, arith}
use Rattle.plain_protocol.specs.plain_state.declared.slot.SlotId.{SlotId}
use Rattle.plain_protocol.specs.plain_state.State.{Plain}
use Rattle.directory_law.specs.Payloads.{Text, size, IsRest, IsText}
use Rattle.directory_law.specs.Views.{View, KeptIn}
use Rattle.directory_law.specs.Cells.{Area}
use Rattle.directory_law.specs.Law.{DirectoryLaw}
use Rattle.directory_law.proofs.Kept.{kept_counts, same_text}

pub append_none : (a : Text) → a ++ [] ≡ a
append_none [] = refl
append_none (t ∷ ts) = ap (λ (x : Text). t ∷ x) (append_none ts)

-- what is kept is a text
pub kept_is : (z : Area) (p : Plain) (views : List View) (s : SlotId) (l : ℕ) (text : Text)
    → DirectoryLaw z p views → KeptIn views s l text → IsText text
kept_is z p views s l text law kept =
    let b = law.stands s l (kept_counts views s l text kept) in
    let o = law.cells b.0 s b.1 b.2 in
    let k = subst (λ (x : ℕ). KeptIn views s x o.text) b.3 o.kept in
    subst IsText (same_text views s l o.text text (let a = law.once s l in omega arith) k kept) o.is

-- the head's length tells the number of parts
rest_ends : (n : ℕ) (ts us : Text) → IsRest n ts → IsRest n (ts ++ us) → us ≡ []
rest_ends n [] [] h k = refl
rest_ends n [] (u ∷ us) h k = let a = k.1.1 in let b = k.1.3 in absurd (omega arith)
rest_ends n (t ∷ ts) us h k =
    let a = h.1.0 in let b = k.1.0 in
    let e : k.0 ≡ h.0 = omega arith in
    rest_ends (n - h.0) ts us h.2 (subst (λ (x : ℕ). IsRest (n - x) (ts ++ us)) e k.2)

pub text_ends : (a b : Text) → IsText a → IsText (a ++ b) → b ≡ []
text_ends [] b h k = absurd h
text_ends (t ∷ ts) b h k = rest_ends (size t - 120) ts b h.1 k.1

-- a text of at most 120 bytes has no part
no_rest : (n : ℕ) (ts : Text) → n ≡ 0 → IsRest n ts → ts ≡ []
no_rest n [] e h = refl
no_rest n (t ∷ ts) e h = let a = h.1.1 in let b = h.1.3 in absurd (omega arith)

pub short_text : (head : List ℕ) (tail : Text) → IsText (head ∷ tail) → size head ≤ 120
    → head ∷ tail ≡ head ∷ []
short_text head tail is h = ap (λ (x : Text). head ∷ x)
    (no_rest (size head - 120) tail (omega arith) is.1)
