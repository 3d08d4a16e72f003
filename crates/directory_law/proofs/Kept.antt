-- Texts that views keep.
use Rattle.std.proofs.Common.{◌≡◌, ◌≢◌, ⊎_elim, ℕ, ◌<◌, ◌≤◌, List, length, set, refl, sym, subst, arith}
use Rattle.std.proofs.lemmas.List.{get_or-set_same, get_or-set_other, get_or_past}
use Rattle.std.proofs.lemmas.Bool.{cases_eq, cases_lt}
use Rattle.plain_protocol.specs.plain_state.declared.slot.SlotId.{SlotId}
use Rattle.directory_law.specs.Payloads.{Text}
use Rattle.directory_law.specs.Views.{Rope, View, gone, view_at, rope, times_of, keeps, KeptIn, In}
use Rattle.directory_law.proofs.Kit.{total_at, total_both}
use Rattle.directory_law.proofs.Notes.{in_times, one_note, none_of}

-- a view that keeps something is there
pub there : (views : List View) (n : ℕ) (e : Rope) → In e (view_at views n).kept → n < length views
there views n e i =
    ⊎_elim
    (λ (h : n < length views). h)
    (λ past. absurd (subst (λ (v : View). In e v.kept) (get_or_past views n gone past) i))
    (cases_lt n (length views))

pub kept_counts : (views : List View) (s : SlotId) (l : ℕ) (t : Text) → KeptIn views s l t
    → 0 < keeps views s l
kept_counts views s l t k =
    let h = there views k.0 (rope s l t) k.1 in
    let a = in_times s l (rope s l t) (view_at views k.0).kept refl refl k.1 in
    let b = total_at (λ (v : View). times_of s l v.kept) views k.0 h in omega arith

-- the text that is kept for a life of a slot is one
pub same_text : (views : List View) (s : SlotId) (l : ℕ) (a b : Text) → keeps views s l ≤ 1
    → KeptIn views s l a → KeptIn views s l b → a ≡ b
same_text views s l a b once x y =
    let hx = there views x.0 (rope s l a) x.1 in
    let hy = there views y.0 (rope s l b) y.1 in
    let ix = in_times s l (rope s l a) (view_at views x.0).kept refl refl x.1 in
    let iy = in_times s l (rope s l b) (view_at views y.0).kept refl refl y.1 in
    ⊎_elim
    (λ (e : y.0 ≡ x.0).
    let t = total_at (λ (v : View). times_of s l v.kept) views x.0 hx in
    one_note s l a b (view_at views x.0).kept (omega arith) x.1
    (subst (λ (n : ℕ). In (rope s l b) (view_at views n).kept) e y.1))
    (λ (ne : y.0 ≢ x.0).
    let t = total_both (λ (v : View). times_of s l v.kept) views x.0 y.0 (none_of s l) hx hy ne in
    absurd (omega arith))
    (cases_eq y.0 x.0)

-- what a view keeps is kept after the change of a view that goes on to keep it
pub kept_set : (views : List View) (n : ℕ) (w : View) (s : SlotId) (l : ℕ) (t : Text)
    → n < length views → ((e : Rope) → In e (view_at views n).kept → In e w.kept)
    → KeptIn views s l t → KeptIn (set views n w) s l t
kept_set views n w s l t h more k =
    ⊎_elim
    (λ (e : k.0 ≡ n). (
      n,
      subst (λ (v : View). In (rope s l t) v.kept)
          (sym (get_or-set_same views n w gone h))
          (more (rope s l t) (subst (λ (m : ℕ). In (rope s l t) (view_at views m).kept) e k.1)),
    ))
    (λ (ne : k.0 ≢ n). (
      k.0,
      subst (λ (v : View). In (rope s l t) v.kept)
          (sym (get_or-set_other views n k.0 w gone ne)) k.1,
    ))
    (cases_eq k.0 n)
