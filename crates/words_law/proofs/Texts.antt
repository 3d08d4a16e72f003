-- Each item that was pushed has one text, and what a view tells of it is so.
use Rattle.std.specs.Prelude.{if◌then◌else◌}
use Rattle.std.specs.List.{flat_map}
use Rattle.std.proofs.Common.{◌≡◌, inl, inr, ⊎_elim, ℕ, zero, suc, ◌≤◌, Bool, true, false, List, [], ◌∷◌, ◌++◌, refl, sym, ap, subst, ◌∙◌, arith}
use Rattle.std.proofs.lemmas.List.{append-nil}
use Rattle.std.proofs.lemmas.Bool.Decides.{nat_tests}
use Rattle.protocol_pairs.specs.plain_state.declared.slot.SlotId.{SlotId}
use Rattle.protocol_pairs.specs.plain_state.State.{Plain}
use Rattle.queue_law.specs.declared.view.Item.{Item}
use Rattle.directory_law.specs.declared.view.Rope.{Rope}
use Rattle.directory_law.specs.declared.view.View.{View}
use Rattle.directory_law.specs.Payloads.{Text, IsText}
use Rattle.directory_law.specs.Views.{KeptIn, In, keeps, rope, is_of, view_at}
use Rattle.directory_law.specs.Cells.{Area}
use Rattle.directory_law.specs.Learnt.{Running}
use Rattle.directory_law.specs.Law.{DirectoryLaw}
use Rattle.directory_law.proofs.Ends.{text_ends}
use Rattle.directory_law.proofs.Kept.{kept_counts, same_text}
use Rattle.directory_law.proofs.Notes.{each_in, in_left, in_right, is_of_at}
use Rattle.words_law.specs.Law.{HasText, head_of}
use Rattle.words_law.specs.Texts.{text_in, all_kept, text_of_item, HasOneText}
use Rattle.words_law.specs.Known.{KnowsText, ReadText}
use Rattle.words_law.proofs.Noted.{in_cases}

-- WHAT VIEWS KEEP TOGETHER
pub kept_all : (views : List View) (n : ℕ) (e : Rope) → In e (view_at views n).kept
    → In e (all_kept views)
unfolding all_kept
kept_all [] n e i = absurd i
kept_all (v ∷ views) zero e i = in_left e v.kept (flat_map (λ (w : View). w.kept) views) i
kept_all (v ∷ views) (suc n) e i =
    in_right e v.kept (flat_map (λ (w : View). w.kept) views) (kept_all views n e i)

all_somewhere : (views : List View) (e : Rope) → In e (all_kept views)
    → (n : ℕ) × In e (view_at views n).kept
unfolding all_kept
all_somewhere [] e i = absurd i
all_somewhere (v ∷ views) e i = ⊎_elim
    (λ here. (0, here))
    (λ there. let r = all_somewhere views e there in (suc r.0, r.1))
    (in_cases e v.kept (flat_map (λ (w : View). w.kept) views) i)

-- THE TEXT OF A LIFE
is_of_self : (s : SlotId) (l : ℕ) (text : Text) → is_of s l (rope s l text) ≡ true
is_of_self s l text = grind (arith, nat_tests)

rope_same : (s : SlotId) (l : ℕ) (e : Rope) → e.slot ≡ s → e.life ≡ l → rope s l e.text ≡ e
rope_same s l e a b = λ i. record { slot = sym a i; life = sym b i; text = e.text }

text_found : (es : List Rope) (s : SlotId) (l : ℕ) (text : Text) → In (rope s l text) es
    → In (rope s l (text_in es s l)) es
unfolding text_in
text_found [] s l text i = absurd i
text_found (e ∷ es) s l text i = go (is_of s l e) refl (text_found es s l text)
  where
    go : (b : Bool) → is_of s l e ≡ b
        → (In (rope s l text) es → In (rope s l (text_in es s l)) es)
        → In (rope s l (if b then e.text else text_in es s l)) (e ∷ es)
    go true is rest =
        let at = is_of_at s l e is in inl (rope_same s l e at.0 at.1)
    go false is rest = ⊎_elim
        (λ (same : rope s l text ≡ e).
        let t : is_of s l e ≡ true = subst (λ (r : Rope). is_of s l r ≡ true) same
        (is_of_self s l text) in
        let no_way : false ≡ true = sym is ∙ t in absurd cc)
        (λ (there : In (rope s l text) es). inr (rest there))
        i

module _ (z : Area) (p : Plain) (views : List View) (law : DirectoryLaw z p views) (x : Item) where
  once : keeps views (head_of x) x.life ≤ 1
  once = let a = law.once (head_of x) x.life in omega arith

  text_is : (text : Text) → HasText views x text → IsText text
  text_is text has =
      let at = law.stands (head_of x) x.life (kept_counts views (head_of x) x.life text has) in
      let o = law.cells at.0 (head_of x) at.1 at.2 in
      let kept : HasText views x o.text =
      subst (λ (l : ℕ). KeptIn views (head_of x) l o.text) at.3 o.kept in
      subst IsText (same_text views (head_of x) x.life o.text text once kept has) o.is

  pub has_one : (text : Text) → HasText views x text → HasOneText views x
  has_one text has =
      let here = text_found (all_kept views) (head_of x) x.life text
      (kept_all views has.0 (rope (head_of x) x.life text) has.1) in
      let some = all_somewhere views
      (rope (head_of x) x.life (text_of_item (all_kept views) x)) here in
      record {
        has = some;
        is = text_is (text_of_item (all_kept views) x) some;
        one = λ t kept. same_text views (head_of x) x.life t (text_of_item (all_kept views) x)
            once kept some;
      }

  read_has : (n : ℕ) (text : Text) → ReadText (view_at views n) x text → HasText views x text
  read_has n text read =
      let e = read.ran in
      let run : Running p views e =
      each_in (Running p views) e (view_at views n).ran read.noted (law.learnt n).ran in
      let at : KeptIn views (head_of x) x.life (e.before ++ run.0) =
      subst (λ (s : SlotId). KeptIn views s x.life (e.before ++ run.0)) read.slot
      (subst (λ (l : ℕ). KeptIn views e.slot l (e.before ++ run.0)) read.life run.1) in
      let none : run.0 ≡ [] = text_ends e.before run.0 (subst IsText (sym read.whole) read.is)
      (text_is (e.before ++ run.0) at) in
      let same : e.before ++ run.0 ≡ text =
      ap (λ (t : Text). e.before ++ t) none ∙ (append-nil e.before ∙ read.whole) in
      subst (HasText views x) same at

  pub known_has : (n : ℕ) (text : Text) → KnowsText (view_at views n) x text → HasText views x text
  known_has n text knows = ⊎_elim (λ kept. (n, kept)) (λ read. read_has n text read) knows
