-- No two heads that views list have one text; and once seat 0 is alone its view lists them all.
use Rattle.std.specs.Prelude.{if◌then◌else◌}
use Rattle.std.specs.List.{flat_map}
use Rattle.std.proofs.Common.{◌≡◌, ◌≢◌, inl, inr, ⊎_elim, ℕ, zero, suc, ◌≤◌, true, List, [], ◌∷◌, ◌++◌, refl, ap, sym, ◌∙◌, subst, arith, Some, None}
use Rattle.std.proofs.lemmas.List.{append-nil}
use Rattle.std.proofs.lemmas.List.Sums.{sum_by-cons}
use Rattle.plain_protocol.specs.plain_state.declared.slot.SlotId.{SlotId}
use Rattle.plain_protocol.specs.plain_state.State.{Plain}
use Rattle.plain_protocol.specs.Owns.{is_alone}
use Rattle.directory_law.specs.declared.view.Rope.{Rope}
use Rattle.directory_law.specs.declared.view.View.{View as DirectoryView}
use Rattle.directory_law.specs.Bytes.{IsTextOf, text_bytes}
use Rattle.directory_law.specs.Payloads.{Text}
use Rattle.directory_law.specs.Views.{In, rope, times_of, total, fresh}
use Rattle.directory_law.specs.Cells.{Area}
use Rattle.directory_law.proofs.Bytes.{one_text, text_tells}
use Rattle.directory_law.proofs.Notes.{append_of, cons_of, each_in, in_times, none_of, one_same}
use Rattle.queue_law.proofs.Alone.{alone_at}
use Rattle.cell_law.specs.Views.{View, gone, view_at, AreDistinct, BoundIn, all_bound, bound_in, made, makers, texts_of, words_of, IsWord}
use Rattle.cell_law.specs.Law.{CellLaw, HasLeft}
use Rattle.cell_law.specs.Promises.{KnowsAll}
use Rattle.cell_law.proofs.Kit.{in_either}
use Rattle.cell_law.proofs.Stands.{bound_word}

-- a head that is listed stands in the list of all, and the other way round
pub in_all : (views : List View) (n : ℕ) (e : Rope) → In e (bound_in (view_at views n))
    → In e (all_bound views)
unfolding all_bound
in_all [] n e i = absurd i
in_all (v ∷ views) zero e i = first_part (bound_in v) i
  where
    first_part : (xs : List Rope) → In e xs → In e (xs ++ flat_map bound_in views)
    first_part [] i = absurd i
    first_part (x ∷ xs) i = ⊎_elim (λ a. inl a) (λ a. inr (first_part xs a)) i
in_all (v ∷ views) (suc n) e i = rest_part (bound_in v) (in_all views n e i)
  where
    rest_part : (xs : List Rope) → In e (all_bound views) → In e (xs ++ flat_map bound_in views)
    rest_part [] i = i
    rest_part (x ∷ xs) i = inr (rest_part xs i)

all_in : (views : List View) (e : Rope) → In e (all_bound views)
    → (n : ℕ) × In e (bound_in (view_at views n))
unfolding all_bound
all_in [] e i = absurd i
all_in (v ∷ views) e i =
    ⊎_elim
    (λ (a : In e (bound_in v)). (0, a))
    (λ (a : In e (all_bound views)). let b = all_in views e a in (suc b.0, b.1))
    (in_either e (bound_in v) (flat_map bound_in views) i)

-- a life is listed at most as often as it was made and not linked
times_all : (views : List View) (s : SlotId) (l : ℕ)
    → times_of s l (all_bound views) ≤ fresh (makers views) s l
unfolding all_bound total
times_all [] s l = let a = none_of s l in omega arith
times_all (v ∷ views) s l =
    let a = append_of s l (bound_in v) (flat_map bound_in views) in
    let b = append_of s l v.noted (bound_in v) in
    let c = sum_by-cons (λ (w : DirectoryView). times_of s l w.noted) (made v) (makers views) in
    let d = times_all views s l in omega arith

-- some head of a list has this text
text_in : (t : Text) (es : List Rope) → In t (texts_of es)
    → (e : Rope) × In e es × (t ≡ e.text)
text_in t [] i = absurd i
text_in t (e ∷ es) i =
    ⊎_elim
    (λ (is : t ≡ e.text). (e, inl refl, is))
    (λ (j : In t (texts_of es)). let o = text_in t es j in (o.0, inr o.1, o.2))
    i

-- where a text tells the life, and each life is listed once, no text is listed twice
distinct_if : (es : List Rope)
    → ((e f : Rope) → In e es → In f es → e.text ≡ f.text → (e.slot ≡ f.slot) × (e.life ≡ f.life))
    → ((s : SlotId) (l : ℕ) → times_of s l es ≤ 1) → AreDistinct (texts_of es)
distinct_if [] tells once = tt
distinct_if (e ∷ es) tells once = (
  λ i.
      let o = text_in e.text es i in
      let same = tells e o.0 (inl refl) (inr o.1) o.2 in
      let a = cons_of e.slot e.life e es in
      let b = one_same e.slot e.life e refl refl in
      let c = in_times e.slot e.life o.0 es (sym same.0) (sym same.1) o.1 in
      let d = once e.slot e.life in omega arith,
  distinct_if es (λ x y i j. tells x y (inr i) (inr j))
      (λ s l. let a = cons_of s l e es in let d = once s l in omega arith),
)

texts_differ : (z : Area) (p : Plain) (views : List View) → CellLaw z p views
    → AreDistinct (texts_of (all_bound views))
texts_differ z p views law =
    distinct_if (all_bound views)
    (λ e f i j same.
    let a = all_in views e i in
    let b = all_in views f j in
    law.apart e.slot f.slot e.life f.life e.text a
    (subst (λ (t : Text). BoundIn views f.slot f.life t) (sym same) b))
    (λ s l. let a = times_all views s l in let o = law.records.once s l in omega arith)

-- two words with the same bytes have the same text
one_word : (t u : Text) → IsWord t → IsWord u → text_bytes t ≡ text_bytes u → t ≡ u
one_word t u a b same =
    let bytes : a.0 ≡ b.0 = sym (text_tells a.0 t a.1 a.2) ∙ (same ∙ text_tells b.0 u b.1 b.2) in
    one_text b.0 t u (subst (λ (x : List ℕ). IsTextOf x t) bytes a.2) b.2

word_in : (t : Text) (es : List Rope) → In (text_bytes t) (words_of es)
    → (e : Rope) × In e es × (text_bytes t ≡ text_bytes e.text)
word_in t [] i = absurd i
word_in t (e ∷ es) i =
    ⊎_elim
    (λ (is : text_bytes t ≡ text_bytes e.text). (e, inl refl, is))
    (λ (j : In (text_bytes t) (words_of es)). let o = word_in t es j in (o.0, inr o.1, o.2))
    i

texts_in : (e : Rope) (es : List Rope) → In e es → In e.text (texts_of es)
texts_in e [] i = absurd i
texts_in e (x ∷ es) i =
    ⊎_elim
    (λ (is : e ≡ x). inl (ap (λ (r : Rope). r.text) is))
    (λ (j : In e es). inr (texts_in e es j))
    i

words_if : (es : List Rope) → ((e : Rope) → In e es → IsWord e.text) → AreDistinct (texts_of es)
    → AreDistinct (words_of es)
words_if [] are distinct = tt
words_if (e ∷ es) are distinct = (
  λ i.
      let o = word_in e.text es i in
      let same = one_word e.text o.0.text (are e (inl refl)) (are o.0 (inr o.1)) o.2 in
      distinct.0 (subst (λ (t : Text). In t (texts_of es)) (sym same) (texts_in o.0 es o.1)),
  words_if es (λ x i. are x (inr i)) distinct.1,
)

pub texts_and_words : (z : Area) (p : Plain) (views : List View) → CellLaw z p views
    → AreDistinct (texts_of (all_bound views)) × AreDistinct (words_of (all_bound views))
texts_and_words z p views law =
    let texts = texts_differ z p views law in (
      texts,
      words_if (all_bound views)
          (λ e i. bound_word z p views law e.slot e.life e.text (all_in views e i)) texts,
    )

-- two listed heads with one word are one
pub one_head : (z : Area) (p : Plain) (views : List View) → CellLaw z p views
    → (s r : SlotId) (l k : ℕ) (text other : Text) → BoundIn views s l text
    → BoundIn views r k other → text_bytes text ≡ text_bytes other
    → (s ≡ r) × (l ≡ k) × (text ≡ other)
one_head z p views law s r l k text other a b same =
    let e = one_word text other (bound_word z p views law s l text a)
    (bound_word z p views law r k other b) same in
    let h = law.apart s r l k other (subst (λ (t : Text). BoundIn views s l t) e a) b in
    (h.0, h.1, e)

-- THE ROOT. Where all views but the first are gone
none_listed : (views : List View) → ((m : ℕ) → view_at views m ≡ gone) → all_bound views ≡ []
unfolding all_bound
none_listed [] is = refl
none_listed (v ∷ views) is =
    ap (λ (l : List Rope). l ++ flat_map bound_in views) (ap bound_in (is 0))
    ∙ none_listed views (λ m. is (suc m))

root_lists : (views : List View) → ((m : ℕ) → m ≢ 0 → view_at views m ≡ gone)
    → all_bound views ≡ bound_in (view_at views 0)
unfolding all_bound
root_lists [] is = refl
root_lists (v ∷ views) is =
    ap (λ (l : List Rope). bound_in v ++ l) (none_listed views (λ m. is (suc m) (λ e. omega arith)))
    ∙ append-nil (bound_in v)

pub root_knows : (z : Area) (p : Plain) (views : List View) → CellLaw z p views
    → is_alone p 0 ≡ true → KnowsAll views (view_at views 0)
root_knows z p views law alone =
    let others : (m : ℕ) → m ≢ 0 → HasLeft p m =
    (alone_at p 0 p (ap (λ b. if b then Some p else None) alone)).2 in
    let differ = texts_and_words z p views law in
    let all = root_lists views (λ m ne. law.left m (others m ne)) in
    let listed : (s : SlotId) (l : ℕ) (t : Text) → BoundIn views s l t
    → In (rope s l t) (bound_in (view_at views 0)) =
    λ s l t k. subst (In (rope s l t)) all (in_all views k.0 (rope s l t) k.1) in
    record {
      all = all;
      listed = listed;
      distinct = subst (λ (es : List Rope). AreDistinct (texts_of es)) all differ.0;
      words = subst (λ (es : List Rope). AreDistinct (words_of es)) all differ.1;
      found = λ e i. listed e.slot e.life e.text
          (each_in (λ (x : Rope). BoundIn views x.slot x.life x.text) e (view_at views 0).found i
          (law.learnt 0).found);
    }
