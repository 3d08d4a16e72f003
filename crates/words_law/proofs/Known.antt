-- What a view tells of texts it goes on to tell, and where a seat leaves, seat 0's view tells what both told.
use Rattle.std.proofs.Common.{◌≡◌, inl, inr, ⊎_elim, List, [], ◌∷◌, ◌++◌, map, refl, sym, ap, ◌∙◌}
use Rattle.queue_law.specs.declared.view.Item.{Item}
use Rattle.directory_law.specs.declared.view.Rope.{Rope}
use Rattle.directory_law.specs.declared.view.View.{View}
use Rattle.directory_law.specs.Bytes.{text_bytes}
use Rattle.directory_law.specs.Payloads.{Text}
use Rattle.directory_law.specs.Views.{rope}
use Rattle.directory_law.proofs.Notes.{in_left, in_right}
use Rattle.words_law.specs.Law.{head_of}
use Rattle.words_law.specs.Owned.{join_directories}
use Rattle.words_law.specs.Texts.{text_of_item, words_of}
use Rattle.words_law.specs.Known.{KnowsMore, KnowsText, KnowsTexts}

pub knows_more : (v w : View) → KnowsMore v w → (x : Item) (text : Text) → KnowsText v x text
    → KnowsText w x text
knows_more v w more x text knows = ⊎_elim
    (λ kept. inl (more.kept (rope (head_of x) x.life text) kept))
    (λ read. inr (record {
      ran = read.ran;
      noted = more.ran read.ran read.noted;
      slot = read.slot;
      life = read.life;
      whole = read.whole;
      is = read.is;
    }))
    knows

pub knows_all_more : (v w : View) → KnowsMore v w → (xs : List Item) (ts : List Text)
    → KnowsTexts v xs ts → KnowsTexts w xs ts
knows_all_more v w more [] [] knows = tt
knows_all_more v w more [] (t ∷ ts) knows = absurd knows
knows_all_more v w more (x ∷ xs) [] knows = absurd knows
knows_all_more v w more (x ∷ xs) (t ∷ ts) knows =
    (knows_more v w more x t knows.0, knows_all_more v w more xs ts knows.1)

pub knows_both : (v : View) (xs ys : List Item) (ts us : List Text) → KnowsTexts v xs ts
    → KnowsTexts v ys us → KnowsTexts v (xs ++ ys) (ts ++ us)
knows_both v [] ys [] us first rest = rest
knows_both v [] ys (t ∷ ts) us first rest = absurd first
knows_both v (x ∷ xs) ys [] us first rest = absurd first
knows_both v (x ∷ xs) ys (t ∷ ts) us first rest =
    (first.0, knows_both v xs ys ts us first.1 rest)

pub joined_knows : (v w : View) (xs ys : List Item) (ts us : List Text) → KnowsTexts v xs ts
    → KnowsTexts w ys us → KnowsTexts (join_directories v w) (xs ++ ys) (ts ++ us)
joined_knows v w xs ys ts us first rest =
    let after = join_directories v w in
    knows_both after xs ys ts us
    (knows_all_more v after (record {
      kept = λ e i. in_left e v.kept w.kept i;
      ran = λ e i. in_left e v.ran w.ran i;
    }) xs ts first)
    (knows_all_more w after (record {
      kept = λ e i. in_right e v.kept w.kept i;
      ran = λ e i. in_right e v.ran w.ran i;
    }) ys us rest)

-- where what a view tells is so by what is kept, the items have the words of the texts
pub told_words : (kept : List Rope) (v : View)
    → ((x : Item) (text : Text) → KnowsText v x text → text ≡ text_of_item kept x)
    → (xs : List Item) (ts : List Text) → KnowsTexts v xs ts
    → words_of kept xs ≡ map text_bytes ts
told_words kept v so [] [] knows = refl
told_words kept v so [] (t ∷ ts) knows = absurd knows
told_words kept v so (x ∷ xs) [] knows = absurd knows
told_words kept v so (x ∷ xs) (t ∷ ts) knows =
    ap (λ z. text_bytes z ∷ words_of kept xs) (sym (so x t knows.0))
    ∙ ap (λ l. text_bytes t ∷ l) (told_words kept v so xs ts knows.1)
