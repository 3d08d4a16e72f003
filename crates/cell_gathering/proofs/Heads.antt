-- The texts of the heads that a lane put into cells are of words of the work.
use Rattle.std.proofs.Common.{◌≡◌, ⊎_elim, inl, inr, ℕ, zero, suc, ◌<◌, Bool, List, [], ◌∷◌, ◌++◌, refl, ap, subst, ◌∙◌, arith}
use Rattle.std.specs.Prelude.{◌%◌, cond, map, nat_lt, slice_index_or}
use Rattle.std.specs.List.{flat_map}
use Rattle.std.specs.Str.{bytes_eq}
use Rattle.std.specs.Cmp.Lexicographic.{bytes_decides}
use Rattle.std.proofs.lemmas.Bool.{lt-ltb}
use Rattle.std.proofs.lemmas.List.{append-nil}
use Rattle.std.proofs.lemmas.List.Sums.{sum_by-cons}
use Rattle.cell_lanes.specs.Counting.{GrowsBy}
use Rattle.cell_lanes.specs.cell_making.Texts.{text_of}
use Rattle.cell_rest.proofs.Below.cell_law_Kit.{in_either}
use Rattle.cell_rest.specs.cdrc_text.Fold.{File, holders_in, times}
use Rattle.cell_rest.specs.cell_law.Views.{texts_of}
use Rattle.cell_rest.specs.cell_law.declared.view.View.{View}
use Rattle.cell_rest.specs.cell_law.directory_law.declared.view.Rope.{Rope}
use Rattle.cell_rest.specs.cell_law.directory_law.Views.{In}
use Rattle.cell_lanes.specs.lane_work.Sizes.{texts_in}
use Rattle.cell_lanes.specs.lane_work.Work.{files_in, words_of, words_of_all}
use Rattle.cell_lanes.specs.lane_work.declared.work.Work.{Work}
use Rattle.cell_gathering.specs.Gathering.{IsTextIn}

-- WORDS that stand in files
word_in : (w : List ℕ) (words : List (List ℕ)) → In w words → 0 < times w words
word_in w [] i = absurd i
word_in w (x ∷ words) i =
    let all = sum_by-cons (λ (y : List ℕ). cond (bytes_eq w y) 1 0) x words in
    ⊎_elim
    (λ (e : w ≡ x).
    let here = ap (λ (b : Bool). cond {A = ℕ} b 1 0) ((bytes_decides w x).1 e) in
    omega (arith, all, here))
    (λ (there : In w words). let rest = word_in w words there in omega (arith, all, rest))
    i

file_in : (w : List ℕ) (files : List File) (n : ℕ) → In w (slice_index_or files n [])
    → 0 < holders_in w files
file_in w [] n i = absurd i
file_in w (f ∷ files) zero i =
    let all = sum_by-cons (λ (g : File). cond (nat_lt 0 (times w g)) 1 0) f files in
    let here = ap (λ (b : Bool). cond {A = ℕ} b 1 0) (lt-ltb 0 (times w f) (word_in w f i)) in
    omega (arith, all, here)
file_in w (f ∷ files) (suc n) i =
    let all = sum_by-cons (λ (g : File). cond (nat_lt 0 (times w g)) 1 0) f files in
    let rest = file_in w files n i in omega (arith, all, rest)

flat_in : (work : Work) (w : List ℕ) (ts : List ℕ) → In w (flat_map (words_of work) ts)
    → 0 < holders_in w (texts_in work)
flat_in work w [] i = absurd i
flat_in work w (t ∷ ts) i = ⊎_elim
    (λ (here : In w (words_of work t)). file_in w (texts_in work) (t % files_in work) here)
    (λ (there : In w (flat_map (words_of work) ts)). flat_in work w ts there)
    (in_either w (words_of work t) (flat_map (words_of work) ts) i)

pub words_held : (work : Work) (ts : List ℕ) (w : List ℕ) → In w (words_of_all work ts)
    → 0 < holders_in w (texts_in work)
unfolding words_of_all
words_held work ts w i = flat_in work w ts i

-- HEADS
heads_texts : (es : List Rope) (ws : List (List ℕ)) → texts_of es ≡ map text_of ws → (e : Rope)
    → In e es → (w : List ℕ) × In w ws × (e.text ≡ text_of w)
heads_texts [] ws same e i = absurd i
heads_texts (x ∷ es) [] same e i = absurd cc
heads_texts (x ∷ es) (w ∷ ws) same e i = ⊎_elim
    (λ (is : e ≡ x).
    let first : x.text ≡ text_of w = cc in (w, inl refl, ap (λ (r : Rope). r.text) is ∙ first))
    (λ (there : In e es).
    let rest : texts_of es ≡ map text_of ws = cc in
    let r = heads_texts es ws rest e there in (r.0, inr r.1, r.2))
    i

-- what a view that listed nothing lists when it has grown by the words of these tickets
pub grown_texts : (work : Work) (ts : List ℕ) (v w : View) → GrowsBy (words_of_all work ts) v w
    → v.bound ≡ [] → (e : Rope) → In e w.bound → IsTextIn (texts_in work) e.text
grown_texts work ts v w grows none e i =
    let all : w.bound ≡ grows.heads = grows.bound
    ∙ ap (λ es. grows.heads ++ es) none ∙ append-nil grows.heads in
    let r = heads_texts grows.heads grows.made grows.texts e (subst (In e) all i) in
    (r.0, words_held work ts r.0 (grows.among r.0 r.1), r.2)
