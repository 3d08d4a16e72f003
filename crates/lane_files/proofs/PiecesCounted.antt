-- Pushes, pops and tallies one after the other.
use Rattle.std.proofs.Common.{◌≡◌, if◌then◌else◌, Bool, true, false, ℕ, ◌+◌, ◌≤◌, List, [], ◌∷◌, ◌++◌, refl, sym, ap, subst, ◌∙◌, arith, append_assoc}
use Rattle.std.specs.Prelude.{map}
use Rattle.std.proofs.lemmas.List.{append-nil, map-append, length-append}
use Rattle.words_protocol.specs.cdrc_text.Fold.{times}
use Rattle.words_protocol.specs.cdrc_text.Tally.{CountsOneMore, total_of}
use Rattle.std.specs.Str.{bytes_eq}
use Rattle.std.proofs.lemmas.List.Sums.{sum_by-append}
use Rattle.std.specs.Prelude.{cond}
use Rattle.words_protocol.specs.queue_law.declared.view.Item.{Item}
use Rattle.words_protocol.specs.queue_law.declared.view.Taken.{Taken}
use Rattle.words_protocol.specs.queue_law.declared.view.View.{View as QueueView}
use Rattle.words_protocol.specs.directory_law.declared.view.View.{View as DirectoryView}
use Rattle.words_protocol.specs.directory_law.Bytes.{text_bytes}
use Rattle.words_protocol.specs.words_law.Known.{ForgetsNothing, KnowsMore}
use Rattle.words_protocol.specs.words_law.Views.{View}
use Rattle.words_protocol.proofs.Below.words_law_Known.{knows_all_more, knows_both}
use Rattle.lane_files.specs.Passed.{Counts, KnowsWords, Takes, Tallies, by_seat, did}

pub more_none : (v : DirectoryView) → ForgetsNothing v v
more_none v = record {
  knows = record { kept = λ e in'. in'; ran = λ e in'. in' };
  saw = λ e in'. in';
}

pub more_then : (u v w : DirectoryView) → ForgetsNothing u v → ForgetsNothing v w
    → ForgetsNothing u w
more_then u v w first second = record {
  knows = record {
    kept = λ e in'. second.knows.kept e (first.knows.kept e in');
    ran = λ e in'. second.knows.ran e (first.knows.ran e in');
  };
  saw = λ e in'. second.saw e (first.saw e in');
}

by_none : (n : ℕ) → by_seat n [] ≡ []
unfolding by_seat
by_none n = refl

pub by_one : (n : ℕ) (x : Item) → by_seat n (x ∷ []) ≡ record { item = x; taker = n } ∷ []
unfolding by_seat
by_one n x = refl

by_both : (n : ℕ) (xs ys : List Item) → by_seat n (xs ++ ys) ≡ by_seat n xs ++ by_seat n ys
unfolding by_seat
by_both n xs ys = map-append (λ (x : Item). record { item = x; taker = n }) xs ys

-- nothing more
pub none_more : (n : ℕ) (ts : List Taken) → ts ++ by_seat n [] ≡ ts
none_more n ts = ap (λ (us : List Taken). ts ++ us) (by_none n) ∙ append-nil ts

pub did_none : (v : QueueView) → did [] [] v ≡ v
did_none v = λ i. record v {
  pushed = none_more v.number v.pushed i;
  popped = none_more v.number v.popped i;
}

more_of : (n : ℕ) (ts : List Taken) (xs ys : List Item)
    → (ts ++ by_seat n xs) ++ by_seat n ys ≡ ts ++ by_seat n (xs ++ ys)
more_of n ts xs ys =
    append_assoc ts (by_seat n xs) (by_seat n ys)
    ∙ ap (λ (us : List Taken). ts ++ us) (sym (by_both n xs ys))

did_then : (v : QueueView) (xs ys us ws : List Item)
    → did us ws (did xs ys v) ≡ did (xs ++ us) (ys ++ ws) v
did_then v xs ys us ws = λ i. record v {
  pushed = more_of v.number v.pushed xs us i;
  popped = more_of v.number v.popped ys ws i;
}

pub words_more : (v w : DirectoryView) (xs : List Item) (words : List (List ℕ)) → KnowsMore v w
    → KnowsWords v xs words → KnowsWords w xs words
words_more v w xs words more known = (known.0, knows_all_more v w more xs known.0 known.1, known.2)

words_both : (v : DirectoryView) (xs ys : List Item) (us ws : List (List ℕ)) → KnowsWords v xs us
    → KnowsWords v ys ws → KnowsWords v (xs ++ ys) (us ++ ws)
words_both v xs ys us ws a b = (
  a.0 ++ b.0,
  knows_both v xs ys a.0 b.0 a.1 b.1,
  map-append text_bytes a.0 b.0 ∙ (ap (λ l. l ++ map text_bytes b.0) a.2 ∙ ap (λ l. us ++ l) b.2),
)

pub counts_none : (v : View) → Counts [] [] v v
counts_none v = record {
  pushes = [];
  pops = [];
  deeds = sym (did_none _);
  pushed_words = ([], tt, refl);
  popped_words = ([], tt, refl);
  more = more_none v.1;
}

pub counts_then : (us ws xs ys : List (List ℕ)) (a b c : View) → Counts us ws a b → Counts xs ys b c
    → Counts (us ++ xs) (ws ++ ys) a c
counts_then us ws xs ys a b c first second = record {
  pushes = first.pushes ++ second.pushes;
  pops = first.pops ++ second.pops;
  deeds = second.deeds ∙ (ap (did second.pushes second.pops) first.deeds
      ∙ did_then _ first.pushes first.pops second.pushes second.pops);
  pushed_words = words_both c.1 first.pushes second.pushes us xs
      (words_more b.1 c.1 first.pushes us second.more.knows first.pushed_words) second.pushed_words;
  popped_words = words_both c.1 first.pops second.pops ws ys
      (words_more b.1 c.1 first.pops ws second.more.knows first.popped_words) second.popped_words;
  more = more_then a.1 b.1 c.1 first.more second.more;
}

-- TALLIES
times_append : (w : List ℕ) (xs ys : List (List ℕ)) → times w (xs ++ ys) ≡ times w xs + times w ys
times_append w xs ys = sum_by-append (λ (x : List ℕ). cond (bytes_eq w x) 1 0) xs ys

pub tallies_none : (t : List (List ℕ × ℕ)) → Tallies [] t t
tallies_none t = record { counts = λ w. omega arith; sum = omega arith }

if_cond : (b : Bool) → 0 + cond b 1 0 ≡ (if b then 1 else 0)
if_cond true = refl
if_cond false = refl

times_one : (v w : List ℕ) → times v (w ∷ []) ≡ (if bytes_eq v w then 1 else 0)
times_one v w = if_cond (bytes_eq v w)

pub tallies_one : (w : List ℕ) (s t : List (List ℕ × ℕ)) → CountsOneMore s t w
    → Tallies (w ∷ []) s t
tallies_one w s t more = record {
  counts = λ v. let c = more.counts v in let o = times_one v w in omega arith;
  sum = let c = more.total in omega arith;
}

pub tallies_then : (us ws : List (List ℕ)) (r s t : List (List ℕ × ℕ)) → Tallies us r s
    → Tallies ws s t → Tallies (us ++ ws) r t
tallies_then us ws r s t first second = record {
  counts = λ w. let a = first.counts w in let b = second.counts w in
      let c = times_append w us ws in omega arith;
  sum = let a = first.sum in let b = second.sum in let c = length-append us ws in omega arith;
}

-- TAKES. What a call pushed before a take, and a take after a call that pushed and popped nothing
module _ (n : ℕ) (u v w : View) (before after : List (List ℕ × ℕ)) where
  pub takes_then : (word : List ℕ) → Counts (word ∷ []) [] u v → Takes [] n v w before after
      → Takes (word ∷ []) n u w before after
  takes_then word first take' = record {
    words = take'.words;
    number = take'.number;
    counts = counts_then (word ∷ []) [] [] take'.words u v w first take'.counts;
    tallies = take'.tallies;
  }

  pub takes_later : (pushed : List (List ℕ)) → Counts [] [] u v → Takes pushed n v w before after
      → Takes pushed n u w before after
  takes_later pushed first take' = record {
    words = take'.words;
    number = take'.number;
    counts = counts_then [] [] pushed take'.words u v w first take'.counts;
    tallies = take'.tallies;
  }

pub takes_none : (v : View) (t : List (List ℕ × ℕ)) → Takes [] 0 v v t t
takes_none v t = record {
  words = [];
  number = refl;
  counts = counts_none v;
  tallies = tallies_none t;
}

-- one take after others
pub takes_more : (m n : ℕ) (u v w : View) (r s t : List (List ℕ × ℕ)) → Takes [] m u v r s
    → Takes [] n v w s t → Takes [] (m + n) u w r t
takes_more m n u v w r s t first second = record {
  words = first.words ++ second.words;
  number = let a = first.number in let b = second.number in
      let c = length-append first.words second.words in omega arith;
  counts = counts_then [] first.words [] second.words u v w first.counts second.counts;
  tallies = tallies_then first.words second.words r s t first.tallies second.tallies;
}

-- which popped none, or one
module _ (n : ℕ) (one : Bool) (u v w : View) (r s t : List (List ℕ × ℕ))
    (first : Takes [] n u v r s) (second : Takes [] (cond one 1 0) v w s t) where
  both : Takes [] (n + cond one 1 0) u w r t
  both = takes_more n (cond one 1 0) u v w r s t first second

  pub takes_last : one ≡ false → Takes [] n u w r t
  takes_last is =
      let number : Bool → ℕ = λ b. cond b 1 0 in let e : number one ≡ 0 = ap number is in
      subst (λ k. Takes [] k u w r t) (omega (arith, e)) both

  pub takes_next : one ≡ true → Takes [] (n + 1) u w r t
  takes_next is =
      let number : Bool → ℕ = λ b. cond b 1 0 in let e : number one ≡ 1 = ap number is in
      subst (λ k. Takes [] k u w r t) (omega (arith, e)) both

pub counted_most : (pushed : List (List ℕ)) (v w : View) (before after : List (List ℕ × ℕ))
    → (one : Bool) × Takes pushed (cond one 1 0) v w before after
    → total_of after ≤ total_of before + 1
counted_most pushed v w before after got =
    let words = got.1.number in let sum = got.1.tallies.sum in
    let most = at_most got.0 in omega arith
  where
    at_most : (one : Bool) → cond one 1 0 ≤ 1
    at_most true = omega arith
    at_most false = omega arith
