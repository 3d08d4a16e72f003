-- Once seat 0 is alone, its view has all.
use Rattle.std.specs.Prelude.{if◌then◌else◌}
use Rattle.std.specs.List.{flat_map}
use Rattle.std.proofs.Common.{◌≡◌, ◌≢◌, ◌⊎◌, ℕ, suc, ◌<◌, ◌≤◌, true, List, [], ◌∷◌, ◌++◌, length, map, get_or, refl, sym, ap, subst, ◌∙◌, arith, Some, None}
use Rattle.std.proofs.lemmas.List.{append-nil}
use Rattle.cdrc_text.specs.Fold.{File, occurrences_in, times}
use Rattle.protocol_pairs.specs.plain_state.State.{Plain, seat_at}
use Rattle.protocol_pairs.specs.plain_protocol.Laws.{Meets}
use Rattle.protocol_pairs.specs.plain_protocol.Owns.{is_alone}
use Rattle.queue_law.specs.declared.view.Item.{Item}
use Rattle.queue_law.specs.declared.view.View.{View as QueueView}
use Rattle.queue_law.specs.Views as queue
use Rattle.queue_law.specs.Chain.{Ends}
use Rattle.queue_law.specs.Lists.{taken_items, item_times}
use Rattle.queue_law.proofs.Alone.{alone_at}
use Rattle.queue_law.proofs.Shut.{left_over}
use Rattle.directory_law.specs.declared.view.Rope.{Rope}
use Rattle.directory_law.specs.declared.view.View.{View as DirectoryView}
use Rattle.directory_law.specs.Bytes.{text_bytes}
use Rattle.directory_law.specs.Payloads.{Text, IsText}
use Rattle.directory_law.specs.Views.{In, rope}
use Rattle.directory_law.specs.Views as directory
use Rattle.directory_law.specs.Cells.{Area}
use Rattle.words_law.specs.Views.{View, gone, queues, directories}
use Rattle.words_law.specs.Law.{WasPushed, WordsLaw, head_of}
use Rattle.words_law.specs.Texts.{HasAll, HasRootText, PushesAre, WordsAgree, all_kept, all_popped, all_pushed, text_of_item, word_times, words_of}
use Rattle.words_law.specs.Fold.{added, gathered, taken_pieces}
use Rattle.words_law.specs.Known.{KnowsText, KnowsTexts}
use Rattle.words_law.proofs.Counts.{times_of_none, words_even}
use Rattle.words_law.proofs.Known.{told_words}
use Rattle.words_law.proofs.Parts.{directory_at, queue_at}
use Rattle.words_law.proofs.Taken.{taken_occurs, times_gathered}
use Rattle.words_law.proofs.Texts.{has_one, kept_all, known_has}

module _ {V X : Type 0} (none : V) (f : V → List X) (empty : f none ≡ []) where
  nothing_noted : (views : List V) → ((m : ℕ) → get_or views m none ≡ none) → flat_map f views ≡ []
  nothing_noted [] is = refl
  nothing_noted (v ∷ views) is =
      ap (λ l. l ++ flat_map f views) (ap f (is 0) ∙ empty)
      ∙ nothing_noted views (λ m. is (suc m))

  -- where all views but the first are those of seats that have left
  first_has : (views : List V) → ((m : ℕ) → m ≢ 0 → get_or views m none ≡ none)
      → flat_map f views ≡ f (get_or views 0 none)
  first_has [] is = sym empty
  first_has (v ∷ views) is =
      ap (λ l. f v ++ l) (nothing_noted views (λ m. is (suc m) (λ e. omega arith))) ∙ append-nil (f v)

module _ (u : Ends) (z : Area) (p : Plain) (views : List View)
    (meets : Meets (WordsLaw u z) p views) (alone : is_alone p 0 ≡ true) where
  abbrev root : View
  root = get_or views 0 gone

  others_left : (m : ℕ) → m ≢ 0 → (length p.seats ≤ m) ⊎ ((seat_at p m).left ≡ true)
  others_left = (alone_at p 0 p (ap (λ b. if b then Some p else None) alone)).2

  pub root_has : HasAll views root
  unfolding all_kept all_popped all_pushed
  root_has =
      let law = meets.law in
      let qs = queues views in
      let ds = directories views in
      let away : (m : ℕ) → m ≢ 0 → queue.view_at qs m ≡ queue.first_view =
      λ m ne. law.both.0.1 m (others_left m ne) in
      let gone_away : (m : ℕ) → m ≢ 0 → directory.view_at ds m ≡ directory.gone =
      λ m ne. law.left m (others_left m ne) in
      record {
        pushed = first_has queue.first_view (λ (v : QueueView). taken_items v.pushed) refl qs away
            ∙ ap (λ (v : QueueView). taken_items v.pushed) (queue_at views 0);
        popped = first_has queue.first_view (λ (v : QueueView). taken_items v.popped) refl qs away
            ∙ ap (λ (v : QueueView). taken_items v.popped) (queue_at views 0);
        kept = first_has directory.gone (λ (v : DirectoryView). v.kept) refl ds gone_away
            ∙ ap (λ (v : DirectoryView). v.kept) (directory_at views 0);
      }

  pub root_texts : (x : Item) → In x (taken_items root.0.pushed) → HasRootText root x
  root_texts x pushed =
      let law = meets.law in
      let ds = directories views in
      let was : WasPushed (queues views) x =
      (0, subst (λ (v : QueueView). In x (taken_items v.pushed)) (sym (queue_at views 0)) pushed) in
      let text = law.items x was in
      let one = has_one z p ds law.both.1 x text.0 text.1 in
      record {
        kept = subst (λ (es : List Rope). In (rope (head_of x) x.life (text_of_item es x)) es)
            root_has.kept (kept_all ds one.has.0
            (rope (head_of x) x.life (text_of_item (all_kept ds) x)) one.has.1);
        is = subst (λ (es : List Rope). IsText (text_of_item es x)) root_has.kept one.is;
      }

  pub root_knows : (x : Item) (text : Text) → KnowsText root.1 x text
      → text ≡ text_of_item root.1.kept x
  root_knows x text knows =
      let law = meets.law in
      let ds = directories views in
      let has = known_has z p ds law.both.1 x 0 text
      (subst (λ (v : DirectoryView). KnowsText v x text) (sym (directory_at views 0)) knows) in
      (has_one z p ds law.both.1 x text has).one text has
      ∙ ap (λ (es : List Rope). text_of_item es x) root_has.kept

  -- once all was popped, or nothing was left
  agree : PushesAre (queues views) [] → WordsAgree root
  agree even w =
      let all = root_has in
      let a = words_even root.1.kept w (queues views) [] even in
      let b = ap (word_times root.1.kept w) all.pushed in
      let c = ap (word_times root.1.kept w) all.popped in
      let d = times_of_none root.1.kept w in omega arith

  pub shut_agree : 3 ≤ root.0.stand.laid → root.0.stand.left ≡ [] → WordsAgree root
  shut_agree shut none =
      let law = meets.law in
      let at = queue_at views 0 in
      let over = left_over u p (queues views) law.both.0.0
      (subst (λ (v : QueueView). 3 ≤ v.stand.laid) (sym at) shut) in
      agree (λ x.
      let e = over.even x in
      let n = ap (item_times x) (ap (λ (v : QueueView). v.stand.left) at ∙ none) in omega arith)

  pub root_words : (xs : List Item) (ts : List Text) → KnowsTexts root.1 xs ts
      → words_of root.1.kept xs ≡ map text_bytes ts
  root_words xs ts knows = told_words root.1.kept root.1 root_knows xs ts knows

  pub told_agree : 3 ≤ root.0.stand.laid → root.0.stand.left ≡ [] → (ts us : List Text)
      → KnowsTexts root.1 (taken_items root.0.pushed) ts
      → KnowsTexts root.1 (taken_items root.0.popped) us
      → (w : List ℕ)
      → times w (map text_bytes ts) ≡ times w (map text_bytes us)
  told_agree shut none ts us pushed popped w =
      let a = root_words (taken_items root.0.pushed) ts pushed in
      let b = root_words (taken_items root.0.popped) us popped in
      ap (times w) (sym a) ∙ (shut_agree shut none w ∙ ap (times w) b)

  -- where the pushed items have the words that seats took of files, those that seats popped are what occurs in them
  pub all_counted : 3 ≤ root.0.stand.laid → root.0.stand.left ≡ [] → (ts us : List Text)
      → KnowsTexts root.1 (taken_items root.0.pushed) ts
      → KnowsTexts root.1 (taken_items root.0.popped) us
      → (taker : ℕ → ℕ) (lanes rounds : ℕ) (files : List File) → ((k : ℕ) → taker k < lanes)
      → map text_bytes ts ≡ gathered (taken_pieces taker rounds files) lanes
      → (seats : ℕ) (words : ℕ → List (List ℕ)) → map text_bytes us ≡ gathered words seats
      → (w : List ℕ) → added (λ n. times w (words n)) seats ≡ occurrences_in w rounds files
  all_counted shut none ts us pushed popped taker lanes rounds files each took seats words read w =
      sym (times_gathered w words seats)
      ∙ (ap (times w) (sym read)
      ∙ (sym (told_agree shut none ts us pushed popped w)
      ∙ (ap (times w) took
      ∙ (times_gathered w (taken_pieces taker rounds files) lanes
      ∙ taken_occurs w taker lanes rounds files each))))
