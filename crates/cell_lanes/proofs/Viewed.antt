-- How views grow one after another, and what they go on to tell.
use Rattle.std.proofs.Common.{◌≡◌, ⊎_elim, ℕ, ◌+◌, ◌≤◌, List, [], ◌∷◌, ◌++◌, refl, sym, ap, subst, ◌∙◌, append_assoc, arith}
use Rattle.std.specs.Prelude.{length, map}
use Rattle.std.proofs.lemmas.List.{length-append, length-map, map-append}
use Rattle.cell_intern.specs.cell_calls.Cells.{BindsAlone}
use Rattle.cell_intern.specs.cell_calls.cell_law.Views.{bound_in, texts_of}
use Rattle.cell_intern.specs.cell_calls.cell_law.declared.view.View.{View}
use Rattle.cell_intern.specs.cell_calls.cell_law.directory_law.Views.{In, rope}
use Rattle.cell_intern.specs.cell_calls.cell_law.directory_law.declared.view.Rope.{Rope}
use Rattle.cell_intern.specs.cell_calls.cell_law.plain_state.declared.slot.SlotId.{SlotId}
use Rattle.cell_rest.proofs.Below.cell_law_Kit.{in_either}
use Rattle.cell_intern.specs.cell_calls.cell_protocol.declared.law.CellLaw.{CellLaw}
use Rattle.directory_law.proofs.Notes.{in_left, in_right}
use Rattle.cell_intern.specs.epoch_refs.epoch_domain.Domains.{DomainState}
use Rattle.cell_intern.specs.epoch_refs.epoch_domain.Seats.{SeatState}
use Rattle.cell_intern.specs.epoch_refs.epoch_rule.Views.{object_in}
use Rattle.cell_intern.specs.record_texts.Texts.{text_of}
use Rattle.cell_intern.proofs.Below.record_texts_Packed.{is_text_of}
use Rattle.cell_intern.specs.Interning.{BindsMore, Grows, Has}
use Rattle.cell_lanes.specs.Counting.{GrowsBy}
use Rattle.cell_lanes.proofs.Tallied.{times_append}
use Rattle.cell_rest.specs.Kept.{TellsWord, told_by}

-- GROWTH
unfoldable pub grows_none : (v : View) → GrowsBy [] v v
grows_none v = record {
  saw = λ e is. is;
  found = λ e is. is;
  heads = [];
  bound = refl;
  made = [];
  texts = refl;
  few = omega arith;
  once = λ x. omega arith;
  among = λ x is. is;
  joined = refl;
  grant = refl;
  cleared = refl;
}

module _ (us ws : List (List ℕ)) (u v w : View) (a : GrowsBy us u v) (b : GrowsBy ws v w) where
  unfoldable pub grows_then : GrowsBy (us ++ ws) u w
  grows_then = record {
    saw = λ e is. b.saw e (a.saw e is);
    found = λ e is. b.found e (a.found e is);
    heads = b.heads ++ a.heads;
    bound = b.bound ∙ ap (λ es. b.heads ++ es) a.bound
        ∙ sym (append_assoc b.heads a.heads u.bound);
    made = b.made ++ a.made;
    texts = map-append (λ (e : Rope). e.text) b.heads a.heads
        ∙ ap (λ ts. ts ++ texts_of a.heads) b.texts
        ∙ ap (λ ts. map text_of b.made ++ ts) a.texts
        ∙ sym (map-append text_of b.made a.made);
    few = let p = length-append b.made a.made in let q = length-append us ws in
        let m = a.few in let n = b.few in omega arith;
    once = λ x. let p = times_append x b.made a.made in let q = times_append x us ws in
        let m = a.once x in let n = b.once x in omega arith;
    among = λ x is. ⊎_elim (λ (i : In x b.made). in_right x us ws (b.among x i))
        (λ (i : In x a.made). in_left x us ws (a.among x i)) (in_either x b.made a.made is);
    joined = b.joined ∙ a.joined;
    grant = b.grant ∙ a.grant;
    cleared = b.cleared ∙ a.cleared;
  }

-- no more heads than words
pub grown_few : (words : List (List ℕ)) (v w : View) → GrowsBy words v w
    → length w.bound ≤ length v.bound + length words
grown_few words v w grows =
    let b = ap length grows.bound in let p = length-append grows.heads v.bound in
    let t = ap length grows.texts in let h = length-map grows.heads (λ (e : Rope). e.text) in
    let m = length-map grows.made text_of in let f = grows.few in omega arith

-- who binds alone does so still
pub alone_on : (d : DomainState CellLaw) (words : List (List ℕ)) (a b : SeatState View)
    → GrowsBy words a.view.client b.view.client → BindsAlone d a → BindsAlone d b
alone_on d words a b grows alone = grows.grant ∙ alone

-- ONE WORD that was interned
module _ (word : List ℕ) (v w : View) (grows : Grows (text_of word) v w) where
  unfoldable pub grows_quiet : w.bound ≡ v.bound → GrowsBy (word ∷ []) v w
  grows_quiet same = record {
    saw = grows.saw;
    found = grows.found;
    heads = [];
    bound = same;
    made = [];
    texts = refl;
    few = omega arith;
    once = λ x. omega arith;
    among = λ x is. absurd is;
    joined = grows.joined;
    grant = grows.grant;
    cleared = grows.cleared;
  }

  unfoldable pub grows_more : BindsMore (text_of word) v w → GrowsBy (word ∷ []) v w
  grows_more more = record {
    saw = grows.saw;
    found = grows.found;
    heads = more.0 ∷ [];
    bound = more.2;
    made = word ∷ [];
    texts = ap (λ t. t ∷ []) more.1;
    few = omega arith;
    once = λ x. omega arith;
    among = λ x is. is;
    joined = grows.joined;
    grant = grows.grant;
    cleared = grows.cleared;
  }

-- WHAT IS TOLD
module _ (word : List ℕ) (s : SlotId) (seat : SeatState View) where
  abbrev v : View
  v = seat.view.client

  abbrev e : Rope
  e = rope s (object_in seat.view s).life (text_of word)

  pub has_tells : 1 ≤ length word → length word ≤ 4096 → Has (text_of word) s seat
      → TellsWord seat.view.client word s
  has_tells some few has' = (
    (object_in seat.view s).life,
    text_of word,
    is_text_of word some few,
    ⊎_elim
        (λ (i : In e v.found). in_left e v.found (bound_in v) i)
        (λ (i : In e v.bound). in_right e v.found (bound_in v) (in_left e v.bound v.joined i))
        has'.listed,
  )

pub listed_on : (words : List (List ℕ)) (v w : View) (e : Rope) → GrowsBy words v w
    → In e (told_by v) → In e (told_by w)
listed_on words v w e grows is =
    ⊎_elim (λ (i : In e v.found). in_left e w.found (bound_in w) (grows.found e i))
    (λ (i : In e (bound_in v)). in_right e w.found (bound_in w)
    (⊎_elim
    (λ (j : In e v.bound). in_left e w.bound w.joined
    (subst (In e) (sym grows.bound) (in_right e grows.heads v.bound j)))
    (λ (j : In e v.joined). in_right e w.bound w.joined (subst (In e) (sym grows.joined) j))
    (in_either e v.bound v.joined i)))
    (in_either e v.found (bound_in v) is)

pub tells_on : (words : List (List ℕ)) (v w : View) (word : List ℕ) (s : SlotId)
    → GrowsBy words v w → TellsWord v word s → TellsWord w word s
tells_on words v w word s grows tells = (
  tells.0,
  tells.1,
  tells.2,
  listed_on words v w (rope s tells.0 tells.1) grows tells.3,
)
