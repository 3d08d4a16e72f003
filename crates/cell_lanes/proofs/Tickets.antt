-- Files of tickets, one after the other.
use Rattle.std.proofs.Common.{◌≡◌, ℕ, zero, suc, ◌+◌, ◌-◌, ◌<◌, Bool, true, false, List, [], ◌∷◌, ◌++◌, refl, sym, ap, subst, ◌∙◌, append_assoc, arith}
use Rattle.std.specs.Prelude.{cond, drop, length, map, take}
use Rattle.std.specs.List.{filter, range_with_len}
use Rattle.std.proofs.lemmas.List.{append-nil, drop_at, map-append, take_at}
use Rattle.std.proofs.lemmas.List.Concat.{flat_map-append}
use Rattle.std.proofs.lemmas.List.Elements.{filter-append}
use Rattle.std.proofs.lemmas.List.FromFn.{map-range_with_len_more}
use Rattle.cell_intern.specs.cell_calls.cell_law.declared.view.View.{View}
use Rattle.cell_intern.specs.cell_calls.cell_protocol.declared.law.CellLaw.{CellLaw}
use Rattle.cell_intern.specs.epoch_refs.epoch_domain.Domains.{DomainState}
use Rattle.cell_intern.specs.epoch_refs.epoch_domain.Seats.{SeatState}
use Rattle.lane_work.specs.Keeping.{slots_of}
use Rattle.lane_work.specs.Work.{is_last, kept_files, words_of, words_of_all}
use Rattle.lane_work.specs.counted_handles.Handles.{Handle}
use Rattle.lane_work.specs.declared.lane.Lane.{Lane}
use Rattle.lane_work.specs.declared.work.Work.{Work}
use Rattle.cell_lanes.specs.Counting.{Counts, CountsFile}
use Rattle.cell_lanes.specs.Keeping.{GivesUp}
use Rattle.cell_lanes.specs.Lanes.{CountsTickets, is_taken, taken_of}
use Rattle.cell_rest.specs.Kept.{TellsFiles}
use Rattle.cell_lanes.proofs.Counted.{all_slots, counts_given, counts_none, counts_then}
use Rattle.cell_rest.proofs.Joining.{tells_both, tells_more}
use Rattle.cell_lanes.proofs.Viewed.{listed_on}

-- WHICH TICKETS
map_same : {A : Type 0} (xs : List A) → map (λ (x : A). x) xs ≡ xs
map_same [] = refl
map_same (x ∷ xs) = ap (λ ys. x ∷ ys) (map_same xs)

pub range_more : (n : ℕ) → range_with_len 0 (n + 1) ≡ range_with_len 0 n ++ n ∷ []
range_more n =
    sym (map_same (range_with_len 0 (n + 1)))
    ∙ map-range_with_len_more (λ (x : ℕ). x) 0 n n (omega arith)
    ∙ ap (λ xs. xs ++ n ∷ []) (map_same (range_with_len 0 n))

module _ (work : Work) (lanes number : ℕ) where
  pub taken_none : taken_of work lanes number 0 ≡ []
  unfolding taken_of
  taken_none = refl

  pub taken_more : (n : ℕ) → taken_of work lanes number (n + 1)
      ≡ taken_of work lanes number n ++ cond (is_taken work lanes number n) (n ∷ []) []
  unfolding taken_of
  taken_more n =
      ap (filter (is_taken work lanes number)) (range_more n)
      ∙ filter-append (is_taken work lanes number) (range_with_len 0 n) (n ∷ [])

  pub taken_next : (n : ℕ) → is_taken work lanes number n ≡ true
      → taken_of work lanes number (n + 1) ≡ taken_of work lanes number n ++ n ∷ []
  taken_next n is = taken_more n
      ∙ ap (λ (b : Bool). taken_of work lanes number n ++ cond b (n ∷ []) []) is

  pub taken_same : (n : ℕ) → is_taken work lanes number n ≡ false
      → taken_of work lanes number (n + 1) ≡ taken_of work lanes number n
  taken_same n is = taken_more n
      ∙ ap (λ (b : Bool). taken_of work lanes number n ++ cond b (n ∷ []) []) is
      ∙ append-nil (taken_of work lanes number n)

-- WHICH WORDS
pub words_both : (work : Work) (ts us : List ℕ)
    → words_of_all work (ts ++ us) ≡ words_of_all work ts ++ words_of_all work us
unfolding words_of_all
words_both work ts us = flat_map-append (words_of work) ts us

words_none : (work : Work) → words_of_all work [] ≡ []
unfolding words_of_all
words_none work = refl

pub words_one : (work : Work) (t : ℕ) → words_of_all work (t ∷ []) ≡ words_of work t
unfolding words_of_all
words_one work t = append-nil (words_of work t)

kept_both : (work : Work) (ts us : List ℕ)
    → kept_files work (ts ++ us) ≡ kept_files work ts ++ kept_files work us
kept_both work ts us =
    ap (map (words_of work)) (filter-append (is_last work) ts us)
    ∙ map-append (words_of work) (filter (is_last work) ts) (filter (is_last work) us)

-- those of the first n tickets are at the front of those of more
pub taken_front : (work : Work) (lanes number n k : ℕ)
    → (vs : List (List ℕ)) × (words_of_all work (taken_of work lanes number (n + k))
    ≡ words_of_all work (taken_of work lanes number n) ++ vs)
taken_front work lanes number n zero = (
  [],
  ap (λ m. words_of_all work (taken_of work lanes number m)) (omega arith)
      ∙ sym (append-nil (words_of_all work (taken_of work lanes number n))),
)
taken_front work lanes number n (suc k) =
    let rest = taken_front work lanes number n k in
    let last = cond (is_taken work lanes number (n + k)) ((n + k) ∷ []) [] in (
      rest.0 ++ words_of_all work last,
      ap (λ m. words_of_all work (taken_of work lanes number m)) (more n k)
          ∙ ap (words_of_all work) (taken_more work lanes number (n + k))
          ∙ words_both work (taken_of work lanes number (n + k)) last
          ∙ ap (λ ws. ws ++ words_of_all work last) rest.1
          ∙ append_assoc (words_of_all work (taken_of work lanes number n)) rest.0
          (words_of_all work last),
    )
  where
    more : (n k : ℕ) → n + suc k ≡ (n + k) + 1
    more n k = omega arith

-- the words of the next ticket that is taken stand there too
pub taken_words : (work : Work) (lanes number n all : ℕ) → n < all
    → is_taken work lanes number n ≡ true
    → (vs : List (List ℕ)) × (words_of_all work (taken_of work lanes number all)
    ≡ (words_of_all work (taken_of work lanes number n) ++ words_of work n) ++ vs)
taken_words work lanes number n all less is =
    let front = taken_front work lanes number (n + 1) (all - (n + 1)) in (
      front.0,
      ap (λ m. words_of_all work (taken_of work lanes number m)) (at n all less)
          ∙ front.1
          ∙ ap (λ ws. ws ++ front.0)
          (ap (words_of_all work) (taken_next work lanes number n is)
          ∙ words_both work (taken_of work lanes number n) (n ∷ [])
          ∙ ap (λ ws. words_of_all work (taken_of work lanes number n) ++ ws) (words_one work n)),
    )
  where
    at : (n all : ℕ) → n < all → all ≡ (n + 1) + (all - (n + 1))
    at n all less = omega arith

-- TICKETS
module _ (d : DomainState CellLaw) (work : Work) where
  pub tickets_none : (a : SeatState View) (lane : Lane) → CountsTickets d work [] a a lane lane
  unfolding counts_none words_of_all
  tickets_none a lane = record {
    counts = counts_none d a lane lane refl refl refl refl;
    tells = refl;
  }

  -- by the words of the tickets
  tickets_by : (tickets : List ℕ) (ws : List (List ℕ)) (a b : SeatState View) (la lb : Lane)
      → words_of_all work tickets ≡ ws
      → (k : Counts d ws a b la lb) × TellsFiles (kept_files work tickets) (slots_of k.more)
      b.view.client
      → CountsTickets d work tickets a b la lb
  tickets_by tickets ws a b la lb same pair =
      let whole = subst (λ (xs : List (List ℕ)). (k : Counts d xs a b la lb)
      × TellsFiles (kept_files work tickets) (slots_of k.more) b.view.client) (sym same) pair in
      record { counts = whole.0; tells = whole.1 }

  -- one file, whose records are kept
  module _ (t : ℕ) (a b c : SeatState View) (la lb lc : Lane)
      (file : CountsFile d (words_of work t) a b la lb) where
    files_of : (x : Bool) → is_last work t ≡ x
        → kept_files work (t ∷ []) ≡ cond x (words_of work t ∷ []) []
    files_of x is = ap (λ (b : Bool). map (words_of work) (cond b (t ∷ []) [])) is ∙ mapped x
      where
        mapped : (y : Bool)
            → map (words_of work) (cond y (t ∷ []) []) ≡ cond y (words_of work t ∷ []) []
        mapped true = refl
        mapped false = refl

    pub ticket_kept : is_last work t ≡ true → CountsTickets d work (t ∷ []) a b la lb
    ticket_kept is = tickets_by (t ∷ []) (words_of work t) a b la lb (words_one work t) (
      file.counts,
      subst (λ fs. TellsFiles fs (slots_of file.counts.more) b.view.client)
          (sym (files_of true is)) (
            slots_of file.counts.more,
            [],
            file.tells,
            refl,
            sym (append-nil (slots_of file.counts.more)),
          ),
    )

    -- or given up: those behind the first ones, which were kept before
    module _ (first : ℕ) (at : length la.keeper.kept.items ≡ first)
        (gives : GivesUp (slots_of (drop first lb.keeper.kept.items)) b c) where
      gone : GivesUp (slots_of file.counts.more) b c
      gone = subst (λ (hs : List Handle). GivesUp (slots_of hs) b c)
          (ap (drop first) file.counts.kept
          ∙ drop_at la.keeper.kept.items file.counts.more first at) gives

      left : lc.keeper.kept.items ≡ take first lb.keeper.kept.items
          → lc.keeper.kept.items ≡ la.keeper.kept.items
      left kept = kept ∙ ap (take first) file.counts.kept
          ∙ take_at la.keeper.kept.items file.counts.more first at

      pub ticket_given : is_last work t ≡ false → c.view.client ≡ b.view.client
          → lc.tally ≡ lb.tally → lc.keeper.kept.items ≡ take first lb.keeper.kept.items
          → lc.number ≡ lb.number → lc.turn ≡ lb.turn
          → CountsTickets d work (t ∷ []) a c la lc
      unfolding counts_given
      ticket_given is same tally kept number turn =
          tickets_by (t ∷ []) (words_of work t) a c la lc (words_one work t) (
            counts_given d (words_of work t) a b c la lb lc file.counts gone same tally (left kept)
                number turn,
            subst (λ fs. TellsFiles fs [] c.view.client) (sym (files_of false is)) refl,
          )

  -- one after the other
  pub tickets_then : (ts us : List ℕ) (a b c : SeatState View) (la lb lc : Lane)
      → CountsTickets d work ts a b la lb → CountsTickets d work us b c lb lc
      → CountsTickets d work (ts ++ us) a c la lc
  unfolding counts_then
  tickets_then ts us a b c la lb lc first second =
      tickets_by (ts ++ us) (words_of_all work ts ++ words_of_all work us) a c la lc
      (words_both work ts us) (
        counts_then d (words_of_all work ts) (words_of_all work us) a b c la lb lc first.counts
            second.counts,
        subst (λ ss. TellsFiles (kept_files work (ts ++ us)) ss c.view.client)
            (sym (all_slots d (words_of_all work ts) (words_of_all work us) a b c la lb lc
            first.counts second.counts))
            (subst (λ fs. TellsFiles fs (slots_of first.counts.more ++ slots_of second.counts.more)
            c.view.client) (sym (kept_both work ts us))
            (tells_both c.view.client (kept_files work ts) (kept_files work us)
            (slots_of first.counts.more) (slots_of second.counts.more)
            (tells_more b.view.client c.view.client
            (λ e is. listed_on (words_of_all work us) b.view.client c.view.client e
            second.counts.grows is)
            (kept_files work ts) (slots_of first.counts.more) first.tells) second.tells)),
      )
