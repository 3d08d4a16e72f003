-- A record that was passed on, after it was interned.
use Rattle.std.proofs.Common.{◌≡◌, inl, inr, ⊎_elim, ℕ, ◌<◌, ◌≤◌, Bool, false, List, [], ◌∷◌, ◌++◌, refl, sym, subst, arith}
use Rattle.std.specs.Prelude.{Err, Ok, OnOk, Result, cond, slice_index_or}
use Rattle.control_word.specs.plain_state.declared.slot.SlotId.{SlotId}
use Rattle.control_word.specs.plain_state.Lists.{times}
use Rattle.control_word.proofs.Below.core_law_Kit.{one_same, times_push}
use Rattle.control_word.specs.acquire_retire.Domains.{DomainState}
use Rattle.control_word.specs.acquire_retire.Seats.{SeatState}
use Rattle.control_word.specs.Calls.{DropsStrong}
use Rattle.control_word.specs.Resting.{IsSpent}
use Rattle.control_word.specs.domain_rule.Views.{object_in}
use Rattle.std.proofs.lemmas.List.Elements.{All-from_get_or}
use Rattle.words_protocol.specs.directory_law.Bytes.{text_bytes}
use Rattle.words_protocol.specs.directory_law.Payloads.{Text}
use Rattle.words_protocol.proofs.Below.directory_law_Bytes.{text_tells}
use Rattle.weak_intern.specs.Knowing.{Knows, KnowsRecord}
use Rattle.words_protocol.specs.words_law.Views.{View}
use Rattle.words_protocol.specs.declared.law.WordsLaw.{WordsLaw}
use Rattle.lane_files.specs.declared.refusal.PieceError.{PieceError}
use Rattle.lane_files.specs.declared.refusal.PieceError.TheVariants as refused
use Rattle.lane_files.specs.Passed.{Counts, Takes}
use Rattle.lane_files.specs.Pieces.{CountsPiece, InternsFirst, IsWhyNotCounted, IsWhyNotPassed, PassesOn, used_of}
use Rattle.lane_files.specs.Ready.{Owns}
use Rattle.lane_files.specs.declared.refusal.LaneError.{LaneError}
use Rattle.lane_files.specs.declared.refusal.LaneError.TheVariants as lane
use Rattle.lane_files.specs.Whys.{FindsNoItem, IsWhyNotTaken}
use Rattle.lane_files.proofs.Copied.{drop_then, knows_still}
use Rattle.lane_files.proofs.PiecesCounted.{takes_later, takes_then}
use Rattle.lane_files.proofs.Offered.{texts}
use Rattle.lane_files.proofs.SeatsKept.{spent_drop}

-- what holds where a call wasn't refused, of one that wasn't
pub ok_unless : {T E P : Type 0} (r : Result T E) → ((error : E) → ¬ (r ≡ Err error)) → OnOk r P → P
ok_unless (Ok done) not is = is
ok_unless (Err error) not is = absurd (not error refl)

-- no word was counted, and then a reference was given up
taken_on : (why : LaneError) (a b c : SeatState View) (before after : List (List ℕ × ℕ))
    → IsWhyNotTaken why a b before after → c.view.client ≡ b.view.client
    → (IsSpent b.view.core → IsSpent c.view.core) → IsWhyNotTaken why a c before after
taken_on (lane.Refused why) a b c before after is same spent =
    (is.0, spent is.1, subst (λ (v : View). Counts [] [] a.view.client v) (sym same) is.2, is.3)
taken_on lane.OutOfMemory a b c before after is same spent = (
  is.0,
  subst (λ (v : View). Counts [] (is.0 ∷ []) a.view.client v) (sym same) is.1,
  is.2,
  is.3,
)

module _ (fits : List ℕ → Type 0) (d : DomainState WordsLaw) where
  -- a push and a take
  pub passed : (word : List ℕ) (one : Bool) (a b c : SeatState View)
      (before after : List (List ℕ × ℕ)) → Counts (word ∷ []) [] a.view.client b.view.client
      → Takes [] (cond one 1 0) b.view.client c.view.client before after
      → (one ≡ false → FindsNoItem fits d b c) → PassesOn fits d word a c before after
  passed word one a b c before after first takes none = record {
    one = one;
    takes = takes_then (cond one 1 0) a.view.client b.view.client c.view.client before after word
        first takes;
    none = λ is. record { offered = b; pushes = first; finds = none is };
  }

  -- an intern, of which the seat knows the text, and what was passed on then
  module _ (piece : List ℕ) (small : (i : ℕ) → slice_index_or piece i 0 < 256) (s : SlotId)
      (a b : SeatState View) (first : InternsFirst d piece s a b) (known : KnowsRecord texts piece s b) where
    bytes : text_bytes known.0 ≡ piece
    bytes = text_tells piece known.0
        (All-from_get_or (λ byte. byte < 256) piece 0 (λ i inside. small i)) known.1

    module _ (c : SeatState View) (before after : List (List ℕ × ℕ))
        (passes : (text : Text) → Knows texts s text b
        → PassesOn fits d (text_bytes text) b c before after) where
      passes_on : PassesOn fits d piece b c before after
      passes_on = subst (λ (w : List ℕ). PassesOn fits d w b c before after) bytes
          (passes known.0 known.2)

      pub piece_steps : CountsPiece fits d piece s a c before after
      piece_steps = record { interned = b; first = first; passes = passes_on }

      pub piece_counts : (one : Bool)
          × Takes (piece ∷ []) (cond one 1 0) a.view.client c.view.client before after
      piece_counts = (
        passes_on.one,
        takes_later (cond passes_on.one 1 0) a.view.client b.view.client c.view.client before after
            (piece ∷ []) first.idle passes_on.takes,
      )

      pub piece_knows : object_in c.view s ≡ object_in b.view s → KnowsRecord texts piece s c
      piece_knows same = (
        known.0,
        known.1,
        knows_still s known.0 b c passes_on.takes.counts.more same known.2,
      )

    -- it stopped there, and gave the record up
    module _ (c e : SeatState View) (same : e.view.client ≡ c.view.client)
        (drops : DropsStrong fits d s c e) (before after : List (List ℕ × ℕ))
        (error : PieceError) (why : (text : Text) → Knows texts s text b
        → IsWhyNotPassed fits d (text_bytes text) s error b c before after) where
      spent : IsSpent c.view.core → IsSpent e.view.core
      spent = spent_drop fits d s c e drops

      why_last : IsWhyNotPassed fits d piece s error b c before after
      why_last = subst (λ (w : List ℕ). IsWhyNotPassed fits d w s error b c before after) bytes
          (why known.0 known.2)

      stops : (x : PieceError) → IsWhyNotPassed fits d piece s x b c before after
          → IsWhyNotCounted fits d piece x a e before after × (used_of x ≡ 1)
      stops (refused.Interning why) is = absurd is
      stops (refused.Offering why) is = (
        record {
          slot = s;
          interned = b;
          first = first;
          why = (
            ⊎_elim (λ none. inl (none.0, none.1, spent none.2))
                (λ made. inr (record {
                  copied = made.copied;
                  refused = made.refused;
                  copies = made.copies;
                  not_offered = made.not_offered;
                  ends = drop_then fits d s s refl made.refused c e made.ends drops;
                  spent = λ x. spent (made.spent x);
                }))
                is.0,
            subst (λ (v : View). Counts [] [] b.view.client v) (sym same) is.1,
            is.2,
          );
        },
        refl,
      )
      stops (refused.Taking why) is = (
        record {
          slot = s;
          interned = b;
          first = first;
          why = (
            is.0,
            is.1,
            taken_on why is.0 c e before after is.2 same spent,
          );
        },
        refl,
      )

      pub piece_stops : IsWhyNotCounted fits d piece error a e before after
      piece_stops = (stops error why_last).0

      pub piece_used : used_of error ≡ 1
      piece_used = (stops error why_last).1

-- THE REFERENCE to the record, which the seat owns beside the others
module _ (s : SlotId) (os : List SlotId) (a b c : SeatState View)
    (first : Owns (os ++ s ∷ []) a b) where
  pub one_more : 0 < times s b.view.core.owned
  one_more =
      let p = first.strongly s in let q = times_push s s os in let r = one_same s s refl in
      omega arith

  pub had_more : (x : SlotId) → times x os ≤ times x (os ++ s ∷ [])
  had_more x = let p = times_push x s os in omega arith

  module _ (second : Owns b.view.core.owned b c) where
    pub still_more : 0 < times s c.view.core.owned
    still_more = let p = second.strongly s in let q = one_more in omega arith

    pub same_record : object_in c.view s ≡ object_in b.view s
    same_record =
        let p = one_more in let q = still_more in
        second.knows s (omega (arith, p)) (omega (arith, q))
