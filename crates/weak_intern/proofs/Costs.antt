-- What the visits of a walk cost, one after another.
use Rattle.std.proofs.Common.{◌≡◌, ◌≢◌, ℕ, ◌+◌, Bool, true, false, List, [], ◌∷◌, ◌++◌, refl, sym, ap, ◌∙◌, append_assoc, arith, Some, None, inl, inr}
use Rattle.std.specs.Prelude.{◌⊎◌, Option}
use Rattle.std.proofs.lemmas.List.{append-nil}
use Rattle.atomic_weak.specs.plain_state.declared.slot.SlotId.{SlotId}
use Rattle.atomic_weak.specs.core_events.declared.view.CoreView.{CoreView}
use Rattle.atomic_weak.specs.core_events.declared.view.Move.{Move}
use Rattle.weak_intern.specs.Costs.{PassesBy, dead_by, ended_in, moves_of}
use Rattle.weak_intern.specs.Sighting.{Visit, Visits, visited_by, with_added}

none : (n : ℕ) → n ≡ n + 0
none n = omega arith

pub passes_none : (payload : List ℕ) (v : CoreView) → PassesBy payload v v
passes_none payload v = record {
  visits = [];
  passing = tt;
  core = λ i. record v { adds = none v.adds i; trail = sym (append-nil v.trail) i };
}

-- a visit that counts nothing uses no more adds than it found zero flags
calm_visit : (how : Option Bool) (s : SlotId) (v : CoreView) (t : List Move) → how ≢ Some true
    → record (with_added how s v) { trail = t }
    ≡ record v { adds = v.adds + dead_by how; trail = t }
calm_visit None s v t not = λ i. record v { adds = none v.adds i; trail = t }
calm_visit (Some true) s v t not = absurd (not refl)
calm_visit (Some false) s v t not = refl

module _ (payload : List ℕ) (u v w : CoreView) (i : ℕ) (s : SlotId) (how : Option Bool)
    (not : how ≢ Some true) (first : PassesBy payload u v) (last : Visits i s payload how v w)
  where
    abbrev one : Visit
    one = record {
      cell = i;
      slot = s;
      word = last.word;
      lost = last.lost;
      words = last.words;
      how = how;
    }

    sums : (u.adds + ended_in first.visits) + dead_by how
        ≡ u.adds + (ended_in first.visits + dead_by how)
    sums = omega arith

    pub passes_then : PassesBy payload u w
    passes_then = record {
      visits = one ∷ first.visits;
      passing = ((last.few, not, last.all), first.passing);
      core =
          last.core
          ∙ (calm_visit how s v (v.trail ++ visited_by one) not
          ∙ (ap (λ (x : CoreView). record x {
            adds = x.adds + dead_by how;
            trail = x.trail ++ visited_by one;
          }) first.core
          ∙ (λ k. record u {
            adds = sums k;
            trail = append_assoc u.trail (moves_of first.visits) (visited_by one) k;
          })));
    }

pub passes_either : (payload : List ℕ) (u v w : CoreView) (i : ℕ) (s : SlotId)
    → PassesBy payload u v
    → Visits i s payload None v w ⊎ Visits i s payload (Some false) v w → PassesBy payload u w
passes_either payload u v w i s first (inl last) =
    passes_then payload u v w i s None (λ is. cc (is)) first last
passes_either payload u v w i s first (inr last) =
    passes_then payload u v w i s (Some false) (λ is. cc (is)) first last
