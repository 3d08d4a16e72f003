-- No deed of a directory forgets what its seat saw, read or bound.
use Rattle.std.specs.Prelude.{◌==◌, if◌then◌else◌, Option, Some, None}
use Rattle.std.proofs.Common.{inr, ℕ, ◌+◌, ◌-◌, zero, suc, Bool, true, false, ◌∷◌}
use Rattle.protocol_pairs.specs.plain_state.declared.act.PlainAct.{PlainAct}
use Rattle.protocol_pairs.specs.plain_protocol.Owns.{Object, OwnPart}
use Rattle.directory_law.specs.declared.view.View.{View}
use Rattle.directory_law.specs.Cells.{Area}
use Rattle.directory_law.specs.Making.{bind_next, bound, first_noted, link_next, make_next}
use Rattle.directory_law.specs.Steps.{id, life_in, place_of, slot_in, weak_index}
use Rattle.directory_law.specs.Lessons.{draw_next, forget_next, lead_next, answer_next, read_next, reads_part, see_next, sees, spent, starts_at, upgrade_next}
use Rattle.directory_law.specs.Views.{note}
use Rattle.words_law.specs.Known.{ForgetsNothing}

-- a view of which something else has changed
same : (v : View) → ForgetsNothing v v
same v = record { knows = record { kept = λ e i. i; ran = λ e i. i }; saw = λ e i. i }

module _ (own after : OwnPart) (v : View) (step : PlainAct) where
  pub make_forgets : (found : ℕ) → ForgetsNothing v (make_next own after v step found)
  make_forgets found =
      record { knows = record { kept = λ e i. i; ran = λ e i. i }; saw = λ e i. i }

  pub link_forgets : (found : ℕ) → ForgetsNothing v (link_next own after v step found)
  link_forgets found =
      record { knows = record { kept = λ e i. i; ran = λ e i. i }; saw = λ e i. i }

  pub bind_forgets : (found : ℕ) → ForgetsNothing v (bind_next own after v step found)
  bind_forgets found = go (found == 0)
    where
      go : (b : Bool) → ForgetsNothing v (if b then bound (first_noted v.noted) v else v)
      go true = record { knows = record { kept = λ e i. inr i; ran = λ e i. i }; saw = λ e i. i }
      go false = same v

  pub see_forgets : (z : Area) (found : ℕ) → ForgetsNothing v (see_next z own after v step found)
  see_forgets z zero = same v
  see_forgets z (suc s) = go (after.objects (id s))
    where
      go : (o : Option Object) → ForgetsNothing v (sees (weak_index (place_of step) - z.first) (id s) o v)
      go None = same v
      go (Some o) =
          record { knows = record { kept = λ e i. i; ran = λ e i. i }; saw = λ e i. inr i }

  pub upgrade_forgets : (spends : Bool) (found : ℕ)
      → ForgetsNothing v (upgrade_next spends own after v step found)
  upgrade_forgets spends found = go (found == 0)
    where
      go : (b : Bool) → ForgetsNothing v
          (if b
          then record v {
            used = v.used + spent spends;
            ran = starts_at own (slot_in step) ∷ v.ran;
          }
          else record v { ended = note (slot_in step) (life_in own (slot_in step)) ∷ v.ended })
      go true = record { knows = record { kept = λ e i. i; ran = λ e i. inr i }; saw = λ e i. i }
      go false = record { knows = record { kept = λ e i. i; ran = λ e i. i }; saw = λ e i. i }

  pub lead_forgets : (found : ℕ) → ForgetsNothing v (lead_next own after v step found)
  lead_forgets found =
      record { knows = record { kept = λ e i. i; ran = λ e i. i }; saw = λ e i. i }

  pub read_forgets : (found : ℕ) → ForgetsNothing v (read_next own after v step found)
  read_forgets zero = same v
  read_forgets (suc s) = go (after.objects (id s))
    where
      go : (o : Option Object) → ForgetsNothing v (reads_part (id s) o v)
      go None = same v
      go (Some o) =
          record { knows = record { kept = λ e i. i; ran = λ e i. inr i }; saw = λ e i. i }

  pub answer_forgets : (spends : Bool) (found : ℕ)
      → ForgetsNothing v (answer_next spends own after v step found)
  answer_forgets spends found =
      record { knows = record { kept = λ e i. i; ran = λ e i. i }; saw = λ e i. i }

  pub forget_forgets : (found : ℕ) → ForgetsNothing v (forget_next own after v step found)
  forget_forgets found =
      record { knows = record { kept = λ e i. i; ran = λ e i. i }; saw = λ e i. i }

  pub draw_forgets : (z : Area) (found : ℕ) → ForgetsNothing v (draw_next z own after v step found)
  draw_forgets z found =
      record { knows = record { kept = λ e i. i; ran = λ e i. i }; saw = λ e i. i }
