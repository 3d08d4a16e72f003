-- What one slot's line and one event add.
use Rattle.std.proofs.Common.{◌≡◌, ℕ, ◌+◌, List, [], ◌∷◌, ◌++◌, sym, ap, ◌∙◌, arith}
use Rattle.std.proofs.lemmas.List.{flat_map_more, map-id}
use Rattle.std.proofs.lemmas.List.FromFn.{map-range_with_len_more}
use Rattle.std.specs.List.{flat_map, range_with_len}
use Rattle.cdrc_core.specs.State.{State}
use Rattle.step_lines.specs.core_events.declared.act.Event.{Event}
use Rattle.step_lines.specs.core_events.Runs.{after}
use Rattle.cdrc_steps.specs.Meaning.{moved_on}
use Rattle.cdrc_steps.specs.Runnings.{Running}

-- the numbers below n + 1
range_more : (n : ℕ) → range_with_len 0 (n + 1) ≡ range_with_len 0 n ++ n ∷ []
range_more n =
    sym (map-id (range_with_len 0 (n + 1))) ∙ map-range_with_len_more (λ (x : ℕ). x) 0 n n (omega arith)
    ∙ ap (λ xs. xs ++ n ∷ []) (map-id (range_with_len 0 n))

-- the lines of all slots below n + 1
pub lines_more : (line : ℕ → List ℕ) (first text longer : List ℕ) (n : ℕ)
    → text ≡ first ++ flat_map line (range_with_len 0 n) → longer ≡ text ++ line n
    → longer ≡ first ++ flat_map line (range_with_len 0 (n + 1))
lines_more line first text longer n so_far more =
    more ∙ ap (λ xs. xs ++ line n) so_far ∙ flat_map_more line first (range_with_len 0 n) n
    ∙ ap (λ xs. first ++ flat_map line xs) (sym (range_more n))

-- a core after one more event
abbrev pub stepped : Running → Event → State
stepped r e = record { shape = r.shape; core = after r.shape r.core e.seat e.act }

pub moved : (r : Running) (s : State) (e : Event) (n : ℕ) → s ≡ stepped r e → n ≡ r.events + 1
    → ◌≡◌ {A = Running} (record { shape = s.shape; core = s.core; events = n }) (moved_on r e)
moved r s e n is count =
    let made : State → ℕ → Running = λ s n. record { shape = s.shape; core = s.core; events = n } in
    ap (λ (s : State). made s n) is ∙ ap (made (stepped r e)) count
