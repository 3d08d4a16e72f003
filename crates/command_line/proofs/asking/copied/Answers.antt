use Rattle.std.proofs.Common.{◌∙◌, ◌<◌, ◌≤◌, ℕ, List, [], ◌∷◌, ◌++◌, ap, ap₂, arith, length, map, string_bytes, sym, Bor}
use Rattle.std.proofs.lemmas.List.{map-append, map_more}
use Rattle.command_line.proofs.Given.{all_taken}
use Rattle.command_line.proofs.asking.copied.Goals as goal

pub loop-text-init : goal.loop-text-init
loop-text-init c = ap (map string_bytes) c.new-names.ensures.items

pub loop-text-preserved : goal.loop-text-preserved
loop-text-preserved c =
    let xs = c.args.texts.now in
    let none : Bor (List ℕ) = record { ref_ptr = (0, 0); now = [] } in
    let below : c.loop-text.text-index < length xs = omega arith in
    ap (map string_bytes) c.in_ok-push.ensures.items
    ∙ map-append string_bytes c.loop-text.names.items (c.in_ok-from_str.field-0 ∷ [])
    ∙ ap₂ (λ (ts : List (List ℕ)) (t : List ℕ). ts ++ t ∷ []) c.loop-text.invariant c.in_ok-from_str.ensures.ok
    ∙ sym (map_more (λ (v : Bor (List ℕ)). v.now) xs c.loop-text.text-index none below)

pub returns : goal.returns
returns c =
    let xs = c.args.texts.now in
    let past : length xs ≤ c.loop-text.text-index = omega arith in
    c.loop-text.invariant ∙ ap (map (λ (v : Bor (List ℕ)). v.now)) (all_taken xs c.loop-text.text-index past)
