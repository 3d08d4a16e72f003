use Rattle.std.proofs.Common.{rules, sum_by, ap, subst, inl, inr, ◌≡◌, ◌∙◌, arith}
use Rattle.std.proofs.lemmas.Bool.{cases_lt}
use Rattle.heap_audit.specs.Heaps.{ObeysAt, fields_holding, in_fields, slot}
use Rattle.heap_audit.proofs.obeying.lawful.Goals as goal

pub obeys-requires-clause-fields : goal.obeys-requires-clause-fields
unfolding in_fields
obeys-requires-clause-fields c =
    c.fields_with.ensures ∙ ap (sum_by (fields_holding (slot c.loop-index.index))) c.deref.ensures.value

pub loop-index-preserved : goal.loop-index-preserved
loop-index-preserved c = λ s h.
    elim (cases_lt s.0 c.loop-index.index) [
      | inl l ↦ c.loop-index.invariant s l
      | inr g ↦
          (let same : slot c.loop-index.index ≡ s = ap slot (omega (arith, h, g)) in
          subst (ObeysAt c.args.heap.now) same (c.obeys.ensures.0 (search rules)))
    ]
