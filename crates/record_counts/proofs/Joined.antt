-- What is told goes on to be told where more is, and what is told of some files and of others is told of both.
use Rattle.std.proofs.Common.{ℕ, List, [], ◌∷◌, ◌++◌, ap, sym, subst, ◌∙◌, append_assoc}
use Rattle.plain_audit.specs.plain_state.declared.slot.SlotId.{SlotId}
use Rattle.record_counts.specs.Told.{TellsEach, TellsFiles}

module _ (Told Other : List ℕ → SlotId → Type 0)
    (more : (w : List ℕ) (s : SlotId) → Told w s → Other w s) where
  pub each_more : (ws : List (List ℕ)) (ss : List SlotId) → TellsEach Told ws ss
      → TellsEach Other ws ss
  each_more [] [] tells = tt
  each_more [] (s ∷ ss) tells = absurd tells
  each_more (w ∷ ws) [] tells = absurd tells
  each_more (w ∷ ws) (s ∷ ss) tells = (more w s tells.0, each_more ws ss tells.1)

  pub files_more : (files : List (List (List ℕ))) (kept : List SlotId) → TellsFiles Told files kept
      → TellsFiles Other files kept
  files_more [] kept tells = tells
  files_more (words ∷ files) kept (first, others, records, rest, is) = (
    first,
    others,
    record {
      slots = records.slots;
      tells = each_more words records.slots records.tells;
      once = records.once;
      only = records.only;
    },
    files_more files others rest,
    is,
  )

pub files_both : (Told : List ℕ → SlotId → Type 0) (files others : List (List (List ℕ)))
    (kept more : List SlotId) → TellsFiles Told files kept → TellsFiles Told others more
    → TellsFiles Told (files ++ others) (kept ++ more)
files_both Told [] others kept more none tells =
    subst (λ (xs : List SlotId). TellsFiles Told others xs)
    (sym (ap (λ (xs : List SlotId). xs ++ more) none)) tells
files_both Told (words ∷ files) others kept more (first, rest, records, tells, is) next = (
  first,
  rest ++ more,
  records,
  files_both Told files others rest more tells next,
  ap (λ (xs : List SlotId). xs ++ more) is ∙ append_assoc first rest more,
)
