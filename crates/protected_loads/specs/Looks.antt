-- A deed that does something only where a look finds null keeps the law.
use Rattle.std.proofs.Common.{◌≡◌, ℕ, Bool, true, false, List, refl, sym, ◌∙◌, subst, arith, ap}
use Rattle.std.specs.Prelude.{◌==◌, Option, Some, None, if◌then◌else◌, slice_index_or, slice_set}
use Rattle.std.proofs.lemmas.Bool.Decides.{nat_tests}
use Rattle.std.proofs.lemmas.List.{set-get_or}
use Rattle.control_word.specs.plain_state.declared.act.EventPlace.{EventPlace}
use Rattle.control_word.specs.plain_state.declared.act.PlainAct.{PlainAct}
use Rattle.control_word.specs.plain_state.declared.slot.SlotId.{SlotId}
use Rattle.control_word.specs.plain_state.Places.{content}
use Rattle.control_word.specs.plain_state.State.{Plain}
use Rattle.control_word.specs.plain_state.Steps.{Does, word_of}
use Rattle.control_word.specs.plain_protocol.Acts.{IsCalm}
use Rattle.control_word.specs.plain_protocol.Laws.{KeptByCalm, Keeps}
use Rattle.control_word.specs.plain_protocol.Owns.{OwnPart, own_part}
use Rattle.protected_loads.specs.Nulls.{AllowsWhereNull, next_where_null, ready_to_look}

-- the word of a content tells whether it is null
pub null_word : (o : Option SlotId) → word_of o ≡ 0 → o ≡ None
null_word None is = refl
null_word (Some s) is = absurd (omega (arith, is))

pub where_null_keeps : {V : Type 0} (law : Plain → List V → Type 0) (gone : V)
    (ready : OwnPart → V → PlainAct → Type 0) (next : OwnPart → OwnPart → V → PlainAct → ℕ → V)
    (allows : Plain → Plain → ℕ → V → V → Type 0) (place : EventPlace) → KeptByCalm law
    → Keeps law gone ready next allows
    → Keeps law gone (ready_to_look place ready) (next_where_null place next)
    (AllowsWhereNull place allows)
where_null_keeps law gone ready next allows place calm keeps p q views n act found meets at
    able does =
    let looks = subst (λ (a : PlainAct). Does p n a found q) able.0 does in
    of (found == 0) refl looks.1.1
  where
    of : (b : Bool) → (found == 0) ≡ b → found ≡ word_of (content p place)
        → let v = slice_index_or views n gone in
        let w = if b then next (own_part p n) (own_part q n) v act found else v in
        law q (slice_set views n w) × AllowsWhereNull place allows p q n v w
    of true null word =
        let kept = keeps p q views n act found meets at able.1 does in
        let zero : found ≡ 0 = grind (arith, nat_tests) in (
          kept.0,
          record {
            null = λ is. kept.1;
            other = λ not. absurd (not (null_word (content p place) (sym word ∙ zero)));
          },
        )
    of false some' word = (
      subst (law q) (sym (set-get_or views n gone))
          (calm p q n act found views meets (subst IsCalm (sym able.0) tt) does),
      record {
        null = λ is.
            let zero : found ≡ 0 = word ∙ ap word_of is in absurd (grind (arith, nat_tests));
        other = λ not. refl;
      },
    )
