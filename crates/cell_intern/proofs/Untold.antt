-- What a seat that is to bind a record knows of its text and of its grant, from call to call.
use Rattle.std.proofs.Common.{◌≡◌, ⊎_elim, inl, inr, ℕ, List, [], ◌∷◌, ◌++◌, ap, sym, ◌∙◌, subst, arith, length}
use Rattle.std.specs.Prelude.{Err, IsErrAnd, Ok, Result}
use Rattle.cell_making.specs.counted_handles.Handles.{Handle}
use Rattle.cell_making.specs.Making.{UsesFewer}
use Rattle.cell_making.specs.declared.refusals.RecordError.{RecordError}
use Rattle.cell_making.specs.declared.refusals.RecordError.TheVariants as unmade
use Rattle.cell_calls.specs.Keeping.{NotesOnly}
use Rattle.cell_calls.specs.cell_law.Views.{MayBind, TellsNone, bound_in}
use Rattle.cell_calls.specs.cell_law.declared.view.View.{View}
use Rattle.cell_calls.specs.cell_law.directory_law.Payloads.{Text}
use Rattle.cell_calls.specs.cell_law.directory_law.Views.{In}
use Rattle.cell_calls.specs.cell_law.directory_law.declared.view.Rope.{Rope}
use Rattle.cell_calls.specs.cell_protocol.declared.law.CellLaw.{CellLaw}
use Rattle.epoch_refs.specs.epoch_domain.Domains.{DomainState}
use Rattle.epoch_refs.specs.epoch_domain.Seats.{SeatState}
use Rattle.cell_intern.specs.Interning.{BindsMore, IsForNone, MakesForBinds}
use Rattle.cell_intern.specs.Placing.{IsUnplaced}
use Rattle.cell_intern.specs.Refusals.{of_record}
use Rattle.cell_intern.specs.declared.refusal.InternError.{InternError}
use Rattle.cell_intern.specs.declared.refusal.InternError.TheVariants as refused
use Rattle.cell_intern.proofs.Quiet.{Quiet}

-- THE TEXT stays untold
pub untold_view : (text : Text) (v w : View) → w ≡ v → TellsNone v text → TellsNone w text
untold_view text v w is none = subst (λ (x : View). TellsNone x text) (sym is) none

pub untold_notes : (text : Text) (v w : View) → NotesOnly v w → TellsNone v text → TellsNone w text
untold_notes text v w is none = subst (λ (x : View). TellsNone x text) (sym is) none

in_right : (e : Rope) (xs ys : List Rope) → In e ys → In e (xs ++ ys)
in_right e [] ys i = i
in_right e (x ∷ xs) ys i = inr (in_right e xs ys i)

in_left : (e : Rope) (xs ys : List Rope) → In e xs → In e (xs ++ ys)
in_left e [] ys i = absurd i
in_left e (x ∷ xs) ys i = ⊎_elim (λ (is : e ≡ x). inl is)
    (λ (j : In e xs). inr (in_left e xs ys j)) i

-- a head that a view lists as bound by its seat has another text then
pub not_bound : (e : Rope) (v : View) → TellsNone v e.text → In e v.bound → ⊥
not_bound e v none i =
    none e (in_right e v.found (bound_in v) (in_left e v.bound v.joined i)) (λ j. e.text)

-- THE GRANT stays
pub may_on : (v w : View) → Quiet v w → MayBind v → MayBind w
may_on v w quiet may =
    let b = ap (λ (es : List Rope). length es) quiet.bound in
    let g = quiet.grant in omega (arith, may, b, g)

-- WHAT MAKES WERE USED FOR
module _ (d : DomainState CellLaw) (text : Text) where
  -- in a longer call, before which no make was used and nothing bound, and after which neither
  module _ (parts : ℕ) (a b c e : SeatState View)
      (makes_in : b.view.core.makes ≡ a.view.core.makes)
      (bound_in : b.view.client.bound ≡ a.view.client.bound)
      (grant_in : b.view.client.grant ≡ a.view.client.grant)
      (makes_out : e.view.core.makes ≡ c.view.core.makes)
      (same_out : e.view.client ≡ c.view.client) where
    none_within : (error : InternError) → IsForNone d text parts error b c
        → IsForNone d text parts error a e
    none_within refused.AddsSpent is = λ alone. ⊎_elim
        (λ (none : TellsNone c.view.client text).
        inl (untold_view text c.view.client e.view.client same_out none))
        (λ (same : c.view.core.makes ≡ b.view.core.makes). inr (makes_out ∙ same ∙ makes_in))
        (is (grant_in ∙ alone))
    none_within refused.OutOfMemory is = untold_view text c.view.client e.view.client same_out is
    none_within refused.MakesSpent is = (
      untold_view text c.view.client e.view.client same_out is.0,
      (let f = is.1 in omega (arith, f, makes_in, makes_out)),
    )
    none_within refused.Full is = (
      untold_view text c.view.client e.view.client same_out is.0,
      (let f = is.1 in omega (arith, f, makes_in, makes_out)),
    )

    pub makes_within : (r : Result Handle InternError) → MakesForBinds d text parts r b c
        → MakesForBinds d text parts r a e
    makes_within (Ok head) makes = λ alone. ⊎_elim
        (λ (same : c.view.core.makes ≡ b.view.core.makes). inl (makes_out ∙ same ∙ makes_in))
        (λ (more : BindsMore text b.view.client c.view.client). inr (
          more.0,
          more.1,
          ap (λ (v : View). v.bound) same_out
              ∙ (more.2 ∙ ap (λ (es : List Rope). more.0 ∷ es) bound_in),
        ))
        (makes (grant_in ∙ alone))
    makes_within (Err error) makes = (
      ap (λ (v : View). v.bound) same_out ∙ makes.0 ∙ bound_in,
      none_within error makes.1,
    )

  -- where no record was made
  none_made : (parts : ℕ) (error : RecordError) (a b : SeatState View)
      → TellsNone b.view.client text → UsesFewer error parts a b
      → IsForNone d text parts (of_record error) a b
  none_made parts unmade.MakesSpent a b none fewer = (none, fewer)
  none_made parts unmade.AddsSpent a b none fewer = λ alone. inl none
  none_made parts unmade.Full a b none fewer = (none, fewer)
  none_made parts unmade.OutOfMemory a b none fewer = none

  pub makes_unmade : (parts : ℕ) (error : RecordError) (r : Result Handle InternError)
      (a b : SeatState View) → IsErrAnd r (λ x. x ≡ of_record error)
      → TellsNone a.view.client text → NotesOnly a.view.client b.view.client
      → UsesFewer error parts a b → MakesForBinds d text parts r a b
  makes_unmade parts error (Ok head) a b handed none notes fewer = absurd handed
  makes_unmade parts error (Err e) a b handed none notes fewer = (
    ap (λ (v : View). v.bound) notes,
    subst (λ (x : InternError). IsForNone d text parts x a b) (sym handed)
        (none_made parts error a b (untold_notes text a.view.client b.view.client notes none) fewer),
  )

  -- where one was made, and its head not copied
  pub makes_uncopied : (parts : ℕ) (a b c : SeatState View)
      → NotesOnly a.view.client b.view.client → c.view.client ≡ b.view.client
      → TellsNone a.view.client text
      → MakesForBinds d text parts (Err refused.AddsSpent) a c
  makes_uncopied parts a b c notes same none = (
    ap (λ (v : View). v.bound) same ∙ ap (λ (v : View). v.bound) notes,
    λ alone. inl (untold_view text b.view.client c.view.client same
        (untold_notes text a.view.client b.view.client notes none)),
  )

  -- where one was made, and not placed
  pub none_placed : (parts : ℕ) (error : InternError) (a b c e : SeatState View)
      → Quiet a.view.client b.view.client → e.view.client ≡ c.view.client
      → IsUnplaced d text error b c
      → (e.view.client.bound ≡ a.view.client.bound) × IsForNone d text parts error a e
  none_placed parts refused.AddsSpent a b c e before after is = (
    ap (λ (v : View). v.bound) after ∙ is.0 ∙ before.bound,
    λ alone. absurd (is.1 (before.grant ∙ alone)),
  )
  none_placed parts refused.OutOfMemory a b c e before after is = (
    ap (λ (v : View). v.bound) after ∙ is.0 ∙ before.bound,
    untold_view text c.view.client e.view.client after is.1,
  )
  none_placed parts refused.MakesSpent a b c e before after is = absurd is
  none_placed parts refused.Full a b c e before after is = absurd is

  -- where the record was found, and no add was left
  pub makes_refused : (parts : ℕ) (r : Result Handle InternError) (a b : SeatState View)
      → IsErrAnd r (λ x. x ≡ refused.AddsSpent) → b.view.client.bound ≡ a.view.client.bound
      → b.view.core.makes ≡ a.view.core.makes → MakesForBinds d text parts r a b
  makes_refused parts (Ok head) a b handed bound makes = absurd handed
  makes_refused parts (Err e) a b handed bound makes = (
    bound,
    subst (λ (x : InternError). IsForNone d text parts x a b) (sym handed) (λ alone. inr makes),
  )
