-- What a seat notes of the slots that it makes, and what a refusal leaves.
use Rattle.std.proofs.Common.{◌≡◌, inl, inr, ⊎_elim, ℕ, Bool, true, false, List, [], ◌∷◌, ap, sym, ◌∙◌, subst, arith}
use Rattle.std.specs.Prelude.{Err, IfErr, IsErrAnd, Ok, Result, if◌then◌else◌}
use Rattle.std.proofs.lemmas.Bool.Decides.{nat_tests}
use Rattle.cell_calls.specs.cell_law.plain_state.declared.slot.SlotId.{SlotId}
use Rattle.cell_calls.specs.cell_law.directory_law.declared.view.Rope.{Rope}
use Rattle.cell_calls.specs.cell_law.directory_law.Payloads.{Text}
use Rattle.cell_calls.specs.cell_law.directory_law.Views.{In, is_of, rope}
use Rattle.cell_calls.specs.cell_law.directory_law.Views.{without as without_note}
use Rattle.cell_calls.specs.cell_law.declared.view.View.{View}
use Rattle.cell_calls.specs.cell_protocol.declared.law.CellLaw.{CellLaw}
use Rattle.cell_calls.specs.Keeping.{GoesOn, GoesUnclaimed, Keeps, NotesOnly}
use Rattle.cell_calls.proofs.Keeping.{goes_then, unclaimed_then}
use Rattle.epoch_refs.specs.epoch_core.core_events.declared.shape.Quota.{Quota}
use Rattle.epoch_refs.specs.epoch_core.declared.view.EpochView.{EpochView}
use Rattle.epoch_refs.specs.epoch_domain.Domains.{DomainState}
use Rattle.epoch_refs.specs.epoch_domain.Seats.{SeatState}
use Rattle.cell_making.specs.declared.refusals.RecordError.{RecordError}
use Rattle.cell_making.specs.declared.refusals.RecordError.TheVariants as refused
use Rattle.cell_making.specs.Making.{AreAmong, IsCause, IsRefused, NotesLast}

-- A NOTE that is taken over
in_either : (b : Bool) (f : Rope) (less es : List Rope) (e : Rope) → (In e less → In e es)
    → In e (if b then less else f ∷ less) → In e (f ∷ es)
in_either true f less es e more i = inr (more i)
in_either false f less es e more i =
    ⊎_elim (λ (same : e ≡ f). inl same) (λ (j : In e less). inr (more j)) i

-- what stays of some notes was among them
in_without : (s : SlotId) (l : ℕ) (es : List Rope) → AreAmong (without_note s l es) es
in_without s l [] e i = i
in_without s l (f ∷ es) e i =
    in_either (is_of s l f) f (without_note s l es) es e (in_without s l es e) i

itself : (s : SlotId) (l : ℕ) (text : Text) → is_of s l (rope s l text) ≡ true
itself s l text = grind (arith, nat_tests)

-- the note of s itself goes
pub without_among : (s : SlotId) (l : ℕ) (text : Text) (es : List Rope)
    → AreAmong (without_note s l (rope s l text ∷ es)) es
without_among s l text es e i =
    in_without s l es e (subst (λ (b : Bool). In e (if b then without_note s l es
    else rope s l text ∷ without_note s l es)) (itself s l text) i)

-- NOTES that change twice
pub notes_from : (f : Rope) (among es : List Rope) (a b c : View) → b ≡ record a { noted = es }
    → NotesLast f among b c → NotesLast f among a c
notes_from f among es a b c is notes = record {
  others = notes.others;
  noted = notes.noted ∙ ap (λ (v : View). record v { noted = f ∷ notes.others }) is;
  are_among = notes.are_among;
}

pub notes_then : (e f : Rope) (among : List Rope) (a b c : View) (first : NotesLast e among a b)
    → NotesLast f first.others b c → NotesLast f among a c
notes_then e f among a b c first second = record {
  others = second.others;
  noted = second.noted ∙ ap (λ (v : View). record v { noted = f ∷ second.others }) first.noted;
  are_among = λ x i. first.are_among x (second.are_among x i);
}

pub only_by : (es : List Rope) (v w : View) → w ≡ record v { noted = es } → NotesOnly v w
only_by es v w is =
    is ∙ ap (λ (fs : List Rope). record v { noted = fs }) (sym (ap (λ (x : View). x.noted) is))

pub only_none : (v w : View) → w ≡ v → NotesOnly v w
only_none v w is = only_by v.noted v w is

pub only_then : (u v w : View) → NotesOnly u v → NotesOnly v w → NotesOnly u w
only_then u v w first second = second ∙ ap (λ (x : View). record x { noted = w.noted }) first

-- REFUSALS
module _ (d : DomainState CellLaw) where
  -- a cause stays one, whatever was done before
  pub cause_after : (error : RecordError) (a b c : SeatState View)
      → GoesOn a.view.core b.view.core → IsCause d error b c → IsCause d error a c
  cause_after refused.MakesSpent a b c goes is = is
  cause_after refused.AddsSpent a b c goes is = is
  cause_after refused.Full a b c goes is = record {
    mid = is.mid;
    late = is.late;
    misses = is.misses;
    since = goes_then a.view.core b.view.core is.mid.view.core goes is.since;
    till = is.till;
    fit = is.fit;
  }
  cause_after refused.OutOfMemory a b c goes is = tt

  -- and while no make and no add is used
  pub cause_on : (error : RecordError) (xs : List SlotId) (a b c : SeatState View)
      → Keeps 0 0 xs b c → GoesUnclaimed b.view.core c.view.core → IsCause d error a b
      → IsCause d error a c
  cause_on refused.MakesSpent xs a b c keeps goes is =
      let m = keeps.makes_used in
      let q : c.view.core.quota ≡ b.view.core.quota = ap (λ (v : EpochView). v.quota) keeps.same in
      let n = ap (λ (x : Quota). x.makes) q in
      omega (arith, m.0, m.1, n, is)
  cause_on refused.AddsSpent xs a b c keeps goes is =
      let m = keeps.adds_used in
      let q : c.view.core.quota ≡ b.view.core.quota = ap (λ (v : EpochView). v.quota) keeps.same in
      let n = ap (λ (x : Quota). x.adds) q in
      omega (arith, m.0, m.1, n, is)
  cause_on refused.Full xs a b c keeps goes is = record {
    mid = is.mid;
    late = is.late;
    misses = is.misses;
    since = is.since;
    till = unclaimed_then is.late.view.core b.view.core c.view.core is.till goes;
    fit =
        let fit = is.fit in
        let used = keeps.makes_used.0 in
        let q : c.view.core.quota ≡ b.view.core.quota =
        ap (λ (v : EpochView). v.quota) keeps.same in
        let n = ap (λ (x : Quota). x.makes) q in
        omega (arith, fit, used, n);
  }
  cause_on refused.OutOfMemory xs a b c keeps goes is = tt

  pub refused_after : (error : RecordError) (a b c : SeatState View)
      → GoesOn a.view.core b.view.core → NotesOnly a.view.client b.view.client
      → IsRefused d error b c → IsRefused d error a c
  refused_after error a b c goes only is = record {
    cause = cause_after error a b c goes is.cause;
    client = only_then a.view.client b.view.client c.view.client only is.client;
  }

  pub refused_on : (error : RecordError) (xs : List SlotId) (a b c : SeatState View)
      → Keeps 0 0 xs b c → GoesUnclaimed b.view.core c.view.core → c.view.client ≡ b.view.client
      → IsRefused d error a b → IsRefused d error a c
  refused_on error xs a b c keeps goes same is = record {
    cause = cause_on error xs a b c keeps goes is.cause;
    client = only_then a.view.client b.view.client c.view.client is.client
        (only_none b.view.client c.view.client same);
  }

  -- whatever a call answers
  pub refused_if : {T : Type 0} (r : Result T RecordError) (a b c : SeatState View)
      → GoesOn a.view.core b.view.core → NotesOnly a.view.client b.view.client
      → IfErr r (λ e. IsRefused d e b c) → IfErr r (λ e. IsRefused d e a c)
  refused_if (Ok x) a b c goes only is = tt
  refused_if (Err e) a b c goes only is = refused_after e a b c goes only is

  -- and what the exit of a `?` returns
  pub refused_again : {T : Type 0} (r : Result T RecordError) (e : RecordError)
      (a b : SeatState View) → IsErrAnd r (λ x. x ≡ e)
      → IsRefused d e a b → IfErr r (λ x. IsRefused d x a b)
  refused_again (Ok x) e a b handed is = tt
  refused_again (Err x) e a b handed is =
      subst (λ (y : RecordError). IsRefused d y a b) (sym handed) is
