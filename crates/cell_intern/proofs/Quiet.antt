-- How views grow one after another.
use Rattle.std.proofs.Common.{◌≡◌, ⊎_elim, inl, inr, ℕ, List, ◌∷◌, refl, ap, sym, ◌∙◌, subst}
use Rattle.cell_making.specs.Bindings.{HasHead}
use Rattle.cell_making.specs.Making.{candidate_in}
use Rattle.cell_making.proofs.Heads.{head_bound}
use Rattle.cell_calls.specs.Keeping.{Learns, NotesOnly}
use Rattle.cell_calls.specs.cell_law.Making.{binds}
use Rattle.cell_calls.specs.cell_law.Views.{sight}
use Rattle.cell_calls.specs.cell_law.Walks.{SawAll}
use Rattle.cell_calls.specs.cell_law.declared.view.View.{View}
use Rattle.cell_calls.specs.cell_law.directory_law.Payloads.{Text}
use Rattle.cell_calls.specs.cell_law.directory_law.Views.{In}
use Rattle.cell_calls.specs.cell_law.directory_law.declared.view.Rope.{Rope}
use Rattle.cell_calls.specs.cell_law.plain_state.declared.slot.SlotId.{SlotId}
use Rattle.epoch_refs.specs.epoch_domain.Seats.{SeatState}
use Rattle.cell_intern.specs.Interning.{BindsMore, Grows}

-- the view has seen and found more, and bound nothing
pub record Quiet (v w : View) : Type 0 where
  pub saw : SawAll v w
  pub found : (e : Rope) → In e v.found → In e w.found
  pub bound : w.bound ≡ v.bound
  pub joined : w.joined ≡ v.joined
  pub grant : w.grant ≡ v.grant
  pub cleared : w.cleared ≡ v.cleared

pub learns_same : (v w : View) → w ≡ v → Learns v w
learns_same v w is = subst (Learns v) (sym is)
    (record { saw = λ e has. has; found = λ e has. has; rest = refl })

pub quiet_same : (v w : View) → w ≡ v → Quiet v w
quiet_same v w is = subst (Quiet v) (sym is) (record {
  saw = λ e has. has;
  found = λ e has. has;
  bound = refl;
  joined = refl;
  grant = refl;
  cleared = refl;
})

pub quiet_learns : (v w : View) → Learns v w → Quiet v w
quiet_learns v w l = record {
  saw = l.saw;
  found = l.found;
  bound = ap (λ (x : View). x.bound) l.rest;
  joined = ap (λ (x : View). x.joined) l.rest;
  grant = ap (λ (x : View). x.grant) l.rest;
  cleared = ap (λ (x : View). x.cleared) l.rest;
}

pub quiet_notes : (v w : View) → NotesOnly v w → Quiet v w
quiet_notes v w is = record {
  saw = λ e has. subst (λ (x : View). In e x.seen) (sym is) has;
  found = λ e has. subst (λ (x : View). In e x.found) (sym is) has;
  bound = ap (λ (x : View). x.bound) is;
  joined = ap (λ (x : View). x.joined) is;
  grant = ap (λ (x : View). x.grant) is;
  cleared = ap (λ (x : View). x.cleared) is;
}

pub quiet_then : (u v w : View) → Quiet u v → Quiet v w → Quiet u w
quiet_then u v w a b = record {
  saw = λ e has. b.saw e (a.saw e has);
  found = λ e has. b.found e (a.found e has);
  bound = b.bound ∙ a.bound;
  joined = b.joined ∙ a.joined;
  grant = b.grant ∙ a.grant;
  cleared = b.cleared ∙ a.cleared;
}

pub grows_quiet : (text : Text) (v w : View) → Quiet v w → Grows text v w
grows_quiet text v w q = record {
  saw = q.saw;
  found = q.found;
  bound = inl q.bound;
  joined = q.joined;
  grant = q.grant;
  cleared = q.cleared;
}

pub grows_after : (text : Text) (u v w : View) → Quiet u v → Grows text v w → Grows text u w
grows_after text u v w a b = record {
  saw = λ e has. b.saw e (a.saw e has);
  found = λ e has. b.found e (a.found e has);
  bound = ⊎_elim
      (λ (same : w.bound ≡ v.bound). inl (same ∙ a.bound))
      (λ (more : BindsMore text v w).
      inr (more.0, more.1, more.2 ∙ ap (λ (es : List Rope). more.0 ∷ es) a.bound))
      b.bound;
  joined = b.joined ∙ a.joined;
  grant = b.grant ∙ a.grant;
  cleared = b.cleared ∙ a.cleared;
}

pub grows_before : (text : Text) (u v w : View) → Grows text u v → Quiet v w → Grows text u w
grows_before text u v w a b = record {
  saw = λ e has. b.saw e (a.saw e has);
  found = λ e has. b.found e (a.found e has);
  bound = ⊎_elim
      (λ (same : v.bound ≡ u.bound). inl (b.bound ∙ same))
      (λ (more : BindsMore text u v).
      inr (more.0, more.1, b.bound ∙ more.2))
      a.bound;
  joined = b.joined ∙ a.joined;
  grant = b.grant ∙ a.grant;
  cleared = b.cleared ∙ a.cleared;
}

-- a head that was bound
module _ (text : Text) (s : SlotId) (cell : ℕ) (seat : SeatState View) (w : View)
    (head : HasHead text s seat) (is : w ≡ binds cell seat.view.client) where
  then : w ≡ record seat.view.client {
    noted = head.others;
    bound = candidate_in s text seat ∷ seat.view.client.bound;
    seen = sight cell s ∷ seat.view.client.seen;
  }
  then = is ∙ head_bound text s cell seat head

  pub listed_bound : w.bound ≡ candidate_in s text seat ∷ seat.view.client.bound
  listed_bound = ap (λ (x : View). x.bound) then

  pub grows_bound : Grows text seat.view.client w
  grows_bound = record {
    saw = λ e has. subst (λ (x : View). In e x.seen) (sym then) (inr has);
    found = λ e has. subst (λ (x : View). In e x.found) (sym then) has;
    bound = inr (candidate_in s text seat, refl, listed_bound);
    joined = ap (λ (x : View). x.joined) then;
    grant = ap (λ (x : View). x.grant) then;
    cleared = ap (λ (x : View). x.cleared) then;
  }
