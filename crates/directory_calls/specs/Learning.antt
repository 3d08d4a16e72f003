-- What a walk adds to the view of its seat.
use Rattle.std.specs.Prelude.{ℕ, ◌≡◌, ◌+◌}
use Rattle.directory_protocol.specs.directory_law.declared.view.Note.{Note}
use Rattle.directory_protocol.specs.directory_law.declared.view.Seen.{Seen}
use Rattle.directory_protocol.specs.directory_law.declared.view.Ran.{Ran}
use Rattle.directory_protocol.specs.directory_law.declared.view.Led.{Led}
use Rattle.directory_protocol.specs.directory_law.declared.view.View.{View}
use Rattle.directory_protocol.specs.directory_law.Views.{In}

-- The seat has learnt more, of cells, lives and texts, and has used n interns more. What it notes and keeps is as
-- before.
pub record Learns (n : ℕ) (v w : View) : Type 0 where
  pub seen : (e : Seen) → In e v.seen → In e w.seen
  pub ended : (e : Note) → In e v.ended → In e w.ended
  pub ran : (e : Ran) → In e v.ran → In e w.ran
  pub led : (e : Led) → In e v.led → In e w.led
  pub quota : w.quota ≡ v.quota
  pub used : w.used ≡ v.used + n
  pub notes : (w.noted ≡ v.noted) × (w.kept ≡ v.kept)

-- the same of a view that has the directory's as a part: of the rest nothing has changed
pub record LearnsIn {V : Type 0} (seen : V → View) (with_seen : V → View → V) (n : ℕ) (v w : V)
    : Type 0 where
  pub part : Learns n (seen v) (seen w)
  pub rest : w ≡ with_seen v (seen w)
