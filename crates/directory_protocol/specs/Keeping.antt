-- What a protocol owes that has a directory as a part of it.
use Rattle.directory_law.specs.declared.view.Rope.{Rope}
use Rattle.directory_law.specs.declared.view.View.{View}
use Rattle.directory_law.specs.Views.{In}

-- the second view keeps all that the first one keeps
abbrev pub KeepsAll : View → View → Type 0
KeepsAll v w = (e : Rope) → In e v.kept → In e w.kept

-- the rest minds no view of the directory that keeps all that the seat's one keeps
abbrev pub MindsNone : {V : Type 0} → (V → View → Type 0) → (V → View) → Type 0
MindsNone {V = V} suits seen = (v : V) (w : View) → KeepsAll (seen v) w → suits v w
