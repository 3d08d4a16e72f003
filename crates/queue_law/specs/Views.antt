-- The views of seats: with what a seat begins, and what becomes of a view where a seat leaves.
use Rattle.std.specs.Prelude.{ℕ, true, false, List, [], ◌∷◌, ◌++◌, slice_index_or}
pub use Rattle.queue_law.specs.declared.view.Form.{Form}
pub use Rattle.queue_law.specs.declared.view.Form.TheVariants.{Linked, Double}
pub use Rattle.queue_law.specs.declared.view.Item.{Item}
pub use Rattle.queue_law.specs.declared.view.Taken.{Taken}
pub use Rattle.queue_law.specs.declared.view.Eyes.{Eyes}
pub use Rattle.queue_law.specs.declared.view.Load.{Load}
pub use Rattle.queue_law.specs.declared.view.Flight.{Flight}
pub use Rattle.queue_law.specs.declared.view.Stand.{Stand}
pub use Rattle.queue_law.specs.declared.view.View.{View}

abbrev pub no_item : Item
no_item = record { slot = 0; life = 0; payload = [] }

abbrev pub no_taken : Taken
no_taken = record { item = no_item; taker = 0 }

abbrev pub no_eyes : Eyes
no_eyes = record {
  node = 0;
  life = 0;
  was_head = false;
  was_tail = false;
  following = 0;
  found = 0;
  before = 0;
  helped = false;
  passed = false;
}

-- a node in a life, and nothing else that is known of it
abbrev pub sees_node : ℕ → ℕ → Eyes
sees_node node life = record no_eyes { node = node; life = life }

abbrev pub no_load : Load
no_load = record { node = 0; life = 0; item = 0; item_life = 0; item_payload = []; back = 0 }

abbrev pub no_flight : Flight
no_flight = record { prev = 0; prev_life = 0; node = 0; life = 0 }

-- the view of a seat that has left
abbrev pub first_view : View
first_view = record {
  number = 0;
  here = false;
  form = Linked;
  load = no_load;
  eyes = no_eyes;
  flight = no_flight;
  flown = [];
  dummy = 0;
  dummy_life = 0;
  attached = false;
  stand = record { laid = 0; left = [] };
  pushed = [];
  popped = [];
}

-- the view of seat n at the start
abbrev pub view_of : Form → ℕ → View
view_of form n = record first_view { number = n; here = true; form = form }

-- the view of seat 0 after a seat has left, from the views of the two
abbrev pub joined : View → View → View
joined v w = record v {
  flown = v.flown ++ w.flight ∷ w.flown;
  pushed = v.pushed ++ w.pushed;
  popped = v.popped ++ w.popped;
}

abbrev pub view_at : List View → ℕ → View
view_at views n = slice_index_or views n first_view
