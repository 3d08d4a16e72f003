-- The law holds of the state with one node whose field 1 holds the node itself, where seat 0 has shut the queue.
use Rattle.std.proofs.Common.{◌≡◌, ◌⊎◌, inl, ⊎_elim, ℕ, zero, suc, ◌+◌, ◌≤◌, true, false, List, [], ◌∷◌, length, get_or, refl, ap, sym, subst, ◌∙◌, arith, None}
use Rattle.std.proofs.lemmas.Bool.{false≢true}
use Rattle.plain_audit.specs.plain_state.declared.slot.SlotId.{SlotId}
use Rattle.plain_audit.specs.plain_state.State.{seat_at}
use Rattle.plain_audit.specs.plain_state.Steps.{word_of}
use Rattle.plain_audit.proofs.Below.plain_state_Kit.{times_none}
use Rattle.words_law.specs.queue_law.declared.view.Item.{Item}
use Rattle.words_law.specs.queue_law.declared.view.View.{View as QueueView}
use Rattle.words_law.specs.queue_law.Views as queue
use Rattle.words_law.specs.queue_law.declared.view.Form.{Form}
use Rattle.words_law.specs.queue_law.declared.view.Form.TheVariants.{Linked, Double}
use Rattle.words_law.specs.queue_law.Views.{no_item, no_load, view_of}
use Rattle.words_law.specs.queue_law.Chain.{Ends, Sent, Lags, sent}
use Rattle.words_law.specs.queue_law.Law.{QueueLaw, WholeLaw}
use Rattle.words_law.specs.queue_law.Lists.{home, item_times, tagged, taken_items}
use Rattle.words_law.specs.queue_law.Notes.{Carries, Emptied, Flies, Sees}
use Rattle.words_law.specs.queue_law.Words as words
use Rattle.words_law.specs.queue_law.Words.{cell_at, id}
use Rattle.words_law.proofs.Below.queue_law_Leave.{items_none}
use Rattle.words_law.proofs.Below.queue_law_Notes.{carries_none}
use Rattle.words_law.proofs.Below.queue_law_Orders.{tagged_none}
use Rattle.words_law.proofs.Below.queue_law_Start.{zero_total}
use Rattle.words_law.specs.directory_law.declared.view.View.{View as DirectoryView}
use Rattle.words_law.specs.directory_law.Cells.{Area, cell, full, on, set_cells}
use Rattle.words_law.specs.directory_law.Chains.{OwnSlot}
use Rattle.words_law.specs.directory_law.Learnt.{Learnt}
use Rattle.words_law.specs.directory_law.Law.{DirectoryLaw}
use Rattle.words_law.specs.directory_law.Payloads.{IsOwn}
use Rattle.words_law.specs.directory_law.Views as directory
use Rattle.words_law.specs.directory_law.Views.{In, fresh, keeps, times_of, total}
use Rattle.words_law.proofs.Below.directory_law_Bytes.{zeros_not_own}
use Rattle.words_law.proofs.Below.directory_law_Kit.{none_some}
use Rattle.words_law.proofs.Below.directory_law_Notes.{none_of}
use Rattle.words_law.specs.Views.{View}
use Rattle.words_rest.specs.Needed.{HasNodeLeft}
use Rattle.words_rest.specs.Rest.{IsQuiet}
use Rattle.words_rest.proofs.Ring.{each_seat, each_slot, ring, ring_lawful, ring_live, ring_payload}
use Rattle.words_rest.proofs.NoNode.{node_not_own}
use Rattle.std.proofs.lemmas.List.{get_or_past}
use Rattle.std.proofs.lemmas.List.Sums.{sum_by-cons}

-- seat 0's view: it has shut the queue, and nothing was left
abbrev root : Form → QueueView
root form = record (view_of form 0) { stand = record { laid = 4; left = [] } }

abbrev pub ring_views : Form → List View
ring_views form = (root form, directory.gone) ∷ []

-- one node was linked, and has ended
abbrev past : Sent
past = record { node = 1; life = 0; item = no_item; sender = 0 }

null_cell : (c : ℕ) → cell_at ring c ≡ 0
null_cell c = ap word_of (get_or_past ring.cells c None (omega arith))

no_first : (s : ℕ) → (words.slot_at ring s).first ≡ 0
no_first s = each_slot (λ t x. word_of x.first ≡ 0) refl (λ t. refl) (id s)

no_back : (s : ℕ) → (words.slot_at ring s).back ≡ 0
no_back s = each_slot (λ t x. word_of x.weak_field ≡ 0) refl (λ t. refl) (id s)

first_life : (i : ℕ) → (sent (past ∷ []) i).life ≡ 0
first_life zero = refl
first_life (suc i) = refl

lags : (form : Form) → Lags form 1 0
lags Linked = omega arith
lags Double = omega arith

module _ (u : Ends) where
  abbrev views : List QueueView
  views = root u.form ∷ []

  each_view : (P : QueueView → Type 0) → P (root u.form) → P queue.first_view → (n : ℕ)
      → P (queue.view_at views n)
  each_view P here none zero = here
  each_view P here none (suc n) = none

  number : (n : ℕ) → (queue.view_at views n).here ≡ true
      → ((queue.view_at views n).number ≡ n) × ((queue.view_at views n).form ≡ u.form)
  number zero is = (refl, refl)
  number (suc n) is = absurd (false≢true is)

  ring_queue : QueueLaw u ring views
  ring_queue = (
    past ∷ [],
    [],
    0,
    record {
      chain = record {
        head = inl (null_cell u.head);
        tail = inl (null_cell u.tail, null_cell u.head);
        lag = λ some. lags u.form;
        links = λ i low. absurd (omega arith);
        ends = λ i last at. no_first (sent (past ∷ []) i).node;
        backs = λ double i low. absurd (omega arith);
        first_back = λ double some at. no_back 1;
        strays = λ s live node stray. no_first s;
        apart = λ i j low low_too same life. omega arith;
        known = λ i low. let life = first_life i in omega arith;
        nodes = λ i low live life. ring_payload (id (sent (past ∷ []) i).node);
      };
      known = record {
        sees = each_view (λ v. Sees ring (past ∷ []) 0 0 v.eyes) (λ z. absurd (z refl))
            (λ z. absurd (z refl));
        emptied = each_view (Emptied (past ∷ []) 0) (λ z. absurd (z refl)) (λ z. absurd (z refl));
        carries = each_view (λ v. Carries ring (past ∷ []) v.load)
            (carries_none ring (past ∷ []) no_load refl)
            (carries_none ring (past ∷ []) no_load refl);
        flies = each_view (λ v. Flies (past ∷ []) v.flight) (λ z. absurd (z refl))
            (λ z. absurd (z refl));
        apart = λ n m some. absurd (some (each_view (λ v. v.load.node ≡ 0) refl refl n));
        number = number;
        attached = λ n is. absurd
            (false≢true (sym (each_view (λ v. v.attached ≡ false) refl refl n) ∙ is));
      };
      flights = λ double i e. absurd (omega arith);
      counted = record {
        pushed = λ x. zero_total (λ v. item_times x (taken_items v.pushed)) views
            (each_view (λ v. item_times x (taken_items v.pushed) ≡ 0) (items_none x) (items_none x))
            ∙ sym (items_none x);
        popped = λ x. zero_total (λ v. item_times x (taken_items v.popped)) views
            (each_view (λ v. item_times x (taken_items v.popped) ≡ 0) (items_none x) (items_none x))
            ∙ sym (items_none x);
        many = omega arith;
        order = λ i low. absurd (omega arith);
      };
      ordered = record {
        pushed = record {
          own = λ n. ap (tagged n) (each_view (λ v. v.pushed ≡ []) refl refl (home views n));
          none = λ n m ne. ap (tagged n) (each_view (λ v. v.pushed ≡ []) refl refl m)
              ∙ tagged_none n;
        };
        popped = record {
          own = λ n. ap (tagged n) (each_view (λ v. v.popped ≡ []) refl refl (home views n));
          none = λ n m ne. ap (tagged n) (each_view (λ v. v.popped ≡ []) refl refl m)
              ∙ tagged_none n;
        };
      };
      phase = record {
        unlaid = λ e. absurd (omega arith);
        laying = λ e. absurd (omega arith);
        shut = λ e. (null_cell u.head, omega arith, refl);
      };
    },
  )

  ring_whole : WholeLaw u ring views
  ring_whole = (ring_queue, away)
    where
      away : (m : ℕ) → (length ring.seats ≤ m) ⊎ ((seat_at ring m).left ≡ true)
          → queue.view_at views m ≡ queue.first_view
      away zero has = ⊎_elim
          (λ low. absurd (omega arith))
          (λ left. absurd (false≢true left)) has
      away (suc m) has = refl

-- THE DIRECTORY has nothing
abbrev nothing : List DirectoryView
nothing = directory.gone ∷ []

each_gone : (P : DirectoryView → Type 0) → P directory.gone → (n : ℕ)
    → P (directory.view_at nothing n)
each_gone P none zero = none
each_gone P none (suc n) = none

none_total : (f : DirectoryView → ℕ) → f directory.gone ≡ 0 → total f nothing ≡ 0
unfolding total
none_total f none = omega (arith, none, sum_by-cons f directory.gone [])

not_own : (s : SlotId) → OwnSlot ring s → ⊥
not_own s own = node_not_own ring s own (ring_payload s)

module _ (z : Area) where
  none_cell : (c : ℕ) → cell z ring c ≡ None
  none_cell c = get_or_past ring.weak_cells (z.first + c) None (omega arith)

  none_set : (n : ℕ) → set_cells z ring n ≡ 0
  none_set zero = refl
  none_set (suc n) =
      let rest = none_set n in
      let last = ap full (none_cell n) in omega arith

  no_fresh : (s : SlotId) (l : ℕ) → fresh nothing s l ≡ 0
  no_fresh s l = none_total (λ v. times_of s l v.noted) (none_of s l)

  no_kept : (s : SlotId) (l : ℕ) → keeps nothing s l ≡ 0
  no_kept s l = none_total (λ v. times_of s l v.kept) (none_of s l)

  ring_directory : DirectoryLaw z ring nothing
  ring_directory = record {
    cells = λ c s low is. absurd (none_some s (sym (none_cell c) ∙ is));
    last = λ k j s r text lt low is. absurd
        (none_some s (sym (none_cell (on z text k)) ∙ is));
    bound = λ s live. absurd
        (let some = live.head.0 in zeros_not_own (subst IsOwn (ring_payload s) some));
    few = let none = none_set z.cells in omega arith;
    quotas = let none = none_total (λ v. v.quota) refl in omega arith;
    quota = each_gone (λ v. v.used ≤ v.quota) (omega arith);
    shape = λ s own. absurd (not_own s own);
    single = λ s t r own. absurd (not_own s own);
    loose = λ t s own. absurd (not_own t own);
    lives = λ s l some. let a = no_fresh s l in let b = no_kept s l in absurd (omega arith);
    once = λ s l. let a = no_fresh s l in let b = no_kept s l in omega arith;
    stands = λ s l some. let b = no_kept s l in absurd (omega arith);
    learnt = each_gone (λ v. Learnt z ring nothing v)
        (record { noted = tt; seen = tt; ended = tt; ran = tt; led = tt });
  }

-- BOTH, and what is asked besides
pub ring_left : (u : Ends) (z : Area) → HasNodeLeft u z ring (ring_views u.form)
ring_left u z = record {
  meets = record {
    lawful = ring_lawful;
    count = refl;
    law = record {
      both = (ring_whole u, ring_directory z);
      items = λ x was. absurd (no_pushes x was.0 was.1);
      left = λ m has. each_gone (λ v. v ≡ directory.gone) refl m;
    };
  };
  fit = λ s has. (
    (λ zero. ring_payload s),
    (λ not. absurd (not
        (ap (λ (words : List ℕ). get_or words 0 0) (ring_payload s)))),
  );
  left = record {
    rests = record {
      seats = each_seat IsQuiet (record {
        deferred = refl;
        snapshots = refl;
        dying = refl;
        filling = refl;
        weaks = refl;
      });
      live = ring_live;
    };
    cells = λ i. get_or_past ring.cells i None (omega arith);
    owns = record {
      heads = λ s some. let none = times_none s in absurd (omega arith);
      others = λ n some. each_seat (λ v. v.owned ≡ []) refl n;
    };
  };
  alone = refl;
  shut = omega arith;
  nothing = refl;
  node = record { 0 = 0 };
  lives = (refl, refl);
  itself = refl;
}
  where
    no_pushes : (x : Item) (n : ℕ) → In x (taken_items (queue.view_at (root u.form ∷ []) n).pushed)
        → ⊥
    no_pushes x zero has = has
    no_pushes x (suc n) has = has
