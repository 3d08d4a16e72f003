-- How far a scan has come.
use Rattle.std.proofs.Common.{◌≡◌, ℕ, ◌+◌, ◌<◌, ◌≤◌, List, [], ◌∷◌, ◌++◌, length, length-set, set, refl, ap, sym, ◌∙◌, subst, arith, append_assoc}
use Rattle.std.specs.Prelude.{Option, Some, None}
use Rattle.version_making.specs.protected_loads.plain_state.declared.slot.SlotId.{SlotId}
use Rattle.version_making.specs.protected_loads.plain_protocol.Owns.{HasSlot, Object}
use Rattle.version_making.specs.protected_loads.core_events.declared.view.CoreView.{CoreView}
use Rattle.version_making.specs.protected_loads.core_events.declared.view.Note.TheVariants as stands
use Rattle.version_making.specs.protected_loads.core_events.Shows.{show_seat}
use Rattle.version_making.specs.protected_loads.core_events.Views.{note_of}
use Rattle.version_making.specs.protected_loads.domain_rule.Views.{object_in}
use Rattle.version_making.specs.protected_loads.acquire_retire.Domains.{DomainState}
use Rattle.version_making.specs.protected_loads.acquire_retire.Seats.{SeatState}
use Rattle.version_making.specs.protected_loads.control_word.Moves.{KnowsStill}
use Rattle.version_changes.specs.map_trees.Trees.{Pair, Shaped, Tree, pair, pairs}
use Rattle.version_changes.specs.map_trees.Maps.{next}
use Rattle.version_reading.specs.map_law.declared.view.Kid.{Kid}
use Rattle.version_reading.specs.map_law.declared.view.Led.{Led}
use Rattle.version_reading.specs.map_law.declared.view.View.{View}
use Rattle.version_reading.specs.map_law.Views.{In}
use Rattle.version_reading.specs.map_law.Patterns.{kid_of}
use Rattle.version_reading.specs.map_protocol.declared.law.MapLaw.{MapLaw}
use Rattle.version_reading.specs.Reading.{HasNode, IsFree, IsReading, Reads, Sought, kid_in}
use Rattle.version_reading.specs.Ways.{Way, ends, stops, left, right, Tells}
use Rattle.version_reading.proofs.Events.{reads_same}
use Rattle.version_reading.proofs.Walking.{node_has, node_kept}
use Rattle.version_map.specs.Maps.{Scanned, first_pairs, within}
use Rattle.version_map.proofs.Ranges.{empty_range, first_length, first_put, none_left, one_left, past_left}

-- WHAT NOTES TELL they go on to tell as they grow
tells_more : (v w : View) → ((e : Led) → In e v.led → In e w.led) → (way : Way) (k : Option Kid)
    → Tells v k way → Tells w k way
tells_more v w more ends k tells = tells
tells_more v w more (stops a d h) k tells = tells
tells_more v w more (left a d h way) k tells =
    let notes = tells.3.1 in (
      tells.0,
      tells.1,
      tells.2,
      (
        tells.3.0,
        (notes.0, more notes.0 notes.1, notes.2, notes.3, notes.4, notes.5),
        tells_more v w more way tells.3.0 tells.3.2,
      ),
    )
tells_more v w more (right a d h way) k tells =
    let notes = tells.3.1 in (
      tells.0,
      tells.1,
      tells.2,
      (
        tells.3.0,
        (notes.0, more notes.0 notes.1, notes.2, notes.3, notes.4, notes.5),
        tells_more v w more way tells.3.0 tells.3.2,
      ),
    )

-- the searches that the seat has made from this root are right in a tree
abbrev pub AreRight : SlotId → SeatState View → Tree → Type 0
AreRight r seat t = (k : ℕ) (x : Option Pair) → Sought r k x seat → next k (pairs t) ≡ x

right_before : (r : SlotId) (a b : SeatState View) → Reads a.view.core a b
    → object_in b.view r ≡ object_in a.view r → (t : Tree) → AreRight r b t → AreRight r a t
right_before r a b reads same t are k x sought = are k x (record {
  way = sought.way;
  tells = tells_more a.view.client b.view.client reads.learns.led sought.way (kid_in (Some r) b)
      (subst (λ (y : Option Kid). Tells a.view.client y sought.way)
      (sym (ap (λ (o : Object). Some (kid_of r o)) same)) sought.tells);
  seeks = sought.seeks;
})

-- the buffer has n pairs, and all that is left of the range begins with this key
pub record Scans (r : SlotId) (low high room : ℕ) (old : SeatState View) (n least : ℕ)
    (out : List (ℕ × ℕ)) (now : SeatState View) : Type 0 where
  pub reads : Reads old.view.core old now
  pub knows : KnowsStill old.view.core old now
  pub long : length out ≡ room
  pub begins : (t : Tree) → Shaped t → AreRight r now t
      → within low high (pairs t) ≡ first_pairs n out ++ within least high (pairs t)

module _ (d : DomainState MapLaw) (r : SlotId) (free low high room : ℕ) (old : SeatState View)
    (reading : IsReading d old) (root : HasNode r old)
    (first : note_of old.view.core 0 ≡ stands.Idle) (unused : IsFree free old.view.core) where
  module _ (n least : ℕ) (out : List (ℕ × ℕ)) (now : SeatState View)
      (sc : Scans r low high room old n least out now) where
    pub now_root : HasNode r now
    now_root = node_kept old now r sc.reads sc.knows root

    module _ (new : SeatState View) (reads : Reads now.view.core now new)
        (knows : KnowsStill now.view.core now new) where
      pub more_reads : Reads old.view.core old new
      more_reads = reads_same old.view.core old now new sc.reads reads

      pub more_knows : KnowsStill old.view.core old new
      more_knows x has =
          knows x (subst (λ (u : CoreView). HasSlot (show_seat u) x) (sym sc.reads.core) has)
          ∙ sc.knows x has

      before : (t : Tree) → AreRight r new t → AreRight r now t
      before t are = right_before r now new reads (knows r (node_has now r now_root)) t are

      -- nothing is left
      module _ (few : n ≤ room) where
        ended : ((t : Tree) → Shaped t → AreRight r new t → within least high (pairs t) ≡ [])
            → Scanned r low high room n out new
        ended none t shaped are =
            let long = sc.long in record {
              few = few;
              count = first_length n out (omega (arith, few, long));
              rest = [];
              begins = sc.begins t shaped (before t are)
                  ∙ ap (λ (xs : List Pair). first_pairs n out ++ xs) (none t shaped are);
              full = λ low'. refl;
            }

        pub ends_null : Sought r least None new → Scanned r low high room n out new
        ends_null sought = ended (λ t shaped are.
            none_left least high (pairs t) (are least None sought))

        pub ends_past : (key value : ℕ) → Sought r least (Some (pair key value)) new → high < key
            → Scanned r low high room n out new
        ends_past key value sought more = ended (λ t shaped are.
            past_left least high (pairs t) (pair key value) shaped.0
            (are least (Some (pair key value)) sought) more)

      -- one pair more
      module _ (few : n < length out) (key value : ℕ)
          (sought : Sought r least (Some (pair key value)) new) (most : key ≤ high) where
        abbrev next_out : List (ℕ × ℕ)
        next_out = set out n (key, value)

        long : length next_out ≡ room
        long = length-set out n (key, value) ∙ sc.long

        begins_more : (t : Tree) → Shaped t → AreRight r new t
            → within low high (pairs t)
            ≡ first_pairs (n + 1) next_out ++ within (key + 1) high (pairs t)
        begins_more t shaped are =
            sc.begins t shaped (before t are)
            ∙ (ap (λ (xs : List Pair). first_pairs n out ++ xs)
            (one_left least high (pairs t) (pair key value) shaped.0
            (are least (Some (pair key value)) sought) most)
            ∙ (sym (append_assoc (first_pairs n out) (pair key value ∷ [])
            (within (key + 1) high (pairs t)))
            ∙ ap (λ (xs : List Pair). xs ++ within (key + 1) high (pairs t))
            (sym (first_put out n (key, value) few))))

        pub scans_more : Scans r low high room old (n + 1) (key + 1) next_out new
        scans_more = record {
          reads = more_reads;
          knows = more_knows;
          long = long;
          begins = begins_more;
        }

        pub ends_high : key ≡ high → Scanned r low high room (n + 1) next_out new
        ends_high same t shaped are =
            let l = long in let m = sc.long in record {
              few = omega (arith, few, m);
              count = first_length (n + 1) next_out (omega (arith, few, l, m));
              rest = within (key + 1) high (pairs t);
              begins = begins_more t shaped are;
              full = λ low'. empty_range (key + 1) high (pairs t) (omega (arith, same));
            }
