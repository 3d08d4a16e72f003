-- Where a search stands, level by level.
use Rattle.std.proofs.Common.{◌≡◌, ℕ, ◌+◌, ◌<◌, ◌++◌, length, refl, ap, sym, ◌∙◌, subst, arith}
use Rattle.std.specs.Prelude.{Option, Some, None, slice_index}
use Rattle.map_law.specs.plain_state.declared.slot.SlotId.{SlotId}
use Rattle.map_law.specs.plain_protocol.Owns.{HasSlot, Object}
use Rattle.map_trees.specs.Trees.{Pair, pair}
use Rattle.map_law.specs.declared.view.Kid.{Kid}
use Rattle.map_law.specs.declared.view.View.{View}
use Rattle.map_law.specs.Views.{In, note}
use Rattle.map_law.specs.Nodes.{IsNode, words}
use Rattle.map_law.specs.Patterns.{Notes, kid_of}
use Rattle.map_protocol.specs.declared.law.MapLaw.{MapLaw}
use Rattle.protected_loads.specs.core_events.declared.view.CoreView.{CoreView}
use Rattle.protected_loads.specs.core_events.declared.view.Note.TheVariants as stands
use Rattle.protected_loads.specs.core_events.Shows.{show_seat}
use Rattle.protected_loads.specs.core_events.Views.{HoldsStrongly, note_of}
use Rattle.protected_loads.specs.domain_rule.Views.{object_in}
use Rattle.protected_loads.specs.acquire_retire.Domains.{DomainState}
use Rattle.protected_loads.specs.acquire_retire.Seats.{SeatState}
use Rattle.protected_loads.specs.control_word.Moves.{KnowsStill}
use Rattle.protected_loads.proofs.Telling.{holds_has}
use Rattle.version_reading.specs.Ways.{Tells, ends, stops}
use Rattle.version_reading.specs.Walks.{Turns, next_word}
use Rattle.version_reading.specs.Reading.{HasNode, IsLonger, IsReading, KnowsSide, Reads, Sought, freed, held_by, kid_in}
use Rattle.version_reading.proofs.Events.{reads_as, reads_same, reads_then}
use Rattle.version_reading.proofs.Leading.{Leads, Whole, goes_down, leads_more, leads_none, stops_here}
use Rattle.version_reading.proofs.Words.{IsNext, IsWalkWord, below_has, freed_minds, gives_back, hands_over, held_minds, kid_has, kid_held, next_is, standing, standing_has}

-- it has come n levels down to s, which it holds by this word, or as it holds the root
pub record Stands (r : SlotId) (free key : ℕ) (old : SeatState View) (n : ℕ)
    (best : Option Pair) (s : SlotId) (w : Option ℕ) (now : SeatState View) : Type 0 where
  pub reads : Reads (standing w s old.view.core) old now
  pub knows : KnowsStill old.view.core old now
  pub word : IsWalkWord free w
  pub node : HasNode s now
  pub leads : Leads now.view.client (kid_in (Some r) old) n (kid_in (Some s) now) key best

-- the same node, as the seat has it
same_kid : (a b : SeatState View) (s : SlotId) → object_in b.view s ≡ object_in a.view s
    → kid_in (Some s) b ≡ kid_in (Some s) a
same_kid a b s is = ap (λ (x : Object). Some (kid_of s x)) is

-- a node that the seat holds before and after some reads
node_still : (v : CoreView) (a b : SeatState View) (s : SlotId) → Reads v a b
    → object_in b.view s ≡ object_in a.view s → HoldsStrongly b.view.core s → HasNode s a
    → HasNode s b
node_still v a b s r is held node = record {
  held = held;
  node = subst (λ (x : Object). IsNode x.payload) (sym is) node.node;
  solid = subst (λ (x : Object). In (note s x.life) b.view.client.solid) (sym is)
      (r.learns.solid (note s (object_in a.view s).life) node.solid);
}

pub node_has : (a : SeatState View) (s : SlotId) → HasNode s a → HasSlot (show_seat a.view.core) s
node_has a s node = let h = node.held in holds_has a.view.core s (omega (arith, h))

-- over reads that leave all but the trail
pub node_kept : (a b : SeatState View) (s : SlotId) → Reads a.view.core a b
    → KnowsStill a.view.core a b → HasNode s a → HasNode s b
node_kept a b s r knows node =
    node_still a.view.core a b s r (knows s (node_has a s node))
    (subst (λ (u : CoreView). HoldsStrongly u s) (sym r.core) node.held) node

-- what a payload tells of a node
pub node_words : (o : Object) → IsNode o.payload
    → o.payload
    ≡ words (slice_index o.payload 1) (slice_index o.payload 2) (slice_index o.payload 3)
node_words o is =
    let e = is.3 in
    e ∙ (λ i. words (slice_index (sym e i) 1) (slice_index (sym e i) 2) (slice_index (sym e i) 3))

module _ (d : DomainState MapLaw) (r : SlotId) (free key : ℕ) (old : SeatState View)
    (reading : IsReading d old) (root : HasNode r old)
    (four : length old.view.core.notes ≡ 4) (first : note_of old.view.core 0 ≡ stands.Idle)
    (at : (0 < free) × (free < 4) × (note_of old.view.core free ≡ stands.Idle)) where
  abbrev v : CoreView
  v = old.view.core

  abbrev Next : Option ℕ → ℕ → Type 0
  Next w j = IsNext v free four first at.0 at.1 at.2 w j

  -- IT BEGINS at the root
  pub begins : (now : SeatState View) → Reads v old now → KnowsStill v old now
      → Stands r free key old 0 None r None now
  begins now reads knows =
      let same = knows r (node_has old r root) in record {
        reads = reads;
        knows = knows;
        word = tt;
        node = node_still v old now r reads same
            (subst (λ (u : CoreView). HoldsStrongly u r) (sym reads.core) root.held) root;
        leads = subst (λ (k : Option Kid).
            Leads now.view.client (kid_in (Some r) old) 0 k key None) (sym (same_kid old now r same))
            (leads_none now.view.client (kid_in (Some r) old) key);
      }

  -- A WORD IS READ
  module _ (n : ℕ) (best : Option Pair) (s : SlotId) (w : Option ℕ) (now : SeatState View)
      (st : Stands r free key old n best s w now) where
    has_now : (x : SlotId) → HasSlot (show_seat v) x → HasSlot (show_seat now.view.core) x
    has_now x has =
        subst (λ (u : CoreView). HasSlot (show_seat u) x) (sym st.reads.core)
        (standing_has v free four first at.0 at.1 at.2 w s x (v.trail ++ st.reads.moves) st.word has)

    pub reads_on : (new : SeatState View) → Reads now.view.core now new
        → KnowsStill now.view.core now new → Stands r free key old n best s w new
    reads_on new reads knows =
        let same = knows s (node_has now s st.node) in record {
          reads = reads_same (standing w s v) old now new st.reads reads;
          knows = λ x has. knows x (has_now x has) ∙ st.knows x has;
          word = st.word;
          node = node_still now.view.core now new s reads same
              (subst (λ (u : CoreView). HoldsStrongly u s) (sym reads.core) st.node.held) st.node;
          leads = subst (λ (k : Option Kid).
              Leads new.view.client (kid_in (Some r) old) n k key best)
              (sym (same_kid now new s same))
              (leads_more now.view.client new.view.client (kid_in (Some r) old) n
              (kid_in (Some s) now) key best reads.learns.led st.leads);
        }

    abbrev o : Object
    o = object_in now.view s

    here : Whole now.view.client (kid_in (Some r) old) n key best
        (stops (slice_index o.payload 1) (slice_index o.payload 2) (slice_index o.payload 3))
    here = stops_here now.view.client now.view.client (kid_in (Some r) old) n (kid_of s o) key best
        (slice_index o.payload 1) (slice_index o.payload 2) (slice_index o.payload 3)
        (node_words o st.node.node) (λ e i. i) st.leads

    module _ (end : SeatState View) (reads : Reads (freed w now.view.core) now end)
        (knows : KnowsStill (freed w now.view.core) now end) where
      pub end_reads : Reads v old end
      end_reads =
          reads_as (freed w (standing w s v)) v old end
          (gives_back v free four first at.0 at.1 at.2 w s st.word)
          (reads_then (freed w) (freed_minds w) (standing w s v) old now end st.reads reads)

      end_core : freed w now.view.core ≡ record v { trail = v.trail ++ st.reads.moves }
      end_core = ap (freed w) st.reads.core
          ∙ (freed_minds w (standing w s v) (v.trail ++ st.reads.moves)
          ∙ ap (λ (u : CoreView). record u { trail = v.trail ++ st.reads.moves })
          (gives_back v free four first at.0 at.1 at.2 w s st.word))

      pub end_knows : KnowsStill v old end
      end_knows x has =
          knows x (subst (λ (u : CoreView). HasSlot (show_seat u) x) (sym end_core) has)
          ∙ st.knows x has

      root_end : kid_in (Some r) end ≡ kid_in (Some r) old
      root_end = same_kid old end r (end_knows r (node_has old r root))

      abbrev whole : Whole end.view.client (kid_in (Some r) old) n key best
          (stops (slice_index o.payload 1) (slice_index o.payload 2) (slice_index o.payload 3))
      whole = stops_here now.view.client end.view.client (kid_in (Some r) old) n (kid_of s o) key
          best (slice_index o.payload 1) (slice_index o.payload 2) (slice_index o.payload 3)
          (node_words o st.node.node) reads.learns.led st.leads

      pub finds_here : (found value : ℕ) → found ≡ slice_index o.payload 1
          → value ≡ slice_index o.payload 2 → found ≡ key
          → Sought r key (Some (pair found value)) end
      finds_here found value is1 is2 same = record {
        way = whole.whole;
        tells = subst (λ (k : Option Kid). Tells end.view.client k
            whole.whole) (sym root_end) whole.tells;
        seeks = whole.seeks (Some (pair found value))
            (sym is1 ∙ same, λ i. Some (pair (is1 i) (is2 i)));
      }

      pub is_longer : (height : ℕ) → n ≡ height → IsLonger r height end
      is_longer height is = let long = whole.long in record {
        way = whole.whole;
        tells = subst (λ (k : Option Kid). Tells end.view.client k
            whole.whole) (sym root_end) whole.tells;
        longer = omega (arith, long, is);
      }

    -- IT GOES DOWN
    module _ (found value : ℕ) (is1 : found ≡ slice_index o.payload 1)
        (is2 : value ≡ slice_index o.payload 2) (side : ℕ) (least : Option Pair)
        (turns : Turns key found value best side least) (j : ℕ) (is : j ≡ next_word w free)
        (below : Option SlotId) (mid end : SeatState View)
        (holds : Reads (held_by j below now.view.core) now mid)
        (holds_knows : KnowsStill now.view.core now mid) (knows_side : KnowsSide s side below mid)
      where
        next : Next w j
        next = next_is v free four first at.0 at.1 at.2 w j st.word is

        both : Reads (held_by j below (standing w s v)) old mid
        both = reads_then (held_by j below) (held_minds j below) (standing w s v) old now mid st.reads
            holds

        module _ (goes : Reads (freed w mid.view.core) mid end)
            (goes_knows : KnowsStill (freed w mid.view.core) mid end) where
          over : freed w (held_by j below (standing w s v)) ≡ held_by j below v
          over = hands_over v free four first at.0 at.1 at.2 w s j below st.word next

          down_reads : Reads (held_by j below v) old end
          down_reads =
              reads_as (freed w (held_by j below (standing w s v))) (held_by j below v) old end over
              (reads_then (freed w) (freed_minds w) (held_by j below (standing w s v)) old mid end both
              goes)

          left_core : freed w mid.view.core
              ≡ record (held_by j below v) { trail = v.trail ++ both.moves }
          left_core = ap (freed w) both.core
              ∙ (freed_minds w (held_by j below (standing w s v)) (v.trail ++ both.moves)
              ∙ ap (λ (u : CoreView). record u { trail = v.trail ++ both.moves }) over)

          pub down_knows : KnowsStill v old end
          down_knows x has =
              goes_knows x (subst (λ (u : CoreView). HasSlot (show_seat u) x) (sym left_core)
              (below_has v free four first at.0 at.1 at.2 j next.word below x (v.trail ++ both.moves)
              has))
              ∙ (holds_knows x (has_now x has) ∙ st.knows x has)

          -- what the side holds, as the seat has it in the end
          below_same : (u : Option SlotId) → below ≡ u → kid_in u end ≡ kid_in u mid
          below_same None e = refl
          below_same (Some k) e =
              same_kid mid end k (goes_knows k
              (subst (λ (u : CoreView). HasSlot (show_seat u) k) (sym left_core)
              (subst (λ (y : Option SlotId).
              HasSlot (show_seat (record (held_by j y v) { trail = v.trail ++ both.moves })) k) (sym e)
              (kid_has v free four first at.0 at.1 at.2 j next.word k (v.trail ++ both.moves)))))

          side_noted : Notes mid.view.client s o.life side (kid_in below mid)
          side_noted = subst (λ (x : Object). Notes mid.view.client s x.life side (kid_in below mid))
              (holds_knows s (node_has now s st.node)) knows_side

          down_leads : Leads end.view.client (kid_in (Some r) old) (n + 1) (kid_in below end) key least
          down_leads =
              leads_more mid.view.client end.view.client (kid_in (Some r) old) (n + 1)
              (kid_in below end) key least goes.learns.led
              (goes_down now.view.client mid.view.client (kid_in (Some r) old) n (kid_of s o) key best
              (slice_index o.payload 1) (slice_index o.payload 2) (slice_index o.payload 3)
              (node_words o st.node.node) holds.learns.led st.leads side least
              (subst (λ (y : ℕ × ℕ). Turns key y.0 y.1 best side least) (λ i. (is1 i, is2 i)) turns)
              (kid_in below end)
              (subst (λ (k : Option Kid). Notes mid.view.client s o.life side k)
              (sym (below_same below refl)) side_noted))

          -- to null
          module _ (null : below ≡ None) where
            pub null_reads : Reads v old end
            null_reads = subst (λ (y : Option SlotId). Reads (held_by j y v) old end) null down_reads

            pub finds_below : Sought r key least end
            finds_below =
                let same = same_kid old end r (down_knows r (node_has old r root)) in
                let whole = down_leads end.view.client (λ e i. i) ends
                (ap (λ (y : Option SlotId). kid_in y end) null) in record {
                  way = whole.whole;
                  tells = subst (λ (k : Option Kid).
                      Tells end.view.client k whole.whole) (sym same)
                      whole.tells;
                  seeks = whole.seeks least refl;
                }

          -- to a node
          pub steps_down : (kid : SlotId) → below ≡ Some kid → HasNode kid mid
              → Stands r free key old (n + 1) least kid (Some j) end
          steps_down kid at_kid node =
              let reads = subst (λ (y : Option SlotId). Reads (held_by j y v) old end) at_kid down_reads in
              let same = below_same (Some kid) at_kid in
              let core = subst (λ (y : Option SlotId). freed w mid.view.core
              ≡ record (held_by j y v) { trail = v.trail ++ both.moves }) at_kid left_core in record {
                reads = reads;
                knows = down_knows;
                word = next.word;
                node = node_still (freed w mid.view.core) mid end kid goes
                    (goes_knows kid (subst (λ (u : CoreView). HasSlot (show_seat u) kid) (sym core)
                    (kid_has v free four first at.0 at.1 at.2 j next.word kid
                    (v.trail ++ both.moves))))
                    (subst (λ (u : CoreView). HoldsStrongly u kid) (sym reads.core)
                    (kid_held v free four first at.0 at.1 at.2 j next.word kid
                    (v.trail ++ reads.moves)))
                    node;
                leads = subst (λ (y : Option SlotId).
                    Leads end.view.client (kid_in (Some r) old) (n + 1) (kid_in y end) key least)
                    at_kid down_leads;
              }

  -- THE KEY AND THE VALUE of the node are read
  pub record HasWords (n : ℕ) (best : Option Pair) (s : SlotId) (w : Option ℕ) (found value : ℕ)
      (new : SeatState View) : Type 0 where
    pub there : Stands r free key old n best s w new
    pub key_is : found ≡ slice_index (object_in new.view s).payload 1
    pub value_is : value ≡ slice_index (object_in new.view s).payload 2

  pub two_words : (n : ℕ) (best : Option Pair) (s : SlotId) (w : Option ℕ)
      (now mid new : SeatState View) (found value : ℕ) → Stands r free key old n best s w now
      → Reads now.view.core now mid → KnowsStill now.view.core now mid
      → found ≡ slice_index (object_in now.view s).payload 1
      → Reads mid.view.core mid new → KnowsStill mid.view.core mid new
      → value ≡ slice_index (object_in mid.view s).payload 2
      → HasWords n best s w found value new
  two_words n best s w now mid new found value st reads knows is1 more further is2 =
      let one = reads_on n best s w now st mid reads knows in
      let same = knows s (node_has now s st.node) in
      let again = further s (node_has mid s one.node) in record {
        there = reads_on n best s w mid one new more further;
        key_is = is1 ∙ ap (λ (x : Object). slice_index x.payload 1) (sym (again ∙ same));
        value_is = is2 ∙ ap (λ (x : Object). slice_index x.payload 2) (sym again);
      }
