-- What a seat knows of the records that it saw, and what a walk tells.
use Rattle.std.proofs.Common.{◌≡◌, ◌≢◌, ◌⊎◌, ⊎_elim, ℕ, ◌<◌, ◌≤◌, List, [], ◌∷◌, ◌++◌, refl, ap, sym, ◌∙◌, subst, arith}
use Rattle.std.specs.Prelude.{Option, Some, None}
use Rattle.std.proofs.lemmas.Bool.{cases_eq, cases_lt}
use Rattle.plain_protocol.specs.plain_state.declared.slot.SlotId.{SlotId}
use Rattle.plain_protocol.specs.plain_state.State.{Plain, slot_at}
use Rattle.plain_protocol.specs.plain_state.Lawful.{Lawful}
use Rattle.plain_protocol.specs.Owns.{Object, own_part, object_of}
use Rattle.directory_law.specs.declared.view.Rope.{Rope}
use Rattle.directory_law.specs.Payloads.{Text, IsText}
use Rattle.directory_law.specs.Views.{In}
use Rattle.directory_law.specs.Chains.{Along, Reads}
use Rattle.directory_law.specs.Cells.{Area, on}
use Rattle.directory_law.specs.Steps.{life_in, payload_in, life_of, payload_of}
use Rattle.directory_law.specs.Walks.{NotPrefix}
use Rattle.directory_law.proofs.Chains.{reads_same}
use Rattle.directory_law.proofs.Kit.{none_some, some_same}
use Rattle.directory_law.proofs.Notes.{each_in}
use Rattle.directory_law.proofs.Owns.{object_is}
use Rattle.cell_law.specs.Views.{Sight, View, view_at, bound_in, BoundIn, IsOpen}
use Rattle.cell_law.specs.Cells.{cell, IsNew, IsRecord, NoRecord}
use Rattle.cell_law.specs.Law.{Follows, Saw, CellLaw}
use Rattle.cell_law.specs.Walks.{HasAll, payloads, Passes, Walked, last_of}
use Rattle.cell_law.proofs.Kit.{in_either}
use Rattle.cell_law.proofs.Stands.{bound_reads, bound_text, one_text, record_bound, set_record, standing_live}

-- what the seat has of a slot is the state's
pub has_object : (p : Plain) (n : ℕ) (s : SlotId) → (own_part p n).objects s ≢ None
    → (own_part p n).objects s ≡ Some (object_of (slot_at p s))
has_object p n s has = go ((own_part p n).objects s) refl
  where
    go : (x : Option Object) → (own_part p n).objects s ≡ x
        → (own_part p n).objects s ≡ Some (object_of (slot_at p s))
    go None is = absurd (has is)
    go (Some o) is = is ∙ ap Some (object_is p n s o is)

pub has_life : (p : Plain) (n : ℕ) (s : SlotId) → (own_part p n).objects s ≢ None
    → life_in (own_part p n) s ≡ (slot_at p s).life
has_life p n s has = ap life_of (has_object p n s has)

has_payload : (p : Plain) (n : ℕ) (s : SlotId) → (own_part p n).objects s ≢ None
    → payload_in (own_part p n) s ≡ (slot_at p s).payload
has_payload p n s has = ap payload_of (has_object p n s has)

-- the first slot of a chain has the first payload, and leads to the rest
along_head : (p : Plain) (n : ℕ) (place : Option SlotId) (s : SlotId) (t : List ℕ) (ts : Text)
    → Along p place (t ∷ ts) → place ≡ Some s → (own_part p n).objects s ≢ None
    → t ≡ payload_in (own_part p n) s
along_head p n place s t ts along at has =
    sym along.2 ∙ (ap (λ (x : SlotId). (slot_at p x).payload)
    (some_same along.0 s (sym along.1 ∙ at)) ∙ sym (has_payload p n s has))

along_rest : (p : Plain) (place : Option SlotId) (s : SlotId) (t : List ℕ) (ts : Text)
    → Along p place (t ∷ ts) → place ≡ Some s → Along p (slot_at p s).second ts
along_rest p place s t ts along at =
    subst (λ (x : SlotId). Along p (slot_at p x).second ts)
    (some_same along.0 s (sym along.1 ∙ at)) along.4

along_null : (p : Plain) (place : Option SlotId) (ts : Text) → place ≡ None → Along p place ts → ts ≡ []
along_null p place [] null along = refl
along_null p place (t ∷ ts) null along = absurd (none_some along.0 (sym null ∙ along.1))

-- the text from a place on begins with the payloads of the slots that follow there
along_begins : (p : Plain) (n : ℕ) (place : Option SlotId) (ss : List SlotId) (ts : Text)
    → Along p place ts → Follows p place ss → HasAll (own_part p n) ss
    → (rest : Text) × (ts ≡ payloads (own_part p n) ss ++ rest)
along_begins p n place [] ts along follows has = (ts, refl)
along_begins p n place (s ∷ ss) [] along follows has =
    absurd (none_some s (sym along ∙ follows.0))
along_begins p n place (s ∷ ss) (t ∷ ts) along follows has =
    let r = along_begins p n (slot_at p s).second ss ts
    (along_rest p place s t ts along follows.0) follows.1 has.1 in (
      r.0,
      ap (λ (x : List ℕ). x ∷ ts) (along_head p n place s t ts along follows.0 has.0)
          ∙ ap (λ (x : Text). payload_in (own_part p n) s ∷ x) r.1,
    )

-- where the last of them leads nowhere, they have the whole of it
along_ends : (p : Plain) (n : ℕ) (place : Option SlotId) (ss : List SlotId) (ts : Text) → ss ≢ []
    → Along p place ts → Follows p place ss → HasAll (own_part p n) ss
    → (slot_at p (last_of ss)).second ≡ None → ts ≡ payloads (own_part p n) ss
along_ends p n place [] ts some along follows has null = absurd (some refl)
along_ends p n place (s ∷ ss) [] some along follows has null =
    absurd (none_some s (sym along ∙ follows.0))
along_ends p n place (s ∷ []) (t ∷ ts) some along follows has null =
    ap (λ (x : List ℕ). x ∷ ts) (along_head p n place s t ts along follows.0 has.0)
    ∙ ap (λ (x : Text). payload_in (own_part p n) s ∷ x)
    (along_null p (slot_at p s).second ts null
    (along_rest p place s t ts along follows.0))
along_ends p n place (s ∷ r ∷ ss) (t ∷ ts) some along follows has null =
    ap (λ (x : List ℕ). x ∷ ts) (along_head p n place s t ts along follows.0 has.0)
    ∙ ap (λ (x : Text). payload_in (own_part p n) s ∷ x)
    (along_ends p n (slot_at p s).second (r ∷ ss) ts (λ e. cc)
    (along_rest p place s t ts along follows.0) follows.1 has.1 null)

-- the record of which a seat saw and has some slots: its text begins with their payloads
pub record SeenText (z : Area) (p : Plain) (n : ℕ) (views : List View) (c : ℕ) (s : SlotId)
    (ss : List SlotId) : Type 0 where
  pub is : cell z p c ≡ Some s
  pub text : Text
  pub bound : BoundIn views s (slot_at p s).life text
  pub of : IsRecord z p text s
  pub rest : Text
  pub begins : text ≡ payloads (own_part p n) (s ∷ ss) ++ rest

-- the cell is set, with the record of another text
pub record PassedAt (z : Area) (p : Plain) (text : Text) (c : ℕ) : Type 0 where
  pub inside : c < z.cells
  pub slot : SlotId
  pub is : cell z p c ≡ Some slot
  pub other : Text
  pub reads : Reads p slot other
  pub differs : other ≢ text

abbrev pub Passed : Area → Plain → Text → ℕ → Type 0
Passed z p text m = (j : ℕ) → j < m → PassedAt z p text (on z text j)

module _ (z : Area) (p : Plain) (views : List View) (lawful : Lawful p) (law : CellLaw z p views)
    (opened : IsOpen views) where
  pub seen_text : (n c : ℕ) (s : SlotId) (ss : List SlotId) → c < z.cells
      → Follows p (cell z p c) (s ∷ ss) → HasAll (own_part p n) (s ∷ ss)
      → SeenText z p n views c s ss
  seen_text n c s ss inside follows has =
      let o = set_record z p views law lawful c s inside follows.0 in
      let reads = o.2.reads in
      let a = along_begins p n (slot_at p s).second ss reads.0 reads.2 follows.1 has.1 in
      record {
        is = follows.0;
        text = o.0;
        bound = o.1;
        of = o.2;
        rest = a.0;
        begins = reads.1
            ∙ (ap (λ (x : List ℕ). x ∷ reads.0) (sym (has_payload p n s has.0))
            ∙ ap (λ (x : Text). payload_in (own_part p n) s ∷ x) a.1);
      }

  -- and where the last of them leads nowhere, the payloads are a text
  pub whole_text : (n : ℕ) (e : Sight) → Saw z p views e → e.slots ≢ []
      → HasAll (own_part p n) e.slots → (slot_at p (last_of e.slots)).second ≡ None
      → IsText (payloads (own_part p n) e.slots)
  whole_text n e saw some has null = go e.slots some (saw.1 opened) has null
    where
      go : (ss : List SlotId) → ss ≢ [] → Follows p (cell z p e.cell) ss
          → HasAll (own_part p n) ss → (slot_at p (last_of ss)).second ≡ None
          → IsText (payloads (own_part p n) ss)
      go [] some follows has null = absurd (some refl)
      go (s ∷ ss) some follows has null =
          let o = set_record z p views law lawful e.cell s saw.0 follows.0 in
          let reads = o.2.reads in
          let tail = tail_is s ss reads.0 reads.2 follows.1 has.1 null in
          subst IsText (reads.1 ∙ (ap (λ (x : List ℕ). x ∷ reads.0) (sym (has_payload p n s has.0))
          ∙ ap (λ (x : Text). payload_in (own_part p n) s ∷ x) tail)) o.2.is
        where
          tail_is : (s : SlotId) (ss : List SlotId) (ts : Text) → Along p (slot_at p s).second ts
              → Follows p (slot_at p s).second ss → HasAll (own_part p n) ss
              → (slot_at p (last_of (s ∷ ss))).second ≡ None → ts ≡ payloads (own_part p n) ss
          tail_is s [] ts along follows has null = along_null p (slot_at p s).second ts null along
          tail_is s (r ∷ ss) ts along follows has null =
              along_ends p n (slot_at p s).second (r ∷ ss) ts (λ e. cc) along follows has null

  passes_at : (n : ℕ) (text : Text) (c : ℕ) → Passes (own_part p n) (view_at views n) text c
      → PassedAt z p text c
  passes_at n text c pass = go pass.0 saw pass.2 pass.3 pass.4
    where
      saw : Saw z p views pass.0
      saw = each_in (Saw z p views) pass.0 (view_at views n).seen pass.1 (law.learnt n).seen

      go : (e : Sight) → Saw z p views e → e.cell ≡ c → HasAll (own_part p n) e.slots
          → NotPrefix (payloads (own_part p n) e.slots) text → PassedAt z p text c
      go e saw at has not = by e.slots (saw.1 opened) has not
        where
          by : (ss : List SlotId) → Follows p (cell z p e.cell) ss → HasAll (own_part p n) ss
              → NotPrefix (payloads (own_part p n) ss) text → PassedAt z p text c
          by [] follows has not = absurd (not text refl)
          by (s ∷ ss) follows has not =
              let o = seen_text n e.cell s ss saw.0 follows has in
              subst (PassedAt z p text) at
              (record {
                inside = saw.0;
                slot = s;
                is = o.is;
                other = o.text;
                reads = o.of.reads;
                differs = λ same. not o.rest (sym same ∙ o.begins);
              })

  pub walked_passed : (n : ℕ) (text : Text) (m : ℕ)
      → Walked z (own_part p n) (view_at views n) text m → Passed z p text m
  walked_passed n text m walked j lt = passes_at n text (on z text j) (walked j lt)

  -- where the walk comes to a null cell, or has passed all cells, no cell holds a record of the text
  pub null_tells : (text : Text) (m : ℕ) → Passed z p text m
      → (cell z p (on z text m) ≡ None) ⊎ (z.cells ≤ m) → NoRecord z p text
  null_tells text m passed ends s r =
      let c : ℕ = r.stands.0 in
      let is = r.stands.2 in
      let o = law.cells c s r.stands.1 is in
      let same = one_text z p views law s o.text text r.stage o.bound
      (record_bound z p views law text s r) in
      let w0 = o.way opened in
      let at : c ≡ on z text w0.0 = w0.2 ∙ ap (λ (t : Text). on z t w0.0) same in
      ⊎_elim
      (λ (h : w0.0 < m).
      let x = passed w0.0 h in
      let y : x.slot ≡ s = some_same x.slot s
      (sym x.is ∙ (ap (λ (d : ℕ). cell z p d) (sym at) ∙ is)) in
      x.differs (reads_same p s x.other text (subst (λ (k : SlotId). Reads p k x.other) y x.reads)
      r.reads))
      (λ (h : m ≤ w0.0).
      ⊎_elim
      (λ null.
      ⊎_elim
      (λ (e : w0.0 ≡ m). none_some s (sym null
      ∙ (ap (λ (k : ℕ). cell z p (on z text k)) (sym e)
      ∙ (ap (λ (d : ℕ). cell z p d) (sym at) ∙ is))))
      (λ (ne : w0.0 ≢ m). w0.3 m (omega arith)
      (ap (λ (t : Text). cell z p (on z t m)) same ∙ null))
      (cases_eq w0.0 m))
      (λ (all : z.cells ≤ m). let short = w0.1 in omega arith)
      ends)
      (cases_lt w0.0 m)

  -- what is listed as bound is a record
  pub listed_record : (s : SlotId) (l : ℕ) (text : Text) → BoundIn views s l text
      → IsRecord z p text s
  listed_record s l text k =
      let o = law.stands opened s l text k in
      let live = (standing_live z p o.0 s lawful o.2).0 in
      record {
        stands = (o.0, o.1, o.2);
        stage = live;
        is = bound_text z p views law s l text k;
        reads = (bound_reads z p views law s text live
            (subst (λ (x : ℕ). BoundIn views s x text) (sym o.3) k)).1;
      }

  -- where no cell holds a record of the text, no view tells of one
  pub new_text : (n : ℕ) (text : Text) → NoRecord z p text → IsNew z p (view_at views n) text
  new_text n text none = record {
    none = none;
    untold = λ e i same. ⊎_elim
        (λ (f : In e (view_at views n).found).
        unlisted e (each_in (λ (r : Rope). BoundIn views r.slot r.life r.text) e
        (view_at views n).found f (law.learnt n).found) same)
        (λ (b : In e (bound_in (view_at views n))). unlisted e (n, b) same)
        (in_either e (view_at views n).found (bound_in (view_at views n)) i);
  }
    where
      unlisted : (e : Rope) → BoundIn views e.slot e.life e.text → e.text ≡ text → ⊥
      unlisted e k same = none e.slot (subst (λ (t : Text). IsRecord z p t e.slot) same
          (listed_record e.slot e.life e.text k))
