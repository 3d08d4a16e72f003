-- What the lesson of a pop makes of a view: it has read some more, or nothing has changed.
use Rattle.std.proofs.Common.{◌≡◌, ⊎_elim, ℕ, zero, suc, Bool, true, false, [], ◌∷◌, ◌++◌, refl, ap, sym, ◌∙◌, subst}
use Rattle.std.proofs.lemmas.List.{append_assoc, append-nil}
use Rattle.std.specs.Prelude.{◌==◌, if◌then◌else◌, slice_index, Option, Some, None}
use Rattle.control_word.specs.acquire_retire.Domains.{DomainState}
use Rattle.control_word.specs.acquire_retire.Seats.{SeatState}
use Rattle.control_word.specs.domain_rule.Views.{own_of}
use Rattle.control_word.specs.plain_protocol.Owns.{Object, OwnPart}
use Rattle.control_word.specs.plain_state.declared.act.EventPlace.TheVariants.{Field}
use Rattle.control_word.specs.plain_state.declared.act.PlainAct.{PlainAct}
use Rattle.control_word.specs.plain_state.declared.act.PlainAct.TheVariants as plain
use Rattle.control_word.specs.plain_state.declared.slot.SlotId.{SlotId}
use Rattle.linked_queue.specs.Readings.{LeavesBeside, Tries}
use Rattle.watch_protocol.specs.declared.news.NewsLaw.{NewsLaw}
use Rattle.watch_protocol.specs.queue_law.Words.{id}
use Rattle.watch_protocol.specs.watch_law.declared.view.Address.{Address}
use Rattle.watch_protocol.specs.watch_law.declared.view.View.{View}
use Rattle.watch_protocol.specs.watch_law.Lessons.{reads, reads_word}
use Rattle.watch_protocol.specs.watch_law.News.{NewsView}
use Rattle.watch_protocol.specs.watch_law.Steps.{address_by, payload_in, read_slot}
use Rattle.weak_part_calls.proofs.Below.protected_loads_Learning.{client_moved, client_null}
use Rattle.weak_part_calls.specs.protected_loads.Loads.{Misses}
use Rattle.weak_part_calls.specs.protected_loads.References.{Loads, Refers}
use Rattle.weak_watch.specs.Receiving.{LessonTells, OnlyReads, ReadsMore, lesson_next, with_queue}
use Rattle.weak_watch.specs.Subjects.{news_fits}

grows_same : (v : View) → ReadsMore v v
grows_same v = record { more = ([], sym (append-nil v.read)); beside = refl }

pub grows_as : (v w : View) → w ≡ v → ReadsMore v w
grows_as v w is = subst (λ (u : View). ReadsMore v u) (sym is) (grows_same v)

pub grows_then : (u v w : View) → ReadsMore u v → ReadsMore v w → ReadsMore u w
grows_then u v w first more = record {
  more = (
    first.more.0 ++ more.more.0,
    more.more.1 ∙ ap (λ xs. xs ++ more.more.0) first.more.1
        ∙ append_assoc u.read first.more.0 more.more.0,
  );
  beside = more.beside ∙ first.beside;
}

-- THE LESSON
grows_if : (b : Bool) (a : Address) (v : View)
    → ReadsMore v (if b then record v { read = v.read ++ a ∷ [] } else v)
grows_if true a v = record { more = (a ∷ [], refl); beside = refl }
grows_if false a v = grows_same v

grows_object : (own : OwnPart) (d : SlotId) (x : Option Object) (o : SlotId) (v : View)
    → ReadsMore v (reads own d x o v)
grows_object own d None o v = grows_same v
grows_object own d (Some x) o v =
    grows_if (slice_index (payload_in own d) 0 == 2) (address_by own d (Some x) o) v

grows_word : (d : SlotId) (own after : OwnPart) (v : View) (found : ℕ)
    → ReadsMore v (reads_word d own after v found)
grows_word d own after v zero = grows_same v
grows_word d own after v (suc o) = grows_object own d (after.objects (id o)) (id o) v

grows_by : (own after : OwnPart) (v w : NewsView) (step : PlainAct) (found : ℕ)
    → w ≡ lesson_next own after v step found → ReadsMore v.1 w.1
grows_by own after v w step found is = subst (λ (u : NewsView). ReadsMore v.1 u.1) (sym is)
    (grows_word (read_slot step) own after v.1 found)

-- A READING of field 0 of an item, and one that was tried
module _ (d : DomainState NewsLaw) (item : SlotId) (old new : SeatState NewsView) where
  grows_found : (s : SlotId) → Refers news_fits d (Field item 0) lesson_next LessonTells s old new
      → OnlyReads old new
  grows_found s r =
      let mid = r.protects.mid in
      let check = r.protects.checks.walks.1 in
      subst (λ (v : NewsView). ReadsMore v.1 new.view.client.1) r.protects.announces.client
      (grows_by (own_of mid.view) (own_of r.protects.checks.walks.0.view) mid.view.client
      new.view.client (plain.Check 0 (Field item 0)) check.word
      (r.client ∙ ap (λ (z : SeatState NewsView). z.view.client) r.protects.checks.walks.2
      ∙ check.told.client))

  pub grows_loaded : (content : Option SlotId)
      → Loads news_fits d (Field item 0) lesson_next LessonTells content old new
      → OnlyReads old new
  grows_loaded None null = grows_by (own_of old.view) (own_of null.becomes.walks.0.view)
      old.view.client new.view.client (plain.Look (Field item 0)) 0
      (client_null d (Field item 0) old new null)
  grows_loaded (Some s) r = grows_found s r

  grows_missed : (seen now : Option SlotId)
      → Misses news_fits d 0 (Field item 0) lesson_next LessonTells seen now old new
      → OnlyReads old new
  grows_missed seen now m =
      subst (λ (v : NewsView). ReadsMore v.1 new.view.client.1) m.announces.client
      (grows_by (own_of m.mid.view) (own_of m.checks.walks.0.view) m.mid.view.client
      new.view.client (plain.Check 0 (Field item 0)) m.checks.walks.1.word
      (client_moved d (Field item 0) old new seen now m))

  pub grows_tried : Tries news_fits d with_queue lesson_next LessonTells 0 item old new
      → OnlyReads old new
  grows_tried tries = ⊎_elim
      (λ (same : new ≡ old). grows_as _ _ (ap (λ (z : SeatState NewsView). z.view.client.1) same))
      (λ more. ⊎_elim (λ loads. grows_loaded loads.0 loads.1)
      (λ misses. grows_missed misses.0 misses.1 misses.2) more)
      tries

-- A POP leaves what is beside the queue so
pub only_reads : (d : DomainState NewsLaw) (found : Option (SlotId × Option SlotId))
    (old new : SeatState NewsView)
    → LeavesBeside news_fits d with_queue lesson_next LessonTells (Some 0) found old new
    → OnlyReads old new
only_reads d None old new beside = ⊎_elim
    (λ same. grows_as _ _ (ap (λ (v : NewsView). v.1) same))
    (λ tries. grows_then _ _ _
    (grows_as _ _ (ap (λ (v : NewsView). v.1) tries.before.same))
    (grows_then _ _ _ (grows_tried d tries.item tries.begun tries.tried tries.tries)
    (grows_as _ _ (ap (λ (v : NewsView). v.1) tries.after.same))))
    beside
only_reads d (Some x) old new reads = grows_then _ _ _
    (grows_as _ _ (ap (λ (v : NewsView). v.1) reads.before.same))
    (grows_then _ _ _ (grows_loaded d x.0 reads.begun reads.read x.1 reads.loads)
    (grows_as _ _ (ap (λ (v : NewsView). v.1) reads.after.same)))
