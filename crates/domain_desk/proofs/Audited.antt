-- What an audit tells of the desk.
use Rattle.std.proofs.Common.{◌≡◌, ℕ, ◌<◌, List, length, map, All, ap, sym, ◌∙◌}
use Rattle.std.specs.Prelude.{string_bytes}
use Rattle.script_desk.specs.heap_audit.declared.finding.Audit.{Audit}
use Rattle.script_desk.specs.plain_audit.Audits.{IsAudit}
use Rattle.script_desk.specs.plain_state.declared.slot.SlotId.{SlotId}
use Rattle.lone_heap.specs.acquire_retire.Seats.{SeatState}
use Rattle.lone_heap.specs.Lone.{known_plain}
use Rattle.script_desk.specs.script_lines.declared.command.Command.TheVariants as command
use Rattle.script_desk.specs.declared.said.Said.TheVariants as said
use Rattle.script_desk.specs.declared.said.Shown.{Shown}
use Rattle.script_desk.specs.Audits.{AreRanks}
use Rattle.script_desk.specs.Desks.{Maker, maker_at}
use Rattle.script_desk.specs.Effects.{Acts}
use Rattle.script_desk.specs.Kinds.{script_weight}
use Rattle.script_desk.proofs.Auditing.{audit_told, walk_made, walk_named}
use Rattle.script_desk.proofs.Ranking.{are_ranks, number_of}
use Rattle.domain_desk.specs.Desks.{DeskState, IsKept, desk_of, plain_of}
use Rattle.domain_desk.proofs.Keeping.{IsStill, has_kept}
use Rattle.domain_desk.proofs.Told.{later, same_desk}

module _ {P : Type 0} (i d : DeskState P) (is : i ≡ d) (kept : IsKept d) where
  -- the numbers of the makes are the ranks of the slots
  module _ (made : List Maker) (own : made ≡ i.makers) (ranks : List ℕ)
      (numbers : ranks ≡ map number_of made) where
    pub ranks_here : AreRanks (desk_of d) ranks
    ranks_here =
        are_ranks (plain_of i) i.names i.makers i.makes _ _ (has_kept i d is kept).kept (desk_of d)
        (ap desk_of is) ranks (numbers ∙ ap (map number_of) own)

    pub ranked_here : (read : List ℕ) → read ≡ ranks → length read ≡ length (plain_of i).slots
    ranked_here read same =
        ap length same ∙ ranks_here.0 ∙ ap (λ (x : DeskState P). length (plain_of x).slots) (sym is)

  module _ (seat : SeatState (Unit {0})) (still : IsStill i seat)
      (same : known_plain i.domain seat ≡ plain_of i) (read : List ℕ) (found : Audit)
      (audit : IsAudit script_weight read (plain_of i) found) (made : List Maker)
      (own : made ≡ i.makers) (walk : List SlotId) (items : walk ≡ found.walk.items) where
    pub walk_here : All (λ s. s.0 < length made) walk
    walk_here =
        walk_made (plain_of i) i.makers made (has_kept i d is kept).kept.makers own read found walk
        audit items

    pub audit_acts : (ranks : List ℕ) (shown : Shown) → AreRanks (desk_of d) ranks → read ≡ ranks
        → shown.live ≡ found.live → shown.deferred ≡ found.deferred
        → shown.cyclic ≡ found.cyclic → shown.bytes ≡ found.bytes
        → map string_bytes shown.walk.items ≡ map (λ s. (maker_at made s).name) walk
        → Acts (desk_of d) command.Audit (said.Audited shown)
        (desk_of (later i d is kept seat still))
    audit_acts ranks shown are read_are live deferred cyclic bytes names = (
      audit_told (plain_of i) i.names i.makers i.makes (desk_of d) (ap desk_of is) found ranks read
          shown are read_are audit
          (record {
            live = live;
            deferred = deferred;
            cyclic = cyclic;
            bytes = bytes;
            walk =
                walk_named (desk_of d) i.makers made walk found.walk.items _
                (ap (λ (x : DeskState P). x.makers) is) own items names;
          }),
      same_desk i d is kept seat still same,
    )
