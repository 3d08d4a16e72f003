-- Answers that are alike are written in the same bytes.
use Rattle.std.proofs.Common.{◌≡◌, ℕ, List, [], ◌∷◌, ◌++◌, codes, refl, ap, ap₂, sym, ◌∙◌, ⊎_elim}
use Rattle.std.specs.Prelude.{◌==◌, if◌then◌else◌, map, string_bytes}
use Rattle.std.specs.List.{flat_map}
use Rattle.std.specs.Global.{Global}
use Rattle.std.specs.declared.string.String.{String}
use Rattle.std.proofs.lemmas.List.Concat.{flat_map-cons}
use Rattle.line_machine.specs.cdrc_text.Report.{audit_line}
use Rattle.script_law.specs.script_lines.declared.command.Command.{Command}
use Rattle.script_law.specs.script_lines.declared.command.Command.TheVariants as command
use Rattle.script_law.specs.script_desk.declared.said.Said.{Said}
use Rattle.script_law.specs.script_desk.declared.said.Said.TheVariants as said
use Rattle.script_law.specs.script_desk.declared.said.Shown.{Shown}
use Rattle.script_law.specs.SaidAlike.{SaidAlike, ShownAlike}
use Rattle.cdrc_scripts.specs.SaidLines.{audit_lines, numbers_line, said_line, walk_line}

-- the names of a walk are written by their bytes
names_by_bytes : (names : List (String Global))
    → flat_map (λ name. codes " " ++ string_bytes name) names
    ≡ flat_map (λ (bytes : List ℕ). codes " " ++ bytes) (map string_bytes names)
names_by_bytes [] = refl
names_by_bytes (name ∷ names) =
    flat_map-cons (λ (n : String Global). codes " " ++ string_bytes n) name names
    ∙ ap (λ (rest : List ℕ). (codes " " ++ string_bytes name) ++ rest) (names_by_bytes names)
    ∙ sym (flat_map-cons (λ (bytes : List ℕ). codes " " ++ bytes) (string_bytes name) (map string_bytes names))

module _ (one other : Shown) (alike : ShownAlike one other) where
  numbers_same : numbers_line (codes "audit") one ≡ numbers_line (codes "audit") other
  numbers_same = λ i. audit_line (codes "audit") (record {
    live = alike.live i;
    deferred = alike.deferred i;
    cyclic = alike.cyclic i;
    bytes = alike.bytes i;
  })

  names_same : flat_map (λ name. codes " " ++ string_bytes name) one.walk.items
      ≡ flat_map (λ name. codes " " ++ string_bytes name) other.walk.items
  names_same =
      names_by_bytes one.walk.items
      ∙ ap (flat_map (λ (bytes : List ℕ). codes " " ++ bytes)) alike.walk
      ∙ sym (names_by_bytes other.walk.items)

  walk_same : walk_line one ≡ walk_line other
  walk_same = λ i. if alike.cyclic i == 0 then [] else codes "walk" ++ names_same i ++ codes "\n"

  audits_same : audit_lines one ≡ audit_lines other
  audits_same = ap₂ (λ (xs ys : List ℕ). xs ++ ys) numbers_same walk_same

audit_said : (c : Command) (one other : Shown) → ShownAlike one other
    → said_line c (said.Audited one) ≡ said_line c (said.Audited other)
audit_said command.Audit one other alike = audits_same one other alike
audit_said (command.Make name weight) one other alike = refl
audit_said (command.Copy name new) one other alike = refl
audit_said (command.Drop name) one other alike = refl
audit_said (command.Weaken name new) one other alike = refl
audit_said (command.CopyWeak name new) one other alike = refl
audit_said (command.DropWeak name) one other alike = refl
audit_said (command.Upgrade name new) one other alike = refl
audit_said (command.Put place name) one other alike = refl
audit_said (command.Clear place) one other alike = refl
audit_said (command.Load place new) one other alike = refl
audit_said (command.Replace place old new) one other alike = refl
audit_said (command.Snap place new) one other alike = refl
audit_said (command.EndSnapshot name) one other alike = refl
audit_said (command.Keep name new) one other alike = refl
audit_said (command.Read name word) one other alike = refl
audit_said (command.Counts name) one other alike = refl

pub written_alike : (c : Command) (a b : Said) → SaidAlike a b → said_line c a ≡ said_line c b
written_alike c a b alike =
    ⊎_elim
    (λ same. ap (said_line c) same)
    (λ x. ap (said_line c) x.2 ∙ audit_said c x.0 x.1 x.4 ∙ sym (ap (said_line c) x.3))
    alike
