-- How many line feeds stand in the last lines of a text of counts.
use Rattle.std.proofs.Common.{◌≡◌, ℕ, zero, suc, ◌+◌, ◌<◌, ◌≤◌, ◌==◌, ◌%◌, ◌/◌, Bool, true, false, cond, List, [], ◌∷◌, ◌++◌, length, drop, get_or, codes, refl, ap, arith}
use Rattle.std.proofs.lemmas.Bool.Decides.{nat_tests}
use Rattle.std.proofs.lemmas.List.Sums.{sum_by-append, sum_by-cons}
use Rattle.std.specs.Fmt.{decimal, digit_glyph, digits, digits_onto}
use Rattle.std.specs.List.{count_by}
use Rattle.command_line.specs.cdrc_text.declared.row.AuditLine.{AuditLine}
use Rattle.command_line.specs.cdrc_text.declared.row.Totals.{Totals}
use Rattle.command_line.specs.cdrc_text.Report.{audit_line, closing_lines, files_line}

abbrev pub is_feed : ℕ → Bool
is_feed byte = byte == 10

abbrev pub feeds_in : List ℕ → ℕ
feeds_in text = count_by is_feed text

pub feeds_append : (text more : List ℕ) → feeds_in (text ++ more) ≡ feeds_in text + feeds_in more
feeds_append text more = sum_by-append (λ byte. cond {A = ℕ} (is_feed byte) 1 0) text more

pub feeds_cons : (byte : ℕ) (text : List ℕ)
    → feeds_in (byte ∷ text) ≡ cond {A = ℕ} (is_feed byte) 1 0 + feeds_in text
feeds_cons byte text = sum_by-cons (λ byte. cond {A = ℕ} (is_feed byte) 1 0) byte text

glyph : (d : ℕ) → is_feed (digit_glyph false d) ≡ false
glyph d = grind (arith, nat_tests)

glyph_before : (d : ℕ) (text : List ℕ) → feeds_in text ≡ 0
    → feeds_in (digit_glyph false d ∷ text) ≡ 0
glyph_before d text none =
    let a = feeds_cons (digit_glyph false d) text in
    let b : ◌≡◌ {A = ℕ} (cond {A = ℕ} (is_feed (digit_glyph false d)) 1 0) 0 = ap {B = ℕ} (λ b. cond {A = ℕ} b 1 0) (glyph d) in
    omega arith

onto : (k n : ℕ) (text : List ℕ) → feeds_in text ≡ 0
    → feeds_in (digits_onto k 10 false n text) ≡ 0
onto zero n text none = none
onto (suc k) n text none =
    let more = digit_glyph false (n % 10) ∷ text in
    let here = glyph_before (n % 10) text none in
    let both : (b : Bool) → feeds_in (cond b more (digits_onto k 10 false (n / 10) more)) ≡ 0
    = λ b. elim b as (λ b. feeds_in (cond b more (digits_onto k 10 false (n / 10) more)) ≡ 0)
    [ true ↦ here | false ↦ onto k (n / 10) more here ] in
    both (n / 10 == 0)

no_feed : (n : ℕ) → feeds_in (decimal n) ≡ 0
unfolding digits
no_feed n = onto 64 n [] refl

-- behind a text stand a label and a number
numbered : (front label : List ℕ) (n : ℕ) → feeds_in label ≡ 0
    → feeds_in (front ++ label ++ decimal n) ≡ feeds_in front
numbered front label n none =
    let a = feeds_append (front ++ label) (decimal n) in
    let b = feeds_append front label in
    let c = no_feed n in omega arith

feed_behind : (front : List ℕ) → feeds_in (front ++ codes "\n") ≡ feeds_in front + 1
feed_behind front =
    let a = feeds_append front (codes "\n") in
    let b : feeds_in (codes "\n") ≡ 1 = refl in omega arith

files_feed : (files pieces distinct : ℕ) → feeds_in (files_line files pieces distinct) ≡ 1
files_feed files pieces distinct =
    let x = codes "files " ++ decimal files in
    let y = x ++ codes " pieces " ++ decimal pieces in
    let z = y ++ codes " distinct " ++ decimal distinct in
    let a = feeds_append (codes "files ") (decimal files) in
    let b : feeds_in (codes "files ") ≡ 0 = refl in
    let c = no_feed files in
    let d = numbered x (codes " pieces ") pieces refl in
    let e = numbered y (codes " distinct ") distinct refl in
    let f = feed_behind z in omega arith

audit_feed : (name : List ℕ) (audit : AuditLine) → feeds_in name ≡ 0
    → feeds_in (audit_line name audit) ≡ 1
audit_feed name audit none =
    let x = name ++ codes " live " ++ decimal audit.live in
    let y = x ++ codes " deferred " ++ decimal audit.deferred in
    let z = y ++ codes " cyclic " ++ decimal audit.cyclic in
    let w = z ++ codes " bytes " ++ decimal audit.bytes in
    let a = numbered name (codes " live ") audit.live refl in
    let b = numbered x (codes " deferred ") audit.deferred refl in
    let c = numbered y (codes " cyclic ") audit.cyclic refl in
    let d = numbered z (codes " bytes ") audit.bytes refl in
    let e = feed_behind w in omega arith

pub closing_feeds : (distinct : ℕ) (totals : Totals)
    → feeds_in (closing_lines distinct totals) ≡ 3
closing_feeds distinct totals =
    let first = files_line totals.files totals.pieces distinct in
    let held = audit_line (codes "held") totals.held in
    let freed = audit_line (codes "freed") totals.freed in
    let a = feeds_append (first ++ held) freed in
    let b = feeds_append first held in
    let x = files_feed totals.files totals.pieces distinct in
    let y = audit_feed (codes "held") totals.held refl in
    let z = audit_feed (codes "freed") totals.freed refl in omega arith

-- what is left behind the first k bytes
pub feeds_drop : (text : List ℕ) (k : ℕ) → feeds_in (drop k text) ≤ feeds_in text
feeds_drop text zero = omega arith
feeds_drop [] (suc k) = omega arith
feeds_drop (b ∷ text) (suc k) =
    let a = feeds_cons b text in let r = feeds_drop text k in omega arith

pub feeds_at : (text : List ℕ) (k d : ℕ) → k < length text
    → feeds_in (drop k text) ≡ cond {A = ℕ} (is_feed (get_or text k d)) 1 0 + feeds_in (drop (k + 1) text)
feeds_at [] k d below = absurd (omega arith)
feeds_at (b ∷ text) zero d below = feeds_cons b text
feeds_at (b ∷ text) (suc k) d below =
    let e : suc k + 1 ≡ suc (k + 1) = omega arith in
    rw e (feeds_at text k d (omega arith))
