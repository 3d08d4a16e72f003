-- A map of names as the list of them: what is looked up, and what the handles count for.
use Rattle.std.proofs.Common.{◌≡◌, ℕ, Bool, cond, List, [], ◌∷◌, refl, ap, sym, ◌∙◌, arith, Option, Some, None}
use Rattle.std.specs.BTreeMap.{BTreeMap, IsOrdered, UpdatesBy, get_by_text, insert_entry, is_at}
use Rattle.std.specs.Option.{unwrap_or, option_map, IfSome}
use Rattle.std.specs.Global.{Global}
use Rattle.std.specs.List.{sum_by}
use Rattle.std.specs.Map.{lookup, remove_entry, values_of}
use Rattle.std.specs.Ordering.{nat_cmp}
use Rattle.std.specs.Cmp.Lexicographic.{slice_cmp, bytes_decides}
use Rattle.std.specs.Str.{bytes_eq}
use Rattle.std.specs.String.{string_bytes, string_cmp, string_cmp_total}
use Rattle.std.specs.declared.string.String.{String}
use Rattle.std.proofs.lemmas.Bool.{cond-false, false_from_ne_true}
use Rattle.std.proofs.lemmas.Map.Text.{btree_map_updates_text, is_eq-slice_cmp}
use Rattle.std.proofs.lemmas.Map.Entries.{sum_by-insert_entry, sum_by-remove_entry}
use Rattle.script_desk.specs.declared.handle.Handle.{Handle}
use Rattle.script_desk.specs.Desks.{Names, bound, Binds}
use Rattle.script_desk.specs.Holding.{CountsMore}
use Rattle.script_desk.specs.Tables.{names_of}

abbrev Entries : Type 0
Entries = List (String Global × Handle)

abbrev Map : Type 0
Map = BTreeMap (String Global) Handle

-- the test by which a map looks up bytes
abbrev at_text : List ℕ → String Global → Bool
at_text bs = is_at (λ k. slice_cmp nat_cmp bs (string_bytes k))

pub bound-names_of : (es : Entries) (bs : List ℕ) → bound (names_of es) bs ≡ lookup (at_text bs) es
unfolding bound
bound-names_of [] bs = refl
bound-names_of (e ∷ es) bs =
    ap (λ (found : Option Handle). cond (bytes_eq bs (string_bytes e.0)) (Some e.1) found) (bound-names_of es bs)
    ∙ ap (λ (here : Bool). cond here (Some e.1) (lookup (at_text bs) es)) (sym (is_eq-slice_cmp bs (string_bytes e.0)))

pub values_of-names_of : (es : Entries) → values_of (names_of es) ≡ values_of es
values_of-names_of [] = refl
values_of-names_of (e ∷ es) = ap (λ (hs : List Handle). e.1 ∷ hs) (values_of-names_of es)

-- what a map that stands for these names finds at the bytes of a name
pub bound-get : (m : Map) (names : Names) (text name : List ℕ) → names_of m.entries ≡ names → text ≡ name → get_by_text m text ≡ bound names name
bound-get m names text name is same = sym (bound-names_of m.entries text) ∙ ap (λ (ns : Names). bound ns text) is ∙ ap (bound names) same

-- a change at some bytes, as names
pub binds_after : (m n : Map) (names : Names) (text name : List ℕ) (w : Option Handle) → names_of m.entries ≡ names → text ≡ name
    → UpdatesBy string_cmp (λ k. slice_cmp nat_cmp text (string_bytes k)) m n w → Binds names name w (names_of n.entries)
binds_after m n names text name w is same u = (
  ap (bound (names_of n.entries)) (sym same) ∙ bound-names_of n.entries text ∙ u.1,
  λ other differs.
      bound-names_of n.entries other
      ∙ btree_map_updates_text text m n w u other
      ∙ cond-false _ _ _ (false_from_ne_true (bytes_eq text other) (λ equal. differs (sym ((bytes_decides text other).0 equal) ∙ same)))
      ∙ sym (bound-names_of m.entries other)
      ∙ ap (λ (ns : Names). bound ns other) is,
)

sum_values : (f : Handle → ℕ) (es : Entries) → sum_by f (values_of (names_of es)) ≡ sum_by f (values_of es)
sum_values f es = ap (sum_by f) (values_of-names_of es)

-- a handle that a new name is bound to counts
pub counts_inserted : (m n : Map) (names : Names) (key : String Global) (h : Handle) → names_of m.entries ≡ names → IsOrdered string_cmp m
    → lookup (is_at (string_cmp key)) m.entries ≡ None → n.entries ≡ insert_entry string_cmp m.entries key h
    → CountsMore (values_of names) h (values_of (names_of n.entries))
counts_inserted m n names key h is ordered none e f =
    let was : unwrap_or (option_map f (lookup (is_at (string_cmp key)) m.entries)) 0 ≡ 0 = ap (λ (old : Option Handle). unwrap_or (option_map f old) 0) none in
    let sums = sum_by-insert_entry f string_cmp_total m.entries key h ordered in
    let old = sym (sum_values f m.entries) ∙ ap (λ (ns : Names). sum_by f (values_of ns)) is in
    let new = sum_values f n.entries ∙ ap (λ (es : Entries). sum_by f (values_of es)) e in
    omega arith

-- a handle whose name is taken away doesn't count any more
pub counts_removed : (m n : Map) (names : Names) (text : List ℕ) (found : Option Handle) → names_of m.entries ≡ names → found ≡ get_by_text m text
    → n.entries ≡ remove_entry (at_text text) m.entries → IfSome found (λ h. CountsMore (values_of (names_of n.entries)) h (values_of names))
counts_removed m n names text None is had e = tt
counts_removed m n names text (Some h) is had e = λ f.
    let was : unwrap_or (option_map f (lookup (at_text text) m.entries)) 0 ≡ f h = ap (λ (old : Option Handle). unwrap_or (option_map f old) 0) (sym had) in
    let sums = sum_by-remove_entry f (at_text text) m.entries in
    let old = sym (sum_values f m.entries) ∙ ap (λ (ns : Names). sum_by f (values_of ns)) is in
    let new = sum_values f n.entries ∙ ap (λ (es : Entries). sum_by f (values_of es)) e in
    omega arith
