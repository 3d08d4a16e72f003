-- The command as it is built, and what its options and its operands are for a word.
use Rattle.std.proofs.Common.{◌≡◌, ◌∙◌, ◌&&◌, ℕ, Bool, cond, true, false, not, refl, sym, ap, List, [], ◌∷◌, ◌++◌, map, Some, None, true≢false}
use Rattle.std.specs.List.{list_all, list_any}
use Rattle.std.specs.Str.{bytes_eq}
use Rattle.std.proofs.lemmas.Slice.Eq.{bytes_eq-Decides}
use Rattle.std.specs.Prelude.{count_by, is_some}
use Rattle.clap.specs.Faults.{is_free_app, is_simple_and_free}
use Rattle.clap.specs.Simple.{App, Shape, built, filled, filled_from, is_buildable, is_in_order, is_ready, is_ready_leaf, with_index}
use Rattle.clap.specs.Walk.{is_early_multiple, Rule, arg_by_id, arg_by_index, arg_by_long, arg_by_short}
use Rattle.command_line.specs.Parts.{Text}
use Rattle.command_line.specs.Found.{app_with, are_names, is_name, operands_name, operands_rule, option_rule, shape_with}

-- the rules with what they left out
abbrev pub ready_option : Text → Rule
ready_option name = filled (option_rule name)

abbrev pub ready_operands : Rule
ready_operands = with_index 1 (filled operands_rule)

abbrev pub ready : List Text → List Rule
ready options = map ready_option options ++ ready_operands ∷ []

abbrev pub ready_shape : List Text → Shape
ready_shape options =
    record (shape_with (ready options)) { disable_help_subcommand = true; is_built = true }

abbrev pub ready_app : List Text → App
ready_app options = record { top = ready_shape options; subs = [] }

filled_is : (options : List Text) → filled_from 1 (map option_rule options ++ operands_rule ∷ []) ≡ ready options
filled_is [] = refl
filled_is (x ∷ xs) = ap (λ (rs : List Rule). ready_option x ∷ rs) (filled_is xs)

pub built_is : (options : List Text) → built (app_with options) ≡ ready_app options
built_is options = ap (λ (rs : List Rule). record { top = record (shape_with rs) { disable_help_subcommand = true; is_built = true }; subs = [] }) (filled_is options)

-- ---- the rule of a word

abbrev pub is_one_of : Text → List Text → Bool
is_one_of name options = list_any (λ option. bytes_eq option name) options

pub by_long : (options : List Text) (name : Text)
    → arg_by_long (ready options) name ≡ cond (is_one_of name options) (Some (ready_option name)) None
by_long [] name = refl
by_long (x ∷ xs) name = go (bytes_eq x name) refl (by_long xs name)
  where
    go : (b : Bool) → bytes_eq x name ≡ b
        → arg_by_long (ready xs) name ≡ cond (is_one_of name xs) (Some (ready_option name)) None
        → arg_by_long (ready (x ∷ xs)) name ≡ cond (is_one_of name (x ∷ xs)) (Some (ready_option name)) None
    go true e rest = rw e (ap (λ (y : Text). Some (ready_option y)) ((bytes_eq-Decides x name).0 e))
    go false e rest = rw e rest

pub by_short : (options : List Text) (c : ℕ) → arg_by_short (ready options) c ≡ None
by_short [] c = refl
by_short (x ∷ xs) c = by_short xs c

pub by_index : (options : List Text) → arg_by_index (ready options) 1 ≡ Some ready_operands
by_index [] = refl
by_index (x ∷ xs) = by_index xs

pub option_by_id : (options : List Text) (name : Text) → is_one_of name options ≡ true
    → arg_by_id (ready options) name ≡ Some (ready_option name)
option_by_id [] name known = absurd (true≢false (sym known))
option_by_id (x ∷ xs) name known = go (bytes_eq x name) refl (λ rest. option_by_id xs name rest)
  where
    go : (b : Bool) → bytes_eq x name ≡ b
        → (is_one_of name xs ≡ true → arg_by_id (ready xs) name ≡ Some (ready_option name)) → arg_by_id (ready (x ∷ xs)) name ≡ Some (ready_option name)
    go true e rec = rw e (ap (λ (y : Text). Some (ready_option y)) ((bytes_eq-Decides x name).0 e))
    go false e rec =
        let rest : is_one_of name xs ≡ true = rw e at known in
        rw e (rec rest)

first_of_both : (a b : Bool) → (a && b) ≡ true → a ≡ true
first_of_both true b e = refl
first_of_both false b e = e

last_of_both : (a b : Bool) → (a && b) ≡ true → b ≡ true
last_of_both true b e = e
last_of_both false b e = absurd (true≢false (sym e))

not_true : (b : Bool) → not b ≡ true → b ≡ false
not_true false e = refl
not_true true e = absurd (true≢false (sym e))

-- no option has the name of the operands
pub other_name : (name : Text) → is_name name ≡ true → bytes_eq name operands_name ≡ false
other_name name named = not_true _ (last_of_both _ _ (last_of_both _ _ named))

pub operands_by_id : (options : List Text) → are_names options ≡ true
    → arg_by_id (ready options) operands_name ≡ Some ready_operands
operands_by_id [] named = refl
operands_by_id (x ∷ xs) named =
    let other : bytes_eq x operands_name ≡ false = other_name x (first_of_both _ _ named) in
    rw other (operands_by_id xs (last_of_both _ _ named))

pub one_of_named : (options : List Text) (name : Text) → are_names options ≡ true → is_one_of name options ≡ true
    → is_name name ≡ true
one_of_named [] name named known = absurd (true≢false (sym known))
one_of_named (x ∷ xs) name named known =
    go (bytes_eq x name) refl (λ rest. one_of_named xs name (last_of_both _ _ named) rest)
  where
    go : (b : Bool) → bytes_eq x name ≡ b → (is_one_of name xs ≡ true → is_name name ≡ true) → is_name name ≡ true
    go true e rec = ap is_name (sym ((bytes_eq-Decides x name).0 e)) ∙ first_of_both _ _ named
    go false e rec =
        let rest : is_one_of name xs ≡ true = rw e at known in
        rec rest

-- ---- the command is one whose matches are known

simple_raw : (options : List Text) → list_all (λ (a : Rule). a.is_simple) (map option_rule options ++ operands_rule ∷ []) ≡ true
simple_raw [] = refl
simple_raw (x ∷ xs) = simple_raw xs

simple_ready : (options : List Text) → list_all (λ (a : Rule). a.is_simple) (ready options) ≡ true
simple_ready [] = refl
simple_ready (x ∷ xs) = simple_ready xs

free_ready : (options : List Text) → list_all (λ (a : Rule). a.is_free) (ready options) ≡ true
free_ready [] = refl
free_ready (x ∷ xs) = free_ready xs

one_place : (options : List Text) → count_by (λ (a : Rule). is_some a.index) (ready options) ≡ 1
one_place [] = refl
one_place (x ∷ xs) = one_place xs

none_early : (options : List Text) → list_any (is_early_multiple 1) (ready options) ≡ false
none_early [] = refl
none_early (x ∷ xs) = none_early xs

in_order : (options : List Text) → is_in_order (ready options) ≡ true
in_order options =
    ap (λ (n : ℕ). not (list_any (is_early_multiple n) (ready options))) (one_place options)
    ∙ ap not (none_early options)

and_true : (a b : Bool) → a ≡ true → b ≡ true → (a && b) ≡ true
and_true true b x y = y
and_true false b x y = x

-- the tests of a command, and of what is built of it
abbrev passes : App → App → Bool
passes a b = (is_buildable a && (is_ready b.top && list_all is_ready_leaf b.subs)) && is_free_app b

passes_ready : (options : List Text) → passes (app_with options) (ready_app options) ≡ true
passes_ready options =
    and_true _ _
    (and_true _ _ (and_true _ _ (simple_raw options) refl)
    (and_true _ _ (and_true _ _ (simple_ready options) (in_order options)) refl))
    (and_true _ _ (free_ready options) refl)

pub is_known : (options : List Text) → is_simple_and_free (app_with options) ≡ true
is_known options = ap (λ (b : App). passes (app_with options) b) (built_is options) ∙ passes_ready options
