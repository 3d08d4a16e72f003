-- A line asks for what its command reads, and for nothing else.
use Rattle.std.proofs.Common.{◌≡◌, ◌∙◌, ◌<◌, ℕ, zero, suc, false, refl, sym, ap, subst, arith, List, [], ◌∷◌, codes, drop, get_or, map, string_bytes, Global, Option, Some, true≢false}
use Rattle.std.specs.Prelude.{◌==◌, slice_get, unwrap_or}
use Rattle.std.specs.declared.string.String.{String}
use Rattle.std.specs.Str.{bytes_eq}
use Rattle.std.proofs.lemmas.Slice.Eq.{bytes_eq-Decides}
use Rattle.run_requests.specs.declared.asked.Bulk.{Bulk}
use Rattle.run_requests.specs.declared.asked.Draws.{Draws}
use Rattle.run_requests.specs.declared.asked.Request.{Request}
use Rattle.run_requests.specs.declared.asked.Request.TheVariants as request
use Rattle.run_requests.specs.declared.asked.WordsArgs.{WordsArgs}
use Rattle.command_line.specs.Parts.{Text}
use Rattle.command_line.specs.Requests.{bulk_options, words_options, AreWords, Asks, IsBulk, IsFile, IsGen, Reads}

pub above_zero : (n : ℕ) → (n == 0) ≡ false → 0 < n
above_zero zero e = absurd (true≢false e)
above_zero (suc n) e = omega arith

-- two commands don't begin one line
pub differs : (a b : Text) (line r s : List Text) → bytes_eq a b ≡ false → line ≡ a ∷ r → line ≡ b ∷ s → ⊥
differs a b line r s other first second =
    let same : a ≡ b = ap (λ (ws : List Text). get_or ws 0 []) (sym first ∙ second) in
    true≢false (sym ((bytes_eq-Decides a b).1 same) ∙ other)

pub rest_is : (command : Text) (line r s : List Text) → line ≡ command ∷ r → line ≡ command ∷ s → r ≡ s
rest_is command line r s first second = ap (drop 1) (sym first ∙ second)

pub words_only : (line rest : List Text) → line ≡ codes "words" ∷ rest → ((args : WordsArgs) → Reads words_options rest (AreWords args) → ⊥)
    → (asked : Request) → Asks line asked → ⊥
words_only line rest is none (request.Words args) asks =
    none args (subst (λ (ws : List Text). Reads words_options ws (AreWords args)) (rest_is (codes "words") line asks.0 rest asks.1 is) asks.2)
words_only line rest is none (request.Script file) asks = differs (codes "words") (codes "script") line rest asks.0 refl is asks.1
words_only line rest is none (request.Steps file) asks = differs (codes "words") (codes "steps") line rest asks.0 refl is asks.1
words_only line rest is none (request.Generate draws) asks = differs (codes "words") (codes "gen") line rest asks.0 refl is asks.1
words_only line rest is none (request.Bulk bulk) asks = differs (codes "words") (codes "bulk") line rest asks.0 refl is asks.1

pub script_only : (line rest : List Text) → line ≡ codes "script" ∷ rest → ((file : Text) → Reads [] rest (IsFile file) → ⊥)
    → (asked : Request) → Asks line asked → ⊥
script_only line rest is none (request.Words args) asks = differs (codes "script") (codes "words") line rest asks.0 refl is asks.1
script_only line rest is none (request.Script file) asks =
    none (string_bytes file) (subst (λ (ws : List Text). Reads [] ws (IsFile (string_bytes file))) (rest_is (codes "script") line asks.0 rest asks.1 is) asks.2)
script_only line rest is none (request.Steps file) asks = differs (codes "script") (codes "steps") line rest asks.0 refl is asks.1
script_only line rest is none (request.Generate draws) asks = differs (codes "script") (codes "gen") line rest asks.0 refl is asks.1
script_only line rest is none (request.Bulk bulk) asks = differs (codes "script") (codes "bulk") line rest asks.0 refl is asks.1

pub steps_only : (line rest : List Text) → line ≡ codes "steps" ∷ rest → ((file : Text) → Reads [] rest (IsFile file) → ⊥)
    → (asked : Request) → Asks line asked → ⊥
steps_only line rest is none (request.Words args) asks = differs (codes "steps") (codes "words") line rest asks.0 refl is asks.1
steps_only line rest is none (request.Script file) asks = differs (codes "steps") (codes "script") line rest asks.0 refl is asks.1
steps_only line rest is none (request.Steps file) asks =
    none (string_bytes file) (subst (λ (ws : List Text). Reads [] ws (IsFile (string_bytes file))) (rest_is (codes "steps") line asks.0 rest asks.1 is) asks.2)
steps_only line rest is none (request.Generate draws) asks = differs (codes "steps") (codes "gen") line rest asks.0 refl is asks.1
steps_only line rest is none (request.Bulk bulk) asks = differs (codes "steps") (codes "bulk") line rest asks.0 refl is asks.1

pub gen_only : (line rest : List Text) → line ≡ codes "gen" ∷ rest → ((draws : Draws) → Reads [] rest (IsGen draws) → ⊥)
    → (asked : Request) → Asks line asked → ⊥
gen_only line rest is none (request.Words args) asks = differs (codes "gen") (codes "words") line rest asks.0 refl is asks.1
gen_only line rest is none (request.Script file) asks = differs (codes "gen") (codes "script") line rest asks.0 refl is asks.1
gen_only line rest is none (request.Steps file) asks = differs (codes "gen") (codes "steps") line rest asks.0 refl is asks.1
gen_only line rest is none (request.Generate draws) asks =
    none draws (subst (λ (ws : List Text). Reads [] ws (IsGen draws)) (rest_is (codes "gen") line asks.0 rest asks.1 is) asks.2)
gen_only line rest is none (request.Bulk bulk) asks = differs (codes "gen") (codes "bulk") line rest asks.0 refl is asks.1

pub bulk_only : (line rest : List Text) → line ≡ codes "bulk" ∷ rest → ((bulk : Bulk) → Reads bulk_options rest (IsBulk bulk) → ⊥)
    → (asked : Request) → Asks line asked → ⊥
bulk_only line rest is none (request.Words args) asks = differs (codes "bulk") (codes "words") line rest asks.0 refl is asks.1
bulk_only line rest is none (request.Script file) asks = differs (codes "bulk") (codes "script") line rest asks.0 refl is asks.1
bulk_only line rest is none (request.Steps file) asks = differs (codes "bulk") (codes "steps") line rest asks.0 refl is asks.1
bulk_only line rest is none (request.Generate draws) asks = differs (codes "bulk") (codes "gen") line rest asks.0 refl is asks.1
bulk_only line rest is none (request.Bulk bulk) asks =
    none bulk (subst (λ (ws : List Text). Reads bulk_options ws (IsBulk bulk)) (rest_is (codes "bulk") line asks.0 rest asks.1 is) asks.2)

-- a line begins with its first word
pub line_is : (words : List (String Global)) (command : String Global) (text : Text) → Some command ≡ slice_get words 0 → string_bytes command ≡ text
    → map string_bytes words ≡ text ∷ drop 1 (map string_bytes words)
line_is [] command text first is = absurd (true≢false (ap (λ (o : Option (String Global)). Rattle.std.specs.Option.is_some o) first))
line_is (w ∷ ws) command text first is =
    let same : command ≡ w = ap (λ (o : Option (String Global)). unwrap_or o command) first in
    ap (λ (t : Text). t ∷ map string_bytes ws) (ap string_bytes (sym same) ∙ is)
