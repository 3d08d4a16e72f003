-- Names that are listed once each: what they are bound to, with one more of them and with one fewer.
use Rattle.std.proofs.Common.{◌≡◌, ◌≢◌, ◌⊎◌, inl, inr, ⊎_elim, ℕ, Bool, true, false, cond, List, [], ◌∷◌, refl, ap, sym, ◌∙◌, subst, arith, Some, None}
use Rattle.std.specs.Map.{values_of}
use Rattle.std.specs.Str.{bytes_eq}
use Rattle.std.specs.Cmp.Lexicographic.{bytes_decides}
use Rattle.std.proofs.lemmas.Bool.{cases_Bool, cond-false, false_from_ne_true}
use Rattle.std.proofs.lemmas.List.Sums.{sum_by-cons}
use Rattle.script_desk.specs.declared.handle.Handle.{Handle}
use Rattle.script_desk.specs.Desks.{Names, bound}
use Rattle.script_desk.specs.Holding.{CountsMore}
use Rattle.script_law.specs.Orderly.{OnceEach}

pub same_name : (a b : List ℕ) → (a ≡ b) ⊎ (a ≢ b)
same_name a b =
    ⊎_elim
    (λ (t : bytes_eq a b ≡ true). inl ((bytes_decides a b).0 t))
    (λ (f : bytes_eq a b ≡ false). inr (λ e. let t : bytes_eq a b ≡ true = (bytes_decides a b).1 e in cc))
    (cases_Bool (bytes_eq a b))

bound_cons : (name other : List ℕ) (h : Handle) (names : Names)
    → bound ((name, h) ∷ names) other ≡ cond (bytes_eq other name) (Some h) (bound names other)
unfolding bound
bound_cons name other h names = refl

pub bound_here : (name : List ℕ) (h : Handle) (names : Names) → bound ((name, h) ∷ names) name ≡ Some h
bound_here name h names =
    bound_cons name name h names ∙ ap (λ (b : Bool). cond b (Some h) (bound names name)) ((bytes_decides name name).1 refl)

pub bound_else : (name other : List ℕ) (h : Handle) (names : Names) → other ≢ name
    → bound ((name, h) ∷ names) other ≡ bound names other
bound_else name other h names ne =
    bound_cons name other h names
    ∙ cond-false _ _ _ (false_from_ne_true (bytes_eq other name) (λ e. ne ((bytes_decides other name).0 e)))

-- a list without the name
pub record Without (names : Names) (name : List ℕ) (h : Handle) : Type 0 where
  pub less : Names
  pub once : OnceEach less
  pub gone : bound less name ≡ None
  pub others : (other : List ℕ) → other ≢ name → bound less other ≡ bound names other
  pub fewer : CountsMore (values_of less) h (values_of names)

nothing_bound : (name : List ℕ) (h : Handle) → bound [] name ≡ Some h → ⊥
unfolding bound
nothing_bound name h e = cc

pub without : (names : Names) (name : List ℕ) (h : Handle) → OnceEach names → bound names name ≡ Some h
    → Without names name h
without [] name h once e = absurd (nothing_bound name h e)
without ((key, x) ∷ rest) name h once e =
    ⊎_elim
    (λ (is : name ≡ key).
    let here : bound ((key, x) ∷ rest) name ≡ Some x
    = subst (λ (n : List ℕ). bound ((key, x) ∷ rest) n ≡ Some x) (sym is) (bound_here key x rest) in
    let same : x ≡ h = cc (here, e) in
    record {
      less = rest;
      once = once.1;
      gone = ap (bound rest) is ∙ once.0;
      others = λ other ne. sym (bound_else key other x rest (λ f. ne (f ∙ sym is)));
      fewer = λ f. let c = sum_by-cons f x (values_of rest) in let v = ap f same in omega arith;
    })
    (λ (ne : name ≢ key).
    let more = without rest name h once.1 (sym (bound_else key name x rest ne) ∙ e) in
    record {
      less = (key, x) ∷ more.less;
      once = (more.others key (λ f. ne (sym f)) ∙ once.0, more.once);
      gone = bound_else key name x more.less ne ∙ more.gone;
      others = λ other differs. ⊎_elim
          (λ (is : other ≡ key).
          subst (λ (n : List ℕ). bound ((key, x) ∷ more.less) n ≡ bound ((key, x) ∷ rest) n) (sym is)
          (bound_here key x more.less ∙ sym (bound_here key x rest)))
          (λ (not : other ≢ key).
          bound_else key other x more.less not ∙ more.others other differs ∙ sym (bound_else key other x rest not))
          (same_name other key);
      fewer = λ f.
          let a = sum_by-cons f x (values_of rest) in
          let b = sum_by-cons f x (values_of more.less) in
          let c = more.fewer f in omega arith;
    })
    (same_name name key)
