-- The fields that scanning finds are the maximal runs without white space.
use Rattle.std.proofs.Common.{◌≡◌, ℕ, ◌-◌, Bool, true, false, List, [], ◌∷◌, ◌++◌, Some, None, length, get_or, refl, sym, ap, subst, ◌∙◌, arith, append_assoc, append-nil, length-append}
use Rattle.std.proofs.Math.Seq.{get_or-append_seam}
use Rattle.std.proofs.lemmas.List.{get_or_append_left}
use Rattle.std.proofs.lemmas.List.Elements.{All-append, All-cons, All-nil}
use Rattle.std.specs.Char.{is_whitespace}
use Rattle.cdrc_text.specs.Pieces.{field_ends}
use Rattle.cdrc_text.specs.Runs.{Span, IsSpace, IsNoSpace, IsRun, SpaceNext, AreMaximalRuns}
use Rattle.cdrc_text.proofs.Scan.{field_ends-skip, field_ends-begin, field_ends-stop, field_ends-more, field_ends-none, field_ends-last}

-- white space in front changes nothing
space_first : (c : Span) (fields : List (ℕ × ℕ)) (rest : List Span) → IsSpace c → AreMaximalRuns fields rest → AreMaximalRuns fields (c ∷ rest)
space_first c [] rest is runs = All-cons IsSpace c rest is runs
space_first c (f ∷ fields) rest is (space, run, after, whole, spaces, run_is, next, more) =
    (c ∷ space, run, after, ap (λ (l : List Span). c ∷ l) whole, All-cons IsSpace c space is spaces, run_is, next, more)

-- a run of one character, and of one more
one_run : (c : Span) → IsNoSpace c → IsRun (c.0, c.1) (c ∷ [])
one_run c is = record {
  filled = omega arith;
  no_space = All-cons IsNoSpace c [] is (All-nil IsNoSpace);
  first = refl;
  end = refl;
}

longer_run : (f : ℕ × ℕ) (run : List Span) (c : Span) → IsRun f run → IsNoSpace c → IsRun (f.0, c.1) (run ++ c ∷ [])
longer_run f run c r is = record {
  filled = omega (arith, length-append run (c ∷ []));
  no_space = All-append IsNoSpace run (c ∷ []) r.no_space (All-cons IsNoSpace c [] is (All-nil IsNoSpace));
  first = r.first ∙ ap (λ (d : Span). d.0) (sym (get_or_append_left run (c ∷ []) (0, 0, 0) 0 r.filled));
  end = (
      let at : length (run ++ c ∷ []) - 1 ≡ length run = omega (arith, length-append run (c ∷ [])) in
      sym (ap (λ (i : ℕ). (get_or (run ++ c ∷ []) i (0, 0, 0)).1) at
      ∙ ap (λ (d : Span). d.1) (get_or-append_seam run c [] (0, 0, 0)))
      );
}

-- the open field with the run read so far goes on, then white space or the end comes, and then the other fields
record GoesOn (f : ℕ × ℕ) (run characters : List Span) : Type 0 where
  pub field : ℕ × ℕ
  pub fields : List (ℕ × ℕ)
  pub more : List Span
  pub rest : List Span
  pub ends : field_ends (Some f) characters ≡ field ∷ fields
  pub whole : characters ≡ more ++ rest
  pub run_is : IsRun field (run ++ more)
  pub next : SpaceNext rest
  pub others : AreMaximalRuns fields rest

-- a field that is complete
stops : (f : ℕ × ℕ) (run characters : List Span) (fields : List (ℕ × ℕ)) → IsRun f run → field_ends (Some f) characters ≡ f ∷ fields
    → SpaceNext characters → AreMaximalRuns fields characters → GoesOn f run characters
stops f run characters fields r e next others = record {
  field = f;
  fields = fields;
  more = [];
  rest = characters;
  ends = e;
  whole = refl;
  run_is = subst (IsRun f) (sym (append-nil run)) r;
  next = next;
  others = others;
}

-- a field that has one character more
goes_on : (f : ℕ × ℕ) (run : List Span) (c : Span) (rest : List Span) → field_ends (Some f) (c ∷ rest) ≡ field_ends (Some (f.0, c.1)) rest
    → GoesOn (f.0, c.1) (run ++ c ∷ []) rest → GoesOn f run (c ∷ rest)
goes_on f run c rest e g = record {
  field = g.field;
  fields = g.fields;
  more = c ∷ g.more;
  rest = g.rest;
  ends = e ∙ g.ends;
  whole = ap (λ (l : List Span). c ∷ l) g.whole;
  run_is = subst (IsRun g.field) (append_assoc run (c ∷ []) g.more) g.run_is;
  next = g.next;
  others = g.others;
}

-- a field begins
begins : (c : Span) (rest : List Span) → field_ends None (c ∷ rest) ≡ field_ends (Some (c.0, c.1)) rest → GoesOn (c.0, c.1) (c ∷ []) rest
    → AreMaximalRuns (field_ends None (c ∷ rest)) (c ∷ rest)
begins c rest e g =
    subst (λ (fs : List (ℕ × ℕ)). AreMaximalRuns fs (c ∷ rest)) (sym (e ∙ g.ends)) (
      [],
      c ∷ g.more,
      g.rest,
      ap (λ (l : List Span). c ∷ l) g.whole,
      All-nil IsSpace,
      g.run_is,
      g.next,
      g.others,
    )

abbrev Both : List Span → Type 0
Both characters =
    AreMaximalRuns (field_ends None characters) characters
    × ((f : ℕ × ℕ) (run : List Span) → IsRun f run → GoesOn f run characters)

both : (characters : List Span) → Both characters
both [] = (
  subst (λ (fs : List (ℕ × ℕ)). AreMaximalRuns fs []) (sym field_ends-none) (All-nil IsSpace),
  λ f run r. stops f run [] [] r (field_ends-last f) tt (All-nil IsSpace),
)
both (c ∷ rest) = go (is_whitespace c.2) refl (both rest)
  where
    go : (b : Bool) → is_whitespace c.2 ≡ b → Both rest → Both (c ∷ rest)
    go true is ih =
        let none : AreMaximalRuns (field_ends None rest) (c ∷ rest) = space_first c (field_ends None rest) rest is ih.0 in (
          subst (λ (fs : List (ℕ × ℕ)). AreMaximalRuns fs (c ∷ rest)) (sym (field_ends-skip c rest is)) none,
          λ f run r. stops f run (c ∷ rest) (field_ends None rest) r (field_ends-stop c rest f is) is none,
        )
    go false is ih = (
      begins c rest (field_ends-begin c rest is) (ih.1 (c.0, c.1) (c ∷ []) (one_run c is)),
      λ f run r. goes_on f run c rest (field_ends-more c rest f is) (ih.1 (f.0, c.1) (run ++ c ∷ []) (longer_run f run c r is)),
    )

pub are_maximal_runs : (characters : List Span) → AreMaximalRuns (field_ends None characters) characters
are_maximal_runs characters = (both characters).0
