-- What a whole scan makes of the entries and slots of a seat, and what it reads.
use Rattle.std.proofs.Common.{◌≡◌, ℕ, Bool, true, false, List, [], ◌∷◌, ◌++◌, length, refl, ap, sym, ◌∙◌, subst, append_assoc}
use Rattle.std.specs.Prelude.{IsSome, flat_map, if◌then◌else◌}
use Rattle.protocol_pairs.specs.plain_state.Ejection.{ejected, kept, ripened}
use Rattle.claim_law.specs.announce_slots.Seen.{announced_in}
use Rattle.claim_law.specs.core_events.declared.outcome.Outcome.TheVariants as outcome
use Rattle.claim_law.specs.core_events.declared.view.CoreView.{CoreView}
use Rattle.claim_law.specs.core_events.declared.view.Move.{Move}
use Rattle.claim_law.specs.core_events.Steps.{is_last}
use Rattle.retiring_stores.specs.acquire_retire.declared.payment.Payment.{Payment}
use Rattle.retiring_stores.specs.acquire_retire.Collecting.{Walks, paid_by, scanned_by}
use Rattle.retiring_stores.specs.acquire_retire.Domains.{DomainState}
use Rattle.retiring_stores.specs.acquire_retire.Seats.{SeatState}
use Rattle.retiring_stores.specs.control_word.Resting.{IsAtRest}
use Rattle.retiring_stores.specs.Scanning.{Collected}
use Rattle.slot_store.proofs.OwnNotes.{AreOwn, own_scan}
use Rattle.slot_store.proofs.Ripening.{collect_law, split_read, word_read}
use Rattle.slot_store.proofs.Tries.{append_nil}

split_goes : (b : Bool) (last stay go x m n : ℕ)
    → outcome.Split last stay go ≡ (if b then outcome.Split x m n else outcome.Word x) → go ≡ n
split_goes true last stay go x m n is = cc (is)
split_goes false last stay go x m n is = absurd (cc (is))

-- what a scan that read these words made of a seat's lists
pub record Scanned (words : List ℕ) (go : ℕ) (v u : CoreView) : Type 0 where
  pub retired : u.retired ≡ kept v.retired (announced_in words)
  pub ripe : u.ripe ≡ ripened v.ripe v.dying (announced_in words)
  pub dying : u.dying ≡ v.dying
  pub goes : go ≡ length (ejected v.retired (announced_in words))

module _ {P V : Type 0} (fits : List ℕ → Type 0) (d : DomainState P) where
  scan_tells : (ws acc : List ℕ) (last stay go : ℕ) (ms : List Move) (a b : SeatState V)
      → a.view.core.seen ≡ acc → Walks fits d (scanned_by ws last stay go ++ ms) a b
      → (mid : SeatState V) × Walks fits d ms mid b
      × Scanned ((acc ++ ws) ++ last ∷ []) go a.view.core mid.view.core
  scan_tells [] acc last stay go ms a b begins walks =
      let step = walks.1 in
      let v = a.view.core in
      let is = split_read (is_last d.shape v) last stay go step.word _ _ step.answers in
      let goes = split_goes (is_last d.shape v) last stay go step.word _ _ step.answers in
      let words : v.seen ++ step.word ∷ [] ≡ (acc ++ []) ++ last ∷ [] =
      (λ i. begins i ++ sym is.1 i ∷ [])
      ∙ ap (λ (xs : List ℕ). xs ++ last ∷ []) (sym (append_nil acc)) in (
        walks.0,
        walks.2,
        subst (λ (xs : List ℕ). Scanned xs go v walks.0.view.core) words (record {
          retired = ap (λ (u : CoreView). u.retired) step.told.core ∙ rw is.0 refl;
          ripe = ap (λ (u : CoreView). u.ripe) step.told.core ∙ rw is.0 refl;
          dying = ap (λ (u : CoreView). u.dying) step.told.core ∙ rw is.0 refl;
          goes = goes;
        }),
      )
  scan_tells (w ∷ ws) acc last stay go ms a b begins walks =
      let step = walks.1 in
      let v = a.view.core in
      let is = word_read (is_last d.shape v) w step.word _ step.answers (λ e. absurd (cc (e))) in
      let seen : walks.0.view.core.seen ≡ acc ++ w ∷ [] =
      ap (λ (u : CoreView). u.seen) step.told.core ∙ rw is.0 (λ i. begins i ++ sym is.1 i ∷ []) in
      let retired : walks.0.view.core.retired ≡ v.retired =
      ap (λ (u : CoreView). u.retired) step.told.core ∙ rw is.0 refl in
      let ripe : walks.0.view.core.ripe ≡ v.ripe =
      ap (λ (u : CoreView). u.ripe) step.told.core ∙ rw is.0 refl in
      let dying : walks.0.view.core.dying ≡ v.dying =
      ap (λ (u : CoreView). u.dying) step.told.core ∙ rw is.0 refl in
      let r = scan_tells ws (acc ++ w ∷ []) last stay go ms walks.0 b seen walks.2 in
      let words = append_assoc acc (w ∷ []) ws in (
        r.0,
        r.1,
        record {
          retired = r.2.retired ∙ (λ i. kept (retired i) (announced_in (words i ++ last ∷ [])));
          ripe = r.2.ripe ∙ (λ i. ripened (ripe i) (dying i) (announced_in (words i ++ last ∷ [])));
          dying = r.2.dying ∙ dying;
          goes =
              r.2.goes
              ∙ (λ i. length (ejected (retired i) (announced_in (words i ++ last ∷ []))));
        },
      )

module _ {P V : Type 0} {fits : List ℕ → Type 0} (d : DomainState P) where
  -- what a collect read
  abbrev pub words_of : (a b : SeatState V) → Collected fits d a b → List ℕ
  words_of a b c = c.collects.seen ++ c.collects.last ∷ []

  module _ (a b : SeatState V) (rest : IsAtRest d a) (c : Collected fits d a b) where
    pub unread_now : a.view.core.seen ≡ []
    unread_now =
        collect_law d a b rest c c.collects.seen c.collects.last _ _
        (flat_map paid_by c.collects.payments) a b c.collects.goes.walks rest.idle.0

    pub own_words : IsSome a.view.whole → AreOwn a.view.core 0 (words_of a b c)
    own_words known =
        subst (λ (ss : List ℕ). AreOwn a.view.core (length ss) (words_of a b c)) unread_now
        (own_scan fits d c.collects.seen c.collects.last _ _
        (flat_map paid_by c.collects.payments) a b known c.collects.goes.walks)

    -- a collect that paid for nothing
    pub unpaid : c.collects.payments ≡ [] → Scanned (words_of a b c) 0 a.view.core b.view.core
    unpaid none =
        let r = scan_tells fits d c.collects.seen [] c.collects.last (length b.view.core.retired) 0
        (flat_map paid_by []) a b unread_now
        (subst (λ (ps : List Payment).
        Walks fits d (scanned_by c.collects.seen c.collects.last (length b.view.core.retired)
        (length ps) ++ flat_map paid_by ps) a b) none c.collects.goes.walks) in
        subst (λ (x : SeatState V). Scanned (words_of a b c) 0 a.view.core x.view.core) (sym r.1)
        r.2

    -- as many entries were ejected as were paid for
    pub ejects : length c.collects.payments
        ≡ length (ejected a.view.core.retired (announced_in (words_of a b c)))
    ejects =
        (scan_tells fits d c.collects.seen [] c.collects.last (length b.view.core.retired)
        (length c.collects.payments) (flat_map paid_by c.collects.payments) a b unread_now
        c.collects.goes.walks).2.goes
