-- What a seat's view of the directory tells of the texts of items.
use Rattle.std.specs.Prelude.{◌≡◌, ◌⊎◌, List, [], ◌∷◌}
use Rattle.queue_law.specs.declared.view.Item.{Item}
use Rattle.directory_law.specs.declared.view.Ran.{Ran}
use Rattle.directory_law.specs.declared.view.Rope.{Rope}
use Rattle.directory_law.specs.declared.view.Seen.{Seen}
use Rattle.directory_law.specs.declared.view.View.{View as DirectoryView}
use Rattle.directory_law.specs.Payloads.{Text, IsText}
use Rattle.directory_law.specs.Views.{In, rope}
use Rattle.words_law.specs.Law.{head_of}

-- a view tells the item's text: its seat bound it, or read it whole
pub record ReadText (v : DirectoryView) (x : Item) (text : Text) : Type 0 where
  pub ran : Ran
  pub noted : In ran v.ran
  pub slot : ran.slot ≡ head_of x
  pub life : ran.life ≡ x.life
  pub whole : ran.before ≡ text
  pub is : IsText text

abbrev pub KnowsText : DirectoryView → Item → Text → Type 0
KnowsText v x text = In (rope (head_of x) x.life text) v.kept ⊎ ReadText v x text

-- it tells the texts of these items, in order
abbrev pub KnowsTexts : DirectoryView → List Item → List Text → Type 0
KnowsTexts v [] [] = Unit {0}
KnowsTexts v [] (t ∷ ts) = ⊥
KnowsTexts v (x ∷ xs) [] = ⊥
KnowsTexts v (x ∷ xs) (t ∷ ts) = KnowsText v x t × KnowsTexts v xs ts

-- the second view keeps what the first one keeps, and has read what that one had
pub record KnowsMore (v w : DirectoryView) : Type 0 where
  pub kept : (e : Rope) → In e v.kept → In e w.kept
  pub ran : (e : Ran) → In e v.ran → In e w.ran

-- and it goes on to have seen what that one had
pub record ForgetsNothing (v w : DirectoryView) : Type 0 where
  pub knows : KnowsMore v w
  pub saw : (e : Seen) → In e v.seen → In e w.seen
