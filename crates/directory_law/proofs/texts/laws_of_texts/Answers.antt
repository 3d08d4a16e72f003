use Rattle.std.proofs.Common.{refl}
use Rattle.directory_law.proofs.Bytes.{one_text, text_tells, text_is, text_pieces, text_weighs, text_place, piece_own, zeros_not_own}
use Rattle.directory_law.proofs.texts.laws_of_texts.Goals as goal

pub returns : goal.returns
returns c = record {
  one_text = one_text;
  bytes = text_tells;
  is_text = text_is;
  pieces = text_pieces;
  weighs = text_weighs;
  owned = piece_own;
  zeros = zeros_not_own;
  place = text_place;
  example = refl;
}
