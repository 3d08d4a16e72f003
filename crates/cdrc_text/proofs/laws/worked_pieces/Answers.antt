use Rattle.std.proofs.Common.{refl}
use Rattle.bstr.proofs.Computing.{computing}
use Rattle.cdrc_text.specs.Pieces.{cut, cut_places, field_ends, fields_of, pieces_of, places_of}
use Rattle.cdrc_text.proofs.laws.worked_pieces.Goals as goal

pub returns-clause-places : goal.returns-clause-places
unfolding computing places_of field_ends cut_places
returns-clause-places c = refl

pub returns-clause-one : goal.returns-clause-one
unfolding computing pieces_of fields_of cut
returns-clause-one c = refl

pub returns-clause-long : goal.returns-clause-long
unfolding cut
returns-clause-long c = refl

pub returns-clause-bytes : goal.returns-clause-bytes
unfolding computing pieces_of fields_of cut
returns-clause-bytes c = refl
