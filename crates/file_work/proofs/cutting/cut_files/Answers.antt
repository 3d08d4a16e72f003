use Rattle.std.proofs.Common.{◌≡◌, ◌++◌, ◌∷◌, [], All, List, ℕ, Global, Vec, length, map, sym, ap, subst, ◌∙◌, append_assoc, arith}
use Rattle.std.proofs.lemmas.List.{length-map, map-append}
use Rattle.std.proofs.lemmas.List.Elements.{All-push}
use Rattle.lane_work.specs.cdrc_text.Pieces.{bytes_at, pieces_of}
use Rattle.lane_work.specs.FilePieces.{HasPieces, pieces_in}
use Rattle.file_work.specs.Limits.{pieces_in_all}
use Rattle.file_work.specs.Contents.{bytes_of}
use Rattle.file_work.proofs.Sizes.{pieces_push}
use Rattle.file_work.proofs.cutting.cut_files.Goals as goal

pub loop-content-preserved : goal.loop-content-preserved
loop-content-preserved g c =
    let inv = c.loop-content.invariant in let steps = c.in-Some.ensures.steps.0 in
    let file = c.in_ok-file.file in let content = c.in-Some.content in
    let before = c.loop-content.files.items in let yielded = c.loop-content.yielded in
    let items = c.push_reserved.ensures.items in
    let new : map pieces_in c.push_reserved.new.self.items ≡ map pieces_in before ++ pieces_in file ∷ []
    = ap (map pieces_in) items ∙ map-append pieces_in before (file ∷ []) in
    let cut : map pieces_of (bytes_of (yielded ++ content ∷ [])) ≡ map pieces_of (bytes_of yielded) ++ pieces_of content.items ∷ []
    = ap (map pieces_of) (map-append (λ (text : Vec ℕ Global). text.items) yielded (content ∷ []))
    ∙ map-append pieces_of (bytes_of yielded) (content.items ∷ []) in
    record {
      all = append_assoc yielded (content ∷ []) c.next.new.self.rest.items
          ∙ sym (ap (λ (es : List (Vec ℕ Global)). yielded ++ es) steps) ∙ inv.all;
      words = new ∙ ap (λ (ws : List (List (List ℕ))). ws ++ pieces_in file ∷ []) inv.words
          ∙ ap (λ (w : List (List ℕ)). map pieces_of (bytes_of yielded) ++ w ∷ []) c.in_ok-file.ensures.words ∙ sym cut;
      lies = subst (All HasPieces) (sym items)
          (All-push HasPieces before file inv.lies c.in_ok-file.ensures.lies);
      left = let n = ap pieces_in_all new in let p = pieces_push (map pieces_in before) (pieces_in file) in
          let m = length-map file.pieces (bytes_at file.bytes.items) in
          let l = inv.left in let k = c.len-left.ensures in let w = c.in_ok-file.ensures.within in omega arith;
      room = let l = ap length steps in let e = c.push_reserved.ensures.len in
          let k = c.push_reserved.ensures.capacity in let i = inv.room in omega arith;
    }
