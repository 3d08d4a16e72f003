use Rattle.std.proofs.Common.{◌≡◌, ◌+◌, ◌++◌, ◌∷◌, [], List, ℕ, drop, map, suc, sym, ap, subst, ◌∙◌, arith, string_bytes, take, Global, Vec}
use Rattle.std.specs.declared.option.Option.{Option}
use Rattle.std.proofs.lemmas.List.{map-append}
use Rattle.std.proofs.lemmas.Result.{err_from_is_err_and}
use Rattle.file_work.specs.Contents.{AreContents, IsContent, bytes_in}
use Rattle.file_work.specs.Contents.{bytes_of}
use Rattle.file_work.proofs.Named.{named_at, named_next, unread}
use Rattle.file_work.proofs.Told.{bytes_push, contents_push}
use Rattle.file_work.proofs.reading.read_files.Goals as goal

pub returns-in_err-content-clause-why : goal.returns-in_err-content-clause-why
returns-in_err-content-clause-why g c =
    let names = c.args.names.now in let k = c.loop-name.name-index in let name = c.name-item.result in
    let inv = c.loop-name.invariant in
    let told = g.F.Files.told c.args.files.now in
    let one : g.F.Files.told c.loop-name.files c.as_str.result.now ≡ told (string_bytes name)
    = ap (g.F.Files.told c.loop-name.files) c.as_str.ensures.value ∙ inv.tells (string_bytes name) in
    let p = err_from_is_err_and c.from_residual-in_err-content.result c.from_residual-in_err-content.ensures.1 in
    rw (p.1, p.2)
    (unread told (map string_bytes names) (map string_bytes (take k names))
    (map string_bytes (drop (suc k) names)) (string_bytes name) (bytes_of c.loop-name.contents.items)
    c.loop-name.left (g.F.Files.faults c.args.files.now) (g.F.Files.faults c.loop-name.files)
    (g.F.Files.faults c.read_file.new.files) (g.F.Files.overlong c.args.files.now)
    (g.F.Files.overlong c.loop-name.files) (g.F.Files.overlong c.read_file.new.files)
    (g.F.Files.told c.loop-name.files c.as_str.result.now) c.in_err-content.field-0.0
    (named_at names k name c.loop-name-test.true c.name-item.is) inv.read inv.left one inv.faults
    inv.overlong c.in_err-content.ensures.why)

pub loop-name-preserved : goal.loop-name-preserved
loop-name-preserved g c =
    let names = c.args.names.now in let k = c.loop-name.name-index in let name = c.name-item.result in
    let inv = c.loop-name.invariant in
    let told = g.F.Files.told c.args.files.now in
    let content = c.in_ok-content.content in
    let before = bytes_of c.loop-name.contents.items in
    let one : g.F.Files.told c.loop-name.files c.as_str.result.now ≡ told (string_bytes name)
    = ap (g.F.Files.told c.loop-name.files) c.as_str.ensures.value ∙ inv.tells (string_bytes name) in
    let more : bytes_of c.push_reserved.new.self.items ≡ before ++ content.items ∷ []
    = ap bytes_of c.push_reserved.ensures.items
    ∙ map-append (λ (text : Vec ℕ Global). text.items) c.loop-name.contents.items (content ∷ []) in
    let is = subst (λ (t : Option (List ℕ)). IsContent t content.items) one c.in_ok-content.ensures.content in
    let size = ap bytes_in more in let push = bytes_push before content.items in
    let faults = c.in_ok-content.ensures.faults_last in let overlong = c.in_ok-content.ensures.overlong_last in
    record {
      read = subst (AreContents told (map string_bytes (take (k + 1) names))) (sym more)
          (subst (λ (ns : List (List ℕ)). AreContents told ns (before ++ content.items ∷ []))
          (sym (named_next names k name c.loop-name-test.true c.name-item.is))
          (contents_push told (map string_bytes (take k names)) before (string_bytes name) content.items
          inv.read is));
      left = let l = inv.left in let n = c.len.ensures in let w = c.in_ok-content.ensures.within in omega arith;
      room = let r = inv.room in let n = c.push_reserved.ensures.len in
          let m = c.push_reserved.ensures.capacity in let t = c.loop-name-test.true in omega arith;
      tells = λ other. c.in_ok-content.ensures.tells other ∙ inv.tells other;
      faults = let a = inv.faults in omega arith;
      overlong = let a = inv.overlong in omega arith;
    }
