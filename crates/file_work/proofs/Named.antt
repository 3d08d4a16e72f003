-- One file more is read, or isn't.
use Rattle.std.proofs.Common.{◌≡◌, ℕ, suc, ◌+◌, ◌<◌, ◌≤◌, List, [], ◌∷◌, ◌++◌, length, map, take, drop, get_or, Some, None, IfSome, sym, ap, subst, ◌∙◌, arith, string_bytes, String, Global}
use Rattle.std.proofs.Math.Seq.{split_at}
use Rattle.std.proofs.lemmas.List.{map-append, take_more}
use Rattle.std.specs.declared.option.Option.{Option}
use Rattle.file_work.specs.Contents.{AreContents, Told, bytes_in}
use Rattle.file_work.specs.Limits.{most_bytes}
use Rattle.file_work.specs.Reads.{IsWhyOneUnread, IsWhyUnread}
use Rattle.file_work.specs.declared.refused.Refused.{Refused}
use Rattle.file_work.specs.declared.refused.Refused.TheVariants as refused

pub named_at : (names : List (String Global)) (k : ℕ) (name : String Global) → k < length names
    → name ≡ get_or names k name
    → map string_bytes names
    ≡ map string_bytes (take k names) ++ string_bytes name ∷ map string_bytes (drop (suc k) names)
named_at names k name below is =
    ap (map string_bytes) (split_at names k name below)
    ∙ map-append string_bytes (take k names) (get_or names k name ∷ drop (suc k) names)
    ∙ ap (λ (n : String Global). map string_bytes (take k names) ++ string_bytes n ∷ map string_bytes (drop (suc k) names))
    (sym is)

pub named_next : (names : List (String Global)) (k : ℕ) (name : String Global) → k < length names
    → name ≡ get_or names k name
    → map string_bytes (take (k + 1) names)
    ≡ map string_bytes (take k names) ++ string_bytes name ∷ []
named_next names k name below is =
    ap (map string_bytes) (take_more names k name below)
    ∙ map-append string_bytes (take k names) (get_or names k name ∷ [])
    ∙ ap (λ (n : String Global). map string_bytes (take k names) ++ string_bytes n ∷ []) (sym is)

longer : (told : Option (List ℕ)) (left bytes most : ℕ) → left + bytes ≡ most
    → IfSome told (λ content. left < length content)
    → IfSome told (λ content. most < bytes + length content)
longer None left bytes most size long = tt
longer (Some content) left bytes most size long = omega arith

-- why one file isn't read is why the files aren't
pub unread : {S : Type 0} (told : Told) (names front back : List (List ℕ)) (name : List ℕ) (contents : List (List ℕ))
    (left faults0 faults1 faults2 overlong0 overlong1 overlong2 : ℕ) (one : Option (List ℕ)) (error : Refused S)
    → names ≡ front ++ name ∷ back → AreContents told front contents → left + bytes_in contents ≡ most_bytes
    → one ≡ told name → faults0 ≤ faults1 → overlong0 ≤ overlong1
    → IsWhyOneUnread one left
    (record { faults = faults1; faults_now = faults2; overlong = overlong1; overlong_now = overlong2 }) error
    → IsWhyUnread told names
    (record { faults = faults0; faults_now = faults2; overlong = overlong0; overlong_now = overlong2 }) error
unread told names front back name contents left f0 f1 f2 o0 o1 o2 one refused.Read is are size tells f o why = omega arith
unread told names front back name contents left f0 f1 f2 o0 o1 o2 one refused.TooLarge is are size tells f o why = record {
  front = front;
  name = name;
  back = back;
  names_are = is;
  contents = contents;
  are = are;
  found = let w = why.0 in omega arith;
  longer = longer (told name) left (bytes_in contents) most_bytes size
      (subst (λ (t : Option (List ℕ)). IfSome t (λ content. left < length content)) tells why.1);
}
unread told names front back name contents left f0 f1 f2 o0 o1 o2 one (refused.Full seat) is are size tells f o why = absurd why
unread told names front back name contents left f0 f1 f2 o0 o1 o2 one (refused.Spent seat) is are size tells f o why = absurd why
unread told names front back name contents left f0 f1 f2 o0 o1 o2 one refused.OutOfMemory is are size tells f o why = tt
