-- What a walk looks for, from the bytes of a text.
use Rattle.std.proofs.Common.{◌≡◌, ℕ, ◌<◌, ◌≤◌, ◌^◌, List, length, take, sym, ◌∙◌}
use Rattle.std.specs.Prelude.{slice_index_or}
use Rattle.directory_law.specs.Places.{hash_on}
use Rattle.directory_law.proofs.Bytes.{text_place}
use Rattle.record_texts.specs.Texts.{payload_of, text_of}
use Rattle.record_texts.proofs.Packed.{bytes_small, is_text_of}
use Rattle.cell_calls.specs.cell_law.Views.{IsWord}
use Rattle.cell_finding.specs.Sought.{IsSought}

pub is_sought : (bytes head : List ℕ) (hash : ℕ) → ((i : ℕ) → slice_index_or bytes i 0 < 256)
    → 1 ≤ length bytes → length bytes ≤ 4096
    → head ≡ payload_of (length bytes) (take 120 bytes) → hash ≡ hash_on 0 bytes → hash < 2 ^ 32
    → IsSought bytes head hash
is_sought bytes head hash small some most head_is hash_is low =
    let are = bytes_small bytes small in record {
      small_bytes = are;
      sized = (some, most);
      head_is = head_is;
      place = text_place bytes (text_of bytes) are (is_text_of bytes some most) ∙ sym hash_is;
      small = low;
    }

pub sought_word : (bytes head : List ℕ) (hash : ℕ) → IsSought bytes head hash → IsWord (text_of bytes)
sought_word bytes head hash sought =
    (bytes, sought.small_bytes, is_text_of bytes sought.sized.0 sought.sized.1)
