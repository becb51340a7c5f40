-- The content of a text literal, read from the front on.
use Rattle.std.proofs.Common.{◌≡◌, ℕ, ◌+◌, Bool, true, false, [], ◌∷◌, ◌++◌, Option, Some, None, refl, sym, arith, ◌≤◌, ◌<◌, ◌-◌, length, take, drop, take_all, suc, slice_index, append_assoc, append-nil}
use Rattle.dso_tokens.specs.declared.literal.LiteralByte.TheVariants as literal_byte
use Rattle.dso_tokens.specs.Bytes.{Text}
use Rattle.dso_tokens.specs.Scan.{with_byte, one_further, literal_byte_of, content_at}

-- what is found, with content before it and so many bytes
abbrev pub behind : Text → ℕ → Option (Text × ℕ) → Option (Text × ℕ)
behind content len None = None
behind content len (Some found) = Some (content ++ found.0, len + found.1)

-- one more byte of content
behind_with_byte : (content : Text) (len b : ℕ) (found : Option (Text × ℕ)) → behind content len (with_byte b found) ≡ behind (content ++ b ∷ []) (len + 1) found
behind_with_byte content len b None = refl
behind_with_byte content len b (Some found) =
    let taken : content ++ b ∷ found.0 ≡ (content ++ b ∷ []) ++ found.0 = sym (append_assoc content (b ∷ []) found.0) in
    let count : len + (found.1 + 1) ≡ (len + 1) + found.1 = omega arith in λ i. Some (taken i, count i)

-- one more byte that is no content
behind_one_further : (content : Text) (len : ℕ) (found : Option (Text × ℕ)) → behind content len (one_further found) ≡ behind content (len + 1) found
behind_one_further content len None = refl
behind_one_further content len (Some found) =
    let count : len + (found.1 + 1) ≡ (len + 1) + found.1 = omega arith in λ i. Some (content ++ found.0, count i)

-- what is found from a byte on, by what that byte is
pub at_content : (content : Text) (len : ℕ) (text : Text) (after : Bool) → 1 ≤ length text → literal_byte.Content ≡ literal_byte_of after (slice_index text 0)
    → behind content len (content_at after text) ≡ behind (content ++ slice_index text 0 ∷ []) (len + 1) (content_at false (take (length text - 1) (drop 1 text)))
at_content content len [] after some is = absurd (omega arith)
at_content content len (b ∷ rest) after some is = let whole : take (suc (length rest) - 1) rest ≡ rest = take_all _ rest (omega arith) in rw (← is, whole) (behind_with_byte content len b (content_at false rest))

pub at_backslash : (content : Text) (len : ℕ) (text : Text) (after : Bool) → 1 ≤ length text → literal_byte.Backslash ≡ literal_byte_of after (slice_index text 0)
    → behind content len (content_at after text) ≡ behind content (len + 1) (content_at true (take (length text - 1) (drop 1 text)))
at_backslash content len [] after some is = absurd (omega arith)
at_backslash content len (b ∷ rest) after some is = let whole : take (suc (length rest) - 1) rest ≡ rest = take_all _ rest (omega arith) in rw (← is, whole) (behind_one_further content len (content_at true rest))

pub at_close : (content : Text) (len : ℕ) (text : Text) (after : Bool) → 1 ≤ length text → literal_byte.Close ≡ literal_byte_of after (slice_index text 0)
    → behind content len (content_at after text) ≡ Some (content, len + 1)
at_close content len [] after some is = absurd (omega arith)
at_close content len (b ∷ rest) after some is = rw (← is) (λ i. Some (append-nil content i, len + 1))

pub at_bad : (content : Text) (len : ℕ) (text : Text) (after : Bool) → 1 ≤ length text → literal_byte.Bad ≡ literal_byte_of after (slice_index text 0)
    → behind content len (content_at after text) ≡ None
at_bad content len [] after some is = absurd (omega arith)
at_bad content len (b ∷ rest) after some is = rw (← is) refl

pub at_end : (content : Text) (len : ℕ) (text : Text) (after : Bool) → length text < 1 → behind content len (content_at after text) ≡ None
at_end content len [] after none = refl
at_end content len (b ∷ rest) after none = absurd (omega arith)
