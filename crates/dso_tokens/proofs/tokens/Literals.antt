-- Text literals: their content found, and their content written.
use Rattle.std.proofs.Common.{◌≡◌, ℕ, suc, ◌+◌, ◌≤◌, Bool, true, false, ◌||◌, ◌==◌, cond, [], ◌∷◌, ◌++◌, length, take, flat_map, Option, Some, None, refl, sym, subst, ap, ◌∙◌, arith}
use Rattle.std.proofs.lemmas.Option.{none-some, same_Some}
use Rattle.std.specs.List.{list_all}
use Rattle.dso_tokens.specs.declared.literal.LiteralByte.{LiteralByte}
use Rattle.dso_tokens.specs.declared.literal.LiteralByte.TheVariants as literal_byte
use Rattle.dso_tokens.specs.Bytes.{Text, is_printable}
use Rattle.dso_tokens.specs.Token.{escaped}
use Rattle.dso_tokens.specs.Scan.{literal_byte_of, content_at, content_by, with_byte, one_further}
use Rattle.dso_tokens.proofs.tokens.ByteRuns.{first_holds, second_holds}

-- what a literal's bytes are from behind its opening quote on
abbrev pub written : Text → Text
written content = flat_map escaped content ++ 34 ∷ []

-- so many bytes at the front are the rest of a literal with this content
pub record IsLiteral (text content : Text) (count : ℕ) : Type 0 where
  pub spelled : take count text ≡ written content
  pub printable : list_all is_printable content ≡ true
  pub within : count ≤ length text

-- what each bite says of its byte
closes : (b : ℕ) → literal_byte_of false b ≡ literal_byte.Close → b ≡ 34
closes b is = grind arith

escapes : (b : ℕ) → literal_byte_of false b ≡ literal_byte.Backslash → b ≡ 92
escapes b is = grind arith

plain : (b : ℕ) → literal_byte_of false b ≡ literal_byte.Content → escaped b ≡ b ∷ []
plain b is = grind arith

plain_printable : (b : ℕ) → literal_byte_of false b ≡ literal_byte.Content → is_printable b ≡ true
plain_printable b is = grind arith

after_escape : (b : ℕ) → literal_byte_of true b ≡ literal_byte.Content → escaped b ≡ 92 ∷ b ∷ []
after_escape b is = grind arith

after_printable : (b : ℕ) → literal_byte_of true b ≡ literal_byte.Content → is_printable b ≡ true
after_printable b is = grind arith

-- a byte more
longer : (b : ℕ) (rest content : Text) (count : ℕ) → escaped b ≡ b ∷ [] → is_printable b ≡ true → IsLiteral rest content count → IsLiteral (b ∷ rest) (b ∷ content) (count + 1)
longer b rest content count once visible more =
    let next : count + 1 ≡ suc count = omega arith in
    let within : count ≤ length rest = more.within in
    subst (IsLiteral (b ∷ rest) (b ∷ content)) (sym next) (record {
      spelled = ap (λ z. b ∷ z) more.spelled ∙ sym (ap (λ z. (z ++ flat_map escaped content) ++ 34 ∷ []) once);
      printable = rw visible more.printable;
      within = omega arith;
    })

-- two bytes more
longer_by_two : (b c : ℕ) (rest content : Text) (count : ℕ) → b ≡ 92 → escaped c ≡ 92 ∷ c ∷ [] → is_printable c ≡ true → IsLiteral rest content count
    → IsLiteral (b ∷ c ∷ rest) (c ∷ content) (count + 1 + 1)
longer_by_two b c rest content count first twice visible more =
    let next : count + 1 + 1 ≡ suc (suc count) = omega arith in
    let within : count ≤ length rest = more.within in
    subst (IsLiteral (b ∷ c ∷ rest) (c ∷ content)) (sym next) (record {
      spelled = ap (λ z. b ∷ c ∷ z) more.spelled ∙ ap (λ z. z ∷ c ∷ flat_map escaped content ++ 34 ∷ []) first ∙ sym (ap (λ z. (z ++ flat_map escaped content) ++ 34 ∷ []) twice);
      printable = rw visible more.printable;
      within = omega arith;
    })

-- the closing quote
closed : (b : ℕ) (rest content : Text) (count : ℕ) → b ≡ 34 → ◌≡◌ {A = Option (Text × ℕ)} (Some ([], 1)) (Some (content, count)) → IsLiteral (b ∷ rest) content count
closed b rest content count quote found =
    subst (λ p. IsLiteral (b ∷ rest) p.0 p.1) (same_Some ([], 1) (content, count) found) (record { spelled = ap (λ z. z ∷ []) quote; printable = refl; within = omega arith })

-- what is found has the form of a literal
abbrev Finds : Text → Type 0
Finds text = (content : Text) (count : ℕ) → content_at false text ≡ Some (content, count) → IsLiteral text content count

found_content : (b : ℕ) (rest content : Text) (count : ℕ) → escaped b ≡ b ∷ [] → is_printable b ≡ true → (more : Option (Text × ℕ)) → content_at false rest ≡ more
    → Finds rest → with_byte b more ≡ Some (content, count) → IsLiteral (b ∷ rest) content count
found_content b rest content count once visible None is finds found = absurd (none-some (content, count) found)
found_content b rest content count once visible (Some p) is finds found =
    subst (λ q. IsLiteral (b ∷ rest) q.0 q.1) (same_Some (b ∷ p.0, p.1 + 1) (content, count) found) (longer b rest p.0 p.1 once visible (finds p.0 p.1 is))

found_escaped : (b c : ℕ) (rest content : Text) (count : ℕ) → b ≡ 92 → escaped c ≡ 92 ∷ c ∷ [] → is_printable c ≡ true → (more : Option (Text × ℕ)) → content_at false rest ≡ more
    → Finds rest → one_further (with_byte c more) ≡ Some (content, count) → IsLiteral (b ∷ c ∷ rest) content count
found_escaped b c rest content count first twice visible None is finds found = absurd (none-some (content, count) found)
found_escaped b c rest content count first twice visible (Some p) is finds found =
    subst (λ q. IsLiteral (b ∷ c ∷ rest) q.0 q.1) (same_Some (c ∷ p.0, p.1 + 1 + 1) (content, count) found) (longer_by_two b c rest p.0 p.1 first twice visible (finds p.0 p.1 is))

after_backslash : (b c : ℕ) (rest content : Text) (count : ℕ) → b ≡ 92 → (next : LiteralByte) → literal_byte_of true c ≡ next → Finds rest
    → one_further (content_by next c (content_at false rest) (content_at true rest)) ≡ Some (content, count) → IsLiteral (b ∷ c ∷ rest) content count
after_backslash b c rest content count first literal_byte.Content is finds found =
    found_escaped b c rest content count first (after_escape c is) (after_printable c is) (content_at false rest) refl finds found
after_backslash b c rest content count first literal_byte.Close is finds found = absurd (grind arith)
after_backslash b c rest content count first literal_byte.Backslash is finds found = absurd (grind arith)
after_backslash b c rest content count first literal_byte.Bad is finds found = absurd (none-some (content, count) found)

at_byte : (b : ℕ) (rest content : Text) (count : ℕ) → (this : LiteralByte) → literal_byte_of false b ≡ this → Finds rest
    → ((content : Text) (count : ℕ) → b ≡ 92 → one_further (content_at true rest) ≡ Some (content, count) → IsLiteral (b ∷ rest) content count)
    → content_by this b (content_at false rest) (content_at true rest) ≡ Some (content, count) → IsLiteral (b ∷ rest) content count
at_byte b rest content count literal_byte.Close is finds escaped_finds found = closed b rest content count (closes b is) found
at_byte b rest content count literal_byte.Backslash is finds escaped_finds found = escaped_finds content count (escapes b is) found
at_byte b rest content count literal_byte.Content is finds escaped_finds found =
    found_content b rest content count (plain b is) (plain_printable b is) (content_at false rest) refl finds found
at_byte b rest content count literal_byte.Bad is finds escaped_finds found = absurd (none-some (content, count) found)

pub literal_found : (text : Text) → Finds text
literal_found [] content count found = absurd (none-some (content, count) found)
literal_found (b ∷ []) content count found =
    at_byte b [] content count (literal_byte_of false b) refl (literal_found []) (λ content count first found. absurd (none-some (content, count) found)) found
literal_found (b ∷ c ∷ rest) content count found =
    at_byte b (c ∷ rest) content count (literal_byte_of false b) refl (literal_found (c ∷ rest))
    (λ content count first found. after_backslash b c rest content count first (literal_byte_of true c) refl (literal_found rest) found) found

-- a plain byte by itself is content
is_content : (b : ℕ) → (b == 34 || b == 92) ≡ false → is_printable b ≡ true → literal_byte_of false b ≡ literal_byte.Content
is_content b is visible = grind arith

-- one more byte of content, written with a backslash or without
read_byte : (b : ℕ) (content rest : Text) (special : Bool) → (b == 34 || b == 92) ≡ special → is_printable b ≡ true
    → content_at false (written content ++ rest) ≡ Some (content, length (written content))
    → content_at false (((cond special (92 ∷ b ∷ []) (b ∷ []) ++ flat_map escaped content) ++ 34 ∷ []) ++ rest)
    ≡ Some (b ∷ content, length ((cond special (92 ∷ b ∷ []) (b ∷ []) ++ flat_map escaped content) ++ 34 ∷ []))
read_byte b content rest true is visible more =
    let count : length (written content) + 1 + 1 ≡ suc (suc (length (written content))) = omega arith in
    rw (is, more) (λ i. Some (b ∷ content, count i))
read_byte b content rest false is visible more =
    let count : length (written content) + 1 ≡ suc (length (written content)) = omega arith in
    rw (is_content b is visible, more) (λ i. Some (b ∷ content, count i))

-- what has the form of a literal is found
pub literal_read : (content rest : Text) → list_all is_printable content ≡ true
    → content_at false (written content ++ rest) ≡ Some (content, length (written content))
literal_read [] rest visible = refl
literal_read (b ∷ content) rest visible =
    read_byte b content rest (b == 34 || b == 92) refl (first_holds (is_printable b) (list_all is_printable content) visible)
    (literal_read content rest (second_holds (is_printable b) (list_all is_printable content) visible))
