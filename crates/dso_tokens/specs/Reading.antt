-- How a whole text is read: its tokens with their places and lines, and how it ends.
use Rattle.std.specs.Prelude.{◌≡◌, ℕ, ◌+◌, true, false, List, [], ◌∷◌, ◌++◌, length}
use Rattle.std.specs.List.{list_all}
use Rattle.dso_tokens.specs.declared.token.Form.{Form}
use Rattle.dso_tokens.specs.declared.token.Token.{Token}
use Rattle.dso_tokens.specs.declared.token.Ending.{Ending}
use Rattle.dso_tokens.specs.declared.token.Ending.TheVariants as ending
use Rattle.dso_tokens.specs.Bytes.{Text, is_white, is_allowed, is_of_line, begins, line_after}
use Rattle.dso_tokens.specs.Token.{IsToken}
use Rattle.dso_tokens.specs.Scan.{begins_comment}

-- The text from this place and line on has these tokens, and ends so.
pub data Reads : ℕ → ℕ → Text → List Token → Ending → Type 0 where
  -- nothing is left
  ends : {place line : ℕ} → Reads place line [] [] (ending.End place)
  -- white space
  passes : {place line b : ℕ} {rest : Text} {tokens : List Token} {end : Ending} →
      is_white b ≡ true → Reads (place + 1) (line_after b line) rest tokens end → Reads place line (b ∷ rest) tokens end
  -- a comment, as far as the line goes
  comments : {place line : ℕ} {text rest : Text} {tokens : List Token} {end : Ending} (comment : Text) →
      text ≡ 47 ∷ 47 ∷ comment ++ rest → list_all is_of_line comment ≡ true → begins is_of_line rest ≡ false →
      Reads (place + (2 + length comment)) line rest tokens end → Reads place line text tokens end
  -- a token
  takes : {place line : ℕ} {text rest : Text} {tokens : List Token} {end : Ending} (word : Text) (form : Form) →
      text ≡ word ++ rest → begins_comment text ≡ false → IsToken form word rest →
      Reads (place + length word) line rest tokens end
      → Reads place line text (record { place = place; line = line; form = form } ∷ tokens) end
  -- a byte that no program has
  bad_byte : {place line b : ℕ} {rest : Text} → is_allowed b ≡ false
      → Reads place line (b ∷ rest) [] (ending.BadByte place)
  -- a byte that begins no white space, no comment and no token
  bad_token : {place line b : ℕ} {rest : Text} → is_allowed b ≡ true → is_white b ≡ false → begins_comment (b ∷ rest)
      ≡ false →
      ((word behind : Text) (form : Form) → b ∷ rest ≡ word ++ behind → IsToken form word behind → ⊥)
      → Reads place line (b ∷ rest) [] (ending.BadToken place)
