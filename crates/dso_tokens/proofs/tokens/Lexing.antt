-- The tokens read so far, and the text that is left.
use Rattle.std.proofs.Common.{◌≡◌, ℕ, ◌+◌, ◌-◌, ◌≤◌, ◌<◌, Bool, true, false, cond, ◌==◌, List, [], ◌∷◌, ◌++◌, length, take, drop, take_all, slice_index, refl, sym, subst, ap, ◌∙◌, arith, append_assoc, append-nil, length-drop}
use Rattle.dso_tokens.specs.declared.token.Form.{Form}
use Rattle.dso_tokens.specs.declared.token.Token.{Token}
use Rattle.dso_tokens.specs.declared.token.Ending.{Ending}
use Rattle.dso_tokens.specs.declared.token.Ending.TheVariants as ending
use Rattle.dso_tokens.specs.declared.scan.Front.{Front}
use Rattle.dso_tokens.specs.declared.scan.Front.TheVariants as front
use Rattle.dso_tokens.specs.Bytes.{Text, line_after}
use Rattle.dso_tokens.specs.Scan.{front_at}
use Rattle.dso_tokens.specs.Reading.{Reads}
use Rattle.dso_tokens.proofs.tokens.ReadingLaws.{Step, Goes, step_reads, front_goes, line_behind}

-- what was read and however the rest is read make up the reading of the text
pub record Going (text : Text) (tokens : List Token) (place line : ℕ) (rest : Text) : Type 0 where
  pub reads : (more : List Token) (end : Ending) → Reads place line rest more end → Reads 0 1 text (tokens ++ more) end
  pub places : place + length rest ≡ length text
  pub lines : line ≤ place + 1

-- the rest is read as its front is
stepped : (text : Text) (tokens : List Token) (place line : ℕ) (rest : Text) (f : Front) → Going text tokens place line rest → f ≡ front_at rest
    → (more : List Token) (end : Ending) → Step f place line rest more end → Reads 0 1 text (tokens ++ more) end
stepped text tokens place line rest f going is more end step = going.reads more end (step_reads place line rest more end (subst (λ g. Step g place line rest more end) is step))

-- a gap takes bytes that are there
pub gap_goes : (rest : Text) (count : ℕ) → front.Gap count ≡ front_at rest → (1 ≤ count) × (count ≤ length rest)
gap_goes rest count is = subst (λ f. Goes f (length rest)) (sym is) (front_goes rest)

-- and so does a token
pub token_takes : (rest : Text) (this : Form) (count : ℕ) → front.Token this count ≡ front_at rest → (1 ≤ count) × (count ≤ length rest)
token_takes rest this count is = subst (λ f. Goes f (length rest)) (sym is) (front_goes rest)

line_within : (b line : ℕ) → line_after b line ≤ line + 1
line_within b line = at (b == 10)
  where
    at : (test : Bool) → cond test (line + 1) line ≤ line + 1
    at true = omega arith
    at false = omega arith

line_is : (rest : Text) (line : ℕ) → 1 ≤ length rest → line_behind rest line ≡ line_after (slice_index rest 0) line
line_is [] line some = absurd (omega arith)
line_is (b ∷ rest) line some = refl

-- the part of a text from a place on
abbrev pub part : ℕ → Text → Text
part count rest = take (length rest - count) (drop count rest)

part_is : (count : ℕ) (rest : Text) → part count rest ≡ drop count rest
part_is count rest = take_all (length rest - count) (drop count rest) (omega (arith, length-drop count rest))

-- it is shorter where some bytes are before it
pub part_shorter : (count : ℕ) (rest : Text) → (1 ≤ count) × (count ≤ length rest) → length (part count rest) < length rest
part_shorter count rest goes = let len : length (part count rest) ≡ length rest - count = ap length (part_is count rest) ∙ length-drop count rest in omega (arith, goes.0, goes.1)

-- behind a gap
pub going_gap : (text : Text) (tokens : List Token) (place line : ℕ) (rest : Text) (count : ℕ) → Going text tokens place line rest → front.Gap count ≡ front_at rest
    → Going text tokens (place + count) (line_after (slice_index rest 0) line) (part count rest)
going_gap text tokens place line rest count going is =
    let goes : (1 ≤ count) × (count ≤ length rest) = gap_goes rest count is in
    let some : 1 ≤ count = goes.0 in
    let within : count ≤ length rest = goes.1 in
    let len : length (drop count rest) ≡ length rest - count = length-drop count rest in
    let same : part count rest ≡ drop count rest = part_is count rest in
    let places : place + length rest ≡ length text = going.places in
    let lines : line ≤ place + 1 = going.lines in
    let next : line_after (slice_index rest 0) line ≤ line + 1 = line_within (slice_index rest 0) line in
    subst (Going text tokens (place + count) (line_after (slice_index rest 0) line)) (sym same) (record {
      reads = λ more end reads. stepped text tokens place line rest (front.Gap count) going is more end
          (subst (λ l. Reads (place + count) l (drop count rest) more end) (sym (line_is rest line (omega arith))) reads);
      places = omega arith;
      lines = omega arith;
    })

-- behind a token
pub going_token : (text : Text) (tokens : List Token) (place line : ℕ) (rest : Text) (this : Form) (count : ℕ) → Going text tokens place line rest → front.Token this count ≡ front_at rest
    → Going text (tokens ++ record { place = place; line = line; form = this } ∷ []) (place + count) line (part count rest)
going_token text tokens place line rest this count going is =
    let goes : (1 ≤ count) × (count ≤ length rest) = token_takes rest this count is in
    let some : 1 ≤ count = goes.0 in
    let within : count ≤ length rest = goes.1 in
    let len : length (drop count rest) ≡ length rest - count = length-drop count rest in
    let same : part count rest ≡ drop count rest = part_is count rest in
    let places : place + length rest ≡ length text = going.places in
    let lines : line ≤ place + 1 = going.lines in
    subst (Going text (tokens ++ record { place = place; line = line; form = this } ∷ []) (place + count) line) (sym same) (record {
      reads = λ more end reads. subst (λ ts. Reads 0 1 text ts end) (sym (append_assoc tokens (record { place = place; line = line; form = this } ∷ []) more))
          (stepped text tokens place line rest (front.Token this count) going is (record { place = place; line = line; form = this } ∷ more) end (more, refl, reads));
      places = omega arith;
      lines = omega arith;
    })

-- at an end
at_end : (text : Text) (tokens : List Token) (end : Ending) → Reads 0 1 text (tokens ++ []) end → Reads 0 1 text tokens end
at_end text tokens end reads = subst (λ ts. Reads 0 1 text ts end) (append-nil tokens) reads

pub going_ends : (text : Text) (tokens : List Token) (place line : ℕ) (rest : Text) → Going text tokens place line rest → front.End ≡ front_at rest → Reads 0 1 text tokens (ending.End place)
going_ends text tokens place line rest going is = at_end text tokens (ending.End place) (stepped text tokens place line rest front.End going is [] (ending.End place) (refl, refl))

pub going_bad_byte : (text : Text) (tokens : List Token) (place line : ℕ) (rest : Text) → Going text tokens place line rest → front.BadByte ≡ front_at rest → Reads 0 1 text tokens (ending.BadByte place)
going_bad_byte text tokens place line rest going is = at_end text tokens (ending.BadByte place) (stepped text tokens place line rest front.BadByte going is [] (ending.BadByte place) (refl, refl))

pub going_bad_token : (text : Text) (tokens : List Token) (place line : ℕ) (rest : Text) → Going text tokens place line rest → front.BadToken ≡ front_at rest → Reads 0 1 text tokens (ending.BadToken place)
going_bad_token text tokens place line rest going is = at_end text tokens (ending.BadToken place) (stepped text tokens place line rest front.BadToken going is [] (ending.BadToken place) (refl, refl))
