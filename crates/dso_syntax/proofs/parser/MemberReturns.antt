-- The readers of members, classes and threads: what each makes of what its parts read, in the forms of a function's returns.
use Rattle.std.proofs.Common.{◌≡◌, ◌<◌, ℕ, zero, suc, true, List, [], ◌∷◌, ◌++◌, Ok, Err, length, refl, sym, subst, ap, ◌∙◌, append-nil, arith}
use Rattle.dso_tokens.specs.declared.stop.Stop.{Stop}
use Rattle.dso_tokens.specs.declared.stop.Stop.TheVariants as stop
use Rattle.dso_tokens.specs.declared.token.Token.{Token}
use Rattle.dso_tokens.specs.declared.token.Mark.TheVariants as m
use Rattle.dso_syntax.specs.declared.tree.Ident.{Ident}
use Rattle.dso_syntax.specs.declared.tree.Item.{Item}
use Rattle.dso_syntax.specs.declared.tree.Member.{Member}
use Rattle.dso_syntax.specs.Grammar.{Tokens}
use Rattle.dso_syntax.specs.ExpressionReader.{Input, Outcome, Parser, unexpected, and_then, pure, is_mark, next_mark, next_keyword, take_any, take_name}
use Rattle.dso_syntax.specs.ProgramReader.{Start, start_of, by_start, one_member, names, one_item, items_from}
use Rattle.dso_tokens.specs.Gives.{Gives, Fails}
use Rattle.dso_syntax.specs.StatementLevels.{body}
use Rattle.dso_syntax.proofs.parser.StatementReturns.{Read}
use Rattle.dso_syntax.proofs.parser.ListLoops.{with_front, regroup}

-- a member by its start
pub member_by : (r : Read Member) (start : Start) (i : Input) → start_of (next_keyword i.tokens) ≡ start → Gives (λ a. a) r (by_start body start i) → Gives (λ a. a) r (one_member body i)
member_by r start i is gives = subst (λ s. Gives (λ a. a) r (by_start body s i)) (sym is) gives

-- ---- names

-- a name and a comma were read
pub names_go : (front : List Ident) (count below : ℕ) (i j l : Input) (a : Ident) (t : Token) (total : Outcome (List Ident)) → count ≡ suc below
    → take_name i ≡ Ok (a, j) → is_mark m.Comma (next_mark j.tokens) ≡ true → take_any j ≡ Ok (t, l)
    → with_front front (names count i) ≡ total → with_front (front ++ a ∷ []) (names below l) ≡ total
names_go front count below i j l a t total e read comma took so_far =
    let one : with_front front (names count i) ≡ with_front (front ++ a ∷ []) (names below l) = rw (e, read, comma, took) (regroup front a (names below l)) in
    sym one ∙ so_far

-- a name is not read
pub names_stop : (why : Stop) (front : List Ident) (count below : ℕ) (i : Input) (total : Outcome (List Ident)) → count ≡ suc below → Fails why (take_name i) → with_front front (names count i) ≡ total → Fails why total
names_stop (stop.NoMemory refused) front count below i total e fails so_far = tt
names_stop (stop.Unexpected tokens) front count below i total e fails so_far = sym so_far ∙ rw (e, fails) refl
names_stop (stop.TooWide tokens) front count below i total e fails so_far = sym so_far ∙ rw (e, fails) refl
names_stop (stop.TooDeep tokens) front count below i total e fails so_far = sym so_far ∙ rw (e, fails) refl

-- ---- classes and threads

-- the tokens end
pub items_end : (front : List Item) (count room : ℕ) (tokens : Tokens) (total : Outcome (List Item)) → length tokens ≡ 0
    → with_front front (items_from body count room tokens) ≡ total → total ≡ Ok (front, record { tokens = tokens; room = room })
items_end front zero room [] total e so_far = sym so_far ∙ ap (λ (all : List Item). Ok (all, record { tokens = []; room = room })) (append-nil front)
items_end front (suc count) room [] total e so_far = sym so_far ∙ ap (λ (all : List Item). Ok (all, record { tokens = []; room = room })) (append-nil front)
items_end front count room (t ∷ rest) total e so_far = absurd (omega arith)

-- the bound is reached, and tokens are left
pub items_rest : (front : List Item) (count room : ℕ) (tokens : Tokens) (total : Outcome (List Item)) → count ≡ 0 → 0 < length tokens
    → with_front front (items_from body count room tokens) ≡ total → total ≡ Err (unexpected, tokens)
items_rest front count room [] total none some so_far = absurd (omega arith)
items_rest front count room (t ∷ rest) total none some so_far = sym so_far ∙ rw none refl

-- behind an item
abbrev behind_item : ℕ → Item → Parser (List Item)
behind_item below a j = and_then (items_from body below j.room j.tokens) (λ all. pure (a ∷ all))

items_at : (front : List Item) (count below room : ℕ) (tokens : Tokens) → count ≡ suc below → 0 < length tokens
    → with_front front (items_from body count room tokens) ≡ with_front front (and_then (one_item body (record { tokens = tokens; room = room })) (behind_item below))
items_at front count below room [] e some = absurd (omega arith)
items_at front count below room (t ∷ rest) e some = rw e refl

fails_in_front : (why : Stop) (front : List Item) (below : ℕ) (o : Outcome Item) (total : Outcome (List Item)) → Fails why o → with_front front (and_then o (behind_item below)) ≡ total → Fails why total
fails_in_front (stop.NoMemory refused) front below o total fails so_far = tt
fails_in_front (stop.Unexpected tokens) front below o total fails so_far = sym so_far ∙ ap (λ q. with_front front (and_then q (behind_item below))) fails
fails_in_front (stop.TooWide tokens) front below o total fails so_far = sym so_far ∙ ap (λ q. with_front front (and_then q (behind_item below))) fails
fails_in_front (stop.TooDeep tokens) front below o total fails so_far = sym so_far ∙ ap (λ q. with_front front (and_then q (behind_item below))) fails

-- an item is not read
pub items_stop : (why : Stop) (front : List Item) (count below room : ℕ) (tokens : Tokens) (total : Outcome (List Item)) → count ≡ suc below → 0 < length tokens
    → Fails why (one_item body (record { tokens = tokens; room = room })) → with_front front (items_from body count room tokens) ≡ total → Fails why total
items_stop why front count below room tokens total e some fails so_far =
    fails_in_front why front below (one_item body (record { tokens = tokens; room = room })) total fails (sym (items_at front count below room tokens e some) ∙ so_far)

-- an item was read
pub items_go : (front : List Item) (count below room : ℕ) (tokens : Tokens) (a : Item) (j : Input) (total : Outcome (List Item)) → count ≡ suc below → 0 < length tokens
    → one_item body (record { tokens = tokens; room = room }) ≡ Ok (a, j) → with_front front (items_from body count room tokens) ≡ total → with_front (front ++ a ∷ []) (items_from body below j.room j.tokens) ≡ total
items_go front count below room tokens a j total e some read so_far =
    sym (items_at front count below room tokens e some ∙ ap (λ o. with_front front (and_then o (behind_item below))) read ∙ regroup front a (items_from body below j.room j.tokens)) ∙ so_far
