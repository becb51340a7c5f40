-- Reading items one after the other, as a loop does.
use Rattle.std.proofs.Common.{◌≡◌, ℕ, zero, suc, List, [], ◌∷◌, ◌++◌, true, false, Ok, Err, refl, sym, ap, ◌∙◌, append_assoc, append-nil}
use Rattle.dso_tokens.specs.declared.stop.Stop.{Stop}
use Rattle.dso_tokens.specs.declared.stop.Stop.TheVariants as stop
use Rattle.dso_tokens.specs.declared.token.Token.{Token}
use Rattle.dso_tokens.specs.declared.token.Mark.TheVariants as m
use Rattle.dso_syntax.specs.declared.tree.ExprTree.{ExprTree}
use Rattle.dso_syntax.specs.ExpressionReader.{Input, Outcome, Parser, and_then, pure, listed, is_mark, next_mark, take_any}
use Rattle.dso_syntax.specs.ProgramReader.{until_brace}
use Rattle.dso_tokens.specs.Gives.{Fails}

-- what was read before, and what is still read
abbrev pub with_front : {A : Type 0} → List A → Outcome (List A) → Outcome (List A)
with_front front (Ok p) = Ok (front ++ p.0, p.1)
with_front front (Err why) = Err why

-- one item goes to the front
pub regroup : {A : Type 0} (front : List A) (a : A) (read : Outcome (List A)) → with_front front (and_then read (λ all. pure (a ∷ all))) ≡ with_front (front ++ a ∷ []) read
regroup {A} front a (Ok p) = ap (λ (all : List A). Ok (all, p.1)) (simp append_assoc)
regroup {A} front a (Err why) = refl

-- an item and a comma were read
pub goes_on : (deeper : Parser ExprTree) (front : List ExprTree) (count below : ℕ) (i j l : Input) (a : ExprTree) (t : Token) (total : Outcome (List ExprTree)) → count ≡ suc below
    → deeper i ≡ Ok (a, j) → is_mark m.Comma (next_mark j.tokens) ≡ true → take_any j ≡ Ok (t, l)
    → with_front front (listed deeper count i) ≡ total → with_front (front ++ a ∷ []) (listed deeper below l) ≡ total
goes_on deeper front count below i j l a t total e read comma took so_far =
    let one : with_front front (listed deeper count i) ≡ with_front (front ++ a ∷ []) (listed deeper below l) = rw (e, read, comma, took) (regroup front a (listed deeper below l)) in
    sym one ∙ so_far

-- the last item was read
pub is_last : (deeper : Parser ExprTree) (front : List ExprTree) (count below : ℕ) (i j : Input) (a : ExprTree) (total : Outcome (List ExprTree)) → count ≡ suc below
    → deeper i ≡ Ok (a, j) → is_mark m.Comma (next_mark j.tokens) ≡ false
    → with_front front (listed deeper count i) ≡ total → total ≡ Ok (front ++ a ∷ [], j)
is_last deeper front count below i j a total e read comma so_far =
    let one : with_front front (listed deeper count i) ≡ Ok (front ++ a ∷ [], j) = rw (e, read, comma) refl in
    sym so_far ∙ one

-- the closing brace is next
pub braces_close : {A : Type 0} (item : Parser A) (front : List A) (count : ℕ) (i : Input) (total : Outcome (List A)) → is_mark m.CloseBrace (next_mark i.tokens) ≡ true
    → with_front front (until_brace item count i) ≡ total → total ≡ Ok (front, i)
braces_close {A} item front count i total is so_far = sym so_far ∙ ap (with_front front) (none count) ∙ ap (λ (all : List A). Ok (all, i)) (append-nil front)
  where
    none : (count : ℕ) → until_brace item count i ≡ Ok ([], i)
    none zero = rw is refl
    none (suc count) = rw is refl

-- an item is not read
pub braces_stop : {A : Type 0} (why : Stop) (item : Parser A) (front : List A) (count below : ℕ) (i : Input) (total : Outcome (List A)) → count ≡ suc below → is_mark m.CloseBrace (next_mark i.tokens) ≡ false
    → Fails why (item i) → with_front front (until_brace item count i) ≡ total → Fails why total
braces_stop (stop.NoMemory refused) item front count below i total e not fails so_far = tt
braces_stop (stop.Unexpected tokens) item front count below i total e not fails so_far = sym so_far ∙ rw (e, not, fails) refl
braces_stop (stop.TooWide tokens) item front count below i total e not fails so_far = sym so_far ∙ rw (e, not, fails) refl
braces_stop (stop.TooDeep tokens) item front count below i total e not fails so_far = sym so_far ∙ rw (e, not, fails) refl

-- an item was read
pub braces_go : {A : Type 0} (item : Parser A) (front : List A) (count below : ℕ) (i j : Input) (a : A) (total : Outcome (List A)) → count ≡ suc below → is_mark m.CloseBrace (next_mark i.tokens) ≡ false
    → item i ≡ Ok (a, j) → with_front front (until_brace item count i) ≡ total → with_front (front ++ a ∷ []) (until_brace item below j) ≡ total
braces_go item front count below i j a total e not read so_far =
    let one : with_front front (until_brace item count i) ≡ with_front (front ++ a ∷ []) (until_brace item below j) = rw (e, not, read) (regroup front a (until_brace item below j)) in
    sym one ∙ so_far
