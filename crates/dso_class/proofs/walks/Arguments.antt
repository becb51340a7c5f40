-- Expressions in a row: what they mention and mean, one more of them, and all.
use Rattle.std.proofs.Common.{◌≡◌, ℕ, ◌+◌, ◌<◌, List, [], ◌∷◌, ◌++◌, map, take, drop, length, get_or, refl, sym, subst, ap, ◌∙◌, append-nil, append_assoc}
use Rattle.std.proofs.lemmas.List.{map-append, take-append-drop}
use Rattle.dso_machine.specs.declared.tree.Expr.{Expr}
use Rattle.dso_syntax.specs.declared.tree.ExprTree.{ExprTree}
use Rattle.dso_config_entries.specs.Words.{Word}
use Rattle.dso_class.specs.Mentions.{Owner, Part, all_of, expression}
use Rattle.dso_class.specs.Numbers.{Numbers, MeansExpr, MeansExprs, none, more}
use Rattle.dso_config_entries.proofs.lists.Last.{taken}

-- what expressions mention, and others behind them
pub all_append : (xs ys : List Part) (known : List Word) → all_of (xs ++ ys) known ≡ all_of xs known ++ all_of ys known
all_append [] ys known = refl
all_append (x ∷ xs) ys known = ap (λ rest. x.mentions known ++ rest) (all_append xs ys known) ∙ sym (append_assoc (x.mentions known) (all_of xs known) (all_of ys known))

-- what one more expression mentions
pub one_more : (owner : Owner) (trees : List ExprTree) (i : ℕ) (tree : ExprTree) (known : List Word) → i < length trees → tree ≡ get_or trees i tree
    → all_of (map (expression owner) (take (i + 1) trees)) known ≡ all_of (map (expression owner) (take i trees)) known ++ (expression owner tree).mentions known
one_more owner trees i tree known below is =
    ap (λ all. all_of (map (expression owner) all) known) (taken trees i tree below is)
    ∙ ap (λ all. all_of all known) (map-append (expression owner) (take i trees) (tree ∷ []))
    ∙ all_append (map (expression owner) (take i trees)) (expression owner tree ∷ []) known
    ∙ ap (λ last. all_of (map (expression owner) (take i trees)) known ++ last) (append-nil ((expression owner tree).mentions known))

-- what the first expressions mention stands before what the rest do
pub first_of : (owner : Owner) (trees : List ExprTree) (i : ℕ) (known : List Word)
    → all_of (map (expression owner) trees) known ≡ all_of (map (expression owner) (take i trees)) known ++ all_of (map (expression owner) (drop i trees)) known
first_of owner trees i known =
    ap (λ all. all_of (map (expression owner) all) known) (sym (take-append-drop i trees))
    ∙ ap (λ all. all_of all known) (map-append (expression owner) (take i trees) (drop i trees))
    ∙ all_append (map (expression owner) (take i trees)) (map (expression owner) (drop i trees)) known

-- one more expression with its meaning
push : (n : Numbers) {trees : List ExprTree} {all : List Expr} (tree : ExprTree) (one : Expr) → MeansExprs n trees all → MeansExpr n tree one → MeansExprs n (trees ++ tree ∷ []) (all ++ one ∷ [])
push n tree one none means = more means none
push n tree one (more first rest) means = more first (push n tree one rest means)

pub means_more : (n : Numbers) (trees : List ExprTree) (i : ℕ) (tree : ExprTree) (all now : List Expr) (one : Expr) → i < length trees → tree ≡ get_or trees i tree → now ≡ all ++ one ∷ []
    → MeansExprs n (take i trees) all → MeansExpr n tree one → MeansExprs n (take (i + 1) trees) now
means_more n trees i tree all now one below is pushed first last =
    subst (MeansExprs n (take (i + 1) trees)) (sym pushed) (subst (λ front. MeansExprs n front (all ++ one ∷ [])) (sym (taken trees i tree below is)) (push n tree one first last))
