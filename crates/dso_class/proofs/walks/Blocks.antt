-- Statements in a row: what they mention and mean and make known, one more of them, and all.
use Rattle.std.proofs.Common.{◌≡◌, ℕ, ◌+◌, ◌<◌, Bool, true, List, [], ◌∷◌, ◌++◌, map, take, drop, length, get_or, refl, sym, subst, ap, ◌∙◌, append-nil, append_assoc}
use Rattle.std.specs.List.{list_all}
use Rattle.std.proofs.lemmas.List.{map-append, take-append-drop}
use Rattle.dso_machine.specs.declared.tree.Stmt.{Stmt}
use Rattle.dso_syntax.specs.declared.tree.StmtTree.{StmtTree}
use Rattle.dso_config_entries.specs.Words.{Word}
use Rattle.dso_class.specs.Assignable.{AreAssignable, IsAssignable, assigns}
use Rattle.dso_class.specs.Mentions.{Owner, Step, block, statement}
use Rattle.dso_class.specs.Numbers.{Numbers, MeansStmt, MeansBlock, done, next}
use Rattle.dso_class.specs.StatementWalk.{known_after}
use Rattle.dso_class.proofs.grammar.Operators.{both}
use Rattle.dso_config_entries.proofs.lists.Last.{taken}

-- what statements mention, and others behind them
block_append : (xs ys : List Step) (known : List Word) → block (xs ++ ys) known ≡ block xs known ++ block ys (known_after xs known)
block_append [] ys known = refl
block_append (x ∷ xs) ys known = ap (λ rest. x.mentions known ++ rest) (block_append xs ys (x.names ++ known)) ∙ sym (append_assoc (x.mentions known) (block xs (x.names ++ known)) (block ys (known_after xs (x.names ++ known))))

-- what is known behind statements and others behind them
after_append : (xs ys : List Step) (known : List Word) → known_after (xs ++ ys) known ≡ known_after ys (known_after xs known)
after_append [] ys known = refl
after_append (x ∷ xs) ys known = after_append xs ys (x.names ++ known)

-- the first statements and one more
more_steps : (owner : Owner) (trees : List StmtTree) (i : ℕ) (tree : StmtTree) → i < length trees → tree ≡ get_or trees i tree
    → map (statement owner) (take (i + 1) trees) ≡ map (statement owner) (take i trees) ++ statement owner tree ∷ []
more_steps owner trees i tree below is = ap (map (statement owner)) (taken trees i tree below is) ∙ map-append (statement owner) (take i trees) (tree ∷ [])

-- what one more statement mentions
pub one_more : (owner : Owner) (trees : List StmtTree) (i : ℕ) (tree : StmtTree) (known : List Word) → i < length trees → tree ≡ get_or trees i tree
    → block (map (statement owner) (take (i + 1) trees)) known ≡ block (map (statement owner) (take i trees)) known ++ (statement owner tree).mentions (known_after (map (statement owner) (take i trees)) known)
one_more owner trees i tree known below is =
    let steps = map (statement owner) (take i trees) in
    ap (λ all. block all known) (more_steps owner trees i tree below is)
    ∙ block_append steps (statement owner tree ∷ []) known
    ∙ ap (λ last. block steps known ++ last) (append-nil ((statement owner tree).mentions (known_after steps known)))

-- what is known behind one more statement
pub known_more : (owner : Owner) (trees : List StmtTree) (i : ℕ) (tree : StmtTree) (known : List Word) → i < length trees → tree ≡ get_or trees i tree
    → known_after (map (statement owner) (take (i + 1) trees)) known ≡ (statement owner tree).names ++ known_after (map (statement owner) (take i trees)) known
known_more owner trees i tree known below is =
    ap (λ all. known_after all known) (more_steps owner trees i tree below is) ∙ after_append (map (statement owner) (take i trees)) (statement owner tree ∷ []) known

-- what the first statements mention stands before what the rest do
pub first_of : (owner : Owner) (trees : List StmtTree) (i : ℕ) (known : List Word)
    → block (map (statement owner) trees) known
    ≡ block (map (statement owner) (take i trees)) known ++ block (map (statement owner) (drop i trees)) (known_after (map (statement owner) (take i trees)) known)
first_of owner trees i known =
    ap (λ all. block (map (statement owner) all) known) (sym (take-append-drop i trees))
    ∙ ap (λ all. block all known) (map-append (statement owner) (take i trees) (drop i trees))
    ∙ block_append (map (statement owner) (take i trees)) (map (statement owner) (drop i trees)) known

-- one more statement with its meaning
push : (n : Numbers) {trees : List StmtTree} {all : List Stmt} (tree : StmtTree) (one : Stmt) → MeansBlock n trees all → MeansStmt n tree one → MeansBlock n (trees ++ tree ∷ []) (all ++ one ∷ [])
push n tree one done means = next means done
push n tree one (next first rest) means = next first (push n tree one rest means)

pub means_more : (n : Numbers) (trees : List StmtTree) (i : ℕ) (tree : StmtTree) (all now : List Stmt) (one : Stmt) → i < length trees → tree ≡ get_or trees i tree → now ≡ all ++ one ∷ []
    → MeansBlock n (take i trees) all → MeansStmt n tree one → MeansBlock n (take (i + 1) trees) now
means_more n trees i tree all now one below is pushed first last =
    subst (MeansBlock n (take (i + 1) trees)) (sym pushed) (subst (λ front. MeansBlock n front (all ++ one ∷ [])) (sym (taken trees i tree below is)) (push n tree one first last))

-- where each of a list is true, the last of its front is
last_true : (xs ys : List Bool) (x : Bool) → list_all (λ one. one) (xs ++ x ∷ ys) ≡ true → x ≡ true
last_true [] ys x are = (both x (list_all (λ one. one) ys) are).0
last_true (first ∷ xs) ys x are = last_true xs ys x (both first (list_all (λ one. one) (xs ++ x ∷ ys)) are).1

-- each of assignable statements is assignable
pub each_assignable : (trees : List StmtTree) (i : ℕ) (tree : StmtTree) → AreAssignable trees → i < length trees → tree ≡ get_or trees i tree → IsAssignable tree
each_assignable trees i tree are below is =
    let parts : trees ≡ take i trees ++ (tree ∷ drop (i + 1) trees) =
    sym (take-append-drop (i + 1) trees) ∙ ap (λ front. front ++ drop (i + 1) trees) (taken trees i tree below is) ∙ append_assoc (take i trees) (tree ∷ []) (drop (i + 1) trees) in
    record {
      all =
          last_true (map assigns (take i trees)) (map assigns (drop (i + 1) trees)) (assigns tree)
          (subst (λ bits. list_all (λ one. one) bits ≡ true) (ap (map assigns) parts ∙ map-append assigns (take i trees) (tree ∷ drop (i + 1) trees)) are.all);
    }
