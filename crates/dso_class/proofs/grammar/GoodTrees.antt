-- Trees whose operators are right and which mention no `this` in a thread: what holds of a tree holds of its parts.
use Rattle.std.proofs.Common.{◌≡◌, ◌≢◌, ℕ, zero, suc, Bool, true, false, not, ◌&&◌, if◌then◌else◌, refl, sym, ap, ◌∙◌, subst, List, [], ◌∷◌, ◌++◌, map, length, Option, Some, None, All}
use Rattle.std.specs.List.{list_all}
use Rattle.std.proofs.lemmas.Bool.{false≢true}
use Rattle.std.proofs.lemmas.List.Elements.{All-nil, All-cons, All-head}
use Rattle.std.proofs.lemmas.Option.{none-some}
use Rattle.dso_base.specs.declared.op.Op.{Op}
use Rattle.dso_base.specs.declared.value.Kind.{Kind}
use Rattle.dso_syntax.specs.declared.tree.Ident.{Ident}
use Rattle.dso_syntax.specs.declared.tree.ExprTree.{ExprTree, out-ExprTree, fold_out-ExprTree}
use Rattle.dso_syntax.specs.declared.tree.ExprForm.{fold_out-ExprForm}
use Rattle.dso_syntax.specs.declared.tree.ExprForm.TheOpen.{ExprForm-F}
use Rattle.dso_syntax.specs.declared.tree.ExprForm.TheVariants as e
use Rattle.dso_syntax.specs.declared.tree.StmtTree.{StmtTree, out-StmtTree, fold_out-StmtTree}
use Rattle.dso_syntax.specs.declared.tree.StmtForm.{fold_out-StmtForm}
use Rattle.dso_syntax.specs.declared.tree.StmtForm.TheVariants as s
use Rattle.dso_syntax.specs.Grammar as g
use Rattle.dso_syntax.specs.ProgramGrammar as p
use Rattle.dso_machine.specs.Sound.{is_unary}
use Rattle.dso_config_entries.specs.Words.{Word}
use Rattle.dso_class.specs.Mentions.{Mention, this, on, alone, call, variable, synchronized, Owner, Part, Step, all_of, qualifier_mentions, receiver_mentions, part_of, expression, block, step_of, statement}
use Rattle.dso_class.proofs.grammar.Operators.{operators_of, operators, fits_of, fits, block_fits, both}
use Rattle.dso_class.proofs.mentions.TreeFolds as folds
use Rattle.dso_class.proofs.lists.SideBySide.{All-left, All-right}

-- none of the mentions is `this` where the owner is a thread
pub record IsQuiet (owner : Owner) (mentions : List Mention) : Type 0 where
  pub none : owner.in_thread ≡ true → All (λ mention. mention.what ≢ this) mentions

-- of two rows of mentions each is quiet where both are
pub quiet_left : (owner : Owner) (xs ys : List Mention) → IsQuiet owner (xs ++ ys) → IsQuiet owner xs
quiet_left owner xs ys quiet = record { none = λ is. All-left (λ mention. mention.what ≢ this) xs ys (quiet.none is) }

-- the second row is quiet where both are
pub quiet_right : (owner : Owner) (xs ys : List Mention) → IsQuiet owner (xs ++ ys) → IsQuiet owner ys
quiet_right owner xs ys quiet = record { none = λ is. All-right (λ mention. mention.what ≢ this) xs ys (quiet.none is) }

-- an expression whose operators are right, and which is quiet where these names are known
pub record IsGood (owner : Owner) (known : List Word) (tree : ExprTree) : Type 0 where
  pub right : operators tree ≡ true
  pub quiet : IsQuiet owner ((expression owner tree).mentions known)

-- all of these expressions are good
pub record AreGood (owner : Owner) (known : List Word) (trees : List ExprTree) : Type 0 where
  pub right : list_all (λ one. one) (map operators trees) ≡ true
  pub quiet : IsQuiet owner (all_of (map (expression owner) trees) known)

-- a statement that fits and is quiet
pub record IsGoodStmt (owner : Owner) (known : List Word) (room : ℕ) (tree : StmtTree) : Type 0 where
  pub right : fits tree room ≡ true
  pub quiet : IsQuiet owner ((statement owner tree).mentions known)

-- the statements of a block are good
pub record IsGoodBlock (owner : Owner) (known : List Word) (room : ℕ) (trees : List StmtTree) : Type 0 where
  pub right : block_fits trees room ≡ true
  pub quiet : IsQuiet owner (block (map (statement owner) trees) known)

module _ (owner : Owner) (known : List Word) where
  -- what a good expression is, where its form says so
  right_by : (tree : ExprTree) (b : Bool) → operators tree ≡ b → IsGood owner known tree → b ≡ true
  right_by tree b is good = sym is ∙ good.right

  -- what a good expression mentions is quiet, in the words of its form
  quiet_by : (tree : ExprTree) (part : Part) → expression owner tree ≡ part → IsGood owner known tree → IsQuiet owner (part.mentions known)
  quiet_by tree part is good = subst (λ one. IsQuiet owner (one.mentions known)) is good.quiet

  -- a bare name mentions no `this`
  bare_form : (form : ExprForm-F (ℕ → Part) Part) (line : ℕ) (at : ℕ × Word) → (part_of owner form line).bare ≡ Some at → IsQuiet owner ((part_of owner form line).mentions known)
  bare_form (ExprForm-F.Name name) line at is =
      record { none = λ _. All-cons (λ mention. mention.what ≢ this) (on line (alone known name)) [] (λ same. cc same) (All-nil (λ mention. mention.what ≢ this)) }
  bare_form other line at is = absurd (none-some at is)

  -- each expression is the one that its outermost form gives
  layer_of : (a : ExprTree) → (form : ExprForm-F (ℕ → Part) Part) × (line : ℕ) × (expression owner a ≡ part_of owner form line)
  layer_of a = (
    _,
    (out-ExprTree a).line,
    fold_out-ExprTree (ℕ → Part) Part (part_of owner) (λ tree. tree.form tree.line) a
        ∙ ap (λ f. f (out-ExprTree a).line) (fold_out-ExprForm (ℕ → Part) Part (part_of owner) (λ tree. tree.form tree.line) (out-ExprTree a).form),
  )

  -- an expression that is a bare name mentions no `this`
  bare_quiet : (a : ExprTree) (at : ℕ × Word) → (expression owner a).bare ≡ Some at → IsQuiet owner ((expression owner a).mentions known)
  bare_quiet a at is =
      let layer = layer_of a in
      subst (λ part. IsQuiet owner (part.mentions known)) (sym layer.2) (bare_form layer.0 layer.1 at (sym (ap (λ part. part.bare) layer.2) ∙ is))

  -- what stands before a dot is quiet where what is mentioned of it is
  behind_field : (bare : Option (ℕ × Word)) (mentions : List Word → List Mention) (name : Word) → ((at : ℕ × Word) → bare ≡ Some at → IsQuiet owner (mentions known)) → IsQuiet owner (qualifier_mentions bare mentions name known)
      → IsQuiet owner (mentions known)
  behind_field None mentions name bare_one quiet = quiet
  behind_field (Some at) mentions name bare_one quiet = bare_one at refl

  -- what a method is called on is quiet where what is mentioned of it is
  behind_call : (bare : Option (ℕ × Word)) (mentions : List Word → List Mention) → ((at : ℕ × Word) → bare ≡ Some at → IsQuiet owner (mentions known)) → IsQuiet owner (receiver_mentions bare mentions known) → IsQuiet owner (mentions known)
  behind_call None mentions bare_one quiet = quiet
  behind_call (Some at) mentions bare_one quiet = bare_one at refl

  -- ---- the parts of a good expression

  -- `this` stands in methods
  pub good_this : (line : ℕ) → IsGood owner known (g.expression line e.This) → not owner.in_thread ≡ true
  good_this line good = in_method owner.in_thread refl
    where
      quiet : IsQuiet owner (if owner.in_thread then on line this ∷ [] else [])
      quiet = quiet_by (g.expression line e.This) _ (folds.at_This (part_of owner) (λ tree. tree.form tree.line) line) good

      in_method : (b : Bool) → owner.in_thread ≡ b → not b ≡ true
      in_method false is = refl
      in_method true is =
          absurd (All-head (λ mention. mention.what ≢ this) (on line this) [] (subst (λ b. All (λ mention. mention.what ≢ this) (if b then on line this ∷ [] else [])) is (quiet.none is)) refl)

  -- what stands in parentheses is good
  pub good_paren : (line : ℕ) (a : ExprTree) → IsGood owner known (g.expression line (e.Paren a)) → IsGood owner known a
  good_paren line a good = record {
    right = right_by (g.expression line (e.Paren a)) (operators a) (folds.at_Paren operators_of (λ tree. tree.form) line a) good;
    quiet = quiet_by (g.expression line (e.Paren a)) _ (folds.at_Paren (part_of owner) (λ tree. tree.form tree.line) line a) good;
  }

  -- the size of a new array is good
  pub good_array : (line : ℕ) (kind : Kind) (a : ExprTree) → IsGood owner known (g.expression line (e.NewArray kind a)) → IsGood owner known a
  good_array line kind a good = record {
    right = right_by (g.expression line (e.NewArray kind a)) (operators a) (folds.at_NewArray operators_of (λ tree. tree.form) line kind a) good;
    quiet = quiet_by (g.expression line (e.NewArray kind a)) _ (folds.at_NewArray (part_of owner) (λ tree. tree.form tree.line) line kind a) good;
  }

  -- what stands before a field is good
  pub good_field : (line : ℕ) (a : ExprTree) (name : Ident) → IsGood owner known (g.expression line (e.Field a name)) → IsGood owner known a
  good_field line a name good = record {
    right = right_by (g.expression line (e.Field a name)) (operators a) (folds.at_Field operators_of (λ tree. tree.form) line a name) good;
    quiet = behind_field (expression owner a).bare (expression owner a).mentions name.name (bare_quiet a)
        (quiet_by (g.expression line (e.Field a name)) _ (folds.at_Field (part_of owner) (λ tree. tree.form tree.line) line a name) good);
  }

  -- an array and an index are good
  pub good_element : (line : ℕ) (a b : ExprTree) → IsGood owner known (g.expression line (e.Elem a b)) → IsGood owner known a × IsGood owner known b
  good_element line a b good =
      let right = both (operators a) (operators b) (right_by (g.expression line (e.Elem a b)) _ (folds.at_Elem operators_of (λ tree. tree.form) line a b) good) in
      let quiet = quiet_by (g.expression line (e.Elem a b)) _ (folds.at_Elem (part_of owner) (λ tree. tree.form tree.line) line a b) good in (
        record { right = right.0; quiet = quiet_left owner ((expression owner a).mentions known) ((expression owner b).mentions known) quiet },
        record { right = right.1; quiet = quiet_right owner ((expression owner a).mentions known) ((expression owner b).mentions known) quiet },
      )

  -- what a method is called on and the arguments are good
  pub good_call : (line : ℕ) (a : ExprTree) (name : Ident) (args : List ExprTree) → IsGood owner known (g.expression line (e.Call a name args)) → IsGood owner known a × AreGood owner known args
  good_call line a name args good =
      let right = both (operators a) (list_all (λ one. one) (map operators args)) (right_by (g.expression line (e.Call a name args)) _ (folds.at_Call operators_of (λ tree. tree.form) line a name args) good) in
      let quiet = quiet_by (g.expression line (e.Call a name args)) _ (folds.at_Call (part_of owner) (λ tree. tree.form tree.line) line a name args) good in
      let before = receiver_mentions (expression owner a).bare (expression owner a).mentions known in
      let here = on name.line (call name.name (length (map (expression owner) args))) ∷ [] in
      let behind = all_of (map (expression owner) args) known in (
        record { right = right.0; quiet = behind_call (expression owner a).bare (expression owner a).mentions (bare_quiet a) (quiet_left owner before (here ++ behind) quiet) },
        record { right = right.1; quiet = quiet_right owner here behind (quiet_right owner before (here ++ behind) quiet) },
      )

  -- a sign stands before one good operand
  pub good_unary : (line : ℕ) (o : Op) (a : ExprTree) → IsGood owner known (g.expression line (e.Unary o a)) → (is_unary o ≡ true) × IsGood owner known a
  good_unary line o a good =
      let right = both (is_unary o) (operators a) (right_by (g.expression line (e.Unary o a)) _ (folds.at_Unary operators_of (λ tree. tree.form) line o a) good) in
      (right.0, record { right = right.1; quiet = quiet_by (g.expression line (e.Unary o a)) _ (folds.at_Unary (part_of owner) (λ tree. tree.form tree.line) line o a) good })

  -- what is not so is false
  not_true : (b : Bool) → not b ≡ true → b ≡ false
  not_true true is = absurd (false≢true is)
  not_true false is = refl

  -- an operator for two stands between good operands
  pub good_binary : (line : ℕ) (o : Op) (a b : ExprTree) → IsGood owner known (g.expression line (e.Binary o a b)) → (is_unary o ≡ false) × IsGood owner known a × IsGood owner known b
  good_binary line o a b good =
      let right = both (not (is_unary o)) (operators a && operators b) (right_by (g.expression line (e.Binary o a b)) _ (folds.at_Binary operators_of (λ tree. tree.form) line o a b) good) in
      let each = both (operators a) (operators b) right.1 in
      let quiet = quiet_by (g.expression line (e.Binary o a b)) _ (folds.at_Binary (part_of owner) (λ tree. tree.form tree.line) line o a b) good in (
        not_true (is_unary o) right.0,
        record { right = each.0; quiet = quiet_left owner ((expression owner a).mentions known) ((expression owner b).mentions known) quiet },
        record { right = each.1; quiet = quiet_right owner ((expression owner a).mentions known) ((expression owner b).mentions known) quiet },
      )

  -- the first argument and the others
  pub good_first : (a : ExprTree) (rest : List ExprTree) → AreGood owner known (a ∷ rest) → IsGood owner known a × AreGood owner known rest
  good_first a rest good =
      let right = both (operators a) (list_all (λ one. one) (map operators rest)) good.right in (
        record { right = right.0; quiet = quiet_left owner ((expression owner a).mentions known) (all_of (map (expression owner) rest) known) good.quiet },
        record { right = right.1; quiet = quiet_right owner ((expression owner a).mentions known) (all_of (map (expression owner) rest) known) good.quiet },
      )

  -- ---- the parts of a good statement

  -- what a good statement is, where its form says so
  right_in : (tree : StmtTree) (room : ℕ) (f : ℕ → Bool) → fits tree ≡ f → IsGoodStmt owner known room tree → f room ≡ true
  right_in tree room f is good = sym (ap (λ g. g room) is) ∙ good.right

  -- what a good statement mentions is quiet, in the words of its form
  quiet_in : (tree : StmtTree) (room : ℕ) (step : Step) → statement owner tree ≡ step → IsGoodStmt owner known room tree → IsQuiet owner (step.mentions known)
  quiet_in tree room step is good = subst (λ one. IsQuiet owner (one.mentions known)) is good.quiet

  -- what a variable is given first is good
  pub good_variable : (line room : ℕ) (name : Ident) (a : ExprTree) → IsGoodStmt owner known (suc room) (p.statement line (s.Var name a)) → IsGood owner known a
  good_variable line room name a good = record {
    right = right_in (p.statement line (s.Var name a)) (suc room) _ (folds.at_Var fits_of (λ tree. tree.form) line name a) good;
    quiet = quiet_right owner (on name.line (variable name.name) ∷ []) ((expression owner a).mentions known)
        (quiet_in (p.statement line (s.Var name a)) (suc room) _ (folds.at_Var (step_of owner) (λ tree. tree.form tree.line) line name a) good);
  }

  -- the place and the value of an assignment are good
  pub good_assign : (line room : ℕ) (a b : ExprTree) → IsGoodStmt owner known (suc room) (p.statement line (s.Assign a b)) → IsGood owner known a × IsGood owner known b
  good_assign line room a b good =
      let right = both (operators a) (operators b) (right_in (p.statement line (s.Assign a b)) (suc room) _ (folds.at_Assign fits_of (λ tree. tree.form) line a b) good) in
      let quiet = quiet_in (p.statement line (s.Assign a b)) (suc room) _ (folds.at_Assign (step_of owner) (λ tree. tree.form tree.line) line a b) good in (
        record { right = right.0; quiet = quiet_left owner ((expression owner a).mentions known) ((expression owner b).mentions known) quiet },
        record { right = right.1; quiet = quiet_right owner ((expression owner a).mentions known) ((expression owner b).mentions known) quiet },
      )

  -- the condition and the two blocks of an `if` are good
  pub good_if : (line room : ℕ) (a : ExprTree) (all others : List StmtTree) → IsGoodStmt owner known (suc room) (p.statement line (s.If a all others))
      → IsGood owner known a × IsGoodBlock owner known room all × IsGoodBlock owner known room others
  good_if line room a all others good =
      let right = both (operators a) (block_fits all room && block_fits others room) (right_in (p.statement line (s.If a all others)) (suc room) _ (folds.at_If fits_of (λ tree. tree.form) line a all others) good) in
      let blocks = both (block_fits all room) (block_fits others room) right.1 in
      let quiet = quiet_in (p.statement line (s.If a all others)) (suc room) _ (folds.at_If (step_of owner) (λ tree. tree.form tree.line) line a all others) good in
      let condition = (expression owner a).mentions known in
      let these = block (map (statement owner) all) known in
      let those = block (map (statement owner) others) known in
      let behind = quiet_right owner condition (these ++ those) quiet in (
        record { right = right.0; quiet = quiet_left owner condition (these ++ those) quiet },
        record { right = blocks.0; quiet = quiet_left owner these those behind },
        record { right = blocks.1; quiet = quiet_right owner these those behind },
      )

  -- the condition and the block of a loop are good
  pub good_while : (line room : ℕ) (a : ExprTree) (all : List StmtTree) → IsGoodStmt owner known (suc room) (p.statement line (s.While a all)) → IsGood owner known a × IsGoodBlock owner known room all
  good_while line room a all good =
      let right = both (operators a) (block_fits all room) (right_in (p.statement line (s.While a all)) (suc room) _ (folds.at_While fits_of (λ tree. tree.form) line a all) good) in
      let quiet = quiet_in (p.statement line (s.While a all)) (suc room) _ (folds.at_While (step_of owner) (λ tree. tree.form tree.line) line a all) good in
      let condition = (expression owner a).mentions known in
      let these = block (map (statement owner) all) known in
      (record { right = right.0; quiet = quiet_left owner condition these quiet }, record { right = right.1; quiet = quiet_right owner condition these quiet })

  -- the object and the block of a `synchronized` are good
  pub good_sync : (line room : ℕ) (a : ExprTree) (all : List StmtTree) → IsGoodStmt owner known (suc room) (p.statement line (s.Sync a all)) → IsGood owner known a × IsGoodBlock owner known room all
  good_sync line room a all good =
      let right = both (operators a) (block_fits all room) (right_in (p.statement line (s.Sync a all)) (suc room) _ (folds.at_Sync fits_of (λ tree. tree.form) line a all) good) in
      let locked = on line (synchronized owner.class owner.method) ∷ [] in
      let condition = (expression owner a).mentions known in
      let these = block (map (statement owner) all) known in
      let quiet = quiet_right owner locked (condition ++ these) (quiet_in (p.statement line (s.Sync a all)) (suc room) _ (folds.at_Sync (step_of owner) (λ tree. tree.form tree.line) line a all) good) in
      (record { right = right.0; quiet = quiet_left owner condition these quiet }, record { right = right.1; quiet = quiet_right owner condition these quiet })

  -- an expression that is a statement is good
  pub good_evaluate : (line room : ℕ) (a : ExprTree) → IsGoodStmt owner known (suc room) (p.statement line (s.Eval a)) → IsGood owner known a
  good_evaluate line room a good = record {
    right = right_in (p.statement line (s.Eval a)) (suc room) _ (folds.at_Eval fits_of (λ tree. tree.form) line a) good;
    quiet = quiet_in (p.statement line (s.Eval a)) (suc room) _ (folds.at_Eval (step_of owner) (λ tree. tree.form tree.line) line a) good;
  }

  -- the object of a `wait` is good
  pub good_wait : (line room : ℕ) (a : ExprTree) → IsGoodStmt owner known (suc room) (p.statement line (s.Wait a)) → IsGood owner known a
  good_wait line room a good = record {
    right = right_in (p.statement line (s.Wait a)) (suc room) _ (folds.at_Wait fits_of (λ tree. tree.form) line a) good;
    quiet = quiet_in (p.statement line (s.Wait a)) (suc room) _ (folds.at_Wait (step_of owner) (λ tree. tree.form tree.line) line a) good;
  }

  -- the object of a timed wait and its ticks are good
  pub good_timed_wait : (line room : ℕ) (a b : ExprTree) → IsGoodStmt owner known (suc room) (p.statement line (s.TimedWait a b)) → IsGood owner known a × IsGood owner known b
  good_timed_wait line room a b good =
      let right = both (operators a) (operators b) (right_in (p.statement line (s.TimedWait a b)) (suc room) _ (folds.at_TimedWait fits_of (λ tree. tree.form) line a b) good) in
      let quiet = quiet_in (p.statement line (s.TimedWait a b)) (suc room) _ (folds.at_TimedWait (step_of owner) (λ tree. tree.form tree.line) line a b) good in (
        record { right = right.0; quiet = quiet_left owner ((expression owner a).mentions known) ((expression owner b).mentions known) quiet },
        record { right = right.1; quiet = quiet_right owner ((expression owner a).mentions known) ((expression owner b).mentions known) quiet },
      )

  -- the object of a `notify` is good
  pub good_notify : (line room : ℕ) (a : ExprTree) → IsGoodStmt owner known (suc room) (p.statement line (s.Notify a)) → IsGood owner known a
  good_notify line room a good = record {
    right = right_in (p.statement line (s.Notify a)) (suc room) _ (folds.at_Notify fits_of (λ tree. tree.form) line a) good;
    quiet = quiet_in (p.statement line (s.Notify a)) (suc room) _ (folds.at_Notify (step_of owner) (λ tree. tree.form tree.line) line a) good;
  }

  -- the object of a `notifyAll` is good
  pub good_notify_all : (line room : ℕ) (a : ExprTree) → IsGoodStmt owner known (suc room) (p.statement line (s.NotifyAll a)) → IsGood owner known a
  good_notify_all line room a good = record {
    right = right_in (p.statement line (s.NotifyAll a)) (suc room) _ (folds.at_NotifyAll fits_of (λ tree. tree.form) line a) good;
    quiet = quiet_in (p.statement line (s.NotifyAll a)) (suc room) _ (folds.at_NotifyAll (step_of owner) (λ tree. tree.form tree.line) line a) good;
  }

  -- what is printed is good
  pub good_print : (line room : ℕ) (a : ExprTree) → IsGoodStmt owner known (suc room) (p.statement line (s.Print a)) → IsGood owner known a
  good_print line room a good = record {
    right = right_in (p.statement line (s.Print a)) (suc room) _ (folds.at_Print fits_of (λ tree. tree.form) line a) good;
    quiet = quiet_in (p.statement line (s.Print a)) (suc room) _ (folds.at_Print (step_of owner) (λ tree. tree.form tree.line) line a) good;
  }

  -- what is returned is good
  pub good_answer : (line room : ℕ) (a : ExprTree) → IsGoodStmt owner known (suc room) (p.statement line (s.Return (Some a))) → IsGood owner known a
  good_answer line room a good = record {
    right = right_in (p.statement line (s.Return (Some a))) (suc room) _ (folds.at_Return fits_of (λ tree. tree.form) line (Some a)) good;
    quiet = quiet_in (p.statement line (s.Return (Some a))) (suc room) _ (folds.at_Return (step_of owner) (λ tree. tree.form tree.line) line (Some a)) good;
  }

  -- the first statement of a block and the others, which know what it names
  pub good_next : (room : ℕ) (a : StmtTree) (rest : List StmtTree) → IsGoodBlock owner known room (a ∷ rest) → IsGoodStmt owner known room a × IsGoodBlock owner ((statement owner a).names ++ known) room rest
  good_next room a rest good =
      let right = both (fits a room) (block_fits rest room) good.right in
      let here = (statement owner a).mentions known in
      let behind = block (map (statement owner) rest) ((statement owner a).names ++ known) in
      (record { right = right.0; quiet = quiet_left owner here behind good.quiet }, record { right = right.1; quiet = quiet_right owner here behind good.quiet })

  -- a statement takes a place
  takes_place : (a : StmtTree) → fits a zero ≡ false
  takes_place a = ap (λ f. f zero) (fold_out-StmtTree (ℕ → Bool) (ℕ → Bool) fits_of (λ tree. tree.form) a ∙ fold_out-StmtForm (ℕ → Bool) (ℕ → Bool) fits_of (λ tree. tree.form) (out-StmtTree a).form)

  -- where no place is left no statement is good
  pub no_place : (a : StmtTree) → IsGoodStmt owner known zero a → ⊥
  no_place a good = false≢true (sym (takes_place a) ∙ good.right)
