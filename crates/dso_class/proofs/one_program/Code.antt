-- A source without a fault stands for one code.
use Rattle.std.proofs.Common.{ℕ, ◌≡◌, ◌≢◌, ◌+◌, refl, sym, ap, ap₂, ◌∙◌, subst, unsigned_abs, Bool, true, false, Option, Some, List, [], ◌++◌, All, AllPairs, Contains}
use Rattle.std.specs.List.{AllZip}
use Rattle.std.proofs.lemmas.List.Elements.{All-contains}
use Rattle.std.proofs.lemmas.Option.{same_Some}
use Rattle.dso_base.specs.declared.lock.Grade.{Grade}
use Rattle.dso_base.specs.declared.shape.ClassShape.{ClassShape}
use Rattle.dso_base.specs.declared.shape.FieldShape.{FieldShape}
use Rattle.dso_base.specs.declared.shape.Guard.{Guard}
use Rattle.dso_base.specs.declared.shape.Guard.TheVariants as guard
use Rattle.dso_base.specs.declared.shape.Shape.{Shape}
use Rattle.dso_machine.specs.declared.code.Code.{Code}
use Rattle.dso_machine.specs.declared.code.Method.{Method}
use Rattle.dso_machine.specs.declared.code.ThreadBody.{ThreadBody}
use Rattle.dso_machine.specs.declared.tree.Stmt.{Stmt}
use Rattle.dso_syntax.specs.declared.tree.Ident.{Ident}
use Rattle.dso_syntax.specs.declared.tree.StmtTree.{StmtTree}
use Rattle.dso_config_entries.specs.Words.{Word}
use Rattle.dso_class.specs.Mentions.{Owner, thread_owner}
use Rattle.dso_class.specs.Declarations.{ClassTree, FieldTree, MethodTree, ThreadTree, classes_of, fields_of, threads_of, all_methods, all_statics, class_names}
use Rattle.dso_class.specs.Maps.{makes_map, map_shapes}
use Rattle.dso_class.specs.NameFaults.{HasNoFault}
use Rattle.dso_class.specs.Numbers.{IsNumber, MeansBlock}
use Rattle.dso_class.specs.TextProgram.{Source, roots_of, numbers_of, IsNamedLock, IsGuard, IsField, IsClass, variables_of, IsBody, IsSynced, method_owner, IsMethod, IsThread, IsCode}
use Rattle.dso_class.proofs.faultless.Text.{IsCleanText, IsCleanMethod, IsCleanThread, clean_text}
use Rattle.dso_class.proofs.gathering.Distinct.{all_statics_differ}
use Rattle.dso_class.proofs.maps.Reachable.{reachable_differ}
use Rattle.dso_class.proofs.lists.NumberedItems.{all_there}
use Rattle.dso_class.proofs.locking.LastEntry.{last_unique, autolock_unique}
use Rattle.dso_config_entries.proofs.lists.Places.{stands_there}
use Rattle.dso_class.proofs.one_program.ExpressionCode.{IsToldApart, of_three, numbered}
use Rattle.dso_class.proofs.one_program.StatementCode.{one_block}
use Rattle.dso_class.proofs.one_program.Variables.{IsNoClass, MethodIsApart, ThreadIsApart, methods_apart, threads_apart, roots_of_classes}
use Rattle.dso_class.proofs.one_program.Bodies.{zip_both, one_zip, AreAlike, one_bodies}

-- Nothing of the source is wrong, and its locks and texts differ.
pub record IsClear (source : Source) : Type 0 where
  pub no_fault : HasNoFault source.config source.ast
  pub locks_differ : AllPairs (λ one other. one ≢ other) source.locks
  pub texts_differ : AllPairs (λ one other. one ≢ other) source.texts

-- methods of which each part is one are one
one_record : (m k : Method) → m.class ≡ k.class → m.params ≡ k.params → m.vars ≡ k.vars → m.named ≡ k.named → m.synced ≡ k.synced → m.body ≡ k.body → m ≡ k
one_record m k class params vars named synced body =
    of_three {D = Method} (λ class params vars. record { class = class; params = params; vars = vars; named = m.named; synced = m.synced; body = m.body }) class params vars
    ∙ of_three {D = Method} (λ named synced body. record { class = k.class; params = k.params; vars = k.vars; named = named; synced = synced; body = body }) named synced body

module _ (source : Source) (clear : IsClear source) where
  -- the source's text is clean
  clean : IsCleanText source.config source.ast
  clean = clean_text source.config source.ast clear.no_fault

  -- the number of a lock is one
  one_lock : (name other : Word) (i j : ℕ) → IsNumber source.locks name i → IsNumber source.locks other j → name ≡ other → i ≡ j
  one_lock name other i j here there same = numbered source.locks clear.locks_differ name other i j here there same

  -- a method has one named lock
  one_named : (class method : Word) {one other : Option (ℕ × Grade)} → IsNamedLock source class method one → IsNamedLock source class method other → one ≡ other
  one_named class method (IsNamedLock.named i entry ends here) (IsNamedLock.named j found latest there) =
      let same = same_Some entry found (last_unique ends latest refl) in
      ap₂ (λ number grade. Some (roots_of source + number, grade)) (one_lock entry.name found.name i j here there (ap (λ e. e.name) same)) (ap (λ e. e.grade) same)
  one_named class method (IsNamedLock.named i entry ends here) (IsNamedLock.nothing none) = absurd (cc (last_unique ends none refl))
  one_named class method (IsNamedLock.nothing none) (IsNamedLock.named i entry ends here) = absurd (cc (last_unique none ends refl))
  one_named class method (IsNamedLock.nothing none) (IsNamedLock.nothing nor) = refl

  -- a field has one guard
  one_guard : (class field : Word) {one other : Guard} → IsGuard source class field one → IsGuard source class field other → one ≡ other
  one_guard class field (IsGuard.named i entry ends here) (IsGuard.named j found latest there) =
      let same = same_Some entry found (last_unique ends latest refl) in
      ap (λ number. guard.Name (roots_of source + number)) (one_lock entry.lock found.lock i j here there (ap (λ e. e.lock) same))
  one_guard class field (IsGuard.named i entry ends here) (IsGuard.own none) = absurd (cc (last_unique ends none refl))
  one_guard class field (IsGuard.own none) (IsGuard.named i entry ends here) = absurd (cc (last_unique none ends refl))
  one_guard class field (IsGuard.own none) (IsGuard.own nor) = refl

  -- a field has one shape
  one_field : (class : Word) (field : FieldTree) (shape other : FieldShape) → IsField source class field shape → IsField source class field other → shape ≡ other
  one_field class field shape other is too =
      ap₂ {C = FieldShape} (λ kind guarded. record { kind = kind; guard = guarded }) (is.kind ∙ sym too.kind) (one_guard class field.name is.guarded too.guarded)

  -- a class has one shape
  one_class : (class : ClassTree) (shape other : ClassShape) → IsClass source class shape → IsClass source class other → shape ≡ other
  one_class class shape other is too =
      ap {B = ClassShape} (λ fields. record { fields = fields })
      (one_zip (IsField source class.name) (λ field. Unit {0}) (λ field one two any. one_field class.name field one two)
      (fields_of class.members) shape.fields other.fields (all_there (λ field. Unit {0}) (fields_of class.members) (λ field there. tt)) is.fields too.fields)

  -- all classes have one list of shapes
  one_shape : (classes others : List ClassShape) → AllZip (IsClass source) (classes_of source.ast.items) classes → AllZip (IsClass source) (classes_of source.ast.items) others → classes ≡ others
  one_shape classes others =
      one_zip (IsClass source) (λ class. Unit {0}) (λ class one two any. one_class class one two)
      (classes_of source.ast.items) classes others (all_there (λ class. Unit {0}) (classes_of source.ast.items) (λ class there. tt))

  -- what is numbered in a body is told apart
  told_apart : (variables : List Word) (grade : Option Grade) → AllPairs (λ one other. one ≢ other) variables → All (IsNoClass source.ast) variables → IsToldApart (numbers_of source variables grade)
  told_apart variables grade differ apart = record {
    texts = clear.texts_differ;
    classes = reachable_differ source.config source.ast clean;
    roots = all_statics_differ source.config source.ast clean;
    variables = differ;
    no_class = λ class field i j root variable.
        All-contains (IsNoClass source.ast) variables class apart (stands_there variables class j variable)
        (All-contains (λ root. Contains (class_names source.ast.items) root.class) (all_statics source.ast.items) (record { class = class; field = field }) (roots_of_classes (classes_of source.ast.items))
        (stands_there (all_statics source.ast.items) (record { class = class; field = field }) i root));
  }

  -- the statements of a body are one block
  one_body : (owner : Owner) (params : List Ident) (trees : List StmtTree) (vars many : ℕ) (statements others : List Stmt) → AllPairs (λ one other. one ≢ other) (variables_of owner params trees)
      → All (IsNoClass source.ast) (variables_of owner params trees) → IsBody source owner params trees vars statements → IsBody source owner params trees many others → statements ≡ others
  one_body owner params trees vars many statements others differ apart is too =
      let variables = variables_of owner params trees in
      let grades : too.grade ≡ is.grade = autolock_unique source.config owner.class owner.method too.autolock is.autolock in
      one_block (numbers_of source variables is.grade) (told_apart variables is.grade differ apart) is.means
      (subst (λ grade. MeansBlock (numbers_of source variables grade) trees others) grades too.means) refl

  -- a method locks the monitor at one level
  one_monitor : (class method : Word) (synced : Bool) (grade other : Option Grade) → IsSynced source.config class method synced grade → IsSynced source.config class method synced other → grade ≡ other
  one_monitor class method true grade other is too = autolock_unique source.config class method is too
  one_monitor class method false grade other is too = is ∙ sym too

  -- a method is one
  one_method : (tree : MethodTree) (method other : Method) → IsCleanMethod tree × MethodIsApart source.ast tree → IsMethod source tree method → IsMethod source tree other → method ≡ other
  one_method tree method other good is too =
      one_record method other (is.of_class ∙ sym too.of_class) (is.all_params ∙ sym too.all_params) (is.statements.all_vars ∙ sym too.statements.all_vars)
      (one_named tree.class tree.name is.lock too.lock) (one_monitor tree.class tree.name tree.synced method.synced other.synced is.monitor too.monitor)
      (one_body (method_owner tree) tree.params tree.statements method.vars other.vars method.body other.body good.0.variables_differ good.1 is.statements too.statements)

  -- threads are alike
  alike : (tree : ThreadTree) (thread other : ThreadBody) → IsCleanThread source.config tree × ThreadIsApart source.ast tree → IsThread source tree thread → IsThread source tree other → AreAlike thread other
  alike tree thread other good is too = record {
    client = ap unsigned_abs (sym is.of_client ∙ too.of_client);
    vars = is.statements.all_vars ∙ sym too.statements.all_vars;
    statements = one_body thread_owner [] tree.statements thread.vars other.vars thread.body other.body good.0.statements.variables_differ good.1 is.statements too.statements;
  }

  -- what holds of all, twice
  both : {A : Type 0} (P Q : A → Type 0) (xs : List A) → All P xs → All Q xs → All (λ x. P x × Q x) xs
  both P Q xs all every k d within = (all k d within, every k d within)

  -- all methods are clean, with no variable that is called as a class
  all_good : All (λ tree. IsCleanMethod tree × MethodIsApart source.ast tree) (all_methods source.ast.items)
  all_good = both IsCleanMethod (MethodIsApart source.ast) (all_methods source.ast.items) clean.methods (methods_apart source.config source.ast clear.no_fault)

  -- so are all threads
  all_fine : All (λ tree. IsCleanThread source.config tree × ThreadIsApart source.ast tree) (threads_of source.ast.items)
  all_fine = both (IsCleanThread source.config) (ThreadIsApart source.ast) (threads_of source.ast.items) clean.threads (threads_apart source.config source.ast clear.no_fault)

  -- a source has one code
  pub one_code_of : (code other : Code) → IsCode source code → IsCode source other → code ≡ other
  one_code_of code other is too =
      let text_classes = one_shape is.shapes too.shapes is.classes too.classes in
      let classes : code.shape.classes ≡ other.shape.classes =
      is.all_classes ∙ ap (λ shapes. shapes ++ map_shapes (makes_map source.ast)) text_classes ∙ sym too.all_classes in
      let methods = one_zip (IsMethod source) (λ tree. IsCleanMethod tree × MethodIsApart source.ast tree) one_method (all_methods source.ast.items) code.methods other.methods all_good is.methods too.methods in
      let bodies =
      one_bodies code.bodies other.bodies
      (zip_both (IsThread source) (λ tree. IsCleanThread source.config tree × ThreadIsApart source.ast tree) AreAlike alike (threads_of source.ast.items) code.bodies other.bodies all_fine is.threads too.threads)
      is.counted too.counted in
      let numbers = of_three {D = Shape} (λ roots names texts. record { classes = code.shape.classes; roots = roots; names = names; texts = texts }) (is.roots ∙ sym too.roots) (is.locks ∙ sym too.locks) (is.texts ∙ sym too.texts) in
      let shapes : code.shape ≡ other.shape = numbers ∙ ap {B = Shape} (λ classes. record { classes = classes; roots = other.shape.roots; names = other.shape.names; texts = other.shape.texts }) classes in
      of_three {D = Code} (λ shape methods bodies. record { shape = shape; methods = methods; bodies = bodies }) shapes methods bodies
