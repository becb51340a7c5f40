-- No variable of a text without a fault is called as a class.
use Rattle.std.proofs.Common.{◌≡◌, ℕ, suc, refl, sym, subst, inl, inr, if◌then◌else◌, List, [], ◌∷◌, map, flat_map, Option, Some, None, All, Contains}
use Rattle.std.specs.List.{cons_option}
use Rattle.std.proofs.lemmas.List.Elements.{All-nil, All-cons, All-append, All-head, All-tail, All-weaker, Contains-append_left, Contains-append_right, Contains-push}
use Rattle.dso_config.specs.declared.config.Config.{Config}
use Rattle.dso_config.specs.declared.config.RootEntry.{RootEntry}
use Rattle.dso_syntax.specs.declared.tree.Ast.{Ast}
use Rattle.dso_syntax.specs.declared.tree.Item.{Item}
use Rattle.dso_syntax.specs.declared.tree.Item.TheVariants as item
use Rattle.dso_syntax.specs.declared.tree.Member.{Member}
use Rattle.dso_syntax.specs.declared.tree.Member.TheVariants as member
use Rattle.dso_class.specs.declared.fault.NameKind.TheVariants as kind
use Rattle.dso_config_entries.specs.Words.{Word}
use Rattle.dso_class.specs.Mentions.{Mention, on, thread_owner, of_member, of_item, body}
use Rattle.dso_class.specs.Mentions as mention
use Rattle.dso_class.specs.PrecedingMentions.{in_text, variable_in}
use Rattle.dso_class.specs.Declarations.{ClassTree, MethodTree, ThreadTree, classes_of, methods_of, methods_from, statics_of, threads_of, all_methods}
use Rattle.dso_class.specs.NameFaults.{IsClass, HasNoFault, variable_twice}
use Rattle.dso_class.specs.FaultsAmong.{AreFine}
use Rattle.dso_class.specs.TextProgram.{method_owner, variables_of}
use Rattle.dso_class.proofs.gathering.Distinct.{class_of_statics}
use Rattle.dso_class.proofs.mentions.Fine.{fine_text}
use Rattle.dso_class.proofs.lists.SideBySide.{All-left, All-right}

-- ---- mentions and bodies

module _ (P : Mention → Type 0) where
  -- it holds of all mentions of the method's body
  abbrev pub OfMethod : MethodTree → Type 0
  OfMethod tree = All P (body (method_owner tree) tree.params tree.statements)

  -- it holds of all mentions of the thread's body
  abbrev pub OfThread : ThreadTree → Type 0
  OfThread tree = All P (body thread_owner [] tree.statements)

  -- what holds of all mentions of a class holds of those of its methods
  of_methods : (number : ℕ) (name : Word) (members : List Member) → All P (flat_map (of_member name) members) → All OfMethod (methods_of number name members)
  of_methods number name [] all = All-nil OfMethod
  of_methods number name (member.Field line kind own ∷ rest) all = of_methods number name rest (All-right P (of_member name (member.Field line kind own)) (flat_map (of_member name) rest) all)
  of_methods number name (member.Static line own ∷ rest) all = of_methods number name rest (All-right P (of_member name (member.Static line own)) (flat_map (of_member name) rest) all)
  of_methods number name (member.Method line synced own params statements ∷ rest) all =
      let tree : MethodTree = record { number = number; class = name; synced = synced; name = own.name; params = params; statements = statements } in
      let front : List Mention = if synced then on line (mention.synchronized name own.name) ∷ [] else [] in
      let inner = body (method_owner tree) params statements in
      let here = All-left P (of_member name (member.Method line synced own params statements)) (flat_map (of_member name) rest) all in
      All-cons OfMethod tree (methods_of number name rest)
      (All-tail P (on own.line (mention.method own.name)) inner (All-right P front (on own.line (mention.method own.name) ∷ inner) here))
      (of_methods number name rest (All-right P (of_member name (member.Method line synced own params statements)) (flat_map (of_member name) rest) all))

  -- what holds of all mentions holds of those of all methods
  pub of_all_methods : (number : ℕ) (items : List Item) → All P (flat_map of_item items) → All OfMethod (methods_from number (classes_of items))
  of_all_methods number [] all = All-nil OfMethod
  of_all_methods number (item.Class line name members ∷ rest) all =
      let here = All-left P (of_item (item.Class line name members)) (flat_map of_item rest) all in
      All-append OfMethod (methods_of number name.name members) (methods_from (suc number) (classes_of rest))
      (of_methods number name.name members (All-tail P (on name.line (mention.class name.name)) (flat_map (of_member name.name) members) here))
      (of_all_methods (suc number) rest (All-right P (of_item (item.Class line name members)) (flat_map of_item rest) all))
  of_all_methods number (item.Thread line client client_line statements ∷ rest) all =
      of_all_methods number rest (All-right P (of_item (item.Thread line client client_line statements)) (flat_map of_item rest) all)

  -- and of those of all threads
  pub of_all_threads : (items : List Item) → All P (flat_map of_item items) → All OfThread (threads_of items)
  of_all_threads [] all = All-nil OfThread
  of_all_threads (item.Class line name members ∷ rest) all = of_all_threads rest (All-right P (of_item (item.Class line name members)) (flat_map of_item rest) all)
  of_all_threads (item.Thread line client client_line statements ∷ rest) all =
      let inner = body thread_owner [] statements in
      let at = on line (mention.thread client) in
      let here = on client_line (mention.client client) in
      let front = All-left P (of_item (item.Thread line client client_line statements)) (flat_map of_item rest) all in
      All-cons OfThread (record { client = client; statements = statements }) (threads_of rest)
      (All-tail P here inner (All-tail P at (here ∷ inner) front))
      (of_all_threads rest (All-right P (of_item (item.Thread line client client_line statements)) (flat_map of_item rest) all))

-- ---- variables and classes

-- no class has the name
abbrev pub IsNoClass : Ast → Word → Type 0
IsNoClass ast name = IsClass ast name → ⊥

-- what is mentioned declares no variable that is called as a class
abbrev pub TakesNoClass : Ast → Mention → Type 0
TakesNoClass ast here = (name : Word) → variable_in here.what ≡ Some name → IsNoClass ast name

-- mentions without a fault declare no such variable
no_class : (config : Config) (ast : Ast) (before ms : List Mention) → AreFine config ast before ms → All (TakesNoClass ast) ms
no_class config ast before [] fine = All-nil (TakesNoClass ast)
no_class config ast before (m ∷ rest) fine =
    All-cons (TakesNoClass ast) m rest (λ name is there. fine.0 kind.Twice (variable_twice is (inr (inl there)))) (no_class config ast (m ∷ before) rest fine.1)

-- one variable more, or none
variable_more : (ast : Ast) (found : Option Word) (rest : List Word) → ((name : Word) → found ≡ Some name → IsNoClass ast name) → All (IsNoClass ast) rest → All (IsNoClass ast) (cons_option found rest)
variable_more ast None rest here later = later
variable_more ast (Some name) rest here later = All-cons (IsNoClass ast) name rest (here name refl) later

-- the variables of such mentions are no classes
variables_apart : (ast : Ast) (ms : List Mention) → All (TakesNoClass ast) ms → All (IsNoClass ast) (in_text variable_in ms)
variables_apart ast [] all = All-nil (IsNoClass ast)
variables_apart ast (m ∷ rest) all =
    variable_more ast (variable_in m.what) (in_text variable_in rest) (All-head (TakesNoClass ast) m rest all) (variables_apart ast rest (All-tail (TakesNoClass ast) m rest all))

-- the variables of a method are no classes
abbrev pub MethodIsApart : Ast → MethodTree → Type 0
MethodIsApart ast tree = All (IsNoClass ast) (variables_of (method_owner tree) tree.params tree.statements)

-- the variables of a thread are no classes
abbrev pub ThreadIsApart : Ast → ThreadTree → Type 0
ThreadIsApart ast tree = All (IsNoClass ast) (variables_of thread_owner [] tree.statements)

-- no variable of a method is called as a class, in a text without a fault
pub methods_apart : (config : Config) (ast : Ast) → HasNoFault config ast → All (MethodIsApart ast) (all_methods ast.items)
methods_apart config ast clean =
    All-weaker (OfMethod (TakesNoClass ast)) (MethodIsApart ast) (λ tree. variables_apart ast (body (method_owner tree) tree.params tree.statements)) (all_methods ast.items)
    (of_all_methods (TakesNoClass ast) 0 ast.items (no_class config ast [] (flat_map of_item ast.items) (fine_text config ast clean)))

-- and of all its threads
pub threads_apart : (config : Config) (ast : Ast) → HasNoFault config ast → All (ThreadIsApart ast) (threads_of ast.items)
threads_apart config ast clean =
    All-weaker (OfThread (TakesNoClass ast)) (ThreadIsApart ast) (λ tree. variables_apart ast (body thread_owner [] tree.statements)) (threads_of ast.items)
    (of_all_threads (TakesNoClass ast) ast.items (no_class config ast [] (flat_map of_item ast.items) (fine_text config ast clean)))

-- the classes of static fields are classes
pub roots_of_classes : (classes : List ClassTree) → All (λ root. Contains (map (λ class. class.name) classes) root.class) (flat_map (λ class. statics_of class.name class.members) classes)
roots_of_classes [] = All-nil (λ (root : RootEntry). Contains [] root.class)
roots_of_classes (class ∷ rest) =
    let names = map (λ class. class.name) rest in
    let IsThere = λ (root : RootEntry). Contains (class.name ∷ names) root.class in
    All-append IsThere (statics_of class.name class.members) (flat_map (λ class. statics_of class.name class.members) rest)
    (All-weaker (λ root. root.class ≡ class.name) IsThere (λ root same. subst (Contains (class.name ∷ names)) (sym same) (Contains-append_left (class.name ∷ []) names class.name (Contains-push [] class.name)))
    (statics_of class.name class.members) (class_of_statics class.name class.members))
    (All-weaker (λ root. Contains names root.class) IsThere (λ root there. Contains-append_right (class.name ∷ []) names root.class there)
    (flat_map (λ class. statics_of class.name class.members) rest) (roots_of_classes rest))
