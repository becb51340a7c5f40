-- Where names matter in a program text: its mentions, in the order of the text.
use Rattle.std.specs.Prelude.{ℕ, ℤ, Bool, true, false, if◌then◌else◌, List, [], ◌∷◌, ◌++◌, map, flat_map, length}
use Rattle.std.specs.Prelude.{Option, Some, None}
use Rattle.dso_syntax.specs.declared.tree.Ast.{Ast}
use Rattle.dso_syntax.specs.declared.tree.Ident.{Ident}
use Rattle.dso_syntax.specs.declared.tree.Item.{Item}
use Rattle.dso_syntax.specs.declared.tree.Item.TheVariants as item
use Rattle.dso_syntax.specs.declared.tree.Member.{Member}
use Rattle.dso_syntax.specs.declared.tree.Member.TheVariants as member
use Rattle.dso_syntax.specs.declared.tree.ExprTree.{ExprTree, fold-ExprTree}
use Rattle.dso_syntax.specs.declared.tree.ExprForm.TheOpen.{ExprForm-F}
use Rattle.dso_syntax.specs.declared.tree.StmtTree.{StmtTree, fold-StmtTree}
use Rattle.dso_syntax.specs.declared.tree.StmtForm.TheOpen.{StmtForm-F}
use Rattle.dso_config_entries.specs.Words.{Word, thread_word, run_word}

-- What a text mentions at one token. The names that are known there stand beside a use.
pub data Mentioned : Type 0 where
  -- declarations: a class; a field, a static field and a method of a class; a parameter and a variable of a body
  class : Word → Mentioned
  field : Word → Mentioned
  static : Word → Mentioned
  method : Word → Mentioned
  parameter : Word → Mentioned
  variable : Word → Mentioned
  -- the word `static` before the field of a class, and the word `synchronized` in or before the method of a class
  root : Word → Word → Mentioned
  synchronized : Word → Word → Mentioned
  -- the word `thread`, and behind it the client's number
  thread : ℤ → Mentioned
  client : ℤ → Mentioned
  -- uses: a name by itself; a name before a dot and a name; a name on which a method is called; `this` outside of
  -- methods
  alone : List Word → Word → Mentioned
  dotted : List Word → Word → Word → Mentioned
  called : List Word → Word → Mentioned
  this : Mentioned
  -- the class of a new object; the method of a call, with the number of arguments; a text literal
  new : Word → Mentioned
  call : Word → ℕ → Mentioned
  text : Word → Mentioned

-- a mention and the line of its token
pub record Mention : Type 0 where
  pub line : ℕ
  pub what : Mentioned

-- something mentioned on a line
abbrev pub on : ℕ → Mentioned → Mention
on line what = record { line = line; what = what }

-- whose statements they are: a method of a class, or a thread, which counts as the method `Thread.run`
pub record Owner : Type 0 where
  pub class : Word
  pub method : Word
  pub in_thread : Bool

-- the owner of a thread's statements
abbrev pub thread_owner : Owner
thread_owner = record { class = thread_word; method = run_word; in_thread = true }

-- What an expression mentions, where these names are known; and, where it is a bare name, that name and its line.
pub record Part : Type 0 where
  pub bare : Option (ℕ × Word)
  pub mentions : List Word → List Mention

-- an expression that is no bare name
abbrev pub part : (List Word → List Mention) → Part
part mentions = record { bare = None; mentions = mentions }

-- what all of them mention, the first of them first
abbrev pub all_of : List Part → List Word → List Mention
all_of parts known = flat_map (λ one. one.mentions known) parts

-- what stands before a dot and the field of this name: a bare name there may be a class
abbrev pub qualifier_mentions : Option (ℕ × Word) → (List Word → List Mention) → Word → List Word → List Mention
qualifier_mentions None mentions name known = mentions known
qualifier_mentions (Some at) mentions name known = on at.0 (dotted known at.1 name) ∷ []

-- what a method is called on: a bare name there may be a class
abbrev pub receiver_mentions : Option (ℕ × Word) → (List Word → List Mention) → List Word → List Mention
receiver_mentions None mentions known = mentions known
receiver_mentions (Some at) mentions known = on at.0 (called known at.1) ∷ []

-- what an expression mentions, by its form
abbrev pub part_of : Owner → ExprForm-F (ℕ → Part) Part → ℕ → Part
part_of owner (ExprForm-F.Text content) line = part (λ known. on line (text content) ∷ [])
part_of owner ExprForm-F.This line = part (λ known. if owner.in_thread then on line this ∷ [] else [])
part_of owner (ExprForm-F.Name name) line =
    record { bare = Some (line, name); mentions = λ known. on line (alone known name) ∷ [] }
part_of owner (ExprForm-F.Paren a) line = part a.mentions
part_of owner (ExprForm-F.NewObject name) line = part (λ known. on name.line (new name.name) ∷ [])
part_of owner (ExprForm-F.NewArray kind a) line = part a.mentions
part_of owner (ExprForm-F.Field a name) line = part (qualifier_mentions a.bare a.mentions name.name)
part_of owner (ExprForm-F.Call a name args) line =
    part (λ known.
    receiver_mentions a.bare a.mentions known
    ++ on name.line (call name.name (length args)) ∷ all_of args known)
part_of owner (ExprForm-F.Elem a b) line = part (λ known. a.mentions known ++ b.mentions known)
part_of owner (ExprForm-F.Unary op a) line = part a.mentions
part_of owner (ExprForm-F.Binary op a b) line = part (λ known. a.mentions known ++ b.mentions known)
part_of owner other line = part (λ known. [])

-- what an expression of this owner mentions
abbrev pub expression : Owner → ExprTree → Part
expression owner = fold-ExprTree (ℕ → Part) Part (part_of owner) (λ tree. tree.form tree.line)

-- What a statement mentions, where these names are known; and the name that is known from then on in its block.
pub record Step : Type 0 where
  pub mentions : List Word → List Mention
  pub names : List Word

-- a statement that makes no name known
abbrev pub step : (List Word → List Mention) → Step
step mentions = record { mentions = mentions; names = [] }

-- what the statements of a block mention: a variable is known after its statement, up to the end of the block
abbrev pub block : List Step → List Word → List Mention
block [] known = []
block (a ∷ rest) known = a.mentions known ++ block rest (a.names ++ known)

-- what the expression of a `return` mentions
abbrev pub answer : Owner → Option ExprTree → List Word → List Mention
answer owner None known = []
answer owner (Some a) known = (expression owner a).mentions known

-- what a statement mentions, by its form
abbrev pub step_of : Owner → StmtForm-F (ℕ → Step) Step → ℕ → Step
step_of owner (StmtForm-F.Var name a) line =
    record {
      mentions = λ known. on name.line (variable name.name) ∷ (expression owner a).mentions known;
      names = name.name ∷ [];
    }
step_of owner (StmtForm-F.Assign a b) line =
    step (λ known. (expression owner a).mentions known ++ (expression owner b).mentions known)
step_of owner (StmtForm-F.Eval a) line = step (expression owner a).mentions
step_of owner (StmtForm-F.If a all others) line =
    step (λ known. (expression owner a).mentions known ++ (block all known ++ block others known))
step_of owner (StmtForm-F.While a all) line = step (λ known. (expression owner a).mentions known ++ block all known)
step_of owner (StmtForm-F.Sync a all) line =
    step (λ known.
    on line (synchronized owner.class owner.method) ∷ (expression owner a).mentions known ++ block all known)
step_of owner (StmtForm-F.Wait a) line = step (expression owner a).mentions
step_of owner (StmtForm-F.TimedWait a b) line =
    step (λ known. (expression owner a).mentions known ++ (expression owner b).mentions known)
step_of owner (StmtForm-F.Notify a) line = step (expression owner a).mentions
step_of owner (StmtForm-F.NotifyAll a) line = step (expression owner a).mentions
step_of owner (StmtForm-F.Print a) line = step (expression owner a).mentions
step_of owner (StmtForm-F.Return a) line = step (answer owner a)

-- what a statement of this owner mentions
abbrev pub statement : Owner → StmtTree → Step
statement owner = fold-StmtTree (ℕ → Step) Step (step_of owner) (λ tree. tree.form tree.line)

-- what a body mentions: its parameters, which are known in all of it, and its statements
abbrev pub body : Owner → List Ident → List StmtTree → List Mention
body owner params statements =
    map (λ name. on name.line (parameter name.name)) params
    ++ block (map (statement owner) statements) (map (λ name. name.name) params)

-- what a member of a class mentions
abbrev pub of_member : Word → Member → List Mention
of_member class' (member.Field line kind name) = on name.line (field name.name) ∷ []
of_member class' (member.Static line name) = on line (root class' name.name) ∷ on name.line (static name.name) ∷ []
of_member class' (member.Method line synced name params statements) =
    (if synced then on line (synchronized class' name.name) ∷ [] else [])
    ++ on name.line (method name.name)
    ∷ body (record { class = class'; method = name.name; in_thread = false }) params statements

-- what a class or a thread mentions
abbrev pub of_item : Item → List Mention
of_item (item.Class line name members) = on name.line (class name.name) ∷ flat_map (of_member name.name) members
of_item (item.Thread line number number_line statements) =
    on line (thread number) ∷ on number_line (client number) ∷ body thread_owner [] statements

-- what a program text mentions
abbrev pub mentions_of : Ast → List Mention
mentions_of ast = flat_map of_item ast.items
