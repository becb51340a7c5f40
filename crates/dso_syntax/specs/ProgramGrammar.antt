-- The grammar of statements, members, classes, threads and whole programs: which tokens are which tree, with which
-- room for levels of nesting.
use Rattle.std.specs.Prelude.{◌≡◌, ℕ, suc, Bool, true, false, List, [], ◌∷◌, ◌++◌, Option, Some, None, ℤ}
use Rattle.dso_base.specs.declared.value.Kind.{Kind}
use Rattle.dso_tokens.specs.declared.token.Keyword.{Keyword}
use Rattle.dso_tokens.specs.declared.token.Keyword.TheVariants as k
use Rattle.dso_tokens.specs.declared.token.Mark.TheVariants as m
use Rattle.dso_tokens.specs.declared.token.Form.TheVariants as form
use Rattle.dso_tokens.specs.declared.token.Token.{Token}
use Rattle.dso_syntax.specs.declared.tree.Ident.{Ident}
use Rattle.dso_syntax.specs.declared.tree.Ast.{Ast}
use Rattle.dso_syntax.specs.declared.tree.Item.{Item}
use Rattle.dso_syntax.specs.declared.tree.Item.TheVariants as item
use Rattle.dso_syntax.specs.declared.tree.Member.{Member}
use Rattle.dso_syntax.specs.declared.tree.Member.TheVariants as member
use Rattle.dso_syntax.specs.declared.tree.StmtTree.{StmtTree, roll-StmtTree}
use Rattle.dso_syntax.specs.declared.tree.StmtForm.{StmtForm}
use Rattle.dso_syntax.specs.declared.tree.StmtForm.TheVariants as s
use Rattle.dso_syntax.specs.declared.tree.ExprTree.{ExprTree, out-ExprTree}
use Rattle.dso_syntax.specs.declared.tree.ExprForm.{ExprForm, out-ExprForm}
use Rattle.dso_syntax.specs.declared.tree.ExprForm.TheOpen.{ExprForm-F}
use Rattle.dso_syntax.specs.Grammar.{Tokens, IsMark, IsKeyword, IsName, kind_of, line_of, Whole}

-- a statement with the line of its first token
abbrev pub statement : ℕ → StmtForm → StmtTree
statement line form = roll-StmtTree (record { line = line; form = form })

-- the statements of one word and one expression in parentheses
abbrev pub command_of : Keyword → Option (ExprTree → StmtForm)
command_of k.Notify = Some s.Notify
command_of k.NotifyAll = Some s.NotifyAll
command_of k.Print = Some s.Print
command_of word = None

-- the statements of one word, one expression in parentheses and a block
abbrev pub guarded_of : Keyword → Option (ExprTree → List StmtTree → StmtForm)
guarded_of k.While = Some s.While
guarded_of k.Synchronized = Some s.Sync
guarded_of word = None

-- what may be assigned to: a variable, a field or an element
abbrev pub is_place : ExprForm-F ExprForm ExprTree → Bool
is_place (ExprForm-F.Name name) = true
is_place (ExprForm-F.Field a name) = true
is_place (ExprForm-F.Elem a b) = true
is_place other = false

-- something in parentheses, which take a level
pub data Parenthesized {A : Type 0} (R : ℕ → Tokens → A → Type 0) : ℕ → Tokens → A → Type 0 where
  parenthesized : {room : ℕ} {ts : Tokens} {a : A} (opening closing : Token) → IsMark m.OpenParen opening
      → IsMark m.CloseParen closing →
      R room ts a → Parenthesized R (suc room) (opening ∷ ts ++ closing ∷ []) a

-- what is waited on and, behind a comma, for how many ticks at most
pub data Waited : ℕ → Tokens → StmtForm → Type 0 where
  untimed : {room : ℕ} {ts : Tokens} {a : ExprTree} → Whole room ts a → Waited room ts (s.Wait a)
  timed : {room : ℕ} {ts us : Tokens} {a b : ExprTree} (comma : Token) → IsMark m.Comma comma →
      Whole room ts a → Whole room us b → Waited room (ts ++ comma ∷ us) (s.TimedWait a b)

mutual
  -- statements in a row
  pub data Body : ℕ → Tokens → List StmtTree → Type 0 where
    done : {room : ℕ} → Body room [] []
    next : {room : ℕ} {ts us : Tokens} {a : StmtTree} {all : List StmtTree} → Statement room ts a → Body room us all
        → Body room (ts ++ us) (a ∷ all)

  -- statements in braces, which take a level
  pub data Block : ℕ → Tokens → List StmtTree → Type 0 where
    block : {room : ℕ} {ts : Tokens} {all : List StmtTree} (opening closing : Token) → IsMark m.OpenBrace opening
        → IsMark m.CloseBrace closing →
        Body room ts all → Block (suc room) (opening ∷ ts ++ closing ∷ []) all

  -- one statement, by its first tokens
  pub data Statement : ℕ → Tokens → StmtTree → Type 0 where
    variable : {room : ℕ} {ts : Tokens} {a : ExprTree} (word named equals ending : Token) (name : Ident) →
        IsKeyword k.Var word → IsName name named → IsMark m.Assign equals → IsMark m.Semicolon ending
        → Whole room ts a →
        Statement room (word ∷ named ∷ equals ∷ ts ++ ending ∷ []) (statement word.line (s.Var name a))
    assigned : {room : ℕ} {ts us : Tokens} {a b : ExprTree} (equals ending : Token) → IsMark m.Assign equals
        → IsMark m.Semicolon ending →
        Whole room ts a → is_place (out-ExprForm (out-ExprTree a).form) ≡ true → Whole room us b →
        Statement room (ts ++ (equals ∷ us ++ ending ∷ [])) (statement (line_of a) (s.Assign a b))
    evaluated : {room : ℕ} {ts : Tokens} {a : ExprTree} (ending : Token) → IsMark m.Semicolon ending →
        Whole room ts a → Statement room (ts ++ ending ∷ []) (statement (line_of a) (s.Eval a))
    conditional : {room : ℕ} {ts : Tokens} {a : StmtTree} → Conditional room ts a → Statement room ts a
    guarded : {room : ℕ} {ts us : Tokens} {a : ExprTree} {all : List StmtTree} (word : Token) (which : Keyword)
        (made : ExprTree → List StmtTree → StmtForm) →
        IsKeyword which word → guarded_of which ≡ Some made → Parenthesized Whole room ts a → Block room us all →
        Statement room (word ∷ ts ++ us) (statement word.line (made a all))
    command : {room : ℕ} {ts : Tokens} {a : ExprTree} (word ending : Token) (which : Keyword)
        (made : ExprTree → StmtForm) →
        IsKeyword which word → command_of which ≡ Some made → IsMark m.Semicolon ending
        → Parenthesized Whole room ts a →
        Statement room (word ∷ ts ++ ending ∷ []) (statement word.line (made a))
    waiting : {room : ℕ} {ts : Tokens} {form : StmtForm} (word ending : Token) → IsKeyword k.Wait word
        → IsMark m.Semicolon ending →
        Parenthesized Waited room ts form → Statement room (word ∷ ts ++ ending ∷ []) (statement word.line form)
    returned : {room : ℕ} (word ending : Token) → IsKeyword k.Return word → IsMark m.Semicolon ending →
        Statement room (word ∷ ending ∷ []) (statement word.line (s.Return None))
    returned_with : {room : ℕ} {ts : Tokens} {a : ExprTree} (word ending : Token) → IsKeyword k.Return word
        → IsMark m.Semicolon ending →
        Whole room ts a → Statement room (word ∷ ts ++ ending ∷ []) (statement word.line (s.Return (Some a)))

  -- An `if`: alone, with an `else` and a block, or with an `else` and an `if` of its own, whose word takes a level.
  pub data Conditional : ℕ → Tokens → StmtTree → Type 0 where
    alone : {room : ℕ} {ts us : Tokens} {a : ExprTree} {all : List StmtTree} (word : Token) → IsKeyword k.If word
        → Parenthesized Whole room ts a → Block room us all →
        Conditional room (word ∷ ts ++ us) (statement word.line (s.If a all []))
    otherwise : {room : ℕ} {ts us vs : Tokens} {a : ExprTree} {all others : List StmtTree} (word else' : Token)
        → IsKeyword k.If word → IsKeyword k.Else else' →
        Parenthesized Whole room ts a → Block room us all → Block room vs others →
        Conditional room (word ∷ ts ++ (us ++ else' ∷ vs)) (statement word.line (s.If a all others))
    chained : {room : ℕ} {ts us vs : Tokens} {a : ExprTree} {all : List StmtTree} {other : StmtTree}
        (word else' : Token) → IsKeyword k.If word → IsKeyword k.Else else' →
        Parenthesized Whole (suc room) ts a → Block (suc room) us all → Conditional room vs other →
        Conditional (suc room) (word ∷ ts ++ (us ++ else' ∷ vs)) (statement word.line (s.If a all (other ∷ [])))

-- the names of a method's parameters, with commas between them
pub data Names : Tokens → List Ident → Type 0 where
  last : (named : Token) (name : Ident) → IsName name named → Names (named ∷ []) (name ∷ [])
  more : {ts : Tokens} {names : List Ident} (named comma : Token) (name : Ident) → IsName name named
      → IsMark m.Comma comma → Names ts names →
      Names (named ∷ comma ∷ ts) (name ∷ names)

-- the parameters of a method, none or some
pub data Parameters : Tokens → List Ident → Type 0 where
  none : Parameters [] []
  some : {ts : Tokens} {names : List Ident} → Names ts names → Parameters ts names

-- a member of a class
pub data Declared : ℕ → Tokens → Member → Type 0 where
  field : {room : ℕ} (word named ending : Token) (which : Keyword) (this : Kind) (name : Ident) →
      IsKeyword which word → kind_of which ≡ Some this → IsName name named → IsMark m.Semicolon ending →
      Declared room (word ∷ named ∷ ending ∷ []) (member.Field word.line this name)
  static : {room : ℕ} (word made named ending : Token) (name : Ident) →
      IsKeyword k.Static word → IsKeyword k.Ref made → IsName name named → IsMark m.Semicolon ending →
      Declared room (word ∷ made ∷ named ∷ ending ∷ []) (member.Static word.line name)
  method : {room : ℕ} {ts us : Tokens} {names : List Ident} {all : List StmtTree} (named opening closing : Token)
      (name : Ident) →
      IsName name named → IsMark m.OpenParen opening → IsMark m.CloseParen closing → Parameters ts names
      → Block (suc room) us all →
      Declared (suc room) (named ∷ opening ∷ ts ++ closing ∷ us) (member.Method named.line false name names all)
  synchronized : {room : ℕ} {ts us : Tokens} {names : List Ident} {all : List StmtTree}
      (word named opening closing : Token) (name : Ident) →
      IsKeyword k.Synchronized word → IsName name named → IsMark m.OpenParen opening → IsMark m.CloseParen closing
      → Parameters ts names → Block (suc room) us all →
      Declared (suc room) (word ∷ named ∷ opening ∷ ts ++ closing ∷ us) (member.Method word.line true name names all)

-- members in a row
pub data Members : ℕ → Tokens → List Member → Type 0 where
  done : {room : ℕ} → Members room [] []
  next : {room : ℕ} {ts us : Tokens} {a : Member} {all : List Member} → Declared room ts a → Members room us all
      → Members room (ts ++ us) (a ∷ all)

-- a class, whose braces take a level, or a thread
pub data Top : ℕ → Tokens → Item → Type 0 where
  class : {room : ℕ} {ts : Tokens} {members : List Member} (word named opening closing : Token) (name : Ident) →
      IsKeyword k.Class word → IsName name named → IsMark m.OpenBrace opening → IsMark m.CloseBrace closing
      → Members room ts members →
      Top (suc room) (word ∷ named ∷ opening ∷ ts ++ closing ∷ []) (item.Class word.line name members)
  thread : {room : ℕ} {ts : Tokens} {all : List StmtTree} (word counted : Token) (number : ℤ) →
      IsKeyword k.Thread word → counted.form ≡ form.Number (Some number) → Block room ts all →
      Top room (word ∷ counted ∷ ts) (item.Thread word.line number counted.line all)

-- classes and threads in a row
pub data Tops : ℕ → Tokens → List Item → Type 0 where
  done : {room : ℕ} → Tops room [] []
  next : {room : ℕ} {ts us : Tokens} {a : Item} {all : List Item} → Top room ts a → Tops room us all
      → Tops room (ts ++ us) (a ∷ all)

-- the tokens are a program of this tree, with so many levels of nesting at most
abbrev pub IsProgram : ℕ → Tokens → Ast → Type 0
IsProgram levels tokens ast = Tops levels tokens ast.items
