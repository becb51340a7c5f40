-- What is of the grammar with some room is so with one level more.
use Rattle.std.proofs.Common.{ℕ, suc}
use Rattle.dso_syntax.specs.declared.tree.ExprTree.{ExprTree}
use Rattle.dso_syntax.specs.declared.tree.StmtTree.{StmtTree}
use Rattle.dso_syntax.specs.declared.tree.StmtForm.{StmtForm}
use Rattle.dso_syntax.specs.declared.tree.Item.{Item}
use Rattle.dso_syntax.specs.declared.tree.Member.{Member}
use Rattle.std.specs.Prelude.{List}
use Rattle.dso_syntax.specs.Grammar as g
use Rattle.dso_syntax.specs.Grammar.{Tokens, Binary, Unary, Postfix, Primary, Whole, Arguments, Listed}
use Rattle.dso_syntax.specs.ProgramGrammar as p
use Rattle.dso_syntax.specs.ProgramGrammar.{Parenthesized, Waited, Body, Block, Statement, Conditional, Declared, Members, Top, Tops}

mutual
  pub lift_binary : {rank room left : ℕ} {ts : Tokens} {a : ExprTree} → Binary rank room left ts a → Binary rank (suc room) (suc left) ts a
  lift_binary (g.operand d) = g.operand (lift_unary d)
  lift_binary (g.tighter d) = g.tighter (lift_binary d)
  lift_binary (g.operation t mark o is operator d e) = g.operation t mark o is operator (lift_binary d) (lift_binary e)

  pub lift_unary : {room left : ℕ} {ts : Tokens} {a : ExprTree} → Unary room left ts a → Unary (suc room) (suc left) ts a
  lift_unary (g.plain d) = g.plain (lift_postfix d)
  lift_unary (g.signed t mark o is sign d) = g.signed t mark o is sign (lift_unary d)

  pub lift_postfix : {room left : ℕ} {ts : Tokens} {a : ExprTree} → Postfix room left ts a → Postfix (suc room) (suc left) ts a
  lift_postfix (g.primary d) = g.primary (lift_primary d)
  lift_postfix (g.field dot named name is_dot is_name d) = g.field dot named name is_dot is_name (lift_postfix d)
  lift_postfix (g.call dot named opening closing name is_dot is_name opens closes d all) = g.call dot named opening closing name is_dot is_name opens closes (lift_postfix d) (lift_arguments all)
  lift_postfix (g.element opening closing opens closes d b) = g.element opening closing opens closes (lift_postfix d) (lift_whole b)

  pub lift_primary : {room : ℕ} {ts : Tokens} {a : ExprTree} → Primary room ts a → Primary (suc room) ts a
  lift_primary (g.single t this is) = g.single t this is
  lift_primary (g.parens opening closing opens closes d) = g.parens opening closing opens closes (lift_whole d)
  lift_primary (g.object new named opening closing name is_new is_name opens closes) = g.object new named opening closing name is_new is_name opens closes
  lift_primary (g.array new made opening closing word this is_new is_word is_kind opens closes d) = g.array new made opening closing word this is_new is_word is_kind opens closes (lift_whole d)

  pub lift_whole : {room : ℕ} {ts : Tokens} {a : ExprTree} → Whole room ts a → Whole (suc room) ts a
  lift_whole (g.whole d) = g.whole (lift_binary d)

  pub lift_arguments : {room : ℕ} {ts : Tokens} {all : List ExprTree} → Arguments room ts all → Arguments (suc room) ts all
  lift_arguments g.none = g.none
  lift_arguments (g.some d) = g.some (lift_listed d)

  pub lift_listed : {room : ℕ} {ts : Tokens} {all : List ExprTree} → Listed room ts all → Listed (suc room) ts all
  lift_listed (g.last d) = g.last (lift_whole d)
  lift_listed (g.more comma is d rest) = g.more comma is (lift_whole d) (lift_listed rest)

pub lift_asked : {room : ℕ} {ts : Tokens} {a : ExprTree} → Parenthesized Whole room ts a → Parenthesized Whole (suc room) ts a
lift_asked (p.parenthesized opening closing opens closes d) = p.parenthesized opening closing opens closes (lift_whole d)

pub lift_waited : {room : ℕ} {ts : Tokens} {form : StmtForm} → Waited room ts form → Waited (suc room) ts form
lift_waited (p.untimed d) = p.untimed (lift_whole d)
lift_waited (p.timed comma is d e) = p.timed comma is (lift_whole d) (lift_whole e)

pub lift_waiting : {room : ℕ} {ts : Tokens} {form : StmtForm} → Parenthesized Waited room ts form → Parenthesized Waited (suc room) ts form
lift_waiting (p.parenthesized opening closing opens closes d) = p.parenthesized opening closing opens closes (lift_waited d)

mutual
  pub lift_body : {room : ℕ} {ts : Tokens} {all : List StmtTree} → Body room ts all → Body (suc room) ts all
  lift_body p.done = p.done
  lift_body (p.next d rest) = p.next (lift_statement d) (lift_body rest)

  pub lift_block : {room : ℕ} {ts : Tokens} {all : List StmtTree} → Block room ts all → Block (suc room) ts all
  lift_block (p.block opening closing opens closes d) = p.block opening closing opens closes (lift_body d)

  pub lift_statement : {room : ℕ} {ts : Tokens} {a : StmtTree} → Statement room ts a → Statement (suc room) ts a
  lift_statement (p.variable word named equals ending name is is_name is_equals is_ending d) = p.variable word named equals ending name is is_name is_equals is_ending (lift_whole d)
  lift_statement (p.assigned equals ending is_equals is_ending d place e) = p.assigned equals ending is_equals is_ending (lift_whole d) place (lift_whole e)
  lift_statement (p.evaluated ending is d) = p.evaluated ending is (lift_whole d)
  lift_statement (p.conditional d) = p.conditional (lift_conditional d)
  lift_statement (p.guarded word which made is known d body) = p.guarded word which made is known (lift_asked d) (lift_block body)
  lift_statement (p.command word ending which made is known is_ending d) = p.command word ending which made is known is_ending (lift_asked d)
  lift_statement (p.waiting word ending is is_ending d) = p.waiting word ending is is_ending (lift_waiting d)
  lift_statement (p.returned word ending is is_ending) = p.returned word ending is is_ending
  lift_statement (p.returned_with word ending is is_ending d) = p.returned_with word ending is is_ending (lift_whole d)

  pub lift_conditional : {room : ℕ} {ts : Tokens} {a : StmtTree} → Conditional room ts a → Conditional (suc room) ts a
  lift_conditional (p.alone word is d body) = p.alone word is (lift_asked d) (lift_block body)
  lift_conditional (p.otherwise word else' is is_else d body other) = p.otherwise word else' is is_else (lift_asked d) (lift_block body) (lift_block other)
  lift_conditional (p.chained word else' is is_else d body other) = p.chained word else' is is_else (lift_asked d) (lift_block body) (lift_conditional other)

pub lift_declared : {room : ℕ} {ts : Tokens} {a : Member} → Declared room ts a → Declared (suc room) ts a
lift_declared (p.field word named ending which this name is known is_name is_ending) = p.field word named ending which this name is known is_name is_ending
lift_declared (p.static word made named ending name is is_made is_name is_ending) = p.static word made named ending name is is_made is_name is_ending
lift_declared (p.method named opening closing name is_name opens closes params body) = p.method named opening closing name is_name opens closes params (lift_block body)
lift_declared (p.synchronized word named opening closing name is is_name opens closes params body) = p.synchronized word named opening closing name is is_name opens closes params (lift_block body)

pub lift_members : {room : ℕ} {ts : Tokens} {all : List Member} → Members room ts all → Members (suc room) ts all
lift_members p.done = p.done
lift_members (p.next d rest) = p.next (lift_declared d) (lift_members rest)

pub lift_top : {room : ℕ} {ts : Tokens} {a : Item} → Top room ts a → Top (suc room) ts a
lift_top (p.class word named opening closing name is is_name opens closes d) = p.class word named opening closing name is is_name opens closes (lift_members d)
lift_top (p.thread word counted number is is_number body) = p.thread word counted number is is_number (lift_block body)

-- a program stays one with a level more
pub lift_tops : {room : ℕ} {ts : Tokens} {all : List Item} → Tops room ts all → Tops (suc room) ts all
lift_tops p.done = p.done
lift_tops (p.next d rest) = p.next (lift_top d) (lift_tops rest)
