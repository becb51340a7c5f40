-- Statements in numbers are sound where their trees are good: each number is of something that is there.
use Rattle.std.proofs.Common.{◌≡◌, ℕ, zero, suc, ◌<◌, false, not, refl, ap, subst, List, ◌++◌, length, Option}
use Rattle.std.proofs.lemmas.Option.{slice_get_within}
use Rattle.dso_base.specs.declared.lock.Grade.{Grade}
use Rattle.dso_map.specs.MapClass.{is_map}
use Rattle.dso_machine.specs.declared.code.Code.{Code}
use Rattle.dso_machine.specs.declared.tree.Expr.{Expr}
use Rattle.dso_machine.specs.declared.tree.Stmt.{Stmt}
use Rattle.dso_machine.specs.Sound.{Scope, AreCallees, SoundExpr, SoundExprs, SoundStmt, SoundBlock}
use Rattle.dso_syntax.specs.declared.tree.ExprTree.{ExprTree}
use Rattle.dso_syntax.specs.declared.tree.StmtTree.{StmtTree}
use Rattle.dso_syntax.specs.Grammar as g
use Rattle.dso_syntax.specs.declared.tree.ExprForm.TheVariants as e
use Rattle.dso_config_entries.specs.Words.{Word}
use Rattle.dso_class.specs.Mentions.{Owner, statement}
use Rattle.dso_class.specs.Numbers.{Numbers, MeansExpr, MeansExprs, MeansStmt, MeansBlock}
use Rattle.dso_class.specs.TextProgram.{Source, numbers_of, IsCode}
use Rattle.dso_class.proofs.grammar.GoodTrees as good
use Rattle.dso_class.proofs.grammar.GoodTrees.{IsGood, AreGood, IsGoodStmt, IsGoodBlock}
use Rattle.dso_class.proofs.soundness.Numbers.{places_sound, callees_sound, class_there, root_there, text_there}

module _ (source : Source) (code : Code) (is : IsCode source code) (no_map : (class : ℕ) → class < length is.shapes → is_map code.shape class ≡ false) (owner : Owner) (variables : List Word) (grade : Option Grade) where
  -- what the names of the body's trees are numbers in
  abbrev numbers : Numbers
  numbers = numbers_of source variables grade

  -- what its statements may name
  abbrev pub scope : Scope
  scope = record { code = code; vars = length variables; in_method = not owner.in_thread }

  -- as many arguments in numbers as in the text
  args_long : {args : List ExprTree} {all : List Expr} → MeansExprs numbers args all → length args ≡ length all
  args_long MeansExprs.none = refl
  args_long (MeansExprs.more one rest) = ap suc (args_long rest)

  mutual
    -- an expression in numbers is sound where its tree is good, and so are all of a list
    sound_expr : {tree : ExprTree} {x : Expr} (known : List Word) → MeansExpr numbers tree x → IsGood owner known tree → SoundExpr scope x
    sound_expr known MeansExpr.number fine = SoundExpr.constant tt
    sound_expr known (MeansExpr.text {i = i} {content = content} at) fine = SoundExpr.constant (text_there source code is content i at)
    sound_expr known MeansExpr.truth fine = SoundExpr.constant tt
    sound_expr known MeansExpr.null fine = SoundExpr.constant tt
    sound_expr known (MeansExpr.this {line = line}) fine = SoundExpr.this (good.good_this owner known line fine)
    sound_expr known (MeansExpr.variable {i = i} {name = name} at) fine = SoundExpr.variable (slice_get_within variables i name at)
    sound_expr known (MeansExpr.parens {line = line} {a = a} inner) fine = sound_expr known inner (good.good_paren owner known line a fine)
    sound_expr known (MeansExpr.object {i = i} {name = name} at) fine = SoundExpr.object (class_there source code is name.name i at)
    sound_expr known (MeansExpr.array {line = line} {kind = kind} {a = a} inner) fine = SoundExpr.array (sound_expr known inner (good.good_array owner known line kind a fine))
    sound_expr known (MeansExpr.root {i = i} from at) fine = SoundExpr.root (root_there source code is i at)
    sound_expr known (MeansExpr.field {line = line} {a = a} {name = name} {f = f} inner ref) fine =
        SoundExpr.field (sound_expr known inner (good.good_field owner known line a name fine)) (places_sound source code is no_map name.name f ref)
    sound_expr known (MeansExpr.element {line = line} {a = a} {c = c} inner index) fine =
        let parts = good.good_element owner known line a c fine in
        SoundExpr.element (sound_expr known inner parts.0) (sound_expr known index parts.1)
    sound_expr known (MeansExpr.call {line = line} {a = a} {name = name} {args = args} {all = all} {callees = callees} inner are rest) fine =
        let parts = good.good_call owner known line a name args fine in
        SoundExpr.call (sound_expr known inner parts.0) (subst (λ count. AreCallees code count callees) (args_long rest) (callees_sound source code is name.name (length args) callees are)) (sound_exprs known rest parts.1)
    sound_expr known (MeansExpr.unary {line = line} {o = o} {a = a} inner) fine =
        let parts = good.good_unary owner known line o a fine in
        SoundExpr.unary parts.0 (sound_expr known inner parts.1)
    sound_expr known (MeansExpr.binary {line = line} {o = o} {a = a} {c = c} inner other) fine =
        let parts = good.good_binary owner known line o a c fine in
        SoundExpr.binary parts.0 (sound_expr known inner parts.1) (sound_expr known other parts.2)

    sound_exprs : {args : List ExprTree} {all : List Expr} (known : List Word) → MeansExprs numbers args all → AreGood owner known args → SoundExprs scope all
    sound_exprs known MeansExprs.none fine = SoundExprs.none
    sound_exprs known (MeansExprs.more {a = a} {rest = rest} one others) fine =
        let parts = good.good_first owner known a rest fine in
        SoundExprs.more (sound_expr known one parts.0) (sound_exprs known others parts.1)

  mutual
    -- a statement is, and so are all of a block
    sound_stmt : {tree : StmtTree} {t : Stmt} (known : List Word) (room : ℕ) → MeansStmt numbers tree t → IsGoodStmt owner known (suc room) tree → SoundStmt scope (suc room) t
    sound_stmt known room (MeansStmt.variable {line = line} {i = i} {name = name} {a = a} at one) fine =
        SoundStmt.assign (slice_get_within variables i name.name at) (sound_expr known one (good.good_variable owner known line room name a fine))
    sound_stmt known room (MeansStmt.assign {line = line} {i = i} from {name = name} {a = a} at one) fine =
        SoundStmt.assign (slice_get_within variables i name at) (sound_expr known one (good.good_assign owner known line room (g.expression from (e.Name name)) a fine).1)
    sound_stmt known room (MeansStmt.put_root {line = line} {i = i} at from {class = class} {name = name} {a = a} numbered one) fine =
        SoundStmt.put_root (root_there source code is i numbered) (sound_expr known one (good.good_assign owner known line room (g.expression at (e.Field (g.expression from (e.Name class)) name)) a fine).1)
    sound_stmt known room (MeansStmt.put_field {line = line} at {a = a} {c = c} {name = name} {f = f} one ref other) fine =
        let parts = good.good_assign owner known line room (g.expression at (e.Field a name)) c fine in
        SoundStmt.put_field (sound_expr known one (good.good_field owner known at a name parts.0)) (places_sound source code is no_map name.name f ref) (sound_expr known other parts.1)
    sound_stmt known room (MeansStmt.put_element {line = line} at {a = a} {c = c} {g = b} one index other) fine =
        let parts = good.good_assign owner known line room (g.expression at (e.Elem a c)) b fine in
        let place = good.good_element owner known at a c parts.0 in
        SoundStmt.put_element (sound_expr known one place.0) (sound_expr known index place.1) (sound_expr known other parts.1)
    sound_stmt known room (MeansStmt.evaluate {line = line} {a = a} one) fine = SoundStmt.evaluate (sound_expr known one (good.good_evaluate owner known line room a fine))
    sound_stmt known room (MeansStmt.conditional {line = line} {a = a} {all = all} {others = others} one these those) fine =
        let parts = good.good_if owner known line room a all others fine in
        SoundStmt.conditional (sound_expr known one parts.0) (sound_block known room these parts.1) (sound_block known room those parts.2)
    sound_stmt known room (MeansStmt.loop {line = line} {a = a} {all = all} one these) fine =
        let parts = good.good_while owner known line room a all fine in
        SoundStmt.loop (sound_expr known one parts.0) (sound_block known room these parts.1)
    sound_stmt known room (MeansStmt.locked {line = line} {a = a} {all = all} one graded these) fine =
        let parts = good.good_sync owner known line room a all fine in
        SoundStmt.locked (sound_expr known one parts.0) (sound_block known room these parts.1)
    sound_stmt known room (MeansStmt.wait {line = line} {a = a} one) fine = SoundStmt.wait (sound_expr known one (good.good_wait owner known line room a fine))
    sound_stmt known room (MeansStmt.timed_wait {line = line} {a = a} {c = c} one other) fine =
        let parts = good.good_timed_wait owner known line room a c fine in
        SoundStmt.timed_wait (sound_expr known one parts.0) (sound_expr known other parts.1)
    sound_stmt known room (MeansStmt.notify {line = line} {a = a} one) fine = SoundStmt.notify (sound_expr known one (good.good_notify owner known line room a fine))
    sound_stmt known room (MeansStmt.notify_all {line = line} {a = a} one) fine = SoundStmt.notify_all (sound_expr known one (good.good_notify_all owner known line room a fine))
    sound_stmt known room (MeansStmt.print {line = line} {a = a} one) fine = SoundStmt.print (sound_expr known one (good.good_print owner known line room a fine))
    sound_stmt known room MeansStmt.leave fine = SoundStmt.leave
    sound_stmt known room (MeansStmt.answer {line = line} {a = a} one) fine = SoundStmt.answer (sound_expr known one (good.good_answer owner known line room a fine))

    pub sound_block : {trees : List StmtTree} {all : List Stmt} (known : List Word) (room : ℕ) → MeansBlock numbers trees all → IsGoodBlock owner known room trees → SoundBlock scope room all
    sound_block known room MeansBlock.done fine = SoundBlock.done
    sound_block known zero (MeansBlock.next {a = a} {rest = rest} one others) fine = absurd (good.no_place owner known a (good.good_next owner known zero a rest fine).0)
    sound_block known (suc room) (MeansBlock.next {a = a} {rest = rest} one others) fine =
        let parts = good.good_next owner known (suc room) a rest fine in
        SoundBlock.next (sound_stmt known room one parts.0) (sound_block ((statement owner a).names ++ known) (suc room) others parts.1)
