-- A statement stands for one code in numbers, where what is numbered is told apart.
use Rattle.std.proofs.Common.{◌≡◌, refl, sym, ap, ap₂, ◌∙◌, List, ◌∷◌, Some}
use Rattle.std.proofs.lemmas.Option.{same_Some}
use Rattle.dso_machine.specs.declared.tree.Stmt.{Stmt}
use Rattle.dso_machine.specs.declared.tree.Stmt.TheVariants as t
use Rattle.dso_syntax.specs.declared.tree.ExprForm.TheVariants as e
use Rattle.dso_syntax.specs.declared.tree.StmtTree.{StmtTree}
use Rattle.dso_syntax.specs.Grammar.{expression}
use Rattle.dso_class.specs.Numbers.{Numbers, MeansStmt, MeansBlock}
use Rattle.dso_class.proofs.one_program.Expressions.{name_no_field, name_no_element, field_no_element, same_name, same_field, same_element}
use Rattle.dso_class.proofs.one_program.Statements.{shape_of, same_assign, same_if, same_while, same_sync, same_timed_wait}
use Rattle.dso_class.proofs.one_program.ExpressionCode.{IsToldApart, of_three, one_expr, one_root, one_reference, class_means_nothing, numbered}

module _ (n : Numbers) (apart : IsToldApart n) where
  mutual
    -- a statement is one code
    pub one_stmt : {tree other : StmtTree} {a b : Stmt} → MeansStmt n tree a → MeansStmt n other b → tree ≡ other → a ≡ b
    one_stmt (MeansStmt.variable {i = i} {name = name} here means) (MeansStmt.variable {i = j} {name = other} there too) same =
        let called : name ≡ other = cc (ap shape_of same) in
        ap₂ t.Assign (numbered n.variables apart.variables name.name other.name i j here there (ap (λ one. one.name) called)) (one_expr n apart means too (cc (ap shape_of same)))
    one_stmt (MeansStmt.variable here means) other same = absurd (cc (ap shape_of same))
    one_stmt (MeansStmt.assign {line = line} {i = i} at {name = name} {a = a} here means) (MeansStmt.assign {line = behind} {i = j} from {name = other} {a = c} there too) same =
        let parts = same_assign line behind (expression at (e.Name name)) (expression from (e.Name other)) a c same in
        ap₂ t.Assign (numbered n.variables apart.variables name other i j here there (same_name at from name other parts.0)) (one_expr n apart means too parts.1)
    one_stmt (MeansStmt.assign {line = line} at {name = name} {a = a} here means) (MeansStmt.put_root {line = behind} put from {class = class} {name = other} {a = c} there too) same =
        absurd (name_no_field at put name (expression from (e.Name class)) other (same_assign line behind (expression at (e.Name name)) (expression put (e.Field (expression from (e.Name class)) other)) a c same).0)
    one_stmt (MeansStmt.assign {line = line} at {name = name} {a = a} here means) (MeansStmt.put_field {line = behind} put {a = c} {c = d} {name = other} on ref too) same =
        absurd (name_no_field at put name c other (same_assign line behind (expression at (e.Name name)) (expression put (e.Field c other)) a d same).0)
    one_stmt (MeansStmt.assign {line = line} at {name = name} {a = a} here means) (MeansStmt.put_element {line = behind} put {a = c} {c = d} {g = g} on index too) same =
        absurd (name_no_element at put name c d (same_assign line behind (expression at (e.Name name)) (expression put (e.Elem c d)) a g same).0)
    one_stmt (MeansStmt.assign at here means) other same = absurd (cc (ap shape_of same))
    one_stmt (MeansStmt.put_root {line = line} at from {class = class} {name = name} {a = a} here means) (MeansStmt.assign {line = behind} put {name = other} {a = c} there too) same =
        absurd (name_no_field put at other (expression from (e.Name class)) name (sym (same_assign line behind (expression at (e.Field (expression from (e.Name class)) name)) (expression put (e.Name other)) a c same).0))
    one_stmt (MeansStmt.put_root {line = line} {i = i} at from {class = class} {name = name} {a = a} here means) (MeansStmt.put_root {line = behind} {i = j} put on {class = other} {name = called} {a = c} there too) same =
        let parts = same_assign line behind (expression at (e.Field (expression from (e.Name class)) name)) (expression put (e.Field (expression on (e.Name other)) called)) a c same in
        let field = same_field at put (expression from (e.Name class)) (expression on (e.Name other)) name called parts.0 in
        ap₂ t.PutRoot (one_root n apart from on i j class other name.name called.name here there field.0 (ap (λ one. one.name) field.1)) (one_expr n apart means too parts.1)
    one_stmt (MeansStmt.put_root {line = line} {i = i} at from {class = class} {name = name} {a = a} here means) (MeansStmt.put_field {line = behind} put {a = c} {c = d} {name = called} on ref too) same =
        let parts = same_assign line behind (expression at (e.Field (expression from (e.Name class)) name)) (expression put (e.Field c called)) a d same in
        absurd (class_means_nothing n apart from i class name.name on (same_field at put (expression from (e.Name class)) c name called parts.0).0 here)
    one_stmt (MeansStmt.put_root {line = line} at from {class = class} {name = name} {a = a} here means) (MeansStmt.put_element {line = behind} put {a = c} {c = d} {g = g} on index too) same =
        absurd (field_no_element at put (expression from (e.Name class)) name c d (same_assign line behind (expression at (e.Field (expression from (e.Name class)) name)) (expression put (e.Elem c d)) a g same).0)
    one_stmt (MeansStmt.put_root at from here means) other same = absurd (cc (ap shape_of same))
    one_stmt (MeansStmt.put_field {line = line} at {a = a} {c = c} {name = name} on ref means) (MeansStmt.assign {line = behind} put {name = other} {a = d} there too) same =
        absurd (name_no_field put at other a name (sym (same_assign line behind (expression at (e.Field a name)) (expression put (e.Name other)) c d same).0))
    one_stmt (MeansStmt.put_field {line = line} at {a = a} {c = c} {name = name} on ref means) (MeansStmt.put_root {line = behind} {i = i} put from {class = class} {name = called} {a = d} there too) same =
        let parts = same_assign line behind (expression at (e.Field a name)) (expression put (e.Field (expression from (e.Name class)) called)) c d same in
        absurd (class_means_nothing n apart from i class called.name on (sym (same_field at put a (expression from (e.Name class)) name called parts.0).0) there)
    one_stmt (MeansStmt.put_field {line = line} at {a = a} {c = c} {name = name} {f = f} on ref means) (MeansStmt.put_field {line = behind} put {a = d} {c = g} {name = called} {f = h} of other too) same =
        let parts = same_assign line behind (expression at (e.Field a name)) (expression put (e.Field d called)) c g same in
        let field = same_field at put a d name called parts.0 in
        let reference = one_reference n.fields name.name called.name f h ref other (ap (λ one. one.name) field.1) in
        of_three t.PutField (one_expr n apart on of field.0) reference (one_expr n apart means too parts.1)
    one_stmt (MeansStmt.put_field {line = line} at {a = a} {c = c} {name = name} on ref means) (MeansStmt.put_element {line = behind} put {a = d} {c = g} {g = h} of index too) same =
        absurd (field_no_element at put a name d g (same_assign line behind (expression at (e.Field a name)) (expression put (e.Elem d g)) c h same).0)
    one_stmt (MeansStmt.put_field at on ref means) other same = absurd (cc (ap shape_of same))
    one_stmt (MeansStmt.put_element {line = line} at {a = a} {c = c} {g = g} on index means) (MeansStmt.assign {line = behind} put {name = other} {a = d} there too) same =
        absurd (name_no_element put at other a c (sym (same_assign line behind (expression at (e.Elem a c)) (expression put (e.Name other)) g d same).0))
    one_stmt (MeansStmt.put_element {line = line} at {a = a} {c = c} {g = g} on index means) (MeansStmt.put_root {line = behind} put from {class = class} {name = called} {a = d} there too) same =
        absurd (field_no_element put at (expression from (e.Name class)) called a c (sym (same_assign line behind (expression at (e.Elem a c)) (expression put (e.Field (expression from (e.Name class)) called)) g d same).0))
    one_stmt (MeansStmt.put_element {line = line} at {a = a} {c = c} {g = g} on index means) (MeansStmt.put_field {line = behind} put {a = d} {c = h} {name = called} of ref too) same =
        absurd (field_no_element put at d called a c (sym (same_assign line behind (expression at (e.Elem a c)) (expression put (e.Field d called)) g h same).0))
    one_stmt (MeansStmt.put_element {line = line} at {a = a} {c = c} {g = g} on index means) (MeansStmt.put_element {line = behind} put {a = d} {c = f} {g = h} of other too) same =
        let parts = same_assign line behind (expression at (e.Elem a c)) (expression put (e.Elem d f)) g h same in
        let element = same_element at put a d c f parts.0 in
        of_three t.PutElem (one_expr n apart on of element.0) (one_expr n apart index other element.1) (one_expr n apart means too parts.1)
    one_stmt (MeansStmt.put_element at on index means) other same = absurd (cc (ap shape_of same))
    one_stmt (MeansStmt.evaluate means) (MeansStmt.evaluate too) same = ap t.Eval (one_expr n apart means too (cc (ap shape_of same)))
    one_stmt (MeansStmt.evaluate means) other same = absurd (cc (ap shape_of same))
    one_stmt (MeansStmt.conditional {line = line} {a = a} {all = all} {others = others} means these those) (MeansStmt.conditional {line = at} {a = c} {all = every} {others = rest} too there behind) same =
        let parts = same_if line at a c all every others rest same in
        of_three t.If (one_expr n apart means too parts.0) (one_block these there parts.1) (one_block those behind parts.2)
    one_stmt (MeansStmt.conditional means these those) other same = absurd (cc (ap shape_of same))
    one_stmt (MeansStmt.loop {line = line} {a = a} {all = all} means these) (MeansStmt.loop {line = at} {a = c} {all = every} too there) same =
        let parts = same_while line at a c all every same in
        ap₂ t.While (one_expr n apart means too parts.0) (one_block these there parts.1)
    one_stmt (MeansStmt.loop means these) other same = absurd (cc (ap shape_of same))
    one_stmt (MeansStmt.locked {line = line} {a = a} {grade = grade} {all = all} means graded these) (MeansStmt.locked {line = at} {a = c} {grade = other} {all = every} too given there) same =
        let parts = same_sync line at a c all every same in
        let level = same_Some grade other (sym graded ∙ given) in
        of_three t.Sync (one_expr n apart means too parts.0) level (one_block these there parts.1)
    one_stmt (MeansStmt.locked means graded these) other same = absurd (cc (ap shape_of same))
    one_stmt (MeansStmt.wait means) (MeansStmt.wait too) same = ap t.Wait (one_expr n apart means too (cc (ap shape_of same)))
    one_stmt (MeansStmt.wait means) other same = absurd (cc (ap shape_of same))
    one_stmt (MeansStmt.timed_wait {line = line} {a = a} {c = c} means ticks) (MeansStmt.timed_wait {line = at} {a = d} {c = f} too others) same =
        let parts = same_timed_wait line at a d c f same in
        ap₂ t.TimedWait (one_expr n apart means too parts.0) (one_expr n apart ticks others parts.1)
    one_stmt (MeansStmt.timed_wait means ticks) other same = absurd (cc (ap shape_of same))
    one_stmt (MeansStmt.notify means) (MeansStmt.notify too) same = ap t.Notify (one_expr n apart means too (cc (ap shape_of same)))
    one_stmt (MeansStmt.notify means) other same = absurd (cc (ap shape_of same))
    one_stmt (MeansStmt.notify_all means) (MeansStmt.notify_all too) same = ap t.NotifyAll (one_expr n apart means too (cc (ap shape_of same)))
    one_stmt (MeansStmt.notify_all means) other same = absurd (cc (ap shape_of same))
    one_stmt (MeansStmt.print means) (MeansStmt.print too) same = ap t.Print (one_expr n apart means too (cc (ap shape_of same)))
    one_stmt (MeansStmt.print means) other same = absurd (cc (ap shape_of same))
    one_stmt MeansStmt.leave MeansStmt.leave same = refl
    one_stmt MeansStmt.leave other same = absurd (cc (ap shape_of same))
    one_stmt (MeansStmt.answer means) (MeansStmt.answer too) same = ap (λ given. t.Return (Some given)) (one_expr n apart means too (cc (ap shape_of same)))
    one_stmt (MeansStmt.answer means) other same = absurd (cc (ap shape_of same))

    -- and so is a block
    pub one_block : {trees others : List StmtTree} {all those : List Stmt} → MeansBlock n trees all → MeansBlock n others those → trees ≡ others → all ≡ those
    one_block MeansBlock.done MeansBlock.done same = refl
    one_block MeansBlock.done (MeansBlock.next one rest) same = absurd (cc same)
    one_block (MeansBlock.next one rest) MeansBlock.done same = absurd (cc same)
    one_block (MeansBlock.next one rest) (MeansBlock.next other those) same = ap₂ (λ first later. first ∷ later) (one_stmt one other (cc same)) (one_block rest those (cc same))
