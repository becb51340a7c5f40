-- So may statements, and the code of a program.
use denote.RattleType.{RattleType}
use denote.Enum.Declared.{declared, row}
use denote.Hole.Fix.{holes}
use denote.Hole.FixLaws.{layer_row}
use denote.Hole.FixSend.{fix_pulls}
use denote.Model.Goals.{All, Goals, Law, send, sync}
use denote.Param.Send.{IsSend, IsSync, sendable}
use denote.Param.SendFields.{as_row_send, as_row_sync, declared_send, declared_sync, variants_send, variants_sync}
use Rattle.std.proofs.option.Option.TheSendSync as option
use Rattle.dso_base.proofs.items.Items.TheSendSync as items
use Rattle.dso_base.proofs.lock.Grade.TheSendSync as grade
use Rattle.dso_base.proofs.lock.ThreadId.TheSendSync as thread_id
use Rattle.dso_base.proofs.shape.Shape.TheSendSync as shape
use Rattle.dso_machine.proofs.branch.Branch.TheSendSync as branch
use Rattle.dso_machine.proofs.tree.FieldRef.TheSendSync as field_ref
use Rattle.dso_machine.specs.contracts.code.Code as code
use Rattle.dso_machine.specs.contracts.code.Method as method
use Rattle.dso_machine.specs.contracts.code.ThreadBody as thread_body
use Rattle.dso_machine.specs.contracts.tree.Stmt as stmt
use Rattle.dso_machine.specs.contracts.tree.Stmt.TheKnot as knot
use Rattle.dso_host.proofs.crossing.Trees.{either, expr_send, expr_sync}

-- what is shown of the statements that one holds, by both laws together
abbrev held : Goals knot.the_members
held = record { G = Law; member = λ g. knot.member-Stmt; law = λ g. g }

module _ (a b c d : RattleType) where
  parts_sync : IsSend a → IsSend b → IsSend c → IsSend d → IsSync a → IsSync b → IsSync c → IsSync d → IsSync (row (declared (knot.type-Stmt a b c d)))
  parts_sync na nb nc nd sa sb sc sd = variants_sync (knot.type-Stmt a b c d)
      (search (as_row_sync, as_row_send, sendable, expr_sync, expr_send, branch.the_sync, branch.the_send, items.the_sync, items.the_send, field_ref.the_field_sync, grade.the_field_sync, option.the_field_sync) depth 20, (search (as_row_sync, as_row_send, sendable, expr_sync, expr_send, branch.the_sync, branch.the_send, items.the_sync, items.the_send, field_ref.the_field_sync, grade.the_field_sync, option.the_field_sync) depth 20, (search (as_row_sync, as_row_send, sendable, expr_sync, expr_send, branch.the_sync, branch.the_send, items.the_sync, items.the_send, field_ref.the_field_sync, grade.the_field_sync, option.the_field_sync) depth 20, (search (as_row_sync, as_row_send, sendable, expr_sync, expr_send, branch.the_sync, branch.the_send, items.the_sync, items.the_send, field_ref.the_field_sync, grade.the_field_sync, option.the_field_sync) depth 20, (search (as_row_sync, as_row_send, sendable, expr_sync, expr_send, branch.the_sync, branch.the_send, items.the_sync, items.the_send, field_ref.the_field_sync, grade.the_field_sync, option.the_field_sync) depth 20, (search (as_row_sync, as_row_send, sendable, expr_sync, expr_send, branch.the_sync, branch.the_send, items.the_sync, items.the_send, field_ref.the_field_sync, grade.the_field_sync, option.the_field_sync) depth 20, (search (as_row_sync, as_row_send, sendable, expr_sync, expr_send, branch.the_sync, branch.the_send, items.the_sync, items.the_send, field_ref.the_field_sync, grade.the_field_sync, option.the_field_sync) depth 20, (search (as_row_sync, as_row_send, sendable, expr_sync, expr_send, branch.the_sync, branch.the_send, items.the_sync, items.the_send, field_ref.the_field_sync, grade.the_field_sync, option.the_field_sync) depth 20, (search (as_row_sync, as_row_send, sendable, expr_sync, expr_send, branch.the_sync, branch.the_send, items.the_sync, items.the_send, field_ref.the_field_sync, grade.the_field_sync, option.the_field_sync) depth 20, (search (as_row_sync, as_row_send, sendable, expr_sync, expr_send, branch.the_sync, branch.the_send, items.the_sync, items.the_send, field_ref.the_field_sync, grade.the_field_sync, option.the_field_sync) depth 20, (search (as_row_sync, as_row_send, sendable, expr_sync, expr_send, branch.the_sync, branch.the_send, items.the_sync, items.the_send, field_ref.the_field_sync, grade.the_field_sync, option.the_field_sync) depth 20, (search (as_row_sync, as_row_send, sendable, expr_sync, expr_send, branch.the_sync, branch.the_send, items.the_sync, items.the_send, field_ref.the_field_sync, grade.the_field_sync, option.the_field_sync) depth 20, (search (as_row_sync, as_row_send, sendable, expr_sync, expr_send, branch.the_sync, branch.the_send, items.the_sync, items.the_send, field_ref.the_field_sync, grade.the_field_sync, option.the_field_sync) depth 20, search (as_row_sync, as_row_send, sendable, expr_sync, expr_send, branch.the_sync, branch.the_send, items.the_sync, items.the_send, field_ref.the_field_sync, grade.the_field_sync, option.the_field_sync) depth 20)))))))))))))

  parts_send : IsSend a → IsSend b → IsSend c → IsSend d → IsSync a → IsSync b → IsSync c → IsSync d → IsSend (row (declared (knot.type-Stmt a b c d)))
  parts_send na nb nc nd sa sb sc sd = variants_send (knot.type-Stmt a b c d)
      (search (as_row_send, as_row_sync, sendable, expr_send, expr_sync, branch.the_send, branch.the_sync, items.the_send, items.the_sync, field_ref.the_field_send, grade.the_field_send, option.the_field_send) depth 20, (search (as_row_send, as_row_sync, sendable, expr_send, expr_sync, branch.the_send, branch.the_sync, items.the_send, items.the_sync, field_ref.the_field_send, grade.the_field_send, option.the_field_send) depth 20, (search (as_row_send, as_row_sync, sendable, expr_send, expr_sync, branch.the_send, branch.the_sync, items.the_send, items.the_sync, field_ref.the_field_send, grade.the_field_send, option.the_field_send) depth 20, (search (as_row_send, as_row_sync, sendable, expr_send, expr_sync, branch.the_send, branch.the_sync, items.the_send, items.the_sync, field_ref.the_field_send, grade.the_field_send, option.the_field_send) depth 20, (search (as_row_send, as_row_sync, sendable, expr_send, expr_sync, branch.the_send, branch.the_sync, items.the_send, items.the_sync, field_ref.the_field_send, grade.the_field_send, option.the_field_send) depth 20, (search (as_row_send, as_row_sync, sendable, expr_send, expr_sync, branch.the_send, branch.the_sync, items.the_send, items.the_sync, field_ref.the_field_send, grade.the_field_send, option.the_field_send) depth 20, (search (as_row_send, as_row_sync, sendable, expr_send, expr_sync, branch.the_send, branch.the_sync, items.the_send, items.the_sync, field_ref.the_field_send, grade.the_field_send, option.the_field_send) depth 20, (search (as_row_send, as_row_sync, sendable, expr_send, expr_sync, branch.the_send, branch.the_sync, items.the_send, items.the_sync, field_ref.the_field_send, grade.the_field_send, option.the_field_send) depth 20, (search (as_row_send, as_row_sync, sendable, expr_send, expr_sync, branch.the_send, branch.the_sync, items.the_send, items.the_sync, field_ref.the_field_send, grade.the_field_send, option.the_field_send) depth 20, (search (as_row_send, as_row_sync, sendable, expr_send, expr_sync, branch.the_send, branch.the_sync, items.the_send, items.the_sync, field_ref.the_field_send, grade.the_field_send, option.the_field_send) depth 20, (search (as_row_send, as_row_sync, sendable, expr_send, expr_sync, branch.the_send, branch.the_sync, items.the_send, items.the_sync, field_ref.the_field_send, grade.the_field_send, option.the_field_send) depth 20, (search (as_row_send, as_row_sync, sendable, expr_send, expr_sync, branch.the_send, branch.the_sync, items.the_send, items.the_sync, field_ref.the_field_send, grade.the_field_send, option.the_field_send) depth 20, (search (as_row_send, as_row_sync, sendable, expr_send, expr_sync, branch.the_send, branch.the_sync, items.the_send, items.the_sync, field_ref.the_field_send, grade.the_field_send, option.the_field_send) depth 20, search (as_row_send, as_row_sync, sendable, expr_send, expr_sync, branch.the_send, branch.the_sync, items.the_send, items.the_sync, field_ref.the_field_send, grade.the_field_send, option.the_field_send) depth 20)))))))))))))

hole_both : All held (holes knot.ring)
hole_both = fix_pulls knot.ring held (λ h pulls all. either (layer_row knot.ring knot.member-Stmt h)
    (parts_send _ _ _ _ (all send) (all send) (all send) (all send) (all sync) (all sync) (all sync) (all sync))
    (parts_sync _ _ _ _ (all send) (all send) (all send) (all send) (all sync) (all sync) (all sync) (all sync)))

hole_sync : IsSync stmt.the_hole
hole_sync = hole_both sync

hole_send : IsSend stmt.the_hole
hole_send = hole_both send

pub stmt_sync : IsSync stmt.the_row
stmt_sync = variants_sync stmt.enum
    (search (hole_sync, hole_send, as_row_sync, as_row_send, sendable, expr_sync, expr_send, branch.the_sync, branch.the_send, items.the_sync, items.the_send, field_ref.the_field_sync, grade.the_field_sync, option.the_field_sync) depth 20)

pub stmt_send : IsSend stmt.the_row
stmt_send = variants_send stmt.enum
    (search (hole_send, hole_sync, as_row_send, as_row_sync, sendable, expr_send, expr_sync, branch.the_send, branch.the_sync, items.the_send, items.the_sync, field_ref.the_field_send, grade.the_field_send, option.the_field_send) depth 20)

method_sync : IsSync method.the_row
method_sync = search (as_row_sync, as_row_send, sendable, declared_sync, stmt_sync, stmt_send, branch.the_sync, branch.the_send, items.the_sync, items.the_send, grade.the_field_sync, option.the_field_sync) depth 20

body_sync : IsSync thread_body.the_row
body_sync = search (as_row_sync, as_row_send, sendable, declared_sync, stmt_sync, stmt_send, branch.the_sync, branch.the_send, items.the_sync, items.the_send, thread_id.the_field_sync) depth 20

pub code_sync : IsSync code.the_row
code_sync = search (as_row_sync, sendable, declared_sync, method_sync, body_sync, items.the_sync, shape.the_field_sync) depth 20
