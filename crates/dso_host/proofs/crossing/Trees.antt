-- Trees of code may cross from one thread of the process to another: each holds trees of its kind, which are smaller. Several
-- may hold one, so a tree may go to another thread only where it may be looked at from several, and the other way round.
use mathlib.Core.Path.{subst}
use denote.RattleType.{RattleType}
use denote.Enum.Declared.{declared, row}
use denote.Hole.Fix.{holes}
use denote.Hole.FixLaws.{layer_row}
use denote.Hole.FixSend.{fix_pulls}
use denote.Model.Goals.{All, Goals, Has, Law, send, sync}
use denote.Param.Send.{Common, IsSend, IsSync, sendable}
use denote.Param.SendFields.{as_row_send, as_row_sync, variants_send, variants_sync}
use denote.Struct.Tuple.{Tuple}
use denote.Struct.Field.{row_field}
use denote.Hole.{as_row}
use denote.Builtin.{u32}
use mathlib.Core.List.{[], ◌∷◌}
use Rattle.dso_base.specs.contracts.items.Items as list_of
use Rattle.dso_machine.specs.contracts.branch.Branch as branch_of
use Rattle.dso_base.proofs.items.Items.TheSendSync as items
use Rattle.dso_base.proofs.op.Op.TheSendSync as op
use Rattle.dso_base.proofs.value.Value.TheSendSync as value
use Rattle.dso_base.proofs.value.Kind.TheSendSync as kind
use Rattle.dso_machine.proofs.branch.Branch.TheSendSync as branch
use Rattle.dso_machine.proofs.tree.FieldRef.TheSendSync as field_ref
use Rattle.dso_machine.specs.contracts.tree.Expr as expr
use Rattle.dso_machine.specs.contracts.tree.Expr.TheKnot as knot

-- what is shown of the expressions that one holds, by both laws together
abbrev held : Goals knot.the_members
held = record { G = Law; member = λ g. knot.member-Expr; law = λ g. g }

-- a row that has both laws has each
pub either : (R : RattleType) → IsSend R → IsSync R → (l : Law) → Has l R
either R s y send = s
either R s y sync = y

abbrev pub pairs : RattleType
pairs = Tuple (u32 ∷ u32 ∷ [])

abbrev pub listed : RattleType
listed = list_of.the_row (as_row (row_field pairs))

pairs_sync : IsSync pairs
pairs_sync = search sendable depth 20

pairs_send : IsSend pairs
pairs_send = search sendable depth 20

abbrev pub places : RattleType
places = branch_of.the_row (as_row (row_field listed))

listed_sync : IsSync listed
listed_sync = items.the_sync (as_row (row_field pairs)) (as_row_sync (row_field pairs) pairs_sync)

listed_send : IsSend listed
listed_send = items.the_send (as_row (row_field pairs)) (as_row_send (row_field pairs) pairs_send)

pub places_sync : IsSync places
places_sync = branch.the_sync (as_row (row_field listed)) (as_row_send (row_field listed) listed_send) (as_row_sync (row_field listed) listed_sync)

pub places_send : IsSend places
places_send = branch.the_send (as_row (row_field listed)) (as_row_send (row_field listed) listed_send) (as_row_sync (row_field listed) listed_sync)

module _ (a b c d e f g i j : RattleType) where
  parts_sync : IsSend a → IsSend b → IsSend c → IsSend d → IsSend e → IsSend f → IsSend g → IsSend i → IsSend j
      → IsSync a → IsSync b → IsSync c → IsSync d → IsSync e → IsSync f → IsSync g → IsSync i → IsSync j → IsSync (row (declared (knot.type-Expr a b c d e f g i j)))
  parts_sync na nb nc nd ne nf ng ni nj sa sb sc sd se sf sg si sj = variants_sync (knot.type-Expr a b c d e f g i j)
      (search (as_row_sync, sendable, branch.the_sync, branch.the_send, as_row_send, items.the_sync, items.the_send, field_ref.the_field_sync, kind.the_field_sync, op.the_field_sync, value.the_field_sync) depth 20, (search (as_row_sync, sendable, branch.the_sync, branch.the_send, as_row_send, items.the_sync, items.the_send, field_ref.the_field_sync, kind.the_field_sync, op.the_field_sync, value.the_field_sync) depth 20, (search (as_row_sync, sendable, branch.the_sync, branch.the_send, as_row_send, items.the_sync, items.the_send, field_ref.the_field_sync, kind.the_field_sync, op.the_field_sync, value.the_field_sync) depth 20, (search (as_row_sync, sendable, branch.the_sync, branch.the_send, as_row_send, items.the_sync, items.the_send, field_ref.the_field_sync, kind.the_field_sync, op.the_field_sync, value.the_field_sync) depth 20, (search (as_row_sync, sendable, branch.the_sync, branch.the_send, as_row_send, items.the_sync, items.the_send, field_ref.the_field_sync, kind.the_field_sync, op.the_field_sync, value.the_field_sync) depth 20, (search (as_row_sync, sendable, branch.the_sync, branch.the_send, as_row_send, items.the_sync, items.the_send, field_ref.the_field_sync, kind.the_field_sync, op.the_field_sync, value.the_field_sync) depth 20, ((search (as_row_sync, sendable, branch.the_sync, branch.the_send, as_row_send, items.the_sync, items.the_send, field_ref.the_field_sync, kind.the_field_sync, op.the_field_sync, value.the_field_sync) depth 20, (as_row_sync (row_field (as_row (row_field places))) (as_row_sync (row_field places) places_sync), search (as_row_sync, sendable, branch.the_sync, branch.the_send, as_row_send, items.the_sync, items.the_send, field_ref.the_field_sync, kind.the_field_sync, op.the_field_sync, value.the_field_sync) depth 20)), search (as_row_sync, sendable, branch.the_sync, branch.the_send, as_row_send, items.the_sync, items.the_send, field_ref.the_field_sync, kind.the_field_sync, op.the_field_sync, value.the_field_sync) depth 20)))))))

  parts_send : IsSend a → IsSend b → IsSend c → IsSend d → IsSend e → IsSend f → IsSend g → IsSend i → IsSend j
      → IsSync a → IsSync b → IsSync c → IsSync d → IsSync e → IsSync f → IsSync g → IsSync i → IsSync j → IsSend (row (declared (knot.type-Expr a b c d e f g i j)))
  parts_send na nb nc nd ne nf ng ni nj sa sb sc sd se sf sg si sj = variants_send (knot.type-Expr a b c d e f g i j)
      (search (as_row_send, sendable, branch.the_send, branch.the_sync, as_row_sync, items.the_send, items.the_sync, field_ref.the_field_send, kind.the_field_send, op.the_field_send, value.the_field_send) depth 20, (search (as_row_send, sendable, branch.the_send, branch.the_sync, as_row_sync, items.the_send, items.the_sync, field_ref.the_field_send, kind.the_field_send, op.the_field_send, value.the_field_send) depth 20, (search (as_row_send, sendable, branch.the_send, branch.the_sync, as_row_sync, items.the_send, items.the_sync, field_ref.the_field_send, kind.the_field_send, op.the_field_send, value.the_field_send) depth 20, (search (as_row_send, sendable, branch.the_send, branch.the_sync, as_row_sync, items.the_send, items.the_sync, field_ref.the_field_send, kind.the_field_send, op.the_field_send, value.the_field_send) depth 20, (search (as_row_send, sendable, branch.the_send, branch.the_sync, as_row_sync, items.the_send, items.the_sync, field_ref.the_field_send, kind.the_field_send, op.the_field_send, value.the_field_send) depth 20, (search (as_row_send, sendable, branch.the_send, branch.the_sync, as_row_sync, items.the_send, items.the_sync, field_ref.the_field_send, kind.the_field_send, op.the_field_send, value.the_field_send) depth 20, ((search (as_row_send, sendable, branch.the_send, branch.the_sync, as_row_sync, items.the_send, items.the_sync, field_ref.the_field_send, kind.the_field_send, op.the_field_send, value.the_field_send) depth 20, (as_row_send (row_field (as_row (row_field places))) (as_row_send (row_field places) places_send), search (as_row_send, sendable, branch.the_send, branch.the_sync, as_row_sync, items.the_send, items.the_sync, field_ref.the_field_send, kind.the_field_send, op.the_field_send, value.the_field_send) depth 20)), search (as_row_send, sendable, branch.the_send, branch.the_sync, as_row_sync, items.the_send, items.the_sync, field_ref.the_field_send, kind.the_field_send, op.the_field_send, value.the_field_send) depth 20)))))))

hole_both : All held (holes knot.ring)
hole_both = fix_pulls knot.ring held (λ h pulls all. either (layer_row knot.ring knot.member-Expr h)
    (parts_send _ _ _ _ _ _ _ _ _ (all send) (all send) (all send) (all send) (all send) (all send) (all send) (all send) (all send)
    (all sync) (all sync) (all sync) (all sync) (all sync) (all sync) (all sync) (all sync) (all sync))
    (parts_sync _ _ _ _ _ _ _ _ _ (all send) (all send) (all send) (all send) (all send) (all send) (all send) (all send) (all send)
    (all sync) (all sync) (all sync) (all sync) (all sync) (all sync) (all sync) (all sync) (all sync)))

pub expr_sync : IsSync expr.the_row
expr_sync = record { shared = λ x b o. subst (λ shares. Common (shares b o)) (expr.shr_is x) ((hole_both sync).shared x b o) }

its_send : IsSend expr.the_hole
its_send = hole_both send

its_sync : IsSync expr.the_hole
its_sync = hole_both sync

pub expr_send : IsSend expr.the_row
expr_send = variants_send expr.enum
    (search (its_send, its_sync, as_row_send, as_row_sync, sendable, branch.the_send, branch.the_sync, items.the_send, items.the_sync, field_ref.the_field_send, kind.the_field_send, op.the_field_send, value.the_field_send) depth 20)
