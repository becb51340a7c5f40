use Rattle.std.proofs.Common.{◌-◌, ◌≡◌, ◌≤◌, length, take, sym, ap, subst, arith}
use Rattle.std.specs.Result.{IfOk}
use Rattle.dso_keep.specs.Disk.{MayLeave, bytes_after}
use Rattle.dso_keep.specs.Memory.{image_of}
use Rattle.dso_keep.specs.Tape.{changes_of, count_of}
use Rattle.dso_keep.proofs.recording.Images.{made_image, made_left, told_of}
use Rattle.dso_keep.proofs.recording.Marks.{count_of-take, within_first}
use Rattle.dso_keep.proofs.tape.Tape.image.Goals as goal

pub played-requires-clause-own : goal.played-requires-clause-own
played-requires-clause-own c =
    let count = c.len.result - (c.self.inside.pending - c.args.kept) in
    subst (λ ms. count_of (take count ms) ≤ length c.as_slice-2.result.now) (sym c.deref.ensures.value)
    (omega (arith, count_of-take count c.self.inside.marks.items, c.self.invariant.2, ap length c.as_slice-2.ensures.value))

pub played-requires-clause-within : goal.played-requires-clause-within
played-requires-clause-within c =
    let count = c.len.result - (c.self.inside.pending - c.args.kept) in
    rw c.as_slice.ensures.value
    (rw c.deref.ensures.value
    (rw c.as_slice-2.ensures.value (within_first c.self.inside.first.items c.self.inside.marks.items c.self.inside.written.items count c.self.invariant.1)))

pub returns-clause-image : goal.returns-clause-image
returns-clause-image c =
    let first = c.self.inside.first.items in
    let marks = c.self.inside.marks.items in
    let written = c.self.inside.written.items in
    let count = c.len.result - (c.self.inside.pending - c.args.kept) in
    let made : IfOk c.played.result (λ bytes. bytes.items ≡ bytes_after first (changes_of first (take count marks) written)) =
    told_of c.as_slice.result.now first c.deref.result.now marks c.as_slice-2.result.now written count c.as_slice.ensures.value c.deref.ensures.value c.as_slice-2.ensures.value c.played.result c.played.ensures in
    subst (λ view. IfOk c.played.result (λ bytes. bytes.items ≡ image_of c.args.kept view.file)) c.self.view_is
    (made_image first marks written count c.args.kept (omega (arith, c.len.ensures, c.self.invariant.3, c.self.invariant.4)) (omega (arith, c.self.invariant.4, c.self.invariant.5)) c.played.result made)

pub returns-clause-left : goal.returns-clause-left
returns-clause-left c =
    let first = c.self.inside.first.items in
    let marks = c.self.inside.marks.items in
    let written = c.self.inside.written.items in
    let count = c.len.result - (c.self.inside.pending - c.args.kept) in
    let made : IfOk c.played.result (λ bytes. bytes.items ≡ bytes_after first (changes_of first (take count marks) written)) =
    told_of c.as_slice.result.now first c.deref.result.now marks c.as_slice-2.result.now written count c.as_slice.ensures.value c.deref.ensures.value c.as_slice-2.ensures.value c.played.result c.played.ensures in
    subst (λ view. IfOk c.played.result (λ bytes. MayLeave view.file.first view.file.changes bytes.items)) c.self.view_is
    (made_left first marks written count c.args.kept (omega (arith, c.len.ensures, c.self.invariant.3, c.self.invariant.4)) (omega (arith, c.self.invariant.4, c.self.invariant.5)) c.played.result c.self.invariant.1 made)
