use Rattle.std.proofs.Common.{◌≡◌, ◌+◌, length, drop, sym, ◌∙◌, ap, subst, arith, true, Ok}
use Rattle.std.specs.Option.{IfSome, option_map}
use Rattle.dso_keep.specs.Disk.{File, bytes_in}
use Rattle.dso_keep.specs.Reading.{Adds, IsBadHere, IsBehind, IsPacketAt, NoneBehind, NoneFits, StandBefore, is_open_at}
use Rattle.dso_keep.proofs.behind.Bad.{none_here, stands_on, unfit_here}
use Rattle.dso_keep.proofs.behind.Told.{both_told, each_told}
use Rattle.dso_keep.proofs.keeping.Whole.{more_whole}
use Rattle.dso_keep.proofs.reading.add_next.Goals as goal

pub returns-in_default-clause-bad : goal.returns-in_default-clause-bad
returns-in_default-clause-bad g c = λ place is.
    let file = g.D.Disk.file c.args.disk.now in
    let at = c.args.reading.now.at in
    let count = c.args.reading.now.count in
    let Open : File → Type 0 = λ f. is_open_at (drop at (bytes_in f)) ≡ true in
    let None : File → Type 0 = λ f. count ≡ length (bytes_in f) → NoneBehind (drop (at + 1) (bytes_in f)) in
    let told = subst (λ found. IsPacketAt at count (g.D.Disk.file c.is_open.new.disk) (option_map (λ packet. packet.items) found)) c.in_default.is c.in_ok-packet.ensures.packet in
    let none : IfSome file None = subst (λ told_file. IfSome told_file None) c.is_open.ensures.same told in
    let open_gate : IfSome file Open = each_told (λ f. c.in_ok-is_open.field-0 ≡ is_open_at (drop at (bytes_in f))) Open file (λ f gate. sym gate ∙ c.if-not-branch.false) c.in_ok-is_open.ensures.open in (
      cc is,
      each_told (λ f. Open f × None f) (λ f. count ≡ length (bytes_in f) → IsBadHere c.args.shape.now c.args.reading.now.kept (drop at (bytes_in f))) file
          (λ f both size. none_here c.args.shape.now c.args.reading.now.kept (bytes_in f) at both.0 (both.1 size)) (both_told Open None file open_gate none),
    )

pub returns-then-not-branch-2-clause-bad : goal.returns-then-not-branch-2-clause-bad
returns-then-not-branch-2-clause-bad g c = λ place is.
    let file = g.D.Disk.file c.args.disk.now in
    let at = c.args.reading.now.at in
    let count = c.args.reading.now.count in
    let packet = c.in-Some.packet.items in
    let Open : File → Type 0 = λ f. is_open_at (drop at (bytes_in f)) ≡ true in
    let Behind : File → Type 0 = λ f. count ≡ length (bytes_in f) → IsBehind packet (drop (at + 1) (bytes_in f)) in
    let told = subst (λ found. IsPacketAt at count (g.D.Disk.file c.is_open.new.disk) (option_map (λ packet. packet.items) found)) c.in-Some.is c.in_ok-packet.ensures.packet in
    let behind : IfSome file Behind = subst (λ told_file. IfSome told_file Behind) c.is_open.ensures.same told.2 in
    let open_gate : IfSome file Open = each_told (λ f. c.in_ok-is_open.field-0 ≡ is_open_at (drop at (bytes_in f))) Open file (λ f gate. sym gate ∙ c.if-not-branch.false) c.in_ok-is_open.ensures.open in
    let unfit : NoneFits c.args.shape.now packet c.args.reading.now.kept =
    subst (λ p. NoneFits c.args.shape.now p c.args.reading.now.kept) c.as_slice.ensures.value (c.in_ok-add.ensures.none (ap Ok c.if-not-branch-2.true)) in (
      cc is,
      each_told (λ f. Open f × Behind f) (λ f. count ≡ length (bytes_in f) → IsBadHere c.args.shape.now c.args.reading.now.kept (drop at (bytes_in f))) file
          (λ f both size. unfit_here c.args.shape.now c.args.reading.now.kept (bytes_in f) packet at both.0 (both.1 size) unfit) (both_told Open Behind file open_gate behind),
    )

pub returns-clause-whole : goal.returns-clause-whole
returns-clause-whole g c = more_whole c.args.shape.now c.as_slice.result.now c.args.reading.now.kept c.add.new.self c.requires.whole (c.in_ok-add.ensures.added (ap Ok c.if-not-branch-2.false))

pub returns-clause-added : goal.returns-clause-added
returns-clause-added g c = λ is_true.
    let file = g.D.Disk.file c.args.disk.now in
    let at = c.args.reading.now.at in
    let count = c.args.reading.now.count in
    let old = c.args.reading.now.kept in
    let new = c.add.new.self in
    let packet = c.in-Some.packet.items in
    let next = at + 5 + c.len.result in
    let Open : File → Type 0 = λ f. is_open_at (drop at (bytes_in f)) ≡ true in
    let Behind : File → Type 0 = λ f. count ≡ length (bytes_in f) → IsBehind packet (drop (at + 1) (bytes_in f)) in
    let told = subst (λ found. IsPacketAt at count (g.D.Disk.file c.is_open.new.disk) (option_map (λ packet. packet.items) found)) c.in-Some.is c.in_ok-packet.ensures.packet in
    let behind : IfSome file Behind = subst (λ told_file. IfSome told_file Behind) c.is_open.ensures.same told.2 in
    let open_gate : IfSome file Open = each_told (λ f. c.in_ok-is_open.field-0 ≡ is_open_at (drop at (bytes_in f))) Open file (λ f gate. sym gate ∙ c.if-not-branch.false) c.in_ok-is_open.ensures.open in
    let adds : Adds c.args.shape.now packet old new = subst (λ p. Adds c.args.shape.now p old new) c.as_slice.ensures.value (c.in_ok-add.ensures.added (ap Ok c.if-not-branch-2.false)) in
    let place : next ≡ at + 5 + length packet = omega (arith, c.len.ensures) in
    each_told (λ f. Open f × Behind f) (λ f. count ≡ length (bytes_in f) → StandBefore old.records.items at (bytes_in f) → StandBefore new.records.items next (bytes_in f)) file
    (λ f both size stand. stands_on c.args.shape.now (bytes_in f) packet old new at next adds place both.0 (both.1 size) stand) (both_told Open Behind file open_gate behind)
