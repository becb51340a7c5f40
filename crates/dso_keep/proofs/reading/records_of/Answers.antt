use Rattle.std.proofs.Common.{◌≡◌, length, drop, sym, ◌∙◌, ap, subst, arith, rules, Ok}
use Rattle.std.specs.Option.{IfSome}
use Rattle.dso_keep.specs.Disk.{File, bytes_in}
use Rattle.dso_keep.specs.Packets.{IsShut}
use Rattle.dso_keep.specs.Reading.{IsBadHere, StandBefore}
use Rattle.dso_keep.specs.Records.{IsBadAt, Reopens}
use Rattle.dso_keep.proofs.behind.Bad.{all_read, bad_at}
use Rattle.dso_keep.proofs.behind.Told.{both_told, each_told}
use Rattle.dso_keep.proofs.reading.records_of.Goals as goal

pub returns-in_err-add_next-clause-bad : goal.returns-in_err-add_next-clause-bad
returns-in_err-add_next-clause-bad g c = λ place is.
    let file = g.D.Disk.file c.args.disk.now in
    let reading = c.loop-reading.reading in
    let kept = c.loop-reading.invariant in
    let told = c.in_err-add_next.ensures.bad place (search rules) in
    let Size : File → Type 0 = λ f. c.args.count ≡ length (bytes_in f) in
    let Stand : File → Type 0 = λ f. StandBefore reading.kept.records.items reading.at (bytes_in f) in
    let Bad : File → Type 0 = λ f. reading.count ≡ length (bytes_in f) → IsBadHere c.args.shape.now reading.kept (drop reading.at (bytes_in f)) in
    let bad : IfSome file Bad = subst (λ told_file. IfSome told_file Bad) kept.same told.1 in
    each_told (λ f. (Size f × Stand f) × Bad f) (λ f. IsBadAt c.args.shape.now (bytes_in f) place) file
    (λ f all. subst (IsBadAt c.args.shape.now (bytes_in f)) (sym told.0)
    (bad_at c.args.shape.now (bytes_in f) reading.kept reading.at (omega (arith, c.requires.long, all.0.0)) kept.whole all.0.1 (all.1 (kept.count ∙ all.0.0))))
    (both_told (λ f. Size f × Stand f) Bad file (both_told Size Stand file c.requires.size kept.stand) bad)

pub returns-clause-records : goal.returns-clause-records
returns-clause-records g c =
    let file = g.D.Disk.file c.args.disk.now in
    let reading = c.loop-reading.reading in
    let kept = c.loop-reading.invariant in
    let stays = c.in_ok-add_next.ensures.stays (ap Ok c.if-branch.false) in
    let Size : File → Type 0 = λ f. c.args.count ≡ length (bytes_in f) in
    let Stand : File → Type 0 = λ f. StandBefore reading.kept.records.items reading.at (bytes_in f) in
    let Shut : File → Type 0 = λ f. reading.count ≡ length (bytes_in f) → IsShut (drop reading.at (bytes_in f)) in
    let shut : IfSome file Shut = subst (λ told_file. IfSome told_file Shut) kept.same (c.in_ok-add_next.ensures.shut (ap Ok c.if-branch.false)) in
    let all : IfSome file (λ f. Reopens c.args.shape.now (bytes_in f) reading.kept.records.items) =
    each_told (λ f. (Size f × Stand f) × Shut f) (λ f. Reopens c.args.shape.now (bytes_in f) reading.kept.records.items) file
    (λ f told. all_read c.args.shape.now (bytes_in f) reading.kept reading.at kept.whole told.0.1 (told.1 (kept.count ∙ told.0.0)))
    (both_told (λ f. Size f × Stand f) Shut file (both_told Size Stand file c.requires.size kept.stand) shut) in
    subst (λ last. IfSome file (λ f. Reopens c.args.shape.now (bytes_in f) last.kept.records.items)) (sym stays) all
