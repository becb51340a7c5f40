use Rattle.std.proofs.Common.{◌≡◌, ◌+◌, length, take, drop, ◌∙◌, arith}
use Rattle.std.specs.Option.{IfSome}
use Rattle.dso_keep.specs.Disk.{File, bytes_in}
use Rattle.dso_keep.specs.Reading.{IsBehind, NoneBehind}
use Rattle.dso_keep.proofs.behind.Sizes.{none_long, none_short, whole_behind}
use Rattle.dso_keep.proofs.behind.Told.{always_told, both_told, each_told}
use Rattle.dso_keep.proofs.reading.packet_behind.Goals as goal

pub returns-then-left-lt5-clause-packet : goal.returns-then-left-lt5-clause-packet
returns-then-left-lt5-clause-packet g c =
    always_told (λ f. c.args.count ≡ length (bytes_in f) → NoneBehind (drop (c.args.at + 1) (bytes_in f))) (g.D.Disk.file c.args.disk.now)
    (λ f size. none_short (bytes_in f) c.args.at c.args.count c.if-left-lt5.true size)

pub returns-then-left-size-clause-packet : goal.returns-then-left-size-clause-packet
returns-then-left-size-clause-packet g c =
    let head = c.as_slice.result.now in
    let same : head ≡ c.in_ok-head.head.items = c.as_slice.ensures.value in
    each_told (λ f. c.in_ok-head.head.items ≡ take 4 (drop (c.args.at + 1) (bytes_in f))) (λ f. c.args.count ≡ length (bytes_in f) → NoneBehind (drop (c.args.at + 1) (bytes_in f)))
    (g.D.Disk.file c.args.disk.now)
    (λ f heads size. none_long (bytes_in f) head c.args.at c.args.count c.in-Some.size (same ∙ heads) c.in-Some.ensures.some.0 c.in-Some.ensures.some.1 c.if-left-size.true size)
    c.in_ok-head.ensures.bytes

pub returns-clause-packet : goal.returns-clause-packet
returns-clause-packet g c =
    let head = c.as_slice.result.now in
    let same : head ≡ c.in_ok-head.head.items = c.as_slice.ensures.value in
    let size = c.in-Some.size in
    let packet = c.in_ok-packet.packet.items in
    let file = g.D.Disk.file c.args.disk.now in
    let Heads : File → Type 0 = λ f. c.in_ok-head.head.items ≡ take 4 (drop (c.args.at + 1) (bytes_in f)) in
    let Bodies : File → Type 0 = λ f. packet ≡ take size (drop (c.args.at + 5) (bytes_in f)) in
    let bodies : IfSome file Bodies = rw c.bytes_at.ensures.same at c.in_ok-packet.ensures.bytes in
    let full : length packet ≡ size = omega (arith, c.in_ok-packet.ensures.within, c.if-len-size.false, c.len.ensures) in (
      omega (arith, full, c.in-Some.ensures.some.0),
      omega (arith, full, c.if-left-size.false, c.if-left-lt5.false, c.requires),
      each_told (λ f. Heads f × Bodies f) (λ f. c.args.count ≡ length (bytes_in f) → IsBehind packet (drop (c.args.at + 1) (bytes_in f))) file
          (λ f told is. whole_behind (bytes_in f) head packet c.args.at size (same ∙ told.0) c.in-Some.ensures.some.0 c.in-Some.ensures.some.1 told.1 full)
          (both_told Heads Bodies file c.in_ok-head.ensures.bytes bodies),
    )
