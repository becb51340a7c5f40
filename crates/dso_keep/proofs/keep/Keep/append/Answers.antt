use Rattle.std.proofs.Common.{◌≡◌, ◌+◌, ◌++◌, [], ◌∷◌, ℕ, length, ◌∙◌, ap, arith, rules}
use Rattle.dso_base.specs.declared.record.Txn.{Txn}
use Rattle.dso_keep.specs.Packets.{gated, sized}
use Rattle.dso_keep.specs.Records.{HasPacket, packet_of, packets_of}
use Rattle.dso_keep.proofs.keeping.Kept.{reopens_so, staged_leaves, stands_more, unchanged_leaves}
use Rattle.dso_keep.proofs.keep.Keep.append.Goals as goal

pub returns-in_err-packet-clause-crash : goal.returns-in_err-packet-clause-crash
returns-in_err-packet-clause-crash g c = λ records stands.
    unchanged_leaves records (c.args.client, c.args.txn.now) c.args.self (g.D.Disk.file c.args.disk.now) stands

pub returns-in_err-packet-clause-reopens : goal.returns-in_err-packet-clause-reopens
returns-in_err-packet-clause-reopens g c = λ shape records stands before after.
    let r : ℕ × Txn = (c.args.client, c.args.txn.now) in
    reopens_so records r shape _ _ before after (unchanged_leaves records r c.args.self (g.D.Disk.file c.args.disk.now) stands)

pub returns-in_err-bytes-clause-crash : goal.returns-in_err-bytes-clause-crash
returns-in_err-bytes-clause-crash g c = λ records stands.
    unchanged_leaves records (c.args.client, c.args.txn.now) c.args.self (g.D.Disk.file c.args.disk.now) stands

pub returns-in_err-bytes-clause-reopens : goal.returns-in_err-bytes-clause-reopens
returns-in_err-bytes-clause-reopens g c = λ shape records stands before after.
    let r : ℕ × Txn = (c.args.client, c.args.txn.now) in
    reopens_so records r shape _ _ before after (unchanged_leaves records r c.args.self (g.D.Disk.file c.args.disk.now) stands)

pub returns-in-Ok-clause-added : goal.returns-in-Ok-clause-added
returns-in-Ok-clause-added g c = λ records stands.
    let r : ℕ × Txn = (c.args.client, c.args.txn.now) in
    let is : HasPacket r = (omega (arith, c.ranges.client.fits), c.in_ok-packet.ensures.is, c.requires.short) in
    let packet : c.as_slice.result.now ≡ packet_of r = search rules in
    let bytes : c.as_slice-2.result.now ≡ sized c.as_slice.result.now ++ 0 ∷ [] = search rules in
    let long : c.len.result ≡ length c.in_ok-packet.packet.items = search rules in
    let kept = c.in-Ok.ensures.opened (gated (packets_of records)) stands.gate stands.kept in
    stands_more records r c.as_slice-2.result.now c.args.self (record { gate = c.args.self.gate + 5 + c.len.result }) (g.D.Disk.file c.args.disk.now) (g.D.Disk.file c.open_behind.new.disk)
    stands is (bytes ∙ ap (λ p. sized p ++ 0 ∷ []) packet) (ap (λ n. c.args.self.gate + 5 + n) (long ∙ ap length c.in_ok-packet.ensures.bytes)) kept

pub returns-in-Ok-clause-crash : goal.returns-in-Ok-clause-crash
returns-in-Ok-clause-crash g c = λ records stands.
    let r : ℕ × Txn = (c.args.client, c.args.txn.now) in
    let is : HasPacket r = (omega (arith, c.ranges.client.fits), c.in_ok-packet.ensures.is, c.requires.short) in
    let packet : c.as_slice.result.now ≡ packet_of r = search rules in
    let bytes : c.as_slice-2.result.now ≡ sized c.as_slice.result.now ++ 0 ∷ [] = search rules in
    staged_leaves records r c.as_slice-2.result.now _ _ stands.grammar is (bytes ∙ ap (λ p. sized p ++ 0 ∷ []) packet)
    (c.open_behind.ensures.crash (gated (packets_of records)) stands.gate stands.kept)

pub returns-in-Ok-clause-reopens : goal.returns-in-Ok-clause-reopens
returns-in-Ok-clause-reopens g c = λ shape records stands before after.
    reopens_so records (c.args.client, c.args.txn.now) shape _ _ before after (returns-in-Ok-clause-crash g c records stands)

pub returns-clause-crash : goal.returns-clause-crash
returns-clause-crash g c = λ records stands.
    let r : ℕ × Txn = (c.args.client, c.args.txn.now) in
    let is : HasPacket r = (omega (arith, c.ranges.client.fits), c.in_ok-packet.ensures.is, c.requires.short) in
    let packet : c.as_slice.result.now ≡ packet_of r = search rules in
    let bytes : c.as_slice-2.result.now ≡ sized c.as_slice.result.now ++ 0 ∷ [] = search rules in
    staged_leaves records r c.as_slice-2.result.now _ _ stands.grammar is (bytes ∙ ap (λ p. sized p ++ 0 ∷ []) packet)
    (c.open_behind.ensures.crash (gated (packets_of records)) stands.gate stands.kept)

pub returns-clause-reopens : goal.returns-clause-reopens
returns-clause-reopens g c = λ shape records stands before after.
    reopens_so records (c.args.client, c.args.txn.now) shape _ _ before after (returns-clause-crash g c records stands)
