use Rattle.std.proofs.Common.{rules, subst, w64}
use Rattle.std.proofs.lemmas.Int.{to_z-of_z}
use Rattle.dso_machine.specs.Continuation.{Takes}
use Rattle.dso_machine.specs.declared.continuation.OnReply.TheVariants as reply
use mir.Val.{SFits}
use Rattle.dso_machine.proofs.on_reply.hear.Goals as goal

pub returns-in-Element : goal.returns-in-Element
returns-in-Element c =
    let fits : SFits w64 c.in-Element.index = search rules in
    rw c.in-Element.is (record {
      takes = subst (λ i. Takes c.args.code.now (reply.Element c.in-Element.object i) c.args.reply c.args.frame.now c.element_seen.result c.args.frame.now) (to_z-of_z w64 c.in-Element.index fits)
          (c.element_seen.ensures.takes c.args.code.now c.args.frame.now);
    })

pub returns-in-PutElement : goal.returns-in-PutElement
returns-in-PutElement c =
    let fits : SFits w64 c.in-PutElement.index = search rules in
    rw c.in-PutElement.is (record {
      takes = subst (λ i. Takes c.args.code.now (reply.PutElement c.in-PutElement.object i c.in-PutElement.value) c.args.reply c.args.frame.now c.put_element_seen.result c.args.frame.now)
          (to_z-of_z w64 c.in-PutElement.index fits) (c.put_element_seen.ensures.takes c.args.code.now c.args.frame.now);
    })
