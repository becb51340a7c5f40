use Rattle.std.proofs.Common.{sym, ◌∙◌}
use Rattle.dso_world.proofs.links.Pumping.{all_go, all_gone, emptied_now, emptied_same, fewer_go, order_new}
use Rattle.dso_world.proofs.pump.pump.Goals as goal

pub loop-frame-smaller : goal.loop-frame-smaller
loop-frame-smaller g c = fewer_go c.loop-frame.end c.next_frame.new.self c.in_ok-frame.field-0 c.loop-frame.invariant.order c.in_ok-frame.ensures.frame c.in_ok-frame.ensures.behind c.in-Some.frame c.in-Some.is

pub loop-frame-preserved : goal.loop-frame-preserved
loop-frame-preserved g c = record {
  frames = all_go c.loop-frame.end c.next_frame.new.self c.in_ok-frame.field-0 c.loop-frame.invariant.order c.in_ok-frame.ensures.frame c.in_ok-frame.ensures.behind c.in-Some.frame c.in-Some.is c.loop-frame.channel.items c.push_back.new.self.items c.in_ok-push_back.ensures.items
      ∙ c.loop-frame.invariant.frames;
  end = emptied_same c.loop-frame.end c.next_frame.new.self c.in_ok-frame.field-0 c.loop-frame.invariant.order c.in_ok-frame.ensures.frame c.in_ok-frame.ensures.behind ∙ c.loop-frame.invariant.end;
  order = order_new c.loop-frame.end c.next_frame.new.self c.in_ok-frame.field-0 c.loop-frame.invariant.order c.in_ok-frame.ensures.frame c.in_ok-frame.ensures.behind;
}

pub returns-in_err-push_back-clause-order : goal.returns-in_err-push_back-clause-order
returns-in_err-push_back-clause-order g c = order_new c.loop-frame.end c.next_frame.new.self c.in_ok-frame.field-0 c.loop-frame.invariant.order c.in_ok-frame.ensures.frame c.in_ok-frame.ensures.behind

pub returns-clause-frames : goal.returns-clause-frames
returns-clause-frames g c = sym (all_gone c.loop-frame.end c.next_frame.new.self c.in_ok-frame.field-0 c.loop-frame.invariant.order c.in_ok-frame.ensures.frame c.in_ok-frame.ensures.behind c.in_default.is c.loop-frame.channel.items) ∙ c.loop-frame.invariant.frames

pub returns-clause-end : goal.returns-clause-end
returns-clause-end g c = emptied_now c.loop-frame.end c.next_frame.new.self c.in_ok-frame.field-0 c.loop-frame.invariant.order c.in_ok-frame.ensures.frame c.in_ok-frame.ensures.behind c.in_default.is ∙ c.loop-frame.invariant.end
