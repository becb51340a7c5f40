-- Two changes that write at different keys, or the same mark, come to the same state in either order.
use Rattle.std.proofs.Common.{ℕ, ◌≡◌, Bool, true, false, refl}
use Rattle.dso_plain.specs.State.{PlainState}
use Rattle.dso_plain.specs.After.{Change, apply, counted}
use Rattle.dso_plain.proofs.keys.SameKeys.{Apart, Agreeing, written_swap, written_agree}

-- no part is written at one key by both, but for marks that agree
pub record AreDisjoint (c d : Change) : Type 0 where
  pub objects : Apart c.objects d.objects
  pub made : Apart c.made d.made
  pub heap : Apart c.heap d.heap
  pub past : Apart c.past d.past
  pub seen : Apart c.seen d.seen
  pub monitors : Apart c.monitors d.monitors
  pub asleep : Apart c.asleep d.asleep
  pub marked : Agreeing c.marked d.marked
  pub output : Apart c.output d.output
  pub ended : Apart c.ended d.ended
  pub lost : Apart c.lost d.lost

-- two counts come to the same in either order
counted_swap : (n : ℕ) (b c : Bool) → counted c (counted b n) ≡ counted b (counted c n)
counted_swap n true true = refl
counted_swap n true false = refl
counted_swap n false c = refl

-- such changes come to the same in either order
pub apply_swap : (c d : Change) (s : PlainState) → AreDisjoint c d → apply d (apply c s) ≡ apply c (apply d s)
apply_swap c d s h = λ i. record {
  objects = written_swap c.objects d.objects s.objects h.objects i;
  made = written_swap c.made d.made s.made h.made i;
  heap = written_swap c.heap d.heap s.heap h.heap i;
  past = written_swap c.past d.past s.past h.past i;
  seen = written_swap c.seen d.seen s.seen h.seen i;
  monitors = written_swap c.monitors d.monitors s.monitors h.monitors i;
  asleep = written_swap c.asleep d.asleep s.asleep h.asleep i;
  marked = written_agree c.marked d.marked s.marked h.marked i;
  output = written_swap c.output d.output s.output h.output i;
  ended = written_swap c.ended d.ended s.ended h.ended i;
  lost = written_swap c.lost d.lost s.lost h.lost i;
  unguarded = counted_swap s.unguarded c.unguarded d.unguarded i;
}
