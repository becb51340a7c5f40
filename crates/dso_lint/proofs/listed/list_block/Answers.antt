use Rattle.std.proofs.Common.{refl, sym, subst}
use Rattle.dso_lint.specs.Lists.{Lists}
use Rattle.dso_lint.specs.Trees.{StandsIn}
use Rattle.dso_lint.proofs.listed.list_block.Goals as goal

pub returns : goal.returns
returns c =
    let block = c.args.block.now in
    record {
      block = refl;
      statements = c.in_ok-statements.ensures;
      expressions = c.in_ok-expressions.ensures block (subst (Lists (λ a. StandsIn a block)) (sym c.as_slice-all.ensures.value) c.in_ok-statements.ensures);
      writes = c.has_write_site-writes.ensures block (subst (Lists (λ a. StandsIn a block)) (sym c.as_slice-all.ensures.value) c.in_ok-statements.ensures);
      params = refl;
      named = refl;
      synced = refl;
    }
