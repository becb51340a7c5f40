-- An end that gives frames stands for its log as before.
use Rattle.std.proofs.Common.{ℕ, ◌≡◌, sym, ◌∙◌, subst, List}
use Rattle.dso_base.specs.declared.journal.Entry.{Entry}
use Rattle.dso_session.specs.declared.session.Role.{Role}
use Rattle.dso_port.specs.Ports.{HasGiven, IsInjective, PortState, SameEnd, given, taken}
use Rattle.dso_port.proofs.ends.Given.{given_goes_on}
use Rattle.dso_line.specs.Lines.{EndStands, Way}
use Rattle.dso_line.specs.Ways.{TookFromRing, posts_of}

module _ {S T : Type 0} (own : Way S) (other : Way T) (injective : IsInjective own.as_both) (old new : PortState S T)
    (gives : HasGiven own.as_both own.cells own.is old.session new.session (given old.out) (given new.out)) where
  same : SameEnd old.session new.session
  same = (given_goes_on own.as_both own.cells own.is injective).same old.session new.session (given old.out) (given new.out) gives

  pub end_given : (end : Role) (es : List Entry) (greetings greeted : ℕ) → new.into ≡ old.into → EndStands own other end es es greetings greeted old → EndStands own other end es es greetings greeted new
  end_given end es greetings greeted into stands = record {
    role = same.role ∙ stands.role;
    accepted = same.accepted ∙ stands.accepted;
    sends = (given_goes_on own.as_both own.cells own.is injective).goes_on old.session new.session (given old.out) (given new.out) gives (posts_of own.direction es) greetings stands.sends;
    took = subst (λ x. TookFromRing other.cells other.is other.direction es greeted (taken x)) (sym into) stands.took;
  }
