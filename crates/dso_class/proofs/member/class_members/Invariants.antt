use Rattle.std.proofs.Common.{flat_map, take, Ok}
use Rattle.dso_class.specs.Mentions.{of_member}
use Rattle.dso_class.specs.TextWalk.{WalksMembers}
use Rattle.dso_class.proofs.member.class_members.Given as goal

-- the members so far are there in numbers
abbrev pub invariant-loop-member : goal.invariant-loop-member
invariant-loop-member l =
    WalksMembers l.setting (λ name. flat_map (of_member name) (take l.member-index l.members)) (take l.member-index l.members) l.initial.resolved l.resolved l.initial.class l.class (Ok tt)
