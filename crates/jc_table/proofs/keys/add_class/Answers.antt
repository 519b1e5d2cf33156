use Rattle.std.proofs.Common.{◌≡◌, ◌<◌, ◌≤◌, true, List, length, get_or, subst}
use Rattle.std.specs.BTreeSet as sorted
use Rattle.jc_facts.specs.declared.class_facts.Member.{Member}
use Rattle.jc_facts.specs.declared.key.Key.{Key}
use Rattle.jc_facts.specs.KeyOrder.{key_cmp}
use Rattle.jc_facts.proofs.KeySets.{comes_more}
use Rattle.jc_table.proofs.MemberKeys.{comes_all}
use Rattle.jc_index.specs.Kinds.{members_of}
use Rattle.jc_table.proofs.keys.add_class.Goals as goal

pub loop-member-preserved : goal.loop-member-preserved
loop-member-preserved c =
    comes_more c.args.keys.now c.loop-member.keys c.insert.new.self (members_of c.args.kind c.args.class.now) c.loop-member.member-index c.member-item.result (subst (λ (ms : List Member). c.loop-member.member-index < length ms) c.members-member-items.ensures c.loop-member-test.true)
    (subst (λ (ms : List Member). c.member-item.result ≡ get_or ms c.loop-member.member-index c.member-item.result) c.members-member-items.ensures c.member-item.is)
    (subst (λ (k : Key). sorted.Updates key_cmp c.loop-member.keys c.insert.new.self k true) c.of_member.ensures c.in_ok-insert.ensures.updates) c.loop-member.invariant

pub returns : goal.returns
returns c = comes_all c.args.keys.now c.loop-member.keys (members_of c.args.kind c.args.class.now) c.loop-member.member-index (subst (λ (ms : List Member). length ms ≤ c.loop-member.member-index) c.members-member-items.ensures c.loop-member-test.false) c.loop-member.invariant
