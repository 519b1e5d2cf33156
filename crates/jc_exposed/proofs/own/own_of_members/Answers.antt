use Rattle.std.proofs.Common.{◌&&◌, false, refl}
use Rattle.jc_acts.specs.Touched.{flag_at}
use Rattle.jc_desc.specs.Classes.{descriptor_names}
use Rattle.jc_facts.specs.declared.class_facts.Member.{Member}
use Rattle.jc_facts.specs.Names.{key_of}
use Rattle.jc_index.specs.Ids.{name_at}
use Rattle.jc_exposed.proofs.GivenNamings.{gives_none, gives_next, gives_end}
use Rattle.jc_exposed.proofs.own.own_of_members.Goals as goal

pub loop-member-init : goal.loop-member-init
loop-member-init c = gives_none (flag_at c.args.wanted.now) (λ g t. false) c.new-namings.result.items c.new-namings.ensures.items (λ g t o. refl)

pub loop-member-preserved : goal.loop-member-preserved
loop-member-preserved c =
    gives_next (flag_at c.args.wanted.now) (λ (m : Member) g t. descriptor_names m.descriptor (name_at c.args.table.now t) && g (key_of m)) c.args.members.now c.loop-member.member-index c.member-item.result c.member-item.result c.loop-member.namings.items
    c.in_ok-own_of_member.field-0.items c.append.new.self.items c.loop-member-test.true c.member-item.is c.in_ok-append.ensures.items c.loop-member.invariant c.in_ok-own_of_member.ensures

pub returns : goal.returns
returns c =
    gives_end (flag_at c.args.wanted.now) (λ (m : Member) g t. descriptor_names m.descriptor (name_at c.args.table.now t) && g (key_of m)) c.args.members.now c.loop-member.member-index c.loop-member.namings.items c.loop-member-test.false c.loop-member.invariant
