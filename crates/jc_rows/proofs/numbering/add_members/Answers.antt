use Rattle.std.proofs.Common.{◌≡◌, ◌+◌, Some, sym, ◌∙◌, ap, subst}
use Rattle.jc_facts.specs.declared.key.Key.{Key}
use Rattle.jc_facts.specs.Names.{key_of}
use Rattle.jc_rows.specs.Keys.{with_key}
use Rattle.jc_rows.proofs.Numbers.{IsAddingMembers, member-next}
use Rattle.jc_rows.proofs.numbering.add_members.Goals as goal

pub loop-member-preserved : goal.loop-member-preserved
loop-member-preserved c =
    subst (IsAddingMembers c.args.keys.now c.args.members.now (c.loop-member.member-index + 1) c.put.new.self) (sym c.in_ok-push.ensures.items)
    (member-next c.args.keys.now c.args.members.now c.loop-member.member-index c.loop-member.keys c.put.new.self c.loop-member.numbers.items c.member-item.result c.in_ok-number.number c.loop-member-test.true c.member-item.is
    (c.in_ok-number.ensures.added ∙ ap (with_key c.loop-member.keys) key)
    (c.in_ok-number.ensures.numbered ∙ ap (λ (k : Key). Some k) key) c.loop-member.invariant)
  where
    key : c.in_ok-key.key ≡ key_of c.member-item.result
    key = c.in_ok-key.ensures
