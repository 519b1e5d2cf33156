use Rattle.std.proofs.Common.{refl}
use Rattle.jc_facts.specs.Names.{is_name_among}
use Rattle.jc_facts.specs.world.Search.{supers}
use Rattle.jc_index.proofs.Mentions.{are_of_next, are_of_all}
use Rattle.jc_index.proofs.mentioned.all_supers.Goals as goal

pub loop-class-preserved : goal.loop-class-preserved
loop-class-preserved c =
    are_of_next (λ d x. is_name_among (supers d) x) c.args.classes.now c.loop-class.class-index c.class-item.result c.loop-class.set c.put_supers.new.set (supers c.class-item.result)
    c.loop-class-test.true c.class-item.is (λ x. refl) c.in_ok-put_supers.ensures c.loop-class.invariant

pub returns : goal.returns
returns c = are_of_all (λ d x. is_name_among (supers d) x) c.args.classes.now c.loop-class.class-index c.loop-class.set c.loop-class-test.false c.loop-class.invariant
