use Rattle.std.proofs.Common.{◌≡◌, false, List, sym, subst}
use Rattle.jc_facts.specs.Names.{Bytes, is_name_among}
use Rattle.jc_index.proofs.Standing.{new_name, one_more_name, all_names}
use Rattle.jc_index.proofs.names.numbered.Goals as goal

pub loop-class-preserved : goal.loop-class-preserved
loop-class-preserved c =
    let new : is_name_among c.loop-class.names c.in_ok-name.name ≡ false =
    subst (λ (x : Bytes). is_name_among c.loop-class.names x ≡ false) (sym c.in_ok-name.ensures)
    (subst (λ (ns : List Bytes). is_name_among ns c.class-item.result.name ≡ false) (sym c.loop-class.invariant)
    (new_name c.args.classes.now c.loop-class.class-index c.class-item.result c.requires c.loop-class-test.true c.class-item.is)) in
    one_more_name c.args.classes.now c.loop-class.class-index c.class-item.result c.loop-class.names c.put.new.self c.in_ok-name.name
    c.loop-class-test.true c.class-item.is c.in_ok-name.ensures c.loop-class.invariant (c.in_ok-put.ensures.last new)

pub returns : goal.returns
returns c = all_names c.args.classes.now c.loop-class.class-index c.loop-class.names c.loop-class-test.false c.loop-class.invariant
