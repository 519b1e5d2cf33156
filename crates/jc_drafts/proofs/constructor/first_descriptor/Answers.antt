use Rattle.std.proofs.Common.{◌&&◌, ◌<◌, ◌≤◌, true, length, List, arith}
use Rattle.std.specs.Option.{option_copied}
use Rattle.jc_facts.specs.declared.class_facts.Member.{Member}
use Rattle.jc_desc.specs.Names.{is_init_name}
use Rattle.jc_facts.specs.world.Inheritance.{public_or_protected}
use Rattle.jc_promises.specs.plan.PlannedNames.{least_name, constructors}
use Rattle.jc_drafts.proofs.LowestOfNames.{found_next, found_end, constructor_first, no_constructor}
use Rattle.jc_drafts.proofs.constructor.first_descriptor.Goals as goal

pub loop-method-preserved : goal.loop-method-preserved
loop-method-preserved c =
    let below : c.loop-method.method-index < length c.args.methods.now = omega arith in
    found_next (λ (ms : List Member). least_name (λ d. true) (constructors ms)) (λ (m : Member). m.descriptor) (λ (m : Member). is_init_name m.name && public_or_protected m) constructor_first
    c.args.methods.now c.loop-method.method-index c.method-item.result c.is_open_init.result (option_copied c.loop-method.lowest) (option_copied c.lowest_with-lowest.result) _
    below c.method-item.is c.is_open_init.ensures c.lowest_with-lowest.ensures c.loop-method.invariant

pub returns : goal.returns
returns c =
    let past : length c.args.methods.now ≤ c.loop-method.method-index = omega arith in
    found_end (λ (ms : List Member). least_name (λ d. true) (constructors ms)) (λ (m : Member). m.descriptor) (λ (m : Member). is_init_name m.name && public_or_protected m) constructor_first
    c.args.methods.now c.loop-method.method-index (option_copied c.loop-method.lowest) _ no_constructor past c.loop-method.invariant
