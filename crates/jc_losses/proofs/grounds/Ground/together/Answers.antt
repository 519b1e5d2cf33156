use Rattle.std.proofs.Common.{List, sym, subst}
use Rattle.std.specs.Prelude.{IsTrue}
use Rattle.std.specs.List.{All}
use Rattle.jc_facts.specs.declared.class_facts.ClassFacts.{ClassFacts}
use Rattle.jc_facts.specs.file.Valid.{IsValidClass}
use Rattle.jc_facts.specs.world.World.{differ_by_name}
use Rattle.jc_losses.proofs.InOneList.{together_valid, together_differ}
use Rattle.jc_losses.proofs.grounds.Ground.together.Goals as goal

pub returns-in-Ok-clause-lists : goal.returns-in-Ok-clause-lists
returns-in-Ok-clause-lists c = record {
  valid = subst (λ (cs : List ClassFacts). All IsValidClass cs) (sym c.in-Ok.ensures.built) (together_valid c.args.platform.now c.args.release.items c.requires.valid_platform c.requires.valid_release);
  differ = subst (λ (cs : List ClassFacts). IsTrue (differ_by_name cs)) (sym c.in-Ok.ensures.built)
      (together_differ c.args.platform.now c.args.release.items c.requires.valid_platform c.requires.valid_release c.requires.platform_differs c.requires.release_differs
      (sym c.in-Ok.ensures.sound.0) (sym c.in-Ok.ensures.sound.1));
}
