-- The class file that is being made, by its parts.
use Rattle.std.specs.Prelude.{[]}
use Rattle.jc_facts.specs.declared.blueprint.Blueprint.{Blueprint}
use Rattle.jc_promises.specs.plan.Planned.{a_client}
use Rattle.jc_promises.specs.plan.PlannedBodies.{blueprint}
use Rattle.jc_drafts.specs.declared.draft.Draft.TheInside.{Inside}

-- a client of major 52 with these parts
abbrev pub drafted : Inside → Blueprint
drafted d = blueprint (a_client d.name d.flags d.superclass d.interfaces.items d.fields.items d.methods.items []) d.bodies.items
