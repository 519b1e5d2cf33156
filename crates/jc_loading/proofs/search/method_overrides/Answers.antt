use Rattle.std.proofs.Common.{◌≡◌, ◌<◌, false, ◌||◌, Option, ℕ, sym, subst, ◌∙◌, ap}
use Rattle.std.specs.Prelude.{IfSome}
use Rattle.jc_desc.specs.Names.{is_init_name, is_clinit_name, is_initializer_name}
use Rattle.jc_facts.specs.world.World.{size, DeclaredMember}
use Rattle.jc_facts.specs.Names.{key_of}
use Rattle.jc_index.proofs.Walking.{number-inside}
use Rattle.jc_loading.proofs.Overrides.{plain-met}
use Rattle.jc_loading.proofs.search.method_overrides.Goals as goal

pub meets_final-requires : goal.meets_final-requires
meets_final-requires c = subst (λ (o : Option ℕ). IfSome o (λ id. id < size c.args.index.now)) (sym c.number_above.ensures) (number-inside c.args.index.now c.args.class.now.superclass)

pub returns : goal.returns
returns c =
    let m : DeclaredMember = record { owner = c.args.class.now.name; member = c.args.member.now } in
    let i : (is_init_name c.args.member.now.name || is_clinit_name c.args.member.now.name) ≡ false = ap is_initializer_name (sym c.as_bytes.ensures) ∙ sym c.is_initializer.ensures ∙ c.if-is_initializer.false in
    c.in_ok-met.ensures ∙ plain-met c.args.index.now c.of_member-key.result (key_of c.args.member.now) m c.args.class.now.superclass c.number_above.result (is_init_name c.args.member.now.name || is_clinit_name c.args.member.now.name) c.of_member-key.ensures c.number_above.ensures i
