use Rattle.std.proofs.Common.{◌≡◌, ◌<◌, Bool, false, not, ◌||◌, Option, ℕ, sym, subst, ◌∙◌, ap}
use Rattle.std.specs.Prelude.{IfSome}
use Rattle.jc_desc.specs.Names.{is_init_name, is_clinit_name, is_initializer_name}
use Rattle.jc_facts.specs.world.World.{size, DeclaredMember}
use Rattle.jc_facts.specs.Names.{key_of}
use Rattle.jc_facts.specs.file.Valid.{has_key}
use Rattle.jc_facts.specs.world.Hierarchy.{chain, of_super}
use Rattle.jc_index.proofs.Walking.{number-inside}
use Rattle.jc_loading.proofs.Overrides.{plain-private, plain-static, plain-unfixed, plain-met}
use Rattle.jc_loading.proofs.overriding.method_overrides.Goals as goal

pub returns-then-is_private : goal.returns-then-is_private
returns-then-is_private c =
    let m : DeclaredMember = record { owner = c.args.class.now.name; member = c.args.member.now } in
    let a : Bool = not (is_init_name c.args.member.now.name || is_clinit_name c.args.member.now.name) in
    sym (plain-private a (key_of c.args.member.now) m (of_super (chain c.args.index.now) c.args.class.now.superclass) (sym c.is_private.ensures ∙ c.if-is_private.true))

pub returns-then-is_static : goal.returns-then-is_static
returns-then-is_static c =
    let m : DeclaredMember = record { owner = c.args.class.now.name; member = c.args.member.now } in
    let a : Bool = not (is_init_name c.args.member.now.name || is_clinit_name c.args.member.now.name) in
    sym (plain-static a (key_of c.args.member.now) m (of_super (chain c.args.index.now) c.args.class.now.superclass) (sym c.is_static.ensures ∙ c.if-is_static.true))

pub returns-then-not-has_name : goal.returns-then-not-has_name
returns-then-not-has_name c =
    let m : DeclaredMember = record { owner = c.args.class.now.name; member = c.args.member.now } in
    let a : Bool = not (is_init_name c.args.member.now.name || is_clinit_name c.args.member.now.name) in
    let k : has_key (key_of c.args.member.now) c.args.finals.now ≡ false = c.has_name.ensures (key_of c.args.member.now) (sym c.as_bytes-2.ensures) c.if-not-has_name.true in
    sym (plain-unfixed c.args.index.now c.args.finals.now a (key_of c.args.member.now) m c.args.class.now.name c.args.class.now c.requires.finals c.requires.class k)

pub returns-then-not-has : goal.returns-then-not-has
returns-then-not-has c =
    let m : DeclaredMember = record { owner = c.args.class.now.name; member = c.args.member.now } in
    let a : Bool = not (is_init_name c.args.member.now.name || is_clinit_name c.args.member.now.name) in
    let h : has_key c.in_ok-key.key c.args.finals.now ≡ false = sym c.has.ensures ∙ c.if-not-has.true in
    let k : has_key (key_of c.args.member.now) c.args.finals.now ≡ false = rw c.in_ok-key.ensures at h in
    sym (plain-unfixed c.args.index.now c.args.finals.now a (key_of c.args.member.now) m c.args.class.now.name c.args.class.now c.requires.finals c.requires.class k)

pub meets_final-requires : goal.meets_final-requires
meets_final-requires c = subst (λ (o : Option ℕ). IfSome o (λ id. id < size c.args.index.now)) (sym c.number_above.ensures) (number-inside c.args.index.now c.args.class.now.superclass)

pub returns : goal.returns
returns c =
    let m : DeclaredMember = record { owner = c.args.class.now.name; member = c.args.member.now } in
    let i : (is_init_name c.args.member.now.name || is_clinit_name c.args.member.now.name) ≡ false = ap is_initializer_name (sym c.as_bytes.ensures) ∙ sym c.is_initializer.ensures ∙ c.if-is_initializer.false in
    c.in_ok-met.ensures ∙ plain-met c.args.index.now c.of_key.result (key_of c.args.member.now) m c.args.class.now.superclass c.number_above.result (is_init_name c.args.member.now.name || is_clinit_name c.args.member.now.name) (c.of_key.ensures ∙ c.in_ok-key.ensures) c.number_above.ensures i
