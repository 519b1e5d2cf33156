use Rattle.std.proofs.Common.{◌≡◌, List, ℕ, Some, length, refl, sym, ◌∙◌, ap, subst}
use Rattle.jc_facts.specs.declared.class_facts.ClassFacts.{ClassFacts}
use Rattle.jc_facts.specs.declared.class_facts.Member.{Member}
use Rattle.jc_facts.specs.Names.{Bytes}
use Rattle.jc_facts.specs.world.World.{World, find_class}
use Rattle.jc_facts.proofs.World.{find-name}
use Rattle.jc_index.specs.Ids.{name_at}
use Rattle.jc_rows.specs.Keys.{numbered_keys}
use Rattle.jc_rows.specs.steps.Merging.{IsRowOf}
use Rattle.jc_rows.specs.steps.Numbering.{AreNumbers, items_of}
use Rattle.jc_rows.proofs.OwnMembers.{numbers-length, numbers_at, fields_row}
use Rattle.jc_rows.proofs.own.own_fields.Goals as goal

pub member_row-requires : goal.member_row-requires
member_row-requires c =
    let W : World = c.args.index.now in
    let d : ClassFacts = c.facts.result.now in
    let f : find_class W (name_at W c.args.class) ≡ Some d = sym c.facts.ensures in
    let a = numbers_at W (λ (e : ClassFacts). e.fields) c.args.numbering.now.fields.items c.requires.numbering.fields c.args.class c.number.result c.number.ensures c.requires.class c.requires.rows d f c.index.result.now c.index.ensures in
    ap (λ (ns : List ℕ). length ns) c.as_slice-numbers.ensures ∙ numbers-length (numbered_keys W) d.fields c.index.result.now a ∙ sym (ap (λ (ms : List Member). length ms) c.as_slice-members.ensures)

pub returns : goal.returns
returns c =
    let W : World = c.args.index.now in
    let d : ClassFacts = c.facts.result.now in
    let x : Bytes = name_at W c.args.class in
    let f : find_class W x ≡ Some d = sym c.facts.ensures in
    let a = numbers_at W (λ (e : ClassFacts). e.fields) c.args.numbering.now.fields.items c.requires.numbering.fields c.args.class c.number.result c.number.ensures c.requires.class c.requires.rows d f c.index.result.now c.index.ensures in
    fields_row W x d f (find-name W x d f) c.args.class c.requires.class refl c.as_slice-numbers.result.now c.in_ok-row.row.items
    (subst (AreNumbers (numbered_keys W) d.fields) (sym c.as_slice-numbers.ensures) a)
    (subst (λ (ms : List Member). IsRowOf (items_of c.args.class c.as_slice-numbers.result.now ms) c.in_ok-row.row.items) c.as_slice-members.ensures c.in_ok-row.ensures)
