use Rattle.std.proofs.Common.{◌≡◌, Some, None, is_some, sym, ap, subst, ◌∙◌}
use Rattle.jc_facts.specs.client.Acts.{form_of}
use Rattle.jc_index.specs.Ids.{id_of, name_at}
use Rattle.jc_witness.specs.Ground.{CanRefer}
use Rattle.jc_witness.specs.steps.Found.{IsFoundBy}
use Rattle.jc_drafts.proofs.ClassesByName.{loaded_number, number_name}
use Rattle.jc_witness.proofs.Refers.{found_public}
use Rattle.jc_witness.proofs.receiver.finds_public.Goals as goal

pub unwrap-class-requires : goal.unwrap-class-requires
unwrap-class-requires c = ap is_some (c.get.ensures.value ∙ ap (id_of c.args.table.now) c.as_bytes.ensures) ∙ loaded_number c.args.table.now c.args.class.now c.requires.refers.loads

pub find-requires-clause-refers : goal.find-requires-clause-refers
find-requires-clause-refers c =
    let n : name_at c.args.table.now c.unwrap-class.result ≡ c.args.class.now = number_name c.args.table.now c.args.class.now c.unwrap-class.result (sym (c.get.ensures.value ∙ ap (id_of c.args.table.now) c.as_bytes.ensures) ∙ c.unwrap-class.ensures) in
    subst (λ y. CanRefer c.args.table.now c.args.act y c.args.key.now) (sym n) c.requires.refers

pub returns-in-Some : goal.returns-in-Some
returns-in-Some c =
    let n : name_at c.args.table.now c.unwrap-class.result ≡ c.args.class.now = number_name c.args.table.now c.args.class.now c.unwrap-class.result (sym (c.get.ensures.value ∙ ap (id_of c.args.table.now) c.as_bytes.ensures) ∙ c.unwrap-class.ensures) in
    c.is_public.ensures ∙ found_public c.args.table.now c.requires.side c.args.act c.args.class.now c.args.key.now c.requires.refers (Some c.in-Some.found)
    (subst (λ y. IsFoundBy c.args.table.now (form_of c.args.act) y c.args.key.now (Some c.in-Some.found)) n c.in-Some.ensures)

pub returns-in-None : goal.returns-in-None
returns-in-None c =
    let n : name_at c.args.table.now c.unwrap-class.result ≡ c.args.class.now = number_name c.args.table.now c.args.class.now c.unwrap-class.result (sym (c.get.ensures.value ∙ ap (id_of c.args.table.now) c.as_bytes.ensures) ∙ c.unwrap-class.ensures) in
    found_public c.args.table.now c.requires.side c.args.act c.args.class.now c.args.key.now c.requires.refers None
    (subst (λ y. IsFoundBy c.args.table.now (form_of c.args.act) y c.args.key.now None) n c.in-None.ensures)
