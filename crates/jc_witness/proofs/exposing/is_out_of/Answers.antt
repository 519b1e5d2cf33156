use Rattle.std.proofs.Common.{◌≡◌, false, true, is_some, sym, ap, subst, ◌∙◌}
use Rattle.jc_promises.specs.rule.Exposed.{is_hidden, exposing_act}
use Rattle.jc_index.specs.Ids.{id_of, name_at}
use Rattle.jc_drafts.proofs.ClassesByName.{loaded_number, number_name}
use Rattle.jc_witness.proofs.HiddenActs.{none_out, other_out, absent_out}
use Rattle.jc_witness.proofs.exposing.is_out_of.Goals as goal

pub unwrap-seat-requires : goal.unwrap-seat-requires
unwrap-seat-requires c = ap is_some (c.get.ensures.value ∙ ap (id_of c.args.table.now) c.as_bytes.ensures) ∙ loaded_number c.args.table.now c.args.seat.now c.requires.seat

pub returns-in_default : goal.returns-in_default
returns-in_default c = absent_out c.args.table.now c.args.seat.now c.args.class.now (sym (c.get-2.ensures.value ∙ ap (id_of c.args.table.now) c.as_bytes-2.ensures) ∙ c.in_default.is)

pub returns-then-not-is_hidden_class : goal.returns-then-not-is_hidden_class
returns-then-not-is_hidden_class c =
    let W = c.args.table.now in
    let n : name_at W c.in-Some.class ≡ c.args.class.now = number_name W c.args.class.now c.in-Some.class (sym (c.get-2.ensures.value ∙ ap (id_of W) c.as_bytes-2.ensures) ∙ c.in-Some.is) in
    other_out W c.args.seat.now c.args.class.now (subst (λ y. is_hidden W y ≡ false) n (sym c.is_hidden_class.ensures ∙ c.if-not-is_hidden_class.true))

pub returns : goal.returns
returns c =
    let W = c.args.table.now in
    let n : name_at W c.in-Some.class ≡ c.args.class.now = number_name W c.args.class.now c.in-Some.class (sym (c.get-2.ensures.value ∙ ap (id_of W) c.as_bytes-2.ensures) ∙ c.in-Some.is) in
    let s : name_at W c.unwrap-seat.result ≡ c.args.seat.now = number_name W c.args.seat.now c.unwrap-seat.result (sym (c.get.ensures.value ∙ ap (id_of W) c.as_bytes.ensures) ∙ c.unwrap-seat.ensures) in
    let h : is_hidden W c.args.class.now ≡ true = subst (λ y. is_hidden W y ≡ true) n (sym c.is_hidden_class.ensures ∙ c.if-not-is_hidden_class.false) in
    none_out W c.args.seat.now c.args.class.now h c.in_ok-act.act (c.in_ok-act.ensures ∙ ap (λ a. exposing_act W a (name_at W c.in-Some.class)) s ∙ ap (exposing_act W c.args.seat.now) n) c.is_none.result c.is_none.ensures
