use Rattle.std.proofs.Common.{◌≡◌, None, true, is_some, sym, ap, subst, ◌∙◌}
use Rattle.std.proofs.lemmas.Result.{IfOk-weaker}
use Rattle.jc_facts.specs.world.Loading.{load_fault}
use Rattle.std.specs.Option.{option_copied}
use Rattle.jc_promises.specs.rule.Exposed.{is_hidden}
use Rattle.jc_index.specs.Ids.{id_of, name_at}
use Rattle.jc_sides.specs.SidesOf.{SidesOf}
use Rattle.jc_drafts.proofs.ClassesByName.{loaded_number, number_name}
use Rattle.jc_witness.proofs.HiddenActs.{hidden_loads, seat_as_named}
use Rattle.jc_witness.proofs.exposing.seat_beside.Goals as goal

pub unwrap-seat-requires : goal.unwrap-seat-requires
unwrap-seat-requires c =
    let W = c.sides.inside.old.now in
    let old : W ≡ c.args.sides.now.old = ap (λ (s : SidesOf). s.old) c.sides.view_is in
    ap is_some (c.get.ensures.value ∙ ap (id_of W) c.as_bytes.ensures) ∙ loaded_number W c.args.seat.now (subst (λ V. load_fault V c.args.seat.now ≡ None) (sym old) c.requires.seat)

pub unwrap-class-requires : goal.unwrap-class-requires
unwrap-class-requires c =
    let W = c.sides.inside.old.now in
    let old : W ≡ c.args.sides.now.old = ap (λ (s : SidesOf). s.old) c.sides.view_is in
    ap is_some (c.get-2.ensures.value ∙ ap (id_of W) c.as_bytes-2.ensures) ∙ loaded_number W c.args.class.now (hidden_loads W c.args.class.now (subst (λ V. is_hidden V c.args.class.now ≡ true) (sym old) c.requires.hidden))

pub returns : goal.returns
returns c =
    let W = c.sides.inside.old.now in
    let O = c.args.sides.now.old in
    let N = c.args.sides.now.new in
    let old : W ≡ O = ap (λ (s : SidesOf). s.old) c.sides.view_is in
    let a : name_at O c.unwrap-seat.result ≡ c.args.seat.now = subst (λ V. name_at V c.unwrap-seat.result ≡ c.args.seat.now) old (number_name W c.args.seat.now c.unwrap-seat.result (sym (c.get.ensures.value ∙ ap (id_of W) c.as_bytes.ensures) ∙ c.unwrap-seat.ensures)) in
    let x : name_at O c.unwrap-class.result ≡ c.args.class.now = subst (λ V. name_at V c.unwrap-class.result ≡ c.args.class.now) old (number_name W c.args.class.now c.unwrap-class.result (sym (c.get-2.ensures.value ∙ ap (id_of W) c.as_bytes-2.ensures) ∙ c.unwrap-class.ensures)) in
    IfOk-weaker _ _ _ (λ other e. seat_as_named O N (name_at O c.unwrap-seat.result) c.args.seat.now (name_at O c.unwrap-class.result) c.args.class.now (option_copied other) a x e) c.other_seat.ensures
