use Rattle.std.proofs.Common.{◌≡◌, length, slice_get, option_map, Some, sym, subst, ap, ◌∙◌, arith}
use Rattle.jc_rows.specs.Keys.{numbered_keys, IsNumber}
use Rattle.jc_sides.specs.SidesOf.{SidesOf}
use Rattle.jc_sides.proofs.TranslatedKeys.{starts, one_more, all_of, is_there}
use Rattle.jc_sides.proofs.translation.of_new.Goals as goal

pub loop-number-init : goal.loop-number-init
loop-number-init c = starts c.args.sides.now (numbered_keys c.args.sides.now.new) c.in_ok-numbers.numbers.items c.in_ok-numbers.ensures.items

pub unwrap-key-requires : goal.unwrap-key-requires
unwrap-key-requires c = is_there (numbered_keys c.sides.inside.new.now) c.loop-number.number c.key_at.result (λ k. k.now) (omega (arith, c.key_count-number-end.ensures.count)) c.key_at.ensures

pub loop-number-preserved : goal.loop-number-preserved
loop-number-preserved c =
    let e : slice_get (numbered_keys c.sides.inside.new.now) c.loop-number.number ≡ Some c.unwrap-key.result.now = sym c.key_at.ensures ∙ ap (option_map (λ k. k.now)) c.unwrap-key.ensures in
    let at : slice_get (numbered_keys c.args.sides.now.new) c.loop-number.number ≡ Some c.unwrap-key.result.now = subst (λ (s : SidesOf). slice_get (numbered_keys s.new) c.loop-number.number ≡ Some c.unwrap-key.result.now) c.sides.view_is e in
    one_more c.args.sides.now (numbered_keys c.args.sides.now.new) c.loop-number.number c.unwrap-key.result.now (record { new = Some c.loop-number.number; old = c.key_number-old.result }) c.loop-number.numbers.items c.push.new.self.items at
    (record { new = at; old = subst (λ (s : SidesOf). IsNumber (numbered_keys s.old) c.unwrap-key.result.now c.key_number-old.result) c.sides.view_is c.key_number-old.ensures.value })
    c.in_ok-push.ensures.items c.loop-number.invariant

pub returns : goal.returns
returns c =
    let v : length (numbered_keys c.sides.inside.new.now) ≡ length (numbered_keys c.args.sides.now.new) = ap (λ (s : SidesOf). length (numbered_keys s.new)) c.sides.view_is in
    all_of c.args.sides.now (numbered_keys c.args.sides.now.new) c.loop-number.number c.loop-number.numbers.items (omega (arith, v, c.key_count-number-end.ensures.count)) c.loop-number.invariant
