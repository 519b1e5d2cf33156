use Rattle.std.proofs.Common.{◌≡◌, ◌∷◌, ◌++◌, [], Bool, length, map, None, sym, ap, subst, ◌∙◌}
use Rattle.std.specs.List.{All}
use Rattle.jc_facts.specs.Names.{Bytes}
use Rattle.jc_facts.specs.world.Loading.{load_fault}
use Rattle.jc_facts.specs.world.World.{size}
use Rattle.jc_sides.specs.SharedOf.{IsShared, name_of}
use Rattle.jc_sides.specs.SidesOf.{SidesOf}
use Rattle.jc_acts.specs.Seats.{all_seats}
use Rattle.jc_acts.specs.Touched.{is_touched, passes_above, AreFlags}
use Rattle.jc_acts.specs.steps.Commons.{AreCommon}
use Rattle.jc_acts.proofs.Narrowed.{all_named, all_shared}
use Rattle.jc_acts.proofs.OpenToAll.{all_load}
use Rattle.jc_acts.proofs.seats.Seats.new.Goals as goal

pub touched-requires : goal.touched-requires
touched-requires c =
    let is : c.append.new.self.items ≡ c.root.result ∷ c.args.bases.items = c.in_ok-append.ensures.items ∙ ap (λ xs. xs ++ c.args.bases.items) (c.in_ok-push.ensures.items ∙ ap (λ xs. xs ++ c.root.result ∷ []) c.new-all.ensures.items) in
    subst (All (IsShared c.args.sides.now)) (sym c.as_slice.ensures.value) (all_shared c.args.sides.now c.root.result c.args.bases.items c.append.new.self.items c.root.ensures.shared c.requires is)

pub with_those_below-requires : goal.with_those_below-requires
with_those_below-requires c =
    subst (λ (t : SidesOf). length c.as_slice-2.result.now ≡ size t.old) (sym c.sides.view_is) (ap length c.as_slice-2.ensures.value ∙ c.in_ok-touched.ensures.count)

pub commons-requires-clause-seats : goal.commons-requires-clause-seats
commons-requires-clause-seats c =
    let is : c.append.new.self.items ≡ c.root.result ∷ c.args.bases.items = c.in_ok-append.ensures.items ∙ ap (λ xs. xs ++ c.args.bases.items) (c.in_ok-push.ensures.items ∙ ap (λ xs. xs ++ c.root.result ∷ []) c.new-all.ensures.items) in
    subst (λ (t : SidesOf). All (IsShared t) c.as_slice-3.result.now) (sym c.sides.view_is)
    (subst (All (IsShared c.args.sides.now)) (sym c.as_slice-3.ensures.value) (all_shared c.args.sides.now c.root.result c.args.bases.items c.append.new.self.items c.root.ensures.shared c.requires is))

pub commons-requires-clause-loads : goal.commons-requires-clause-loads
commons-requires-clause-loads c =
    let is : c.append.new.self.items ≡ c.root.result ∷ c.args.bases.items = c.in_ok-append.ensures.items ∙ ap (λ xs. xs ++ c.args.bases.items) (c.in_ok-push.ensures.items ∙ ap (λ xs. xs ++ c.root.result ∷ []) c.new-all.ensures.items) in
    let named = all_named c.args.sides.now c.root.result c.args.bases.items c.append.new.self.items c.root.ensures.name c.requires is in
    subst (λ (t : SidesOf). All (λ b. load_fault t.new (name_of b) ≡ None) c.as_slice-3.result.now) (sym c.sides.view_is)
    (subst (All (λ b. load_fault c.args.sides.now.new (name_of b) ≡ None)) (sym c.as_slice-3.ensures.value) (all_load c.args.sides.now c.requires.sides c.append.new.self.items named))

pub returns : goal.returns
returns c =
    let is : c.append.new.self.items ≡ c.root.result ∷ c.args.bases.items = c.in_ok-append.ensures.items ∙ ap (λ xs. xs ++ c.args.bases.items) (c.in_ok-push.ensures.items ∙ ap (λ xs. xs ++ c.root.result ∷ []) c.new-all.ensures.items) in
    let named = all_named c.args.sides.now c.root.result c.args.bases.items c.append.new.self.items c.root.ensures.name c.requires is in
    let touched : Bytes → Bool = is_touched c.args.sides.now (all_seats c.args.sides.now) in
    let flags : AreFlags c.args.sides.now.old touched c.in_ok-touched.touched.items =
    subst (λ xs. AreFlags c.args.sides.now.old (is_touched c.args.sides.now xs) c.in_ok-touched.touched.items) (ap (map name_of) c.as_slice.ensures.value ∙ named) c.in_ok-touched.ensures in
    record {
      sides = c.requires.sides;
      all = named;
      shared = all_shared c.args.sides.now c.root.result c.args.bases.items c.append.new.self.items c.root.ensures.shared c.requires is;
      closing =
          subst (λ (t : SidesOf). AreFlags t.old (passes_above t.old touched) c.in_ok-closing.closing.items) c.sides.view_is
          (c.in_ok-closing.ensures touched (subst (λ (t : SidesOf). AreFlags t.old touched c.as_slice-2.result.now) (sym c.sides.view_is) (subst (AreFlags c.args.sides.now.old touched) (sym c.as_slice-2.ensures.value) flags)));
      commons = subst (λ (t : SidesOf). AreCommon t.old t.new (all_seats c.args.sides.now) c.in_ok-commons.commons.items) c.sides.view_is (subst (λ xs. AreCommon c.sides.inside.old.now c.sides.inside.new.now xs c.in_ok-commons.commons.items) (ap (map name_of) c.as_slice-3.ensures.value ∙ named) c.in_ok-commons.ensures);
    }
