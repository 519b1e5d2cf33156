use Rattle.std.proofs.Common.{List, [], ◌∷◌, ◌++◌, sym, ap, subst, ◌∙◌, append_assoc}
use Rattle.std.proofs.lemmas.List.{append-nil}
use Rattle.std.specs.List.{filter_map}
use Rattle.jc_facts.specs.declared.key.Key.{Key}
use Rattle.jc_facts.specs.declared.verdict.Note.{Note}
use Rattle.jc_facts.specs.Exactly.{HasExactly}
use Rattle.jc_facts.specs.Orders.{note_order}
use Rattle.jc_sides.specs.SharedOf.{name_of}
use Rattle.jc_declared.specs.steps.Notes.{constant_note, OnConstants}
use Rattle.jc_declared.proofs.NoteConstant.{key_more, on_exact}
use Rattle.jc_declared.proofs.note_constant.on_keys.Goals as goal

pub loop-key-preserved : goal.loop-key-preserved
loop-key-preserved c =
    let i = c.loop-key.invariant in (
      i.0 ++ c.in-Some.key.now ∷ [],
      i.1 ∙ ap (λ (ks : List Key). i.0 ++ ks) c.in-Some.ensures.steps ∙ sym (append_assoc i.0 (c.in-Some.key.now ∷ []) c.next.new.self),
      key_more (constant_note c.args.sides.now (name_of c.args.class.now)) i.0 c.in-Some.key.now c.in_ok-note_on.field-0 c.loop-key.notes.items c.push_some.new.items.items
          i.2 c.in_ok-note_on.ensures c.in_ok-push_some.ensures,
    )

pub returns : goal.returns
returns c =
    let i = c.loop-key.invariant in
    let e = sym (i.1 ∙ ap (λ (ks : List Key). i.0 ++ ks) c.in-None.ensures.steps.0 ∙ append-nil i.0) in
    subst (λ (ns : List Note). HasExactly note_order (OnConstants c.args.sides.now (name_of c.args.class.now)) ns)
    (sym (i.2 ∙ ap (filter_map (constant_note c.args.sides.now (name_of c.args.class.now))) e))
    (on_exact c.args.sides.now c.requires.sides (name_of c.args.class.now) c.args.was.now c.keys-key-items.ensures.ordered c.requires.was)
