use Rattle.std.proofs.Common.{sym, ap, ◌∙◌}
use Rattle.jc_facts.specs.Names.{same}
use Rattle.jc_index.proofs.NameSets.{has_there, has_past}
use Rattle.jc_index.proofs.name_set.NameSet.has.Goals as goal

pub returns-in-Some : goal.returns-in-Some
returns-in-Some c =
    let found = c.in-Some.ensures.lookup in
    c.eq.ensures ∙ ap (λ x. same x c.args.name.now) c.as_bytes.ensures
    ∙ sym (has_there _ c.args.self.now c.rank.result c.rank.ensures.sorted c.rank.ensures.parts (rw (c.as_slice.ensures.value, c.self.view_is) at (found.3.0)) c.in-Some.first.now
    (sym (rw (c.as_slice.ensures.value, c.self.view_is) at (found.1))))

pub returns-in-None : goal.returns-in-None
returns-in-None c =
    sym (has_past _ c.args.self.now c.rank.result c.rank.ensures.sorted c.rank.ensures.parts (rw (c.as_slice.ensures.value, c.self.view_is) at (c.in-None.ensures.lookup.3)))
