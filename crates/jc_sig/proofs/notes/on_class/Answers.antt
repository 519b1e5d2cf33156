use Rattle.std.proofs.Common.{◌≡◌, Some, sym, ◌∙◌}
use Rattle.jc_facts.specs.Names.{Bytes}
use Rattle.jc_facts.specs.world.World.{find_class}
use Rattle.jc_facts.proofs.World.{find-name}
use Rattle.jc_index.proofs.Numbers.{found-by, find-None}
use Rattle.jc_index.specs.Ids.{name_at}
use Rattle.jc_sig.proofs.SideNotes.{on_platform, on_none, on_hidden_old, on_hidden_new, on_both}
use Rattle.jc_sig.proofs.notes.on_class.Goals as goal

pub returns-then-in_platform : goal.returns-then-in_platform
returns-then-in_platform c =
    on_platform c.args.old.now c.args.new.now (name_at c.args.old.now c.args.id) c.requires.platform c.in_platform.result c.in_platform.ensures c.if-in_platform.true c.new.result.items c.new.ensures.items

pub returns-in_default : goal.returns-in_default
returns-in_default c =
    let x : Bytes = name_at c.args.old.now c.args.id in
    on_none c.args.old.now c.args.new.now x (find-None c.args.new.now x (sym c.in_default.ensures.value)) c.new-in_default.result.items c.new-in_default.ensures.items

pub returns-then-not-is_public : goal.returns-then-not-is_public
returns-then-not-is_public c =
    on_hidden_old c.args.old.now c.args.new.now (name_at c.args.old.now c.args.id) c.facts-was.result.now (sym c.facts-was.ensures) (sym c.is_public.ensures ∙ c.if-not-is_public.true)
    c.new-then-not-is_public.result.items c.new-then-not-is_public.ensures.items

pub returns-then-not-is_public-2 : goal.returns-then-not-is_public-2
returns-then-not-is_public-2 c =
    let x : Bytes = name_at c.args.old.now c.args.id in
    on_hidden_new c.args.old.now c.args.new.now x c.facts-now.result.now (found-by c.args.new.now x c.in-Some.after c.facts-now.result.now (sym c.in-Some.ensures.value) c.facts-now.ensures)
    (sym c.is_public-2.ensures ∙ c.if-not-is_public-2.true) c.new-then-not-is_public-2.result.items c.new-then-not-is_public-2.ensures.items

pub returns : goal.returns
returns c =
    let x : Bytes = name_at c.args.old.now c.args.id in
    let before : find_class c.args.old.now x ≡ Some c.facts-was.result.now = sym c.facts-was.ensures in
    let after : find_class c.args.new.now x ≡ Some c.facts-now.result.now = found-by c.args.new.now x c.in-Some.after c.facts-now.result.now (sym c.in-Some.ensures.value) c.facts-now.ensures in
    on_both c.args.old.now c.args.new.now x c.facts-was.result.now c.facts-now.result.now before after (sym c.is_public.ensures ∙ c.if-not-is_public.false) (sym c.is_public-2.ensures ∙ c.if-not-is_public-2.false)
    c.facts-was.result.now.name (find-name c.args.old.now x c.facts-was.result.now before) c.in_ok-notes.notes.items c.in_ok-notes.ensures
