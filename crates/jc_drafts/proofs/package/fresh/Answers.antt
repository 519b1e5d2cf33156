use Rattle.std.proofs.Common.{◌≡◌, ◌<◌, ◌≤◌, ◌+◌, ℕ, true, false, List, sym, ap, ◌∙◌, arith}
use Rattle.jc_facts.specs.Names.{Bytes}
use Rattle.jc_facts.specs.world.Mentioned.{mentioned}
use Rattle.jc_promises.specs.plan.PlannedNames.{is_used, package_number}
use Rattle.jc_drafts.proofs.Packages.{here_free, go_on, at_end}
use Rattle.jc_drafts.proofs.package.fresh.Goals as goal

pub returns-then-not-branch : goal.returns-then-not-branch
returns-then-not-branch c =
    let names : List Bytes = mentioned c.args.sides.now.old c.args.sides.now.new in
    let below : c.loop-number.number < c.mention_count.result + c.mention_count-2.result = omega arith in
    let free : is_used names (package_number c.loop-number.number) ≡ false = ap (is_used names) (sym c.in_ok-package.ensures) ∙ sym c.in_ok-is_in_use.ensures ∙ c.if-not-branch.true in
    c.in_ok-package.ensures ∙ sym (here_free names (c.mention_count.result + c.mention_count-2.result) c.loop-number.number below free) ∙ c.loop-number.invariant

pub loop-number-preserved : goal.loop-number-preserved
loop-number-preserved c =
    let names : List Bytes = mentioned c.args.sides.now.old c.args.sides.now.new in
    let below : c.loop-number.number < c.mention_count.result + c.mention_count-2.result = omega arith in
    let used : is_used names (package_number c.loop-number.number) ≡ true = ap (is_used names) (sym c.in_ok-package.ensures) ∙ sym c.in_ok-is_in_use.ensures ∙ c.if-not-branch.false in
    sym (go_on names (c.mention_count.result + c.mention_count-2.result) c.loop-number.number below used) ∙ c.loop-number.invariant

pub returns : goal.returns
returns c =
    let count : ℕ = c.mention_count.result + c.mention_count-2.result in
    let past : c.mention_count.result + c.mention_count-2.result ≤ c.loop-number.number = omega arith in
    let last : c.mention_count.result + c.mention_count-2.result ≡ c.loop-number.number = omega arith in
    c.in_ok-package-2.ensures ∙ ap package_number last ∙ sym (at_end (mentioned c.args.sides.now.old c.args.sides.now.new) count c.loop-number.number past) ∙ c.loop-number.invariant
