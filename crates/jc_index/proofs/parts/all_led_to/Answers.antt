use Rattle.std.proofs.Common.{◌≡◌, ◌∙◌, ◌++◌, List, Option, ℕ, length, take, drop, map, rules, sym, ap, subst}
use Rattle.std.proofs.Math.Seq.{take-append_seam}
use Rattle.jc_index.specs.declared.part.Part.{Part}
use Rattle.jc_index.specs.steps.Reach.{AllLedTo}
use Rattle.jc_index.specs.steps.Parts.{items_of}
use Rattle.jc_index.proofs.Shares.{parts-led}
use Rattle.jc_index.proofs.parts.all_led_to.Goals as goal

pub returns : goal.returns
returns c =
    let ids : List ℕ = c.make_all.new.ids.items in
    let parts : List (Option Part) = c.make_all.new.parts in
    let rest = drop (length parts) c.in_ok-parts.parts.items in
    let full : length parts ≡ c.in_ok-parts.parts.len = search rules in
    let whole : take c.in_ok-parts.parts.len (parts ++ rest) ≡ parts = ap (λ (n : ℕ). take n (parts ++ rest)) (sym full) ∙ take-append_seam parts rest in
    subst (λ (rows : List (List ℕ)). AllLedTo c.args.edges.now rows) (sym (c.new.ensures ∙ ap (map (items_of ids)) whole))
    (parts-led c.args.edges.now ids parts c.in_ok-make_all.ensures.parts c.in_ok-make_all.ensures.made)
