use Rattle.std.proofs.Common.{◌≡◌, ◌<◌, Bool, true, false, not, ◌&&◌, List, ℕ, length, is_some, refl, sym, ap, subst, ◌∙◌}
use Rattle.std.proofs.lemmas.Bool.{lt-leb}
use Rattle.std.specs.Str.{is_utf8}
use Rattle.jc_facts.specs.declared.limits.TheConstants.{MAX_CLASS_NAME}
use Rattle.jc_facts.specs.client.Allowed.{has_package, is_allowed_name}
use Rattle.jc_facts.specs.Names.{Bytes}
use Rattle.jc_facts.specs.world.Mentioned.{is_named_above}
use Rattle.jc_facts.specs.world.World.{World, find_class}
use Rattle.jc_sides.proofs.clients.is_allowed.Goals as goal

-- one of five tests that fails
fails : (a b c u : Bool) → false ≡ (a && b && c && false && u)
fails false b c u = refl
fails true false c u = refl
fails true true false u = refl
fails true true true u = refl

too_long : (W : World) (x : Bytes) → MAX_CLASS_NAME < length x → false ≡ is_allowed_name W x
unfolding is_allowed_name
too_long W x l =
    fails (not (is_some (find_class W x))) (not (is_named_above W x)) (not (has_package W x)) (is_utf8 x)
    ∙ ap (λ b. not (is_some (find_class W x)) && not (is_named_above W x) && not (has_package W x) && b && is_utf8 x) (sym (lt-leb (length x) MAX_CLASS_NAME l))

pub returns-then-bytes-gt-MAX_CLASS_NAME : goal.returns-then-bytes-gt-MAX_CLASS_NAME
returns-then-bytes-gt-MAX_CLASS_NAME c =
    too_long c.args.table.now c.args.name.now (subst (λ (x : List ℕ). MAX_CLASS_NAME < length x) c.as_bytes-bytes.ensures c.if-bytes-gt-MAX_CLASS_NAME.true)
