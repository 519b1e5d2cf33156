-- A name has no part against it exactly where it is allowed.
use Rattle.std.proofs.Common.{◌≡◌, Bool, true, false, not, refl, length, ◌&&◌}
use Rattle.std.specs.Prelude.{is_some, is_none, nat_le}
use Rattle.std.specs.Str.{is_utf8}
use Rattle.jc_facts.specs.Options.{or_else, some_where}
use Rattle.jc_facts.specs.world.World.{find_class}
use Rattle.jc_facts.specs.world.Mentioned.{is_named_above}
use Rattle.jc_facts.specs.client.Allowed.{has_package, is_allowed_name}
use Rattle.jc_link.specs.Refusals.{name_fault, NamesAreAllowed}
use Rattle.jc_link.specs.declared.refusal.ClientPart.TheVariants as parts

by_parts : (a b c d e : Bool)
    → is_none (or_else (some_where a parts.Declared) (or_else (some_where b parts.Super) (or_else (some_where c parts.Package) (or_else (some_where (not d) parts.Length) (some_where (not e) parts.Encoding)))))
    ≡ (not a && not b && not c && d && e)
unfolding or_else
by_parts true b c d e = refl
by_parts false true c d e = refl
by_parts false false true d e = refl
by_parts false false false false e = refl
by_parts false false false true true = refl
by_parts false false false true false = refl

pub names_are_allowed : NamesAreAllowed
unfolding name_fault is_allowed_name
names_are_allowed W x = by_parts (is_some (find_class W x)) (is_named_above W x) (has_package W x) (nat_le (length x) 4090) (is_utf8 x)
