use Rattle.std.proofs.Common.{◌==◌, ◌&&◌, subst}
use Rattle.std.specs.List.{list_any}
use Rattle.jc_acts.specs.Touched.{flag_at}
use Rattle.jc_desc.specs.Classes.{descriptor_names}
use Rattle.jc_facts.specs.Names.{key_of}
use Rattle.jc_exposed.specs.Exposing.{every}
use Rattle.jc_exposed.specs.Named.{Lists}
use Rattle.jc_exposed.specs.Namings.{Gives}
use Rattle.jc_exposed.proofs.OwnNamings.{own_member}
use Rattle.jc_exposed.proofs.own.own_of_member.Goals as goal

pub returns : goal.returns
returns c =
    own_member c.args.table.now c.args.wanted.now c.args.member.now.descriptor (key_of c.args.member.now) c.in_ok-ids.ids.items c.in_ok-namings.namings.items c.requires.wanted
    (subst (λ d. Lists c.args.table.now (flag_at c.args.wanted.now) (descriptor_names d) c.in_ok-ids.ids.items) c.as_bytes.ensures c.in_ok-ids.ensures)
    (subst (λ ids. Gives every (λ g t. list_any (λ id. (id == t) && g (key_of c.args.member.now)) ids) c.in_ok-namings.namings.items) c.as_slice.ensures.value c.in_ok-namings.ensures)
