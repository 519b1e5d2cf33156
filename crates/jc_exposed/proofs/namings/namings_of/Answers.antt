use Rattle.std.proofs.Common.{◌==◌, ◌&&◌, ◌∷◌, false, refl, []}
use Rattle.jc_facts.specs.Names.{key_of}
use Rattle.jc_exposed.specs.Exposing.{every}
use Rattle.jc_exposed.specs.declared.namings.Naming.{Naming}
use Rattle.jc_exposed.proofs.GivenNamings.{gives_none, gives_next, gives_end, gives_one}
use Rattle.jc_exposed.proofs.namings.namings_of.Goals as goal

pub loop-id-init : goal.loop-id-init
loop-id-init c = gives_none every (λ g t. false) c.new-namings.result.items c.new-namings.ensures.items (λ g t o. refl)

pub loop-id-preserved : goal.loop-id-preserved
loop-id-preserved c =
    let n : Naming = record { key = c.in_ok-key_of_member.field-0; exposed = c.id-item.result } in
    gives_next every (λ id g t. (id == t) && g (key_of c.args.member.now)) c.args.ids.now c.loop-id.id-index c.id-item.result c.id-item.result c.loop-id.namings.items (n ∷ []) c.push.new.self.items c.loop-id-test.true c.id-item.is
    c.in_ok-push.ensures.items c.loop-id.invariant (gives_one every c.id-item.result (key_of c.args.member.now) n refl c.in_ok-key_of_member.ensures)

pub returns : goal.returns
returns c = gives_end every (λ id g t. (id == t) && g (key_of c.args.member.now)) c.args.ids.now c.loop-id.id-index c.loop-id.namings.items c.loop-id-test.false c.loop-id.invariant
