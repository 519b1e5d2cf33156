use Rattle.std.proofs.Common.{◌≡◌, sym, ◌∙◌, subst}
use Rattle.jc_facts.specs.world.Access.{is_member_accessible}
use Rattle.jc_index.specs.Ids.{name_at}
use Rattle.jc_access.specs.declared.access.Seat.{Seat}
use Rattle.jc_access.specs.SeatAccess.{member_open}
use Rattle.jc_access.specs.Speaking.{SpeaksFor}
use Rattle.jc_access.proofs.Spoken.{member_spoken, found_inside}
use Rattle.jc_access.proofs.access.accessible.Goals as goal

pub returns-in-Inside-clause-value : goal.returns-in-Inside-clause-value
returns-in-Inside-clause-value c = λ m f.
    subst (λ (s : Seat). c.inside.result ≡ member_open c.args.table.now s (name_at c.args.table.now c.args.named) m) (sym c.in-Inside.is)
    (c.inside.ensures ∙ found_inside c.args.table.now (name_at c.args.table.now c.in-Inside.id) (name_at c.args.table.now c.args.named) c.args.found m f)

pub returns-in-Client-clause-clients : goal.returns-in-Client-clause-clients
returns-in-Client-clause-clients c = λ m f.
    subst (λ (s : Seat). SpeaksFor c.args.table.now s (λ V x. is_member_accessible V x (name_at c.args.table.now c.args.named) m) c.from_clients.result) (sym c.in-Client.is)
    (member_spoken c.args.table.now (name_at c.args.table.now c.in-Client.seat) c.args.named c.args.found m c.from_clients.result c.requires.named f c.from_clients.ensures)
