use Rattle.std.proofs.Common.{◌≡◌, sym, subst}
use Rattle.jc_facts.specs.world.Access.{is_class_accessible}
use Rattle.jc_index.specs.Ids.{name_at}
use Rattle.jc_access.specs.declared.access.Seat.{Seat}
use Rattle.jc_access.specs.SeatAccess.{class_open}
use Rattle.jc_access.specs.Speaking.{SpeaksFor}
use Rattle.jc_access.proofs.Spoken.{class_spoken, nameable}
use Rattle.jc_access.proofs.access.class_access.Goals as goal

pub returns-in-Inside-clause-value : goal.returns-in-Inside-clause-value
returns-in-Inside-clause-value c = λ d f. subst (λ (s : Seat). c.is_accessible_from.result ≡ class_open c.args.table.now s d) (sym c.in-Inside.is) (c.is_accessible_from.ensures d f)

pub returns-in-Client-clause-value : goal.returns-in-Client-clause-value
returns-in-Client-clause-value c = λ d f. subst (λ (s : Seat). c.is_nameable.result ≡ class_open c.args.table.now s d) (sym c.in-Client.is) (nameable c.args.table.now (name_at c.args.table.now c.args.class) d c.is_nameable.result f c.is_nameable.ensures)

pub returns-in-Client-clause-clients : goal.returns-in-Client-clause-clients
returns-in-Client-clause-clients c = λ d f.
    subst (λ (s : Seat). SpeaksFor c.args.table.now s (λ V x. is_class_accessible V x d) c.is_nameable.result) (sym c.in-Client.is)
    (class_spoken c.args.table.now (name_at c.args.table.now c.in-Client.field-0) (name_at c.args.table.now c.args.class) d c.is_nameable.result f (nameable c.args.table.now (name_at c.args.table.now c.args.class) d c.is_nameable.result f c.is_nameable.ensures))
