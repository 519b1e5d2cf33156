use Rattle.std.proofs.Common.{[], sym, ap}
use Rattle.std.specs.List.{cons_option}
use Rattle.std.specs.Str.{bytes_eq}
use Rattle.jc_acts.specs.Touched.{flag_at}
use Rattle.jc_desc.specs.Classes.{is_class, type_names}
use Rattle.jc_desc.specs.Views.{basic, type_view}
use Rattle.jc_exposed.proofs.NamedClasses.{lists_same}
use Rattle.jc_exposed.proofs.named.class_of.Goals as goal

pub returns-in-Class : goal.returns-in-Class
returns-in-Class c =
    lists_same c.args.table.now (flag_at c.args.wanted.now) (λ x. bytes_eq c.in-Class.name.now x) (λ x. type_names x (type_view c.args.of.now)) (cons_option c.wanted_class.result []) (λ x. sym (ap (λ b. is_class x (basic b)) c.in-Class.is))
    c.wanted_class.ensures
