-- What is kept beside a list of classes.
use Rattle.std.specs.Prelude.{◌≡◌}
use Rattle.jc_index.specs.MentionedNames.{AreMentionedNames}
use Rattle.jc_index.specs.steps.Order.{IsOrder, names_at}
use Rattle.jc_index.specs.declared.class_list.ClassList.TheInside.{Inside}

-- kept are the names of the classes as they stand, their order, and the names that they mention
pub record IsClassList (l : Inside) : Type 0 where
  pub names : l.names ≡ names_at l.classes.items
  pub order : IsOrder l.classes.items l.order.items
  pub mentioned : AreMentionedNames l.classes.items l.mentioned
