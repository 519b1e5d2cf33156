-- Names that are kept beside a pool.
use Rattle.std.specs.Prelude.{◌≡◌}
use Rattle.std.specs.List.{All}
use Rattle.jc_pool.specs.steps.Bodies.{body_at}
use Rattle.jc_pool.specs.declared.long_names.LongNames.TheInside.{Inside}

-- each is the text at its index
abbrev pub AreLongNames : Inside → Type 0
AreLongNames l = All (λ n. n.name ≡ body_at l.pool.now n.index) l.made.items
