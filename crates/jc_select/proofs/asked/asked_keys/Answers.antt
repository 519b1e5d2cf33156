use Rattle.std.proofs.Common.{sym, ◌∙◌}
use Rattle.jc_sides.specs.SharedOf.{name_of}
use Rattle.jc_select.proofs.AskedKeys.{each_asked, none_asked}
use Rattle.jc_select.proofs.asked.asked_keys.Goals as goal

pub returns-then-not-may_close : goal.returns-then-not-may_close
returns-then-not-may_close c = none_asked c.args.sides.now c.requires.seats.sides (name_of c.args.class.now) c.requires.covered (sym c.may_close.ensures ∙ c.if-not-may_close.true) c.new.result.items

pub returns : goal.returns
returns c =
    each_asked c.args.sides.now (name_of c.args.class.now) c.requires.covered c.in_ok-keys.keys.items c.in_ok-above.above.items c.append.new.self.items
    c.in_ok-keys.ensures c.in_ok-above.ensures c.in_ok-append.ensures.items
