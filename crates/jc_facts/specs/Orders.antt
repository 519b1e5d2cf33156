-- The orders of findings, collisions and notes.
use Rattle.std.specs.Prelude.{ℕ, Option, None, Some, if◌then◌else◌}
use Rattle.std.specs.declared.cmp.Ordering.{Ordering}
use Rattle.std.specs.Ordering.{nat_cmp, on, then_cmp}
use Rattle.std.specs.Option.{option_cmp}
use Rattle.jc_facts.specs.declared.key.Key.{Key}
use Rattle.jc_facts.specs.declared.finding.Finding.{Finding}
use Rattle.jc_facts.specs.declared.verdict.Collision.{Collision}
use Rattle.jc_facts.specs.declared.verdict.Note.{Note}
use Rattle.jc_facts.specs.declared.verdict.Note.TheVariants as note
use Rattle.jc_facts.specs.Names.{Bytes}
use Rattle.jc_facts.specs.KeyOrder.{key_cmp}
use Rattle.jc_facts.specs.Exactly.{name_order}

-- findings by rule, class, then key or target
abbrev pub finding_order : Finding → Finding → Ordering
finding_order = then_cmp (on (λ f. f.rule) nat_cmp) (then_cmp (on (λ f. f.«class») name_order)
    (then_cmp (on (λ f. f.key) (option_cmp key_cmp)) (on (λ f. f.target) (option_cmp name_order))))

-- collisions by rule, class, then key
abbrev pub collision_order : Collision → Collision → Ordering
collision_order = then_cmp (on (λ c. c.rule) nat_cmp) (then_cmp (on (λ c. c.«class») name_order) (on (λ c. c.key) key_cmp))

-- the group of a note: classes of the old release, then of the new, then constants
abbrev pub group_of : Note → ℕ
group_of (note.Unloadable old x e) = if old then 0 else 1
group_of (note.Fixed x k) = 2

-- the class of a note
abbrev pub noted_class : Note → Bytes
noted_class (note.Unloadable old x e) = x
noted_class (note.Fixed x k) = x

-- the key of a note on a constant
abbrev pub noted_key : Note → Option Key
noted_key (note.Unloadable old x e) = None
noted_key (note.Fixed x k) = Some k

-- notes by group, class, then key
abbrev pub note_order : Note → Note → Ordering
note_order = then_cmp (on group_of nat_cmp) (then_cmp (on noted_class name_order) (on noted_key (option_cmp key_cmp)))
