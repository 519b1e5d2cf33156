-- Nest hosts by what the code looks at.
use Rattle.std.proofs.Common.{◌≡◌, ℕ, Bool, true, false, cond, ◌&&◌, refl, sym, ◌∙◌, ap, Option, Some, None}
use Rattle.jc_facts.specs.declared.class_facts.ClassFacts.{ClassFacts}
use Rattle.jc_facts.specs.Names.{Bytes, is_name_among, in_same_package}
use Rattle.jc_facts.specs.Options.{some_and}
use Rattle.jc_facts.specs.world.World.{World, find_class}
use Rattle.jc_facts.specs.world.Access.{host_if, named_host, host_by, host_of}
use Rattle.jc_index.specs.Ids.{name_at, id_of}
use Rattle.jc_index.proofs.Numbers.{id_of-Some, find-None}
use Rattle.jc_access.specs.steps.Nests.{takes_in}

pub found_by : (W : World) (x : Bytes) (n : ℕ) (c : ClassFacts) → Some n ≡ id_of W x → Some c ≡ find_class W (name_at W n) → find_class W x ≡ Some c
found_by W x n c i f = ap (find_class W) (sym (id_of-Some W x n (sym i)).1) ∙ sym f

pub takes-found : (W : World) (h x : Bytes) (n : ℕ) (c : ClassFacts) (p b : Bool) → Some n ≡ id_of W h → Some c ≡ find_class W (name_at W n) → p ≡ in_same_package x h → p ≡ true → b ≡ is_name_among c.nest_members x → b ≡ takes_in W h x
takes-found W h x n c p b i f e t g =
    g ∙ sym (ap (λ q. q && is_name_among c.nest_members x) (sym e ∙ t)) ∙ sym (ap (some_and (λ d. in_same_package x h && is_name_among d.nest_members x)) (found_by W h n c i f))

pub takes-none : (W : World) (h x : Bytes) → None ≡ id_of W h → false ≡ takes_in W h x
takes-none W h x i = sym (ap (some_and (λ d. in_same_package x h && is_name_among d.nest_members x)) (find-None W h (sym i)))

host_if-is : (x h : Bytes) (o : Option ClassFacts) → host_if x h o ≡ cond (some_and (λ d. in_same_package x h && is_name_among d.nest_members x) o) h x
host_if-is x h None = refl
host_if-is x h (Some d) = refl

module _ (W : World) (x : Bytes) (c : ClassFacts) (f : Some c ≡ find_class W x) where
  by_class : host_of W x ≡ named_host W x c.nest_host
  unfolding host_of
  by_class = ap (host_by W x) (sym f)

  by_name : (h : Bytes) → c.nest_host ≡ Some h → host_of W x ≡ cond (takes_in W h x) h x
  by_name h e = by_class ∙ ap (named_host W x) e ∙ host_if-is x h (find_class W h)

  pub host-taken : (h : Bytes) (b : Bool) → c.nest_host ≡ Some h → b ≡ takes_in W h x → b ≡ true → h ≡ host_of W x
  host-taken h b e t q = sym (by_name h e ∙ ap (λ s. cond s h x) (sym t ∙ q))

  pub host-left : (h : Bytes) (b : Bool) → c.nest_host ≡ Some h → b ≡ takes_in W h x → b ≡ false → x ≡ host_of W x
  host-left h b e t q = sym (by_name h e ∙ ap (λ s. cond s h x) (sym t ∙ q))

  pub host-none : c.nest_host ≡ None → x ≡ host_of W x
  host-none e = sym (by_class ∙ ap (named_host W x) e)
