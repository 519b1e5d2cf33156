-- Who takes part in an assignment: classes that clients may name, and hidden ones, with the acts that expose them.
use Rattle.std.proofs.Common.{◌≡◌, ◌≤◌, Bool, true, false, cond, List, [], ◌∷◌, ◌++◌, length, refl, sym, ◌∙◌, ap, subst, Some, None, not, ◌&&◌, ◌⊎◌, inl, inr, Contains, arith}
use Rattle.std.specs.List.{list_any, cons_option}
use Rattle.std.proofs.lemmas.Bool.{and_parts, or_cases}
use Rattle.std.proofs.lemmas.List.Elements.{Contains-append_left, Contains-append_right, Contains-push}
use Rattle.jc_desc.specs.Classes.{descriptor_names}
use Rattle.jc_facts.specs.declared.member_act.MemberAct.{MemberAct}
use Rattle.jc_facts.specs.declared.class_facts.ClassFacts.{ClassFacts}
use Rattle.jc_facts.specs.declared.act.Act.{Act}
use Rattle.jc_facts.specs.declared.act.Act.TheVariants as acts_of
use Rattle.jc_facts.specs.Names.{Bytes}
use Rattle.jc_facts.specs.world.World.{World, find_class}
use Rattle.jc_facts.specs.world.Loading.{load_fault, loads}
use Rattle.jc_promises.specs.rule.Bases.{is_class_usable, is_kept, is_key_of_method}
use Rattle.jc_promises.specs.rule.Findings.{takes_part}
use Rattle.jc_promises.specs.rule.OpenActs.{field_acts, method_acts, makes_objects, calls_init}
use Rattle.jc_promises.specs.rule.Exposed.{acts_on, is_hidden, exposes, references, is_exposed, exposing_act}
use Rattle.jc_promises.specs.plan.Planned.{acts_exposing, is_new_object, is_init_super}
use Rattle.jc_promises.proofs.Exposed.{IsOpenAct, on_member, by_new, by_init, IsExposing, exposed-act}
use Rattle.jc_lemmas.proofs.Listed.{each_in, none, EachOf}
use Rattle.jc_lemmas.proofs.Options.{none_where}
use Rattle.jc_worlds.proofs.Loaded.{loads-found}
use Rattle.jc_sound.proofs.Standing.{IsUsable, usable_parts, usable_from}
use Rattle.jc_complete.proofs.PlanInits.{AllValid}
use Rattle.jc_complete.proofs.PlanOpenActs.{IsOpen, open_on}
use Rattle.std.proofs.lemmas.List.Elements.{Contains-append_cases}

-- an act that exposes classes to the seat, on a class that was usable
pub data IsTaken (O : World) (a : Bytes) (s : MemberAct) : Type 0 where
  of_member : is_new_object s.act ≡ false → is_init_super s.act ≡ false → IsOpen O a s.«class» s.key s.act → IsTaken O a s
  of_new : s.act ≡ acts_of.NewObject → IsUsable O s.«class» → makes_objects O s.«class» s.key ≡ true → IsTaken O a s
  of_init : s.act ≡ acts_of.InitSuper → IsUsable O s.«class» → calls_init O a s.«class» s.key ≡ true → IsTaken O a s

pub taken_usable : (O : World) (a : Bytes) (s : MemberAct) → IsTaken O a s → IsUsable O s.«class»
taken_usable O a s (of_member n i o) = o.class
taken_usable O a s (of_new e u m) = u
taken_usable O a s (of_init e u m) = u

-- the acts that rules on fields and methods look at call no initializer
abbrev pub calls_none : Act → Type 0
calls_none what = (is_new_object what ≡ false) × (is_init_super what ≡ false)

pub no_call : (k : _) (what : Act) → Contains (acts_on k) what → calls_none what
no_call k what i = go (Contains-append_cases field_acts (cond (is_key_of_method k) method_acts []) what i)
  where
    of_fields : EachOf calls_none field_acts
    of_fields = ((refl, refl), ((refl, refl), ((refl, refl), ((refl, refl), tt))))

    of_methods : EachOf calls_none method_acts
    of_methods = ((refl, refl), ((refl, refl), ((refl, refl), ((refl, refl), tt))))

    method : (b : Bool) → Contains (cond b method_acts []) what → calls_none what
    method true j = each_in calls_none method_acts what of_methods j
    method false j = absurd (none what j)

    go : Contains field_acts what ⊎ Contains (cond (is_key_of_method k) method_acts []) what → calls_none what
    go (inl j) = each_in calls_none field_acts what of_fields j
    go (inr j) = method (is_key_of_method k) j

taken_by : (O : World) → AllValid O → (a : Bytes) (s : MemberAct) → IsUsable O s.«class» → IsOpenAct O a s.«class» s.key s.act → IsTaken O a s
taken_by O valid a s u (on_member l e) = let n = no_call s.key s.act l in of_member n.0 n.1 (open_on O valid a s.«class» s.key s.act u e l)
taken_by O valid a s u (by_new e m) = of_new e u m
taken_by O valid a s u (by_init e m) = of_init e u m

-- the acts are open to the seat
abbrev pub AreOpen : World → Bytes → List MemberAct → Type 0
AreOpen O a acts = EachOf (IsTaken O a) acts

-- a class of the side that loads, and that is usable or named by one of the acts
pub record IsReached (O : World) (acts : List MemberAct) (x : Bytes) : Type 0 where
  pub class : ClassFacts
  pub is_there : find_class O x ≡ Some class
  pub loaded : load_fault O x ≡ None
  pub reached : (is_class_usable O x ≡ true) ⊎ ((m : MemberAct) × Contains acts m × (descriptor_names m.key.descriptor x ≡ true))

pub reached_left : (O : World) (xs ys : List MemberAct) (x : Bytes) → IsReached O xs x → IsReached O (xs ++ ys) x
reached_left O xs ys x h = record { class = h.class; is_there = h.is_there; loaded = h.loaded; reached = go h.reached }
  where
    go : (is_class_usable O x ≡ true) ⊎ ((m : MemberAct) × Contains xs m × (descriptor_names m.key.descriptor x ≡ true)) → (is_class_usable O x ≡ true) ⊎ ((m : MemberAct) × Contains (xs ++ ys) m × (descriptor_names m.key.descriptor x ≡ true))
    go (inl p) = inl p
    go (inr m) = inr (m.0, Contains-append_left xs ys m.0 m.1, m.2)

pub reached_right : (O : World) (xs ys : List MemberAct) (x : Bytes) → IsReached O ys x → IsReached O (xs ++ ys) x
reached_right O xs ys x h = record { class = h.class; is_there = h.is_there; loaded = h.loaded; reached = go h.reached }
  where
    go : (is_class_usable O x ≡ true) ⊎ ((m : MemberAct) × Contains ys m × (descriptor_names m.key.descriptor x ≡ true)) → (is_class_usable O x ≡ true) ⊎ ((m : MemberAct) × Contains (xs ++ ys) m × (descriptor_names m.key.descriptor x ≡ true))
    go (inl p) = inl p
    go (inr m) = inr (m.0, Contains-append_right xs ys m.0 m.1, m.2)

-- a class that takes part: it is reached by its exposing act, if it needs one, which is open to the seat
pub record IsPart (O : World) (a x : Bytes) : Type 0 where
  pub opened : AreOpen O a (acts_exposing O a x)
  pub listed : EachOf (λ (s : MemberAct). IsOpenAct O a s.«class» s.key s.act) (acts_exposing O a x)
  pub reached : IsReached O (acts_exposing O a x) x
  pub few : length (acts_exposing O a x) ≤ 1

usable_says : (W : World) (x : Bytes) → IsUsable W x → is_class_usable W x ≡ true
usable_says W x u = usable_from W x u.class u.is_there u.visible u.public u.loaded

-- a usable class needs none
exposes_none : (O : World) (a x : Bytes) → IsUsable O x → acts_exposing O a x ≡ []
unfolding is_hidden
exposes_none O a x u = rw (usable_says O x u, u.loaded) refl

pub part_usable : (O : World) (a x : Bytes) → IsUsable O x → IsPart O a x
part_usable O a x u = record {
  opened = subst (AreOpen O a) (sym (exposes_none O a x u)) tt;
  listed = subst (EachOf (λ (s : MemberAct). IsOpenAct O a s.«class» s.key s.act)) (sym (exposes_none O a x u)) tt;
  reached = record { class = u.class; is_there = u.is_there; loaded = u.loaded; reached = inl (usable_says O x u) };
  few = rw (exposes_none O a x u) (omega arith);
}

-- a hidden one has one
pub part_exposed : (O : World) → AllValid O → (a x : Bytes) → is_exposed O a x ≡ true → IsPart O a x
unfolding is_exposed is_hidden
part_exposed O valid a x h = record {
  opened = subst (AreOpen O a) (sym is) (taken_by O valid a s.0 (usable_parts O s.0.«class» s.2.usable) s.2.is_open, tt);
  listed = subst (EachOf (λ (s : MemberAct). IsOpenAct O a s.«class» s.key s.act)) (sym is) (s.2.is_open, tt);
  reached = record { class = c.0; is_there = c.1; loaded = loaded; reached = inr (s.0, subst (λ ms. Contains ms s.0) (sym is) (Contains-push [] s.0), s.2.names) };
  few = rw is (omega arith);
}
  where
    hidden : (loads O x && not (is_class_usable O x)) ≡ true
    hidden = (and_parts (loads O x && not (is_class_usable O x)) (list_any (exposes O a x) (references O)) h).0

    loaded : load_fault O x ≡ None
    loaded = none_where (load_fault O x) (and_parts (loads O x) (not (is_class_usable O x)) hidden).0

    c : (c : ClassFacts) × (find_class O x ≡ Some c)
    c = loads-found O x loaded

    s : (s : MemberAct) × (exposing_act O a x ≡ Some s) × IsExposing O a x s
    s = exposed-act O a x h

    is : acts_exposing O a x ≡ s.0 ∷ []
    is = ap (λ (b : Bool). cond b (cons_option (exposing_act O a x) []) []) hidden ∙ ap (λ o. cons_option o []) s.1

pub part_of : (O N : World) → AllValid O → (a x : Bytes) → takes_part O N a x ≡ true → IsPart O a x
unfolding is_kept
part_of O N valid a x h = go (or_cases (is_class_usable O x && is_class_usable N x) (is_exposed O a x) h)
  where
    go : ((is_class_usable O x && is_class_usable N x) ≡ true) ⊎ (is_exposed O a x ≡ true) → IsPart O a x
    go (inl k) = part_usable O a x (usable_parts O x (and_parts (is_class_usable O x) (is_class_usable N x) k).0)
    go (inr s) = part_exposed O valid a x s
