-- What a finding that stands says, rule by rule.
use Rattle.std.proofs.Common.{◌≡◌, ℕ, Bool, true, false, cond, List, [], ◌∷◌, refl, sym, ◌∙◌, ap, subst, Option, Some, None, not, ◌&&◌, ◌==◌, ◌⊎◌, inl, inr, is_some, is_none, Contains}
use Rattle.std.proofs.lemmas.Bool.{and_parts, and_from, and_right, or_cases, or_right}
use Rattle.std.specs.List.{list_all, list_any}
use Rattle.std.proofs.lemmas.Map.Views.{exact_unsigned_eq}
use Rattle.std.proofs.lemmas.List.Elements.{Contains-push, Contains-append_left, Contains-append_right}
use Rattle.jc_facts.specs.declared.act.Act.{Act}
use Rattle.jc_facts.specs.declared.act.Act.TheVariants as act
use Rattle.jc_facts.specs.declared.finding.Finding.{Finding}
use Rattle.jc_facts.specs.declared.key.Key.{Key}
use Rattle.jc_facts.specs.declared.link_error.LinkError.{LinkError}
use Rattle.jc_facts.specs.declared.link_error.LinkError.TheVariants.{IncompatibleClassChangeError, VerifyError, NoSuchMethodError}
use Rattle.jc_facts.specs.Names.{Bytes, same, object_name}
use Rattle.jc_facts.specs.Options.{or_else, and_then}
use Rattle.jc_facts.specs.world.World.{World, classes}
use Rattle.jc_facts.specs.world.Hierarchy.{in_chain}
use Rattle.jc_facts.specs.world.Lookup.{public_method_of_object}
use Rattle.jc_facts.specs.world.Assignment.{is_interface_of}
use Rattle.jc_promises.specs.rule.Bases.{is_class_usable, is_kept, is_steady, is_class_closed, is_base_class, is_base_interface, is_key_of_method}
use Rattle.jc_facts.specs.world.Inheritance.{is_final_in_chain, inherits}
use Rattle.jc_promises.specs.rule.OpenActs.{field_acts, method_acts, closed_act, first_seat}
use Rattle.jc_facts.specs.ByName.{least}
use Rattle.jc_promises.specs.rule.Findings.{Subject, report, report_where, takes_part, assign_finding, handed_finding, gone_error, new_broken, init_broken, act_finding, first_act, finds_overridable, class_gone, class_closed, interface_became_class, superclass_lost, constructor_closed, method_made_final, field_closed, method_closed, interface_method_lost, finding_by, finding_at, Stands, subject_of}
use Rattle.jc_facts.proofs.Options.{or_else-cases}
use Rattle.jc_facts.specs.world.Loading.{loads}
use Rattle.jc_promises.specs.rule.Apart.{are_apart, other_seat}
use Rattle.jc_promises.specs.rule.Exposed.{is_hidden, exposes, references, is_exposed}
use Rattle.jc_promises.specs.plan.Planned.{is_out_of}
use Rattle.jc_lemmas.proofs.Bools.{neither_last, and_false}
use Rattle.jc_sound.proofs.OpenActs.{least-passes, first_seat-none}
use Rattle.jc_sound.proofs.OpenActs.{IsSeat as IsSeatThere}
use Rattle.jc_complete.proofs.PlanBase.{base_parts}

-- a finding of these parts
abbrev pub made : ℕ → Bytes → Option Key → Option Bytes → Act → Option Bytes → LinkError → Finding
made n x k t a s e = record { rule = n; «class» = x; key = k; target = t; act = a; seat = s; error = e }

abbrev on : ℕ → Bytes → Option Key → Option Bytes → Subject
on n x k t = record { rule = n; class = x; key = k; target = t }

reported : (b : Bool) (n : ℕ) (x : Bytes) (k : Option Key) (t : Option Bytes) (a : Act) (e : LinkError) (f : Finding) → report_where b (on n x k t) a e ≡ Some f → (b ≡ true) × (made n x k t a None e ≡ f)
reported false n x k t a e f h = absurd (cc)
reported true n x k t a e f h = (refl, let w : made n x k t a None e ≡ f = cc in w)

-- the finding on a subject of this rule
abbrev Of : World → World → ℕ → Finding → Type 0
Of O N n f = finding_by O N (on n f.«class» f.key f.target) f.key f.target ≡ Some f

of_rule : (O N : World) (n : ℕ) (f : Finding) → f.rule ≡ n → Stands O N f → Of O N n f
unfolding finding_at
of_rule O N n f e h = subst (λ n. Of O N n f) e h

-- java/lang/Object or a base class
abbrev pub IsSeat : World → World → Bytes → Type 0
IsSeat O N s = (s ≡ object_name) ⊎ (is_base_class O N s ≡ true)

-- of a finding on an assignment: the classes are kept, or there is a seat, and each of them is kept or exposed to it
abbrev pub TakePart : World → World → List Bytes → Option Bytes → Type 0
TakePart O N xs None = list_all (is_kept O N) xs ≡ true
TakePart O N xs (Some a) = IsSeat O N a × (list_all (takes_part O N a) xs ≡ true)

-- ---- two seats

-- the class s is exposed to the seat a, and t not to it, but to another one that is apart
pub record AreHanded (O N : World) (s t a : Bytes) : Type 0 where
  pub first : IsSeat O N a
  pub shown : is_exposed O a s ≡ true
  pub out : is_out_of O a t ≡ true
  pub other : Bytes
  pub is_other : other_seat O N a t ≡ Some other
  pub second : IsSeat O N other
  pub exposed : is_exposed O other t ≡ true
  pub apart : are_apart O N a other ≡ true

-- of a superclass t of s that is lost: both take part, without a seat or by one, or there are two seats
abbrev pub LostTo : World → World → Bytes → Bytes → Option Bytes → Type 0
LostTo O N s t None = TakePart O N (s ∷ t ∷ []) None
LostTo O N s t (Some a) = TakePart O N (s ∷ t ∷ []) (Some a) ⊎ AreHanded O N s t a

to_one : (O N : World) (s t : Bytes) (o : Option Bytes) → TakePart O N (s ∷ t ∷ []) o → LostTo O N s t o
to_one O N s t None h = h
to_one O N s t (Some a) h = inl h

-- the first seat that passes is one, and passes
pub first_seat-is : (O N : World) (test : Bytes → Bool) (s : Bytes) → first_seat O N test ≡ Some s → IsSeat O N s × (test s ≡ true)
first_seat-is O N test s e = go (test object_name) refl e
  where
    go : (b : Bool) → test object_name ≡ b → cond b (Some object_name) (least (λ a. is_base_class O N a && test a) (classes O)) ≡ Some s → IsSeat O N s × (test s ≡ true)
    go true p q = let k : object_name ≡ s = cc in (inl (sym k), subst (λ z. test z ≡ true) k p)
    go false p q = let w = and_parts (is_base_class O N s) (test s) (least-passes (λ a. is_base_class O N a && test a) (classes O) s q) in (inr w.0, w.1)

-- a seat is there
seat_there : (O N : World) (a : Bytes) → IsSeat O N a → IsSeatThere O N a
seat_there O N a (inl e) = inl e
seat_there O N a (inr h) = let b = base_parts O N a h in inr (h, (b.was.class, b.was.is_there))

-- what takes part by a seat isn't out of it
pub not_out : (O N : World) (a t : Bytes) → takes_part O N a t ≡ true → is_out_of O a t ≡ false
unfolding is_hidden is_kept
not_out O N a t h = go (or_cases (is_class_usable O t && is_class_usable N t) (is_exposed O a t) h)
  where
    go : ((is_class_usable O t && is_class_usable N t) ≡ true) ⊎ (is_exposed O a t ≡ true) → (loads O t && not (is_class_usable O t) && not (is_exposed O a t)) ≡ false
    go (inl k) = rw ((and_parts (is_class_usable O t) (is_class_usable N t) k).0, and_right (loads O t) false refl) refl
    go (inr k) = rw k (and_right (loads O t && not (is_class_usable O t)) false refl)

-- where s is exposed to the seat, and both don't take part by it, t is out of it
are_handed : (O N : World) (s t a : Bytes) → IsSeat O N a → is_exposed O a s ≡ true → (b : Bytes) → other_seat O N a t ≡ Some b → list_all (takes_part O N a) (s ∷ t ∷ []) ≡ false → AreHanded O N s t a
unfolding other_seat is_exposed
are_handed O N s t a i shown b e h = record {
  first = i;
  shown = shown;
  out = and_from (is_hidden O t) (not (is_exposed O a t)) (and_parts (is_hidden O t) (list_any (exposes O b t) (references O)) q.0).0 (ap not not_exposed);
  other = b;
  is_other = e;
  second = p.0;
  exposed = q.0;
  apart = q.1;
}
  where
    p : IsSeat O N b × ((is_exposed O b t && are_apart O N a b) ≡ true)
    p = first_seat-is O N (λ b. is_exposed O b t && are_apart O N a b) b e

    q : (is_exposed O b t ≡ true) × (are_apart O N a b ≡ true)
    q = and_parts (is_exposed O b t) (are_apart O N a b) p.1

    not_exposed : is_exposed O a t ≡ false
    not_exposed = neither_last (is_kept O N t) (is_exposed O a t) (first_false (takes_part O N a t) (and_false (takes_part O N a s) (takes_part O N a t && true) h (or_right (is_kept O N s) (is_exposed O a s) shown)))
      where
        first_false : (b : Bool) → (b && true) ≡ false → b ≡ false
        first_false true z = absurd (cc)
        first_false false z = refl

module _ (O N : World) (f : Finding) where
  abbrev x : Bytes
  x = f.«class»

  abbrev By : ℕ → Option Key → Option Bytes → Type 0
  By n k t = finding_by O N (on n x k t) k t ≡ Some f

  pub record ClassGone : Type 0 where
    pub stands : (is_class_usable O x && not (is_class_usable N x)) ≡ true
    pub is : made 1 x None None act.ClassRef None (gone_error N x) ≡ f

  pub by_class_gone : f.rule ≡ 1 → Stands O N f → ClassGone
  unfolding class_gone
  by_class_gone e h = go f.key f.target (of_rule O N 1 f e h)
    where
      go : (k : Option Key) (t : Option Bytes) → By 1 k t → ClassGone
      go None None q = let w = reported (is_class_usable O x && not (is_class_usable N x)) 1 x None None act.ClassRef (gone_error N x) f q in record { stands = w.0; is = w.1 }
      go None (Some t) q = absurd (let z : None ≡ Some f = q in cc)
      go (Some k) None q = absurd (let z : None ≡ Some f = q in cc)
      go (Some k) (Some t) q = absurd (let z : None ≡ Some f = q in cc)

  abbrev kind : Act
  kind = cond (is_interface_of O x) act.Implement act.Extend

  pub record ClassClosed : Type 0 where
    pub stands : is_class_closed O N x ≡ true
    pub is : made 2 x None None kind None IncompatibleClassChangeError ≡ f

  pub by_class_closed : f.rule ≡ 2 → Stands O N f → ClassClosed
  unfolding class_closed
  by_class_closed e h = go f.key f.target (of_rule O N 2 f e h)
    where
      go : (k : Option Key) (t : Option Bytes) → By 2 k t → ClassClosed
      go None None q = let w = reported (is_class_closed O N x) 2 x None None kind IncompatibleClassChangeError f q in record { stands = w.0; is = w.1 }
      go None (Some t) q = absurd (let z : None ≡ Some f = q in cc)
      go (Some k) None q = absurd (let z : None ≡ Some f = q in cc)
      go (Some k) (Some t) q = absurd (let z : None ≡ Some f = q in cc)

  -- a finding on an assignment
  assigned : (n : ℕ) (t : Option Bytes) (xs : List Bytes) → assign_finding O N (on n x None t) xs ≡ Some f → (s : Option Bytes) × TakePart O N xs s × (made n x None t act.Assignment s VerifyError ≡ f)
  unfolding assign_finding and_then
  assigned n t xs h = go (list_all (is_kept O N) xs) refl h
    where
      with_seat : (o : Option Bytes) → first_seat O N (λ a. list_all (takes_part O N a) xs) ≡ o → and_then (λ a. report (on n x None t) act.Assignment (Some a) VerifyError) o ≡ Some f
          → (s : Option Bytes) × TakePart O N xs s × (made n x None t act.Assignment s VerifyError ≡ f)
      with_seat None e q = absurd (let z : None ≡ Some f = q in cc)
      with_seat (Some a) e q = (Some a, first_seat-is O N (λ a. list_all (takes_part O N a) xs) a e, let w : made n x None t act.Assignment (Some a) VerifyError ≡ f = cc in w)

      go : (b : Bool) → list_all (is_kept O N) xs ≡ b
          → cond b (report (on n x None t) act.Assignment None VerifyError) (and_then (λ a. report (on n x None t) act.Assignment (Some a) VerifyError) (first_seat O N (λ a. list_all (takes_part O N a) xs))) ≡ Some f
          → (s : Option Bytes) × TakePart O N xs s × (made n x None t act.Assignment s VerifyError ≡ f)
      go true e q = (None, e, let w : made n x None t act.Assignment None VerifyError ≡ f = cc in w)
      go false e q = with_seat (first_seat O N (λ a. list_all (takes_part O N a) xs)) refl q

  -- what is found where a test holds
  found_where : (b : Bool) (o : Option Finding) → cond b o None ≡ Some f → (b ≡ true) × (o ≡ Some f)
  found_where true o h = (refl, h)
  found_where false o h = absurd (cc)

  pub record InterfaceBecameClass : Type 0 where
    pub stands : (is_interface_of O x && not (is_interface_of N x)) ≡ true
    pub seat : Option Bytes
    pub parts : TakePart O N (x ∷ []) seat
    pub is : made 3 x None None act.Assignment seat VerifyError ≡ f

  pub by_interface_became_class : f.rule ≡ 3 → Stands O N f → InterfaceBecameClass
  unfolding interface_became_class
  by_interface_became_class e h = go f.key f.target (of_rule O N 3 f e h)
    where
      go : (k : Option Key) (t : Option Bytes) → By 3 k t → InterfaceBecameClass
      go None None q =
          let w = found_where (is_interface_of O x && not (is_interface_of N x)) (assign_finding O N (on 3 x None None) (x ∷ [])) q in
          let p = assigned 3 None (x ∷ []) w.1 in
          record { stands = w.0; seat = p.0; parts = p.1; is = p.2 }
      go None (Some t) q = absurd (let z : None ≡ Some f = q in cc)
      go (Some k) None q = absurd (let z : None ≡ Some f = q in cc)
      go (Some k) (Some t) q = absurd (let z : None ≡ Some f = q in cc)

  -- where both take part by no one seat
  handed : (t : Bytes) → assign_finding O N (on 4 x None (Some t)) (x ∷ t ∷ []) ≡ None → handed_finding O N (on 4 x None (Some t)) t ≡ Some f
      → (a : Bytes) × AreHanded O N x t a × (made 4 x None (Some t) act.Assignment (Some a) VerifyError ≡ f)
  unfolding assign_finding handed_finding and_then
  handed t none h = go (first_seat O N serves) refl h
    where
      serves : Bytes → Bool
      serves a = is_exposed O a x && is_some (other_seat O N a t)

      both : Bytes → Bool
      both a = list_all (takes_part O N a) (x ∷ t ∷ [])

      -- no one seat serves
      no_one : first_seat O N both ≡ None
      no_one = by (list_all (is_kept O N) (x ∷ t ∷ [])) none
        where
          no_seat : (o : Option Bytes) → and_then (λ a. report (on 4 x None (Some t)) act.Assignment (Some a) VerifyError) o ≡ None → o ≡ None
          no_seat None q = refl
          no_seat (Some a) q = absurd (cc)

          by : (b : Bool) → cond b (report (on 4 x None (Some t)) act.Assignment None VerifyError) (and_then (λ a. report (on 4 x None (Some t)) act.Assignment (Some a) VerifyError) (first_seat O N both)) ≡ None → first_seat O N both ≡ None
          by true q = absurd (cc)
          by false q = no_seat (first_seat O N both) q

      apart_from : (a : Bytes) → IsSeat O N a → is_exposed O a x ≡ true → (o : Option Bytes) → other_seat O N a t ≡ o → is_some o ≡ true → AreHanded O N x t a
      apart_from a i shown None e k = absurd (cc)
      apart_from a i shown (Some b) e k = are_handed O N x t a i shown b e (first_seat-none O N both no_one a (seat_there O N a i))

      go : (o : Option Bytes) → first_seat O N serves ≡ o → and_then (λ a. report (on 4 x None (Some t)) act.Assignment (Some a) VerifyError) o ≡ Some f → (a : Bytes) × AreHanded O N x t a × (made 4 x None (Some t) act.Assignment (Some a) VerifyError ≡ f)
      go None e q = absurd (let z : None ≡ Some f = q in cc)
      go (Some a) e q =
          let s = first_seat-is O N serves a e in
          let k = and_parts (is_exposed O a x) (is_some (other_seat O N a t)) s.1 in
          (a, apart_from a s.0 k.0 (other_seat O N a t) refl k.1, let w : made 4 x None (Some t) act.Assignment (Some a) VerifyError ≡ f = cc in w)

  pub record SuperclassLost : Type 0 where
    pub target : Bytes
    pub stands : (not (same x target) && in_chain O x target && not (in_chain N x target) && not (is_interface_of N target)) ≡ true
    pub seat : Option Bytes
    pub parts : LostTo O N x target seat
    pub is : made 4 x None (Some target) act.Assignment seat VerifyError ≡ f

  pub by_superclass_lost : f.rule ≡ 4 → Stands O N f → SuperclassLost
  unfolding superclass_lost or_else
  by_superclass_lost e h = go f.key f.target (of_rule O N 4 f e h)
    where
      lost : (t : Bytes) → (not (same x t) && in_chain O x t && not (in_chain N x t) && not (is_interface_of N t)) ≡ true → (o : Option Finding) → assign_finding O N (on 4 x None (Some t)) (x ∷ t ∷ []) ≡ o → or_else o (handed_finding O N (on 4 x None (Some t)) t) ≡ Some f → SuperclassLost
      lost t w None n q = let p = handed t n q in record { target = t; stands = w; seat = Some p.0; parts = inr p.1; is = p.2 }
      lost t w (Some g) n q = let p = assigned 4 (Some t) (x ∷ t ∷ []) (n ∙ q) in record { target = t; stands = w; seat = p.0; parts = to_one O N x t p.0 p.1; is = p.2 }

      go : (k : Option Key) (t : Option Bytes) → By 4 k t → SuperclassLost
      go None None q = absurd (let z : None ≡ Some f = q in cc)
      go None (Some t) q =
          let w = found_where (not (same x t) && in_chain O x t && not (in_chain N x t) && not (is_interface_of N t)) (or_else (assign_finding O N (on 4 x None (Some t)) (x ∷ t ∷ [])) (handed_finding O N (on 4 x None (Some t)) t)) q in
          lost t w.0 (assign_finding O N (on 4 x None (Some t)) (x ∷ t ∷ [])) refl w.1
      go (Some k) None q = absurd (let z : None ≡ Some f = q in cc)
      go (Some k) (Some t) q = absurd (let z : None ≡ Some f = q in cc)

  -- an error that is told with an act and a seat
  told : (n : ℕ) (k : Option Key) (a : Act) (s : Option Bytes) (o : Option LinkError) → and_then (report (on n x k None) a s) o ≡ Some f → (e : LinkError) × (o ≡ Some e) × (made n x k None a s e ≡ f)
  unfolding and_then
  told n k a s None h = absurd (cc)
  told n k a s (Some e) h = (e, refl, let w : made n x k None a s e ≡ f = cc in w)

  pub data ConstructorClosed : Type 0 where
    by_new : (k : Key) (e : LinkError) → new_broken O N x k ≡ Some e → made 5 x (Some k) None act.NewObject None e ≡ f → ConstructorClosed
    by_init : (k : Key) (e : LinkError) → init_broken O N x k ≡ Some e → made 5 x (Some k) None act.InitSuper None e ≡ f → ConstructorClosed

  pub by_constructor_closed : f.rule ≡ 5 → Stands O N f → ConstructorClosed
  unfolding constructor_closed
  by_constructor_closed e h = go f.key f.target (of_rule O N 5 f e h)
    where
      either : (k : Key) → (and_then (report (on 5 x (Some k) None) act.NewObject None) (new_broken O N x k) ≡ Some f) ⊎ (and_then (report (on 5 x (Some k) None) act.InitSuper None) (init_broken O N x k) ≡ Some f) → ConstructorClosed
      either k (inl q) = let w = told 5 (Some k) act.NewObject None (new_broken O N x k) q in by_new k w.0 w.1 w.2
      either k (inr q) = let w = told 5 (Some k) act.InitSuper None (init_broken O N x k) q in by_init k w.0 w.1 w.2

      go : (k : Option Key) (t : Option Bytes) → By 5 k t → ConstructorClosed
      go None None q = absurd (let z : None ≡ Some f = q in cc)
      go None (Some t) q = absurd (let z : None ≡ Some f = q in cc)
      go (Some k) None q = either k (or_else-cases (and_then (report (on 5 x (Some k) None) act.NewObject None) (new_broken O N x k)) (and_then (report (on 5 x (Some k) None) act.InitSuper None) (init_broken O N x k)) f q)
      go (Some k) (Some t) q = absurd (let z : None ≡ Some f = q in cc)

  pub record MethodMadeFinal : Type 0 where
    pub key : Key
    pub stands : (is_key_of_method key && is_base_class O N x && is_final_in_chain N x key && not (is_final_in_chain O x key) && finds_overridable O x key) ≡ true
    pub is : made 6 x (Some key) None act.Override None IncompatibleClassChangeError ≡ f

  pub by_method_made_final : f.rule ≡ 6 → Stands O N f → MethodMadeFinal
  unfolding method_made_final
  by_method_made_final e h = go f.key f.target (of_rule O N 6 f e h)
    where
      go : (k : Option Key) (t : Option Bytes) → By 6 k t → MethodMadeFinal
      go None None q = absurd (let z : None ≡ Some f = q in cc)
      go None (Some t) q = absurd (let z : None ≡ Some f = q in cc)
      go (Some k) None q = let w = reported (is_key_of_method k && is_base_class O N x && is_final_in_chain N x k && not (is_final_in_chain O x k) && finds_overridable O x k) 6 x (Some k) None act.Override IncompatibleClassChangeError f q in record { key = k; stands = w.0; is = w.1 }
      go (Some k) (Some t) q = absurd (let z : None ≡ Some f = q in cc)

  -- an act that is closed to a seat now
  pub record ClosedAct (n : ℕ) (k : Key) (acts : List Act) : Type 0 where
    pub act : Act
    pub listed : Contains acts act
    pub seat : Bytes
    pub is_seat : IsSeat O N seat
    pub error : LinkError
    pub closed : closed_act O N x k act seat ≡ Some error
    pub is : made n x (Some k) None act (Some seat) error ≡ f

  act_told : (n : ℕ) (k : Key) (a : Act) → act_finding O N (on n x (Some k) None) k a ≡ Some f → ClosedAct n k (a ∷ [])
  unfolding act_finding and_then
  act_told n k a h = go (first_seat O N (λ seat. is_some (closed_act O N x k a seat))) refl h
    where
      go : (o : Option Bytes) → first_seat O N (λ seat. is_some (closed_act O N x k a seat)) ≡ o → and_then (λ seat. and_then (report (on n x (Some k) None) a (Some seat)) (closed_act O N x k a seat)) o ≡ Some f → ClosedAct n k (a ∷ [])
      go None e q = absurd (cc)
      go (Some s) e q = let w = told n (Some k) a (Some s) (closed_act O N x k a s) q in
          record { act = a; listed = Contains-push [] a; seat = s; is_seat = (first_seat-is O N (λ seat. is_some (closed_act O N x k a seat)) s e).0; error = w.0; closed = w.1; is = w.2 }

  first_told : (n : ℕ) (k : Key) (acts : List Act) → first_act O N (on n x (Some k) None) k acts ≡ Some f → ClosedAct n k acts
  unfolding first_act
  first_told n k [] h = absurd (cc)
  first_told n k (a ∷ rest) h = go (or_else-cases (act_finding O N (on n x (Some k) None) k a) (first_act O N (on n x (Some k) None) k rest) f h) (first_told n k rest)
    where
      go : (act_finding O N (on n x (Some k) None) k a ≡ Some f) ⊎ (first_act O N (on n x (Some k) None) k rest ≡ Some f) → (first_act O N (on n x (Some k) None) k rest ≡ Some f → ClosedAct n k rest) → ClosedAct n k (a ∷ rest)
      go (inl q) r = let c = act_told n k a q in record { act = c.act; listed = Contains-append_left (a ∷ []) rest c.act c.listed; seat = c.seat; is_seat = c.is_seat; error = c.error; closed = c.closed; is = c.is }
      go (inr q) r = let c = r q in record { act = c.act; listed = Contains-append_right (a ∷ []) rest c.act c.listed; seat = c.seat; is_seat = c.is_seat; error = c.error; closed = c.closed; is = c.is }

  pub record FieldClosed : Type 0 where
    pub key : Key
    pub steady : is_steady O N x ≡ true
    pub acts : ClosedAct 7 key field_acts

  pub by_field_closed : f.rule ≡ 7 → Stands O N f → FieldClosed
  unfolding field_closed
  by_field_closed e h = go f.key f.target (of_rule O N 7 f e h)
    where
      go : (k : Option Key) (t : Option Bytes) → By 7 k t → FieldClosed
      go None None q = absurd (let z : None ≡ Some f = q in cc)
      go None (Some t) q = absurd (let z : None ≡ Some f = q in cc)
      go (Some k) None q = let w = found_where (is_steady O N x) (first_act O N (on 7 x (Some k) None) k field_acts) q in record { key = k; steady = w.0; acts = first_told 7 k field_acts w.1 }
      go (Some k) (Some t) q = absurd (let z : None ≡ Some f = q in cc)

  pub record MethodClosed : Type 0 where
    pub key : Key
    pub is_key : is_key_of_method key ≡ true
    pub steady : is_steady O N x ≡ true
    pub acts : ClosedAct 8 key method_acts

  pub by_method_closed : f.rule ≡ 8 → Stands O N f → MethodClosed
  unfolding method_closed
  by_method_closed e h = go f.key f.target (of_rule O N 8 f e h)
    where
      go : (k : Option Key) (t : Option Bytes) → By 8 k t → MethodClosed
      go None None q = absurd (let z : None ≡ Some f = q in cc)
      go None (Some t) q = absurd (let z : None ≡ Some f = q in cc)
      go (Some k) None q =
          let w = found_where (is_key_of_method k && is_steady O N x) (first_act O N (on 8 x (Some k) None) k method_acts) q in
          let p = and_parts (is_key_of_method k) (is_steady O N x) w.0 in
          record { key = k; is_key = p.0; steady = p.1; acts = first_told 8 k method_acts w.1 }
      go (Some k) (Some t) q = absurd (let z : None ≡ Some f = q in cc)

  pub record InterfaceMethodLost : Type 0 where
    pub key : Key
    pub stands : (is_key_of_method key && is_base_interface O N x && inherits O x key && not (inherits N x key) && is_none (public_method_of_object O key)) ≡ true
    pub is : made 9 x (Some key) None act.Inherit None NoSuchMethodError ≡ f

  pub by_interface_method_lost : f.rule ≡ 9 → Stands O N f → InterfaceMethodLost
  unfolding interface_method_lost
  by_interface_method_lost e h = go f.key f.target (of_rule O N 9 f e h)
    where
      go : (k : Option Key) (t : Option Bytes) → By 9 k t → InterfaceMethodLost
      go None None q = absurd (let z : None ≡ Some f = q in cc)
      go None (Some t) q = absurd (let z : None ≡ Some f = q in cc)
      go (Some k) None q = let w = reported (is_key_of_method k && is_base_interface O N x && inherits O x k && not (inherits N x k) && is_none (public_method_of_object O k)) 9 x (Some k) None act.Inherit NoSuchMethodError f q in record { key = k; stands = w.0; is = w.1 }
      go (Some k) (Some t) q = absurd (let z : None ≡ Some f = q in cc)

-- ---- one rule after the other

-- one of the tests passes where the choice gives something
pub chosen : {A : Type 0} (G : Type 0) (n m : ℕ) (o p : Option A) (x : A) → (n ≡ m → G) → (p ≡ Some x → G) → cond (n == m) o p ≡ Some x → G
chosen G n m o p x f g h = go (n == m) refl h
  where
    go : (b : Bool) → (n == m) ≡ b → cond b o p ≡ Some x → G
    go true e q = f (exact_unsigned_eq n m e)
    go false e q = g q

-- what holds of the findings of each rule
pub record OfRules (G : Finding → Type 0) (O N : World) : Type 0 where
  pub of_1 : (f : Finding) → f.rule ≡ 1 → Stands O N f → G f
  pub of_2 : (f : Finding) → f.rule ≡ 2 → Stands O N f → G f
  pub of_3 : (f : Finding) → f.rule ≡ 3 → Stands O N f → G f
  pub of_4 : (f : Finding) → f.rule ≡ 4 → Stands O N f → G f
  pub of_5 : (f : Finding) → f.rule ≡ 5 → Stands O N f → G f
  pub of_6 : (f : Finding) → f.rule ≡ 6 → Stands O N f → G f
  pub of_7 : (f : Finding) → f.rule ≡ 7 → Stands O N f → G f
  pub of_8 : (f : Finding) → f.rule ≡ 8 → Stands O N f → G f
  pub of_9 : (f : Finding) → f.rule ≡ 9 → Stands O N f → G f

-- holds of every finding: there are no other rules
pub of_each_rule : (G : Finding → Type 0) (O N : World) → OfRules G O N → (f : Finding) → Stands O N f → G f
unfolding finding_at
of_each_rule G O N r f s = go f.key f.target s
  where
    go : (k : Option Key) (t : Option Bytes) → finding_by O N (subject_of f) k t ≡ Some f → G f
    go None None q =
        chosen (G f) f.rule 1 _ _ f (λ n. r.of_1 f n s)
        (chosen (G f) f.rule 2 _ _ f (λ n. r.of_2 f n s)
        (chosen (G f) f.rule 3 _ _ f (λ n. r.of_3 f n s) (λ z. absurd (cc)))) q
    go None (Some t) q = chosen (G f) f.rule 4 _ _ f (λ n. r.of_4 f n s) (λ z. absurd (cc)) q
    go (Some k) None q =
        chosen (G f) f.rule 5 _ _ f (λ n. r.of_5 f n s)
        (chosen (G f) f.rule 6 _ _ f (λ n. r.of_6 f n s)
        (chosen (G f) f.rule 7 _ _ f (λ n. r.of_7 f n s)
        (chosen (G f) f.rule 8 _ _ f (λ n. r.of_8 f n s)
        (chosen (G f) f.rule 9 _ _ f (λ n. r.of_9 f n s) (λ z. absurd (cc)))))) q
    go (Some k) (Some t) q = absurd (cc)
