-- Classes that may have changed, and rules that make nothing of others.
use Rattle.std.proofs.Common.{◌≡◌, ◌∷◌, [], ℕ, Bool, true, false, cond, List, map, refl, sym, ◌∙◌, ap, subst, Option, None, Some, ◌&&◌}
use Rattle.std.specs.List.{filter, filter_map, cons_option}
use Rattle.std.proofs.lemmas.Bool.{and_parts, and_from}
use Rattle.std.proofs.lemmas.List.Elements.{All-from_recursion, recursion_from_All}
use Rattle.jc_acts.specs.Seats.{may_be_closed}
use Rattle.jc_facts.specs.declared.finding.Finding.{Finding}
use Rattle.jc_facts.specs.declared.key.Key.{Key}
use Rattle.jc_facts.specs.declared.verdict.Collision.{Collision}
use Rattle.jc_facts.specs.Names.{Bytes}
use Rattle.jc_facts.specs.Options.{some_where}
use Rattle.jc_promises.specs.rule.Bases.{is_steady, is_base_class, is_base_interface}
use Rattle.jc_facts.specs.Orders.{finding_order, collision_order}
use Rattle.jc_lemmas.proofs.Listed.{EachOf}
use Rattle.jc_declared.specs.steps.Changed.{changed_steady, changed_class, changed_interface}
use Rattle.jc_sides.specs.Members.{OfPassing}
use Rattle.jc_sides.specs.Rules.{key_finding, key_collision, IsFinding, IsCollision, IsItemRule}
use Rattle.jc_sides.specs.SharedOf.{IsShared, AreThose, OfKept, SharedOf, name_of}
use Rattle.jc_sides.specs.SidesOf.{SidesOf, AreSides}
use Rattle.jc_sides.proofs.ItemRules.{finding_rule, collision_rule}
use Rattle.jc_sides.proofs.Subjects.{IsOnKey}
use Rattle.jc_index.specs.Ids.{names}

-- ---- lists of them

module _ (p : Bytes → Bool) where
  abbrev pub if_passes : SharedOf → Option SharedOf
  if_passes b = some_where (p (name_of b)) b

  passing : (bs : List SharedOf) → map name_of (filter_map if_passes bs) ≡ filter p (map name_of bs)
  passing [] = refl
  passing (b ∷ bs) = go (p (name_of b)) (passing bs)
    where
      go : (t : Bool) → map name_of (filter_map if_passes bs) ≡ filter p (map name_of bs)
          → map name_of (cons_option (some_where t b) (filter_map if_passes bs)) ≡ cond t (name_of b ∷ filter p (map name_of bs)) (filter p (map name_of bs))
      go true r = ap (λ (xs : List Bytes). name_of b ∷ xs) r
      go false r = r

  twice : (test : Bytes → Bool) (xs : List Bytes) → filter p (filter test xs) ≡ filter (λ x. test x && p x) xs
  twice test [] = refl
  twice test (x ∷ xs) = go (test x) (twice test xs)
    where
      go : (t : Bool) → filter p (filter test xs) ≡ filter (λ y. test y && p y) xs → filter p (cond t (x ∷ filter test xs) (filter test xs)) ≡ cond (t && p x) (x ∷ filter (λ y. test y && p y) xs) (filter (λ y. test y && p y) xs)
      go true r = ap (λ (ys : List Bytes). cond (p x) (x ∷ ys) ys) r
      go false r = r

  each_passing : (P : SharedOf → Type 0) (bs : List SharedOf) → EachOf P bs → EachOf P (filter_map if_passes bs)
  each_passing P [] h = tt
  each_passing P (b ∷ bs) h = go (p (name_of b)) (each_passing P bs h.1)
    where
      go : (t : Bool) → EachOf P (filter_map if_passes bs) → EachOf P (cons_option (some_where t b) (filter_map if_passes bs))
      go true r = (h.0, r)
      go false r = r

  -- of all classes that pass a test, those that pass this one too
  pub those_too : (s : SidesOf) (test : Bytes → Bool) (bs cs : List SharedOf) → AreThose test s bs → cs ≡ filter_map if_passes bs → AreThose (λ x. test x && p x) s cs
  those_too s test bs cs h e =
      subst (AreThose (λ x. test x && p x) s) (sym e) (record {
        sides = h.sides;
        all = passing bs ∙ ap (filter p) h.all ∙ twice test (names s.old);
        shared = All-from_recursion (IsShared s) (filter_map if_passes bs) (each_passing (IsShared s) bs (recursion_from_All (IsShared s) bs h.shared));
      })

-- ---- what they are

module _ (s : SidesOf) (x : Bytes) where
  pub steady : changed_steady s x ≡ true → is_steady s.old s.new x ≡ true
  steady h = (and_parts (is_steady s.old s.new x) (may_be_closed s x) h).0

  pub base_class : changed_class s x ≡ true → is_base_class s.old s.new x ≡ true
  base_class h = (and_parts (is_base_class s.old s.new x) (may_be_closed s x) h).0

  pub base_interface : changed_interface s x ≡ true → is_base_interface s.old s.new x ≡ true
  base_interface h = (and_parts (is_base_interface s.old s.new x) (may_be_closed s x) h).0

-- ---- rules on classes that pass a test, which make nothing of one that hasn't changed

-- the test passes where something is made, if nothing is where it fails
pub holds_where : {F : Type 0} (b : Bool) (o : Option F) (f : F) → (b ≡ false → o ≡ None) → o ≡ Some f → b ≡ true
holds_where true o f n h = refl
holds_where false o f n h = absurd (let z : None ≡ Some f = sym (n refl) ∙ h in cc)

module _ (test : SidesOf → Bytes → Bool) (kept : OfKept test) where
  kept_too : OfKept (λ s x. test s x && may_be_closed s x)
  kept_too s x h = ap (λ (b : Bool). b && may_be_closed s x) (kept s x h)

  both : (s : SidesOf) (x : Bytes) → test s x ≡ true → (may_be_closed s x ≡ false → false ≡ true) → (test s x && may_be_closed s x) ≡ true
  both s x t f = and_from (test s x) (may_be_closed s x) t (go (may_be_closed s x) f)
    where
      go : (b : Bool) → (b ≡ false → false ≡ true) → b ≡ true
      go true f = refl
      go false f = f refl

  pub finding_of_changed : (r : ℕ) → IsOnKey r → ((s : SidesOf) (x : Bytes) (k : Key) (f : Finding) → key_finding r s x k ≡ Some f → test s x ≡ true)
      → ((s : SidesOf) → AreSides s → (x : Bytes) → test s x ≡ true → may_be_closed s x ≡ false → OfPassing (key_finding r s x) (λ k. false))
      → IsItemRule finding_order (λ f. f.«class») (key_finding r) (IsFinding r) (λ s x. test s x && may_be_closed s x)
  finding_of_changed r on passes none =
      finding_rule r on (λ s x. test s x && may_be_closed s x) kept_too (λ s are x k f e. let t = passes s x k f e in both s x t (λ free. none s are x t free k f e))

  pub collision_of_changed : (r : ℕ) → ((s : SidesOf) (x : Bytes) (k : Key) (c : Collision) → key_collision r s x k ≡ Some c → test s x ≡ true)
      → ((s : SidesOf) → AreSides s → (x : Bytes) → test s x ≡ true → may_be_closed s x ≡ false → OfPassing (key_collision r s x) (λ k. false))
      → IsItemRule collision_order (λ c. c.«class») (key_collision r) (IsCollision r) (λ s x. test s x && may_be_closed s x)
  collision_of_changed r passes none =
      collision_rule r (λ s x. test s x && may_be_closed s x) kept_too (λ s are x k c e. let t = passes s x k c e in both s x t (λ free. none s are x t free k c e))
