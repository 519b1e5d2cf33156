-- Rules that find something of a class and a key, and rules that make a collision of them.
use Rattle.std.proofs.Common.{◌≡◌, ℕ, Bool, true, false, cond, refl, sym, ◌∙◌, ap, subst, Option, Some, None, ◌==◌}
use Rattle.std.specs.Prelude.{IsTrue}
use Rattle.std.specs.declared.cmp.Ordering.TheVariants.{Less}
use Rattle.std.specs.Cmp.Lexicographic.{nat_list_cmp_total}
use Rattle.std.proofs.lemmas.Cmp.{nat_cmp_total, tied_itself}
use Rattle.jc_facts.specs.declared.act.Act.{Act}
use Rattle.jc_facts.specs.declared.finding.Finding.{Finding}
use Rattle.jc_facts.specs.declared.key.Key.{Key}
use Rattle.jc_facts.specs.declared.link_error.LinkError.{LinkError}
use Rattle.jc_facts.specs.declared.verdict.Collision.{Collision}
use Rattle.jc_promises.specs.rule.Collisions.{made_collision, collision_at}
use Rattle.jc_facts.specs.Exactly.{Before}
use Rattle.jc_facts.specs.KeyOrder.{key_cmp}
use Rattle.jc_facts.specs.Names.{Bytes}
use Rattle.jc_facts.specs.Options.{some_where}
use Rattle.jc_facts.specs.Orders.{finding_order, collision_order}
use Rattle.jc_promises.specs.rule.Bases.{is_kept}
use Rattle.jc_index.proofs.Numbers.{names-in}
use Rattle.jc_sides.specs.SharedOf.{OfKept}
use Rattle.jc_sides.specs.Rules.{on_key, key_finding, key_collision, IsFinding, IsCollision, IsItemRule, IsOf}
use Rattle.jc_sides.specs.SidesOf.{SidesOf, AreSides}
use Rattle.jc_sides.proofs.BaseParts.{kept_parts}
use Rattle.jc_sides.proofs.Subjects.{ordered_as, subject_key_before, finding_class_before, class_in, IsOnKey, of_key, to_key}

-- ---- classes

-- a class of which a rule speaks is kept
pub kept_where : (covers : SidesOf → Bytes → Bool) → OfKept covers → (s : SidesOf) (x : Bytes) → covers s x ≡ true → is_kept s.old s.new x ≡ true
kept_where covers kept s x c = go (is_kept s.old s.new x) refl
  where
    go : (b : Bool) → is_kept s.old s.new x ≡ b → b ≡ true
    go true e = refl
    go false e = absurd (let z : true ≡ false = sym c ∙ kept s x e in cc)

-- ---- findings

-- a rule that finds something of such classes alone
pub finding_rule : (r : ℕ) → IsOnKey r → (covers : SidesOf → Bytes → Bool) → OfKept covers → ((s : SidesOf) → AreSides s → (x : Bytes) (k : Key) (f : Finding) → key_finding r s x k ≡ Some f → IsTrue (covers s x))
    → IsItemRule finding_order (λ f. f.«class») (key_finding r) (IsFinding r) covers
finding_rule r i covers kept covered = record {
  stands = λ s x k f e. (to_key s r x k f e).1;
  made = λ s f p. of_key s r i f p;
  by_key = λ s x k l f g b e d. ordered_as (on_key r x k) (on_key r x l) f g (to_key s r x k f e).0 (to_key s r x l g d).0 (subject_key_before r x k l b);
  by_class = λ s f g p q b. finding_class_before f g (p.0 ∙ sym q.0) b;
  kept = λ s x c. kept_where covers kept s x c;
  on_covered = λ s are f p. let w = of_key s r i f p in (class_in s r f p, covered s are f.«class» w.0 f w.1);
}

-- ---- collisions

-- what is made passes the test
pub made_where : {F : Type 0} (b : Bool) (c d : F) → some_where b c ≡ Some d → (b ≡ true) × (c ≡ d)
made_where true c d e = (refl, let q : c ≡ d = cc in q)
made_where false c d e = absurd (cc)

-- what is there is of these parts
Has : ℕ → Bytes → Key → Option Collision → Type 0
Has rule x k o = (c : Collision) → o ≡ Some c → (c.rule ≡ rule) × (c.«class» ≡ x) × (c.key ≡ k)

none_has : (rule : ℕ) (x : Bytes) (k : Key) → Has rule x k None
unfolding Has
none_has rule x k c e = absurd (cc)

where_has : (rule : ℕ) (x : Bytes) (k : Key) (b : Bool) (a : Act) (e : LinkError) → Has rule x k (some_where b (made_collision rule x k a e))
unfolding Has
where_has rule x k true a e c h =
    let w : made_collision rule x k a e ≡ c = cc in
    (sym (ap (λ (d : Collision). d.rule) w), sym (ap (λ (d : Collision). d.«class») w), sym (ap (λ (d : Collision). d.key) w))
where_has rule x k false a e c h = absurd (cc)

cond_has : (rule : ℕ) (x : Bytes) (k : Key) (b : Bool) (o p : Option Collision) → Has rule x k o → Has rule x k p → Has rule x k (cond b o p)
cond_has rule x k true o p h l = h
cond_has rule x k false o p h l = l

parts_of : (s : SidesOf) (rule : ℕ) (x : Bytes) (k : Key) → Has rule x k (key_collision rule s x k)
unfolding collision_at
parts_of s rule x k =
    cond_has rule x k (rule == 10) _ _ (where_has rule x k _ _ _) (cond_has rule x k (rule == 11) _ _ (where_has rule x k _ _ _) (cond_has rule x k (rule == 12) _ None (where_has rule x k _ _ _) (none_has rule x k)))

has : (s : SidesOf) (rule : ℕ) (x : Bytes) (k : Key) (c : Collision) → key_collision rule s x k ≡ Some c → (c.rule ≡ rule) × (c.«class» ≡ x) × (c.key ≡ k)
unfolding Has
has s rule x k c e = parts_of s rule x k c e

collision_stands : (s : SidesOf) (rule : ℕ) (x : Bytes) (k : Key) (c : Collision) → key_collision rule s x k ≡ Some c → IsOf (λ (d : Collision). d.«class») (IsCollision rule s) x c
collision_stands s rule x k c e =
    let p = has s rule x k c e in
    (p.1, (p.0, moved c.rule c.«class» c.key p.0 p.1 p.2))
  where
    moved : (r : ℕ) (y : Bytes) (l : Key) → r ≡ rule → y ≡ x → l ≡ k → key_collision r s y l ≡ Some c
    moved r y l a b d = rw (a, b, d) e

-- where the rules and the classes are the same the keys decide
collision_key_before : (c d : Collision) → c.rule ≡ d.rule → c.«class» ≡ d.«class» → key_cmp c.key d.key ≡ Less → collision_order c d ≡ Less
collision_key_before c d a b h = rw (a, b, tied_itself nat_cmp_total d.rule, tied_itself nat_list_cmp_total d.«class», h) refl

-- of collisions of one rule the class decides
collision_class_before : (c d : Collision) → c.rule ≡ d.rule → Before c.«class» d.«class» → collision_order c d ≡ Less
collision_class_before c d e h = rw (e, tied_itself nat_cmp_total d.rule, h) refl

-- a rule that makes a collision of such classes alone
pub collision_rule : (r : ℕ) (covers : SidesOf → Bytes → Bool) → OfKept covers → ((s : SidesOf) → AreSides s → (x : Bytes) (k : Key) (c : Collision) → key_collision r s x k ≡ Some c → IsTrue (covers s x))
    → IsItemRule collision_order (λ c. c.«class») (key_collision r) (IsCollision r) covers
collision_rule r covers kept covered = record {
  stands = λ s x k c e. collision_stands s r x k c e;
  made = λ s c p. (c.key, itself s c p);
  by_key = λ s x k l c d b e g. by_keys s x k l c d b (has s r x k c e) (has s r x l d g);
  by_class = λ s c d p q b. collision_class_before c d (p.0 ∙ sym q.0) b;
  kept = λ s x c. kept_where covers kept s x c;
  on_covered = λ s are c p. let b = covered s are c.«class» c.key c (itself s c p) in (names-in s.old c.«class» ((kept_parts s c.«class» (kept_where covers kept s c.«class» b)).there), b);
}
  where
    itself : (s : SidesOf) (c : Collision) → IsCollision r s c → key_collision r s c.«class» c.key ≡ Some c
    itself s c p = subst (λ (n : ℕ). key_collision n s c.«class» c.key ≡ Some c) p.0 p.1

    by_keys : (s : SidesOf) (x : Bytes) (k l : Key) (c d : Collision) → key_cmp k l ≡ Less → (c.rule ≡ r) × (c.«class» ≡ x) × (c.key ≡ k) → (d.rule ≡ r) × (d.«class» ≡ x) × (d.key ≡ l) → collision_order c d ≡ Less
    by_keys s x k l c d b p q = collision_key_before c d (p.0 ∙ sym q.0) (p.1 ∙ sym q.1) (moved c.key d.key p.2 q.2)
      where
        moved : (i j : Key) → i ≡ k → j ≡ l → key_cmp i j ≡ Less
        moved i j u v = rw (u, v) b
