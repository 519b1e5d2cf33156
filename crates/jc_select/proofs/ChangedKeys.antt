-- Of other keys than those that were collected classes have the same, or have nothing.
use Rattle.std.proofs.Common.{◌≡◌, ◌<◌, ℕ, Bool, true, false, not, cond, ◌||◌, List, [], length, refl, sym, ◌∙◌, ap, Option, Some, None, is_some}
use Rattle.std.specs.Prelude.{slice_index_or}
use Rattle.std.specs.List.{find as first_where}
use Rattle.jc_facts.specs.declared.class_facts.ClassFacts.{ClassFacts}
use Rattle.jc_facts.specs.declared.class_facts.Member.{Member}
use Rattle.jc_facts.specs.declared.key.Key.{Key}
use Rattle.jc_facts.specs.declared.warning.ChainKind.{ChainKind}
use Rattle.jc_facts.specs.declared.warning.ChainKind.TheVariants.{Nothing, Abstract, Concrete}
use Rattle.jc_facts.specs.file.Valid.{has_key}
use Rattle.jc_facts.specs.Flags.{abstract_flag}
use Rattle.jc_facts.specs.Names.{is_key, key_of}
use Rattle.jc_facts.specs.Options.{some_and}
use Rattle.jc_facts.specs.world.Inheritance.{is_inheritable}
use Rattle.jc_facts.specs.world.World.{World, size, find_class, class_named, own_method_of}
use Rattle.jc_facts.proofs.KeySets.{key-same}
use Rattle.jc_lemmas.proofs.Bools.{neither_first, neither_last}
use Rattle.jc_lemmas.proofs.Lists.{found_passes}
use Rattle.jc_index.proofs.Numbers.{IsClass, class_at, id_of-Some}
use Rattle.jc_sides.specs.SidesOf.{SidesOf, AreSides}
use Rattle.jc_sides.specs.steps.KeySets.{AddsKeys, has_member}
use Rattle.jc_sides.proofs.KeySets.{some_member}
use Rattle.jc_acts.proofs.Untouched.{platform_record}
use Rattle.jc_index.specs.Ids.{name_at, id_of}
use Rattle.jc_select.specs.steps.Changes.{kind_at, same_kind, differs, HasChanged, HasNone}
use Rattle.jc_select.proofs.Chains.{own_kind, own_is}

one_kind : (a b : ChainKind) → not (same_kind a b) ≡ false → a ≡ b
one_kind Nothing Nothing h = refl
one_kind Nothing Abstract h = absurd (let clash : true ≡ false = h in cc)
one_kind Nothing Concrete h = absurd (let clash : true ≡ false = h in cc)
one_kind Abstract Nothing h = absurd (let clash : true ≡ false = h in cc)
one_kind Abstract Abstract h = refl
one_kind Abstract Concrete h = absurd (let clash : true ≡ false = h in cc)
one_kind Concrete Nothing h = absurd (let clash : true ≡ false = h in cc)
one_kind Concrete Abstract h = absurd (let clash : true ≡ false = h in cc)
one_kind Concrete Concrete h = refl

-- a class that declares no method of the key has nothing
undeclared : (k : Key) (c : ClassFacts) → own_method_of c k ≡ None → own_kind k c ≡ Nothing
undeclared k c e = ap (λ (o : Option Member). cond (some_and is_inheritable o) (cond (some_and (λ (m : Member). abstract_flag m.flags) o) Abstract Concrete) Nothing) e

-- the method of a key passes no test that none of the key passes
fails : (test : Member → Bool) (ms : List Member) (k : Key) (m : Member) → has_member test ms k ≡ false → first_where (is_key k) ms ≡ Some m → test m ≡ false
fails test ms k m h e = go (test m) refl
  where
    go : (b : Bool) → test m ≡ b → b ≡ false
    go false q = refl
    go true q = absurd (let clash : true ≡ false = sym (some_member test ms k (ap (some_and test) e ∙ q)) ∙ h in cc)

-- ---- all methods of a class

pub nothing_own : (W : World) (n : ℕ) (c : ClassFacts) (before after : List Key) → Some c ≡ find_class W (name_at W n) → AddsKeys (has_member (λ m. true) c.methods) before after → HasNone W n before after
nothing_own W n c before after f h = λ k e.
    let p : (has_key k before || has_member (λ m. true) c.methods k) ≡ false = sym (h.has k) ∙ e in (
      neither_first (has_key k before) (has_member (λ m. true) c.methods k) p,
      own_is W k n c (sym f) ∙ go k (own_method_of c k) refl (neither_last (has_key k before) (has_member (λ m. true) c.methods k) p),
    )
  where
    go : (k : Key) (o : Option Member) → own_method_of c k ≡ o → has_member (λ m. true) c.methods k ≡ false → own_kind k c ≡ Nothing
    go k None e q = undeclared k c e
    go k (Some m) e q = absurd (let clash : true ≡ false = fails (λ m. true) c.methods k m q e in cc)

-- ---- those of which a class has otherwise

module _ (s : SidesOf) (i j : ℕ) (c d : ClassFacts) (fc : Some c ≡ find_class s.old (name_at s.old i)) (fd : Some d ≡ find_class s.new (name_at s.new j)) where
  abbrev test : Member → Bool
  test m = differs s i j (key_of m)

  by : (k : Key) (m : Member) → is_key k m ≡ true → test m ≡ false → kind_at s.old k i ≡ kind_at s.new k j
  by k m e h = one_kind (kind_at s.old k i) (kind_at s.new k j) (ap (differs s i j) (sym (key-same k m e)) ∙ h)

  one : (k : Key) (o p : Option Member) → own_method_of c k ≡ o → own_method_of d k ≡ p → has_member test c.methods k ≡ false → has_member test d.methods k ≡ false → kind_at s.old k i ≡ kind_at s.new k j
  one k (Some m) p e f a b = by k m (found_passes (is_key k) c.methods m e) (fails test c.methods k m a e)
  one k None (Some m) e f a b = by k m (found_passes (is_key k) d.methods m f) (fails test d.methods k m b f)
  one k None None e f a b = own_is s.old k i c (sym fc) ∙ undeclared k c e ∙ sym (own_is s.new k j d (sym fd) ∙ undeclared k d f)

  pub changed_own : (none some all : List Key) → AddsKeys (has_member (λ m. differs s i j (key_of m)) c.methods) none some → AddsKeys (has_member (λ m. differs s i j (key_of m)) d.methods) some all → HasChanged s i j all
  changed_own none some all h g = λ k e.
      let p : (has_key k some || has_member test d.methods k) ≡ false = sym (g.has k) ∙ e in
      let q : (has_key k none || has_member test c.methods k) ≡ false = sym (h.has k) ∙ neither_first (has_key k some) (has_member test d.methods k) p in
      one k (own_method_of c k) (own_method_of d k) refl refl (neither_last (has_key k none) (has_member test c.methods k) q) (neither_last (has_key k some) (has_member test d.methods k) p)

  -- they declare the same methods
  pub unchanged_own : c.methods ≡ d.methods → (keys : List Key) → HasChanged s i j keys
  unchanged_own e keys = λ k n. own_is s.old k i c (sym fc) ∙ ap (λ (ms : List Member). kind_by_own k ms) e ∙ sym (own_is s.new k j d (sym fd))
    where
      kind_by_own : Key → List Member → ChainKind
      kind_by_own k ms = cond (some_and is_inheritable (first_where (is_key k) ms)) (cond (some_and (λ (m : Member). abstract_flag m.flags) (first_where (is_key k) ms)) Abstract Concrete) Nothing

-- a class of the platform has all as before
pub platform_keys : (s : SidesOf) → AreSides s → (i j : ℕ) → i < size s.old → is_some (class_named s.old.platform (name_at s.old i)) ≡ true → id_of s.new (name_at s.old i) ≡ Some j → (keys : List Key) → HasChanged s i j keys
platform_keys s are i j l h e keys = λ k n.
    let c : IsClass s.old (name_at s.old i) = class_at s.old i are.old_side.differ l in
    let t = id_of-Some s.new (name_at s.old i) j e in
    let f : find_class s.new (name_at s.new j) ≡ Some c.facts = ap (find_class s.new) t.1 ∙ sym (platform_record s are (name_at s.old i) h) ∙ c.found in
    own_is s.old k i c.facts c.found ∙ sym (own_is s.new k j c.facts f)

-- ---- of all classes

-- of the first n classes
pub record AreSoFar (s : SidesOf) (n : ℕ) (changes : List (List Key)) : Type 0 where
  pub count : length changes ≡ n
  pub right : (i j : ℕ) → i < n → id_of s.new (name_at s.old i) ≡ Some j → HasChanged s i j (slice_index_or changes i [])
