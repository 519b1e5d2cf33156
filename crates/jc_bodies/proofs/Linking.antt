-- What an item that links says of the names in it, in a world of valid classes with short names.
use Rattle.std.proofs.Common.{◌≡◌, ◌≤◌, Bool, true, false, cond, not, ◌||◌, length, Option, Some, None, refl, sym, subst, ◌∙◌, arith, nat_le, min, lit≤}
use Rattle.std.specs.List.{list_all}
use Rattle.std.proofs.lemmas.Bool.{and_parts, le-leb, not-true}
use Rattle.jc_desc.specs.Names.{is_init_name, is_clinit_name}
use Rattle.jc_desc.specs.Pool.{names_used_method}
use Rattle.jc_desc.specs.Reading.{field_of, method_of, slots_of_method}
use Rattle.jc_desc.specs.Types.{Method, slots_of}
use Rattle.jc_facts.specs.declared.act.Act.{Act}
use Rattle.jc_facts.specs.declared.act.Act.TheVariants as acts
use Rattle.jc_facts.specs.declared.class_facts.ClassFacts.{ClassFacts}
use Rattle.jc_facts.specs.declared.class_facts.Member.{Member}
use Rattle.jc_facts.specs.declared.client.Item.TheVariants as item
use Rattle.jc_facts.specs.declared.client.Place.{Place}
use Rattle.jc_facts.specs.declared.key.Key.{Key}
use Rattle.jc_facts.specs.declared.link_error.LinkError.{LinkError}
use Rattle.jc_facts.specs.declared.link_error.LinkError.TheVariants.{NoSuchMethodError}
use Rattle.jc_facts.specs.client.Acts.{Form, FieldForm, form_of, is_act_on_static, is_act_on_field}
use Rattle.jc_facts.specs.written.Bodies.{tag_of_act, slots_or_none}
use Rattle.jc_facts.specs.Flags.{static_flag}
use Rattle.jc_facts.specs.world.Loading.{load_fault}
use Rattle.jc_facts.specs.Names.{Bytes, is_key, key_of}
use Rattle.jc_facts.specs.client.Outcome.{class_step, outcome, use_fault, init_key, instantiation_fault, array_fault}
use Rattle.jc_facts.specs.world.Types.{is_array_text}
use Rattle.jc_facts.specs.file.Valid.{IsValidClass}
use Rattle.jc_facts.specs.world.World.{World, find_class, DeclaredMember, own_field_of, own_method_of}
use Rattle.jc_promises.specs.plan.PlannedBodies.{zeros, params_of, param_of, taken_by}
use Rattle.jc_facts.specs.file.Attributes.{is_array_name}
use Rattle.jc_facts.specs.written.PoolEntries.{use_is_good}
use Rattle.jc_worlds.proofs.Alike.{step_loads}
use Rattle.jc_worlds.proofs.Declared.{IsDeclared}
use Rattle.jc_worlds.proofs.FieldActs.{IsField, field_found-declared}
use Rattle.jc_worlds.proofs.Inherited.{found_all}
use Rattle.jc_lemmas.proofs.Options.{cond-none}
use Rattle.jc_facts.proofs.Options.{or_else-none}
use Rattle.jc_worlds.proofs.Loaded.{loads-found}
use Rattle.jc_sound.proofs.Looked.{Takes, look_up-takes, looked, use-parts}
use Rattle.jc_sound.proofs.MethodLooked.{looked-declared}
use Rattle.jc_sound.proofs.NewInit.{IsOwn, own_init}
use Rattle.jc_lemmas.proofs.Bools.{neither_first, neither_last}
use Rattle.jc_facts.proofs.World.{find-name}
use Rattle.jc_bodies.proofs.RowTypes.{IsUsable}
use Rattle.jc_bodies.proofs.Entries.{IsNamed, class_name_of, IsShortKey, IsConstructor, IsActed, method_pair, field_pair, used_method, zeros_few}
use Rattle.jc_write.proofs.PiecesStand.{no_bracket}
use Rattle.jc_bodies.proofs.Keys.{IsMethodKey, IsFieldKey, declared_method, declared_field, declared_method_key, declared_field_key, method_slots}
use Rattle.jc_bodies.proofs.Written.{is_short_text, is_short_member}

-- ---- short names

-- the names of a class are short
pub record IsShort (c : ClassFacts) : Type 0 where
  pub name : length c.name ≤ 4090
  pub fields : list_all is_short_member c.fields ≡ true
  pub methods : list_all is_short_member c.methods ≡ true

-- a world of valid classes with short names
pub record IsSound (V : World) : Type 0 where
  pub valid : (x : Bytes) (c : ClassFacts) → find_class V x ≡ Some c → IsValidClass c
  pub short : (x : Bytes) (c : ClassFacts) → find_class V x ≡ Some c → IsShort c

short_key : (k : Key) (m : Member) → is_short_member m ≡ true → key_of m ≡ k → IsShortKey k
short_key k m h e = let p = and_parts (is_short_text m.name) (is_short_text m.descriptor) h in let s : IsShortKey (key_of m) = record { name = p.0; descriptor = p.1 } in subst IsShortKey e s

-- a class that is there
pub named_there : (V : World) → IsSound V → (x : Bytes) (c : ClassFacts) → find_class V x ≡ Some c → IsNamed x
named_there V s x c e =
    let n : IsNamed c.name = record { name = (s.valid x c e).name; size = (s.short x c e).name } in
    subst IsNamed (find-name V x c e) n

pub method_short : (c : ClassFacts) (k : Key) (m : Member) → IsValidClass c → IsShort c → own_method_of c k ≡ Some m → IsShortKey k
method_short c k m v s o = short_key k m (found_all (is_key k) is_short_member c.methods m o s.methods) (declared_method c k m v o).1

pub field_short : (c : ClassFacts) (k : Key) (m : Member) → IsValidClass c → IsShort c → own_field_of c k ≡ Some m → IsShortKey k
field_short c k m v s o = short_key k m (found_all (is_key k) is_short_member c.fields m o s.fields) (declared_field c k m v o).1

-- ---- initializers

own_constructor : (V : World) → IsSound V → (t d : Bytes) (f : DeclaredMember → Option LinkError) → IsOwn V t d f → IsConstructor t d
own_constructor V s t d f o = record {
  class = named_there V s t o.class o.is_there;
  key = declared_method_key o.class (init_key d) o.member (s.valid t o.class o.is_there) o.declares;
  short = (method_short o.class (init_key d) o.member (s.valid t o.class o.is_there) (s.short t o.class o.is_there) o.declares).descriptor;
}

pub init_links : (V : World) → IsSound V → (x t d : Bytes) → outcome V x (item.Init t d) ≡ None → IsConstructor t d
unfolding outcome
init_links V s x t d h =
    let p = or_else-none (class_step V x t) _ h in
    let q = cond-none (is_array_text t) NoSuchMethodError _ p.1 in
    own_constructor V s t d _ (own_init V t d _ (step_loads V x t q.0 p.0) q.1)

pub new_links : (V : World) → IsSound V → (x t d : Bytes) → outcome V x (item.New t d) ≡ None → IsConstructor t d
unfolding outcome
new_links V s x t d h =
    let p = or_else-none (class_step V x t) _ h in
    let q = cond-none (is_array_text t) NoSuchMethodError _ p.1 in
    let r = or_else-none (instantiation_fault V t) _ q.1 in
    own_constructor V s t d _ (own_init V t d _ (step_loads V x t q.0 p.0) r.1)

-- ---- acts

-- the lookup of an act finds a member
looked_up : (V : World) (x : Bytes) (what : Act) (t : Bytes) (k : Key) (r : Option Bytes) (place : Place) → outcome V x (item.Access what t k r place) ≡ None
    → (is_array_text t ≡ false) × (load_fault V t ≡ None) × Takes V (form_of what) t k (use_fault V x what t r place)
unfolding outcome
looked_up V x what t k r place h =
    let p = or_else-none (class_step V x t) _ h in
    let q = cond-none (is_array_text t) (array_fault (form_of what)) _ p.1 in
    (q.0, step_loads V x t q.0 p.0, look_up-takes V (form_of what) t k (use_fault V x what t r place) q.1)

-- a field that is there
record HasField (t : Bytes) (k : Key) : Type 0 where
  class : IsNamed t
  key : IsFieldKey k
  short : IsShortKey k

record HasMethod (what : Act) (t : Bytes) (k : Key) : Type 0 where
  class : IsNamed t
  key : IsMethodKey k
  short : IsShortKey k
  instance : is_act_on_static what ≡ false → slots_of key.method.params ≤ 254

class_there : (V : World) → IsSound V → (t : Bytes) → load_fault V t ≡ None → IsNamed t
class_there V s t h = let c = loads-found V t h in named_there V s t c.0 c.1

field_links : (V : World) → IsSound V → (t : Bytes) (k : Key) (f : DeclaredMember → Option LinkError) → load_fault V t ≡ None → Takes V FieldForm t k f → HasField t k
unfolding looked
field_links V s t k f l tk =
    let d : IsField V k tk.found = field_found-declared V k tk.found t l tk.taken in
    let v = s.valid tk.found.owner d.class d.is_there in
    record {
      class = class_there V s t l;
      key = declared_field_key d.class k tk.found.member v d.declares;
      short = field_short d.class k tk.found.member v (s.short tk.found.owner d.class d.is_there) d.declares;
    }

method_links : (V : World) → IsSound V → (x : Bytes) (what : Act) (t : Bytes) (k : Key) (r : Option Bytes) (place : Place) → load_fault V t ≡ None → (form_of what ≡ FieldForm → ⊥)
    → Takes V (form_of what) t k (use_fault V x what t r place) → HasMethod what t k
method_links V s x what t k r place l n tk =
    let d : IsDeclared V k tk.found = looked-declared V (form_of what) t k tk.found n l tk.taken in
    let v = s.valid tk.found.owner d.class d.is_there in
    let m = declared_method d.class k tk.found.member v d.declares in
    let key : IsMethodKey k = declared_method_key d.class k tk.found.member v d.declares in
    record {
      class = class_there V s t l;
      key = key;
      short = method_short d.class k tk.found.member v (s.short tk.found.owner d.class d.is_there) d.declares;
      instance = λ i.
          let u = (use-parts V x what t r place tk.found tk.fine).kind in
          let z : static_flag tk.found.member.flags ≡ false = (rw i at u) in
          let w = method_slots d.class tk.found.member m.0 z in
          let e : method_of k.descriptor ≡ Some w.0 = subst (λ (j : Key). method_of j.descriptor ≡ Some w.0) m.1 w.1 in
          let same : w.0 ≡ key.method = (let both : Some w.0 ≡ Some key.method = sym e ∙ key.is in cc) in
          subst (λ (y : Method). slots_of y.params ≤ 254) same w.2;
    }

-- ---- what can be named in a body

-- an instruction on a field or a method
abbrev pub is_instruction : Act → Bool
is_instruction acts.GetStatic = true
is_instruction acts.PutStatic = true
is_instruction acts.GetField = true
is_instruction acts.PutField = true
is_instruction acts.InvokeVirtual = true
is_instruction acts.InvokeSpecial = true
is_instruction acts.InvokeSpecialInterface = true
is_instruction acts.InvokeStatic = true
is_instruction acts.InvokeStaticInterface = true
is_instruction acts.InvokeInterface = true
is_instruction _ = false

few_params : (k : Key) (h : IsMethodKey k) → length (zeros (params_of (method_of k.descriptor))) ≤ 255
few_params k h = rw h.is (omega (arith, zeros_few h.method.params, h.slots))

callable_slots : (k : Key) (h : IsMethodKey k) → slots_of h.method.params ≤ 254 → nat_le (slots_or_none (slots_of_method k.descriptor)) 254 ≡ true
unfolding slots_of_method
callable_slots k h l = rw h.is (le-leb (min (slots_of h.method.params) 4294967295) 254 (omega (arith, l)))

module _ (t : Bytes) (k : Key) where
  of_field : (what : Act) → IsUsable what t k → tag_of_act what ≡ 9 → HasField t k → length (zeros (taken_by what k.descriptor)) ≤ 255 → IsActed what t k
  of_field what u g h l = record {
    class = h.class;
    usable = u;
    text = h.key.text;
    spelled = h.key.spelled;
    pair = field_pair k h.key;
    used = rw (g, h.key.is) refl;
    short = h.short;
    few = l;
  }

  of_method : (what : Act) (interface : Bool) → IsUsable what t k → tag_of_act what ≡ cond interface 11 10 → HasMethod what t k → is_clinit_name k.name ≡ false → is_init_name k.name ≡ false → length (zeros (taken_by what k.descriptor)) ≤ 255 → IsActed what t k
  of_method what interface u g h c i l = record {
    class = h.class;
    usable = u;
    text = h.key.text;
    spelled = h.key.spelled;
    pair = method_pair k h.key;
    used = rw g (by interface (used_method interface k h.key c (rw i refl)));
    short = h.short;
    few = l;
  }
    where
      by : (b : Bool) → names_used_method b k.name k.descriptor ≡ true → use_is_good (cond b 11 10) k.name k.descriptor ≡ true
      by true q = q
      by false q = q

module _ (V : World) (s : IsSound V) (x : Bytes) (t : Bytes) (k : Key) (r : Option Bytes) (place : Place) where
  on_field : (what : Act) → form_of what ≡ FieldForm → tag_of_act what ≡ 9 → ((h : HasField t k) → IsUsable what t k × (length (zeros (taken_by what k.descriptor)) ≤ 255)) → outcome V x (item.Access what t k r place) ≡ None → IsActed what t k
  on_field what f g u h =
      let l = looked_up V x what t k r place h in
      let tk : Takes V FieldForm t k (use_fault V x what t r place) = subst (λ (z : Form). Takes V z t k (use_fault V x what t r place)) f l.2 in
      let w = field_links V s t k (use_fault V x what t r place) l.1 tk in
      let v = u w in
      of_field t k what v.0 g w v.1

  on_method : (what : Act) (interface : Bool) → (form_of what ≡ FieldForm → ⊥) → tag_of_act what ≡ cond interface 11 10 → not (is_init_name k.name || is_clinit_name k.name) ≡ true
      → ((h : HasMethod what t k) → is_init_name k.name ≡ false → IsUsable what t k × (length (zeros (taken_by what k.descriptor)) ≤ 255)) → outcome V x (item.Access what t k r place) ≡ None → IsActed what t k
  on_method what interface f g n u h =
      let l = looked_up V x what t k r place h in
      let w = method_links V s x what t k r place l.1 f l.2 in
      let no_init = not-true (is_init_name k.name || is_clinit_name k.name) n in
      let i = neither_first (is_init_name k.name) (is_clinit_name k.name) no_init in
      let v = u w i in
      of_method t k what interface v.0 g w (neither_last (is_init_name k.name) (is_clinit_name k.name) no_init) i v.1

  plain : IsNamed t → is_array_name t ≡ false
  plain c = no_bracket t (class_name_of t c.name)

  one_value : HasField t k → length (zeros (param_of (field_of k.descriptor))) ≤ 255
  one_value w = rw w.key.is (lit≤ tt)

  -- what a body may name that acts so
  pub access_links : (what : Act) → is_instruction what ≡ true → (is_act_on_field what || not (is_init_name k.name || is_clinit_name k.name)) ≡ true → outcome V x (item.Access what t k r place) ≡ None → IsActed what t k
  access_links acts.GetStatic i v h = on_field acts.GetStatic refl refl (λ w. (record { no_array = plain w.class; callable = refl; takes = (w.key.type, w.key.is) }, lit≤ tt)) h
  access_links acts.PutStatic i v h = on_field acts.PutStatic refl refl (λ w. (record { no_array = plain w.class; callable = refl; takes = (w.key.type, w.key.is) }, one_value w)) h
  access_links acts.GetField i v h = on_field acts.GetField refl refl (λ w. (record { no_array = plain w.class; callable = refl; takes = (w.key.type, w.key.is) }, lit≤ tt)) h
  access_links acts.PutField i v h = on_field acts.PutField refl refl (λ w. (record { no_array = plain w.class; callable = refl; takes = (w.key.type, w.key.is) }, one_value w)) h
  access_links acts.InvokeVirtual i v h = on_method acts.InvokeVirtual false (λ z. cc) refl v (λ w n. (record { no_array = plain w.class; callable = rw n refl; takes = (w.key.method, w.key.is) }, few_params k w.key)) h
  access_links acts.InvokeSpecial i v h = on_method acts.InvokeSpecial false (λ z. cc) refl v (λ w n. (record { no_array = plain w.class; callable = rw n refl; takes = (w.key.method, w.key.is) }, few_params k w.key)) h
  access_links acts.InvokeSpecialInterface i v h = on_method acts.InvokeSpecialInterface true (λ z. cc) refl v (λ w n. (record { no_array = plain w.class; callable = rw n refl; takes = (w.key.method, w.key.is) }, few_params k w.key)) h
  access_links acts.InvokeStatic i v h = on_method acts.InvokeStatic false (λ z. cc) refl v (λ w n. (record { no_array = plain w.class; callable = rw n refl; takes = (w.key.method, w.key.is) }, few_params k w.key)) h
  access_links acts.InvokeStaticInterface i v h = on_method acts.InvokeStaticInterface true (λ z. cc) refl v (λ w n. (record { no_array = plain w.class; callable = rw n refl; takes = (w.key.method, w.key.is) }, few_params k w.key)) h
  access_links acts.InvokeInterface i v h = on_method acts.InvokeInterface true (λ z. cc) refl v (λ w n. (record { no_array = plain w.class; callable = rw (n, callable_slots k w.key (w.instance refl)) refl; takes = (w.key.method, w.key.is) }, few_params k w.key)) h
  access_links _ i v h = absurd (let z : false ≡ true = i in cc)
