-- Releases between which nothing is listed: what the old side loads, the new one has alike.
use Rattle.std.proofs.Common.{◌≡◌, Bool, true, false, not, cond, List, [], ◌∷◌, refl, sym, ◌∙◌, ap, subst, Option, Some, None, is_some, ◌&&◌, ◌||◌}
use Rattle.std.specs.Cmp.{first_so, second_so}
use Rattle.std.specs.List.{list_any, list_all}
use Rattle.std.specs.Option.{option_eq}
use Rattle.std.proofs.lemmas.Bool.{and_parts, and_from, or_right}
use Rattle.std.proofs.lemmas.List.Elements.{All-from_recursion}
use Rattle.jc_facts.specs.declared.act.Act.{Act}
use Rattle.jc_facts.specs.declared.act.Act.TheVariants as act
use Rattle.jc_call_kinds.specs.declared.call_line.CallKind.{CallKind}
use Rattle.jc_call_kinds.specs.declared.call_line.CallKind.TheVariants.{Reference, Access, Joined, Constants}
use Rattle.jc_call_kinds.specs.declared.call_line.CallLine.{CallLine}
use Rattle.jc_facts.specs.declared.class_facts.ClassFacts.{ClassFacts}
use Rattle.jc_facts.specs.declared.class_facts.Member.{Member}
use Rattle.jc_facts.specs.declared.key.Key.{Key}
use Rattle.jc_facts.specs.declared.sig_note.SigChange.{SigChange}
use Rattle.jc_facts.specs.declared.sig_note.SigNote.{SigNote}
use Rattle.jc_facts.specs.Flags.{interface_flag, enum_flag, abstract_flag}
use Rattle.jc_facts.specs.Names.{Bytes, same, is_name_among, is_descriptor_of_method}
use Rattle.jc_facts.specs.Options.{some_and}
use Rattle.jc_facts.specs.world.World.{World, DeclaredMember, find_class, class_named, class_is}
use Rattle.jc_facts.specs.world.Hierarchy.{chain, in_chain, with_interfaces, superinterfaces, is_superinterface, names_in}
use Rattle.jc_facts.specs.world.Inheritance.{offers, is_final_in_chain}
use Rattle.jc_facts.specs.world.Loading.{load_fault}
use Rattle.jc_facts.specs.world.Lookup.{interface_choices, method_choices}
use Rattle.jc_facts.specs.world.Assignment.{is_class_assignable, is_interface_of}
use Rattle.jc_promises.specs.rule.Bases.{became_class, is_base_class, is_class_closed, is_class_usable, is_extendable, is_kept, is_key_of_method, is_steady}
use Rattle.jc_promises.specs.rule.OpenActs.{method_acts}
use Rattle.jc_promises.specs.rule.Selection.{chain_kind}
use Rattle.jc_promises.specs.rule.Warnings.{is_base, interfaces_from, part, parts_agree, warn_kind, warning_at, WarningStands}
use Rattle.jc_facts.proofs.Same.{same_itself}
use Rattle.jc_facts.proofs.World.{find-platform}
use Rattle.jc_lemmas.proofs.Bools.{contradicts}
use Rattle.jc_lemmas.proofs.Listed.{EachOf, EachOf-map, any_has, any_none, each_from}
use Rattle.jc_worlds.proofs.Agree.{Agree}
use Rattle.jc_worlds.proofs.Agreement.{chain-agree, with_interfaces-agree, superinterfaces-agree, method_choices-agree, interface_choices-agree}
use Rattle.jc_worlds.proofs.Allowed.{among_each}
use Rattle.jc_worlds.proofs.Declared.{IsDeclared, method_choices-declared}
use Rattle.jc_worlds.proofs.Loaded.{loads-parts}
use Rattle.jc_sound.proofs.MethodLooked.{interface_choices-declared}
use Rattle.jc_sound.proofs.Standing.{usable_parts}
use Rattle.jc_calls.specs.Access.{access_added, allows_less_access, is_called_above, is_public_in_chain}
use Rattle.jc_calls.specs.Constants.{constants_added, gets_constant, gets_objects, has_constant, permits_more}
use Rattle.jc_calls.specs.Joins.{join_lost}
use Rattle.jc_calls.specs.Lines.{is_due, LineStands}
use Rattle.jc_calls.specs.Handles.{are_referable}
use Rattle.jc_calls.specs.References.{are_of_open, is_handle_lost, is_of_open, is_open_to_some, is_told, reference_lost}
use Rattle.jc_dropped.specs.Dropped.{is_held, asks_for, has_lost, loses_interface, loses_above, is_dropped, IsDropped}
use Rattle.jc_calls.proofs.Parted.{IsParted, parted}
use Rattle.jc_dropped.proofs.Held.{held_loads}
use Rattle.jc_sig.specs.Notes.{signature_at, MemberChanges, ChangeAt, SigNoteStands}
use Rattle.jc_agree.specs.NothingListed.{ListsNothing, SameReleaseLists, EmptyReleaseLists}
use Rattle.jc_agree.proofs.Nothing.{none_listed}
use Rattle.jc_selection.specs.Shown.{IsSameAbove}
use Rattle.jc_selection.proofs.Unchanged.{base_loads, part_loads, unchanged}
use Rattle.jc_agree.proofs.EmptyRelease.{follows-not, find_old, find_alike, openly_alike, root_alike, still_loads}

-- what the old side has, the new one has alike: of each class that loads with the old side what stands above it and what a reference to it finds, of each name the
-- class, and of each member that an act finds whether clients can name the class that is said to declare it
pub record IsAlike (O N : World) : Type 0 where
  pub find : (x : Bytes) → load_fault O x ≡ None → find_class O x ≡ find_class N x
  pub chain : (x : Bytes) → load_fault O x ≡ None → chain O x ≡ chain N x
  pub with_interfaces : (x : Bytes) → load_fault O x ≡ None → with_interfaces O x ≡ with_interfaces N x
  pub superinterfaces : (x : Bytes) → load_fault O x ≡ None → superinterfaces O x ≡ superinterfaces N x
  pub records : (x : Bytes) (c d : ClassFacts) → find_class O x ≡ Some c → find_class N x ≡ Some d → c ≡ d
  pub methods : (x : Bytes) (k : Key) → load_fault O x ≡ None → method_choices O x k ≡ method_choices N x k
  pub interface_methods : (x : Bytes) (k : Key) → load_fault O x ≡ None → interface_choices O x k ≡ interface_choices N x k
  pub openly : (what : Act) (m : DeclaredMember) (c : ClassFacts) → find_class O m.owner ≡ Some c → is_of_open O what m ≡ is_of_open N what m

-- ---- signatures

option_itself : (a : Option Bytes) → option_eq same a a ≡ true
option_itself None = refl
option_itself (Some x) = same_itself x

differs : (key : Option Key) (a b : Option Bytes) (change : SigChange) → ChangeAt key a b change → not (option_eq same a b) ≡ true
differs None a b change h = h.differ
differs (Some k) a b change h = go (is_descriptor_of_method k.descriptor) h
  where
    go : (m : Bool) → MemberChanges m a b change → not (option_eq same a b) ≡ true
    go true p = p.differ
    go false p = p.differ

no_note : (O N : World) → IsAlike O N → (n : SigNote) → SigNoteStands O N n → ⊥
no_note O N alike n h =
    let text : Option Bytes = signature_at h.old n.key in
    let d : not (option_eq same text text) ≡ true = subst (λ c. not (option_eq same text (signature_at c n.key)) ≡ true) (sym (alike.records n.class h.old h.new h.is_old h.is_new)) (differs n.key text (signature_at h.new n.key) n.change h.changed) in
    contradicts (not (option_eq same text text)) d (ap not (option_itself text))

-- ---- dropped interfaces

apart : (a b c : Bool) → b ≡ c → (a && b && not c) ≡ false
apart true true c e = ap not (sym e)
apart true false c e = refl
apart false b c e = refl

none_dropped : (O N : World) → IsAlike O N → (x t : Bytes) → is_dropped O N x t ≡ false
unfolding is_dropped loses_interface has_lost
none_dropped O N alike x t = go (is_held O N x) refl
  where
    go : (b : Bool) → is_held O N x ≡ b → (is_held O N x && (asks_for O N x t && is_superinterface O x t && not (is_superinterface N x t)) && not (loses_above O N x t)) ≡ false
    go false e = rw e refl
    go true e = rw (e, apart (asks_for O N x t) (is_superinterface O x t) (is_superinterface N x t) (ap (λ cs. names_in cs t) (alike.superinterfaces x (held_loads O N x e).0))) refl

-- ---- warnings

warns_none : (O N : World) → IsAlike O N → (b : Bytes) (k : Key) → warning_at O N b k ≡ None
unfolding warning_at interfaces_from
warns_none O N alike b k = go (is_key_of_method k && is_base O N b) refl
  where
    go : (t : Bool) → (is_key_of_method k && is_base O N b) ≡ t → cond t (warn_kind (chain_kind O b k) (chain_kind N b k) (not (parts_agree O N k (part O b k) (part N b k)))) None ≡ None
    go false e = refl
    go true e = sym (ap (λ t. cond t (warn_kind (chain_kind O b k) (chain_kind N b k) (not (parts_agree O N k (part O b k) (part N b k)))) None) e) ∙ unchanged O N b k same
      where
        l : load_fault O b ≡ None
        l = base_loads O N b (and_parts (is_key_of_method k) (is_base O N b) e).1

        kind : is_interface_of O b ≡ is_interface_of N b
        kind = ap (some_and (λ (c : ClassFacts). interface_flag c.flags)) (alike.find b l)

        same : IsSameAbove O N b
        same = record {
          kind = kind;
          chain = alike.chain b l;
          interfaces = ap (λ i. cond i (with_interfaces O b) (superinterfaces O b)) kind
              ∙ ap (λ cs. cond (is_interface_of N b) cs (superinterfaces O b)) (alike.with_interfaces b l)
              ∙ ap (λ cs. cond (is_interface_of N b) (with_interfaces N b) cs) (alike.superinterfaces b l);
          above = All-from_recursion (λ (c : ClassFacts). superinterfaces O c.name ≡ superinterfaces N c.name) (interfaces_from O b) (EachOf-map (λ (c : ClassFacts) h. alike.superinterfaces c.name h) (interfaces_from O b) (part_loads O b l));
        }

-- ---- lines on calls

third_never : (a b c d : Bool) → (b ≡ true → c ≡ false) → (a && b && c && d) ≡ false
third_never true true c d h = ap (λ z. z && d) (h refl)
third_never true false c d h = refl
third_never false b c d h = refl

fourth_never : (a b c d e : Bool) → (b ≡ true → d ≡ true → c ≡ false) → (a && b && c && d && e) ≡ false
fourth_never true true true true e h = absurd (let clash : true ≡ false = h refl refl in cc)
fourth_never true true true false e h = refl
fourth_never true true false d e h = refl
fourth_never true false c d e h = refl
fourth_never false b c d e h = refl

second_never : (a b : Bool) → (a ≡ true → b ≡ false) → (a && b) ≡ false
second_never true b h = h refl
second_never false b h = refl

steady_loads : (O N : World) (x : Bytes) → is_steady O N x ≡ true → load_fault O x ≡ None
unfolding is_steady is_kept
steady_loads O N x h = (usable_parts O x (first_so (is_class_usable O x) (is_class_usable N x) (first_so (is_kept O N x) (not (became_class O N x)) h))).loaded

base_class_loads : (O N : World) (x : Bytes) → is_base_class O N x ≡ true → load_fault O x ≡ None
unfolding is_base_class
base_class_loads O N x h = steady_loads O N x (second_so (is_extendable O N x) (is_steady O N x) (first_so (is_extendable O N x && is_steady O N x) (not (is_class_closed O N x)) h))

less_never : (a b c : Bool) → a ≡ true → not (a || b || c) ≡ false
less_never true b c e = refl
less_never false b c e = absurd (cc)

abstract_never : (a b : Bool) → (a && b && not b) ≡ false
abstract_never true true = refl
abstract_never true false = refl
abstract_never false b = refl

-- a class has its own constants, and permits what it permits
own_constants : (c : ClassFacts) → gets_constant c c ≡ false
own_constants c = second_never (enum_flag c.flags) (list_any (λ m. enum_flag m.flags && not (has_constant c m.name)) c.fields) (λ e.
    any_none (λ (m : Member). enum_flag m.flags && not (has_constant c m.name)) c.fields
    (each_from (λ (m : Member). (enum_flag m.flags && not (has_constant c m.name)) ≡ false) c.fields (λ m i. follows-not (enum_flag m.flags) (has_constant c m.name) (λ is.
    any_has (λ (n : Member). enum_flag n.flags && same n.name m.name) c.fields m i (and_from (enum_flag m.flags) (same m.name m.name) is (same_itself m.name))))))

own_permits : (o : Option (List Bytes)) → permits_more o o ≡ false
own_permits None = refl
own_permits (Some names) = any_none (λ x. not (is_name_among names x)) names (EachOf-map (λ x h. ap not h) names (among_each names))

module _ (O N : World) (alike : IsAlike O N) where
  module _ (what : Act) where
    all_openly : (k : Key) (ms : List DeclaredMember) → EachOf (IsDeclared O k) ms → list_all (is_of_open O what) ms ≡ list_all (is_of_open N what) ms
    all_openly k [] h = refl
    all_openly k (m ∷ ms) h = ap (λ b. b && list_all (is_of_open O what) ms) (alike.openly what m h.0.class h.0.is_there) ∙ ap (λ b. is_of_open N what m && b) (all_openly k ms h.1)

    by_method : (x : Bytes) (k : Key) → load_fault O x ≡ None → list_all (is_of_open O what) (method_choices O x k) ≡ list_all (is_of_open N what) (method_choices N x k)
    by_method x k l = all_openly k (method_choices O x k) (method_choices-declared O x k l) ∙ ap (list_all (is_of_open N what)) (alike.methods x k l)

    by_interface : (x : Bytes) (k : Key) → load_fault O x ≡ None → list_all (is_of_open O what) (interface_choices O x k) ≡ list_all (is_of_open N what) (interface_choices N x k)
    by_interface x k l = all_openly k (interface_choices O x k) (interface_choices-declared O x k l) ∙ ap (list_all (is_of_open N what)) (alike.interface_methods x k l)

  no_reference : (x : Bytes) (k : Key) → reference_lost O N x k ≡ false
  unfolding reference_lost
  no_reference x k = third_never (is_key_of_method k) (is_steady O N x) (list_any (is_handle_lost O N x k) method_acts) (not (is_told O N x k)) (λ steady.
      let l = steady_loads O N x steady in
      any_none (is_handle_lost O N x k) method_acts (
        lost act.InvokeVirtual (by_method act.InvokeVirtual x k l),
        (lost act.InvokeStatic (by_method act.InvokeStatic x k l), (lost act.InvokeInterface (by_interface act.InvokeInterface x k l), (lost act.InvokeStaticInterface (by_interface act.InvokeStaticInterface x k l), tt))),
      ))
    where
      lost : (what : Act) → are_of_open O what x k ≡ are_of_open N what x k → is_handle_lost O N x k what ≡ false
      lost what e = apart (is_open_to_some O N x k what && are_referable O what x k) (are_of_open O what x k) (are_of_open N what x k) e

  no_access : (x : Bytes) (k : Key) → access_added O N x k ≡ false
  unfolding access_added
  no_access x k = fourth_never (is_key_of_method k) (is_base_class O N x) (allows_less_access O x k) (is_called_above N x k) (not (is_final_in_chain N x k)) (λ base called.
      less_never (is_called_above O x k) (is_public_in_chain O x k) (is_final_in_chain O x k)
      (subst (λ cs. list_any (offers k) cs ≡ true) (sym (alike.superinterfaces x (base_class_loads O N x base))) called))

  no_constants : (x : Bytes) → constants_added O N x ≡ false
  unfolding constants_added
  no_constants x = second_never (is_steady O N x) (class_is O (λ c. class_is N (λ d. gets_constant c d || permits_more c.permits d.permits || gets_objects c d) x) x) (λ steady. go (find_class O x) refl (alike.find x (steady_loads O N x steady)))
    where
      gets : Option ClassFacts → Option ClassFacts → Bool
      gets o p = some_and (λ (c : ClassFacts). some_and (λ (d : ClassFacts). gets_constant c d || permits_more c.permits d.permits || gets_objects c d) p) o

      go : (o : Option ClassFacts) → find_class O x ≡ o → find_class O x ≡ find_class N x → gets (find_class O x) (find_class N x) ≡ false
      go None e f = ap (λ (o : Option ClassFacts). gets o (find_class N x)) e
      go (Some c) e f =
          ap (gets (find_class O x)) (sym f) ∙ ap (λ (o : Option ClassFacts). gets o o) e
          ∙ ap (λ b. b || permits_more c.permits c.permits || gets_objects c c) (own_constants c) ∙ ap (λ b. b || gets_objects c c) (own_permits c.permits)
          ∙ abstract_never (is_some c.permits) (abstract_flag c.flags)

  no_join : (x t : Bytes) → join_lost O N x t ≡ false
  no_join x t = go (join_lost O N x t) refl
    where
      go : (b : Bool) → join_lost O N x t ≡ b → b ≡ false
      go false e = refl
      go true e =
          let p : IsParted O N x t = parted O N x t e in
          let i : in_chain N x t ≡ true = ap (λ cs. names_in cs t) (sym (alike.chain x p.class_loads)) ∙ p.above in
          absurd (contradicts (is_class_assignable N x t) (or_right (same x t || is_interface_of N t) (in_chain N x t) i) p.left)

  no_line : (l : CallLine) → LineStands O N l → ⊥
  no_line l h = go l.kind l.«class» l.key l.target h
    where
      go : (kind : CallKind) (x : Bytes) (k : Option Key) (t : Option Bytes) → is_due O N kind x k t ≡ true → ⊥
      go Reference x (Some k) None d = contradicts (reference_lost O N x k) d (no_reference x k)
      go Access x (Some k) None d = contradicts (access_added O N x k) d (no_access x k)
      go Joined x None (Some t) d = contradicts (join_lost O N x t) d (no_join x t)
      go Constants x None None d = contradicts (constants_added O N x) d (no_constants x)
      go kind x k t d = let clash : false ≡ true = d in cc

-- ---- the lists

lists_nothing : (O N : World) → IsAlike O N → ListsNothing O N
lists_nothing O N alike = record {
  no_warning = λ ws h. none_listed (WarningStands O N) (λ w s. (let z : None ≡ Some w.kind = sym (warns_none O N alike w.«class» w.key) ∙ s in cc)) ws h.sound;
  none_dropped = λ ds h. none_listed (IsDropped O N) (λ d s. contradicts (is_dropped O N d.«class» d.interface) s (none_dropped O N alike d.«class» d.interface)) ds h.sound;
  no_signature_note = λ ns h. none_listed (SigNoteStands O N) (no_note O N alike) ns h.sound;
  no_call = λ ls h. none_listed (LineStands O N) (no_line O N alike) ls h.sound;
}

pub same_release : SameReleaseLists
same_release O pair = lists_nothing O O (record {
  find = λ x l. refl;
  chain = λ x l. refl;
  with_interfaces = λ x l. refl;
  superinterfaces = λ x l. refl;
  records = λ x c d f g. (let z : Some c ≡ Some d = sym f ∙ g in cc);
  methods = λ x k l. refl;
  interface_methods = λ x k l. refl;
  openly = λ what m c f. refl;
})

pub empty_release : EmptyReleaseLists
empty_release O N pair empty = lists_nothing O N (record {
  find = find_alike O N pair empty;
  chain = λ x l. chain-agree O N Loaded agree keeps x l l;
  with_interfaces = λ x l. with_interfaces-agree O N Loaded agree keeps x l l;
  superinterfaces = λ x l. superinterfaces-agree O N Loaded agree keeps x l l;
  records = λ x c d f g.
      (let p : class_named O.platform x ≡ Some c = sym (find_old O N pair empty x) ∙ f in
      let q : class_named N.platform x ≡ Some c = ap (λ cs. class_named cs x) (sym pair.run.platform) ∙ p in
      let z : Some c ≡ Some d = sym q ∙ sym (find-platform N x (ap is_some q)) ∙ g in cc);
  methods = λ x k l. method_choices-agree O N Loaded agree keeps x k l l;
  interface_methods = λ x k l. interface_choices-agree O N Loaded agree keeps x k l (root_alike O N pair empty) l;
  openly = openly_alike O N pair empty;
})
  where
    Loaded : Bytes → Type 0
    Loaded x = load_fault O x ≡ None

    agree : Agree O N Loaded
    agree = record { same = find_alike O N pair empty; is_closed = λ x c l e. (loads-parts O x c e l).0 }

    keeps : (x : Bytes) → Loaded x → load_fault O x ≡ None → load_fault N x ≡ None
    keeps x l h = still_loads O N pair empty x h
