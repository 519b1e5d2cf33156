-- What is open to a seat is accessible from each client that has it.
use Rattle.std.proofs.Common.{◌≡◌, ◌<◌, ◌≤◌, ℕ, Bool, true, false, not, ◌||◌, ◌&&◌, List, [], ◌∷◌, ◌++◌, length, refl, sym, ◌∙◌, ap, arith, Option, Some, None}
use Rattle.std.specs.Prelude.{is_some}
use Rattle.std.specs.List.{All}
use Rattle.std.proofs.lemmas.List.{length-append}
use Rattle.std.proofs.lemmas.List.Elements.{recursion_from_All}
use Rattle.std.proofs.lemmas.List.Folds.{list_any-append}
use Rattle.std.proofs.Math.Bool.{or-false}
use Rattle.jc_facts.specs.declared.class_facts.ClassFacts.{ClassFacts}
use Rattle.jc_facts.specs.Names.{Bytes, same, in_same_package, package_name}
use Rattle.jc_facts.specs.Flags.{public_flag}
use Rattle.jc_facts.specs.world.World.{World, DeclaredMember, find_class, size, class_named, with_clients, is_client, class_is}
use Rattle.jc_facts.specs.world.Hierarchy.{chain, names_in, in_chain}
use Rattle.jc_facts.specs.world.Loading.{load_fault}
use Rattle.jc_facts.specs.world.Modules.{OfClients, module_of, is_visible, is_visible_from}
use Rattle.jc_facts.specs.world.Access.{is_class_accessible, is_member_accessible, is_member_open}
use Rattle.jc_facts.specs.world.Assignment.{is_assignable, passes_protected_check}
use Rattle.jc_facts.specs.Options.{some_and}
use Rattle.jc_facts.specs.client.Allowed.{is_allowed_name}
use Rattle.jc_facts.specs.client.Seats.{seat}
use Rattle.jc_facts.proofs.Same.{same_is}
use Rattle.jc_lemmas.proofs.Listed.{EachOf}
use Rattle.jc_worlds.proofs.AgreementLaw.{each_name}
use Rattle.jc_worlds.proofs.Allowed.{unused_from_allowed}
use Rattle.jc_worlds.proofs.Chains.{in_chain-agree}
use Rattle.jc_worlds.proofs.VisibleFrom.{outside, visible_from-client}
use Rattle.jc_worlds.proofs.FieldActs.{member_seat}
use Rattle.jc_worlds.proofs.Packages.{AllowedParts, allowed_parts, package_apart, same_package_apart}
use Rattle.jc_worlds.proofs.Sides.{IsLibrary, sides}
use Rattle.jc_worlds.proofs.WalkLaws.{seat_ends_the_clients}
use Rattle.jc_facts.proofs.World.{names, find-name, EachOf-class_named}
use Rattle.jc_index.specs.Ids.{name_at}
use Rattle.jc_index.specs.Lookups.{IsFound}
use Rattle.jc_index.specs.declared.ids.Found.{Found}
use Rattle.jc_index.proofs.Numbers.{class_at}
use Rattle.jc_access.specs.steps.Parts.{inside_at, client_at, asks_receiver}
use Rattle.jc_access.specs.Speaking.{SpeaksForSeat}
use Rattle.jc_worlds.proofs.Chains.{absent_above}

module _ (W : World) (bare : W.clients ≡ []) (clients : List ClassFacts) (allowed : All (λ c. is_allowed_name W c.name ≡ true) clients) where
  each_allowed : EachOf (λ n. is_allowed_name W n ≡ true) (names clients)
  each_allowed = each_name (λ n. is_allowed_name W n ≡ true) clients (recursion_from_All (λ c. is_allowed_name W c.name ≡ true) clients allowed)

  named_parts : (x : Bytes) (o : Option ClassFacts) → class_named clients x ≡ o → is_some o ≡ true → AllowedParts W x
  named_parts x None e h = absurd (let c : false ≡ true = h in cc)
  named_parts x (Some c) e h = allowed_parts W x (EachOf-class_named (λ n. is_allowed_name W n ≡ true) clients x c e each_allowed)

  -- a client's name is none of the side's
  client_parts : (x : Bytes) → is_client (with_clients W clients) x ≡ true → AllowedParts W x
  unfolding is_client
  client_parts x h = named_parts x (class_named clients x) refl h

  -- a class of the side is no client
  not_client : (y : Bytes) (c : ClassFacts) → find_class W y ≡ Some c → (o : Option ClassFacts) → class_named clients y ≡ o → o ≡ None
  not_client y c f None e = refl
  not_client y c f (Some d) e =
      let p : find_class W y ≡ None = (allowed_parts W y (EachOf-class_named (λ n. is_allowed_name W n ≡ true) clients y d e each_allowed)).absent in
      absurd (let q : Some c ≡ None = sym f ∙ p in cc)

  -- of names of the side the chain of a client has those that the chain of its seat has
  chain_of_seat : (x a : Bytes) → load_fault (with_clients W clients) x ≡ None → seat (with_clients W clients) x ≡ Some a → (y : Bytes) (c : ClassFacts) → find_class W y ≡ Some c
      → in_chain (with_clients W clients) x y ≡ in_chain W a y
  unfolding is_client
  chain_of_seat x a h s y c f =
      let e = seat_ends_the_clients W clients bare allowed x a h s in
      ap (λ cs. names_in cs y) e.2 ∙ list_any-append (λ d. same d.name y) e.0 (chain W a) ∙ ap (λ b. b || in_chain W a y) (none e.0 (recursion_from_All (λ d. is_client (with_clients W clients) d.name ≡ true) e.0 e.1))
    where
      other : (d : ClassFacts) → is_client (with_clients W clients) d.name ≡ true → (b : Bool) → same d.name y ≡ b → b ≡ false
      other d i true q =
          let t : is_some (class_named clients y) ≡ true = ap (λ z. is_some (class_named clients z)) (sym (same_is d.name y q)) ∙ i in
          let n : is_some (class_named clients y) ≡ false = ap is_some (not_client y c f (class_named clients y) refl) in
          absurd (let clash : true ≡ false = sym t ∙ n in cc)
      other d i false q = refl

      none : (ds : List ClassFacts) → EachOf (λ d. is_client (with_clients W clients) d.name ≡ true) ds → names_in ds y ≡ false
      none [] i = refl
      none (d ∷ ds) i = ap (λ b. b || names_in ds y) (other d i.0 (same d.name y) refl) ∙ none ds i.1

  grows : size W ≤ size (with_clients W clients)
  unfolding size
  grows =
      let e : length W.clients ≡ 0 = ap length bare in
      omega (arith, e, length-append (W.platform ++ W.release) W.clients, length-append (W.platform ++ W.release) clients)

  -- no class of the side has a client above it
  never_above : (t x : Bytes) (c : ClassFacts) → find_class W t ≡ Some c → is_client (with_clients W clients) x ≡ true → in_chain (with_clients W clients) t x ≡ false
  never_above t x c f i =
      sym (in_chain-agree W (with_clients W clients) (IsLibrary W clients bare) (sides W clients bare (unused_from_allowed W clients bare each_allowed)) grows t x
      (not_client t c f (class_named clients t) refl))
      ∙ absent_above W t x (client_parts x i).absent

  member-client : (x a t : Bytes) (m : DeclaredMember) (o d : ClassFacts) → find_class W m.owner ≡ Some o → find_class W t ≡ Some d → is_client (with_clients W clients) x ≡ true → load_fault (with_clients W clients) x ≡ None
      → seat (with_clients W clients) x ≡ Some a → is_member_accessible (with_clients W clients) x t m ≡ is_member_open W a t m
  member-client x a t m o d fo ft i h s =
      member_seat (with_clients W clients) W x a t m
      (λ p. package_apart W x m.owner o (client_parts x i).apart fo (p ∙ ap package_name (sym (find-name W m.owner o fo))))
      (chain_of_seat x a h s m.owner o fo) (chain_of_seat x a h s t d ft) (never_above t x d ft i)

  class-client : (x y : Bytes) (d : ClassFacts) → find_class W y ≡ Some d → is_client (with_clients W clients) x ≡ true → in_same_package x d.name ≡ false
  class-client x y d f i = same_package_apart W x y d (client_parts x i).apart f

-- ---- for the answers

-- a client is in no package of the side and in the module of the clients, so that the class is accessible from it where it is visible and public
pub class_spoken : (W : World) (a y : Bytes) (d : ClassFacts) (b : Bool) → find_class W y ≡ Some d → b ≡ (is_visible W d.name && public_flag d.flags) → SpeaksForSeat W a (λ V x. is_class_accessible V x d) b
class_spoken W a y d b g h side bare clients allowed x i l s =
    let m : module_of (with_clients W clients) x ≡ OfClients = outside W x (client_parts W bare clients allowed x i).absent in
    let e : is_visible_from (with_clients W clients) x d.name ≡ is_visible W d.name = visible_from-client (with_clients W clients) x d.name m in
    h
    ∙ sym (ap (λ v. (v && public_flag d.flags) || in_same_package x d.name) e
    ∙ ap (λ v. (is_visible W d.name && public_flag d.flags) || v) (class-client W bare clients allowed x y d g i)
    ∙ or-false (is_visible W d.name && public_flag d.flags))

-- what is asked of the class named y, of its record
pub nameable : (W : World) (y : Bytes) (d : ClassFacts) (b : Bool) → find_class W y ≡ Some d → b ≡ class_is W (λ c. is_visible W y && public_flag c.flags) y → b ≡ (is_visible W d.name && public_flag d.flags)
nameable W y d b f h =
    h ∙ ap (some_and (λ (c : ClassFacts). is_visible W y && public_flag c.flags)) f ∙ ap (λ (z : Bytes). is_visible W z && public_flag d.flags) (sym (find-name W y d f))

nameable_from : (W : World) (x y : Bytes) (d : ClassFacts) (b : Bool) → find_class W y ≡ Some d → b ≡ class_is W (λ c. is_visible_from W x y && public_flag c.flags) y → b ≡ (is_visible_from W x d.name && public_flag d.flags)
nameable_from W x y d b f h =
    h ∙ ap (some_and (λ (c : ClassFacts). is_visible_from W x y && public_flag c.flags)) f ∙ ap (λ (z : Bytes). is_visible_from W x z && public_flag d.flags) (sym (find-name W y d f))

pub class_inside : (W : World) (x y : Bytes) (d : ClassFacts) (b p : Bool) → find_class W y ≡ Some d → b ≡ class_is W (λ c. is_visible_from W x y && public_flag c.flags) y → p ≡ in_same_package x y → (b || p) ≡ is_class_accessible W x d
class_inside W x y d b p f h q =
    ap (λ t. t || p) (nameable_from W x y d b f h)
    ∙ ap (λ t. (is_visible_from W x d.name && public_flag d.flags) || t) (q ∙ ap (in_same_package x) (sym (find-name W y d f)))

pub found_inside : (W : World) (x n : Bytes) (f : Found) (m : DeclaredMember) → IsFound W f m → inside_at W x n (name_at W f.owner) f.flags ≡ is_member_accessible W x n m
unfolding is_member_accessible
found_inside W x n f m i = ap (λ o. inside_at W x n o f.flags) i.owner ∙ ap (inside_at W x n m.owner) i.flags

-- the answer by the member's owner and flags is that by the member
pub found_client : (W : World) (a n : Bytes) (f : Found) (m : DeclaredMember) → IsFound W f m → client_at W a n (name_at W f.owner) f.flags ≡ is_member_open W a n m
found_client W a n f m i = ap (λ o. client_at W a n o f.flags) i.owner ∙ ap (client_at W a n m.owner) i.flags

pub member_spoken : (W : World) (a : Bytes) (n : ℕ) (f : Found) (m : DeclaredMember) (b : Bool) → n < size W → IsFound W f m → b ≡ client_at W a (name_at W n) (name_at W f.owner) f.flags
    → SpeaksForSeat W a (λ V x. is_member_accessible V x (name_at W n) m) b
member_spoken W a n f m b l i e side bare clients allowed x c h s =
    let o = class_at W f.owner side.differ i.below in
    let t = class_at W n side.differ l in
    e ∙ found_client W a (name_at W n) f m i
    ∙ sym (member-client W bare clients allowed x a (name_at W n) m o.facts t.facts (ap (find_class W) (sym i.owner) ∙ o.found) t.found c h s)

-- ---- the check on protected members

module _ (W : World) (x n : Bytes) (f : Found) (m : DeclaredMember) (r : Bytes) (i : IsFound W f m) (b : Bool) (e : b ≡ asks_receiver W x n (name_at W f.owner) f.flags) where
  asked : asks_receiver W x n m.owner m.member.flags ≡ b
  asked = sym (e ∙ ap (λ o. asks_receiver W x n o f.flags) i.owner ∙ ap (asks_receiver W x n m.owner) i.flags)

  checked : passes_protected_check W x n m r ≡ (not b || is_assignable W r x)
  unfolding passes_protected_check
  checked = ap (λ a. not a || is_assignable W r x) asked

  pub passes_unasked : b ≡ false → true ≡ passes_protected_check W x n m r
  passes_unasked h = sym (checked ∙ ap (λ a. not a || is_assignable W r x) h)

  pub passes_asked : (a : Bool) → b ≡ true → a ≡ is_assignable W r x → a ≡ passes_protected_check W x n m r
  passes_asked a h g = g ∙ sym (checked ∙ ap (λ a. not a || is_assignable W r x) h)
