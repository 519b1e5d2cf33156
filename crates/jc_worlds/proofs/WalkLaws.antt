-- Searches from a client, from what its names are allowed for.
use Rattle.std.proofs.Common.{◌≡◌, Bool, true, false, cond, List, [], ◌∷◌, ◌++◌, refl, sym, ◌∙◌, ap, Option, Some, None, is_some}
use Rattle.std.specs.List.{All}
use Rattle.std.proofs.lemmas.List.Elements.{recursion_from_All, All-from_recursion}
use Rattle.jc_facts.specs.declared.class_facts.ClassFacts.{ClassFacts}
use Rattle.jc_facts.specs.Names.{Bytes}
use Rattle.jc_facts.specs.world.World.{World, find_class, size, class_named, with_clients, is_client}
use Rattle.jc_facts.specs.world.Search.{supers_of}
use Rattle.jc_facts.specs.world.Hierarchy.{chain, of_super}
use Rattle.jc_facts.specs.world.Loading.{load_fault}
use Rattle.jc_facts.specs.client.Allowed.{is_allowed_name}
use Rattle.jc_facts.specs.client.Seats.{first_library, seat}
use Rattle.jc_worlds.specs.Walks.{WalksOverClients, SeatEndsTheClients}
use Rattle.jc_lemmas.proofs.Listed.{EachOf}
use Rattle.jc_facts.proofs.World.{names, find-name, EachOf-class_named}
use Rattle.jc_worlds.proofs.Loaded.{loads-induction}
use Rattle.jc_worlds.proofs.Packages.{allowed_parts}
use Rattle.jc_worlds.proofs.Allowed.{unused_from_allowed}
use Rattle.jc_worlds.proofs.Clients.{Fits, field_found-clients, chain-clients}
use Rattle.jc_worlds.proofs.Sides.{chain-side, load_fault-side}
use Rattle.jc_worlds.proofs.Unrolled.{chain-unroll}
use Rattle.jc_worlds.proofs.AgreementLaw.{each_name}

-- clients with allowed names fit to their side
fits_of : (W : World) (clients : List ClassFacts) → W.clients ≡ [] → EachOf (λ n. is_allowed_name W n ≡ true) (names clients) → Fits W clients
fits_of W clients bare h = record {
  bare = bare;
  undeclared = λ x c e. (allowed_parts W x (EachOf-class_named (λ n. is_allowed_name W n ≡ true) clients x c e h)).absent;
  unused = unused_from_allowed W clients bare h;
}

allowed_names : (W : World) (clients : List ClassFacts) → All (λ c. is_allowed_name W c.name ≡ true) clients → EachOf (λ n. is_allowed_name W n ≡ true) (names clients)
allowed_names W clients h = each_name (λ n. is_allowed_name W n ≡ true) clients (recursion_from_All (λ c. is_allowed_name W c.name ≡ true) clients h)

pub walks_over_clients : WalksOverClients
unfolding load_fault
walks_over_clients W clients bare allowed x h =
    let fits = fits_of W clients bare (allowed_names W clients allowed) in
    (λ k. field_found-clients W clients fits k (size (with_clients W clients)) x h, chain-clients W clients fits (size (with_clients W clients)) x h)

module _ (W : World) (clients : List ClassFacts) (fits : Fits W clients) where
  Ends : Bytes → Type 0
  Ends x = (a : Bytes) → seat (with_clients W clients) x ≡ Some a → (below : List ClassFacts) × (EachOf (λ c. is_client (with_clients W clients) c.name ≡ true) below) × (chain (with_clients W clients) x ≡ below ++ chain W a)

  ends : (x : Bytes) → load_fault (with_clients W clients) x ≡ None → Ends x
  unfolding Ends first_library is_client
  ends = loads-induction (with_clients W clients) Ends (λ x c e h r a q. step x c e h (chain-unroll (with_clients W clients) x c e h) a q (is_client (with_clients W clients) c.name) refl c.superclass refl r)
    where
      step : (x : Bytes) (c : ClassFacts) → find_class (with_clients W clients) x ≡ Some c → load_fault (with_clients W clients) x ≡ None → chain (with_clients W clients) x ≡ c ∷ of_super (chain (with_clients W clients)) c.superclass
          → (a : Bytes) → seat (with_clients W clients) x ≡ Some a → (b : Bool) → is_client (with_clients W clients) c.name ≡ b → (o : Option Bytes) → c.superclass ≡ o → EachOf Ends (supers_of o c.interfaces)
          → (below : List ClassFacts) × (EachOf (λ c. is_client (with_clients W clients) c.name ≡ true) below) × (chain (with_clients W clients) x ≡ below ++ chain W a)
      step x c e h u a q false i o s r =
          let name : c.name ≡ x = find-name (with_clients W clients) x c e in
          let z : Some c.name ≡ Some a = sym (ap (λ b. cond b (first_library (with_clients W clients) (of_super (chain (with_clients W clients)) c.superclass)) (Some c.name)) i) ∙ sym (ap (first_library (with_clients W clients)) u) ∙ q in
          let is_a : x ≡ a = let y : c.name ≡ a = cc in sym name ∙ y in
          let l : class_named clients x ≡ None = not_there (class_named clients x) (ap (λ n. is_some (class_named clients n)) (sym name) ∙ i) in
          let hw : load_fault W x ≡ None = load_fault-side W clients fits.bare fits.unused x l ∙ h in
          ([], tt, sym (chain-side W clients fits.bare fits.unused x l hw) ∙ ap (chain W) is_a)
        where
          not_there : (o : Option ClassFacts) → is_some o ≡ false → o ≡ None
          not_there None w = refl
          not_there (Some d) w = absurd (cc)
      step x c e h u a q true i None s r =
          let z : None ≡ Some a = sym (ap (λ b. cond b (first_library (with_clients W clients) (of_super (chain (with_clients W clients)) c.superclass)) (Some c.name)) i ∙ ap (λ o. first_library (with_clients W clients) (of_super (chain (with_clients W clients)) o)) s) ∙ sym (ap (first_library (with_clients W clients)) u) ∙ q in
          absurd (cc)
      step x c e h u a q true i (Some y) s r =
          let z : first_library (with_clients W clients) (chain (with_clients W clients) y) ≡ Some a = sym (ap (λ b. cond b (first_library (with_clients W clients) (of_super (chain (with_clients W clients)) c.superclass)) (Some c.name)) i ∙ ap (λ o. first_library (with_clients W clients) (of_super (chain (with_clients W clients)) o)) s) ∙ sym (ap (first_library (with_clients W clients)) u) ∙ q in
          let w = r.0 a z in
          (c ∷ w.0, (i, w.1), u ∙ ap (λ o. c ∷ of_super (chain (with_clients W clients)) o) s ∙ ap (λ cs. c ∷ cs) w.2)

pub seat_ends_the_clients : SeatEndsTheClients
unfolding Ends
seat_ends_the_clients W clients bare allowed x a h q =
    let w = ends W clients (fits_of W clients bare (allowed_names W clients allowed)) x h a q in
    (w.0, All-from_recursion (λ c. is_client (with_clients W clients) c.name ≡ true) w.0 w.1, w.2)
