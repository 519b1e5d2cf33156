-- A member of a client class, seen from clients with two releases.
use Rattle.std.proofs.Common.{◌≡◌, true, false, cond, List, refl, sym, ◌∙◌, ap, subst, Option, Some, None, ◌&&◌}
use Rattle.jc_facts.specs.declared.class_facts.ClassFacts.{ClassFacts}
use Rattle.jc_facts.specs.Names.{Bytes, in_same_package, is_name_among}
use Rattle.jc_facts.specs.world.World.{World, find_class, DeclaredMember, class_named, with_clients}
use Rattle.jc_facts.specs.world.Access.{host_of, is_member_accessible}
use Rattle.jc_facts.specs.world.Loading.{load_fault}
use Rattle.jc_promises.specs.client.Names.{is_free_name, is_client_name}
use Rattle.jc_facts.proofs.World.{find-name, EachOf-class_named}
use Rattle.jc_worlds.proofs.Sides.{find-library}
use Rattle.jc_worlds.proofs.Clients.{Fits, find-client}
use Rattle.jc_worlds.proofs.Packages.{same_package_apart}
use Rattle.jc_sound.proofs.ClientNames.{free_old, free_new, free_parts}
use Rattle.jc_sound.proofs.Ground.{Ground, client_chain}

-- a library class hosts no client
host_at : (x h : Bytes) → Option ClassFacts → Bytes
host_at x h o = elim o [ None ↦ x | Some d ↦ cond (in_same_package x h && is_name_among d.nest_members x) h x ]

no_host : (W : World) (cs : List ClassFacts) (f : Fits W cs) (x h : Bytes) (c : ClassFacts) → class_named cs x ≡ Some c → is_free_name W x ≡ true → class_named cs h ≡ None → host_at x h (find_class (with_clients W cs) h) ≡ x
unfolding host_at
no_host W cs f x h c k a l = go (find_class W h) refl (find-library W cs f.bare h l)
  where
    go : (o : Option ClassFacts) → find_class W h ≡ o → find_class W h ≡ find_class (with_clients W cs) h → host_at x h (find_class (with_clients W cs) h) ≡ x
    go None e q = rw (sym q ∙ e) refl
    go (Some d) e q =
        let p = free_parts W x a in
        let s : in_same_package x h ≡ false = subst (λ z. in_same_package x z ≡ false) (find-name W h d e) (same_package_apart W x h d p.apart e) in
        rw (sym q ∙ e) (rw s refl)

module _ (O N : World) (cs : List ClassFacts) (g : Ground O N cs) where
  abbrev VO : World
  VO = with_clients O cs

  abbrev VN : World
  VN = with_clients N cs

  pub host_same : (x : Bytes) (c : ClassFacts) → class_named cs x ≡ Some c → host_of VO x ≡ host_of VN x
  unfolding host_of host_at
  host_same x c k = ap (cls VO) (find-client O cs g.fo x c k) ∙ by c.nest_host ∙ ap (cls VN) (sym (find-client N cs g.fn x c k))
    where
      at : World → Option Bytes → Bytes
      at W o = elim o [ None ↦ x | Some h ↦ host_at x h (find_class W h) ]

      cls : World → Option ClassFacts → Bytes
      cls W o = elim o [ None ↦ x | Some c ↦ at W c.nest_host ]

      named : (h : Bytes) (o : Option ClassFacts) → class_named cs h ≡ o → host_at x h (find_class VO h) ≡ host_at x h (find_class VN h)
      named h (Some d) e = ap (host_at x h) (find-client O cs g.fo h d e ∙ sym (find-client N cs g.fn h d e))
      named h None e = let n = EachOf-class_named (λ n. is_client_name O N n ≡ true) cs x c k g.client_names in no_host O cs g.fo x h c k (free_old O N x n) e ∙ sym (no_host N cs g.fn x h c k (free_new O N x n) e)

      by : (o : Option Bytes) → at VO o ≡ at VN o
      by None = refl
      by (Some h) = named h (class_named cs h) refl

  pub member_same : (x t : Bytes) (c d e : ClassFacts) (m : DeclaredMember) → class_named cs x ≡ Some c → class_named cs t ≡ Some d → class_named cs m.owner ≡ Some e
      → load_fault VO x ≡ None → load_fault VO t ≡ None → is_member_accessible VO x t m ≡ is_member_accessible VN x t m
  unfolding is_member_accessible
  member_same x t c d e m kx kt ko lx lt =
      let nx = g.clients_load x c kx lx in
      let nt = g.clients_load t d kt lt in
      rw (
        client_chain O N cs g.fo g.fn m.owner e ko x lx nx,
        client_chain O N cs g.fo g.fn t d kt x lx nx,
        client_chain O N cs g.fo g.fn x c kx t lt nt,
        host_same x c kx,
        host_same m.owner e ko,
      ) refl
