-- What is Ok with the old release is Ok with a compatible one.
use Rattle.std.proofs.Common.{◌≡◌, true, List, ap, ◌∙◌, IsTrue}
use Rattle.std.specs.List.{All, Contains}
use Rattle.std.proofs.lemmas.List.Elements.{recursion_from_All, All-contains}
use Rattle.jc_facts.specs.declared.client.ClientClass.{ClientClass}
use Rattle.jc_facts.specs.client.Valid.{facts_of}
use Rattle.jc_promises.specs.client.Reach.{is_in_reach}
use Rattle.jc_promises.specs.client.Keeps.{Keeps}
use Rattle.jc_facts.specs.client.Linked.{outcomes, are_all_ok, in_order}
use Rattle.jc_facts.specs.client.Outcome.{Links}
use Rattle.jc_facts.specs.world.World.{World, with_clients}
use Rattle.jc_lemmas.proofs.Listed.{EachOf, each_in, each_from}
use Rattle.jc_sound.proofs.SoundnessLaws.{keeps}
use Rattle.jc_agree.specs.Compatible.{AreInReach, CompatibleStaysOk}
use Rattle.jc_agree.proofs.Outcomes.{LinksEach, ordered_all, ordered_has, ok_clients, same_outcomes}

module _ (O N : World) (cs : List ClientClass) (kept : Keeps O N cs) (reach : AreInReach O cs) where
  abbrev W : World
  W = with_clients O (facts_of cs)

  abbrev V : World
  V = with_clients N (facts_of cs)

  -- a client that links still does
  still_links : (c : ClientClass) → Contains cs c → LinksEach W c → LinksEach V c
  still_links c k h = (
    kept.loading c k h.0,
    each_from (Links V c.facts.name) c.items (λ i m. kept.uses c i k h.0 m (each_in (λ i. IsTrue (is_in_reach W c.facts.name cs i)) c.items i (in_reach c k) m) (each_in (Links W c.facts.name) c.items i h.1 m)),
  )
    where
      in_reach : (c : ClientClass) → Contains cs c → EachOf (λ i. IsTrue (is_in_reach W c.facts.name cs i)) c.items
      in_reach c k = recursion_from_All (λ i. IsTrue (is_in_reach W c.facts.name cs i)) c.items (All-contains (λ (d : ClientClass). All (λ i. IsTrue (is_in_reach W d.facts.name cs i)) d.items) cs c reach k)

  links_old : are_all_ok (outcomes O cs) ≡ true → EachOf (LinksEach W) (in_order cs)
  unfolding outcomes
  links_old ok = ok_clients W (in_order cs) ok

  links_new : EachOf (LinksEach W) (in_order cs) → EachOf (LinksEach V) (in_order cs)
  links_new h = ordered_all (LinksEach V) cs (each_from (LinksEach V) cs (λ c k. still_links c k (each_in (LinksEach W) (in_order cs) c h (ordered_has cs c k))))

  same_said : are_all_ok (outcomes O cs) ≡ true → outcomes N cs ≡ outcomes O cs
  unfolding outcomes
  same_said ok = let h = links_old ok in same_outcomes W V (in_order cs) h (links_new h)

pub stays_ok : CompatibleStaysOk
stays_ok O N v cs pair is none scope meets reach ok =
    let kept = keeps O N v cs pair is none scope meets in
    let same = same_said O N cs kept reach ok in
    (same, ap are_all_ok same ∙ ok)
