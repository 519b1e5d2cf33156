-- What clients lose where there is no finding, and what witnesses lose.
use Rattle.std.proofs.Common.{◌≡◌, Bool, true, false, List, [], ◌∷◌, refl, sym, ◌∙◌, ap, subst, Option, Some, None}
use Rattle.std.specs.Prelude.{is_some, IsTrue}
use Rattle.std.specs.List.{All, Contains}
use Rattle.std.proofs.lemmas.List.Elements.{All-from_recursion, All-contains, recursion_from_All}
use Rattle.jc_facts.specs.declared.client.ClientClass.{ClientClass}
use Rattle.jc_facts.specs.declared.client.Item.{Item}
use Rattle.jc_facts.specs.declared.link_error.LinkError.{LinkError}
use Rattle.jc_facts.specs.declared.outcome.Outcome.{Outcome}
use Rattle.jc_facts.specs.client.Outcome.{outcome}
use Rattle.jc_facts.specs.client.Valid.{facts_of}
use Rattle.jc_facts.specs.world.Loading.{load_fault}
use Rattle.jc_facts.specs.world.World.{World, with_clients}
use Rattle.jc_lemmas.proofs.Listed.{each_from}
use Rattle.jc_link.specs.Refusals.{NamesAreAllowed}
use Rattle.jc_promises.specs.client.Keeps.{Keeps}
use Rattle.jc_promises.specs.client.Reach.{is_in_reach}
use Rattle.jc_sound.proofs.SoundnessLaws.{keeps}
use Rattle.jc_agree.specs.Compatible.{AreInReach}
use Rattle.jc_agree.specs.Losses.{IsOutOfReach, CompatibleLosesLittle, LossesHaveFindings, WitnessesAreLost}
use Rattle.jc_agree.proofs.Replayed.{witnesses_replay}
use Rattle.jc_losses.specs.Losses.{losses}
use Rattle.jc_losses.proofs.Both.{WasAt, IsLossOf, loss_of, error_is_lost}

module _ (O N : World) (cs : List ClientClass) (kept : Keeps O N cs) where
  abbrev W : World
  W = with_clients O (facts_of cs)

  abbrev V : World
  V = with_clients N (facts_of cs)

  -- a loss is none of a loading, and none in reach
  out_of : (o : Outcome) → IsLossOf O N cs o → IsOutOfReach O cs o
  out_of o l = by l.client l.is_client l.named l.loaded o.item refl l.at
    where
      some_none : {P : Type 0} (f : Option LinkError) → f ≡ None → IsTrue (is_some f) → P
      some_none f e t = absurd (let clash : false ≡ true = sym (ap is_some e) ∙ t in cc)

      by : (c : ClientClass) → Contains cs c → o.class ≡ c.facts.name → load_fault W c.facts.name ≡ None → (i : Option Item) → o.item ≡ i → WasAt W V c i → IsOutOfReach O cs o
      by c m n d None e at = some_none (load_fault V c.facts.name) (kept.loading c m d) at
      by c m n d (Some i) e at = go (is_in_reach W c.facts.name cs i) refl
        where
          go : (b : Bool) → is_in_reach W c.facts.name cs i ≡ b → IsOutOfReach O cs o
          go true r = some_none (outcome V c.facts.name i) (kept.uses c i m d at.0 r at.1) at.2
          go false r = record { client = c; is_client = m; named = n; item = i; is_item = e; has_item = at.0; out = r }

  all_out : All (IsOutOfReach O cs) (losses O N cs)
  all_out = All-from_recursion (IsOutOfReach O cs) (losses O N cs) (each_from (IsOutOfReach O cs) (losses O N cs) (λ o k. out_of o (loss_of O N cs o k)))

pub loses_little : CompatibleLosesLittle
loses_little O N v cs j is = all_out O N cs (keeps O N v cs j.pair j.exact is j.in_scope j.meets)

-- nothing is lost where all is in reach
reach_none : (O : World) (cs : List ClientClass) → AreInReach O cs → (o : Outcome) → IsOutOfReach O cs o → ⊥
reach_none O cs reach o h =
    let each = All-contains (λ (d : ClientClass). All (λ i. IsTrue (is_in_reach (with_clients O (facts_of cs)) d.facts.name cs i)) d.items) cs h.client reach h.is_client in
    let t : is_in_reach (with_clients O (facts_of cs)) h.client.facts.name cs h.item ≡ true = All-contains (λ i. IsTrue (is_in_reach (with_clients O (facts_of cs)) h.client.facts.name cs i)) h.client.items h.item each h.has_item in
    let clash : true ≡ false = sym t ∙ h.out in absurd (cc)

none_left : (O : World) (cs : List ClientClass) → AreInReach O cs → (os : List Outcome) → All (IsOutOfReach O cs) os → os ≡ []
none_left O cs reach [] h = refl
none_left O cs reach (o ∷ os) h = absurd (reach_none O cs reach o (recursion_from_All (IsOutOfReach O cs) (o ∷ os) h).0)

pub have_findings : LossesHaveFindings
have_findings O N v cs j reach some = λ is. some (none_left O cs reach (losses O N cs) (loses_little O N v cs j is))

pub are_lost : NamesAreAllowed → WitnessesAreLost
are_lost law O N error fs cs is =
    let r = witnesses_replay law O N error fs cs is in
    let f = r.breaks in
    record {
      file = f.file;
      is_file = f.is_file;
      client = f.client;
      is_read = f.is_read;
      spot = f.spot;
      has_spot = f.has_spot;
      said = f.said;
      is_said = error_is_lost O N cs f.said r.links f.is_said (subst (λ z. IsTrue (is_some z)) (sym f.fails) refl);
      is_at = f.is_at;
      fails = f.fails;
    }
