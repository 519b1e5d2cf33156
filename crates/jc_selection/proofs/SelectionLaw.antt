-- Selection is kept.
use Rattle.std.proofs.Common.{◌≡◌, true, List, [], refl, subst, Option, Some, None, inr}
use Rattle.std.specs.List.{Contains}
use Rattle.std.proofs.lemmas.List.Elements.{All-contains}
use Rattle.jc_facts.specs.declared.key.Key.{Key}
use Rattle.jc_facts.specs.declared.act.Act.TheVariants.{Override}
use Rattle.jc_facts.specs.declared.link_error.LinkError.TheVariants.{IncompatibleClassChangeError}
use Rattle.jc_facts.specs.declared.verdict.Collision.{Collision}
use Rattle.jc_facts.specs.Names.{Bytes}
use Rattle.jc_facts.specs.world.World.{World, with_clients}
use Rattle.jc_facts.specs.client.Valid.{facts_of}
use Rattle.jc_promises.specs.client.Meets.{Meets, MeetsFinal}
use Rattle.jc_promises.specs.rule.Collisions.{made_collision, final_added}
use Rattle.jc_lemmas.proofs.Listed.{none}
use Rattle.jc_sound.proofs.FindingLaws.{empty_means_none}
use Rattle.jc_sound.proofs.Sound.{loads_kept, ground, named_client}
use Rattle.jc_sound.proofs.Standing.{all_quiet}
use Rattle.jc_selection.specs.SelectionKept.{SelectionKept}
use Rattle.jc_promises.specs.rule.Warnings.{AreWarnings, warning_at}
use Rattle.jc_facts.specs.declared.warning.Warning.{Warning}
use Rattle.jc_facts.specs.declared.warning.WarnKind.{WarnKind}
use Rattle.jc_selection.proofs.Selected.{stays_answered}
use Rattle.jc_sound.proofs.SoundnessLaws.{final_is}

-- an empty list of warnings says that none stands
pub none_warned : (O N : World) (ws : List Warning) → AreWarnings O N ws → ws ≡ [] → (b : Bytes) (k : Key) → warning_at O N b k ≡ None
none_warned O N ws h empty b k = go (warning_at O N b k) refl
  where
    go : (o : Option WarnKind) → warning_at O N b k ≡ o → o ≡ None
    go None e = refl
    go (Some w) e = absurd (
        let one : Warning = record { «class» = b; key = k; kind = w } in
        none one (subst (λ xs. Contains xs one) empty (h.complete one e)))

pub selection_is_kept : SelectionKept
selection_is_kept O N v ws pair verdict warnings empty no_warnings cs scope met y is_in kind loaded answers k mk due =
    let W = with_clients O (facts_of cs) in
    let q = all_quiet O N (empty_means_none O N v verdict empty) in
    let final : (a : Bytes) (k : Key) → final_added O N a k ≡ true → MeetsFinal W cs a k → ⊥ = λ a k e m.
    All-contains (λ (c : Collision). c.rule ≡ 12 → Meets W cs c → ⊥) v.collisions (made_collision 12 a k Override IncompatibleClassChangeError) met
    (verdict.collisions.complete (made_collision 12 a k Override IncompatibleClassChangeError) (final_is O N a k e)) refl (inr (inr (refl, m))) in
    let g = ground O N cs pair q scope (loads_kept O N cs pair q scope refl final) in
    stays_answered O N (facts_of cs) g k mk (λ b. none_warned O N ws warnings no_warnings b k) y.facts.name y.facts (named_client O N cs pair q scope y is_in) loaded kind (λ d. answers k mk d) due
