-- What is said of clients, by their byte order.
use Rattle.std.proofs.Common.{◌≡◌, ◌≤◌, ◌+◌, ℕ, arith, List, [], map, length, refl, sym, ◌∙◌, ap, Option, Some, None}
use Rattle.std.specs.Prelude.{count_by, is_some, IsTrue}
use Rattle.jc_facts.specs.declared.client.ClientClass.{ClientClass}
use Rattle.jc_facts.specs.declared.link_error.LinkError.{LinkError}
use Rattle.jc_facts.specs.declared.outcome.Outcome.{Outcome}
use Rattle.jc_facts.specs.Names.{Bytes}
use Rattle.jc_facts.specs.Options.{or_else}
use Rattle.jc_facts.specs.client.Linked.{in_order, all_outcomes, outcomes}
use Rattle.jc_facts.specs.client.Valid.{facts_of}
use Rattle.jc_facts.specs.world.World.{World, side, modular_side, with_clients, differ_by_name}
use Rattle.jc_facts.proofs.Clients.{facts_length}
use Rattle.jc_facts.proofs.Options.{or_else-none}
use Rattle.jc_link.specs.Refusals.{first_refused}
use Rattle.jc_link.specs.declared.refusal.ClientPart.{ClientPart}
use Rattle.jc_link.specs.declared.asked.Asked.{Asked}
use Rattle.jc_link.specs.steps.Asked.{asked_of}
use Rattle.jc_link.proofs.Client.{all_alike}
use Rattle.jc_link.proofs.Joined.{records_differ, clients_apart}
use Rattle.jc_link.proofs.Sorting.{find_in_order, order_length}
use Rattle.jc_losses.specs.Ground.{side_of_ground, IsGround}
use Rattle.jc_losses.specs.Losses.{all_losses, losses}
use Rattle.jc_losses.specs.JudgedOf.{losses_of, refused_by_either, judged_by, judged_of}
use Rattle.jc_losses.specs.steps.Asked.{losses_of_asked, errors_of_asked, first_of_either, losses_by}
use Rattle.jc_losses.specs.steps.Ground.{with_records, StandBeside}
use Rattle.jc_losses.specs.declared.grounds.Ground.{Ground}
use Rattle.jc_losses.specs.declared.grounds.Ground.TheVariants as grounds
use Rattle.jc_losses.specs.declared.losses.Losses.{Losses}
use Rattle.jc_losses.specs.declared.losses.Judged.TheVariants as judged
use Rattle.jc_losses.proofs.Alike.{losses_alike}
use Rattle.jc_losses.proofs.Counts.{asked_losses, errors_counted, outcomes_counted}
use Rattle.jc_losses.proofs.InOneList.{same_in_modules}
use Rattle.jc_worlds.specs.Alike.{LinkAlike}
use Rattle.jc_worlds.proofs.Alike.{worlds_link_alike}
use Rattle.jc_worlds.proofs.ClientOrder.{found}

-- ---- losses

losses_made : (A B : World) (cs : List ClientClass) (W V : World) (asked : List Asked) (lost : List Outcome) (errors : List (Option LinkError))
    → W ≡ A → V ≡ B → asked ≡ map asked_of cs → lost ≡ losses_of_asked W V asked → errors ≡ errors_of_asked W asked
    → record { classes = length cs; outcomes = length errors; errors = count_by is_some errors; lost = lost } ≡ losses_by A B cs
losses_made A B cs W V asked lost errors w v a l e = rw (l, e, a, w, v, asked_losses A B cs, errors_counted A cs, outcomes_counted A cs) refl

pub losses_found : (A B : World) (cs : List ClientClass) (W V : World) (asked : List Asked) (lost : List Outcome) (all : List (Option LinkError)) (classes outcomes errors : ℕ)
    → W ≡ A → V ≡ B → asked ≡ map asked_of cs → lost ≡ losses_of_asked W V asked → all ≡ errors_of_asked W asked
    → classes ≡ length cs → outcomes ≡ length all → errors ≡ count_by is_some all → record { classes = classes; outcomes = outcomes; errors = errors; lost = lost } ≡ losses_by A B cs
losses_found A B cs W V asked lost all classes outcomes errors w v a l x c o e =
    ap (λ (n : ℕ). let m : Losses = record { classes = n; outcomes = outcomes; errors = errors; lost = lost } in m) c
    ∙ ap (λ (n : ℕ). let m : Losses = record { classes = length cs; outcomes = n; errors = errors; lost = lost } in m) o
    ∙ ap (λ (n : ℕ). let m : Losses = record { classes = length cs; outcomes = length all; errors = n; lost = lost } in m) e
    ∙ losses_made A B cs W V asked lost all w v a l x

pub facts_few : (n : ℕ) (cs : List ClientClass) → n + length cs ≤ 120000 → n + length (facts_of cs) ≤ 120000
facts_few n cs h = omega (arith, h, facts_length cs)

-- ---- names that aren't allowed

pub old_first : (a b : Option (Bytes × ClientPart)) (r : Bytes × ClientPart) → Some r ≡ a → Some r ≡ or_else a b
unfolding or_else
old_first None b r h = absurd (let clash : Some r ≡ None = h in cc)
old_first (Some s) b r h = h

pub new_first : (a b s : Option (Bytes × ClientPart)) → None ≡ a → s ≡ b → s ≡ or_else a b
unfolding or_else
new_first None b s h k = k
new_first (Some r) b s h k = absurd (let clash : None ≡ Some r = h in cc)

-- both sides allow them all
pub both_allow : (old new : Ground) (cs : List ClientClass) → None ≡ first_of_either (side_of_ground old) (side_of_ground new) cs
    → (first_refused (side_of_ground old) cs ≡ None) × (first_refused (side_of_ground new) cs ≡ None)
both_allow old new cs h = or_else-none (first_refused (side_of_ground old) cs) (first_refused (side_of_ground new) cs) (sym h)

-- clients whose names are allowed stand beside the release
pub stand_beside : (g : Ground) (cs : List ClientClass) → IsGround g → IsTrue (differ_by_name (facts_of cs)) → first_refused (side_of_ground g) cs ≡ None → StandBeside g (facts_of cs)
stand_beside (grounds.Together both) cs h d a = tt
stand_beside (grounds.Apart platform release exports) cs h d a =
    let k : first_refused (side platform release) cs ≡ None = sym (same_in_modules exports platform release cs) ∙ a in
    record { differ = records_differ platform release cs h.release_differs d k; apart = clients_apart platform release cs k }

-- ---- what is said

module _ (cs : List ClientClass) (differ : IsTrue (differ_by_name (facts_of cs))) where
  alike : (g : Ground) → LinkAlike (with_clients (side_of_ground g) (facts_of cs)) (with_records g (facts_of (in_order cs)))
  alike (grounds.Together both) =
      worlds_link_alike (with_clients (side both []) (facts_of cs)) (side both (facts_of (in_order cs))) (find_in_order both [] cs differ) (λ x y. record { seen = refl; together = refl })
  alike (grounds.Apart platform release exports) =
      worlds_link_alike (with_clients (modular_side exports platform release) (facts_of cs)) (with_clients (modular_side exports platform release) (facts_of (in_order cs)))
      (found (modular_side exports platform release) cs differ) (λ x y. record { seen = refl; together = refl })

  module _ (old new : Ground) where
    same_losses : all_losses (with_records old (facts_of (in_order cs))) (with_records new (facts_of (in_order cs))) (in_order cs) ≡ losses (side_of_ground old) (side_of_ground new) cs
    unfolding losses
    same_losses = sym (losses_alike _ _ _ _ (alike old) (alike new) (in_order cs))

    same_outcomes : all_outcomes (with_records old (facts_of (in_order cs))) (in_order cs) ≡ outcomes (side_of_ground old) cs
    unfolding outcomes
    same_outcomes = sym (all_alike _ _ (alike old) (in_order cs))

    sorted_losses : losses_by (with_records old (facts_of (in_order cs))) (with_records new (facts_of (in_order cs))) (in_order cs) ≡ losses_of (side_of_ground old) (side_of_ground new) cs
    sorted_losses = rw (same_losses, same_outcomes, order_length cs) refl

    pub refused_said : (ds : List ClientClass) (r : Bytes × ClientPart) → ds ≡ in_order cs → Some r ≡ first_of_either (side_of_ground old) (side_of_ground new) ds
        → judged.Refused r.0 r.1 ≡ judged_of (side_of_ground old) (side_of_ground new) cs
    refused_said ds r is h =
        let e : Some r ≡ refused_by_either (side_of_ground old) (side_of_ground new) cs = h ∙ ap (first_of_either (side_of_ground old) (side_of_ground new)) is in
        ap (λ o. judged_by o (losses_of (side_of_ground old) (side_of_ground new) cs)) e

    pub losses_said : (ds : List ClientClass) (l : Losses) → ds ≡ in_order cs → None ≡ first_of_either (side_of_ground old) (side_of_ground new) ds
        → l ≡ losses_by (with_records old (facts_of ds)) (with_records new (facts_of ds)) ds → judged.Losses l ≡ judged_of (side_of_ground old) (side_of_ground new) cs
    losses_said ds l is h k =
        let e : None ≡ refused_by_either (side_of_ground old) (side_of_ground new) cs = h ∙ ap (first_of_either (side_of_ground old) (side_of_ground new)) is in
        let s : losses_by (with_records old (facts_of ds)) (with_records new (facts_of ds)) ds ≡ losses_of (side_of_ground old) (side_of_ground new) cs
        = ap (λ (es : List ClientClass). losses_by (with_records old (facts_of es)) (with_records new (facts_of es)) es) is ∙ sorted_losses in
        ap (λ (m : Losses). judged.Losses m) (k ∙ s) ∙ ap (λ o. judged_by o (losses_of (side_of_ground old) (side_of_ground new) cs)) e
