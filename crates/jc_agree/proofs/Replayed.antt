-- A witness, as `link` sees it.
use Rattle.std.proofs.Common.{◌≡◌, ◌⊎◌, inl, inr, true, ◌+◌, ℕ, suc, zero, List, [], ◌∷◌, ◌++◌, Option, Some, None, is_some, refl, sym, subst, ◌∙◌, arith, cond}
use Rattle.std.specs.Prelude.{IsTrue, slice_get}
use Rattle.std.specs.List.{Contains, count_by}
use Rattle.std.proofs.lemmas.Bool.{and_parts}
use Rattle.std.proofs.lemmas.List.Elements.{recursion_from_All, Contains-append_left, Contains-append_right}
use Rattle.std.proofs.lemmas.List.Sums.{sum_by-cons}
use Rattle.jc_facts.specs.declared.client.ClientClass.{ClientClass}
use Rattle.jc_facts.specs.declared.client.Item.{Item}
use Rattle.jc_facts.specs.declared.link_error.LinkError.{LinkError}
use Rattle.jc_facts.specs.declared.outcome.Outcome.{Outcome}
use Rattle.jc_facts.specs.declared.verdict.Spot.{Spot}
use Rattle.jc_facts.specs.declared.verdict.Spot.TheVariants as spots
use Rattle.jc_facts.specs.Names.{Bytes}
use Rattle.jc_facts.specs.Options.{or_else}
use Rattle.jc_facts.specs.client.Valid.{facts_of}
use Rattle.jc_facts.specs.client.Allowed.{is_allowed_name}
use Rattle.jc_promises.specs.client.Reach.{is_in_reach}
use Rattle.jc_promises.specs.rule.Bases.{allowed}
use Rattle.jc_facts.specs.client.Linked.{outcomes, in_order, all_outcomes, client_outcomes, item_outcomes, loading, linking}
use Rattle.jc_facts.specs.client.Outcome.{Links}
use Rattle.jc_facts.specs.world.World.{World, with_clients}
use Rattle.jc_lemmas.proofs.Listed.{EachOf, EachOf-map, here, there, cases, none}
use Rattle.jc_lemmas.proofs.Options.{none_where}
use Rattle.jc_complete.specs.Completeness.{LinksWhole, FailsBy}
use Rattle.jc_link.specs.Refusals.{refused_client, first_refused, name_fault, NamesAreAllowed}
use Rattle.jc_witness.specs.declared.witness.WitnessFile.{WitnessFile}
use Rattle.jc_witness.specs.Witnesses.{IsWitness, IsReadAs, AreReadAs, FailAtSpots, FailsAt}
use Rattle.jc_agree.specs.Replays.{IsOutcomeAt, FailsAtTheSpot, WitnessesReplay}
use Rattle.jc_agree.proofs.Outcomes.{LinksEach, ordered_all, ordered_has, clients_ok}

-- ---- nobody is refused

pub none_refused : NamesAreAllowed → (W : World) (cs : List ClientClass) → EachOf (λ c. IsTrue (is_allowed_name W c.facts.name)) cs → first_refused W cs ≡ None
unfolding or_else
none_refused law W [] h = refl
none_refused law W (c ∷ cs) h =
    let e : name_fault W c.facts.name ≡ None = none_where (name_fault W c.facts.name) (law W c.facts.name ∙ h.0) in
    rw e (none_refused law W cs h.1)

-- ---- with the old side

-- who links whole, links
links_each : (W : World) (cs : List ClientClass) → EachOf (LinksWhole W cs) cs → EachOf (LinksEach W) cs
links_each W cs h = EachOf-map each cs h
  where
    each : (c : ClientClass) → LinksWhole W cs c → LinksEach W c
    each c k = (k.0, EachOf-map (λ i l. l.1) c.items (recursion_from_All (λ i. IsTrue (is_in_reach W c.facts.name cs i) × Links W c.facts.name i) c.items k.1))

-- ---- with the new side

-- the file with the spot, and the client as which it is read
record HasSpot (W : World) (error : LinkError) (fs : List WitnessFile) (cs : List ClientClass) : Type 0 where
  file : WitnessFile
  client : ClientClass
  spot : Spot
  is_file : Contains fs file
  is_client : Contains cs client
  is_read : IsReadAs file client
  has_spot : file.spot ≡ Some spot
  fails : FailsBy W client spot error

behind : (W : World) (error : LinkError) (f : WitnessFile) (c : ClientClass) (fs : List WitnessFile) (cs : List ClientClass) → HasSpot W error fs cs → HasSpot W error (f ∷ fs) (c ∷ cs)
behind W error f c fs cs h = record {
  file = h.file;
  client = h.client;
  spot = h.spot;
  is_file = there h.file f fs h.is_file;
  is_client = there h.client c cs h.is_client;
  is_read = h.is_read;
  has_spot = h.has_spot;
  fails = h.fails;
}

some_spot : (W : World) (error : LinkError) (fs : List WitnessFile) (cs : List ClientClass) → AreReadAs fs cs → FailAtSpots W error fs cs → count_by (λ (f : WitnessFile). is_some f.spot) fs ≡ 1 → HasSpot W error fs cs
some_spot W error [] cs r h one = absurd (cc)
some_spot W error (f ∷ fs) [] r h one = absurd r
some_spot W error (f ∷ fs) (c ∷ cs) r h one = go f.spot refl h.0 (sym (sum_by-cons (λ (g : WitnessFile). cond (is_some g.spot) 1 0) f fs) ∙ one) (some_spot W error fs cs r.1 h.1)
  where
    go : (s : Option Spot) → f.spot ≡ s → FailsAt W c s error → (cond (is_some s) 1 0 + count_by (λ (g : WitnessFile). is_some g.spot) fs) ≡ 1 → (count_by (λ (g : WitnessFile). is_some g.spot) fs ≡ 1 → HasSpot W error fs cs) → HasSpot W error (f ∷ fs) (c ∷ cs)
    go None q k e rest = behind W error f c fs cs (rest (omega (arith, e)))
    go (Some s) q k e rest = record { file = f; client = c; spot = s; is_file = here f fs; is_client = here c cs; is_read = r.0; has_spot = q; fails = k }

item_has : (W : World) (x : Bytes) (is : List Item) (n : ℕ) (i : Item) → slice_get is n ≡ Some i → Contains (item_outcomes W x is) (linking W x i)
item_has W x [] n i e = absurd (cc)
item_has W x (j ∷ js) zero i e = let same : j ≡ i = cc in subst (λ k. Contains (linking W x j ∷ item_outcomes W x js) (linking W x k)) same (here (linking W x j) (item_outcomes W x js))
item_has W x (j ∷ js) (suc n) i e = there (linking W x i) (linking W x j) (item_outcomes W x js) (item_has W x js n i e)

-- one of the outcomes is that at the client's spot, and has the error
record Says (W : World) (error : LinkError) (c : ClientClass) (s : Spot) (os : List Outcome) : Type 0 where
  said : Outcome
  is_said : Contains os said
  is_at : IsOutcomeAt c s said
  fails : said.error ≡ Some error

client_says : (W : World) (error : LinkError) (c : ClientClass) (s : Spot) → FailsBy W c s error → Says W error c s (client_outcomes W c)
unfolding client_outcomes
client_says W error c spots.Load h = record { said = loading W c.facts.name; is_said = here (loading W c.facts.name) _; is_at = (refl, refl); fails = h }
client_says W error c (spots.Item n) h =
    let i = h.1.0 in
    record {
      said = linking W c.facts.name i;
      is_said = there (linking W c.facts.name i) (loading W c.facts.name) _ (rw h.0 (item_has W c.facts.name c.items n i h.1.1));
      is_at = (refl, sym h.1.1);
      fails = h.1.2;
    }

all_say : (W : World) (error : LinkError) (cs : List ClientClass) (c : ClientClass) (s : Spot) → Contains cs c → Says W error c s (client_outcomes W c) → Says W error c s (all_outcomes W cs)
all_say W error [] c s k h = absurd (none c k)
all_say W error (d ∷ ds) c s k h = go (cases d ds c k) (λ m. all_say W error ds c s m h)
  where
    go : (d ≡ c) ⊎ Contains ds c → (Contains ds c → Says W error c s (all_outcomes W ds)) → Says W error c s (client_outcomes W d ++ all_outcomes W ds)
    go (inl e) rest = record {
      said = h.said;
      is_said = Contains-append_left (client_outcomes W d) (all_outcomes W ds) h.said (subst (λ (x : ClientClass). Contains (client_outcomes W x) h.said) (sym e) h.is_said);
      is_at = h.is_at;
      fails = h.fails;
    }
    go (inr m) rest = let r = rest m in record {
      said = r.said;
      is_said = Contains-append_right (client_outcomes W d) (all_outcomes W ds) r.said r.is_said;
      is_at = r.is_at;
      fails = r.fails;
    }

-- ---- the law

module _ (O N : World) (error : LinkError) (fs : List WitnessFile) (cs : List ClientClass) (is : IsWitness O N error fs cs) where
  old_links : EachOf (LinksEach (with_clients O (facts_of cs))) (in_order cs)
  old_links = ordered_all (LinksEach (with_clients O (facts_of cs))) cs (links_each (with_clients O (facts_of cs)) cs (recursion_from_All (LinksWhole (with_clients O (facts_of cs)) cs) cs is.links))

  new_fails : FailsAtTheSpot fs error (outcomes N cs)
  unfolding outcomes
  new_fails =
      let f = some_spot (with_clients N (facts_of cs)) error fs cs is.read is.fails is.one_spot in
      let o = all_say (with_clients N (facts_of cs)) error (in_order cs) f.client f.spot (ordered_has cs f.client f.is_client) (client_says (with_clients N (facts_of cs)) error f.client f.spot f.fails) in
      record {
        file = f.file;
        is_file = f.is_file;
        client = f.client;
        is_read = f.is_read;
        spot = f.spot;
        has_spot = f.has_spot;
        said = o.said;
        is_said = o.is_said;
        is_at = o.is_at;
        fails = o.fails;
      }

  taken : NamesAreAllowed → (W : World) → EachOf (λ c. IsTrue (is_allowed_name W c.facts.name)) cs → refused_client W cs ≡ None
  taken law W h = none_refused law W (in_order cs) (ordered_all (λ c. IsTrue (is_allowed_name W c.facts.name)) cs h)

pub witnesses_replay : NamesAreAllowed → WitnessesReplay
unfolding outcomes
witnesses_replay law O N error fs cs is = record {
  taken_old = taken O N error fs cs is law O (EachOf-map (λ c a. (both_allowed c a).0) cs each);
  taken_new = taken O N error fs cs is law N (EachOf-map (λ c a. (both_allowed c a).1) cs each);
  links = clients_ok (with_clients O (facts_of cs)) (in_order cs) (old_links O N error fs cs is);
  breaks = new_fails O N error fs cs is;
}
  where
    each : EachOf (λ c. IsTrue (allowed O N c.facts.name)) cs
    each = recursion_from_All (λ c. IsTrue (allowed O N c.facts.name)) cs is.allowed_names

    both_allowed : (c : ClientClass) → allowed O N c.facts.name ≡ true → (is_allowed_name O c.facts.name ≡ true) × (is_allowed_name N c.facts.name ≡ true)
    both_allowed c = and_parts (is_allowed_name O c.facts.name) (is_allowed_name N c.facts.name)
