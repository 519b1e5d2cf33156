-- Class files sorted by name stand beside the clients sorted by name, and one of them has the spot.
use Rattle.std.proofs.Common.{◌≡◌, ◌+◌, Bool, true, false, cond, List, [], ◌∷◌, Some, None, Ok, refl, sym, ap, subst, ◌∙◌, arith, is_some, is_none, Contains}
use Rattle.std.specs.List.{count_by}
use Rattle.std.specs.Ordering.{is_lt}
use Rattle.std.proofs.lemmas.Bool.{and_parts}
use Rattle.std.proofs.lemmas.List.Sums.{sum_by-cons}
use Rattle.jc_facts.specs.declared.blueprint.Blueprint.{Blueprint}
use Rattle.jc_facts.specs.declared.class_facts.ClassFacts.{ClassFacts}
use Rattle.jc_facts.specs.declared.client.ClientClass.{ClientClass}
use Rattle.jc_facts.specs.declared.client.Item.{Item}
use Rattle.jc_facts.specs.client.Valid.{facts_of}
use Rattle.jc_facts.specs.world.World.{differ_by_name, class_named}
use Rattle.jc_facts.specs.ByName.{placed, by_name}
use Rattle.jc_facts.specs.Names.{Bytes, same}
use Rattle.jc_facts.specs.Exactly.{name_order}
use Rattle.jc_promises.specs.plan.Planned.{Plan, spot_of}
use Rattle.jc_promises.specs.plan.PlannedBodies.{Bodies, blueprint, blueprints}
use Rattle.jc_facts.proofs.Clients.{name_of}
use Rattle.jc_sound.proofs.SoundnessLaws.{client_there}
use Rattle.jc_lemmas.proofs.Options.{none_where}
use Rattle.jc_facts.proofs.Same.{same_is}
use Rattle.jc_write.proofs.WholeFile.{written_reads}
use Rattle.jc_write.proofs.ItemsWritten.{written_items}
use Rattle.jc_bodies.specs.Files.{IsFileOf, AreFilesOf}
use Rattle.jc_bodies.proofs.RowFiles.{AreWritten}
use Rattle.jc_bodies.proofs.Written.{IsWritten}

-- ---- what is written is read back

file_of : (c : ClientClass) (bodies : Bodies) → IsWritten c bodies → IsFileOf (blueprint c bodies) c
file_of c bodies w = record {
  facts = refl;
  typed = w.typed.items;
  writable = record { formed = w.formed; typed = w.typed.typed };
  flags = w.flags;
  fits = w.fits;
  reads = written_reads (blueprint c bodies) w.formed w.flags w.fits;
  items = written_items (blueprint c bodies) w.formed w.flags w.typed.typed w.fits ∙ ap (λ (xs : List Item). Ok xs) w.typed.items;
}

pub files_of : (cs : List ClientClass) (all : List Bodies) → AreWritten cs all → AreFilesOf (blueprints cs all) cs
files_of [] [] h = tt
files_of [] (bodies ∷ all) h = absurd h
files_of (c ∷ cs) [] h = absurd h
files_of (c ∷ cs) (bodies ∷ all) h = (file_of c bodies h.0, files_of cs all h.1)

-- ---- in order

abbrev pub file_name : Blueprint → Bytes
file_name b = b.facts.name

file_placed : (b : Blueprint) (c : ClientClass) (bs : List Blueprint) (cs : List ClientClass) → IsFileOf b c → AreFilesOf bs cs → AreFilesOf (placed file_name b bs) (placed name_of c cs)
unfolding placed
file_placed b c [] [] h t = (h, tt)
file_placed b c [] (d ∷ cs) h t = absurd t
file_placed b c (a ∷ bs) [] h t = absurd t
file_placed b c (a ∷ bs) (d ∷ cs) h t = go (is_lt (name_order a.facts.name b.facts.name)) (is_lt (name_order d.facts.name c.facts.name)) alike (file_placed b c bs cs h t.1)
  where
    first : IsFileOf a d
    first = t.0

    alike : is_lt (name_order a.facts.name b.facts.name) ≡ is_lt (name_order d.facts.name c.facts.name)
    alike = ap (λ (f : ClassFacts). is_lt (name_order f.name b.facts.name)) first.facts ∙ ap (λ (f : ClassFacts). is_lt (name_order d.facts.name f.name)) h.facts

    go : (x y : Bool) → x ≡ y → AreFilesOf (placed file_name b bs) (placed name_of c cs) → AreFilesOf (cond x (a ∷ placed file_name b bs) (b ∷ a ∷ bs)) (cond y (d ∷ placed name_of c cs) (c ∷ d ∷ cs))
    go true true e r = (t.0, r)
    go false false e r = (h, t)
    go true false e r = absurd (cc)
    go false true e r = absurd (cc)

pub files_sorted : (bs : List Blueprint) (cs : List ClientClass) → AreFilesOf bs cs → AreFilesOf (by_name file_name bs) (by_name name_of cs)
unfolding by_name
files_sorted [] [] t = tt
files_sorted [] (c ∷ cs) t = absurd t
files_sorted (b ∷ bs) [] t = absurd t
files_sorted (b ∷ bs) (c ∷ cs) t = file_placed b c (by_name file_name bs) (by_name name_of cs) t.0 (files_sorted bs cs t.1)

-- ---- one spot

has_spot : (p : Plan) (x : Bytes) → is_some (spot_of p x) ≡ same x p.name
has_spot p x = go (same x p.name)
  where
    go : (b : Bool) → is_some (cond b (Some p.spot) None) ≡ b
    go true = refl
    go false = refl

-- as many files as clients have the name
counted : (p : Plan) (bs : List Blueprint) (cs : List ClientClass) → AreFilesOf bs cs → count_by (λ (b : Blueprint). is_some (spot_of p b.facts.name)) bs ≡ count_by (λ (c : ClientClass). same c.facts.name p.name) cs
counted p [] [] t = refl
counted p [] (c ∷ cs) t = absurd t
counted p (b ∷ bs) [] t = absurd t
counted p (b ∷ bs) (c ∷ cs) t =
    let first : IsFileOf b c = t.0 in
    let e : is_some (spot_of p b.facts.name) ≡ same c.facts.name p.name = has_spot p b.facts.name ∙ ap (λ (f : ClassFacts). same f.name p.name) first.facts in
    rw (sum_by-cons (λ (b : Blueprint). cond (is_some (spot_of p b.facts.name)) 1 0) b bs, sum_by-cons (λ (c : ClientClass). cond (same c.facts.name p.name) 1 0) c cs, e, counted p bs cs t.1) refl

none_named : (cs : List ClientClass) (x : Bytes) → class_named (facts_of cs) x ≡ None → count_by (λ (c : ClientClass). same c.facts.name x) cs ≡ 0
unfolding class_named
none_named [] x h = refl
none_named (c ∷ cs) x h = sum_by-cons (λ (c : ClientClass). cond (same c.facts.name x) 1 0) c cs ∙ go (same c.facts.name x) h (none_named cs x)
  where
    go : (b : Bool) → cond b (Some c.facts) (class_named (facts_of cs) x) ≡ None → (class_named (facts_of cs) x ≡ None → count_by (λ (c : ClientClass). same c.facts.name x) cs ≡ 0) → cond b 1 0 + count_by (λ (c : ClientClass). same c.facts.name x) cs ≡ 0
    go true q r = absurd (cc)
    go false q r = omega (arith, r q)

one_named : (cs : List ClientClass) (x : Bytes) (d : ClassFacts) → differ_by_name (facts_of cs) ≡ true → class_named (facts_of cs) x ≡ Some d → count_by (λ (c : ClientClass). same c.facts.name x) cs ≡ 1
unfolding class_named differ_by_name
one_named [] x d n h = absurd (cc)
one_named (c ∷ cs) x d n h = sum_by-cons (λ (c : ClientClass). cond (same c.facts.name x) 1 0) c cs ∙ go (same c.facts.name x) refl h (one_named cs x d parts.1)
  where
    parts : (is_none (class_named (facts_of cs) c.facts.name) ≡ true) × (differ_by_name (facts_of cs) ≡ true)
    parts = and_parts (is_none (class_named (facts_of cs) c.facts.name)) (differ_by_name (facts_of cs)) n

    go : (b : Bool) → same c.facts.name x ≡ b → cond b (Some c.facts) (class_named (facts_of cs) x) ≡ Some d → (class_named (facts_of cs) x ≡ Some d → count_by (λ (c : ClientClass). same c.facts.name x) cs ≡ 1)
        → cond b 1 0 + count_by (λ (c : ClientClass). same c.facts.name x) cs ≡ 1
    go true e q r = omega (arith, none_named cs x (subst (λ y. class_named (facts_of cs) y ≡ None) (same_is c.facts.name x e) (none_where (class_named (facts_of cs) c.facts.name) parts.0)))
    go false e q r = omega (arith, r q)

pub one_spot : (p : Plan) (bs : List Blueprint) (cs : List ClientClass) (c : ClientClass) → AreFilesOf bs cs → differ_by_name (facts_of cs) ≡ true → Contains cs c → c.facts.name ≡ p.name
    → count_by (λ (b : Blueprint). is_some (spot_of p b.facts.name)) bs ≡ 1
one_spot p bs cs c t n i e =
    let w = client_there cs c i in
    counted p bs cs t ∙ ap (λ x. count_by (λ (c : ClientClass). same c.facts.name x) cs) (sym e) ∙ one_named cs c.facts.name w.0 n w.1
