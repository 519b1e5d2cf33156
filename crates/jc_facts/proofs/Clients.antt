-- The records of clients.
use Rattle.std.proofs.Common.{◌≡◌, ◌≢◌, ◌∙◌, suc, Bool, true, false, cond, List, [], ◌∷◌, length, Some, None, refl, ap}
use Rattle.std.specs.Prelude.{is_none}
use Rattle.std.proofs.lemmas.Bool.{and_parts}
use Rattle.jc_facts.specs.declared.client.ClientClass.{ClientClass}
use Rattle.jc_facts.specs.Names.{Bytes, same}
use Rattle.jc_facts.specs.client.Valid.{IsValidClient, facts_of}
use Rattle.jc_facts.specs.world.World.{differ_by_name, class_named}
use Rattle.jc_facts.specs.file.Valid.{IsValidClass}
use Rattle.jc_lemmas.proofs.Listed.{EachOf}
use Rattle.jc_lemmas.proofs.Options.{none_where}
use Rattle.jc_facts.proofs.Apart.{ApartRec}
use Rattle.jc_facts.proofs.Same.{same_itself}

abbrev pub name_of : ClientClass → Bytes
name_of c = c.facts.name

pub facts_valid : (cs : List ClientClass) → EachOf IsValidClient cs → EachOf IsValidClass (facts_of cs)
facts_valid [] h = tt
facts_valid (c ∷ cs) h = (h.0.facts, facts_valid cs h.1)

pub facts_length : (cs : List ClientClass) → length (facts_of cs) ≡ length cs
facts_length [] = refl
facts_length (c ∷ cs) = ap suc (facts_length cs)

-- a name that no client has differs from the name of each
absent : (cs : List ClientClass) (x : Bytes) → class_named (facts_of cs) x ≡ None → EachOf (λ c. x ≢ name_of c) cs
unfolding class_named
absent [] x e = tt
absent (c ∷ cs) x e = go (same (name_of c) x) refl e (absent cs x)
  where
    go : (b : Bool) → same (name_of c) x ≡ b → cond b (Some c.facts) (class_named (facts_of cs) x) ≡ None → (class_named (facts_of cs) x ≡ None → EachOf (λ d. x ≢ name_of d) cs) → EachOf (λ d. x ≢ name_of d) (c ∷ cs)
    go true p q r = absurd (let clash : Some c.facts ≡ None = q in cc)
    go false p q r = (λ is. let k : same (name_of c) x ≡ true = ap (λ (z : Bytes). same (name_of c) z) is ∙ same_itself (name_of c) in absurd (cc), r q)

pub clients_apart : (cs : List ClientClass) → differ_by_name (facts_of cs) ≡ true → ApartRec name_of cs
unfolding differ_by_name
clients_apart [] h = tt
clients_apart (c ∷ cs) h =
    let k = and_parts (is_none (class_named (facts_of cs) (name_of c))) (differ_by_name (facts_of cs)) h in
    (absent cs (name_of c) (none_where (class_named (facts_of cs) (name_of c)) k.0), clients_apart cs k.1)
