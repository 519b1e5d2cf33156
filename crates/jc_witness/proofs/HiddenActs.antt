-- The act that exposes a class to planned clients, of each class that is hidden.
use Rattle.std.proofs.Common.{◌≡◌, Bool, true, false, List, [], ◌∷◌, filter, refl, sym, ◌∙◌, ap, Option, Some, None, is_some, is_none, not, ◌&&◌}
use Rattle.std.proofs.Math.Bool.{not-not}
use Rattle.std.specs.List.{cons_option, list_any}
use Rattle.std.proofs.lemmas.Bool.{and_parts, both_ways}
use Rattle.jc_facts.specs.declared.link_error.LinkError.{LinkError}
use Rattle.jc_facts.specs.declared.member_act.MemberAct.{MemberAct}
use Rattle.jc_facts.specs.Names.{Bytes}
use Rattle.jc_facts.specs.world.World.{World}
use Rattle.jc_facts.specs.Options.{and_then}
use Rattle.jc_facts.specs.world.Loading.{load_fault, loads}
use Rattle.jc_promises.specs.rule.Bases.{is_class_usable}
use Rattle.jc_promises.specs.rule.Apart.{other_seat}
use Rattle.jc_promises.specs.rule.Exposed.{is_hidden, exposes, references, is_exposed, reference_order, first_by, act_of, exposing_act}
use Rattle.jc_promises.specs.plan.Planned.{acts_exposing, is_out_of}
use Rattle.jc_promises.proofs.Exposed.{exposed-act}
use Rattle.jc_lemmas.proofs.Bools.{neither_first, neither_last, and_false}
use Rattle.jc_lemmas.proofs.Options.{none_where}
use Rattle.jc_index.specs.Ids.{id_of}
use Rattle.jc_drafts.proofs.ClassesByName.{loaded_number}

-- a hidden class has the act, if there is one
pub of_hidden : (W : World) (a x : Bytes) → is_hidden W x ≡ true → (act : Option MemberAct) → act ≡ exposing_act W a x → cons_option act [] ≡ acts_exposing W a x
of_hidden W a x h act e = ap (λ o. cons_option o []) e ∙ rw h refl

-- another one has none
pub of_other : (W : World) (a x : Bytes) → is_hidden W x ≡ false → [] ≡ acts_exposing W a x
of_other W a x h = rw h refl

-- nor one that isn't there
absent_plain : (W : World) (x : Bytes) → id_of W x ≡ None → is_hidden W x ≡ false
unfolding is_hidden
absent_plain W x e = go (load_fault W x) refl
  where
    go : (o : Option LinkError) → load_fault W x ≡ o → (is_none o && not (is_class_usable W x)) ≡ false
    go None q = absurd (both_ways (is_some (id_of W x)) (ap is_some e) (loaded_number W x q))
    go (Some f) q = refl

pub of_absent : (W : World) (a x : Bytes) → id_of W x ≡ None → [] ≡ acts_exposing W a x
of_absent W a x e = of_other W a x (absent_plain W x e)

-- ---- what is out of a seat

none_listed : {A : Type 0} (test : A → Bool) (xs : List A) → list_any test xs ≡ false → filter test xs ≡ []
none_listed test [] h = refl
none_listed test (x ∷ xs) h = rw (neither_first (test x) (list_any test xs) h) (none_listed test xs (neither_last (test x) (list_any test xs) h))

out_is : (W : World) (a x : Bytes) → is_hidden W x ≡ true → (b : Bool) → is_exposed W a x ≡ b → not b ≡ is_out_of W a x
out_is W a x h b e = ap not (sym e) ∙ ap (λ t. t && not (is_exposed W a x)) (sym h)

-- a hidden class is out of the seat where no act exposes it
hidden_out : (W : World) (a x : Bytes) → is_hidden W x ≡ true → not (is_some (exposing_act W a x)) ≡ is_out_of W a x
unfolding is_exposed exposing_act and_then first_by
hidden_out W a x h = go (is_exposed W a x) refl
  where
    go : (b : Bool) → is_exposed W a x ≡ b → not (is_some (exposing_act W a x)) ≡ is_out_of W a x
    go true e = ap (λ act. not (is_some act)) (exposed-act W a x e).1 ∙ out_is W a x h true e
    go false e =
        let n : list_any (exposes W a x) (references W) ≡ false = and_false (is_hidden W x) (list_any (exposes W a x) (references W)) e h in
        ap (λ rs. not (is_some (and_then (act_of W a) (first_by reference_order rs)))) (none_listed (exposes W a x) (references W) n) ∙ out_is W a x h false e

-- the answer that there is none
pub none_out : (W : World) (a x : Bytes) → is_hidden W x ≡ true → (act : Option MemberAct) → act ≡ exposing_act W a x → (none : Bool) → is_some act ≡ not none → none ≡ is_out_of W a x
none_out W a x h act e none n = sym (not-not none) ∙ ap not (sym n) ∙ ap (λ o. not (is_some o)) e ∙ hidden_out W a x h

-- another one isn't
pub other_out : (W : World) (a x : Bytes) → is_hidden W x ≡ false → false ≡ is_out_of W a x
other_out W a x h = rw h refl

-- nor one that isn't there
pub absent_out : (W : World) (a x : Bytes) → id_of W x ≡ None → false ≡ is_out_of W a x
absent_out W a x e = other_out W a x (absent_plain W x e)

-- a hidden class loads
pub hidden_loads : (W : World) (x : Bytes) → is_hidden W x ≡ true → load_fault W x ≡ None
unfolding is_hidden
hidden_loads W x h = none_where (load_fault W x) (and_parts (loads W x) (not (is_class_usable W x)) h).0

-- ---- another seat

-- the same by other words for the seat and the class
pub seat_as_named : (O N : World) (a b x y : Bytes) (o : Option Bytes) → a ≡ b → x ≡ y → o ≡ other_seat O N a x → o ≡ other_seat O N b y
seat_as_named O N a b x y o p q e = e ∙ ap (λ z. other_seat O N z x) p ∙ ap (other_seat O N b) q
