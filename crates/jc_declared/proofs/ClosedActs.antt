-- Acts on members that are closed to a seat: references found the key that they name on the old side.
use Rattle.std.proofs.Common.{◌≡◌, Bool, true, false, cond, List, [], ◌∷◌, refl, Option, Some, None, not}
use Rattle.jc_facts.specs.declared.act.Act.{Act}
use Rattle.jc_facts.specs.declared.finding.Finding.{Finding}
use Rattle.jc_facts.specs.declared.key.Key.{Key}
use Rattle.jc_facts.specs.declared.link_error.LinkError.{LinkError}
use Rattle.jc_facts.specs.client.Acts.{Form, FieldForm, MethodForm, InterfaceForm}
use Rattle.jc_facts.specs.world.Assignment.{is_interface_of}
use Rattle.jc_promises.specs.rule.Findings.{Subject, report, act_finding, first_act}
use Rattle.jc_facts.specs.world.Lookup.{method_choices, interface_choices, are_none}
use Rattle.jc_facts.specs.Names.{Bytes}
use Rattle.jc_facts.specs.Options.{and_then, or_else}
use Rattle.jc_promises.specs.rule.OpenActs.{act_fault, closed_act, where_open}
use Rattle.jc_facts.specs.world.World.{World, DeclaredMember}
use Rattle.jc_lemmas.proofs.Listed.{EachOf}
use Rattle.jc_sound.proofs.Looked.{looked, head_of}
use Rattle.jc_method.specs.FoundKeys.{finds_method}
use Rattle.jc_rows.specs.Rows.{choices_by}
use Rattle.jc_sides.specs.SidesOf.{SidesOf}

-- ---- an act that is closed was open

was_open : (o n : Option LinkError) (e : LinkError) → where_open o n ≡ Some e → o ≡ None
was_open None n e h = refl
was_open (Some x) n e h = absurd (cc)

-- an act was open to some seat, and passes
pub record WasOpen (O : World) (x : Bytes) (k : Key) (P : Act → Type 0) : Type 0 where
  pub act : Act
  pub seat : Bytes
  pub is_one : P act
  pub open_to : act_fault O seat x k act ≡ None

-- a finding of acts is of one of them
pub found_open : (s : SidesOf) (on : Subject) (k : Key) (acts : List Act) (P : Act → Type 0) → EachOf P acts → (f : Finding) → first_act s.old s.new on k acts ≡ Some f → WasOpen s.old on.«class» k P
unfolding first_act act_finding and_then or_else
found_open s on k [] P h f e = absurd (cc)
found_open s on k (a ∷ rest) P h f e = go (act_finding s.old s.new on k a) refl e (found_open s on k rest P h.1 f)
  where
    at : (seat : Bytes) (c : Option LinkError) (g : Finding) → closed_act s.old s.new on.«class» k a seat ≡ c → and_then (report on a (Some seat)) c ≡ Some g → WasOpen s.old on.«class» k P
    at seat None g z q = absurd (cc)
    at seat (Some d) g z q = record { act = a; seat = seat; is_one = h.0; open_to = was_open (act_fault s.old seat on.«class» k a) (act_fault s.new seat on.«class» k a) d z }

    of_act : (o : Option Bytes) (g : Finding) → and_then (λ seat. and_then (report on a (Some seat)) (closed_act s.old s.new on.«class» k a seat)) o ≡ Some g → WasOpen s.old on.«class» k P
    of_act None g q = absurd (cc)
    of_act (Some seat) g q = at seat (closed_act s.old s.new on.«class» k a seat) g refl q

    go : (o : Option Finding) → act_finding s.old s.new on k a ≡ o → or_else o (first_act s.old s.new on k rest) ≡ Some f → (first_act s.old s.new on k rest ≡ Some f → WasOpen s.old on.«class» k P) → WasOpen s.old on.«class» k P
    go None q r rec = rec r
    go (Some g) q r rec = of_act _ g q

-- ---- methods that references find

-- a reference to a method
abbrev pub NoField : Form → Type 0
NoField FieldForm = ⊥
NoField MethodForm = Unit {0}
NoField InterfaceForm = Unit {0}

some_choice : (ms : List DeclaredMember) (m : DeclaredMember) → head_of ms ≡ Some m → not (are_none ms) ≡ true
unfolding head_of
some_choice [] m e = absurd (cc)
some_choice (n ∷ ns) m e = refl

pub looked_found : (O : World) (x : Bytes) (k : Key) (form : Form) → NoField form → (m : DeclaredMember) → looked O form x k ≡ Some m → finds_method O x k ≡ true
unfolding looked
looked_found O x k FieldForm no_field m e = absurd no_field
looked_found O x k MethodForm no_field m e = go (is_interface_of O x) e
  where
    go : (b : Bool) → cond b None (head_of (method_choices O x k)) ≡ Some m → not (are_none (choices_by b O x k)) ≡ true
    go true q = absurd (cc)
    go false q = some_choice (method_choices O x k) m q
looked_found O x k InterfaceForm no_field m e = go (is_interface_of O x) e
  where
    go : (b : Bool) → cond b (head_of (interface_choices O x k)) None ≡ Some m → not (are_none (choices_by b O x k)) ≡ true
    go false q = absurd (cc)
    go true q = some_choice (interface_choices O x k) m q
