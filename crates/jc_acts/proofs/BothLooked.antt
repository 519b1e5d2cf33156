-- What references find on both sides decides which of their acts are closed.
use Rattle.std.proofs.Common.{◌≡◌, List, refl, sym, ◌∙◌, ap, None, Ok, Err}
use Rattle.jc_facts.specs.declared.act.Act.{Act}
use Rattle.jc_facts.specs.declared.key.Key.{Key}
use Rattle.jc_facts.specs.declared.link_error.LinkError.{LinkError}
use Rattle.jc_facts.specs.Names.{Bytes}
use Rattle.jc_facts.specs.client.Acts.{form_of}
use Rattle.jc_facts.specs.client.Forms.{form_view}
use Rattle.jc_promises.specs.rule.OpenActs.{act_fault, where_open}
use Rattle.jc_lemmas.proofs.Listed.{EachOf, EachOf-map, each_of}
use Rattle.jc_sides.specs.SidesOf.{SidesOf}
use Rattle.jc_acts.specs.Seats.{all_seats}
use Rattle.jc_acts.specs.steps.Firsts.{first_at, first_pair, closed_on}
use Rattle.jc_acts.specs.steps.LookedUp.{use_at, member_of, LooksUp, closed_use}
use Rattle.jc_acts.specs.steps.References.{acts_of}
use Rattle.jc_acts.specs.declared.lookup.Looked.{Looked}
use Rattle.jc_facts.specs.declared.act.Form.{Form}
use Rattle.jc_facts.specs.declared.act.Form.TheVariants as forms
use Rattle.jc_acts.proofs.Firsts.{first_same, first_none}

-- the acts by references of a form are of this form
each_form : (r : Form) → EachOf (λ what. form_of what ≡ form_view r) (acts_of r)
each_form forms.Field = (refl, (refl, (refl, (refl, tt))))
each_form forms.Method = (refl, (refl, tt))
each_form forms.Interface = (refl, (refl, tt))

module _ (sides : SidesOf) (x : Bytes) (k : Key) (r : Form) where
  -- nothing is found on the old side
  pub none_found : (e : LinkError) → LooksUp sides.old x k (form_view r) (Err e) → None ≡ first_pair (closed_on sides x k) (all_seats sides) (acts_of r)
  none_found e h =
      sym (first_none (λ what. first_at (closed_on sides x k what) (all_seats sides)) (acts_of r)
      (EachOf-map (λ what is. first_none (closed_on sides x k what) (all_seats sides) (each_of (λ a. closed_on sides x k what a ≡ None) (λ a. ap (λ o. where_open o (act_fault sides.new a x k what)) (h what is a)) (all_seats sides))) (acts_of r) (each_form r)))

  -- the acts go by what is found, with these seats as with all of them
  pub by_looked : (u : Looked) → LooksUp sides.old x k (form_view r) (Ok u.before) → LooksUp sides.new x k (form_view r) u.after → (seats : List Bytes)
      → ((what : Act) → first_at (closed_use sides x u what) seats ≡ first_at (closed_use sides x u what) (all_seats sides))
      → first_pair (closed_use sides x u) seats (acts_of r) ≡ first_pair (closed_on sides x k) (all_seats sides) (acts_of r)
  by_looked u old new seats enough =
      first_same (λ what. first_at (closed_use sides x u what) seats) (λ what. first_at (closed_on sides x k what) (all_seats sides)) (acts_of r)
      (EachOf-map (λ what is. enough what ∙ first_same (closed_use sides x u what) (closed_on sides x k what) (all_seats sides)
      (each_of (λ a. closed_use sides x u what a ≡ closed_on sides x k what a) (λ a. sym (ap (λ o. where_open o (act_fault sides.new a x k what)) (old what is a) ∙ ap (where_open (use_at sides.old a x what (member_of sides.old u.before))) (new what is a))) (all_seats sides))) (acts_of r) (each_form r))
