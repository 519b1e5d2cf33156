-- Which line of a verdict explains what a client loses: by rule, class, member and act, as the line stands on the two sides.
--     explains cs lost l o      the line l explains the loss o of the clients cs, of which all this is lost
--     first_explaining cs lost ls o      the number of the first of the lines that does, from 1 on; none where none does
-- A line is named only where its own change is enough for the loss. That a client names a class below which it can't stand, or that can't be used, is
-- enough, and so is that an act goes through a class whose member is gone or closed to it (JVMS 5.3.5, 5.4.3, 5.4.4, 5.4.5).
use Rattle.std.specs.Prelude.{ℕ, ◌+◌, Bool, true, false, not, ◌||◌, ◌&&◌, ◌==◌, cond, List, [], ◌∷◌, map, Option, None, Some, is_none}
use Rattle.std.specs.List.{list_any}
use Rattle.jc_facts.specs.declared.act.Act.{Act}
use Rattle.jc_facts.specs.declared.act.Act.TheVariants.{NewObject}
use Rattle.jc_facts.specs.declared.class_facts.ClassFacts.{ClassFacts}
use Rattle.jc_facts.specs.declared.client.Item.{Item}
use Rattle.jc_facts.specs.declared.client.Item.TheVariants as item
use Rattle.jc_facts.specs.declared.key.Key.{Key}
use Rattle.jc_facts.specs.declared.link_error.LinkError.{LinkError}
use Rattle.jc_facts.specs.declared.link_error.LinkError.TheVariants as errors
use Rattle.jc_facts.specs.declared.outcome.Outcome.{Outcome}
use Rattle.jc_facts.specs.declared.rule_numbers.TheConstants.{CLASS_GONE, CLASS_CLOSED, INTERFACE_BECAME_CLASS, SUPERCLASS_LOST, CONSTRUCTOR_CLOSED, METHOD_MADE_FINAL, FIELD_CLOSED, METHOD_CLOSED, INTERFACE_METHOD_LOST, CONSTANT_ADDED, CAPTURE_ADDED, FINAL_ADDED}
use Rattle.jc_facts.specs.Flags.{private_flag, no_static_flag}
use Rattle.jc_facts.specs.Names.{Bytes, same, same_key, is_name_among}
use Rattle.jc_facts.specs.Options.{some_and}
use Rattle.jc_facts.specs.client.Acts.{form_of, InterfaceForm, Form, is_put_act, is_special}
use Rattle.jc_facts.specs.client.Outcome.{init_key}
use Rattle.jc_facts.specs.world.Search.{supers}
use Rattle.jc_facts.specs.world.Types.{is_array_text}
use Rattle.jc_facts.specs.world.World.{own_method_of}
use Rattle.jc_used.specs.Above.{chain_of, chain_where, above_where, class_in}
use Rattle.jc_used.specs.declared.line.Line.{Line}

-- ---- errors and acts

abbrev pub number_of_error : LinkError → ℕ
number_of_error errors.NoClassDefFoundError = 0
number_of_error errors.ClassCircularityError = 1
number_of_error errors.IllegalAccessError = 2
number_of_error errors.IncompatibleClassChangeError = 3
number_of_error errors.NoSuchFieldError = 4
number_of_error errors.NoSuchMethodError = 5
number_of_error errors.InstantiationError = 6
number_of_error errors.VerifyError = 7

abbrev pub same_error : LinkError → LinkError → Bool
same_error a b = number_of_error a == number_of_error b

abbrev pub is_interface_form : Form → Bool
is_interface_form InterfaceForm = true
is_interface_form _ = false

abbrev pub is_new : Act → Bool
is_new NewObject = true
is_new _ = false

-- ---- what a loss hangs on

-- the class whose loading is asked for: the client itself, or what the item names; the clients from there up; whether the steps behind the loading are
-- reached; the clients up from the client itself, for invokespecial; and the two classes of an assignment, with the clients from the first one up
pub record TiesOf : Type 0 where
  pub class : Option Bytes
  pub chain : List ClassFacts
  pub above : List ClassFacts
  pub reached : Bool
  pub own : List ClassFacts
  pub from : Option Bytes
  pub from_chain : List ClassFacts
  pub to : Option Bytes

-- one of the clients names it above itself; as its superclass; as an interface
abbrev pub names_any : List ClassFacts → Bytes → Bool
names_any cs d = list_any (λ c. is_name_among (supers c) d) cs

abbrev pub extends_any : List ClassFacts → Bytes → Bool
extends_any cs d = list_any (λ c. some_and (λ s. same s d) c.superclass) cs

abbrev pub implements_any : List ClassFacts → Bytes → Bool
implements_any cs d = list_any (λ c. is_name_among c.interfaces d) cs

-- ---- loading

-- the client stands below a class that doesn't let it in
abbrev pub is_shut_out : Line → ClassFacts → Bool
is_shut_out l c = is_name_among (supers c) l.finding.class && not (is_name_among l.lets_in c.name)

-- the client declares the key as a method that overrides (JVMS 5.4.5)
abbrev pub overrides_by : Key → ClassFacts → Bool
overrides_by k c = some_and (λ m. no_static_flag m.flags && not (private_flag m.flags)) (own_method_of c k)

-- a class that can't be used, named by a client above or by the item itself
abbrev pub explains_gone : TiesOf → Line → LinkError → Bool
explains_gone s l e = l.finding.rule == CLASS_GONE && same_error l.finding.error e && (some_and (λ x. same x l.finding.class) s.class || names_any s.above l.finding.class)

-- a class below which a client can't stand: it is closed to it, or an interface that became a class
abbrev pub explains_closed : TiesOf → Line → LinkError → Bool
explains_closed s l e = same_error errors.IncompatibleClassChangeError e
    && ((l.finding.rule == CLASS_CLOSED && list_any (is_shut_out l) s.above) || (l.finding.rule == INTERFACE_BECAME_CLASS && implements_any s.above l.finding.class))

-- a method that is final now, which a client below that class declares
abbrev pub explains_final : TiesOf → Line → LinkError → Bool
explains_final s l e = (l.finding.rule == METHOD_MADE_FINAL || l.finding.rule == FINAL_ADDED) && same_error errors.IncompatibleClassChangeError e
    && extends_any s.chain l.finding.class && some_and (λ k. list_any (overrides_by k) s.chain) l.finding.key

abbrev pub explains_load : TiesOf → Line → LinkError → Bool
explains_load s l e = explains_gone s l e || (explains_closed s l e || explains_final s l e)

-- ---- members

-- a member that is gone or closed, through the class that the item names, or through one that a client at or above that names: a line on a put
-- explains puts alone
abbrev pub explains_member : TiesOf → Line → Act → LinkError → Bool
explains_member s l a e = (l.finding.rule == FIELD_CLOSED || l.finding.rule == METHOD_CLOSED) && same_error l.finding.error e
    && (some_and (λ x. same x l.finding.class) s.class || names_any s.above l.finding.class) && (not (is_put_act l.finding.act) || is_put_act a)

-- a method that an interface of the client lacks
abbrev pub explains_inherited : TiesOf → Line → LinkError → Bool
explains_inherited s l e = l.finding.rule == INTERFACE_METHOD_LOST && same_error l.finding.error e && implements_any s.above l.finding.class

-- a constant that an interface of the client has now, which is found first: it is static and final
abbrev pub explains_constant : TiesOf → Line → Act → LinkError → Bool
explains_constant s l a e = l.finding.rule == CONSTANT_ADDED && implements_any s.above l.finding.class && (same_error l.finding.error e || (is_put_act a && same_error errors.IllegalAccessError e))

-- a method of the superclass that is found first
abbrev pub explains_capture : TiesOf → Line → LinkError → Bool
explains_capture s l e = l.finding.rule == CAPTURE_ADDED && same_error l.finding.error e && extends_any s.chain l.finding.class

-- what a line on this key explains of an act
abbrev pub explains_key : TiesOf → Line → Act → LinkError → Bool
explains_key s l a e = explains_member s l a e || (explains_inherited s l e || (explains_constant s l a e || explains_capture s l e))

-- an interface that became a class, of which the act names a method
abbrev pub explains_kind : TiesOf → Line → Act → LinkError → Bool
explains_kind s l a e = l.finding.rule == INTERFACE_BECAME_CLASS && same_error errors.IncompatibleClassChangeError e && is_interface_form (form_of a) && some_and (λ x. same x l.finding.class) s.class

abbrev pub explains_use : TiesOf → Line → Act → Key → LinkError → Bool
explains_use s l a k e = s.reached && ((some_and (same_key k) l.finding.key && explains_key s l a e) || explains_kind s l a e)

-- ---- initializers

abbrev pub is_line_on_init : TiesOf → Line → Bytes → Bool
is_line_on_init s l d = s.reached && l.finding.rule == CONSTRUCTOR_CLOSED && some_and (λ x. same x l.finding.class) s.class && some_and (same_key (init_key d)) l.finding.key

-- of one that is protected now a subclass has a VerifyError by `new`
abbrev pub explains_new : TiesOf → Line → Bytes → LinkError → Bool
explains_new s l d e = is_line_on_init s l d && is_new l.finding.act && (same_error l.finding.error e || same_error errors.VerifyError e)

abbrev pub explains_init : TiesOf → Line → Bytes → LinkError → Bool
explains_init s l d e = is_line_on_init s l d && same_error l.finding.error e

-- ---- assignment

-- the class of the value, or the library class at which its superclasses leave the clients
abbrev pub is_from : TiesOf → Bytes → Bool
is_from s x = some_and (λ y. same y x) s.from || extends_any s.from_chain x

abbrev pub is_to : TiesOf → Bytes → Bool
is_to s x = some_and (λ y. same y x) s.to

-- a class that lost the superclass to which it is assigned; an interface that became a class; one of both that isn't there
abbrev pub explains_assign : TiesOf → Line → LinkError → Bool
explains_assign s l e = same_error errors.VerifyError e
    && ((l.finding.rule == SUPERCLASS_LOST && some_and (is_to s) l.finding.target && is_from s l.finding.class)
    || ((l.finding.rule == INTERFACE_BECAME_CLASS && is_to s l.finding.class)
    || (l.finding.rule == CLASS_GONE && same_error errors.NoClassDefFoundError l.finding.error && (is_to s l.finding.class || is_from s l.finding.class))))

-- invokespecial, whose class is no superclass of the client any more
abbrev pub explains_special : TiesOf → Line → Act → LinkError → Bool
explains_special s l a e = is_special a && same_error errors.VerifyError e && l.finding.rule == SUPERCLASS_LOST
    && some_and (λ t. some_and (λ x. same x t) s.class) l.finding.target && extends_any s.own l.finding.class

-- ---- a loss

abbrev pub explains_item : TiesOf → Line → Item → LinkError → Bool
explains_item s l (item.Class t) e = explains_load s l e
explains_item s l (item.New t d) e = explains_load s l e || explains_new s l d e
explains_item s l (item.Init t d) e = explains_load s l e || explains_init s l d e
explains_item s l (item.Access a t k r place) e = explains_load s l e || (explains_use s l a k e || (explains_assign s l e || explains_special s l a e))
explains_item s l (item.Assign t u) e = explains_assign s l e

abbrev pub explains_spot : TiesOf → Line → Option Item → LinkError → Bool
explains_spot s l None e = explains_load s l e
explains_spot s l (Some i) e = explains_item s l i e

-- the loading of this client is lost
abbrev pub is_load_lost : List Outcome → Bytes → Bool
is_load_lost lost x = list_any (λ o. is_none o.item && same o.class x) lost

abbrev pub class_in_where : Option Bytes → Option Bytes
class_in_where None = None
class_in_where (Some t) = class_in t

-- those of a spot that names the type t: of one that is an array nothing behind the loading is reached
abbrev pub ties_to : List ClassFacts → List Outcome → Bytes → List ClassFacts → Option Bytes → Option Bytes → TiesOf
ties_to cs lost t own r u = record {
  «class» = class_in t;
  chain = chain_where cs (class_in t);
  above = above_where cs (class_in t);
  reached = not (is_array_text t) && not (is_load_lost lost t);
  own = own;
  from = class_in_where r;
  from_chain = chain_where cs (class_in_where r);
  to = class_in_where u;
}

abbrev pub ties_of_item : List ClassFacts → List Outcome → Bytes → Item → TiesOf
ties_of_item cs lost x (item.Class t) = ties_to cs lost t [] None None
ties_of_item cs lost x (item.New t d) = ties_to cs lost t [] None None
ties_of_item cs lost x (item.Init t d) = ties_to cs lost t [] None None
ties_of_item cs lost x (item.Access a t k r place) = ties_to cs lost t (cond (is_special a) (chain_of cs x) []) r (Some t)
ties_of_item cs lost x (item.Assign s t) = ties_to cs lost t [] (Some s) (Some t)

abbrev pub ties_of : List ClassFacts → List Outcome → Bytes → Option Item → TiesOf
ties_of cs lost x None = ties_to cs lost x [] None None
ties_of cs lost x (Some i) = ties_of_item cs lost x i

-- the number of the first of the lines that explains it, whose numbers go on from this one
abbrev pub first_from : TiesOf → ℕ → List Line → Option Item → LinkError → Option ℕ
first_from s n [] i e = None
first_from s n (l ∷ ls) i e = cond (explains_spot s l i e) (Some n) (first_from s (n + 1) ls i e)

abbrev pub first_where_lost : TiesOf → List Line → Option Item → Option LinkError → Option ℕ
first_where_lost s ls i None = None
first_where_lost s ls i (Some e) = first_from s 1 ls i e

abbrev pub first_explaining : List ClassFacts → List Outcome → List Line → Outcome → Option ℕ
first_explaining cs lost ls o = first_where_lost (ties_of cs lost o.class o.item) ls o.item o.error

-- of each of the losses
unfoldable pub explained_by : List ClassFacts → List Line → List Outcome → List (Option ℕ)
explained_by cs ls lost = map (first_explaining cs lost ls) lost

abbrev pub is_number : ℕ → Option ℕ → Bool
is_number n None = false
is_number n (Some m) = m == n
