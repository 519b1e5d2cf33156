-- The locals at the start of a method are its parameter places, at most 255.
use Rattle.std.proofs.Common.{◌≡◌, ℕ, ◌+◌, ◌≤◌, Bool, true, false, cond, not, List, [], ◌∷◌, ◌++◌, length, map, Option, Some, None, refl, sym, ap, ◌∙◌, arith, nat_eq, min}
use Rattle.std.specs.Option.{option_map}
use Rattle.std.proofs.lemmas.Bool.{leb-true}
use Rattle.std.proofs.lemmas.List.{length-append}
use Rattle.jc_desc.specs.Types.{Basic, byte, char, double, float, int, long, short, boolean, class, TypeOf, Method, slots_of_basic, slots_of_type, type_text, slots_of}
use Rattle.jc_desc.specs.Reading.{◌>>=◌, method_of, slots_of_method}
use Rattle.jc_facts.specs.declared.class_facts.Member.{Member}
use Rattle.jc_facts.specs.Flags.{static_flag}
use Rattle.jc_facts.specs.file.Rules.{slots_fit_in}
use Rattle.jc_facts.specs.written.Bodies.{slots_or_none}
use Rattle.jc_facts.specs.written.Written.{places_of_locals}
use Rattle.jc_facts.specs.code.Code.{Around}
use Rattle.jc_facts.specs.code.Typing.{Kind, ref, basic_kind, kind_of, kinds_of, Kinds, method_kinds, places, places_of, this_of, start_of}

pub kind_places : (t : TypeOf) → length (places (kind_of t)) ≡ slots_of_type t
unfolding kind_of
kind_places t = go (nat_eq t.dims 0) t.base where
  go : (b : Bool) (x : Basic) → length (places (cond b (basic_kind x) (ref (type_text t)))) ≡ cond b (slots_of_basic x) 1
  go true byte = refl
  go true char = refl
  go true double = refl
  go true float = refl
  go true int = refl
  go true long = refl
  go true short = refl
  go true boolean = refl
  go true (class name) = refl
  go false x = refl

pub params_places : (ts : List TypeOf) → length (places_of (map kind_of ts)) ≡ slots_of ts
params_places [] = refl
params_places (t ∷ ts) = let a = length-append (places (kind_of t)) (places_of (map kind_of ts)) in let b = kind_places t in let c = params_places ts in omega (arith, a, b, c)

pub few_places : (m : Member) → slots_fit_in (not (static_flag m.flags)) (slots_of_method m.descriptor) ≡ true → places_of_locals m ≤ 255
few_places m h = go (slots_of_method m.descriptor) (static_flag m.flags) h where
  go : (o : Option ℕ) (s : Bool) → slots_fit_in (not s) o ≡ true → slots_or_none o + cond s 0 1 ≤ 255
  go None s h = absurd cc
  go (Some n) true h = leb-true (n + 0) 255 h
  go (Some n) false h = leb-true (n + 1) 255 h

capped : (n k : ℕ) → min n 4294967295 + k ≤ 255 → n + k ≤ 255
capped n k h = omega (arith, h)

this_places : (a : Around) → length (this_of a) ≡ cond (static_flag a.flags) 0 1
this_places a = go (static_flag a.flags) _ where
  go : (b : Bool) (k : Kind) → length (cond b [] (k ∷ [])) ≡ cond b 0 1
  go true k = refl
  go false k = refl

start_few : (a : Around) (o : Option Method) (k : Kinds) → option_map kinds_of o ≡ Some k → slots_fit_in (not (static_flag a.flags)) (o >>= λ m. Some (min (slots_of m.params) 4294967295)) ≡ true → length (start_of a k.params).locals ≤ 255
start_few a None k e h = absurd cc
start_few a (Some m) k e h = go (static_flag a.flags) (this_places a) h where
  params_are : kinds_of m ≡ k
  params_are = let q : Some (kinds_of m) ≡ Some k = e in cc

  size : length (places_of k.params) ≡ slots_of m.params
  size = ap (λ (x : Kinds). length (places_of x.params)) (sym params_are) ∙ params_places m.params

  go : (s : Bool) → length (this_of a) ≡ cond s 0 1 → slots_fit_in (not s) (Some (min (slots_of m.params) 4294967295)) ≡ true → length (this_of a ++ places_of k.params) ≤ 255
  go true t h = let l = leb-true (min (slots_of m.params) 4294967295 + 0) 255 h in let c = capped (slots_of m.params) 0 l in let b = length-append (this_of a) (places_of k.params) in omega (arith, t, c, b, size)
  go false t h = let l = leb-true (min (slots_of m.params) 4294967295 + 1) 255 h in let c = capped (slots_of m.params) 1 l in let b = length-append (this_of a) (places_of k.params) in omega (arith, t, c, b, size)

-- the locals at the start
pub start_places : (a : Around) (k : Kinds) → method_kinds a.descriptor ≡ Some k → slots_fit_in (not (static_flag a.flags)) (slots_of_method a.descriptor) ≡ true → length (start_of a k.params).locals ≤ 255
unfolding method_kinds slots_of_method
start_places a k e h = start_few a (method_of a.descriptor) k e h
