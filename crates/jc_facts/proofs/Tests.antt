-- A record is valid exactly where it passes the tests.
use Rattle.std.proofs.Common.{◌≡◌, true, ◌&&◌, refl, ◌↔◌, IsTrue}
use Rattle.jc_facts.specs.declared.class_facts.ClassFacts.{ClassFacts}
use Rattle.jc_facts.specs.file.Valid.{IsValidClass}
use Rattle.jc_facts.specs.steps.ValidTests.{head_test, members_test, nest_test, texts_test}
use Rattle.std.proofs.lemmas.Bool.{and_parts}

valid_of : (c : ClassFacts) → (head_test c ≡ true) → (members_test c ≡ true) → (nest_test c ≡ true) → (texts_test c ≡ true) → IsValidClass c
valid_of c h m n t =
    let h1 = and_parts _ _ h in
    let h2 = and_parts _ _ h1.0 in
    let h3 = and_parts _ _ h2.0 in
    let m1 = and_parts _ _ m in
    let m2 = and_parts _ _ m1.0 in
    let m3 = and_parts _ _ m2.0 in
    let n1 = and_parts _ _ n in
    let n2 = and_parts _ _ n1.0 in
    let t1 = and_parts _ _ t in
    let t2 = and_parts _ _ t1.0 in
    let t3 = and_parts _ _ t2.0 in
    let t4 = and_parts _ _ t3.0 in
    record {
      name = h3.0;
      flags = h3.1;
      superclass = h2.1;
      interfaces = h1.1;
      fields = m3.0;
      fields_differ = m3.1;
      methods = m2.1;
      methods_differ = m1.1;
      permits = n2.0;
      nest_host = n2.1;
      nest_members = n1.1;
      constants = t4.0;
      constants_differ = t4.1;
      signatures = t3.1;
      signatures_differ = t2.1;
      one_of_class = t1.1;
    }

pub valid_exactly : (c : ClassFacts) → IsTrue (head_test c && members_test c && nest_test c && texts_test c) ↔ IsValidClass c
valid_exactly c = (
  (λ e.
      let a = and_parts (head_test c && members_test c && nest_test c) (texts_test c) e in
      let b = and_parts (head_test c && members_test c) (nest_test c) a.0 in
      let d = and_parts (head_test c) (members_test c) b.0 in
      valid_of c d.0 d.1 b.1 a.1),
  (λ v. rw (v.name, v.flags, v.superclass, v.interfaces, v.fields, v.fields_differ, v.methods, v.methods_differ, v.permits, v.nest_host, v.nest_members, v.constants, v.constants_differ, v.signatures, v.signatures_differ, v.one_of_class) refl),
)
