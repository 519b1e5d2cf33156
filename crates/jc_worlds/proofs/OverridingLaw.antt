-- Loading refuses a class exactly where one of its methods overrides a final one.
use Rattle.std.proofs.Common.{◌≡◌, Bool, true, false, not, List, [], ◌∷◌, refl, ap, ◌||◌, ◌&&◌, ◌⊎◌, inl, inr}
use Rattle.std.proofs.lemmas.Bool.{and_parts, and_from, not-true, or_cases}
use Rattle.std.proofs.lemmas.List.Elements.{All-from_recursion, All-contains, Contains-append_right, Contains-append_left, Contains-push}
use Rattle.jc_facts.specs.declared.class_facts.ClassFacts.{ClassFacts}
use Rattle.jc_facts.specs.declared.class_facts.Member.{Member}
use Rattle.jc_facts.specs.Names.{Bytes, key_of}
use Rattle.jc_desc.specs.Names.{is_init_name, is_clinit_name}
use Rattle.jc_facts.specs.world.Overriding.{reaches_final, overrides_some_final}
use Rattle.jc_worlds.specs.Overriding.{SomeOverridesFinal, FinalsRefuse}
use Rattle.jc_lemmas.proofs.Listed.{EachOf}
use Rattle.jc_lemmas.proofs.Bools.{neither_first, neither_last, contradicts}
use Rattle.jc_worlds.proofs.Relation.{meets_final-exact}

some_refuses : (x : Bytes) (ms : List Member) (above : List ClassFacts) → overrides_some_final x ms above ≡ true → SomeOverridesFinal x ms above
unfolding overrides_some_final
some_refuses x [] above h = absurd (cc)
some_refuses x (m ∷ ms) above h = go (or_cases (not (is_init_name m.name || is_clinit_name m.name) && reaches_final (key_of m) (record { owner = x; member = m } ∷ []) above) (overrides_some_final x ms above) h) (some_refuses x ms above)
  where
    go : ((not (is_init_name m.name || is_clinit_name m.name) && reaches_final (key_of m) (record { owner = x; member = m } ∷ []) above) ≡ true) ⊎ (overrides_some_final x ms above ≡ true) → (overrides_some_final x ms above ≡ true → SomeOverridesFinal x ms above) → SomeOverridesFinal x (m ∷ ms) above
    go (inl p) r =
        let q = and_parts (not (is_init_name m.name || is_clinit_name m.name)) (reaches_final (key_of m) (record { owner = x; member = m } ∷ []) above) p in
        record {
          method = m;
          is_in = Contains-append_left (m ∷ []) ms m (Contains-push [] m);
          is_plain = not-true (is_init_name m.name || is_clinit_name m.name) q.0;
          overrides = (meets_final-exact (key_of m) (record { owner = x; member = m }) above).0 q.1;
        }
    go (inr p) r = let w = r p in record { method = w.method; is_in = Contains-append_right (m ∷ []) ms w.method w.is_in; is_plain = w.is_plain; overrides = w.overrides }

none_refuses : (x : Bytes) (above : List ClassFacts) (ms : List Member) → overrides_some_final x ms above ≡ false
    → EachOf (λ (m : Member). (not (is_init_name m.name || is_clinit_name m.name) && reaches_final (key_of m) (record { owner = x; member = m } ∷ []) above) ≡ false) ms
unfolding overrides_some_final
none_refuses x above [] h = tt
none_refuses x above (m ∷ ms) h = (
  neither_first (not (is_init_name m.name || is_clinit_name m.name) && reaches_final (key_of m) (record { owner = x; member = m } ∷ []) above) (overrides_some_final x ms above) h,
  none_refuses x above ms (neither_last (not (is_init_name m.name || is_clinit_name m.name) && reaches_final (key_of m) (record { owner = x; member = m } ∷ []) above) (overrides_some_final x ms above) h),
)

pub finals_refuse : FinalsRefuse
finals_refuse x ms above = (some_refuses x ms above, λ s. go s (overrides_some_final x ms above) refl)
  where
    go : SomeOverridesFinal x ms above → (b : Bool) → overrides_some_final x ms above ≡ b → b ≡ true
    go s true e = refl
    go s false e =
        let P : Member → Type 0 = λ m. (not (is_init_name m.name || is_clinit_name m.name) && reaches_final (key_of m) (record { owner = x; member = m } ∷ []) above) ≡ false in
        let n : P s.method = All-contains P ms s.method (All-from_recursion P ms (none_refuses x above ms e)) s.is_in in
        absurd (contradicts (not (is_init_name s.method.name || is_clinit_name s.method.name) && reaches_final (key_of s.method) (record { owner = x; member = s.method } ∷ []) above)
        (and_from (not (is_init_name s.method.name || is_clinit_name s.method.name)) (reaches_final (key_of s.method) (record { owner = x; member = s.method } ∷ []) above) (ap not s.is_plain) ((meets_final-exact (key_of s.method) (record { owner = x; member = s.method }) above).1 s.overrides)) n)
