use Rattle.std.proofs.Common.{◌≡◌, ◌<◌, List, true, false, length, get_or, sym, ap, ◌∙◌, arith}
use Rattle.jc_facts.specs.declared.class_facts.Member.{Member}
use Rattle.jc_facts.specs.declared.class_facts.Signed.{Signed}
use Rattle.jc_facts.specs.declared.class_facts.ClassFacts.{ClassFacts}
use Rattle.jc_facts.specs.file.Valid.{is_valid_signature, has_key, keys_of}
use Rattle.jc_facts.proofs.Lists.{all_step, all_stop}
use Rattle.jc_facts.proofs.validity.are_signatures.Goals as goal

pub returns-then-not-is_signature : goal.returns-then-not-is_signature
returns-then-not-is_signature c =
    let facts : ClassFacts = c.args.facts.now in
    let here : c.as_slice-signed-items.result.now ≡ facts.signatures = c.as_slice-signed-items.ensures in
    let within : c.loop-signed.signed-index < length facts.signatures = omega (arith, ap (λ (xs : List Signed). length xs) here) in
    let bad : is_valid_signature facts c.signed-item.result ≡ false =
    sym (c.is_signature.ensures facts (λ q. c.in_ok-fields.ensures q ∙ ap (λ (ms : List Member). has_key q (keys_of ms)) c.as_slice.ensures) (λ q. c.in_ok-methods.ensures q ∙ ap (λ (ms : List Member). has_key q (keys_of ms)) c.as_slice-2.ensures)) ∙ c.if-not-is_signature.true in
    sym (all_stop (is_valid_signature facts) facts.signatures c.loop-signed.signed-index c.signed-item.result within (c.signed-item.is ∙ ap (λ (xs : List Signed). get_or xs c.loop-signed.signed-index c.signed-item.result) here) bad) ∙ c.loop-signed.invariant

pub loop-signed-preserved : goal.loop-signed-preserved
loop-signed-preserved c =
    let facts : ClassFacts = c.args.facts.now in
    let here : c.as_slice-signed-items.result.now ≡ facts.signatures = c.as_slice-signed-items.ensures in
    let within : c.loop-signed.signed-index < length facts.signatures = omega (arith, ap (λ (xs : List Signed). length xs) here) in
    let good : is_valid_signature facts c.signed-item.result ≡ true =
    sym (c.is_signature.ensures facts (λ q. c.in_ok-fields.ensures q ∙ ap (λ (ms : List Member). has_key q (keys_of ms)) c.as_slice.ensures) (λ q. c.in_ok-methods.ensures q ∙ ap (λ (ms : List Member). has_key q (keys_of ms)) c.as_slice-2.ensures)) ∙ c.if-not-is_signature.false in
    all_step (is_valid_signature facts) facts.signatures c.loop-signed.signed-index c.signed-item.result within (c.signed-item.is ∙ ap (λ (xs : List Signed). get_or xs c.loop-signed.signed-index c.signed-item.result) here) good ∙ c.loop-signed.invariant
