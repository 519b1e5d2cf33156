-- Bytes are the class file of one record, or have one first fault.
use Rattle.std.proofs.Common.{ℕ, List, ◌⊎◌, inl, inr}
use Rattle.jc_desc.specs.declared.fault.Reason.{Reason}
use Rattle.jc_facts.specs.declared.class_facts.ClassFacts.{ClassFacts}
use Rattle.jc_facts.specs.file.ClassGrammar.{Reads}
use Rattle.jc_facts.specs.file.ClassSteps.{IsFaulty}
use Rattle.jc_facts.proofs.ClassFiles.{either, never_both, one_record, one_fault}
use Rattle.jc_read.specs.ClassLaw.{ReadsOne, HasOneFault}

pub one_of_both : (bytes : List ℕ) → ReadsOne bytes ⊎ HasOneFault bytes
one_of_both bytes = go (either bytes) where
  go : ((c : ClassFacts) × Reads bytes c) ⊎ ((offset : ℕ) × (reason : Reason) × IsFaulty bytes offset reason) → ReadsOne bytes ⊎ HasOneFault bytes
  go (inl r) = inl (record { facts = r.0; reads = r.1; one = λ c h. one_record bytes c r.0 h r.1; no_fault = λ o e f. never_both bytes r.0 o e r.1 f })
  go (inr f) = inr (record { offset = f.0; reason = f.1; faulty = f.2; one = λ o e g. one_fault bytes o f.0 e f.1 g f.2; no_record = λ c h. never_both bytes c f.0 f.1 h f.2 })
