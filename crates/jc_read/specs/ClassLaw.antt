-- What is said of every list of bytes: it is the class file of one record, or it has one first fault.
use Rattle.std.specs.Prelude.{◌≡◌, ℕ, List}
use Rattle.jc_desc.specs.declared.fault.Reason.{Reason}
use Rattle.jc_facts.specs.declared.class_facts.ClassFacts.{ClassFacts}
use Rattle.jc_facts.specs.file.ClassGrammar.{Reads}
use Rattle.jc_facts.specs.file.ClassSteps.{IsFaulty}

-- exactly one record is read, and nothing is faulty
pub record ReadsOne (bytes : List ℕ) : Type 0 where
  pub facts : ClassFacts
  pub reads : Reads bytes facts
  pub one : (c : ClassFacts) → Reads bytes c → c ≡ facts
  pub no_fault : (o : ℕ) (r : Reason) → ¬ IsFaulty bytes o r

-- no record is read, and exactly one pair of offset and reason is faulty
pub record HasOneFault (bytes : List ℕ) : Type 0 where
  pub offset : ℕ
  pub reason : Reason
  pub faulty : IsFaulty bytes offset reason
  pub one : (o : ℕ) (r : Reason) → IsFaulty bytes o r → (o ≡ offset) × (r ≡ reason)
  pub no_record : (c : ClassFacts) → ¬ Reads bytes c
