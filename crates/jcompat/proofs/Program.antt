-- The program's own gates: each is the only one of its name. What is answered before they are made.
use Rattle.std.proofs.Common.{◌≡◌, inl, Bool, false, nat_le, ℕ, List, [], ◌∷◌, Option, Some, None, refl, sym, ap, ◌∙◌, arith}
use Rattle.std.specs.Prelude.{codes, is_some}
use Rattle.std.proofs.lemmas.List.{append-nil}
use Rattle.jc_base.specs.Outside.{TakesFront}
use Rattle.jc_base.specs.States.{TreesState, SinkState, FolderState, Change}
use Rattle.jc_facts.specs.Names.{Bytes}
use Rattle.jc_gate.specs.Gates.{GateOf}
use Rattle.jc_gate.specs.Meanings.{HasLinksGate, HasCallsGate, has_no_finding, has_no_collision, has_at_most}
use Rattle.jc_releases.specs.declared.status.TheConstants.{NO_MEMORY}
use Rattle.jc_releases.specs.declared.stop.Stop.TheVariants as stops
use Rattle.jc_version.specs.Needs.{HasVersionGate, need_of}
use Rattle.jcompat.proofs.Answered.{stop_answers}
use Rattle.jcompat.specs.Answers.{Ran, Answers, ran}
use Rattle.jcompat.specs.Program.{AreProgramGates, OwnAnswers, IsIdle}

links_of : (gates : List GateOf) → AreProgramGates gates → HasLinksGate gates
links_of (links ∷ collisions ∷ few ∷ version ∷ calls ∷ []) h = (links, rw (h.0.named, h.1.named, h.2.named, h.3.named, h.4.named) refl, h.0)
links_of [] h = absurd h
links_of (a ∷ []) h = absurd h
links_of (a ∷ b ∷ []) h = absurd h
links_of (a ∷ b ∷ c ∷ []) h = absurd h
links_of (a ∷ b ∷ c ∷ d ∷ []) h = absurd h
links_of (a ∷ b ∷ c ∷ d ∷ e ∷ f ∷ more) h = absurd h

version_of : (gates : List GateOf) → AreProgramGates gates → HasVersionGate gates
version_of (links ∷ collisions ∷ few ∷ version ∷ calls ∷ []) h = (version, rw (h.0.named, h.1.named, h.2.named, h.3.named, h.4.named) refl, h.3)
version_of [] h = absurd h
version_of (a ∷ []) h = absurd h
version_of (a ∷ b ∷ []) h = absurd h
version_of (a ∷ b ∷ c ∷ []) h = absurd h
version_of (a ∷ b ∷ c ∷ d ∷ []) h = absurd h
version_of (a ∷ b ∷ c ∷ d ∷ e ∷ f ∷ more) h = absurd h

calls_of : (gates : List GateOf) → AreProgramGates gates → HasCallsGate gates
calls_of (links ∷ collisions ∷ few ∷ version ∷ calls ∷ []) h = (calls, rw (h.0.named, h.1.named, h.2.named, h.3.named, h.4.named) refl, h.4)
calls_of [] h = absurd h
calls_of (a ∷ []) h = absurd h
calls_of (a ∷ b ∷ []) h = absurd h
calls_of (a ∷ b ∷ c ∷ []) h = absurd h
calls_of (a ∷ b ∷ c ∷ d ∷ []) h = absurd h
calls_of (a ∷ b ∷ c ∷ d ∷ e ∷ f ∷ more) h = absurd h

pub own_answers : (r : Ran) → AreProgramGates r.gates → Answers r → OwnAnswers r
own_answers r gates answers = record {
  gates = gates;
  answers = answers;
  unbroken = λ known check asked_for named. answers.unbroken known check asked_for named (links_of r.gates gates);
  versioned = λ known check asked_for named step said. answers.versioned known check asked_for named step said (version_of r.gates gates);
  cleared = λ known check asked_for named. answers.cleared known check asked_for named (calls_of r.gates gates);
}

-- ---- there was no memory for the gates

abbrev is_enough : Option ℕ → List ℕ → Bool
is_enough None rules = false
is_enough (Some step) rules = nat_le (need_of rules) step

-- gates that answer as the program's do
abbrev planned_gates : List GateOf
planned_gates =
    record { label = codes "links"; passes = λ step rules. has_no_finding rules }
    ∷ record { label = codes "collisions"; passes = λ step rules. has_no_collision rules }
    ∷ record { label = codes "few"; passes = λ step rules. has_at_most 10 rules }
    ∷ record { label = codes "version"; passes = is_enough }
    ∷ record { label = codes "calls"; passes = λ told rules. is_some told }
    ∷ []

are_planned : AreProgramGates planned_gates
are_planned = (
  record { named = refl; passes = λ step rules. refl },
  record { named = refl; passes = λ step rules. refl },
  record { named = refl; passes = λ step rules. refl },
  record { named = refl; uninformed = λ rules. refl; informed = λ step rules least most. refl },
  record { named = refl; passes = λ told rules. refl },
)

not_five : {P : Type 0} (six : ℕ) → six ≡ 6 → six ≡ 5 → P
not_five six is e = absurd (grind arith)

-- no byte is a prefix of none
front_of_nothing : (before after : Option Bytes) → after ≡ before → TakesFront before after []
front_of_nothing None after same = same
front_of_nothing (Some old) after same = (0, omega arith, same ∙ ap Some (sym (append-nil old)))

pub idle_answers : (words : List Bytes) (trees : Change TreesState) (out err : Change SinkState) (folder : Change FolderState) → IsIdle trees out err folder
    → (gates : List GateOf) × OwnAnswers (ran gates words trees out err folder NO_MEMORY)
idle_answers words trees out err folder idle = (planned_gates, own_answers r are_planned answers)
  where
    r : Ran
    r = ran planned_gates words trees out err folder NO_MEMORY

    answers : Answers r
    answers =
        stop_answers r stops.Memory tt
        (record { known = inl refl; whole = λ due apart. absurd (apart refl); cut = λ h. front_of_nothing err.before.taken err.after.taken (ap (λ s. s.taken) idle.errors); cause = not_five NO_MEMORY refl })
        (not_five NO_MEMORY refl) (ap (λ s. s.taken) idle.output) idle.folder_is (ap (λ t. t.content) idle.trees_are)
