-- What bears out the verdicts on the steps of a row of releases.
--     row_borne_out      over tables, of each of which it holds what always does
use Rattle.std.proofs.Common.{◌≡◌, List, [], ◌∷◌, length, refl}
use Rattle.std.specs.List.{AllZip}
use Rattle.std.proofs.lemmas.List.Elements.{All-weaker}
use Rattle.jc_facts.specs.declared.rule_numbers.TheConstants.{CLASS_GONE}
use Rattle.jc_facts.specs.declared.class_facts.ClassFacts.{ClassFacts}
use Rattle.jc_facts.specs.declared.verdict.Verdict.{Verdict}
use Rattle.jc_facts.specs.world.Mentioned.{all_mentions}
use Rattle.jc_facts.specs.world.World.{classes, side}
use Rattle.jc_promises.specs.Pairs.{IsPair}
use Rattle.jc_promises.specs.client.Kept.{BreaksClass}
use Rattle.jc_promises.specs.rule.Findings.{Stands, subject_of}
use Rattle.jc_promises.specs.rule.Verdict.{IsVerdict}
use Rattle.jc_lemmas.proofs.Listed.{EachOf}
use Rattle.jc_sound.proofs.ClassGoneLaw.{class_gone_breaks}
use Rattle.jc_sound.proofs.SoundnessLaws.{keeps}
use Rattle.jc_bodies.specs.Files.{CanWrite}
use Rattle.jc_history.specs.Row.{Step, steps_from, steps_of, AreVerdicts}
use Rattle.jc_trees.specs.ClassLists.{IsRecordList}
use Rattle.jc_shown.specs.Witness.{causes_of}
use Rattle.jc_commands.specs.History.{row_of, IsBorneOutStep}
use Rattle.jc_commands.specs.steps.History.{IsCounted}
use Rattle.jc_commands.proofs.Compared.{short_side, sides_can_write, some_broken, each_shown}
use Rattle.jc_commands.proofs.ShownFrom.{each_has_clients}

-- ---- one step

-- clients of the step can be planned, and their class files written
abbrev CanWriteStep : Step → Type 0
CanWriteStep s = CanWrite s.old s.new

borne_out : (s : Step) (v : Verdict) → CanWriteStep s → IsVerdict s.old s.new v → IsBorneOutStep s v
borne_out s v can is =
    let pair : IsPair s.old s.new = can.plan.pair in
    record {
      kept = λ none cs scope met. keeps s.old s.new v cs pair is none scope met;
      broken = some_broken s.old s.new v can is;
      breaks =
          All-weaker (Stands s.old s.new) (λ f. f.rule ≡ CLASS_GONE → BreaksClass s.old s.new f.«class» f.error)
          (λ f stands is_gone. class_gone_breaks s.old s.new pair.run.old_bare pair.run.new_bare pair.platform_valid pair.old_valid (subject_of f) f is_gone stands)
          v.findings is.findings.sound;
      shown = each_has_clients s.old s.new v is (causes_of v) (each_shown s.old s.new v can is);
    }

-- ---- all steps

each_borne_out : (steps : List Step) (vs : List Verdict) → EachOf CanWriteStep steps → AreVerdicts steps vs → AllZip IsBorneOutStep steps vs
each_borne_out [] [] can h = tt
each_borne_out [] (v ∷ vs) can h = absurd h
each_borne_out (s ∷ ss) [] can h = absurd h
each_borne_out (s ∷ ss) (v ∷ vs) can h = (borne_out s v can.0 h.0, each_borne_out ss vs can.1 h.1)

-- those of two sides without modules can
plain_can_write : (platform old new : List ClassFacts) → IsRecordList platform → IsRecordList old → IsRecordList new → IsCounted (side platform old) → IsCounted (side platform new) → CanWrite (side platform old) (side platform new)
plain_can_write platform old new p o n before after =
    sides_can_write (side platform old) (side platform new) (length (all_mentions (classes (side platform old)))) (length (all_mentions (classes (side platform new)))) before.side after.side
    (record { old_bare = refl; new_bare = refl; platform = refl; kind = refl }) refl before.few refl after.few
    (short_side (side platform old) p.short o.short) (short_side (side platform new) p.short n.short)

can_write_from : (platform first : List ClassFacts) (later : List (List ClassFacts)) → IsRecordList platform → IsRecordList first → EachOf IsRecordList later → IsCounted (side platform first) → EachOf IsCounted (row_of platform later)
    → EachOf CanWriteStep (steps_from (side platform first) (row_of platform later))
can_write_from platform first [] p f l before after = tt
can_write_from platform first (n ∷ later) p f l before after = (plain_can_write platform first n p f l.0 before after.0, can_write_from platform n later p l.0 l.1 after.0 after.1)

pub row_borne_out : (platform : List ClassFacts) (releases : List (List ClassFacts)) (vs : List Verdict) → IsRecordList platform → EachOf IsRecordList releases → EachOf IsCounted (row_of platform releases)
    → AreVerdicts (steps_of (row_of platform releases)) vs → AllZip IsBorneOutStep (steps_of (row_of platform releases)) vs
row_borne_out platform [] vs p rs counted are = each_borne_out [] vs tt are
row_borne_out platform (first ∷ later) vs p rs counted are = each_borne_out (steps_from (side platform first) (row_of platform later)) vs (can_write_from platform first later p rs.0 rs.1 counted.0 counted.1) are
