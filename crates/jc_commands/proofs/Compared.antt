-- What a comparison gives beside its verdict: clients that show it.
use Rattle.std.proofs.Common.{◌≡◌, ◌≢◌, ◌<◌, ◌^◌, ℕ, List, [], ◌∷◌, map, length, Option, Some, None, refl, sym, ap, subst, ◌∙◌, arith, length-append}
use Rattle.std.specs.Prelude.{IsTrue}
use Rattle.std.specs.List.{All}
use Rattle.std.proofs.lemmas.List.Elements.{All-from_recursion, recursion_from_All}
use Rattle.jc_facts.specs.declared.client.ClientClass.{ClientClass}
use Rattle.jc_facts.specs.declared.finding.Finding.{Finding}
use Rattle.jc_facts.specs.declared.verdict.Cause.TheVariants as cause
use Rattle.jc_facts.specs.declared.verdict.Collision.{Collision}
use Rattle.jc_facts.specs.declared.verdict.Verdict.{Verdict}
use Rattle.jc_facts.specs.Names.{Bytes}
use Rattle.jc_promises.specs.plan.Planned.{planned}
use Rattle.jc_promises.specs.rule.Verdict.{IsVerdict}
use Rattle.jc_facts.specs.Verdicts.{holds_some}
use Rattle.jc_facts.specs.world.Mentioned.{all_mentions}
use Rattle.jc_promises.specs.Pairs.{AreOfOneRun}
use Rattle.jc_facts.specs.world.World.{World, classes}
use Rattle.jc_lemmas.proofs.Listed.{EachOf, EachOf-map, EachOf-append}
use Rattle.jc_sound.proofs.VerdictLaw.{verdict_is_one}
use Rattle.jc_complete.specs.Completeness.{IsBroken, PlannedMeet}
use Rattle.jc_complete.proofs.CompletenessWhole.{verdict_is_exact}
use Rattle.jc_bodies.specs.Files.{CanWrite, FilesShow}
use Rattle.jc_facts.specs.file.ShortNames.{HasShortNames}
use Rattle.jc_bodies.proofs.FilesWhole.{each_has_its_files}
use Rattle.jc_index.specs.Sides.{IsSide}
use Rattle.jc_witness.specs.Ground.{HasShortSide}
use Rattle.jc_witness.specs.Witnesses.{MeetsOnly}
use Rattle.jc_witness.proofs.Ground.{can_write}
use Rattle.jc_witness.proofs.Shown.{is_witness}
use Rattle.jc_commands.specs.Check.{IsShown, puts_below}
use Rattle.jc_words.specs.Command.{CheckOf}
use Rattle.jc_shown.specs.Witness.{causes_of, witness_puts}
use Rattle.jc_commands.specs.declared.body.ReportBody.{ReportBody}
use Rattle.jc_commands.specs.declared.body.ReportBody.TheVariants as bodies
use Rattle.jc_commands.specs.declared.comparison.Comparison.{Comparison}
use Rattle.jc_shown.specs.declared.shown.Shown.{Shown}
use Rattle.jc_commands.specs.steps.Check.{IsComparison}
use Rattle.jc_commands.specs.ReportValue.{HasToShow, IsShownIn, CanShowAll, CanShowAny, dir_shown, dir_in, puts_shown, puts_in}
use Rattle.jc_shown.specs.Shown.{CanShow}

-- ---- the two sides

pub short_side : (W : World) → All HasShortNames W.platform → All HasShortNames W.release → HasShortSide W
short_side W p r = record { platform = p; release = r }

-- clients of two sides of one run can be planned, and their class files written
pub sides_can_write : (O N : World) (m n : ℕ) → IsSide O → IsSide N → AreOfOneRun O N → m ≡ length (all_mentions (classes O)) → m < 2 ^ 63 → n ≡ length (all_mentions (classes N)) → n < 2 ^ 63
    → HasShortSide O → HasShortSide N → CanWrite O N
sides_can_write O N m n old new same old_count old_small new_count new_small old_short new_short =
    can_write (record { old = O; new = N })
    (record {
      sides = record { old_side = old; new_side = new; run = same };
      few = omega (arith, length-append (all_mentions (classes O)) (all_mentions (classes N)), old_count, old_small, new_count, new_small);
    })
    old_short new_short

-- ---- the verdict

pub each_mapped : {A B : Type 0} (P : B → Type 0) (f : A → B) (xs : List A) → EachOf (λ x. P (f x)) xs → EachOf P (map f xs)
each_mapped P f [] h = tt
each_mapped P f (x ∷ xs) h = (h.0, each_mapped P f xs h.1)

some_holds : {A : Type 0} (xs : List A) → xs ≢ [] → IsTrue (holds_some xs)
some_holds [] h = absurd (h refl)
some_holds (x ∷ xs) h = refl

module _ (O N : World) (v : Verdict) (can : CanWrite O N) (is : IsVerdict O N v) where
  -- a client world in scope that meets none of the collisions isn't kept
  pub some_broken : v.findings ≢ [] → (cs : List ClientClass) × IsBroken O N v cs
  some_broken some = (verdict_is_exact O N v can.plan is).0 (some_holds v.findings some)

  finding_shown : (f : Finding) → FilesShow O N (cause.Finding f) f.error × All (λ c. ¬ (PlannedMeet O N (cause.Finding f) c)) v.collisions → IsShown O N (cause.Finding f)
  finding_shown f h = record {
    files = refl;
    shows = is_witness O N (cause.Finding f) f.error h.0;
    meets = λ w k. subst (λ (u : Verdict). MeetsOnly O (cause.Finding f) u (planned O N (cause.Finding f))) (verdict_is_one O N v w is k) h.1;
  }

  collision_shown : (c : Collision) → FilesShow O N (cause.Collision c) c.error × PlannedMeet O N (cause.Collision c) c → IsShown O N (cause.Collision c)
  collision_shown c h = record { files = refl; shows = is_witness O N (cause.Collision c) c.error h.0; meets = λ w k. h.1 }

  -- the witness files of each finding and each collision show it
  pub each_shown : All (IsShown O N) (causes_of v)
  each_shown =
      let law = each_has_its_files O N v can is in
      All-from_recursion (IsShown O N) (causes_of v) (EachOf-append (IsShown O N) (map cause.Finding v.findings) (map cause.Collision v.collisions)
      (each_mapped (IsShown O N) cause.Finding v.findings (EachOf-map finding_shown v.findings
      (recursion_from_All (λ f. FilesShow O N (cause.Finding f) f.error × All (λ c. ¬ (PlannedMeet O N (cause.Finding f) c)) v.collisions) v.findings law.0)))
      (each_mapped (IsShown O N) cause.Collision v.collisions (EachOf-map collision_shown v.collisions
      (recursion_from_All (λ c. FilesShow O N (cause.Collision c) c.error × PlannedMeet O N (cause.Collision c) c) v.collisions law.1))))

-- ---- what is to be shown

shown_dir : (dir : Option Bytes) (O N : World) (shown : Option Shown) → IsShownIn dir O N shown → dir_shown shown ≡ dir
shown_dir None O N None h = refl
shown_dir (Some d) O N (Some of) h = ap Some h.0
shown_dir None O N (Some of) h = absurd h
shown_dir (Some d) O N None h = absurd h

pub show_dir : (dir : Option Bytes) (O N : World) (v : Verdict) (body : ReportBody) → HasToShow dir O N v body → dir_in body ≡ dir
show_dir dir O N v (bodies.Bytes bytes) h = absurd h
show_dir dir O N v (bodies.Row vs) h = absurd h
show_dir dir O N v (bodies.Check check) h = shown_dir dir O N check.shown h.1

shown_puts : (dir : Option Bytes) (O N : World) (v : Verdict) (shown : Option Shown) → IsShownIn dir O N shown → puts_shown v shown ≡ puts_below dir O N v
shown_puts None O N v None h = refl
shown_puts (Some d) O N v (Some of) h =
    ap (λ (x : Bytes). witness_puts x of.old of.new v) h.0 ∙ ap (λ (W : World). witness_puts d W of.new v) h.1 ∙ ap (λ (W : World). witness_puts d O W v) h.2
shown_puts None O N v (Some of) h = absurd h
shown_puts (Some d) O N v None h = absurd h

pub show_puts : (dir : Option Bytes) (O N : World) (v : Verdict) (body : ReportBody) → HasToShow dir O N v body → puts_in body ≡ puts_below dir O N v
show_puts dir O N v (bodies.Bytes bytes) h = absurd h
show_puts dir O N v (bodies.Row vs) h = absurd h
show_puts dir O N v (bodies.Check check) h = shown_puts dir O N check.verdict check.shown h.1 ∙ ap (λ (w : Verdict). puts_below dir O N w) h.0

module _ (check : CheckOf) (O N : World) (c : Comparison) (is : IsComparison check O N c) where
  abbrev run : AreOfOneRun O N
  run = is.can.plan.pair.run

  can_show : (of : Shown) (v : Verdict) → of.old ≡ c.old → of.new ≡ c.new → v ≡ c.verdict → CanShow of v
  can_show of v o n e = record {
    run = subst (λ (W : World). AreOfOneRun W of.new) (sym (o ∙ is.old_is)) (subst (AreOfOneRun O) (sym (n ∙ is.new_is)) run);
    verdict =
        subst (λ (W : World). IsVerdict W of.new v) (sym (o ∙ is.old_is))
        (subst (λ (W : World). IsVerdict O W v) (sym (n ∙ is.new_is))
        (subst (λ (w : Verdict). IsVerdict O N w) (sym e) is.verdict.exact));
    few = rw e is.verdict.few;
    old_names = subst HasShortSide (sym (o ∙ is.old_is)) (short_side O is.can.platform_short is.can.old_short);
    new_names = subst HasShortSide (sym (n ∙ is.new_is)) (short_side N (subst (All HasShortNames) run.platform is.can.platform_short) is.can.new_short);
    shown =
        subst (λ (W : World). All (IsShown W of.new) (causes_of v)) (sym (o ∙ is.old_is))
        (subst (λ (W : World). All (IsShown O W) (causes_of v)) (sym (n ∙ is.new_is))
        (subst (λ (w : Verdict). All (IsShown O N) (causes_of w)) (sym e) (each_shown O N c.verdict is.can is.verdict.exact)));
  }

  can_show_all : (dir : Option Bytes) (v : Verdict) (shown : Option Shown) → v ≡ c.verdict → IsShownIn dir c.old c.new shown → CanShowAll v shown
  can_show_all None v None e h = tt
  can_show_all (Some d) v (Some of) e h = can_show of v h.1 h.2 e
  can_show_all None v (Some of) e h = absurd h
  can_show_all (Some d) v None e h = absurd h

  pub can_show_any : (dir : Option Bytes) (body : ReportBody) → HasToShow dir c.old c.new c.verdict body → CanShowAny body
  can_show_any dir (bodies.Bytes bytes) h = absurd h
  can_show_any dir (bodies.Row vs) h = absurd h
  can_show_any dir (bodies.Check check) h = can_show_all dir check.verdict check.shown h.0 h.1
