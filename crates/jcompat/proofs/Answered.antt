-- The answers of a run that puts a report, and of one that puts why there is none.
use Rattle.std.proofs.Common.{◌≡◌, ◌≢◌, ◌≤◌, ◌⊎◌, ◌==◌, inl, inr, Bool, true, false, not, nat_le, ℕ, List, [], ◌∷◌, Option, Some, None, refl, sym, ap, subst, ◌∙◌, arith}
use Rattle.std.specs.Prelude.{Result, Ok, IfOk, IfSome, IsSomeAnd, IsTrue, ◌↔◌, codes}
use Rattle.std.proofs.lemmas.Bool.{both_ways, le-leb, leb-true}
use Rattle.jc_base.specs.Outside.{FileOf}
use Rattle.jc_base.specs.States.{TreesState}
use Rattle.jc_facts.specs.declared.sig_note.SigNote.{SigNote}
use Rattle.jc_facts.specs.declared.verdict.Verdict.{Verdict}
use Rattle.jc_facts.specs.declared.warning.Warning.{Warning}
use Rattle.jc_facts.specs.declared.dropped.Dropped.{Dropped}
use Rattle.jc_call_lines.specs.LinesWithin.{ReferencesStill}
use Rattle.jc_select.specs.DroppedWithin.{InterfacesStill}
use Rattle.jc_select.specs.Within.{AnswersStill}
use Rattle.jc_facts.specs.Names.{Bytes}
use Rattle.jc_trees.specs.declared.file_fault.FileFault.{FileFault}
use Rattle.jc_trees.specs.declared.file_fault.FileFault.TheVariants as faults
use Rattle.jc_trees.specs.declared.file_fault.TreeFault.TheVariants as tree_faults
use Rattle.jc_commands.specs.declared.report.Report.{Report}
use Rattle.jc_releases.specs.declared.status.TheConstants.{PASSED, NOT_PASSED, WRITE_FAULT, NO_MEMORY, LIMIT}
use Rattle.jc_releases.specs.declared.stop.Stop.{Stop}
use Rattle.jc_releases.specs.declared.stop.Stop.TheVariants as stops
use Rattle.jc_commands.specs.Causes.{HasCause, HasFailed}
use Rattle.jc_commands.specs.Outputs.{IsQuiet, IsUntouched, PutsAll, PutsFront}
use Rattle.jcompat.specs.Answers.{Ran, Answers, Due, due_bytes, Puts, IsStopped, CutsWitnesses, CutsReport, CutsRefusal, Planned, IsPut, Leaves, OfFiles}
use Rattle.jc_commands.specs.Check.{CheckReport, IsAnswered, IsCompatible, IsIncompatible, IsBorneOut, IsNoted, KeepsInterfaces, KeepsReferences, TellNoReference, HoldsClients, check_bytes, old_side, new_side, puts_below}
use Rattle.jc_commands.proofs.SomeSignatures.{noted_list}
use Rattle.jc_trees.specs.ClassFiles.{Told}
use Rattle.jc_releases.specs.Command.{step_of_check, witness_dir}
use Rattle.jc_words.specs.Command.{CommandOf, CheckOf, HistoryOf, ClientsOf, CheckCommand, LinkCommand, MakeCommand, HistoryCommand, ClientsCommand, HelpCommand, asked}
use Rattle.jc_words.specs.Help.{help_page}
use Rattle.jc_commands.specs.Clients.{ClientsReport, clients_report_bytes, IsTold}
use Rattle.jc_commands.specs.History.{IsKeptRow, IsBorneOutRow}
use Rattle.jc_answers.specs.ClientsText.{are_all_kept}
use Rattle.jc_commands.specs.Reports.{ToldTo, RecordsOf, ReportOf, IsReportOn, rules_of, is_clear, told_of, passes, bytes_of, puts_of}
use Rattle.jc_promises.specs.rule.Verdict.{IsVerdict}
use Rattle.jc_facts.specs.Verdicts.{is_incompatible}
use Rattle.jc_facts.specs.world.World.{World}
use Rattle.jc_gate.specs.Gates.{GateOf, all_pass}
use Rattle.jc_gate.specs.Meanings.{HasLinksGate, HasCallsGate, has_no_finding}
use Rattle.jc_report.specs.HistoryText.{history_text_of}
use Rattle.jc_version.specs.Needs.{need_of, HasVersionGate}
use Rattle.jc_version.proofs.Gate.{version_alone}
use Rattle.jc_commands.proofs.RulesTell.{rules_tell, none_found, found_none}
use Rattle.jc_gate.proofs.Alone.{gate_alone, calls_alone}
use Rattle.jc_commands.proofs.StepSaid.{said_least, said_most}
use Rattle.jc_releases.specs.Stop.{line_of, file_status, status_of}
use Rattle.jc_shown.specs.Witness.{PutsFiles, PutsSome, causes_of, witness_puts}
use Rattle.jc_commands.specs.ReportValue.{IsChecked, IsReportOf, Reports, bytes_in, dir_in, puts_in, passes_by, status_by}
use Rattle.jc_commands.specs.Putting.{IsPutWith, IsPutAfter, IsCutBefore}
use Rattle.jc_commands.proofs.Asked.{asked_without}
use Rattle.jc_commands.proofs.ShownFrom.{files_show_each, each_has_clients}
use Rattle.jc_commands.proofs.Events.{told_to, told_weaker, not_refused, reported_accepted, refused_status, accepted_status}
use Rattle.jc_trees.proofs.Results.{same_ok}

-- a status isn't two numbers
clash : {P : Type 0} (s m n : ℕ) → s ≡ m → s ≡ n → (m == n) ≡ false → P
clash s m n h k e = absurd (grind arith)

at_most : (s m : ℕ) → s ≡ m → m ≤ 7 → s ≤ 7
at_most s m h le = rw h le

-- a put failed, or there was no memory
cut_most : (s : ℕ) → (s ≡ WRITE_FAULT) ⊎ (s ≡ NO_MEMORY) → s ≤ LIMIT
cut_most s (inl five) = at_most s 5 five (omega arith)
cut_most s (inr six) = at_most s 6 six (omega arith)

cut_clash : {P : Type 0} (s n : ℕ) → (s ≡ WRITE_FAULT) ⊎ (s ≡ NO_MEMORY) → s ≡ n → (5 == n) ≡ false → (6 == n) ≡ false → P
cut_clash s n (inl five) is e f = clash s 5 n five is e
cut_clash s n (inr six) is e f = clash s 6 n six is f

-- what holds of the value holds of this one
if_ok : {A E : Type 0} (r : Result A E) (x : A) (P : A → Type 0) → r ≡ Ok x → IfOk r P → P x
if_ok {A} {E} r x P e h = subst (λ (s : Result A E). IfOk s P) e h

-- what follows of two facts on what is there follows where it is there
where_there : {T R : Type 0} (o : Option T) (P Q : T → Type 0) → ((x : T) → P x → Q x → R) → IfSome o P → IsSomeAnd o Q → R
where_there None P Q f p q = absurd q
where_there (Some x) P Q f p q = f x p q

-- ---- a report was put

-- what a check's report upholds
record Upheld (content : Option (List FileOf)) (check : CheckOf) (report : Report) : Type 0 where
  of : CheckReport
  checked : Told content (λ files. IsChecked files check of (puts_in report.body))
  text : bytes_in report.body ≡ check_bytes check.json of
  answer : (gates : List GateOf) → passes_by gates report.condition ≡ all_pass gates check.gates (told_of check of) (rules_of of.verdict)

same_check : (c d : CheckOf) → CheckCommand c ≡ CheckCommand d → c ≡ d
same_check c d e = cc

no_link : {P : Type 0} (l : _) (d : CheckOf) → LinkCommand l ≡ CheckCommand d → P
no_link l d e = absurd (cc)

no_history : {P : Type 0} (h : _) (d : CheckOf) → HistoryCommand h ≡ CheckCommand d → P
no_history h d e = absurd (cc)

no_clients : {P : Type 0} (k : _) (d : CheckOf) → ClientsCommand k ≡ CheckCommand d → P
no_clients k d e = absurd (cc)

no_make : {P : Type 0} (n : ℕ) (d : CheckOf) → MakeCommand n ≡ CheckCommand d → P
no_make n d e = absurd (cc)

no_help : {P : Type 0} (d : CheckOf) → HelpCommand ≡ CheckCommand d → P
no_help d e = absurd (cc)

upheld : (trees : TreesState) (report : Report) (check : CheckOf) (command : CommandOf) → command ≡ CheckCommand check → IsReportOf command trees report → Upheld trees.content check report
upheld trees report check (CheckCommand c) e is = record {
  of = is.of;
  checked = subst (λ (d : CheckOf). Told trees.content (λ files. IsChecked files d is.of (puts_in report.body))) (same_check c check e) is.upholds;
  text = subst (λ (d : CheckOf). bytes_in report.body ≡ check_bytes d.json is.of) (same_check c check e) is.tells.text;
  answer = λ gates. subst (λ (d : CheckOf). passes_by gates report.condition ≡ all_pass gates d.gates (told_of d is.of) (rules_of is.of.verdict)) (same_check c check e) (is.tells.answer gates);
}
upheld trees report check (LinkCommand l) e is = no_link l check e
upheld trees report check (MakeCommand n) e is = no_make n check e
upheld trees report check (HistoryCommand h) e is = no_history h check e
upheld trees report check (ClientsCommand k) e is = no_clients k check e
upheld trees report check HelpCommand e is = no_help check e

-- what the report of a row of releases upholds
record UpheldRow (content : Option (List FileOf)) (history : HistoryOf) (report : Report) : Type 0 where
  of : List Verdict
  judged : Told content (λ files. IsKeptRow files history of × IsBorneOutRow files history of)
  text : bytes_in report.body ≡ history_text_of of

same_history : (h k : HistoryOf) → HistoryCommand h ≡ HistoryCommand k → h ≡ k
same_history h k e = cc

no_row_of_check : {P : Type 0} (c : _) (k : HistoryOf) → CheckCommand c ≡ HistoryCommand k → P
no_row_of_check c k e = absurd (cc)

no_row_of_link : {P : Type 0} (l : _) (k : HistoryOf) → LinkCommand l ≡ HistoryCommand k → P
no_row_of_link l k e = absurd (cc)

no_row_of_clients : {P : Type 0} (c : _) (k : HistoryOf) → ClientsCommand c ≡ HistoryCommand k → P
no_row_of_clients c k e = absurd (cc)

no_row_of_make : {P : Type 0} (n : ℕ) (k : HistoryOf) → MakeCommand n ≡ HistoryCommand k → P
no_row_of_make n k e = absurd (cc)

no_row_of_help : {P : Type 0} (k : HistoryOf) → HelpCommand ≡ HistoryCommand k → P
no_row_of_help k e = absurd (cc)

upheld_row : (trees : TreesState) (report : Report) (history : HistoryOf) (command : CommandOf) → command ≡ HistoryCommand history → IsReportOf command trees report → UpheldRow trees.content history report
upheld_row trees report history (HistoryCommand h) e is = record {
  of = is.of;
  judged = subst (λ (k : HistoryOf). Told trees.content (λ files. IsKeptRow files k is.of × IsBorneOutRow files k is.of)) (same_history h history e) is.upholds;
  text = is.tells.text;
}
upheld_row trees report history (CheckCommand c) e is = no_row_of_check c history e
upheld_row trees report history (LinkCommand l) e is = no_row_of_link l history e
upheld_row trees report history (ClientsCommand c) e is = no_row_of_clients c history e
upheld_row trees report history (MakeCommand n) e is = no_row_of_make n history e
upheld_row trees report history HelpCommand e is = no_row_of_help history e

-- what the report of clients of two releases upholds
record UpheldClients (content : Option (List FileOf)) (clients : ClientsOf) (report : Report) : Type 0 where
  of : ClientsReport
  told : Told content (λ files. IsTold files clients of)
  bytes : bytes_in report.body ≡ clients_report_bytes clients.json of
  answer : (gates : List GateOf) → passes_by gates report.condition ≡ are_all_kept of.answers

same_clients : (c d : ClientsOf) → ClientsCommand c ≡ ClientsCommand d → c ≡ d
same_clients c d e = cc

no_clients_of_check : {P : Type 0} (c : _) (k : ClientsOf) → CheckCommand c ≡ ClientsCommand k → P
no_clients_of_check c k e = absurd (cc)

no_clients_of_link : {P : Type 0} (l : _) (k : ClientsOf) → LinkCommand l ≡ ClientsCommand k → P
no_clients_of_link l k e = absurd (cc)

no_clients_of_row : {P : Type 0} (h : _) (k : ClientsOf) → HistoryCommand h ≡ ClientsCommand k → P
no_clients_of_row h k e = absurd (cc)

no_clients_of_make : {P : Type 0} (n : ℕ) (k : ClientsOf) → MakeCommand n ≡ ClientsCommand k → P
no_clients_of_make n k e = absurd (cc)

no_clients_of_help : {P : Type 0} (k : ClientsOf) → HelpCommand ≡ ClientsCommand k → P
no_clients_of_help k e = absurd (cc)

upheld_clients : (trees : TreesState) (report : Report) (clients : ClientsOf) (command : CommandOf) → command ≡ ClientsCommand clients → IsReportOf command trees report
    → UpheldClients trees.content clients report
upheld_clients trees report clients (ClientsCommand c) e is = record {
  of = is.of;
  told = subst (λ (k : ClientsOf). Told trees.content (λ files. IsTold files k is.of)) (same_clients c clients e) is.upholds;
  bytes = subst (λ (k : ClientsOf). bytes_in report.body ≡ clients_report_bytes k.json is.of) (same_clients c clients e) is.tells.text;
  answer = is.tells.answer;
}
upheld_clients trees report clients (CheckCommand c) e is = no_clients_of_check c clients e
upheld_clients trees report clients (LinkCommand l) e is = no_clients_of_link l clients e
upheld_clients trees report clients (HistoryCommand h) e is = no_clients_of_row h clients e
upheld_clients trees report clients (MakeCommand n) e is = no_clients_of_make n clients e
upheld_clients trees report clients HelpCommand e is = no_clients_of_help clients e

-- what the report of help upholds
record UpheldPage (report : Report) : Type 0 where
  text : bytes_in report.body ≡ help_page
  answer : (gates : List GateOf) → passes_by gates report.condition ≡ true

-- whatever the files are, the page is the one
the_page : (content : Option (List FileOf)) (command : CommandOf) → command ≡ HelpCommand → (page : ReportOf command)
    → ToldTo command content (λ files. (records : RecordsOf files command) × IsReportOn files command records page) → (bytes_of command page ≡ help_page) × ((gates : List GateOf) → passes gates command page ≡ true)
the_page content HelpCommand e page h = ((h []).1, λ gates. refl)
the_page content (CheckCommand c) e report h = absurd (cc)
the_page content (LinkCommand l) e report h = absurd (cc)
the_page content (MakeCommand n) e report h = absurd (cc)
the_page content (HistoryCommand k) e report h = absurd (cc)
the_page content (ClientsCommand k) e report h = absurd (cc)

upheld_page : (trees : TreesState) (report : Report) (command : CommandOf) → command ≡ HelpCommand → IsReportOf command trees report → UpheldPage report
upheld_page trees report command e is =
    let page = the_page trees.content command e is.of (told_weaker command trees.content _ _ (λ files h. (h.0, h.1)) is.is_report) in
    record { text = is.tells.text ∙ page.0; answer = λ gates. is.tells.answer gates ∙ page.1 gates }

module _ (r : Ran) (report : Report) (is : Reports r.gates r.words r.trees.before report)
    (put : IsPutAfter (puts_in report.body) r.folder (bytes_in report.body) (status_by (passes_by r.gates report.condition)) r.out r.status ⊎ IsCutBefore (dir_in report.body) (puts_in report.body) r.folder r.out r.status)
    (untouched : dir_in report.body ≡ None → IsUntouched r.folder) (quiet : IsQuiet r.err) (same : r.trees.after.content ≡ r.trees.before.content) where
  abbrev reported : List FileOf → Type 0
  reported files = (records : RecordsOf files is.command) × IsReportOn files is.command records is.is.of × (puts_in report.body ≡ puts_of files is.command records is.is.of)

  abbrev due : Due r
  due = record { command = is.command; asked_for = is.asked_for; report = is.is.of; is_report = told_weaker is.command r.trees.before.content reported _ (λ files h. (h.0, h.1)) is.is.is_report }

  abbrev planned : Planned r
  planned = record { due = due; puts = puts_in report.body; planned = is.is.is_report }

  abbrev passed_by : Bool
  passed_by = passes_by r.gates report.condition

  -- what was put with status 0, and with status 1
  record IsWhole : Type 0 where
    puts : (bytes : Bytes) → bytes_in report.body ≡ bytes → Puts r bytes
    witnesses : PutsFiles r.folder (puts_in report.body)

  data Cut : Type 0 where
    in_witnesses : CutsWitnesses r due → PutsSome r.folder (puts_in report.body) → Cut
    in_report : CutsReport r due → PutsFiles r.folder (puts_in report.body) → Cut

  without_files : Cut → CutsWitnesses r due ⊎ CutsReport r due
  without_files (in_witnesses c some) = inl c
  without_files (in_report c whole) = inr c

  with_files : Cut → (CutsWitnesses r due × PutsSome r.folder (puts_in report.body)) ⊎ (CutsReport r due × PutsFiles r.folder (puts_in report.body))
  with_files (in_witnesses c some) = inl (c, some)
  with_files (in_report c whole) = inr (c, whole)

  data Case : Type 0 where
    passed : passed_by ≡ true → r.status ≡ PASSED → IsWhole → Case
    not_passed : passed_by ≡ false → r.status ≡ NOT_PASSED → IsWhole → Case
    cut : (r.status ≡ WRITE_FAULT) ⊎ (r.status ≡ NO_MEMORY) → Cut → Case

  module _ (after : IsPutAfter (puts_in report.body) r.folder (bytes_in report.body) (status_by passed_by) r.out r.status) where
    whole : r.status ≡ status_by passed_by → r.status ≢ NO_MEMORY → IsWhole
    whole s apart = record { puts = λ bytes text. record { output = subst (PutsAll r.out) text (after.put.whole s apart); errors = quiet }; witnesses = after.witnesses }

    in_time : (r.status ≡ WRITE_FAULT) ⊎ (r.status ≡ NO_MEMORY) → CutsReport r due
    in_time h = record { output = subst (PutsFront r.out) is.is.tells.text (after.put.cut h); errors = quiet; cause = after.put.cause }

    by_status : (b : Bool) → passed_by ≡ b → (r.status ≡ status_by passed_by) ⊎ (r.status ≡ WRITE_FAULT) ⊎ (r.status ≡ NO_MEMORY) → Case
    by_status true e (inl s) = let zero : r.status ≡ PASSED = s ∙ ap status_by e in passed e zero (whole s (λ six. clash r.status 0 6 zero six refl))
    by_status false e (inl s) = let one : r.status ≡ NOT_PASSED = s ∙ ap status_by e in not_passed e one (whole s (λ six. clash r.status 1 6 one six refl))
    by_status b e (inr h) = cut h (in_report (in_time h) after.witnesses)

  before_time : IsCutBefore (dir_in report.body) (puts_in report.body) r.folder r.out r.status → CutsWitnesses r due
  before_time k = record { asked_for = (k.asked_for.0, sym is.is.dir_is ∙ k.asked_for.1); output = k.output; errors = quiet; cause = k.cause }

  the_case : Case
  the_case = go put
    where
      go : IsPutAfter (puts_in report.body) r.folder (bytes_in report.body) (status_by passed_by) r.out r.status ⊎ IsCutBefore (dir_in report.body) (puts_in report.body) r.folder r.out r.status → Case
      go (inl after) = by_status after passed_by refl after.put.known
      go (inr k) = cut k.known (in_witnesses (before_time k) k.witnesses)

  never : {P : Type 0} (n : ℕ) → (0 == n) ≡ false → (1 == n) ≡ false → (5 == n) ≡ false → (6 == n) ≡ false → r.status ≡ n → P
  never {P} n e f g h s = go the_case
    where
      go : Case → P
      go (passed p zero d) = clash r.status 0 n zero s e
      go (not_passed p one d) = clash r.status 1 n one s f
      go (cut k d) = cut_clash r.status n k s g h

  known : Case → r.status ≤ LIMIT
  known (passed p zero d) = at_most r.status 0 zero (omega arith)
  known (not_passed p one d) = at_most r.status 1 one (omega arith)
  known (cut k d) = cut_most r.status k

  is_passed : r.status ≡ PASSED → Case → (passed_by ≡ true) × IsWhole
  is_passed zero (passed p s d) = (p, d)
  is_passed zero (not_passed p one d) = clash r.status 0 1 zero one refl
  is_passed zero (cut k d) = cut_clash r.status 0 k zero refl refl

  is_not_passed : r.status ≡ NOT_PASSED → Case → (passed_by ≡ false) × IsWhole
  is_not_passed one (passed p zero d) = clash r.status 0 1 zero one refl
  is_not_passed one (not_passed p s d) = (p, d)
  is_not_passed one (cut k d) = cut_clash r.status 1 k one refl refl

  is_cut : (n : ℕ) → (0 == n) ≡ false → (1 == n) ≡ false → r.status ≡ n → Case → Cut
  is_cut n e f s (passed p zero d) = clash r.status 0 n zero s e
  is_cut n e f s (not_passed p one d) = clash r.status 1 n one s f
  is_cut n e f s (cut k d) = d

  words_ask : asked r.words ≡ Ok is.command
  words_ask = asked_without r.gates (asked r.words) is.command is.asked_for

  module _ (check : CheckOf) (e : asked r.words ≡ Ok (CheckCommand check)) where
    up : Upheld r.trees.before.content check report
    up = upheld r.trees.before report check is.command (same_ok (asked r.words) is.command (CheckCommand check) words_ask e) is.is

    borne_out : (files : List FileOf) → IsChecked files check up.of (puts_in report.body) → IsBorneOut files check up.of
    borne_out files c = record {
      records = c.records;
      parts = c.parts;
      shown = each_has_clients (old_side c.records) (new_side c.records) up.of.verdict c.parts.verdict.exact (causes_of up.of.verdict) c.shown;
    }

    checked : IsWhole → (report : CheckReport) × Puts r (check_bytes check.json report) × (report.verdict.findings ≡ [] → OfFiles r (λ files. IsCompatible files check report.verdict))
        × (report.verdict.findings ≢ [] → OfFiles r (λ files. IsIncompatible files check report.verdict)) × OfFiles r (λ files. IsBorneOut files check report)
    checked p = (
      up.of,
      p.puts (check_bytes check.json up.of) up.text,
      λ none files told. let c = up.checked files told in record { records = c.records; verdict = c.parts.verdict; none = none; keeps = c.kept none },
      λ some files told. let c = up.checked files told in record { records = c.records; verdict = c.parts.verdict; some = some; broken = c.broken some; breaks = c.breaks },
      λ files told. borne_out files (up.checked files told),
    )

    answered : IsWhole → (report : CheckReport) × Puts r (check_bytes check.json report)
        × OfFiles r (λ files. IsBorneOut files check report × (report.verdict.findings ≡ [] → report.warnings ≡ Some [] → IsAnswered files check report))
    answered p = (
      up.of,
      p.puts (check_bytes check.json up.of) up.text,
      λ files told.
          let c = up.checked files told in
          let still : up.of.warnings ≡ Some [] → AnswersStill (old_side c.records) (new_side c.records) [] = λ nothing. subst (λ (o : Option (List Warning)). IfSome o (AnswersStill (old_side c.records) (new_side c.records))) nothing c.answered in
          (borne_out files c, λ none nothing. record { records = c.records; parts = c.parts; none = none; nothing = nothing; answered = still nothing up.of.verdict c.parts.verdict.exact none refl }),
    )

    noted : IsTrue check.signatures → IsWhole
        → (report : CheckReport) × Puts r (check_bytes check.json report) × OfFiles r (λ files. (notes : List SigNote) × IsNoted files check report notes)
    noted wanted p = (
      up.of,
      p.puts (check_bytes check.json up.of) up.text,
      λ files told.
          let c = up.checked files told in
          let ns = noted_list check.signatures (old_side c.records) (new_side c.records) up.of.signatures wanted c.parts.signatures in
          (ns.0, record { records = c.records; parts = c.parts; signatures = ns.1; exact = ns.2 }),
    )

    interfaces : IsWhole → (report : CheckReport) × Puts r (check_bytes check.json report)
        × OfFiles r (λ files. IsBorneOut files check report × (report.verdict.findings ≡ [] → report.dropped ≡ Some [] → KeepsInterfaces files check report))
    interfaces p = (
      up.of,
      p.puts (check_bytes check.json up.of) up.text,
      λ files told.
          let c = up.checked files told in
          let still : up.of.dropped ≡ Some [] → InterfacesStill (old_side c.records) (new_side c.records) [] = λ nothing. subst (λ (o : Option (List Dropped)). IfSome o (InterfacesStill (old_side c.records) (new_side c.records))) nothing c.interfaces in
          (borne_out files c, λ none nothing. record { records = c.records; parts = c.parts; none = none; nothing = nothing; kept = still nothing up.of.verdict c.parts.verdict.exact none refl }),
    )

    called : IsWhole → (report : CheckReport) × Puts r (check_bytes check.json report)
        × OfFiles r (λ files. IsBorneOut files check report × (report.verdict.findings ≡ [] → IsSomeAnd report.calls TellNoReference → KeepsReferences files check report))
    called p = (
      up.of,
      p.puts (check_bytes check.json up.of) up.text,
      λ files told.
          let c = up.checked files told in (
            borne_out files c,
            λ none nothing. record {
              records = c.records;
              parts = c.parts;
              none = none;
              nothing = nothing;
              kept = where_there up.of.calls (ReferencesStill (old_side c.records) (new_side c.records)) TellNoReference
                  (λ ls still lost. still up.of.verdict c.parts.verdict.exact none lost) c.references nothing;
            },
          ),
    )

    unbroken : check.gates ≡ codes "links" ∷ [] → HasLinksGate r.gates → (r.status ≡ PASSED) ⊎ (r.status ≡ NOT_PASSED) → IsWhole
        → (report : CheckReport) × Puts r (check_bytes check.json report) × OfFiles r (λ files. IsBorneOut files check report × ((r.status ≡ PASSED) ↔ (report.verdict.findings ≡ [])))
    unbroken asks gate answered p =
        (up.of, p.puts (check_bytes check.json up.of) up.text, λ files told. let c = up.checked files told in (borne_out files c, both (old_side c.records) (new_side c.records) c.parts.verdict.exact))
      where
        decided : (O N : World) → IsVerdict O N up.of.verdict → passed_by ≡ not (is_incompatible up.of.verdict)
        decided O N exact =
            up.answer r.gates
            ∙ ap (λ names. all_pass r.gates names (told_of check up.of) (rules_of up.of.verdict)) asks
            ∙ gate_alone (codes "links") has_no_finding r.gates gate.0 gate.1 gate.2 (told_of check up.of) (rules_of up.of.verdict) ∙ rules_tell O N up.of.verdict exact

        passes_so : passed_by ≡ not (is_incompatible up.of.verdict) → up.of.verdict.findings ≡ [] → (r.status ≡ PASSED) ⊎ (r.status ≡ NOT_PASSED) → r.status ≡ PASSED
        passes_so d none (inl zero) = zero
        passes_so d none (inr one) = absurd (both_ways passed_by (is_not_passed one the_case).0 (d ∙ found_none up.of.verdict none))

        both : (O N : World) → IsVerdict O N up.of.verdict → (r.status ≡ PASSED) ↔ (up.of.verdict.findings ≡ [])
        both O N exact = (λ zero. none_found up.of.verdict (sym (decided O N exact) ∙ (is_passed zero the_case).0), λ none. passes_so (decided O N exact) none answered)

    versioned : check.gates ≡ codes "version" ∷ [] → (step : ℕ) → step_of_check check ≡ Some step → HasVersionGate r.gates → (r.status ≡ PASSED) ⊎ (r.status ≡ NOT_PASSED) → IsWhole
        → (report : CheckReport) × Puts r (check_bytes check.json report) × ((r.status ≡ PASSED) ↔ (need_of (rules_of report.verdict) ≤ step))
    versioned asks step said gate answered p =
        (up.of, p.puts (check_bytes check.json up.of) up.text, both)
      where
        decided : passed_by ≡ nat_le (need_of (rules_of up.of.verdict)) step
        decided =
            up.answer r.gates
            ∙ ap (λ names. all_pass r.gates names (told_of check up.of) (rules_of up.of.verdict)) asks
            ∙ version_alone r.gates gate.0 gate.1 gate.2 (told_of check up.of) step (rules_of up.of.verdict) said (said_least check step said) (said_most check step said)

        enough : r.status ≡ PASSED → need_of (rules_of up.of.verdict) ≤ step
        enough zero = leb-true (need_of (rules_of up.of.verdict)) step (sym decided ∙ (is_passed zero the_case).0)

        passes_so : need_of (rules_of up.of.verdict) ≤ step → (r.status ≡ PASSED) ⊎ (r.status ≡ NOT_PASSED) → r.status ≡ PASSED
        passes_so le (inl zero) = zero
        passes_so le (inr one) = absurd (both_ways passed_by (is_not_passed one the_case).0 (decided ∙ le-leb (need_of (rules_of up.of.verdict)) step le))

        both : (r.status ≡ PASSED) ↔ (need_of (rules_of up.of.verdict) ≤ step)
        both = (enough, λ le. passes_so le answered)

    cleared : check.gates ≡ codes "calls" ∷ [] → HasCallsGate r.gates → (r.status ≡ PASSED) ⊎ (r.status ≡ NOT_PASSED) → IsWhole
        → (report : CheckReport) × Puts r (check_bytes check.json report) × ((r.status ≡ PASSED) ↔ IsTrue (is_clear report))
    cleared asks gate answered p = (up.of, p.puts (check_bytes check.json up.of) up.text, (λ zero. sym decided ∙ (is_passed zero the_case).0, λ clear. passes_so clear answered))
      where
        decided : passed_by ≡ is_clear up.of
        decided =
            up.answer r.gates
            ∙ ap (λ names. all_pass r.gates names (told_of check up.of) (rules_of up.of.verdict)) asks
            ∙ calls_alone r.gates gate.0 gate.1 gate.2 (told_of check up.of) (rules_of up.of.verdict)

        passes_so : is_clear up.of ≡ true → (r.status ≡ PASSED) ⊎ (r.status ≡ NOT_PASSED) → r.status ≡ PASSED
        passes_so clear (inl zero) = zero
        passes_so clear (inr one) = absurd (both_ways passed_by (is_not_passed one the_case).0 (decided ∙ clear))

    witnessed : (dir : Bytes) → check.witness ≡ Some dir → IsWhole
        → (report : CheckReport) × OfFiles r (λ files. HoldsClients files check report.verdict dir r.folder) × Puts r (check_bytes check.json report)
    witnessed dir below p = (
      up.of,
      λ files told.
          let c = up.checked files told in record {
            records = c.records;
            verdict = c.parts.verdict;
            puts = witness_puts dir (old_side c.records) (new_side c.records) up.of.verdict;
            put = subst (PutsFiles r.folder) (c.puts_are ∙ ap (λ d. puts_below d (old_side c.records) (new_side c.records) up.of.verdict) below) p.witnesses;
            shown = files_show_each (old_side c.records) (new_side c.records) up.of.verdict c.parts.verdict.exact dir 1 (causes_of up.of.verdict) c.shown;
          },
      p.puts (check_bytes check.json up.of) up.text,
    )

  module _ (history : HistoryOf) (e : asked r.words ≡ Ok (HistoryCommand history)) where
    abbrev row : UpheldRow r.trees.before.content history report
    row = upheld_row r.trees.before report history is.command (same_ok (asked r.words) is.command (HistoryCommand history) words_ask e) is.is

    judged : IsWhole → (vs : List Verdict) × Puts r (history_text_of vs) × OfFiles r (λ files. IsKeptRow files history vs) × OfFiles r (λ files. IsBorneOutRow files history vs)
    judged p = (row.of, p.puts (history_text_of row.of) row.text, (λ files told. (row.judged files told).0), (λ files told. (row.judged files told).1))

  module _ (clients : ClientsOf) (e : asked r.words ≡ Ok (ClientsCommand clients)) where
    abbrev up_clients : UpheldClients r.trees.before.content clients report
    up_clients = upheld_clients r.trees.before report clients is.command (same_ok (asked r.words) is.command (ClientsCommand clients) words_ask e) is.is

    all_kept : r.status ≡ PASSED → IsTrue (are_all_kept up_clients.of.answers)
    all_kept zero = sym (up_clients.answer r.gates) ∙ (is_passed zero the_case).0

    passes_kept : IsTrue (are_all_kept up_clients.of.answers) → (r.status ≡ PASSED) ⊎ (r.status ≡ NOT_PASSED) → r.status ≡ PASSED
    passes_kept kept (inl zero) = zero
    passes_kept kept (inr one) = absurd (both_ways passed_by (is_not_passed one the_case).0 (up_clients.answer r.gates ∙ kept))

    lost : (r.status ≡ PASSED) ⊎ (r.status ≡ NOT_PASSED) → IsWhole
        → (told : ClientsReport) × Puts r (clients_report_bytes clients.json told) × OfFiles r (λ files. IsTold files clients told) × ((r.status ≡ PASSED) ↔ IsTrue (are_all_kept told.answers))
    lost answered p = (up_clients.of, p.puts (clients_report_bytes clients.json up_clients.of) up_clients.bytes, up_clients.told, (all_kept, λ kept. passes_kept kept answered))

  module _ (e : asked r.words ≡ Ok HelpCommand) where
    up_page : UpheldPage report
    up_page = upheld_page r.trees.before report is.command (same_ok (asked r.words) is.command HelpCommand words_ask e) is.is

    helped : (r.status ≡ PASSED) ⊎ (r.status ≡ NOT_PASSED) → IsWhole → (r.status ≡ PASSED) × Puts r help_page
    helped (inl zero) p = (zero, p.puts help_page up_page.text)
    helped (inr one) p = absurd (both_ways passed_by (is_not_passed one the_case).0 (up_page.answer r.gates))

  has_whole : (r.status ≡ PASSED) ⊎ (r.status ≡ NOT_PASSED) → IsWhole
  has_whole (inl zero) = (is_passed zero the_case).1
  has_whole (inr one) = (is_not_passed one the_case).1

  is_put : (r.status ≡ PASSED) ⊎ (r.status ≡ NOT_PASSED) → IsPut r due
  is_put (inl zero) = let p = is_passed zero the_case in record { answer = zero ∙ sym (ap status_by (sym (is.is.tells.answer r.gates) ∙ p.0)); put = p.1.puts (due_bytes due) is.is.tells.text }
  is_put (inr one) = let p = is_not_passed one the_case in record { answer = one ∙ sym (ap status_by (sym (is.is.tells.answer r.gates) ∙ p.0)); put = p.1.puts (due_bytes due) is.is.tells.text }

  the_cut : (r.status ≡ WRITE_FAULT) ⊎ (r.status ≡ NO_MEMORY) → Cut
  the_cut (inl five) = is_cut 5 refl refl five the_case
  the_cut (inr six) = is_cut 6 refl refl six the_case

  leaves : Leaves r
  leaves = record { answered = λ answered. (planned, is_put answered, (has_whole answered).witnesses); cut = λ h. inl (planned, with_files (the_cut h)) }

  accepted : Case → (r.status ≡ PASSED) ⊎ (r.status ≡ NOT_PASSED) ⊎ HasFailed r.status
  accepted (passed p zero d) = inl zero
  accepted (not_passed p one d) = inr (inl one)
  accepted (cut (inl five) d) = inr (inr (inr (inl five)))
  accepted (cut (inr six) d) = inr (inr (inr (inr six)))

  pub report_answers : Answers r
  report_answers = record {
    known = known the_case;
    passed = λ zero. let p = is_passed zero the_case in (due, sym (is.is.tells.answer r.gates) ∙ p.0, p.1.puts (due_bytes due) is.is.tells.text);
    not_passed = λ one. let p = is_not_passed one the_case in (due, sym (is.is.tells.answer r.gates) ∙ p.0, p.1.puts (due_bytes due) is.is.tells.text);
    checked = λ answered check e. checked check e (has_whole answered);
    witnessed = λ answered check e dir below. witnessed check e dir below (has_whole answered);
    answered = λ put check e. answered check e (has_whole put);
    noted = λ put check e wanted. noted check e wanted (has_whole put);
    interfaces = λ put check e. interfaces check e (has_whole put);
    called = λ put check e. called check e (has_whole put);
    unbroken = λ answered check e asks gate. unbroken check e asks gate answered (has_whole answered);
    versioned = λ answered check e asks step said gate. versioned check e asks step said gate answered (has_whole answered);
    cleared = λ answered check e asks gate. cleared check e asks gate answered (has_whole answered);
    judged = λ answered history e. judged history e (has_whole answered);
    lost = λ answered clients e. lost clients e answered (has_whole answered);
    helped = λ answered e. helped e answered (has_whole answered);
    unwitnessed = λ none. untouched (is.is.dir_is ∙ if_ok (asked r.words) is.command (λ command. witness_dir command ≡ None) words_ask none);
    usage = never 2 refl refl refl refl;
    bad_input = never 3 refl refl refl refl;
    read_fault = never 4 refl refl refl refl;
    limit = never 7 refl refl refl refl;
    write_fault = λ five. inl (due, without_files (is_cut 5 refl refl five the_case));
    no_memory = λ six. inl (due, without_files (is_cut 6 refl refl six the_case));
    left = leaves;
    refused = λ files told stop h.
        let of = told_to is.command r.trees.before.content files told reported is.is.is_report in
        absurd (not_refused r.gates r.words files stop (reported_accepted r.gates r.words files is.command is.asked_for of.0 is.is.of of.1) h);
    accepted = λ files told a. accepted the_case;
    content = same;
  }

-- ---- why there is none was put

record IsStatus (n : ℕ) : Type 0 where
  most : n ≤ 7
  no_pass : n ≢ PASSED
  no_rejection : n ≢ NOT_PASSED

is_status : (n : ℕ) → n ≤ 7 → (n == 0) ≡ false → (n == 1) ≡ false → IsStatus n
is_status n most e f = record {
  most = most;
  no_pass = λ h. clash n n 0 refl h e;
  no_rejection = λ h. clash n n 1 refl h f;
}

file_statuses : (fault : FileFault) → IsStatus (file_status fault)
file_statuses faults.TooLong = is_status 7 (omega arith) refl refl
file_statuses (faults.Malformed m) = is_status 3 (omega arith) refl refl
file_statuses (faults.Misplaced x) = is_status 3 (omega arith) refl refl
file_statuses (faults.BadCode offset reason) = is_status 3 (omega arith) refl refl

statuses : (stop : Stop) → IsStatus (status_of stop)
statuses (stops.Usage usage) = is_status 2 (omega arith) refl refl
statuses (stops.Unread name tree_faults.TooManyFiles) = is_status 7 (omega arith) refl refl
statuses (stops.Unread name tree_faults.LongPath) = is_status 7 (omega arith) refl refl
statuses (stops.Unread name (tree_faults.File path fault)) = file_statuses fault
statuses (stops.BadRoot part) = is_status 3 (omega arith) refl refl
statuses (stops.Overlap name x) = is_status 3 (omega arith) refl refl
statuses (stops.ClientName x part) = is_status 3 (omega arith) refl refl
statuses (stops.TooMany part) = is_status 7 (omega arith) refl refl
statuses (stops.ReadFault name) = is_status 4 (omega arith) refl refl
statuses stops.Memory = is_status 6 (omega arith) refl refl

module _ (r : Ran) (stop : Stop) (cause : HasCause r.gates r.words r.trees stop) (put : IsPutWith (line_of stop) (status_of stop) r.err r.status) (has_line : r.status ≡ WRITE_FAULT → stop ≢ stops.Memory)
    (quiet : IsQuiet r.out) (untouched : IsUntouched r.folder) (same : r.trees.after.content ≡ r.trees.before.content) where
  abbrev Known : Type 0
  Known = (r.status ≡ status_of stop) ⊎ (r.status ≡ WRITE_FAULT) ⊎ (r.status ≡ NO_MEMORY)

  said : Known → r.status ≤ LIMIT
  said (inl s) = at_most r.status (status_of stop) s (statuses stop).most
  said (inr k) = cut_most r.status k

  no_pass : {P : Type 0} → Known → r.status ≡ PASSED → P
  no_pass (inl s) zero = absurd ((statuses stop).no_pass (sym s ∙ zero))
  no_pass (inr k) zero = cut_clash r.status 0 k zero refl refl

  no_rejection : {P : Type 0} → Known → r.status ≡ NOT_PASSED → P
  no_rejection (inl s) one = absurd ((statuses stop).no_rejection (sym s ∙ one))
  no_rejection (inr k) one = cut_clash r.status 1 k one refl refl

  no_answer : {P : Type 0} → (r.status ≡ PASSED) ⊎ (r.status ≡ NOT_PASSED) → P
  no_answer (inl zero) = no_pass put.known zero
  no_answer (inr one) = no_rejection put.known one

  refuses : (n : ℕ) → (5 == n) ≡ false → (6 == n) ≡ false → Known → r.status ≡ n → IsStopped r
  refuses n e f (inl s) is = record { stop = stop; status = sym s; cause = cause; output = quiet; errors = put.whole s (λ six. clash r.status 6 n six is f); folder = untouched }
  refuses n e f (inr k) is = cut_clash r.status n k is e f

  cuts : (r.status ≡ WRITE_FAULT) ⊎ (r.status ≡ NO_MEMORY) → CutsRefusal r stop
  cuts h = record { due = cause; output = quiet; folder = untouched; errors = put.cut h; cause = put.cause; has_line = has_line }

  pub stop_answers : Answers r
  stop_answers = record {
    known = said put.known;
    passed = no_pass put.known;
    not_passed = no_rejection put.known;
    checked = no_answer;
    witnessed = no_answer;
    answered = no_answer;
    noted = no_answer;
    interfaces = no_answer;
    called = no_answer;
    unbroken = no_answer;
    versioned = no_answer;
    cleared = no_answer;
    judged = no_answer;
    lost = no_answer;
    helped = no_answer;
    unwitnessed = λ none. untouched;
    usage = refuses 2 refl refl put.known;
    bad_input = refuses 3 refl refl put.known;
    read_fault = refuses 4 refl refl put.known;
    limit = refuses 7 refl refl put.known;
    write_fault = λ five. inr (stop, cuts (inl five));
    no_memory = λ six. inr (stop, cuts (inr six));
    left = record { answered = no_answer; cut = λ h. inr (stop, cuts h) };
    refused = λ files told. refused_status r.gates r.words r.trees files told stop cause r.status put.known;
    accepted = λ files told. accepted_status r.gates r.words r.trees files told stop cause r.status put.known;
    content = same;
  }
