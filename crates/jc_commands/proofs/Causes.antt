-- Why a command has no report, and what it comes to.
use Rattle.std.proofs.Common.{◌≡◌, ◌≤◌, ℕ, Bool, true, false, inl, inr, List, [], ◌∷◌, map, option_map, Option, Some, None, refl, sym, ap, subst, ◌∙◌}
use Rattle.jc_base.specs.Outside.{FileOf}
use Rattle.jc_base.specs.States.{TreesState, Change}
use Rattle.jc_facts.specs.declared.class_facts.ClassFacts.{ClassFacts}
use Rattle.jc_facts.specs.declared.client.ClientClass.{ClientClass}
use Rattle.jc_facts.specs.declared.outcome.Outcome.{Outcome}
use Rattle.jc_facts.specs.declared.verdict.Verdict.{Verdict}
use Rattle.jc_facts.specs.declared.dropped.Dropped.{Dropped}
use Rattle.jc_facts.specs.declared.warning.Warning.{Warning}
use Rattle.jc_facts.specs.Names.{Bytes}
use Rattle.jc_facts.specs.Options.{or_else}
use Rattle.jc_promises.specs.rule.Verdict.{IsVerdict}
use Rattle.jc_facts.specs.Verdicts.{count_of}
use Rattle.jc_facts.specs.client.Linked.{in_order}
use Rattle.jc_promises.specs.Pairs.{IsPair}
use Rattle.jc_facts.specs.world.World.{World, Modules, side, side_in, find_class}
use Rattle.jc_sound.proofs.VerdictLaw.{verdict_is_one}
use Rattle.jc_link.specs.Refusals.{name_fault, with_part, first_refused, refused_client, RefusesLink, MayLink}
use Rattle.jc_link.specs.declared.refusal.LinkRefusal.{LinkRefusal}
use Rattle.jc_link.specs.declared.refusal.LinkRefusal.TheVariants as refusals
use Rattle.jc_index.specs.Root.{fault_of_root}
use Rattle.jc_index.specs.Sides.{overlap_of}
use Rattle.jc_commands.specs.declared.comparison.Comparison.{Comparison}
use Rattle.jc_commands.specs.declared.report.Report.{Report}
use Rattle.jc_releases.specs.declared.stop.Stop.{Stop}
use Rattle.jc_releases.specs.declared.stop.Stop.TheVariants as stops
use Rattle.jc_trees.specs.FirstTree.{IsFirstUnread}
use Rattle.jc_trees.specs.declared.trees_error.TreesError.{TreesError}
use Rattle.jc_trees.specs.declared.trees_error.TreesError.TheVariants as trees_errors
use Rattle.jc_commands.specs.Causes.{StopsCommand}
use Rattle.jc_commands.specs.Check.{CheckRecords, is_apart, over_findings, over_warnings, over_dropped, over_calls, AreWarned, mismatch_of, puts_below}
use Rattle.jc_trees.specs.ClassFiles.{Told}
use Rattle.jc_releases.specs.Command.{trees_of, client_trees}
use Rattle.jc_words.specs.Command.{CommandOf, CheckOf, LinkOf, HistoryOf, ClientsOf, CheckCommand, LinkCommand, HistoryCommand, ClientsCommand}
use Rattle.jc_commands.specs.History.{HistoryRecords}
use Rattle.jc_commands.specs.steps.History.{IsJudged, StopsJudging}
use Rattle.jc_commands.specs.Link.{LinkRecords, refusal_of, AreOutcomesOf}
use Rattle.jc_releases.specs.Releases.{modules_in, read_of, side_of}
use Rattle.jc_used.specs.declared.line.Line.{Line}
use Rattle.jc_commands.specs.Clients.{ClientsRecords, AreAskedLines, IsExplained, IsClientsReport}
use Rattle.jc_commands.specs.steps.Clients.{GroundsFor, StopsSiding, explanation_of, report_said}
use Rattle.jc_commands.specs.declared.clients.TwoSides.{TwoSides}
use Rattle.jc_losses.specs.Ground.{side_of_ground}
use Rattle.jc_answers.specs.Numbered.{AreNumbered}
use Rattle.jc_answers.specs.Said.{AreSaid}
use Rattle.jc_answers.specs.steps.Trees.{FailsAmong}
use Rattle.jc_answers.specs.declared.answer.Answer.{Answer}
use Rattle.jc_answers.proofs.OneAnswer.{all_alike, all_borne_out, numbers_alike}
use Rattle.jc_answers.proofs.TreesSaid.{failed_since}
use Rattle.jc_commands.specs.Reports.{ToldTo, RecordsOf, Refuses}
use Rattle.jc_releases.specs.declared.releases.Release.{Release}
use Rattle.jc_trees.specs.Tree.{TreeOf}
use Rattle.jc_commands.specs.steps.Check.{IsComparison, StopsComparing, StopsCounting, StopsMatching, StopsWarning, StopsDropping, StopsCalling, report_made}
use Rattle.jc_releases.specs.steps.Trees.{stop_by_trees}
use Rattle.jc_commands.specs.steps.Link.{StopsLinking, stop_by_refusal}
use Rattle.jc_trees.specs.ReadTrees.{GiveAll, StopsAmong}
use Rattle.jc_trees.specs.declared.tree_read.TreeRead.{TreeRead}
use Rattle.jc_trees.specs.declared.tree_read.TreeRead.TheVariants as reads
use Rattle.jc_commands.specs.ReportValue.{TellsOf, HasToShow, IsBare, puts_in, IsReportOf}
use Rattle.jc_commands.proofs.Bodies.{bare_dir, bare_puts, bare_can}
use Rattle.jc_commands.proofs.Compared.{some_broken, each_shown, show_dir, show_puts, can_show_any}
use Rattle.jc_commands.proofs.Records.{IsOfRecords, unfit_says, refusal_says, unfit_row_says, unfit_clients_says, warned_few}
use Rattle.jc_commands.proofs.SomeVerdict.{some_verdict, some_warnings}
use Rattle.jc_commands.specs.DroppedPart.{AreAskedDropped}
use Rattle.jc_commands.proofs.SomeCalls.{some_calls}
use Rattle.jc_commands.proofs.SomeDropped.{some_dropped, dropped_few}
use Rattle.jc_releases.specs.declared.limits.TheConstants.{MAX_FINDINGS}

-- ---- why comparing stopped

-- either isn't
pub unmatched : (O N : World) (stop : Stop) → StopsMatching O N stop → (check : CheckOf) → StopsComparing check O N stop
unmatched O N stop (inl h) check = inl (is_apart h)
unmatched O N stop (inr h) check = inr h

-- both are
pub releases_fit : (O N : World) → fault_of_root O.platform ≡ None → overlap_of O.platform O.release ≡ None → overlap_of O.platform N.release ≡ None → mismatch_of O N ≡ None
unfolding or_else
releases_fit O N root apart besides = rw (root, apart, besides) refl

-- their verdict has too many findings
pub unfit_counting : (O N : World) (stop : Stop) → IsPair O N → mismatch_of O N ≡ None → StopsCounting O N stop → (check : CheckOf) → StopsComparing check O N stop
unfit_counting O N stop pair fits (inl (is, many)) check =
    let v = some_verdict O N pair in
    inl (over_findings is (record { fits = fits; verdict = v.0; exact = v.1; many = many v.0 v.1 }))
unfit_counting O N stop pair fits (inr h) check = inr h

-- there are too many warnings on them, and not too many findings
pub unfit_warning : (O N : World) (stop : Stop) → IsPair O N → mismatch_of O N ≡ None
    → (v : Verdict) → IsVerdict O N v → count_of v ≤ MAX_FINDINGS → (check : CheckOf) → StopsWarning check.warn O N stop → StopsComparing check O N stop
unfit_warning O N stop pair fits v is few check (inl (asked, named, many)) =
    let ws = some_warnings O N pair in
    inl (over_warnings asked named (record {
      fits = fits;
      few = λ w k. subst (λ (x : Verdict). count_of x ≤ MAX_FINDINGS) (verdict_is_one O N v w is k) few;
      warnings = ws.0;
      exact = ws.1;
      many = many ws.0 ws.1;
    }))
unfit_warning O N stop pair fits v is few check (inr h) = inr h

-- there are too many dropped interfaces, and not too many findings, nor warnings where they are asked for
pub unfit_dropping : (O N : World) (stop : Stop) → mismatch_of O N ≡ None → (v : Verdict) → IsVerdict O N v → count_of v ≤ MAX_FINDINGS
    → (check : CheckOf) (ws : Option (List Warning)) → AreWarned check.warn O N ws → StopsDropping check.dropped O N stop
    → StopsComparing check O N stop
unfit_dropping O N stop fits v is few check ws warned (inl (asked, named, many)) =
    let ds = some_dropped O N in
    inl (over_dropped asked named (record {
      fits = fits;
      few = λ w k. subst (λ (x : Verdict). count_of x ≤ MAX_FINDINGS) (verdict_is_one O N v w is k) few;
      few_warnings = warned_few check.warn O N ws warned;
      dropped = ds.0;
      exact = ds.1;
      many = many ds.0 ds.1;
    }))
unfit_dropping O N stop fits v is few check ws warned (inr h) = inr h

-- there are too many lines on calls, and not too many findings, nor warnings or dropped interfaces where they are asked for
pub unfit_calling : (O N : World) (stop : Stop) → IsPair O N → mismatch_of O N ≡ None → (v : Verdict) → IsVerdict O N v → count_of v ≤ MAX_FINDINGS
    → (check : CheckOf) (ws : Option (List Warning)) (ds : Option (List Dropped)) → AreWarned check.warn O N ws → AreAskedDropped check.dropped O N ds → StopsCalling check.calls O N stop
    → StopsComparing check O N stop
unfit_calling O N stop pair fits v is few check ws ds warned dropped (inl (asked, named, many)) =
    let ls = some_calls O N pair in
    inl (over_calls asked named (record {
      fits = fits;
      few = λ w k. subst (λ (x : Verdict). count_of x ≤ MAX_FINDINGS) (verdict_is_one O N v w is k) few;
      few_warnings = warned_few check.warn O N ws warned;
      few_dropped = dropped_few check.dropped O N ds dropped;
      lines = ls.0;
      exact = ls.1;
      many = many ls.0 ls.1;
    }))
unfit_calling O N stop pair fits v is few check ws ds warned dropped (inr h) = inr h

-- ---- why linking stopped

-- the names that a side allows don't depend on its modules
same_refused : (m : Modules) (platform release : List ClassFacts) (cs : List ClientClass) → first_refused (side_in m platform release) cs ≡ first_refused (side platform release) cs
unfolding name_fault find_class
same_refused m platform release [] = refl
same_refused m platform release (c ∷ cs) =
    ap (or_else (with_part c.facts.name (name_fault (side platform release) c.facts.name))) (same_refused m platform release cs)

pub refusal_stops : (m : Modules) (platform release : List ClassFacts) (clients : List ClientClass) (refusal : LinkRefusal) → RefusesLink platform release clients refusal
    → StopsLinking (side_in m platform release) clients (stop_by_refusal refusal)
unfolding or_else
refusal_stops m platform release clients (refusals.BadRoot part) h = inl (rw h refl)
refusal_stops m platform release clients (refusals.Overlap name) h = inl (rw (h.0, h.1) refl)
refusal_stops m platform release clients (refusals.ClientName name part) h =
    let refused : refused_client (side_in m platform release) clients ≡ Some (name, part) = same_refused m platform release (in_order clients) ∙ h.2 in
    inl (rw (h.0, h.1, refused) refl)
refusal_stops m platform release clients refusals.Memory h = inr refl

pub none_refused : (m : Modules) (platform release : List ClassFacts) (clients : List ClientClass) → MayLink platform release clients → refusal_of (side_in m platform release) clients ≡ None
unfolding or_else
none_refused m platform release clients h =
    let allowed : refused_client (side_in m platform release) clients ≡ None = same_refused m platform release (in_order clients) ∙ h.allowed in
    rw (h.root, h.apart, allowed) refl

-- ---- the causes

module _ (command : CommandOf) (c : Change TreesState) where
  -- reading the trees stopped
  pub cause_reading : ((P : List FileOf → Type 0) → Told c.before.content P → ToldTo command c.before.content P) → (wanted : List TreeOf) → wanted ≡ trees_of command
      → (stop : Stop) (error : TreesError) → stop ≡ stop_by_trees error → StopsAmong c wanted error → StopsCommand command c stop
  cause_reading told wanted wanted_is stop error is h =
      subst (λ (s : Stop). StopsCommand command c s) (sym is) (by_error error (subst (λ (ts : List TreeOf). StopsAmong c ts error) wanted_is h))
    where
      by_error : (error : TreesError) → StopsAmong c (trees_of command) error → StopsCommand command c (stop_by_trees error)
      by_error (trees_errors.Unread name fault) h = told (λ files. IsFirstUnread files (trees_of command) name fault) h
      by_error (trees_errors.Fault name) h = inl h
      by_error trees_errors.Memory h = tt

  -- the records of the trees are refused
  cause_refused : (stop : Stop) → IsOfRecords stop → ToldTo command c.before.content (λ files. (r : RecordsOf files command) × Refuses files command r stop) → StopsCommand command c stop
  cause_refused (stops.BadRoot p) says h = h
  cause_refused (stops.Overlap t x) says h = h
  cause_refused (stops.ClientName x p) says h = h
  cause_refused (stops.TooMany part) says h = h
  cause_refused (stops.Usage usage) says h = absurd says
  cause_refused (stops.Unread t f) says h = absurd says
  cause_refused (stops.ReadFault t) says h = absurd says
  cause_refused stops.Memory says h = absurd says

  cause_memory : (stop : Stop) → stop ≡ stops.Memory → StopsCommand command c stop
  cause_memory stop h = subst (λ (s : Stop). StopsCommand command c s) (sym h) tt

-- what the trees were read as, one by one
told_reads : (content : Option (List FileOf)) (wanted trees : List TreeOf) (all taken : List TreeRead) → wanted ≡ trees → all ≡ taken → Told content (λ files. GiveAll files wanted all)
    → Told content (λ files. GiveAll files trees taken)
told_reads content wanted trees all taken w a read = subst (λ (xs : List TreeRead). Told content (λ files. GiveAll files trees xs)) a (subst (λ (ts : List TreeOf). Told content (λ files. GiveAll files ts all)) w read)

-- ---- a check

module _ (check : CheckOf) (c : Change TreesState) (wanted : List TreeOf) (wanted_is : wanted ≡ trees_of (CheckCommand check))
    (all : List TreeRead) (platform : List ClassFacts) (old new : Release) (all_is : all ≡ reads.Library platform ∷ read_of old ∷ read_of new ∷ [])
    (read : Told c.before.content (λ files. GiveAll files wanted all)) where
  abbrev checked : (files : List FileOf) → c.before.content ≡ Some files → CheckRecords files check
  checked files told = record {
    platform = platform;
    old = old.records;
    old_modules = modules_in old.modules;
    new = new.records;
    new_modules = modules_in new.modules;
    are = told_reads c.before.content wanted (trees_of (CheckCommand check)) all (reads.Library platform ∷ read_of old ∷ read_of new ∷ []) wanted_is all_is read files told;
  }

  abbrev O : World
  O = side_of platform old

  abbrev N : World
  N = side_of platform new

  pub cause_comparing : (stop : Stop) → StopsComparing check (side_of platform old) (side_of platform new) stop → StopsCommand (CheckCommand check) c stop
  cause_comparing stop (inl h) = cause_refused (CheckCommand check) c stop (unfit_says check O N stop h) (λ files told. (checked files told, h))
  cause_comparing stop (inr h) = cause_memory (CheckCommand check) c stop h

  pub verdict_reported : (made : Comparison) (report : Report) → IsComparison check (side_of platform old) (side_of platform new) made → HasToShow check.witness made.old made.new made.verdict report.body
      → TellsOf (CheckCommand check) (report_made made) report → IsReportOf (CheckCommand check) c.before report
  verdict_reported made report is shown tells = record {
    of = report_made made;
    tells = tells;
    dir_is = show_dir check.witness made.old made.new made.verdict report.body shown;
    can_show = can_show_any check O N made is check.witness report.body shown;
    is_report = λ files told. (checked files told, record { verdict = is.verdict; warnings = is.warned; signatures = is.noted; dropped = is.dropped; calls = is.calls }, puts_are);
    upholds = λ files told. record {
      records = checked files told;
      parts = record { verdict = is.verdict; warnings = is.warned; signatures = is.noted; dropped = is.dropped; calls = is.calls };
      kept = is.kept;
      broken = some_broken O N made.verdict is.can is.verdict.exact;
      breaks = is.breaks;
      answered = is.answered;
      interfaces = is.interfaces;
      references = is.references;
      shown = each_shown O N made.verdict is.can is.verdict.exact;
      puts_are = puts_are;
    };
  }
    where
      puts_are : puts_in report.body ≡ puts_below check.witness O N made.verdict
      puts_are =
          show_puts check.witness made.old made.new made.verdict report.body shown
          ∙ ap (λ (W : World). puts_below check.witness W made.new made.verdict) is.old_is
          ∙ ap (λ (W : World). puts_below check.witness O W made.verdict) is.new_is

-- ---- the linking of clients

module _ (link : LinkOf) (c : Change TreesState) (wanted : List TreeOf) (wanted_is : wanted ≡ trees_of (LinkCommand link))
    (all : List TreeRead) (platform : List ClassFacts) (release : Release) (clients : List ClientClass) (all_is : all ≡ reads.Library platform ∷ read_of release ∷ reads.Clients clients ∷ [])
    (read : Told c.before.content (λ files. GiveAll files wanted all)) where
  abbrev given : (files : List FileOf) → c.before.content ≡ Some files → LinkRecords files link
  given files told = record {
    platform = platform;
    release = release.records;
    modules = modules_in release.modules;
    clients = clients;
    are = told_reads c.before.content wanted (trees_of (LinkCommand link)) all (reads.Library platform ∷ read_of release ∷ reads.Clients clients ∷ []) wanted_is all_is read files told;
  }

  pub cause_linking : (stop : Stop) → StopsLinking (side_of platform release) clients stop → StopsCommand (LinkCommand link) c stop
  cause_linking stop (inl h) = cause_refused (LinkCommand link) c stop (refusal_says (side_of platform release) clients stop h) (λ files told. (given files told, h))
  cause_linking stop (inr h) = cause_memory (LinkCommand link) c stop h

  pub outcomes_reported : (list : List Outcome) (report : Report) → AreOutcomesOf (side_of platform release) clients list → IsBare report.body → TellsOf (LinkCommand link) list report
      → IsReportOf (LinkCommand link) c.before report
  outcomes_reported list report exact none tells = record {
    of = list;
    tells = tells;
    dir_is = bare_dir report.body none;
    can_show = bare_can report.body none;
    is_report = λ files told. (given files told, exact, bare_puts report.body none);
    upholds = tt;
  }

-- ---- a row of releases

module _ (history : HistoryOf) (c : Change TreesState) (wanted : List TreeOf) (wanted_is : wanted ≡ trees_of (HistoryCommand history))
    (all : List TreeRead) (platform : List ClassFacts) (releases : List (List ClassFacts)) (all_is : all ≡ reads.Library platform ∷ map reads.Library releases)
    (read : Told c.before.content (λ files. GiveAll files wanted all)) where
  abbrev rowed : (files : List FileOf) → c.before.content ≡ Some files → HistoryRecords files history
  rowed files told = record {
    platform = platform;
    releases = releases;
    are = told_reads c.before.content wanted (trees_of (HistoryCommand history)) all (reads.Library platform ∷ map reads.Library releases) wanted_is all_is read files told;
  }

  pub cause_judging : (stop : Stop) → StopsJudging platform releases stop → StopsCommand (HistoryCommand history) c stop
  cause_judging stop (inl h) = cause_refused (HistoryCommand history) c stop (unfit_row_says platform releases stop h) (λ files told. (rowed files told, h))
  cause_judging stop (inr h) = cause_memory (HistoryCommand history) c stop h

  pub row_reported : (vs : List Verdict) (report : Report) → IsJudged platform releases vs → IsBare report.body → TellsOf (HistoryCommand history) vs report
      → IsReportOf (HistoryCommand history) c.before report
  row_reported vs report is none tells = record {
    of = vs;
    tells = tells;
    dir_is = bare_dir report.body none;
    can_show = bare_can report.body none;
    is_report = λ files told. (rowed files told, is.verdicts, bare_puts report.body none);
    upholds = λ files told.
        (record { records = rowed files told; verdicts = is.verdicts; keeps = is.keeps }, record { records = rowed files told; verdicts = is.verdicts; steps = is.steps });
  }

-- ---- clients of two releases

-- the releases don't go with the platform
pub matching_clients : (used : Bool) (O N : World) (stop : Stop) → StopsMatching O N stop → StopsSiding used O N stop
matching_clients used O N stop (inl h) = inl (inl h)
matching_clients used O N stop (inr h) = inr h

-- lines are asked for, and their verdict has too many findings
pub counting_clients : (O N : World) (stop : Stop) → IsPair O N → mismatch_of O N ≡ None → StopsCounting O N stop → StopsSiding true O N stop
counting_clients O N stop pair fits (inl (is, many)) =
    let v = some_verdict O N pair in
    inl (inr (refl, is, record { fits = fits; verdict = v.0; exact = v.1; many = many v.0 v.1 }))
counting_clients O N stop pair fits (inr h) = inr h

-- what the lines explain is what is reported of them
explained_by_lines : (used : Bool) (files : List FileOf) (c : ClientsOf) (O N : World) (lines : Option (List Line)) (numbers : List (List (Option ℕ))) → AreAskedLines used O N lines
    → AreNumbered files O N lines (client_trees 1 c.clients) numbers → IsExplained used files c O N (explanation_of lines numbers)
explained_by_lines false files c O N None numbers h n = tt
explained_by_lines false files c O N (Some lines) numbers h n = absurd h
explained_by_lines true files c O N None numbers h n = absurd h
explained_by_lines true files c O N (Some lines) numbers h n = record { check = h; numbered = n }

module _ (clients : ClientsOf) (c : Change TreesState) (wanted : List TreeOf) (wanted_is : wanted ≡ trees_of (ClientsCommand clients))
    (all : List TreeRead) (platform : List ClassFacts) (old new : Release) (all_is : all ≡ reads.Library platform ∷ read_of old ∷ read_of new ∷ [])
    (read : Told c.before.content (λ files. GiveAll files wanted all)) where
  abbrev two_releases : (files : List FileOf) → c.before.content ≡ Some files → ClientsRecords files clients
  two_releases files told = record {
    platform = platform;
    old = old.records;
    old_modules = modules_in old.modules;
    new = new.records;
    new_modules = modules_in new.modules;
    are = told_reads c.before.content wanted (trees_of (ClientsCommand clients)) all (reads.Library platform ∷ read_of old ∷ read_of new ∷ []) wanted_is all_is read files told;
  }

  pub cause_siding : (stop : Stop) → StopsSiding clients.used (side_of platform old) (side_of platform new) stop → StopsCommand (ClientsCommand clients) c stop
  cause_siding stop (inl h) =
      cause_refused (ClientsCommand clients) c stop (unfit_clients_says clients.used (side_of platform old) (side_of platform new) stop h) (λ files told. (two_releases files told, h))
  cause_siding stop (inr h) = cause_memory (ClientsCommand clients) c stop h

  pub answers_reported : (sides : TwoSides) → GroundsFor clients.used (side_of platform old) (side_of platform new) sides
      → (each : List TreeOf) → each ≡ client_trees 1 clients.clients
      → (said : List Answer) → Told c.before.content (λ files. AreSaid files (side_of_ground sides.old) (side_of_ground sides.new) each said)
      → (numbers : List (List (Option ℕ))) → Told c.before.content (λ files. AreNumbered files (side_of_ground sides.old) (side_of_ground sides.new) (option_map (λ ls. ls.items) sides.lines) each numbers)
      → (report : Report) → IsBare report.body → TellsOf (ClientsCommand clients) (report_said said (option_map (λ ls. ls.items) sides.lines) numbers) report
      → IsReportOf (ClientsCommand clients) c.before report
  answers_reported sides over each each_is said are numbers numbered report none tells = record {
    of = report_said said (option_map (λ ls. ls.items) sides.lines) numbers;
    tells = tells;
    dir_is = bare_dir report.body none;
    can_show = bare_can report.body none;
    is_report = λ files told. (two_releases files told, on_files files told, bare_puts report.body none);
    upholds = λ files told. let r = on_files files told in record {
      records = two_releases files told;
      is_report = r;
      borne_out = all_borne_out files (side_of platform old) (side_of platform new) (client_trees 1 clients.clients) said r.answers.exact;
    };
  }
    where
      on_trees : (files : List FileOf) → c.before.content ≡ Some files
          → AreNumbered files (side_of platform old) (side_of platform new) (option_map (λ ls. ls.items) sides.lines) (client_trees 1 clients.clients) numbers
      on_trees files told =
          numbers_alike files _ _ _ _ over.old.alike over.new.alike (option_map (λ ls. ls.items) sides.lines) (client_trees 1 clients.clients) numbers
          (subst (λ (ts : List TreeOf). AreNumbered files (side_of_ground sides.old) (side_of_ground sides.new) (option_map (λ ls. ls.items) sides.lines) ts numbers) each_is (numbered files told))

      on_files : (files : List FileOf) → c.before.content ≡ Some files
          → IsClientsReport files clients (side_of platform old) (side_of platform new) (report_said said (option_map (λ ls. ls.items) sides.lines) numbers)
      on_files files told = record {
        answers = record {
          fits = over.fits;
          exact = all_alike files _ _ _ _ over.old.alike over.new.alike (client_trees 1 clients.clients) said
              (subst (λ (ts : List TreeOf). AreSaid files (side_of_ground sides.old) (side_of_ground sides.new) ts said) each_is (are files told));
        };
        explained = explained_by_lines clients.used files clients (side_of platform old) (side_of platform new) (option_map (λ ls. ls.items) sides.lines) numbers over.lines (on_trees files told);
      }

-- judging the clients stopped
pub cause_failing : (clients : ClientsOf) (a b c : TreesState) → ((r : Bytes) → a.faults r ≤ b.faults r) → (each : List TreeOf) → each ≡ client_trees 1 clients.clients
    → (stop : Stop) (error : TreesError) → stop ≡ stop_by_trees error → FailsAmong (record { before = b; after = c }) each error → StopsCommand (ClientsCommand clients) (record { before = a; after = c }) stop
cause_failing clients a b c le each each_is stop error is h =
    subst (λ (s : Stop). StopsCommand (ClientsCommand clients) (record { before = a; after = c }) s) (sym is) (by_error error (subst (λ (ts : List TreeOf). FailsAmong (record { before = b; after = c }) ts error) each_is h))
  where
    by_error : (error : TreesError) → FailsAmong (record { before = b; after = c }) (client_trees 1 clients.clients) error → StopsCommand (ClientsCommand clients) (record { before = a; after = c }) (stop_by_trees error)
    by_error (trees_errors.Unread name fault) h = absurd h
    by_error (trees_errors.Fault name) h = inr (failed_since a b c le (client_trees 1 clients.clients) name h)
    by_error trees_errors.Memory h = tt
