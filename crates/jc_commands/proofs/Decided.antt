-- Any words and files are refused or accepted.
use Rattle.std.proofs.Common.{◌∙◌, ◌≡◌, ◌≤◌, ◌⊎◌, inl, inr, Bool, true, false, ℕ, ◌+◌, List, [], ◌∷◌, map, length, Option, Some, None, refl, sym, subst}
use Rattle.std.specs.Prelude.{IsOkAnd, IsTrue, Result, Ok, Err, nat_lt}
use Rattle.std.specs.List.{All}
use Rattle.std.proofs.lemmas.Bool.{ltb-true, ltb-false}
use Rattle.std.proofs.lemmas.List.Elements.{All-from_recursion, recursion_from_All}
use Rattle.jc_base.specs.Outside.{FileOf}
use Rattle.jc_call_kinds.specs.declared.call_line.CallLine.{CallLine}
use Rattle.jc_calls.specs.Lines.{AreLines}
use Rattle.jc_facts.specs.declared.dropped.Dropped.{Dropped}
use Rattle.jc_dropped.specs.Dropped.{AreDropped}
use Rattle.jc_facts.specs.declared.class_facts.ClassFacts.{ClassFacts}
use Rattle.jc_facts.specs.declared.client.ClientClass.{ClientClass}
use Rattle.jc_facts.specs.declared.verdict.Verdict.{Verdict}
use Rattle.jc_facts.specs.declared.warning.Warning.{Warning}
use Rattle.jc_facts.specs.client.Linked.{outcomes}
use Rattle.jc_facts.specs.Names.{Bytes}
use Rattle.jc_facts.specs.file.Valid.{IsValidClass}
use Rattle.jc_promises.specs.rule.Verdict.{IsVerdict}
use Rattle.jc_facts.specs.Verdicts.{count_of}
use Rattle.jc_promises.specs.rule.Warnings.{AreWarnings}
use Rattle.jc_promises.specs.Pairs.{IsPair}
use Rattle.jc_facts.specs.world.World.{World, Modules, OneModule, Several, is_modular, side_in}
use Rattle.jc_lemmas.proofs.Listed.{EachOf}
use Rattle.jc_promises.proofs.Pairs.{pair_in}
use Rattle.jc_facts.proofs.ReadLists.{read_valid}
use Rattle.jc_sound.proofs.VerdictLaw.{verdict_is_one}
use Rattle.jc_select.proofs.Limited.{warnings_are_one}
use Rattle.jc_index.proofs.Roots.{has_root}
use Rattle.jc_index.specs.Root.{fault_of_root}
use Rattle.jc_gate.specs.Gates.{GateOf}
use Rattle.jc_words.specs.declared.usage.Usage.{Usage}
use Rattle.jc_commands.specs.Causes.{IsRefused, IsAccepted}
use Rattle.jc_trees.specs.FirstTree.{IsFirstUnread}
use Rattle.jc_commands.specs.Check.{CheckRecords, old_side, new_side, is_apart, over_findings, over_warnings, over_dropped, over_calls, AreWarned, mismatch_of, report_of}
use Rattle.jc_trees.specs.ClassFiles.{FileRead, ClassRead, ModuleRead, IsFileIn, AreRecords, AreModular, without_items, without_code, records_in}
use Rattle.jc_releases.specs.Command.{release_kind, release_tree, release_trees, trees_of, asked_of}
use Rattle.jc_words.specs.Command.{CommandOf, CheckOf, LinkOf, HistoryOf, ClientsOf, CheckCommand, LinkCommand, MakeCommand, HistoryCommand, ClientsCommand, HelpCommand}
use Rattle.jc_words.specs.Help.{help_page}
use Rattle.jc_commands.specs.History.{HistoryRecords, row_of, mismatch_of_row}
use Rattle.jc_history.specs.Row.{steps_of, AreVerdicts}
use Rattle.jc_history.proofs.RowVerdicts.{all_few}
use Rattle.jc_commands.specs.Link.{LinkRecords, release_side, refusal_of}
use Rattle.jc_releases.specs.Releases.{read_as}
use Rattle.jc_commands.specs.Clients.{ClientsRecords, side_before, side_after}
use Rattle.jc_answers.proofs.OneAnswer.{some_answers}
use Rattle.jc_commands.proofs.Explanations.{explained_on}
use Rattle.jc_commands.specs.Reports.{RecordsOf, ReportOf, Refuses, Accepts, IsReportOn}
use Rattle.jc_trees.specs.Tree.{TreeOf, library_at, clients_at}
use Rattle.jc_releases.specs.declared.limits.TheConstants.{MAX_FINDINGS, MAX_WARNINGS, MAX_DROPPED, MAX_CALLS}
use Rattle.jc_releases.specs.declared.stop.Part.TheVariants as parts
use Rattle.jc_releases.specs.declared.stop.Stop.{Stop}
use Rattle.jc_releases.specs.declared.stop.Stop.TheVariants as stops
use Rattle.jc_trees.specs.ReadTrees.{Gives, GiveAll}
use Rattle.jc_trees.specs.declared.tree_read.TreeRead.{TreeRead}
use Rattle.jc_trees.specs.declared.tree_read.TreeRead.TheVariants as reads
use Rattle.jc_trees.proofs.OneRead.{FirstLibrary, first_library, first_clients}
use Rattle.jc_trees.specs.declared.tree.TreeKind.TheVariants as kinds
use Rattle.jc_trees.specs.declared.tree.TreeName.{TreeName}
use Rattle.jc_trees.specs.declared.tree.TreeName.TheVariants as names
use Rattle.jc_commands.specs.ReportValue.{IsSized}
use Rattle.jc_commands.proofs.Asked.{is_sized}
use Rattle.jc_commands.proofs.Events.{for_ok}
use Rattle.jc_commands.proofs.Records.{first_none, unmapped, IsOfRecords, refuses_says}
use Rattle.jc_commands.proofs.RowVerdicts.{some_row, few_or_many}
use Rattle.jc_commands.proofs.MadeReleases.{made_verdict}
use Rattle.jc_commands.proofs.SomeVerdict.{some_verdict, some_warnings}
use Rattle.jc_commands.proofs.SomeSignatures.{noted_on}
use Rattle.jc_commands.proofs.SomeCalls.{some_calls, calls_are_one, calls_on}
use Rattle.jc_commands.proofs.SomeDropped.{some_dropped, dropped_are_one, dropped_on}
use Rattle.jc_trees.proofs.SomeTrees.{TreesAreRead, some_trees}

-- ---- the records

module _ (files : List FileOf) where
  library : (name : TreeName) (root : Bytes) (trees : List TreeOf) (all : List TreeRead) → GiveAll files (library_at name root ∷ trees) all → FirstLibrary files (library_at name root) trees all
  library name root trees all h = first_library files (library_at name root) trees all refl h

  -- the first of the trees, where it is that of a release
  record FirstRelease (tree : TreeOf) (trees : List TreeOf) (all : List TreeRead) : Type 0 where
    records : List ClassFacts
    modules : Modules
    rest : List TreeRead
    are : Gives files tree (read_as modules records)
    others : GiveAll files trees rest

  not_clients : {P : Type 0} (modular : Bool) → release_kind modular ≡ kinds.Clients → P
  not_clients true e = absurd (let clash : kinds.Modular ≡ kinds.Clients = e in cc)
  not_clients false e = absurd (let clash : kinds.Library ≡ kinds.Clients = e in cc)

  first_release : (modular : Bool) (name : TreeName) (root : Bytes) (trees : List TreeOf) (all : List TreeRead) → GiveAll files (release_tree modular name root ∷ trees) all
      → FirstRelease (release_tree modular name root) trees all
  first_release modular name root trees [] h = absurd h
  first_release modular name root trees (reads.Library rs ∷ rest) h = record { records = rs; modules = OneModule; rest = rest; are = h.0; others = h.1 }
  first_release modular name root trees (reads.Modular m ∷ rest) h = record { records = m.records; modules = Several m.exports; rest = rest; are = h.0; others = h.1 }
  first_release modular name root trees (reads.Clients cs ∷ rest) h = not_clients modular h.0.0

  check_records : (check : CheckOf) (all : List TreeRead) → GiveAll files (trees_of (CheckCommand check)) all → CheckRecords files check
  check_records check all h =
      let p = library names.Platform check.platform (release_tree check.modular names.Old check.old ∷ release_tree check.modular names.New check.new ∷ []) all h in
      let o = first_release check.modular names.Old check.old (release_tree check.modular names.New check.new ∷ []) p.rest p.others in
      let n = first_release check.modular names.New check.new [] o.rest o.others in
      record { platform = p.records; old = o.records; old_modules = o.modules; new = n.records; new_modules = n.modules; are = ((refl, p.are), (o.are, (n.are, tt))) }

  link_records : (link : LinkOf) (all : List TreeRead) → GiveAll files (trees_of (LinkCommand link)) all → LinkRecords files link
  link_records link all h =
      let p = library names.Platform link.platform (release_tree link.modular names.Release link.release ∷ clients_at names.Client link.client ∷ []) all h in
      let r = first_release link.modular names.Release link.release (clients_at names.Client link.client ∷ []) p.rest p.others in
      let cs = first_clients files (clients_at names.Client link.client) [] r.rest refl r.others in
      record { platform = p.records; release = r.records; modules = r.modules; clients = cs.clients; are = ((refl, p.are), (r.are, ((refl, cs.are), tt))) }

  release_records : (n : ℕ) (roots : List Bytes) (all : List TreeRead) → GiveAll files (release_trees n roots) all → (rs : List (List ClassFacts)) × GiveAll files (release_trees n roots) (map reads.Library rs)
  release_records n [] all h = ([], tt)
  release_records n (root ∷ roots) all h =
      let r = library (names.NthRelease n) root (release_trees (n + 1) roots) all h in
      let rs = release_records (n + 1) roots r.rest r.others in
      (r.records ∷ rs.0, ((refl, r.are), rs.1))

  history_records : (history : HistoryOf) (all : List TreeRead) → GiveAll files (trees_of (HistoryCommand history)) all → HistoryRecords files history
  history_records history all h =
      let p = library names.Platform history.platform (release_trees 1 history.releases) all h in
      let rs = release_records 1 history.releases p.rest p.others in
      record { platform = p.records; releases = rs.0; are = ((refl, p.are), rs.1) }

  clients_records : (clients : ClientsOf) (all : List TreeRead) → GiveAll files (trees_of (ClientsCommand clients)) all → ClientsRecords files clients
  clients_records clients all h =
      let p = library names.Platform clients.platform (release_tree clients.modular names.Old clients.old ∷ release_tree clients.modular names.New clients.new ∷ []) all h in
      let o = first_release clients.modular names.Old clients.old (release_tree clients.modular names.New clients.new ∷ []) p.rest p.others in
      let n = first_release clients.modular names.New clients.new [] o.rest o.others in
      record { platform = p.records; old = o.records; old_modules = o.modules; new = n.records; new_modules = n.modules; are = ((refl, p.are), (o.are, (n.are, tt))) }

records_from : (files : List FileOf) (command : CommandOf) → IsSized command → (all : List TreeRead) → GiveAll files (trees_of command) all → RecordsOf files command
records_from files (CheckCommand check) sized all h = check_records files check all h
records_from files (LinkCommand link) sized all h = link_records files link all h
records_from files (MakeCommand n) sized all h = sized
records_from files (ClientsCommand clients) sized all h = clients_records files clients all h
records_from files (HistoryCommand history) sized all h = history_records files history all h
records_from files HelpCommand sized all h = tt

file_valid : (files : List FileOf) (tree : TreeOf) (c : ClientClass) → IsFileIn files tree (ClassRead c) → IsValidClass c.facts
file_valid files tree c i = read_valid i.bytes c.facts i.is_read.facts.reads

valid_each : (files : List FileOf) (tree : TreeOf) (records : List ClassFacts) → EachOf (IsFileIn files tree) (map ClassRead (without_code records)) → EachOf IsValidClass records
valid_each files tree [] h = tt
valid_each files tree (c ∷ cs) h = (file_valid files tree (without_items c) h.0, valid_each files tree cs h.1)

valid_records : (files : List FileOf) (tree : TreeOf) (records : List ClassFacts) → AreRecords files tree records → All IsValidClass records
valid_records files tree records are =
    All-from_recursion IsValidClass records (valid_each files tree records (recursion_from_All (IsFileIn files tree) (map ClassRead (without_code records)) are.exact.sound))

-- so are those of a tree that is read as a module
valid_among : (files : List FileOf) (tree : TreeOf) (all : List FileRead) → EachOf (IsFileIn files tree) all → EachOf IsValidClass (records_in all)
valid_among files tree [] h = tt
valid_among files tree (ClassRead c ∷ rest) h = (file_valid files tree c h.0, valid_among files tree rest h.1)
valid_among files tree (ModuleRead packages ∷ rest) h = valid_among files tree rest h.1

valid_modular : (files : List FileOf) (tree : TreeOf) (records : List ClassFacts) (exports : Option (List Bytes)) → AreModular files tree records exports → All IsValidClass records
valid_modular files tree records exports m =
    subst (All IsValidClass) m.records_are (All-from_recursion IsValidClass (records_in m.all) (valid_among files tree m.all (recursion_from_All (IsFileIn files tree) m.all m.are.exact.sound)))

-- a release is in several modules exactly where they are asked for
kind_asked : (files : List FileOf) (modular : Bool) (name : TreeName) (root : Bytes) (m : Modules) (records : List ClassFacts) → Gives files (release_tree modular name root) (read_as m records) → is_modular m ≡ modular
kind_asked files true name root (Several exports) records h = refl
kind_asked files false name root OneModule records h = refl
kind_asked files true name root OneModule records h = absurd (let clash : kinds.Modular ≡ kinds.Library = h.0 in cc)
kind_asked files false name root (Several exports) records h = absurd (let clash : kinds.Library ≡ kinds.Modular = h.0 in cc)

-- and its records are valid
valid_release : (files : List FileOf) (tree : TreeOf) (m : Modules) (records : List ClassFacts) → Gives files tree (read_as m records) → All IsValidClass records
valid_release files tree OneModule records h = valid_records files tree records h.1
valid_release files tree (Several exports) records h = valid_modular files tree records exports h.1

-- the two sides of these trees are a pair of which promises are made
pair_of : (files : List FileOf) (modular : Bool) (platform old new : Bytes) (ps os ns : List ClassFacts) (m k : Modules) → Gives files (library_at names.Platform platform) (reads.Library ps)
    → Gives files (release_tree modular names.Old old) (read_as m os) → Gives files (release_tree modular names.New new) (read_as k ns)
    → mismatch_of (side_in m ps os) (side_in k ps ns) ≡ None → IsPair (side_in m ps os) (side_in k ps ns)
pair_of files modular platform old new ps os ns m k p o n fits =
    let root : fault_of_root ps ≡ None = unmapped stops.BadRoot (fault_of_root ps) (first_none _ _ fits) in
    let before = kind_asked files modular names.Old old m os o in
    let after = kind_asked files modular names.New new k ns n in
    pair_in m k ps os ns (before ∙ sym after) (has_root ps (sym root))
    (valid_records files _ ps p.1) (valid_release files _ m os o) (valid_release files _ k ns n)

pair_on : (files : List FileOf) (check : CheckOf) (s : CheckRecords files check) → mismatch_of (old_side s) (new_side s) ≡ None → IsPair (old_side s) (new_side s)
pair_on files check s fits =
    pair_of files check.modular check.platform check.old check.new s.platform s.old s.new s.old_modules s.new_modules s.are.0 s.are.1.0 s.are.1.1.0 fits

-- and so are those of clients
pair_for : (files : List FileOf) (c : ClientsOf) (s : ClientsRecords files c) → mismatch_of (side_before s) (side_after s) ≡ None → IsPair (side_before s) (side_after s)
pair_for files c s fits =
    pair_of files c.modular c.platform c.old c.new s.platform s.old s.new s.old_modules s.new_modules s.are.0 s.are.1.0 s.are.1.1.0 fits

-- they have a verdict
verdict_on : (files : List FileOf) (check : CheckOf) (s : CheckRecords files check) → mismatch_of (old_side s) (new_side s) ≡ None → (v : Verdict) × IsVerdict (old_side s) (new_side s) v
verdict_on files check s fits = some_verdict (old_side s) (new_side s) (pair_on files check s fits)

-- and there are warnings on them
warnings_on : (files : List FileOf) (check : CheckOf) (s : CheckRecords files check) → mismatch_of (old_side s) (new_side s) ≡ None → (ws : List Warning) × AreWarnings (old_side s) (new_side s) ws
warnings_on files check s fits = some_warnings (old_side s) (new_side s) (pair_on files check s fits)

-- and there are lines on calls
calls_between : (files : List FileOf) (check : CheckOf) (s : CheckRecords files check) → mismatch_of (old_side s) (new_side s) ≡ None → (ls : List CallLine) × AreLines (old_side s) (new_side s) ls
calls_between files check s fits = some_calls (old_side s) (new_side s) (pair_on files check s fits)

-- those that are reported
warned_on : (warn : Bool) (O N : World) (ws : List Warning) → AreWarnings O N ws → (IsTrue warn → (vs : List Warning) → AreWarnings O N vs → length vs ≤ MAX_WARNINGS) → (o : Option (List Warning)) × AreWarned warn O N o
warned_on false O N ws is few = (None, tt)
warned_on true O N ws is few = (Some ws, (is, few refl ws is))

valid_releases : (files : List FileOf) (trees : List TreeOf) (releases : List (List ClassFacts)) → GiveAll files trees (map reads.Library releases) → EachOf (All IsValidClass) releases
valid_releases files trees [] h = tt
valid_releases files [] (r ∷ rs) h = absurd h
valid_releases files (t ∷ trees) (r ∷ rs) h = (valid_records files t r h.0.1, valid_releases files trees rs h.1)

-- each two neighbours have a verdict
verdicts_on : (files : List FileOf) (h : HistoryOf) (s : HistoryRecords files h) → mismatch_of_row s.platform s.releases ≡ None → (vs : List Verdict) × AreVerdicts (steps_of (row_of s.platform s.releases)) vs
verdicts_on files h s fits =
    let root : fault_of_root s.platform ≡ None = unmapped stops.BadRoot (fault_of_root s.platform) (first_none _ _ fits) in
    some_row s.platform s.releases (has_root s.platform (sym root)) (valid_records files _ s.platform s.are.0.1) (valid_releases files (release_trees 1 h.releases) s.releases s.are.1)

abbrev Decided : (files : List FileOf) (command : CommandOf) → RecordsOf files command → Type 0
Decided files command r = Accepts files command r ⊎ ((stop : Stop) × Refuses files command r stop)

-- none of what a check asks for is too much
abbrev FewFindings : World → World → Type 0
FewFindings O N = (w : Verdict) → IsVerdict O N w → count_of w ≤ MAX_FINDINGS

abbrev FewWarnings : Bool → World → World → Type 0
FewWarnings warn O N = IsTrue warn → (ws : List Warning) → AreWarnings O N ws → length ws ≤ MAX_WARNINGS

abbrev FewDropped : Bool → World → World → Type 0
FewDropped dropped O N = IsTrue dropped → (ds : List Dropped) → AreDropped O N ds → length ds ≤ MAX_DROPPED

decided : (files : List FileOf) (command : CommandOf) (r : RecordsOf files command) → Decided files command r
decided files (CheckCommand check) r = by_records (mismatch_of (old_side r) (new_side r)) refl
  where
    by_calls : mismatch_of (old_side r) (new_side r) ≡ None → FewFindings (old_side r) (new_side r) → FewWarnings check.warn (old_side r) (new_side r) → FewDropped check.dropped (old_side r) (new_side r)
        → (b : Bool) → check.calls ≡ b → (ls : List CallLine) × AreLines (old_side r) (new_side r) ls → Decided files (CheckCommand check) r
    by_calls fits few warned dropped false e ls =
        inl (record { fits = fits; few = few; few_warnings = warned; few_dropped = dropped; few_calls = λ w. absurd (let clash : false ≡ true = sym e ∙ w in cc) })
    by_calls fits few warned dropped true e (ls, is) = by_length (nat_lt MAX_CALLS (length ls)) refl
      where
        by_length : (b : Bool) → nat_lt MAX_CALLS (length ls) ≡ b → Decided files (CheckCommand check) r
        by_length true q = inr (
          stops.TooMany parts.Calls,
          over_calls e refl (record {
            fits = fits;
            few = few;
            few_warnings = warned;
            few_dropped = dropped;
            lines = ls;
            exact = is;
            many = ltb-true MAX_CALLS (length ls) q;
          }),
        )
        by_length false q = inl (record {
          fits = fits;
          few = few;
          few_warnings = warned;
          few_dropped = dropped;
          few_calls = λ w ms k. subst (λ (xs : List CallLine). length xs ≤ MAX_CALLS) (calls_are_one (old_side r) (new_side r) ls ms is k) (ltb-false MAX_CALLS (length ls) q);
        })

    at_calls : mismatch_of (old_side r) (new_side r) ≡ None → FewFindings (old_side r) (new_side r) → FewWarnings check.warn (old_side r) (new_side r) → FewDropped check.dropped (old_side r) (new_side r)
        → Decided files (CheckCommand check) r
    at_calls fits few warned dropped = by_calls fits few warned dropped check.calls refl (calls_between files check r fits)

    by_dropped : mismatch_of (old_side r) (new_side r) ≡ None → FewFindings (old_side r) (new_side r) → FewWarnings check.warn (old_side r) (new_side r) → (b : Bool) → check.dropped ≡ b
        → (ds : List Dropped) × AreDropped (old_side r) (new_side r) ds → Decided files (CheckCommand check) r
    by_dropped fits few warned false e ds = at_calls fits few warned (λ w. absurd (let clash : false ≡ true = sym e ∙ w in cc))
    by_dropped fits few warned true e (ds, is) = by_length (nat_lt MAX_DROPPED (length ds)) refl
      where
        by_length : (b : Bool) → nat_lt MAX_DROPPED (length ds) ≡ b → Decided files (CheckCommand check) r
        by_length true q =
            inr (stops.TooMany parts.Dropped, over_dropped e refl (record { fits = fits; few = few; few_warnings = warned; dropped = ds; exact = is; many = ltb-true MAX_DROPPED (length ds) q }))
        by_length false q =
            at_calls fits few warned (λ w es k. subst (λ (xs : List Dropped). length xs ≤ MAX_DROPPED) (dropped_are_one (old_side r) (new_side r) ds es is k) (ltb-false MAX_DROPPED (length ds) q))

    at_dropped : mismatch_of (old_side r) (new_side r) ≡ None → FewFindings (old_side r) (new_side r) → FewWarnings check.warn (old_side r) (new_side r) → Decided files (CheckCommand check) r
    at_dropped fits few warned = by_dropped fits few warned check.dropped refl (some_dropped (old_side r) (new_side r))

    by_warnings : mismatch_of (old_side r) (new_side r) ≡ None → FewFindings (old_side r) (new_side r) → (b : Bool) → check.warn ≡ b
        → (ws : List Warning) × AreWarnings (old_side r) (new_side r) ws → Decided files (CheckCommand check) r
    by_warnings fits few false e ws = at_dropped fits few (λ w. absurd (let clash : false ≡ true = sym e ∙ w in cc))
    by_warnings fits few true e (ws, is) = by_length (nat_lt MAX_WARNINGS (length ws)) refl
      where
        by_length : (b : Bool) → nat_lt MAX_WARNINGS (length ws) ≡ b → Decided files (CheckCommand check) r
        by_length true q = inr (stops.TooMany parts.Warnings, over_warnings e refl (record { fits = fits; few = few; warnings = ws; exact = is; many = ltb-true MAX_WARNINGS (length ws) q }))
        by_length false q =
            at_dropped fits few (λ w vs k. subst (λ (xs : List Warning). length xs ≤ MAX_WARNINGS) (warnings_are_one (old_side r) (new_side r) ws vs is k) (ltb-false MAX_WARNINGS (length ws) q))

    by_count : mismatch_of (old_side r) (new_side r) ≡ None → (v : Verdict) → IsVerdict (old_side r) (new_side r) v → (b : Bool) → nat_lt MAX_FINDINGS (count_of v) ≡ b → Decided files (CheckCommand check) r
    by_count fits v is true e = inr (stops.TooMany parts.Findings, over_findings refl (record { fits = fits; verdict = v; exact = is; many = ltb-true MAX_FINDINGS (count_of v) e }))
    by_count fits v is false e = by_warnings fits few check.warn refl (warnings_on files check r fits)
      where
        few : FewFindings (old_side r) (new_side r)
        few w k = subst (λ (x : Verdict). count_of x ≤ MAX_FINDINGS) (verdict_is_one (old_side r) (new_side r) v w is k) (ltb-false MAX_FINDINGS (count_of v) e)

    by_records : (o : Option Stop) → mismatch_of (old_side r) (new_side r) ≡ o → Decided files (CheckCommand check) r
    by_records None e = let v = verdict_on files check r e in by_count e v.0 v.1 (nat_lt MAX_FINDINGS (count_of v.0)) refl
    by_records (Some stop) e = inr (stop, is_apart e)
decided files (MakeCommand n) r = inl tt
decided files HelpCommand r = inl tt
decided files (ClientsCommand c) r = by_records (mismatch_of (side_before r) (side_after r)) refl
  where
    by_count : mismatch_of (side_before r) (side_after r) ≡ None → IsTrue c.used → (v : Verdict) → IsVerdict (side_before r) (side_after r) v → (b : Bool) → nat_lt MAX_FINDINGS (count_of v) ≡ b
        → Decided files (ClientsCommand c) r
    by_count fits u v is true e = inr (stops.TooMany parts.Findings, inr (u, refl, record { fits = fits; verdict = v; exact = is; many = ltb-true MAX_FINDINGS (count_of v) e }))
    by_count fits u v is false e = inl (record {
      fits = fits;
      few = λ t w k. subst (λ (x : Verdict). count_of x ≤ MAX_FINDINGS) (verdict_is_one (side_before r) (side_after r) v w is k) (ltb-false MAX_FINDINGS (count_of v) e);
    })

    by_used : mismatch_of (side_before r) (side_after r) ≡ None → (b : Bool) → c.used ≡ b → Decided files (ClientsCommand c) r
    by_used fits false e = inl (record { fits = fits; few = λ t. absurd (let clash : false ≡ true = sym e ∙ t in cc) })
    by_used fits true e = let v = some_verdict (side_before r) (side_after r) (pair_for files c r fits) in by_count fits e v.0 v.1 (nat_lt MAX_FINDINGS (count_of v.0)) refl

    by_records : (o : Option Stop) → mismatch_of (side_before r) (side_after r) ≡ o → Decided files (ClientsCommand c) r
    by_records None e = by_used e c.used refl
    by_records (Some stop) e = inr (stop, inl e)
decided files (HistoryCommand c) r = by_records (mismatch_of_row r.platform r.releases) refl
  where
    by_records : (o : Option Stop) → mismatch_of_row r.platform r.releases ≡ o → Decided files (HistoryCommand c) r
    by_records None e = let vs = verdicts_on files c r e in few_or_many r.platform r.releases e vs.0 vs.1
    by_records (Some stop) e = inr (stop, inl e)
decided files (LinkCommand link) r = by_records (refusal_of (release_side r) r.clients) refl
  where
    by_records : (o : Option Stop) → refusal_of (release_side r) r.clients ≡ o → Decided files (LinkCommand link) r
    by_records None e = inl e
    by_records (Some stop) e = inr (stop, e)

-- what is accepted has a report
pub accepted_report : (files : List FileOf) (command : CommandOf) (r : RecordsOf files command) → Accepts files command r → (report : ReportOf command) × IsReportOn files command r report
accepted_report files (CheckCommand check) r a =
    let v = verdict_on files check r a.fits in
    let ws = warnings_on files check r a.fits in
    let o = warned_on check.warn (old_side r) (new_side r) ws.0 ws.1 a.few_warnings in
    let ns = noted_on check.signatures (old_side r) (new_side r) in
    let ds = dropped_on check.dropped (old_side r) (new_side r) a.few_dropped in
    let ls = calls_on check.calls (old_side r) (new_side r) (pair_on files check r a.fits) a.few_calls in
    (report_of v.0 o.0 ns.0 ds.0 ls.0, record { verdict = record { fits = a.fits; exact = v.1; few = a.few v.0 v.1 }; warnings = o.1; signatures = ns.1; dropped = ds.1; calls = ls.1 })
accepted_report files (LinkCommand link) r a = (outcomes (release_side r) r.clients, record { fits = a; exact = refl })
accepted_report files (ClientsCommand c) r a =
    let all = some_answers files (side_before r) (side_after r) 1 c.clients in
    let v = some_verdict (side_before r) (side_after r) (pair_for files c r a.fits) in
    let e = explained_on c.used files c (side_before r) (side_after r) a.fits v.0 v.1 a.few in
    (record { answers = all.0; explanation = e.0 }, record { answers = record { fits = a.fits; exact = all.1 }; explained = e.1 })
accepted_report files (MakeCommand n) r a = made_verdict n r
accepted_report files HelpCommand r a = (help_page, refl)
accepted_report files (HistoryCommand c) r a =
    let vs = verdicts_on files c r a.fits in
    (vs.0, record { fits = a.fits; exact = vs.1; few = all_few MAX_FINDINGS (steps_of (row_of r.platform r.releases)) vs.0 vs.1 a.few })

-- ---- words and files

module _ (gates : List GateOf) (words : List Bytes) (files : List FileOf) where
  abbrev RefusedOrAccepted : Type 0
  RefusedOrAccepted = IsAccepted gates words files ⊎ ((stop : Stop) × IsRefused gates words files stop)

  module _ (command : CommandOf) (is : asked_of gates words ≡ Ok command) where
    by_command : (stop : Stop) → ((r : RecordsOf files command) × Refuses files command r stop) → IsOkAnd (asked_of gates words) (λ c. (r : RecordsOf files c) × Refuses files c r stop)
    by_command stop h = for_ok (asked_of gates words) command (λ c. (r : RecordsOf files c) × Refuses files c r stop) is h

    refused_for : (stop : Stop) → IsOfRecords stop → ((r : RecordsOf files command) × Refuses files command r stop) → IsRefused gates words files stop
    refused_for (stops.BadRoot p) says h = by_command (stops.BadRoot p) h
    refused_for (stops.Overlap t x) says h = by_command (stops.Overlap t x) h
    refused_for (stops.ClientName x p) says h = by_command (stops.ClientName x p) h
    refused_for (stops.TooMany part) says h = by_command (stops.TooMany part) h
    refused_for (stops.Usage usage) says h = absurd says
    refused_for (stops.Unread t f) says h = absurd says
    refused_for (stops.ReadFault t) says h = absurd says
    refused_for stops.Memory says h = absurd says

    by_records : (r : RecordsOf files command) → Decided files command r → RefusedOrAccepted
    by_records r (inl a) = inl (for_ok (asked_of gates words) command (λ c. (r : RecordsOf files c) × Accepts files c r) is (r, a))
    by_records r (inr (stop, h)) = inr (stop, refused_for stop (refuses_says files command r stop h) (r, h))

    by_trees : TreesAreRead files (trees_of command) → RefusedOrAccepted
    by_trees (inl (all, h)) = let r = records_from files command (is_sized gates words command is) all h in by_records r (decided files command r)
    by_trees (inr (name, fault, f)) = inr (stops.Unread name fault, for_ok (asked_of gates words) command (λ c. IsFirstUnread files (trees_of c) name fault) is f)

  pub refused_or_accepted_of : IsAccepted gates words files ⊎ ((stop : Stop) × IsRefused gates words files stop)
  refused_or_accepted_of = go (asked_of gates words) refl
    where
      go : (r : Result CommandOf Usage) → asked_of gates words ≡ r → RefusedOrAccepted
      go (Err usage) e = inr (stops.Usage usage, e)
      go (Ok command) e = by_trees command e (some_trees files (trees_of command))
