-- The records of a command's trees: there is one of each, and who is refused is refused once.
use Rattle.std.proofs.Common.{◌≡◌, ◌≤◌, Bool, true, false, length, map, inl, inr, List, [], ◌∷◌, Option, Some, None, refl, sym, ap, subst, ◌∙◌}
use Rattle.std.specs.Prelude.{IsTrue, option_map}
use Rattle.std.proofs.lemmas.List.Elements.{All-contains}
use Rattle.jc_base.specs.Outside.{FileOf}
use Rattle.jc_facts.specs.declared.class_facts.ClassFacts.{ClassFacts}
use Rattle.jc_facts.specs.declared.client.ClientClass.{ClientClass}
use Rattle.jc_facts.specs.declared.verdict.Verdict.{Verdict}
use Rattle.jc_facts.specs.declared.dropped.Dropped.{Dropped}
use Rattle.jc_facts.specs.declared.warning.Warning.{Warning}
use Rattle.jc_facts.specs.declared.sig_note.SigNote.{SigNote}
use Rattle.jc_facts.specs.Options.{or_else}
use Rattle.jc_facts.specs.client.Linked.{outcomes}
use Rattle.jc_promises.specs.rule.Verdict.{IsVerdict}
use Rattle.jc_facts.specs.Verdicts.{count_of}
use Rattle.jc_promises.specs.rule.Warnings.{AreWarnings}
use Rattle.jc_facts.specs.world.World.{World, Modules, OneModule, Several, side, side_in, modular_side}
use Rattle.jc_sound.proofs.VerdictLaw.{verdict_is_one}
use Rattle.jc_select.proofs.Limited.{warnings_are_one}
use Rattle.jc_link.specs.Refusals.{refused_client}
use Rattle.jc_index.specs.Root.{fault_of_root}
use Rattle.jc_index.specs.Sides.{overlap_of}
use Rattle.jc_commands.specs.Check.{CheckRecords, old_side, new_side, HasTooMany, HasTooManyWarnings, HasTooManyDropped, HasTooManyCalls, IsUnfit, is_apart, over_findings, over_warnings, over_dropped, over_calls, AreWarned, mismatch_of, report_of}
use Rattle.jc_releases.specs.Command.{trees_of, client_trees}
use Rattle.jc_words.specs.Command.{CommandOf, CheckOf, LinkOf, HistoryOf, ClientsOf, CheckCommand, LinkCommand, MakeCommand, HistoryCommand, ClientsCommand, HelpCommand}
use Rattle.jc_commands.specs.History.{HistoryRecords, row_of, mismatch_of_row, IsUnfitRow}
use Rattle.jc_releases.specs.Releases.{read_as, release_at, old_and_new, numbered, first_overlap, mismatch_among}
use Rattle.jc_releases.specs.declared.releases.Release.{Release}
use Rattle.jc_history.specs.Row.{steps_of, AreVerdicts}
use Rattle.jc_history.proofs.RowVerdicts.{one_row, verdict_at}
use Rattle.jc_commands.specs.Link.{LinkRecords, release_side, refusal_of, client_name}
use Rattle.jc_commands.specs.Make.{old_made, new_made}
use Rattle.jc_commands.specs.CallsPart.{AreAskedCalls}
use Rattle.jc_commands.specs.DroppedPart.{AreAskedDropped}
use Rattle.jc_commands.specs.Signatures.{AreNoted}
use Rattle.jc_commands.specs.Clients.{ClientsRecords, ClientsReport, Explanation, IsExplained, IsUnfitForClients, side_before, side_after}
use Rattle.jc_commands.proofs.Explanations.{explained_few, explained_one}
use Rattle.jc_answers.specs.declared.answer.Answer.{Answer}
use Rattle.jc_answers.specs.Said.{AreSaid}
use Rattle.jc_answers.proofs.OneAnswer.{all_said}
use Rattle.jc_commands.specs.Reports.{RecordsOf, ReportOf, Refuses, Accepts, IsReportOn}
use Rattle.jc_releases.specs.declared.limits.TheConstants.{MAX_FINDINGS, MAX_WARNINGS, MAX_DROPPED, MAX_CALLS}
use Rattle.jc_commands.proofs.SomeCalls.{calls_few, calls_one}
use Rattle.jc_commands.proofs.SomeDropped.{dropped_few, dropped_one}
use Rattle.jc_commands.proofs.SomeSignatures.{noted_one}
use Rattle.jc_releases.specs.declared.stop.Stop.{Stop}
use Rattle.jc_releases.specs.declared.stop.Stop.TheVariants as stops
use Rattle.jc_trees.specs.declared.tree.TreeName.TheVariants as names
use Rattle.jc_trees.proofs.OneFault.{apart_numbers}
use Rattle.jc_trees.proofs.OneRead.{one_read}
use Rattle.jc_trees.specs.declared.tree_read.TreeRead.{TreeRead}
use Rattle.jc_trees.specs.declared.tree_read.TreeRead.TheVariants as reads

-- ---- there or not

pub none_some : {A : Type 0} (o : Option A) (x : A) → o ≡ None → o ≡ Some x → ⊥
none_some o x h k = let clash : None ≡ Some x = sym h ∙ k in cc

pub same_some : {A : Type 0} (o : Option A) (x y : A) → o ≡ Some x → o ≡ Some y → x ≡ y
same_some o x y h k = let both : Some x ≡ Some y = sym h ∙ k in cc

-- what holds of either of two holds of the first that is there
first_says : {A : Type 0} (P : A → Type 0) (o p : Option A) → ((x : A) → o ≡ Some x → P x) → ((x : A) → p ≡ Some x → P x) → (x : A) → or_else o p ≡ Some x → P x
unfolding or_else
first_says P None p f g x e = g x e
first_says P (Some y) p f g x e = f x e

mapped_says : {A B : Type 0} (P : B → Type 0) (f : A → B) (o : Option A) → ((y : A) → P (f y)) → (x : B) → option_map f o ≡ Some x → P x
mapped_says P f None h x e = absurd (let clash : None ≡ Some x = e in cc)
mapped_says {A} {B} P f (Some y) h x e = let is : f y ≡ x = cc in subst P is (h y)

-- nothing is there where the first of two isn't
pub first_none : {A : Type 0} (o p : Option A) → or_else o p ≡ None → o ≡ None
unfolding or_else
first_none None p e = refl
first_none (Some x) p e = absurd (let clash : Some x ≡ None = e in cc)

pub unmapped : {A B : Type 0} (f : A → B) (o : Option A) → option_map f o ≡ None → o ≡ None
unmapped f None e = refl
unmapped f (Some x) e = absurd (let clash : Some (f x) ≡ None = e in cc)

-- ---- there is one record of each class

-- the side of a platform and of what the tree of a release is read as
abbrev side_read : List ClassFacts → TreeRead → World
side_read platform (reads.Library records) = side platform records
side_read platform (reads.Modular m) = modular_side m.exports platform m.records
side_read platform (reads.Clients cs) = side platform []

side_is : (m : Modules) (platform records : List ClassFacts) → side_read platform (read_as m records) ≡ side_in m platform records
side_is OneModule platform records = refl
side_is (Several exports) platform records = refl

same_each : {A : Type 0} (a b c d e f : A) → a ∷ b ∷ c ∷ [] ≡ d ∷ e ∷ f ∷ [] → (a ≡ d) × (b ≡ e) × (c ≡ f)
same_each a b c d e f h = let first : a ≡ d = cc in let second : b ≡ e = cc in let third : c ≡ f = cc in (first, second, third)

pub same_library : (p q : List ClassFacts) → reads.Library p ≡ reads.Library q → p ≡ q
same_library p q e = cc

same_clients : (cs ds : List ClientClass) → reads.Clients cs ≡ reads.Clients ds → cs ≡ ds
same_clients cs ds e = cc

pub same_side : (m k : Modules) (p q r s : List ClassFacts) → p ≡ q → read_as m r ≡ read_as k s → side_in m p r ≡ side_in k q s
same_side m k p q r s first e =
    ap (λ (x : List ClassFacts). side_in m x r) first ∙ sym (side_is m q r) ∙ ap (side_read q) e ∙ side_is k q s

-- what holds of some sides holds of the same ones
same_two : (P : World → World → Type 0) (a b c d : Modules) (p o n q r m : List ClassFacts)
    → reads.Library p ∷ read_as a o ∷ read_as b n ∷ [] ≡ reads.Library q ∷ read_as c r ∷ read_as d m ∷ [] → P (side_in a p o) (side_in b p n) → P (side_in c q r) (side_in d q m)
same_two P a b c d p o n q r m e h =
    let each = same_each (reads.Library p) (read_as a o) (read_as b n) (reads.Library q) (read_as c r) (read_as d m) e in
    let first : p ≡ q = same_library p q each.0 in
    subst (P (side_in c q r)) (same_side b d p q n m first each.2) (subst (λ (W : World). P W (side_in b p n)) (same_side a c p q o r first each.1) h)

same_one : (P : World → List ClientClass → Type 0) (a c : Modules) (p r q s : List ClassFacts) (cs ds : List ClientClass)
    → reads.Library p ∷ read_as a r ∷ reads.Clients cs ∷ [] ≡ reads.Library q ∷ read_as c s ∷ reads.Clients ds ∷ [] → P (side_in a p r) cs → P (side_in c q s) ds
same_one P a c p r q s cs ds e h =
    let each = same_each (reads.Library p) (read_as a r) (reads.Clients cs) (reads.Library q) (read_as c s) (reads.Clients ds) e in
    subst (P (side_in c q s)) (same_clients cs ds each.2) (subst (λ (W : World). P W cs) (same_side a c p q r s (same_library p q each.0) each.1) h)

same_libraries : (rs ss : List (List ClassFacts)) → map reads.Library rs ≡ map reads.Library ss → rs ≡ ss
same_libraries [] [] e = refl
same_libraries [] (s ∷ ss) e = absurd (cc)
same_libraries (r ∷ rs) [] e = absurd (cc)
same_libraries (r ∷ rs) (s ∷ ss) e =
    let first : r ≡ s = cc in
    let others : map reads.Library rs ≡ map reads.Library ss = cc in
    ap (λ (x : List ClassFacts). x ∷ rs) first ∙ ap (λ (xs : List (List ClassFacts)). s ∷ xs) (same_libraries rs ss others)

same_row : (P : List ClassFacts → List (List ClassFacts) → Type 0) (p q : List ClassFacts) (rs ss : List (List ClassFacts))
    → reads.Library p ∷ map reads.Library rs ≡ reads.Library q ∷ map reads.Library ss → P p rs → P q ss
same_row P p q rs ss e h =
    let first : p ≡ q = cc in
    let others : map reads.Library rs ≡ map reads.Library ss = cc in
    subst (λ (xs : List (List ClassFacts)). P q xs) (same_libraries rs ss others) (subst (λ (x : List ClassFacts). P x rs) first h)

-- what holds of some records holds of the others
same_check : (files : List FileOf) (check : CheckOf) (P : World → World → Type 0) (s t : CheckRecords files check) → P (old_side t) (new_side t) → P (old_side s) (new_side s)
same_check files check P s t p =
    same_two P t.old_modules t.new_modules s.old_modules s.new_modules t.platform t.old t.new s.platform s.old s.new (one_read files (trees_of (CheckCommand check)) _ _ t.are s.are) p

same_link : (files : List FileOf) (link : LinkOf) (P : World → List ClientClass → Type 0) (s t : LinkRecords files link) → P (release_side t) t.clients → P (release_side s) s.clients
same_link files link P s t p =
    same_one P t.modules s.modules t.platform t.release s.platform s.release t.clients s.clients (one_read files (trees_of (LinkCommand link)) _ _ t.are s.are) p

same_history : (files : List FileOf) (h : HistoryOf) (P : List ClassFacts → List (List ClassFacts) → Type 0) (s t : HistoryRecords files h) → P t.platform t.releases → P s.platform s.releases
same_history files h P s t p = same_row P t.platform s.platform t.releases s.releases (one_read files (trees_of (HistoryCommand h)) _ _ t.are s.are) p

same_clients_of : (files : List FileOf) (c : ClientsOf) (P : World → World → Type 0) (s t : ClientsRecords files c) → P (side_before t) (side_after t) → P (side_before s) (side_after s)
same_clients_of files c P s t p =
    same_two P t.old_modules t.new_modules s.old_modules s.new_modules t.platform t.old t.new s.platform s.old s.new (one_read files (trees_of (ClientsCommand c)) _ _ t.are s.are) p

-- ---- why records are refused

-- it is of the records, and not of the words, a tree or a call
abbrev pub IsOfRecords : Stop → Type 0
IsOfRecords (stops.BadRoot part) = Unit {0}
IsOfRecords (stops.Overlap name x) = Unit {0}
IsOfRecords (stops.ClientName x part) = Unit {0}
IsOfRecords (stops.TooMany part) = Unit {0}
IsOfRecords _ = ⊥

overlap_says : (platform : List ClassFacts) (releases : List Release) (stop : Stop) → first_overlap platform releases ≡ Some stop → IsOfRecords stop
overlap_says platform [] stop h = absurd (let clash : None ≡ Some stop = h in cc)
overlap_says platform (r ∷ rs) stop h =
    first_says IsOfRecords _ _ (mapped_says IsOfRecords (stops.Overlap r.name) (overlap_of platform r.records) (λ x. tt)) (λ s e. overlap_says platform rs s e) stop h

pub mismatch_says : (platform : List ClassFacts) (releases : List Release) (stop : Stop) → mismatch_among platform releases ≡ Some stop → IsOfRecords stop
mismatch_says platform releases stop h =
    first_says IsOfRecords _ _ (mapped_says IsOfRecords stops.BadRoot (fault_of_root platform) (λ part. tt)) (λ s e. overlap_says platform releases s e) stop h

pub unfit_says : (check : CheckOf) (O N : World) (stop : Stop) → IsUnfit check O N stop → IsOfRecords stop
unfit_says check O N stop (is_apart h) = mismatch_says O.platform (old_and_new O.release N.release) stop h
unfit_says check O N stop (over_findings is h) = subst IsOfRecords (sym is) tt
unfit_says check O N stop (over_warnings w is h) = subst IsOfRecords (sym is) tt
unfit_says check O N stop (over_dropped d is h) = subst IsOfRecords (sym is) tt
unfit_says check O N stop (over_calls c is h) = subst IsOfRecords (sym is) tt

pub refusal_says : (W : World) (clients : List ClientClass) (stop : Stop) → refusal_of W clients ≡ Some stop → IsOfRecords stop
refusal_says W clients stop h =
    first_says IsOfRecords _ _ (λ s e. mismatch_says W.platform (release_at names.Release W.release ∷ []) s e)
    (mapped_says IsOfRecords client_name (refused_client W clients) (λ x. tt)) stop h

pub unfit_row_says : (platform : List ClassFacts) (releases : List (List ClassFacts)) (stop : Stop) → IsUnfitRow platform releases stop → IsOfRecords stop
unfit_row_says platform releases stop (inl h) = mismatch_says platform (numbered 1 releases) stop h
unfit_row_says platform releases stop (inr h) = subst IsOfRecords (sym h.0) tt

pub unfit_clients_says : (used : Bool) (O N : World) (stop : Stop) → IsUnfitForClients used O N stop → IsOfRecords stop
unfit_clients_says used O N stop (inl h) = mismatch_says O.platform (old_and_new O.release N.release) stop h
unfit_clients_says used O N stop (inr h) = subst IsOfRecords (sym h.1) tt

pub refuses_says : (files : List FileOf) (command : CommandOf) (r : RecordsOf files command) (stop : Stop) → Refuses files command r stop → IsOfRecords stop
refuses_says files (CheckCommand check) r stop h = unfit_says check (old_side r) (new_side r) stop h
refuses_says files (LinkCommand link) r stop h = refusal_says (release_side r) r.clients stop h
refuses_says files (MakeCommand n) r stop h = absurd h
refuses_says files HelpCommand r stop h = absurd h
refuses_says files (ClientsCommand c) r stop h = unfit_clients_says c.used (side_before r) (side_after r) stop h
refuses_says files (HistoryCommand c) r stop h = unfit_row_says r.platform r.releases stop h

-- too many findings are a cause before too many warnings
findings_first : (O N : World) → HasTooMany O N → HasTooManyWarnings O N → ⊥
findings_first O N h k = apart_numbers (count_of h.verdict) MAX_FINDINGS (k.few h.verdict h.exact) h.many

-- and both before too many dropped interfaces
findings_before : (check : CheckOf) (O N : World) → HasTooMany O N → HasTooManyDropped check O N → ⊥
findings_before check O N h k = apart_numbers (count_of h.verdict) MAX_FINDINGS (k.few h.verdict h.exact) h.many

warnings_before : (check : CheckOf) (O N : World) → IsTrue check.warn → HasTooManyWarnings O N → HasTooManyDropped check O N → ⊥
warnings_before check O N w h k = apart_numbers (length h.warnings) MAX_WARNINGS (k.few_warnings w h.warnings h.exact) h.many

-- and all three before too many lines on calls
findings_above : (check : CheckOf) (O N : World) → HasTooMany O N → HasTooManyCalls check O N → ⊥
findings_above check O N h k = apart_numbers (count_of h.verdict) MAX_FINDINGS (k.few h.verdict h.exact) h.many

warnings_above : (check : CheckOf) (O N : World) → IsTrue check.warn → HasTooManyWarnings O N → HasTooManyCalls check O N → ⊥
warnings_above check O N w h k = apart_numbers (length h.warnings) MAX_WARNINGS (k.few_warnings w h.warnings h.exact) h.many

dropped_above : (check : CheckOf) (O N : World) → IsTrue check.dropped → HasTooManyDropped check O N → HasTooManyCalls check O N → ⊥
dropped_above check O N d h k = apart_numbers (length h.dropped) MAX_DROPPED (k.few_dropped d h.dropped h.exact) h.many

one_unfit : (check : CheckOf) (O N : World) (a b : Stop) → IsUnfit check O N a → IsUnfit check O N b → a ≡ b
one_unfit check O N a b (is_apart h) (is_apart k) = same_some (mismatch_of O N) a b h k
one_unfit check O N a b (is_apart h) (over_findings j k) = absurd (none_some (mismatch_of O N) a k.fits h)
one_unfit check O N a b (is_apart h) (over_warnings w j k) = absurd (none_some (mismatch_of O N) a k.fits h)
one_unfit check O N a b (over_findings i h) (is_apart k) = absurd (none_some (mismatch_of O N) b h.fits k)
one_unfit check O N a b (over_findings i h) (over_findings j k) = i ∙ sym j
one_unfit check O N a b (over_findings i h) (over_warnings w j k) = absurd (findings_first O N h k)
one_unfit check O N a b (over_warnings v i h) (is_apart k) = absurd (none_some (mismatch_of O N) b h.fits k)
one_unfit check O N a b (over_warnings v i h) (over_findings j k) = absurd (findings_first O N k h)
one_unfit check O N a b (over_warnings v i h) (over_warnings w j k) = i ∙ sym j
one_unfit check O N a b (is_apart h) (over_dropped d j k) = absurd (none_some (mismatch_of O N) a k.fits h)
one_unfit check O N a b (over_findings i h) (over_dropped d j k) = absurd (findings_before check O N h k)
one_unfit check O N a b (over_warnings w i h) (over_dropped d j k) = absurd (warnings_before check O N w h k)
one_unfit check O N a b (over_dropped d i h) (is_apart k) = absurd (none_some (mismatch_of O N) b h.fits k)
one_unfit check O N a b (over_dropped d i h) (over_findings j k) = absurd (findings_before check O N k h)
one_unfit check O N a b (over_dropped d i h) (over_warnings w j k) = absurd (warnings_before check O N w k h)
one_unfit check O N a b (over_dropped d i h) (over_dropped e j k) = i ∙ sym j
one_unfit check O N a b (is_apart h) (over_calls c j k) = absurd (none_some (mismatch_of O N) a k.fits h)
one_unfit check O N a b (over_findings i h) (over_calls c j k) = absurd (findings_above check O N h k)
one_unfit check O N a b (over_warnings w i h) (over_calls c j k) = absurd (warnings_above check O N w h k)
one_unfit check O N a b (over_dropped d i h) (over_calls c j k) = absurd (dropped_above check O N d h k)
one_unfit check O N a b (over_calls c i h) (is_apart k) = absurd (none_some (mismatch_of O N) b h.fits k)
one_unfit check O N a b (over_calls c i h) (over_findings j k) = absurd (findings_above check O N k h)
one_unfit check O N a b (over_calls c i h) (over_warnings w j k) = absurd (warnings_above check O N w k h)
one_unfit check O N a b (over_calls c i h) (over_dropped d j k) = absurd (dropped_above check O N d k h)
one_unfit check O N a b (over_calls c i h) (over_calls d j k) = i ∙ sym j

one_unfit_row : (platform : List ClassFacts) (releases : List (List ClassFacts)) (a b : Stop) → IsUnfitRow platform releases a → IsUnfitRow platform releases b → a ≡ b
one_unfit_row platform releases a b (inl h) (inl k) = same_some (mismatch_of_row platform releases) a b h k
one_unfit_row platform releases a b (inl h) (inr k) = absurd (none_some (mismatch_of_row platform releases) a k.1.fits h)
one_unfit_row platform releases a b (inr h) (inl k) = absurd (none_some (mismatch_of_row platform releases) b h.1.fits k)
one_unfit_row platform releases a b (inr h) (inr k) = h.0 ∙ sym k.0

one_unfit_clients : (used : Bool) (O N : World) (a b : Stop) → IsUnfitForClients used O N a → IsUnfitForClients used O N b → a ≡ b
one_unfit_clients used O N a b (inl h) (inl k) = same_some (mismatch_of O N) a b h k
one_unfit_clients used O N a b (inl h) (inr k) = absurd (none_some (mismatch_of O N) a k.2.fits h)
one_unfit_clients used O N a b (inr h) (inl k) = absurd (none_some (mismatch_of O N) b h.2.fits k)
one_unfit_clients used O N a b (inr h) (inr k) = h.1 ∙ sym k.1

-- records are refused for one cause
pub one_refused : (files : List FileOf) (command : CommandOf) (r s : RecordsOf files command) (a b : Stop) → Refuses files command r a → Refuses files command s b → a ≡ b
one_refused files (CheckCommand check) r s a b h k = one_unfit check (old_side r) (new_side r) a b h (same_check files check (λ O N. IsUnfit check O N b) r s k)
one_refused files (LinkCommand link) r s a b h k =
    same_some (refusal_of (release_side r) r.clients) a b h (same_link files link (λ W cs. refusal_of W cs ≡ Some b) r s k)
one_refused files (MakeCommand n) r s a b h k = absurd h
one_refused files HelpCommand r s a b h k = absurd h
one_refused files (ClientsCommand c) r s a b h k = one_unfit_clients c.used (side_before r) (side_after r) a b h (same_clients_of files c (λ O N. IsUnfitForClients c.used O N b) r s k)
one_refused files (HistoryCommand c) r s a b h k = one_unfit_row r.platform r.releases a b h (same_history files c (λ p q. IsUnfitRow p q b) r s k)

-- and not where they are accepted
pub accepted_or_refused : (files : List FileOf) (command : CommandOf) (r s : RecordsOf files command) (stop : Stop) → Accepts files command r → Refuses files command s stop → ⊥
accepted_or_refused files (CheckCommand check) r s stop a h = go (same_check files check (λ O N. IsUnfit check O N stop) r s h)
  where
    go : IsUnfit check (old_side r) (new_side r) stop → ⊥
    go (is_apart k) = none_some (mismatch_of (old_side r) (new_side r)) stop a.fits k
    go (over_findings i k) = apart_numbers (count_of k.verdict) MAX_FINDINGS (a.few k.verdict k.exact) k.many
    go (over_warnings w i k) = apart_numbers (length k.warnings) MAX_WARNINGS (a.few_warnings w k.warnings k.exact) k.many
    go (over_dropped d i k) = apart_numbers (length k.dropped) MAX_DROPPED (a.few_dropped d k.dropped k.exact) k.many
    go (over_calls c i k) = apart_numbers (length k.lines) MAX_CALLS (a.few_calls c k.lines k.exact) k.many
accepted_or_refused files (LinkCommand link) r s stop a h =
    none_some (refusal_of (release_side r) r.clients) stop a (same_link files link (λ W cs. refusal_of W cs ≡ Some stop) r s h)
accepted_or_refused files (MakeCommand n) r s stop a h = h
accepted_or_refused files HelpCommand r s stop a h = h
accepted_or_refused files (ClientsCommand c) r s stop a h = go (same_clients_of files c (λ O N. IsUnfitForClients c.used O N stop) r s h)
  where
    go : IsUnfitForClients c.used (side_before r) (side_after r) stop → ⊥
    go (inl k) = none_some (mismatch_of (side_before r) (side_after r)) stop a.fits k
    go (inr k) = apart_numbers (count_of k.2.verdict) MAX_FINDINGS (a.few k.0 k.2.verdict k.2.exact) k.2.many
accepted_or_refused files (HistoryCommand c) r s stop a h = go (same_history files c (λ p q. IsUnfitRow p q stop) r s h)
  where
    go : IsUnfitRow r.platform r.releases stop → ⊥
    go (inl k) = none_some (mismatch_of_row r.platform r.releases) stop a.fits k
    go (inr k) = apart_numbers (count_of k.1.verdict) MAX_FINDINGS (a.few k.1.step k.1.is_step k.1.verdict k.1.exact) k.1.many

-- ---- reports

-- warnings that are reported are within their limit
pub warned_few : (warn : Bool) (O N : World) (o : Option (List Warning)) → AreWarned warn O N o → IsTrue warn → (ws : List Warning) → AreWarnings O N ws → length ws ≤ MAX_WARNINGS
warned_few true O N (Some vs) h w ws k = subst (λ (xs : List Warning). length xs ≤ MAX_WARNINGS) (warnings_are_one O N vs ws h.0 k) h.1
warned_few true O N None h w ws k = absurd h
warned_few false O N o h w ws k = absurd (let clash : false ≡ true = w in cc)

-- and are one list
warned_one : (warn : Bool) (O N : World) (p q : Option (List Warning)) → AreWarned warn O N p → AreWarned warn O N q → p ≡ q
warned_one true O N (Some vs) (Some ws) h k = ap (λ (xs : List Warning). Some xs) (warnings_are_one O N vs ws h.0 k.0)
warned_one true O N (Some vs) None h k = absurd k
warned_one true O N None q h k = absurd h
warned_one false O N None None h k = refl
warned_one false O N None (Some ws) h k = absurd k
warned_one false O N (Some vs) q h k = absurd h

-- what has a report is accepted
pub report_accepted : (files : List FileOf) (command : CommandOf) (r : RecordsOf files command) (report : ReportOf command) → IsReportOn files command r report → Accepts files command r
report_accepted files (CheckCommand check) r report h = record {
  fits = h.verdict.fits;
  few = λ w k. subst (λ (x : Verdict). count_of x ≤ MAX_FINDINGS) (verdict_is_one (old_side r) (new_side r) report.verdict w h.verdict.exact k) h.verdict.few;
  few_warnings = warned_few check.warn (old_side r) (new_side r) report.warnings h.warnings;
  few_dropped = dropped_few check.dropped (old_side r) (new_side r) report.dropped h.dropped;
  few_calls = calls_few check.calls (old_side r) (new_side r) report.calls h.calls;
}
report_accepted files (LinkCommand link) r list h = h.fits
report_accepted files (MakeCommand n) r v h = tt
report_accepted files HelpCommand r page h = tt
report_accepted files (ClientsCommand c) r report h =
    record { fits = h.answers.fits; few = explained_few c.used files c (side_before r) (side_after r) report.explanation h.explained }
report_accepted files (HistoryCommand c) r vs h = record {
  fits = h.fits;
  few = λ s is_step w k.
      let at = verdict_at (steps_of (row_of r.platform r.releases)) vs s h.exact is_step in
      subst (λ (x : Verdict). count_of x ≤ MAX_FINDINGS) (verdict_is_one s.old s.new at.verdict w at.exact k) (All-contains (λ v. count_of v ≤ MAX_FINDINGS) vs at.verdict h.few at.is_in);
}

abbrev clients_report : List Answer → Option Explanation → ClientsReport
clients_report all o = record { answers = all; explanation = o }

-- and has one
pub one_report_of : (files : List FileOf) (command : CommandOf) (r s : RecordsOf files command) (a b : ReportOf command) → IsReportOn files command r a → IsReportOn files command s b → a ≡ b
one_report_of files (CheckCommand check) r s a b h k =
    ap (λ (v : Verdict). report_of v a.warnings a.signatures a.dropped a.calls)
    (verdict_is_one (old_side r) (new_side r) a.verdict b.verdict h.verdict.exact (same_check files check (λ O N. IsVerdict O N b.verdict) r s k.verdict.exact))
    ∙ ap (λ (ws : Option (List Warning)). report_of b.verdict ws a.signatures a.dropped a.calls)
    (warned_one check.warn (old_side r) (new_side r) a.warnings b.warnings h.warnings (same_check files check (λ O N. AreWarned check.warn O N b.warnings) r s k.warnings))
    ∙ ap (λ (ns : Option (List SigNote)). report_of b.verdict b.warnings ns a.dropped a.calls)
    (noted_one check.signatures (old_side r) (new_side r) a.signatures b.signatures h.signatures (same_check files check (λ O N. AreNoted check.signatures O N b.signatures) r s k.signatures))
    ∙ ap (λ (ds : Option (List Dropped)). report_of b.verdict b.warnings b.signatures ds a.calls)
    (dropped_one check.dropped (old_side r) (new_side r) a.dropped b.dropped h.dropped (same_check files check (λ O N. AreAskedDropped check.dropped O N b.dropped) r s k.dropped))
    ∙ ap (report_of b.verdict b.warnings b.signatures b.dropped)
    (calls_one check.calls (old_side r) (new_side r) a.calls b.calls h.calls (same_check files check (λ O N. AreAskedCalls check.calls O N b.calls) r s k.calls))
one_report_of files (LinkCommand link) r s a b h k = h.exact ∙ sym (same_link files link (λ W cs. b ≡ outcomes W cs) r s k.exact)
one_report_of files (ClientsCommand c) r s a b h k =
    ap (λ (all : List Answer). clients_report all a.explanation)
    (all_said files (side_before r) (side_after r) (client_trees 1 c.clients) a.answers b.answers h.answers.exact (same_clients_of files c (λ O N. AreSaid files O N (client_trees 1 c.clients) b.answers) r s k.answers.exact))
    ∙ ap (clients_report b.answers)
    (explained_one c.used files c (side_before r) (side_after r) a.explanation b.explanation h.explained (same_clients_of files c (λ O N. IsExplained c.used files c O N b.explanation) r s k.explained))
one_report_of files (MakeCommand n) r s a b h k = verdict_is_one (old_made n) (new_made n) a b h k
one_report_of files HelpCommand r s a b h k = h ∙ sym k
one_report_of files (HistoryCommand c) r s a b h k =
    one_row (steps_of (row_of r.platform r.releases)) a b h.exact (same_history files c (λ p q. AreVerdicts (steps_of (row_of p q)) b) r s k.exact)
