-- The generated releases go with their platform, have short names, and one verdict.
--     made_lists      their lists as those of trees that are read
--     only_memory      lack of memory alone stands in the way of their tables
--     made_verdict      they have a verdict
--     made_reported      a report that tells of it is the command's
use Rattle.std.proofs.Common.{◌≡◌, ◌≤◌, ℕ, ◌%◌, ◌==◌, Bool, true, false, List, [], ◌∷◌, map, length, None, refl, sym, inl, inr, arith, if◌then◌else◌}
use Rattle.std.specs.List.{All, range_with_len}
use Rattle.std.proofs.lemmas.List.Elements.{All-map, All-from_recursion, recursion_from_All}
use Rattle.jc_base.specs.States.{TreesState}
use Rattle.jc_facts.specs.file.ShortNames.{IsShortMember, HasShortNames}
use Rattle.jc_facts.specs.declared.class_facts.ClassFacts.{ClassFacts}
use Rattle.jc_facts.specs.declared.class_facts.Member.{Member}
use Rattle.jc_facts.specs.declared.generate.Made.{Made}
use Rattle.jc_facts.specs.declared.verdict.Verdict.{Verdict}
use Rattle.jc_facts.specs.Generated.{four_digits, class_number, public_init, field_f, method_m, method_p, numbered_class, old_class, new_flags, new_methods, new_class, object_class, made, AreReleases, IsReleaseOver}
use Rattle.jc_facts.specs.Names.{Bytes}
use Rattle.jc_facts.specs.Options.{or_else}
use Rattle.jc_facts.specs.world.World.{class_named}
use Rattle.jc_facts.proofs.Generated.{releases, nothing_least}
use Rattle.jc_promises.proofs.Pairs.{plain_pair}
use Rattle.jc_lemmas.proofs.Listed.{EachOf, each_of}
use Rattle.jc_index.proofs.Roots.{has_root}
use Rattle.jc_index.specs.Root.{faulty_part, fault_of_root}
use Rattle.jc_index.specs.Sides.{overlap_of}
use Rattle.jc_commands.specs.Check.{mismatch_of}
use Rattle.jc_words.specs.Command.{MakeCommand}
use Rattle.jc_commands.specs.Make.{IsSize, old_made, new_made, IsVerdictOnMade}
use Rattle.jc_commands.specs.declared.report.Report.{Report}
use Rattle.jc_releases.specs.declared.stop.Stop.{Stop}
use Rattle.jc_releases.specs.declared.stop.Stop.TheVariants as stops
use Rattle.jc_commands.specs.steps.Check.{StopsMatching}
use Rattle.jc_trees.specs.ClassLists.{IsRecordList}
use Rattle.jc_commands.specs.ReportValue.{TellsOf, IsBare, IsReportOf}
use Rattle.jc_commands.proofs.Bodies.{bare_dir, bare_puts, bare_can}
use Rattle.jc_commands.proofs.Causes.{releases_fit}
use Rattle.jc_commands.proofs.Records.{none_some}
use Rattle.jc_commands.proofs.SomeVerdict.{some_verdict}

are_releases : (n : ℕ) → n ≤ 4096 → AreReleases n (made n)
unfolding made
are_releases n few = releases n (object_class ∷ []) (map old_class (range_with_len 0 n)) (map new_class (range_with_len 0 n)) few refl refl refl

-- ---- short names

short_name : (name : Bytes) (n : ℕ) → length name ≡ n → n ≤ 4090 → length name ≤ 4090
short_name name n e h = omega (arith, e, h)

short_member : (m : Member) (a b : ℕ) → length m.name ≡ a → length m.descriptor ≡ b → a ≤ 65535 → b ≤ 65535 → IsShortMember m
short_member m a b d e f g = (omega (arith, d, f), omega (arith, e, g))

short_class_name : (i : ℕ) → length (class_number i) ≤ 4090
unfolding four_digits
short_class_name i = short_name (class_number i) 7 refl (omega arith)

short_init : IsShortMember public_init
short_init = short_member public_init 6 3 refl refl (omega arith) (omega arith)

short_field : (i flags : ℕ) → IsShortMember (field_f i flags)
unfolding four_digits
short_field i flags = short_member (field_f i flags) 5 1 refl refl (omega arith) (omega arith)

short_m : (i flags : ℕ) → IsShortMember (method_m i flags)
unfolding four_digits
short_m i flags = short_member (method_m i flags) 5 3 refl refl (omega arith) (omega arith)

short_p : (i flags : ℕ) → IsShortMember (method_p i flags)
unfolding four_digits
short_p i flags = short_member (method_p i flags) 5 3 refl refl (omega arith) (omega arith)

short_class : (i : ℕ) (fields methods : List Member) → EachOf IsShortMember fields → EachOf IsShortMember methods → HasShortNames (numbered_class i fields methods)
unfolding numbered_class
short_class i fields methods f m = record { name = short_class_name i; fields = All-from_recursion IsShortMember fields f; methods = All-from_recursion IsShortMember methods m }

short_old : (i : ℕ) → HasShortNames (old_class i)
unfolding old_class
short_old i = short_class i _ _ (short_field i 0x0009, tt) (short_init, (short_m i 0x0001, tt))

short_new_methods : (i : ℕ) → EachOf IsShortMember (new_methods i)
short_new_methods i = by (i % 8 == 3) (i % 8 == 5) (i % 8 == 7)
  where
    by : (gone added final : Bool)
        → EachOf IsShortMember (if gone then [] else if added then method_m i 0x0001 ∷ method_p i 0x0002 ∷ [] else if final then method_m i 0x0011 ∷ [] else method_m i 0x0001 ∷ [])
    by true added final = tt
    by false true final = (short_m i 0x0001, (short_p i 0x0002, tt))
    by false false true = (short_m i 0x0011, tt)
    by false false false = (short_m i 0x0001, tt)

short_new : (i : ℕ) → HasShortNames (new_class i)
unfolding new_class
short_new i = short_class i _ _ (short_field i (new_flags i), tt) (short_init, short_new_methods i)

short_object : HasShortNames object_class
short_object = record { name = short_name object_class.name 16 refl (omega arith); fields = All-from_recursion IsShortMember [] tt; methods = All-from_recursion IsShortMember (public_init ∷ []) (short_init, tt) }

short_list : (f : ℕ → ClassFacts) → ((i : ℕ) → HasShortNames (f i)) → (n : ℕ) → All HasShortNames (map f (range_with_len 0 n))
short_list f h n = All-map HasShortNames f (range_with_len 0 n) (All-from_recursion _ _ (each_of (λ (i : ℕ). HasShortNames (f i)) h (range_with_len 0 n)))

-- ---- the lists

pub record AreLists (m : Made) : Type 0 where
  pub platform : IsRecordList m.platform
  pub old : IsRecordList m.old
  pub new : IsRecordList m.new

record AreShort (m : Made) : Type 0 where
  platform : All HasShortNames m.platform
  old : All HasShortNames m.old
  new : All HasShortNames m.new

are_short : (n : ℕ) → AreShort (made n)
unfolding made
are_short n = record {
  platform = All-from_recursion HasShortNames (object_class ∷ []) (short_object, tt);
  old = short_list old_class short_old n;
  new = short_list new_class short_new n;
}

few_files : (k n : ℕ) → k ≡ n → n ≤ 4096 → k ≤ 40000
few_files k n e h = omega (arith, e, h)

pub made_lists : (n : ℕ) → n ≤ 4096 → AreLists (made n)
made_lists n few =
    let r = are_releases n few in
    let s = are_short n in
    record {
      platform = record { valid = r.platform.valid; short = s.platform; differ = r.platform.differ; few = few_files _ 1 r.one (omega arith) };
      old = record { valid = r.old.valid; short = s.old; differ = r.old.differ; few = few_files _ n r.old_length few };
      new = record { valid = r.new.valid; short = s.new; differ = r.new.differ; few = few_files _ n r.new_length few };
    }

-- ---- nothing refuses them

root_fits : (n : ℕ) → fault_of_root (made n).platform ≡ None
unfolding made class_named faulty_part fault_of_root or_else
root_fits n = refl

apart : (platform release : List ClassFacts) → IsReleaseOver platform release → overlap_of platform release ≡ None
apart platform release r = nothing_least platform release (recursion_from_All (λ (c : ClassFacts). class_named platform c.name ≡ None) release r.apart)

made_fits : (n : ℕ) → n ≤ 4096 → mismatch_of (old_made n) (new_made n) ≡ None
made_fits n few =
    let r = are_releases n few in
    releases_fit (old_made n) (new_made n) (root_fits n) (apart (made n).platform (made n).old r.old) (apart (made n).platform (made n).new r.new)

pub only_memory : (n : ℕ) → n ≤ 4096 → (stop : Stop) → StopsMatching (old_made n) (new_made n) stop → stop ≡ stops.Memory
only_memory n few stop (inl h) = absurd (none_some (mismatch_of (old_made n) (new_made n)) stop (made_fits n few) h)
only_memory n few stop (inr h) = h

-- ---- the verdict

pub made_verdict : (n : ℕ) → IsSize n → (v : Verdict) × IsVerdictOnMade n v
made_verdict n size =
    let r = are_releases n size.few in
    some_verdict (old_made n) (new_made n) (plain_pair (made n).platform (made n).old (made n).new (has_root (made n).platform (sym (root_fits n))) r.platform.valid r.old.valid r.new.valid)

pub made_reported : (n : ℕ) → IsSize n → (v : Verdict) (report : Report) → IsVerdictOnMade n v → IsBare report.body → TellsOf (MakeCommand n) v report → (trees : TreesState) → IsReportOf (MakeCommand n) trees report
made_reported n size v report exact none tells trees = record {
  of = v;
  tells = tells;
  dir_is = bare_dir report.body none;
  can_show = bare_can report.body none;
  is_report = λ files. (size, exact, bare_puts report.body none);
  upholds = tt;
}
