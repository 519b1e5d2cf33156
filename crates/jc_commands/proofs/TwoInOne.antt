-- What clients of two releases are judged over.
use Rattle.std.proofs.Common.{◌≡◌, ◌≤◌, ◌+◌, ◌++◌, ℕ, List, [], ◌∷◌, map, length, sym, ap, subst, Option, arith}
use Rattle.std.specs.List.{All}
use Rattle.std.proofs.lemmas.List.{length-append}
use Rattle.std.proofs.lemmas.List.Elements.{All-from_recursion}
use Rattle.jc_facts.specs.declared.class_facts.ClassFacts.{ClassFacts}
use Rattle.jc_facts.specs.Names.{Bytes}
use Rattle.jc_facts.specs.world.World.{OneModule, Several, side, modular_side, side_in}
use Rattle.jc_lemmas.proofs.Listed.{EachOf}
use Rattle.jc_losses.specs.Ground.{IsGround}
use Rattle.jc_losses.specs.declared.grounds.Ground.{Ground}
use Rattle.jc_losses.specs.declared.grounds.Ground.TheVariants as grounds
use Rattle.jc_losses.proofs.InOneList.{in_one_list, judged_itself}
use Rattle.jc_commands.specs.steps.Clients.{IsGroundFor}
use Rattle.jc_releases.specs.Command.{client_trees}
use Rattle.jc_trees.specs.ClassLists.{IsRecordList}
use Rattle.jc_trees.specs.Tree.{TreeOf, clients_at}
use Rattle.jc_trees.specs.TreeView.{tree_of}
use Rattle.jc_trees.specs.declared.tree.Tree.{Tree}
use Rattle.jc_trees.specs.declared.tree.TreeKind.TheVariants as kinds
use Rattle.jc_trees.specs.declared.tree.TreeName.TheVariants as names

pub together_for : (P R : List ClassFacts) (g : Ground) → g ≡ grounds.Together (P ++ R) → IsGround g → IsRecordList P → IsRecordList R → IsGroundFor (side_in OneModule P R) g
together_for P R g is h p r = subst (IsGroundFor (side P R)) (sym is) (record { trees = record { lists = subst IsGround is h; few = few }; alike = in_one_list P R })
  where
    few : length (P ++ R) ≤ 80000
    few = omega (arith, length-append P R, p.few, r.few)

pub apart_for : (exports : Option (List Bytes)) (P R : List ClassFacts) (g : Ground) → g ≡ grounds.Apart P R exports → IsGround g → IsRecordList P → IsRecordList R → IsGroundFor (side_in (Several exports) P R) g
apart_for exports P R g is h p r =
    subst (IsGroundFor (modular_side exports P R)) (sym is) (record { trees = record { lists = subst IsGround is h; few = few }; alike = judged_itself (modular_side exports P R) })
  where
    few : length P + length R ≤ 80000
    few = omega (arith, p.few, r.few)

-- ---- the trees of clients

clients_each : (n : ℕ) (roots : List Bytes) (wanted : List Tree) → map tree_of wanted ≡ client_trees n roots → EachOf (λ (t : Tree). t.kind ≡ kinds.Clients) wanted
clients_each n roots [] h = tt
clients_each n [] (t ∷ ts) h = absurd (cc)
clients_each n (root ∷ roots) (t ∷ ts) h =
    let first : tree_of t ≡ clients_at (names.NthClient n) root = cc in
    let others : map tree_of ts ≡ client_trees (n + 1) roots = cc in
    (ap (λ (x : TreeOf). x.kind) first, clients_each (n + 1) roots ts others)

pub all_clients : (n : ℕ) (roots : List Bytes) (wanted : List Tree) → map tree_of wanted ≡ client_trees n roots → All (λ (t : Tree). t.kind ≡ kinds.Clients) wanted
all_clients n roots wanted h = All-from_recursion (λ (t : Tree). t.kind ≡ kinds.Clients) wanted (clients_each n roots wanted h)
